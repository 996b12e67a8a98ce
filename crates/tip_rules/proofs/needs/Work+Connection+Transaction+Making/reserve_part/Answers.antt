use Rattle.std.proofs.Common.{ap, sym, ◌∙◌}
use Rattle.std.specs.Option.{option_copied}
use Rattle.std.proofs.lemmas.Result.{on_ok_weaker}
use Rattle.tip_table.specs.Kept.{of, with_item_at}
use Rattle.tip_table.proofs.Standing.{free-written}
use Rattle.tip_txn.specs.Transactions.{Transaction}
use Rattle.tip_rules.specs.Works.{work_of}
use Rattle.tip_rules.proofs.Needing.{grown_part, grown_room, grown_seen}
use Rattle.tip_rules.proofs.needs.Work+Connection+Transaction+Making.reserve_part.Goals as goal

pub returns-clause-part : goal.returns-clause-part
returns-clause-part g c =
    let old = c.args.self.now in
    let item = c.item_mut-transaction.result.now in
    let value = record item { txn = c.reserve.new.self } in
    let same = ap (λ (txn : Transaction). record item { txn = txn }) c.reserve.ensures.same in
    on_ok_weaker c.reserve.result (λ room. grown_part c.args.event.now (work_of old).state.head.name c.in-Some.id.now (of (with_item_at old.transactions c.in-Some-identified.place value) old.realm) (sym c.joined_by.ensures ∙ ap option_copied c.in-Some.is)
    (grown_room old c.in-Some-identified.place c.in-Some.id.now item value c.in-Some-identified.ensures.named c.item_mut-transaction.ensures.value same room)) c.reserve.ensures.ok

pub returns-clause-transactions : goal.returns-clause-transactions
returns-clause-transactions g c =
    let item = c.item_mut-transaction.result.now in
    grown_seen c.args.self.now c.in-Some-identified.place c.in-Some.id.now item (record item { txn = c.reserve.new.self }) c.in-Some-identified.ensures.named c.item_mut-transaction.ensures.value (ap (λ (txn : Transaction). record item { txn = txn }) c.reserve.ensures.same)

pub returns-clause-free : goal.returns-clause-free
returns-clause-free g c = free-written c.args.self.now.transactions c.in-Some-identified.place (record c.item_mut-transaction.result.now { txn = c.reserve.new.self })
