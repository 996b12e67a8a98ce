use Rattle.std.proofs.Common.{ap, refl}
use Rattle.tip_machine.specs.Transactions.{noting}
use Rattle.tip_machine.specs.Types.{seen}
use Rattle.tip_txn.specs.Parts.{named}
use Rattle.tip_rules.proofs.Works.{altered, stays_at}
use Rattle.tip_rules.proofs.work.Work+Connection+Transaction+Making.name_part.Goals as goal

pub returns-clause-does : goal.returns-clause-does
returns-clause-does g c =
    let item = c.item_mut-transaction.result.now in
    altered c.args.self.now c.args.key (noting c.args.part (named c.args.id)) c.args.place item (record item { txn = c.give_name.new.txn }) c.requires c.item_mut-transaction.ensures.value (ap (λ txn. seen (record item { txn = txn })) c.give_name.ensures)

pub returns-clause-stands : goal.returns-clause-stands
returns-clause-stands g c =
    let item = c.item_mut-transaction.result.now in
    stays_at c.args.self.now c.args.key c.args.place item (record item { txn = c.give_name.new.txn }) c.requires c.item_mut-transaction.ensures.value refl
