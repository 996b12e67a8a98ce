use Rattle.std.proofs.Common.{◌≡◌, None, Some, subst, sym, ◌∙◌}
use Rattle.tip_table.specs.Kept.{with_item_at}
use Rattle.tip_table.proofs.Standing.{found}
use Rattle.tip_machine.specs.States.{identified_by}
use Rattle.tip_machine.specs.Types.{seen}
use Rattle.tip_machine.specs.declared.connection.Role.TheVariants.{Subordinate}
use Rattle.tip_rules.specs.Growing.{joined_as, joining_part}
use Rattle.tip_outlook.specs.Searches.{is_named}
use Rattle.tip_rules.specs.Works.{Does, work_of}
use Rattle.tip_rules.proofs.Joining.{joins_as, joins_not, may_never, may_there, not_joins, part_joins}
use Rattle.tip_rules.proofs.pulling.Work+Connection+Transaction+Making.join_part.Goals as goal

pub enlist-requires : goal.enlist-requires
enlist-requires g c = c.requires.part c.item_mut-transaction.result.now (found c.args.self.now.transactions c.args.self.now.realm (is_named (work_of c.args.self.now).state.head.name c.args.superior.now) c.in_ok-key.place c.in_ok-key.ensures.named ∙ c.item_mut-transaction.ensures.value)

pub returns-in-Ok-clause-role : goal.returns-in-Ok-clause-role
returns-in-Ok-clause-role g c =
    let sought = identified_by c.args.superior.now (work_of c.args.self.now).state in
    let item = c.item_mut-transaction.result.now in
    let may = may_there (seen item) c.in_ok-address.address c.args.subordinate c.in-Ok.ensures.ok.0 c.in-Ok.ensures.ok.1 in
    subst (λ peer. Some (Subordinate c.in_ok-key.key c.in-Ok.part) ≡ joined_as sought peer c.args.subordinate) (sym c.in_ok-address.was)
    (joins_as c.args.self.now c.in_ok-key.key c.in_ok-key.place item c.in_ok-key.ensures.some c.item_mut-transaction.ensures.value c.in_ok-address.address c.args.subordinate sought c.in_ok-key.ensures.same c.in-Ok.part may c.in-Ok.ensures.part)

pub returns-in-Ok-clause-does : goal.returns-in-Ok-clause-does
returns-in-Ok-clause-does g c =
    let sought = identified_by c.args.superior.now (work_of c.args.self.now).state in
    let item = c.item_mut-transaction.result.now in
    let may = may_there (seen item) c.in_ok-address.address c.args.subordinate c.in-Ok.ensures.ok.0 c.in-Ok.ensures.ok.1 in
    let after = record c.args.self.now { transactions = with_item_at c.args.self.now.transactions c.in_ok-key.place (record item { txn = c.enlist.new.self }) } in
    subst (λ peer. Does c.args.self.now after (joining_part sought peer c.args.subordinate (work_of c.args.self.now))) (sym c.in_ok-address.was)
    (part_joins c.args.self.now c.in_ok-key.key c.in_ok-key.place item c.in_ok-key.ensures.some c.item_mut-transaction.ensures.value c.in_ok-address.address c.args.subordinate sought c.in_ok-key.ensures.same c.enlist.new.self may c.in-Ok.ensures.enlisted)

pub returns-in-Err-clause-role : goal.returns-in-Err-clause-role
returns-in-Err-clause-role g c =
    let sought = identified_by c.args.superior.now (work_of c.args.self.now).state in
    let item = c.item_mut-transaction.result.now in
    let may = may_never (seen item) c.in_ok-address.address c.args.subordinate c.in-Err.field-0 c.enlist.result c.in-Err.is c.enlist.ensures.not_active c.enlist.ensures.twice in
    subst (λ peer. None ≡ joined_as sought peer c.args.subordinate) (sym c.in_ok-address.was)
    (joins_not c.args.self.now c.in_ok-key.key c.in_ok-key.place item c.in_ok-key.ensures.some c.item_mut-transaction.ensures.value c.in_ok-address.address c.args.subordinate sought c.in_ok-key.ensures.same may)

pub returns-in-Err-clause-does : goal.returns-in-Err-clause-does
returns-in-Err-clause-does g c =
    let sought = identified_by c.args.superior.now (work_of c.args.self.now).state in
    let item = c.item_mut-transaction.result.now in
    let may = may_never (seen item) c.in_ok-address.address c.args.subordinate c.in-Err.field-0 c.enlist.result c.in-Err.is c.enlist.ensures.not_active c.enlist.ensures.twice in
    let after = record c.args.self.now { transactions = with_item_at c.args.self.now.transactions c.in_ok-key.place (record item { txn = c.enlist.new.self }) } in
    subst (λ peer. Does c.args.self.now after (joining_part sought peer c.args.subordinate (work_of c.args.self.now))) (sym c.in_ok-address.was)
    (not_joins c.args.self.now c.in_ok-key.key c.in_ok-key.place item c.in_ok-key.ensures.some c.item_mut-transaction.ensures.value c.in_ok-address.address c.args.subordinate sought c.in_ok-key.ensures.same c.enlist.new.self may c.in-Err.ensures.err)
