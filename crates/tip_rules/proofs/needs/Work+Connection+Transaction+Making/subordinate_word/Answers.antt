use Rattle.std.proofs.Common.{◌≡◌, subst}
use Rattle.std.specs.Result.{IfOk}
use Rattle.tip_machine.specs.Types.{seen}
use Rattle.tip_rules.proofs.Aims.{subordinate_there}
use Rattle.tip_rules.proofs.needs.Work+Connection+Transaction+Making.subordinate_word.Goals as goal

pub returns-in-Some : goal.returns-in-Some
returns-in-Some g c =
    subst (λ word. IfOk c.subordinate_in.result (λ said. said ≡ word))
    (subordinate_there c.args.self.now c.args.id.now c.args.number _ (seen c.at.result.now) c.in-Some.ensures.same c.at.ensures.found)
    c.subordinate_in.ensures
