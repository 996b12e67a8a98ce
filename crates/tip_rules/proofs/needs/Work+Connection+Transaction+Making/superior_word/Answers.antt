use Rattle.std.proofs.Common.{◌≡◌, refl, subst}
use Rattle.std.specs.Result.{IfOk}
use Rattle.tip_machine.specs.Types.{seen}
use Rattle.tip_rules.proofs.Purposes.{superior_there}
use Rattle.tip_rules.specs.Pursuing.{superior_in}
use Rattle.tip_rules.proofs.needs.Work+Connection+Transaction+Making.superior_word.Goals as goal

pub returns-in-Some : goal.returns-in-Some
returns-in-Some g c =
    subst (λ word. IfOk c.superior_in.result (λ said. said ≡ word))
    (superior_there c.args.self.now c.args.id.now _ (seen c.at.result.now) c.in-Some.ensures.same c.at.ensures.found (superior_in c.at.result.now.origin) refl)
    c.superior_in.ensures
