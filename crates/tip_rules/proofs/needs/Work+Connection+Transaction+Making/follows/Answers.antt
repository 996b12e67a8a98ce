use Rattle.std.proofs.Common.{sym, ◌∙◌}
use Rattle.std.proofs.lemmas.Result.{IfOk-weaker}
use Rattle.tip_rules.proofs.Foreseeing.{wants_here}
use Rattle.tip_rules.specs.Works.{work_of}
use Rattle.tip_rules.proofs.needs.Work+Connection+Transaction+Making.follows.Goals as goal

pub returns-then-is_open-clause-change : goal.returns-then-is_open-clause-change
returns-then-is_open-clause-change g c = IfOk-weaker c.foresee.result _ _
    (λ next meets. wants_here (work_of c.args.self.now).state c.args.event.now next (sym c.is_open.ensures ∙ c.if-is_open.true) meets) c.foresee.ensures

pub returns-then-is_open-clause-endings : goal.returns-then-is_open-clause-endings
returns-then-is_open-clause-endings g c = IfOk-weaker c.foresee.result _ _ (λ next meets is. meets.endings) c.foresee.ensures
