-- The host is at rest again behind the move.
use Rattle.std.proofs.Common.{◌∙◌, ap, subst, sym}
use Rattle.tip_run.proofs.Begun.{ended_back}
use Rattle.tip_run.proofs.Made.{wants_memory}
use Rattle.tip_rows.specs.Logs.{counted}
use Rattle.tip_run.specs.Halts.{HandsBack, IsWhyNotMade, is_refusal}
use Rattle.tip_run.specs.Running.{Running}
use Rattle.tip_run.specs.Runs.{is_restart}
use Rattle.tip_run.proofs.MoveKinds.{kind}
use Rattle.tip_run.proofs.Resting.{made_rests}
use Rattle.tip_run.specs.Moves.{at_work}
use Rattle.tip_run.proofs.running.Running.make.Goals as goal

pub returns-then-is_err-clause-why : goal.returns-then-is_err-clause-why
returns-then-is_err-clause-why g c = subst (IsWhyNotMade g.S.RowLog.keeping c.args.self c.args.next c.at.result.store) (sym c.at.ensures.fault) (wants_memory g.S.RowLog.keeping c.args.self c.args.next c.at.result.store)

pub returns-then-is_err-clause-back : goal.returns-then-is_err-clause-back
returns-then-is_err-clause-back g c =
    let kept = g.S.RowLog.keeping in
    let host = c.self.inside.host in
    subst (λ (self : Running g.row.S.Denot). HandsBack kept self.host (is_restart c.args.next) c.at.result.store c.at.result.fault) c.self.view_is
    (ended_back kept host (is_restart c.args.next) c.at.result.store c.at.result.fault (subst kept.is_true c.at.ensures.store) (λ log. subst (λ s. kept.stands s log) (sym c.at.ensures.store))
    (ap kept.faults c.at.ensures.store ∙ ap (λ why. counted (is_refusal why) (kept.faults host.stored.store)) (sym c.at.ensures.fault)))

pub invariant_of-result : goal.invariant_of-result
invariant_of-result g c =
    let kept = g.S.RowLog.keeping in
    let old = at_work c.self.inside.host c.self.inside.pass.noted c.self.inside.earlier.items in
    let new = at_work c.in-Ok.host c.made.new.pass.noted c.made.new.earlier.items in
    made_rests kept old new c.args.next c.self.invariant (kind kept old new c.args.next c.in-Ok.one c.in-Ok.ensures.made)
