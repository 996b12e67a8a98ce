-- The moves that were made are a run.
use Rattle.std.proofs.Common.{◌≡◌, ◌++◌, ◌∷◌, ◌∙◌, List, ap, arith, length, subst, sym, take}
use Rattle.std.specs.Prelude.{slice_get}
use Rattle.std.proofs.lemmas.Grind.{common_steps}
use Rattle.tip_stored.proofs.TakingUp.{get-behind}
use Rattle.tip_run.proofs.Made.{as_many, has_run, made_more}
use Rattle.tip_run.specs.Moves.{AreMade, Move}
use Rattle.tip_run.proofs.running.Running.run.Goals as goal

pub returns-in-Err-clause-halted : goal.returns-in-Err-clause-halted
returns-in-Err-clause-halted g c =
    let kept = g.S.RowLog.keeping in
    let old = c.args.self in
    let between = c.loop-next.running in
    let yielded = c.loop-next.yielded in
    let counted : length c.make.new.shown.items ≡ length yielded = ap (λ l. length l) c.in-Err.ensures.same ∙ as_many kept old between yielded c.loop-next.shown.items c.loop-next.invariant.made in
    let parts : yielded ++ c.in-Some.next ∷ c.next.new.self.rest.items ≡ c.args.moves.items = grind (arith, common_steps) in
    let first : take (length c.make.new.shown.items) c.args.moves.items ≡ yielded = grind (arith, common_steps) in
    record {
      between = between;
      run = rw (first, c.in-Err.ensures.same) (has_run kept old between yielded c.loop-next.shown.items c.loop-next.invariant.rest c.loop-next.invariant.made);
      noted = c.in-Err.ensures.pass;
      next = c.in-Some.next;
      is_next = ap (λ (m : List Move). slice_get m (length c.make.new.shown.items)) (sym parts) ∙ ap (slice_get (yielded ++ c.in-Some.next ∷ c.next.new.self.rest.items)) counted ∙ get-behind yielded c.next.new.self.rest.items c.in-Some.next;
      why = c.in-Err.ensures.why;
      back = c.in-Err.ensures.back;
    }

pub loop-next-preserved : goal.loop-next-preserved
loop-next-preserved g c = record {
  whole = grind (arith, common_steps);
  made = rw (c.in-Ok.ensures.made.1) (made_more g.S.RowLog.keeping c.args.self c.loop-next.running c.in-Ok.after c.loop-next.yielded c.loop-next.shown.items c.in-Some.next c.in-Ok.ensures.made.0 c.loop-next.invariant.made c.in-Ok.ensures.made.2);
  rest = c.loop-next.invariant.rest;
}

pub returns-clause-ran : goal.returns-clause-ran
returns-clause-ran g c =
    let all : c.loop-next.yielded ≡ c.args.moves.items = grind (arith, common_steps) in
    has_run g.S.RowLog.keeping c.args.self c.loop-next.running c.args.moves.items c.loop-next.shown.items c.loop-next.invariant.rest
    (subst (λ (m : List Move). AreMade g.S.RowLog.keeping c.args.self m c.loop-next.shown.items c.loop-next.running) all c.loop-next.invariant.made)
