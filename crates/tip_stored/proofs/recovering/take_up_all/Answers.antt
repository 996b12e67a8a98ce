use Rattle.std.proofs.Common.{◌≡◌, ◌++◌, ◌∷◌, ◌∙◌, ◌≤◌, ℕ, List, Some, ap, arith, length, subst, sym, inl, inr}
use Rattle.std.specs.Prelude.{slice_get}
use Rattle.std.proofs.lemmas.Grind.{common_steps}
use Rattle.std.proofs.lemmas.Bool.{cases_eq}
use Rattle.tip_recovery.specs.Adopting.{Recovery}
use Rattle.tip_core.specs.Hosted.{realm}
use Rattle.tip_stored.specs.Recovering.{recovered}
use Rattle.tip_stored.proofs.TakingUp.{all_anew, all_taken, get-behind, takes_up}
use Rattle.tip_stored.proofs.recovering.take_up_all.Goals as goal

pub loop-recovery-preserved : goal.loop-recovery-preserved
loop-recovery-preserved g c =
    let whole : c.loop-recovery.yielded ++ c.in-Some.recovery ∷ c.next.new.self.rest.items ≡ c.args.realms.items = ap (λ (realms : List Recovery). c.loop-recovery.yielded ++ realms) (sym c.in-Some.ensures.steps.0) ∙ c.loop-recovery.invariant.whole in
    let here : slice_get c.args.realms.items c.loop-recovery.place ≡ Some c.in-Some.recovery = rw (← whole, c.loop-recovery.invariant.counted) (get-behind c.loop-recovery.yielded c.next.new.self.rest.items c.in-Some.recovery) in record {
      whole = grind (arith, common_steps);
      counted = grind (arith, common_steps);
      done = λ at less. elim (cases_eq at c.loop-recovery.place) [
        | inl same ↦ subst (λ (p : ℕ). realm c.take_up.new.self p ≡ recovered (slice_get c.args.realms.items p) (realm c.args.core.now p)) (sym same) (takes_up c.args.core.now c.loop-recovery.core c.in-Some.recovery c.loop-recovery.place c.args.realms.items c.requires.begun here (c.loop-recovery.invariant.to_come c.loop-recovery.place (omega arith)) c.take_up.new.self c.take_up.ensures.own)
        | inr differ ↦ c.take_up.ensures.others at differ ∙ c.loop-recovery.invariant.done at (omega (arith, differ))
      ];
      to_come = λ at more. c.take_up.ensures.others at (λ same. omega (arith, same)) ∙ c.loop-recovery.invariant.to_come at (omega arith);
      names = c.take_up.ensures.named;
      room = λ at more. c.take_up.ensures.room_of_others at (λ same. omega (arith, same)) ∙ c.loop-recovery.invariant.room at (omega arith);
    }

-- there is room for its own rows
pub take_up-requires-clause-room : goal.take_up-requires-clause-room
take_up-requires-clause-room g c =
    let whole : c.loop-recovery.yielded ++ c.in-Some.recovery ∷ c.next.new.self.rest.items ≡ c.args.realms.items = ap (λ (realms : List Recovery). c.loop-recovery.yielded ++ realms) (sym c.in-Some.ensures.steps.0) ∙ c.loop-recovery.invariant.whole in
    let here : slice_get c.args.realms.items c.loop-recovery.place ≡ Some c.in-Some.recovery = rw (← whole, c.loop-recovery.invariant.counted) (get-behind c.loop-recovery.yielded c.next.new.self.rest.items c.in-Some.recovery) in
    subst (λ n. length c.in-Some.recovery.rows ≤ n) (sym (c.loop-recovery.invariant.room c.loop-recovery.place (omega arith))) (c.requires.begun.room c.loop-recovery.place c.in-Some.recovery here)

pub returns-clause-realms : goal.returns-clause-realms
returns-clause-realms g c =
    let all : length c.args.realms.items ≡ c.loop-recovery.place = grind (arith, common_steps) in
    all_taken c.args.core.now c.loop-recovery.core c.args.realms.items c.requires.begun (λ at less. c.loop-recovery.invariant.done at (omega arith)) (λ at more. c.loop-recovery.invariant.to_come at (omega arith))

pub returns-clause-anew : goal.returns-clause-anew
returns-clause-anew g c =
    let all : length c.args.realms.items ≡ c.loop-recovery.place = grind (arith, common_steps) in
    all_anew c.args.core.now c.loop-recovery.core c.args.realms.items c.requires.begun (all_taken c.args.core.now c.loop-recovery.core c.args.realms.items c.requires.begun (λ at less. c.loop-recovery.invariant.done at (omega arith)) (λ at more. c.loop-recovery.invariant.to_come at (omega arith)))
