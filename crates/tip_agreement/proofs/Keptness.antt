-- WHAT IS COMMITTED IS KEPT, until each branch has done what it was told, and each subordinate has acknowledged.
use Rattle.std.proofs.Common.{◌≡◌, Bool, true, false, ℕ, List, [], ◌∷◌, ◌++◌, cond, refl, ap, subst, sym, arith, ◌∙◌, inl, inr}
use Rattle.std.specs.Prelude.{◌||◌, ◌==◌, filter, flat_map, is_none, nat_lt, not}
use Rattle.std.specs.List.{list_any}
use Rattle.std.proofs.lemmas.Bool.{and_from, and_parts, or_cases, or_from, or_left, or_right}
use Rattle.std.proofs.lemmas.Bool.Decides.{nat_tests}
use Rattle.std.proofs.lemmas.List.Folds.{list_any-append}
use Rattle.tip_branch.specs.Notes.{PartyNotes}
use Rattle.tip_branch.specs.declared.branch.Badge.{Badge}
use Rattle.tip_rows.specs.Keys.{Key}
use Rattle.tip_machine.specs.Agreement.{is_denied, is_kept, of_this_start, removes, row_in, was_committed}
use Rattle.tip_machine.specs.Agreement.Traces.{Moment, at_each_behind, shown_in, traced}
use Rattle.tip_machine.specs.Honest.{brings_no_party, can_start, is_honest, is_run}
use Rattle.tip_machine.specs.Invariants.{IsSound}
use Rattle.tip_machine.specs.Moves.{Move, World, drops_here, gone_for, lost_from, moved, picked, restarted_from, risen, stepped}
use Rattle.tip_machine.specs.Outputs.{Output, drops_of}
use Rattle.tip_machine.specs.Returns.{Back, event_of}
use Rattle.tip_machine.specs.Starting.{IsStart, are_adopted}
use Rattle.tip_machine.specs.States.{State}
use Rattle.tip_machine.specs.Types.{Event}
use Rattle.tip_machine.specs.declared.event.Outcome.{Outcome}
use Rattle.tip_machine.specs.declared.event.Outcome.TheVariants.{NoChange, Refused, Stored}
use Rattle.tip_machine.proofs.Stepping.{step-epoch, step-named}
use Rattle.tip_agreement.proofs.Declared.{name_moved}
use Rattle.tip_agreement.proofs.Kept.{moved_sound}
use Rattle.tip_agreement.proofs.Restarts.{start_sound}
use Rattle.tip_agreement.proofs.Rows.{to_says}
use Rattle.tip_agreement.proofs.Reopening.{restarted_cared, restarted_shown}
use Rattle.tip_agreement.proofs.Denying.{is_undenied, moved_undenied}
use Rattle.tip_agreement.proofs.Outcomes.{none_removed_dropped, none_removed_here, none_removed_lost}
use Rattle.tip_agreement.proofs.Picked.{in_picked}
use Rattle.tip_agreement.proofs.Walking.{In}
use Rattle.tip_agreement.proofs.Witnessed.{In_world, IsDone, Leaves, Witnessed, back_leaves, event_leaves, moment_of, none_is_done, witnessed_fewer, witnessed_more}

-- AFTER A MOVE: in this start all that was heard so far is shown; a start begins anew, with nothing heard
pub record Moves (world : World) (moments : List Moment) (moment : Moment) : Type 0 where
  pub done : (id : List ℕ) → IsDone world.state.head.name id (moments ++ moment ∷ []) moment
  pub witnessed : (later : List Moment) → (moment.after.state.head.epoch ≡ world.state.head.epoch → later ≡ moments ++ moment ∷ []) → In_world moment.after later

leaves_so : (world : World) (moments : List Moment) (moment : Moment) → moment.after.state.head.name ≡ world.state.head.name → moment.after.state.head.epoch ≡ world.state.head.epoch → Leaves world (moments ++ moment ∷ []) moment moment.after → Moves world moments moment
leaves_so world moments moment name epoch leaves = record {
  done = leaves.done;
  witnessed = λ later same. subst (λ n. Witnessed n moment.after.state.head.epoch later moment.after.state.transactions moment.after.errands moment.after.rows) (sym name) (subst (λ e. Witnessed world.state.head.name e later moment.after.state.transactions moment.after.errands moment.after.rows) (sym epoch) (subst (λ ms. Witnessed world.state.head.name world.state.head.epoch ms moment.after.state.transactions moment.after.errands moment.after.rows) (sym (same epoch)) leaves.witnessed));
}

-- nothing is removed
none_either : (realm id : List ℕ) (xs ys : List Output) → list_any (removes realm id) xs ≡ false → list_any (removes realm id) ys ≡ false → list_any (removes realm id) (xs ++ ys) ≡ false
none_either realm id xs ys first second = list_any-append (removes realm id) xs ys ∙ or_from _ _ first second

restart_moves : (world : World) → IsSound world → (moments : List Moment) (moment : Moment) (boxes : Key → List Badge) → can_start boxes world ≡ true → moment.after.state ≡ restarted_from boxes world → moment.after.rows ≡ world.rows → ((id : List ℕ) → list_any (removes world.state.head.name id) moment.shown ≡ false) → Moves world moments moment
restart_moves world sound moments moment boxes can state rows none = record {
  done = λ id. none_is_done world.state.head.name id (moments ++ moment ∷ []) moment (none id);
  witnessed = λ later same.
      let rising = (to_says world.state world.rows sound.stored).0 in
      let fit = (and_parts (nat_lt world.state.head.epoch _) (are_adopted boxes world.rows) can).1 in
      let head = risen world.state.head in
      subst (λ (s : State). Witnessed s.head.name s.head.epoch later s.transactions moment.after.errands moment.after.rows) (sym state)
      (subst (λ rs. Witnessed world.state.head.name head.epoch later (restarted_from boxes world).transactions moment.after.errands rs) (sym rows)
      (record { shown = restarted_shown world.state.head.name later head.epoch head boxes world.rows rising fit; cared = restarted_cared world.state.head.name later head.epoch head boxes world.rows rising fit moment.after.errands }));
}

module _ (world : World) (sound : IsSound world) (moments : List Moment) (was : In_world world moments) where
  -- where nothing changes but who is out
  stays_moves : (moment : Moment) → moment.after.state ≡ world.state → moment.after.rows ≡ world.rows → ((party : PartyNotes) → In party moment.after.errands → In party world.errands) → ((id : List ℕ) → list_any (removes world.state.head.name id) moment.shown ≡ false) → Moves world moments moment
  stays_moves moment state rows sub none = record {
    done = λ id. none_is_done world.state.head.name id (moments ++ moment ∷ []) moment (none id);
    witnessed = λ later same.
        subst (λ ms. In_world moment.after ms) (sym (same (ap (λ (s : State). s.head.epoch) state)))
        (subst (λ (s : State). Witnessed s.head.name s.head.epoch (moments ++ moment ∷ []) s.transactions moment.after.errands moment.after.rows) (sym state)
        (subst (λ rs. Witnessed world.state.head.name world.state.head.epoch (moments ++ moment ∷ []) world.state.transactions moment.after.errands rs) (sym rows)
        (witnessed_fewer world.state.head.name world.state.head.epoch (moments ++ moment ∷ []) world.state.transactions world.errands moment.after.errands world.rows sub (witnessed_more world.state.head.name world.state.head.epoch moments (moment ∷ []) world.state.transactions world.errands world.rows was))));
  }

  event_moves : (event : Event) (outcome : Outcome) → is_honest (Move.Step event outcome) world ≡ true → Moves world moments (moment_of (Move.Step event outcome) world)
  unfolding stepped
  event_moves event outcome honest =
      let moment = moment_of (Move.Step event outcome) world in
      leaves_so world moments moment (step-named world.state event outcome) (step-epoch world.state event outcome) (event_leaves world sound moments was event outcome moment refl refl refl (and_parts (brings_no_party event) _ honest).0 (moved_sound (Move.Step event outcome) world sound honest))

  gone_moves : (place : ℕ) (back : Back) (outcome : Outcome) → is_honest (Move.Go place back outcome) world ≡ true → (errands : List PartyNotes) → picked place world.errands ≡ errands → (moment : Moment) → moment.world ≡ world → moment.shown ≡ (gone_for errands back outcome world).shown → moment.after ≡ (gone_for errands back outcome world).world → IsSound (gone_for errands back outcome world).world → Moves world moments moment
  unfolding stepped
  gone_moves place back outcome honest [] out moment met shows after sound_after = stays_moves moment (ap (λ (w : World). w.state) after) (ap (λ (w : World). w.rows) after) (λ party is. subst (λ (w : World). In party w.errands) after is) (λ id. ap (list_any (removes world.state.head.name id)) shows)
  gone_moves place back outcome honest (party ∷ rest) out moment met shows after sound_after =
      leaves_so world moments moment (named (event_of party back) rest after) (dated (event_of party back) rest after) (subst (Leaves world (moments ++ moment ∷ []) moment) (sym after) (back_leaves world sound moments was party rest (place, out) back outcome moment met shows sound_after)) where
        named : (event : Event) (rest : List PartyNotes) → moment.after ≡ (stepped event outcome (record world { errands = rest })).world → moment.after.state.head.name ≡ world.state.head.name
        named event rest after = ap (λ (w : World). w.state.head.name) after ∙ step-named world.state event outcome

        dated : (event : Event) (rest : List PartyNotes) → moment.after ≡ (stepped event outcome (record world { errands = rest })).world → moment.after.state.head.epoch ≡ world.state.head.epoch
        dated event rest after = ap (λ (w : World). w.state.head.epoch) after ∙ step-epoch world.state event outcome

  lost_moves : (place : ℕ) (errands : List PartyNotes) → picked place world.errands ≡ errands → (moment : Moment) → moment.shown ≡ (lost_from errands world).shown → moment.after ≡ (lost_from errands world).world → Moves world moments moment
  lost_moves place [] out moment shows after = stays_moves moment (ap (λ (w : World). w.state) after) (ap (λ (w : World). w.rows) after) (λ party is. subst (λ (w : World). In party w.errands) after is) (λ id. ap (list_any (removes world.state.head.name id)) shows)
  lost_moves place (party ∷ rest) out moment shows after = stays_moves moment (ap (λ (w : World). w.state) after) (ap (λ (w : World). w.rows) after) (λ p is. in_picked world.errands party rest (place, out) p (inr (subst (λ (w : World). In p w.errands) after is))) (λ id. ap (list_any (removes world.state.head.name id)) shows ∙ none_removed_dropped world.state.head.name id party)

  renewed_moves : (boxes : Key → List Badge) (outcome : Outcome) → is_honest (Move.Renew boxes outcome) world ≡ true → Moves world moments (moment_of (Move.Renew boxes outcome) world)
  renewed_moves boxes Stored can = restart_moves world sound moments (moment_of (Move.Renew boxes Stored) world) boxes can refl refl (λ id. none_removed_here world.state.head.name id world.state.transactions)
  renewed_moves boxes Refused can = stays_moves (moment_of (Move.Renew boxes Refused) world) refl refl (λ party is. is) (λ id. refl)
  renewed_moves boxes NoChange can = absurd (let wrong : false ≡ true = can in cc)

  pub moves_so : (move : Move) → is_honest move world ≡ true → Moves world moments (moment_of move world)
  moves_so (Move.Step event outcome) honest = event_moves event outcome honest
  moves_so (Move.Go place back outcome) honest = gone_moves place back outcome honest (picked place world.errands) refl (moment_of (Move.Go place back outcome) world) refl refl refl (moved_sound (Move.Go place back outcome) world sound honest)
  moves_so (Move.Lose place) honest = lost_moves place (picked place world.errands) refl (moment_of (Move.Lose place) world) refl refl
  moves_so (Move.Restart boxes) honest = restart_moves world sound moments (moment_of (Move.Restart boxes) world) boxes honest refl refl (λ id. none_either world.state.head.name id (flat_map drops_of world.errands) (drops_here world.state) (none_removed_lost world.state.head.name id world.errands) (none_removed_here world.state.head.name id world.state.transactions))
  moves_so (Move.Renew boxes outcome) honest = renewed_moves boxes outcome honest

-- A RUN

-- of the moments so far, those of this start
abbrev pub of_start : ℕ → List Moment → List Moment
of_start epoch moments = filter (λ (m : Moment). m.world.state.head.epoch == epoch) moments

pub filter_last : (p : Moment → Bool) (xs : List Moment) (x : Moment) → p x ≡ true → filter p (xs ++ x ∷ []) ≡ filter p xs ++ x ∷ []
filter_last p [] x is = ap (λ b. cond b (x ∷ []) []) is
filter_last p (y ∷ xs) x is = step (p y) (filter_last p xs x is) where
  step : (b : Bool) → filter p (xs ++ x ∷ []) ≡ filter p xs ++ x ∷ [] → cond b (y ∷ filter p (xs ++ x ∷ [])) (filter p (xs ++ x ∷ [])) ≡ cond b (y ∷ filter p xs) (filter p xs) ++ x ∷ []
  step true rest = ap (λ l. y ∷ l) rest
  step false rest = rest

pub same_number : (n : ℕ) → (n == n) ≡ true
same_number n = grind (arith, nat_tests)

moment_kept : (realm id : List ℕ) (start : World) (before : List Moment) (moment : Moment) → IsDone realm id (of_this_start realm id before moment) moment → is_undenied realm id before moment ≡ true → is_kept realm id start before moment ≡ true
moment_kept realm id start before moment done undenied = and_from _ _ done (elim (or_cases (not (is_denied realm id moment)) (is_none (row_in realm id moment.world.rows)) undenied) [
  | inl none ↦ or_left _ _ (or_left (not (is_denied realm id moment)) _ none)
  | inr gone ↦ or_right (not (is_denied realm id moment) || not (was_committed realm id start (shown_in before))) _ gone
])

runs_kept : (realm id : List ℕ) (start world : World) (moves : List Move) (before : List Moment) → IsSound world → world.state.head.name ≡ realm → In_world world (of_start world.state.head.epoch before) → is_run world moves ≡ true → at_each_behind before (is_kept realm id start) (traced world moves) ≡ true
runs_kept realm id start world [] before sound named was honest = refl
runs_kept realm id start world (move ∷ moves) before sound named was honest =
    let parts = and_parts (is_honest move world) (is_run (moved move world).world moves) honest in
    let next = (moved move world).world in
    let moment = moment_of move world in
    let epoch = world.state.head.epoch in
    let went = moves_so world sound (of_start epoch before) was move parts.0 in
    let mine : of_start epoch (before ++ moment ∷ []) ≡ of_start epoch before ++ moment ∷ [] = filter_last (λ (m : Moment). m.world.state.head.epoch == epoch) before moment (same_number epoch) in
    let done : IsDone realm id (of_this_start realm id before moment) moment = subst (λ n. IsDone n id (of_this_start realm id before moment) moment) named (subst (λ ms. IsDone world.state.head.name id ms moment) (sym mine) (went.done id)) in
    and_from _ _ (moment_kept realm id start before moment done (subst (λ n. is_undenied n id before moment ≡ true) named (moved_undenied move world id before sound)))
    (runs_kept realm id start next moves (before ++ moment ∷ []) (moved_sound move world sound parts.0) (name_moved move world ∙ named) (went.witnessed (of_start next.state.head.epoch (before ++ moment ∷ [])) (λ same. ap (λ e. of_start e (before ++ moment ∷ [])) same ∙ mine)) parts.1)

-- where a run begins, nothing was heard
pub start_witnessed : (world : World) → IsStart world → In_world world []
start_witnessed world start = subst (λ (s : State). Witnessed s.head.name s.head.epoch [] s.transactions world.errands world.rows) (sym start.state) (record {
  shown = restarted_shown world.state.head.name [] world.state.head.epoch world.state.head start.boxes world.rows start.rows.rising start.adopted;
  cared = restarted_cared world.state.head.name [] world.state.head.epoch world.state.head start.boxes world.rows start.rows.rising start.adopted world.errands;
})

pub run_kept : (world : World) (moves : List Move) (id : List ℕ) → IsStart world → is_run world moves ≡ true → at_each_behind [] (is_kept world.state.head.name id world) (traced world moves) ≡ true
run_kept world moves id start honest = runs_kept world.state.head.name id world world moves [] (start_sound world start) refl (start_witnessed world start) honest
