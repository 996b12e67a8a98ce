-- A RUN: what holds of it by its moves.
use Rattle.std.proofs.Common.{◌≡◌, ◌++◌, ◌∷◌, ◌∙◌, ℕ, suc, List, [], length, inl, refl, ap, subst, sym}
use Rattle.std.specs.List.{list_any}
use Rattle.std.proofs.lemmas.Bool.{or_left, or_right}
use Rattle.tip_agreement.proofs.Declared.{name_led}
use Rattle.tip_agreement.proofs.Naming.{one_tells}
use Rattle.tip_core.specs.Hosted.{HaveNames}
use Rattle.tip_honest.proofs.Onward.{goes_still}
use Rattle.tip_machine.specs.Moves.{World}
use Rattle.tip_rows.specs.Logs.{Keeping}
use Rattle.tip_run.proofs.Going.{further, made_goes_on}
use Rattle.tip_run.proofs.Growing.{noted_none, noted_on}
use Rattle.tip_run.proofs.MoveKinds.{kind}
use Rattle.tip_run.proofs.Noting.{made_noted}
use Rattle.tip_run.proofs.Resting.{made_rests}
use Rattle.tip_run.proofs.Storing.{made_stores, made_truth}
use Rattle.tip_run.specs.Moves.{AreMade, IsMade, Move}
use Rattle.tip_run.specs.Refined.{AreTo, IsTo}
use Rattle.tip_run.specs.Running.{IsAtRest, Running, world_at}
use Rattle.tip_run.specs.Runs.{AreApart, AreHonestRuns, GoesOn, HasNoted, HasRun, Stores, is_restart}
use Rattle.tip_run.specs.Halts.{IsWhyNotMade}
use Rattle.tip_run.specs.declared.halt.RunFault.TheVariants as fault
use Rattle.tip_run.specs.declared.moves.Move.TheVariants as move
use Rattle.tip_run.specs.declared.shown.Shown.{Shown}

module _ {S : Type 0} (kept : Keeping S) where
  -- a store that may be relied on now could be at first
  truth_first : (old new : Running S) (moves : List Move) (shown : List Shown) → AreMade kept old moves shown new → kept.is_true new.host.stored.store → kept.is_true old.host.stored.store
  truth_first old new [] [] same truth = subst (λ (r : Running S). kept.is_true r.host.stored.store) same truth
  truth_first old new [] (one ∷ shown) is truth = absurd is
  truth_first old new (next ∷ moves) [] is truth = absurd is
  truth_first old new (next ∷ moves) (one ∷ shown) (between, made, rest) truth = made_truth kept old between next (kind kept old between next one made) (truth_first between new moves shown rest truth)

  rests : (old new : Running S) (moves : List Move) (shown : List Shown) → IsAtRest old.host → AreMade kept old moves shown new → IsAtRest new.host
  rests old new [] [] rest same = subst (λ (r : Running S). IsAtRest r.host) (sym same) rest
  rests old new [] (one ∷ shown) rest is = absurd is
  rests old new (next ∷ moves) [] rest is = absurd is
  rests old new (next ∷ moves) (one ∷ shown) rest (between, made, more) = rests between new moves shown (made_rests kept old between next rest (kind kept old between next one made)) more

  stores : (old new : Running S) (moves : List Move) (shown : List Shown) → IsAtRest old.host → AreMade kept old moves shown new → (place : ℕ) → kept.is_true new.host.stored.store → Stores kept old place → Stores kept new place
  stores old new [] [] rest same place truth has = subst (λ r. Stores kept r place) (sym same) has
  stores old new [] (one ∷ shown) rest is place truth has = absurd is
  stores old new (next ∷ moves) [] rest is place truth has = absurd is
  stores old new (next ∷ moves) (one ∷ shown) rest (between, made, more) place truth has =
      let is = kind kept old between next one made in
      stores between new moves shown (made_rests kept old between next rest is) more place truth (made_stores kept old between next rest.names is (truth_first between new moves shown more truth) place has)

  noted : (old new : Running S) (moves : List Move) (shown : List Shown) → IsAtRest old.host → AreMade kept old moves shown new → HasNoted old new
  noted old new [] [] rest same = subst (HasNoted old) (sym same) (noted_none old)
  noted old new [] (one ∷ shown) rest is = absurd is
  noted old new (next ∷ moves) [] rest is = absurd is
  noted old new (next ∷ moves) (one ∷ shown) rest (between, made, more) =
      let is = kind kept old between next one made in
      noted_on old between new (made_noted kept old between next rest is) (noted between new moves shown (made_rests kept old between next rest is) more)

  honest : (old new : Running S) (moves : List Move) (shown : List Shown) → IsAtRest old.host → AreMade kept old moves shown new → AreHonestRuns kept old moves shown new
  honest old new [] [] rest same place state journals here are before relied = subst (λ r. GoesOn r place before (AreTo place [] [])) (sym same) (record { state = state; here = here; all = journals; journals_are = are; goes = goes_still before (world_at old place state) journals refl refl })
  honest old new [] (one ∷ shown) rest is place state journals here are before relied = absurd is
  honest old new (next ∷ moves) [] rest is place state journals here are before relied = absurd is
  honest old new (next ∷ moves) (one ∷ shown) rest (between, made, more) place state journals here are before relied =
      let is = kind kept old between next one made in
      let first = made_goes_on kept old between next rest is place
      (λ again. let may = relied (or_left (is_restart next) (list_any is_restart moves) again) in (truth_first between new moves shown more may.0, may.1)) state journals here are before in
      further kept between new place before (IsTo place next one) (AreTo place moves shown) (AreTo place (next ∷ moves) (one ∷ shown)) (λ some others is are. (some, others, is, are, refl)) first (λ was. honest between new moves shown (made_rests kept old between next rest is) more place first.state first.all first.here first.journals_are was
      (λ again. let may = relied (or_right (is_restart next) (list_any is_restart moves) again) in (may.0, made_stores kept old between next rest.names is (truth_first between new moves shown more may.0) place may.1)))

-- of an identifier one realm alone tells
apart : {S : Type 0} (running : Running S) → HaveNames running.host.stored.core → AreApart running
apart running names id one other this that journals others is are here there begins begun tells told =
    let same = one_tells is.start are.start is.moves are.moves id begins is.run begun are.run tells told in
    names one other this that here there
    (ap (λ (w : World). w.state.head.name) (sym is.led) ∙ name_led is.start is.moves ∙ same ∙ sym (name_led are.start are.moves) ∙ ap (λ (w : World). w.state.head.name) are.led)

pub has_run : {S : Type 0} (kept : Keeping S) (old new : Running S) (moves : List Move) (shown : List Shown) → IsAtRest old.host → AreMade kept old moves shown new → HasRun kept old moves shown new
has_run kept old new moves shown rest made = record {
  made = made;
  honest = honest kept old new moves shown rest made;
  noted = noted kept old new moves shown rest made;
  stored = stores kept old new moves shown rest made;
  apart = apart new (rests kept old new moves shown rest made).names;
}

-- One move more

pub made_more : {S : Type 0} (kept : Keeping S) (old between new : Running S) (moves : List Move) (shown : List Shown) (next : Move) (one : Shown) → AreMade kept old moves shown between → IsMade kept between next one new → AreMade kept old (moves ++ next ∷ []) (shown ++ one ∷ []) new
made_more kept old between new [] [] next one same made = (new, subst (λ b. IsMade kept b next one new) same made, refl)
made_more kept old between new [] (first ∷ shown) next one is made = absurd is
made_more kept old between new (move ∷ moves) [] next one is made = absurd is
made_more kept old between new (move ∷ moves) (first ∷ shown) next one (then, is, rest) made = (then, is, made_more kept then between new moves shown next one rest made)

-- as many were made as have shown what they did
pub as_many : {S : Type 0} (kept : Keeping S) (old new : Running S) (moves : List Move) (shown : List Shown) → AreMade kept old moves shown new → length shown ≡ length moves
as_many kept old new [] [] is = refl
as_many kept old new [] (one ∷ shown) is = absurd is
as_many kept old new (next ∷ moves) [] is = absurd is
as_many kept old new (next ∷ moves) (one ∷ shown) (between, made, rest) = ap suc (as_many kept between new moves shown rest)

-- memory may be wanting for any move
pub wants_memory : {S : Type 0} (kept : Keeping S) (old : Running S) (next : Move) (left : S) → IsWhyNotMade kept old next left fault.Memory
wants_memory kept old (move.Step event) left = tt
wants_memory kept old (move.Go place) left = tt
wants_memory kept old (move.Lose place) left = tt
wants_memory kept old (move.Restart boxes) left = inl refl
wants_memory kept old (move.Renew place boxes) left = inl refl

-- a move under another name
pub made_as : {S : Type 0} (kept : Keeping S) (old new new' : Running S) (next next' : Move) (one one' : Shown) → next ≡ next' → one ≡ one' → new ≡ new' → IsMade kept old next' one' new' → IsMade kept old next one new
made_as kept old new new' next next' one one' n s w is =
    subst (λ x. IsMade kept old x one new) (sym n)
    (subst (λ x. IsMade kept old next' x new) (sym s)
    (subst (λ x. IsMade kept old next' one' x) (sym w) is))
