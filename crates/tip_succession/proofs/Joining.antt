-- The four sentences of one process are those of all up to it, where what stood when it began was stored and asked before.
use Rattle.std.proofs.Common.{◌≡◌, Bool, true, false, ℕ, List, [], ◌∷◌, ◌++◌, cond, refl, ap, arith, subst, sym, ◌∙◌, ◌⊎◌, inl, inr}
use Rattle.std.specs.Prelude.{◌&&◌, ◌||◌, ◌==◌, filter, is_none, is_some, nat_le, nat_lt, not}
use Rattle.std.specs.List.{list_any}
use Rattle.std.specs.Option.{option_map_or}
use Rattle.std.proofs.lemmas.Bool.{and_from, and_parts, or_cases, or_left, or_right}
use Rattle.std.proofs.lemmas.Bool.Decides.{nat_tests}
use Rattle.std.proofs.lemmas.List.{append-nil, append_assoc}
use Rattle.std.proofs.lemmas.List.Concat.{flat_map-append}
use Rattle.std.proofs.lemmas.List.Elements.{filter-append}
use Rattle.std.proofs.lemmas.List.Folds.{list_any-append}
use Rattle.tip_rows.specs.Keys.{Key}
use Rattle.tip_rows.specs.Logs.{last_epoch}
use Rattle.tip_line.specs.Words.{is_address, is_realm}
use Rattle.tip_machine.specs.Agreement.{all_have_done, is_asked, is_backed, is_committed_row, is_denied, is_kept, is_made_in, of_this_start, removes, row_in, stores_commit, tells_commit, was_committed, were_willing}
use Rattle.tip_machine.specs.Agreement.Traces.{Moment, at_each_behind, shown_in}
use Rattle.tip_machine.specs.Heads.{are_allowed, is_within}
use Rattle.tip_machine.specs.Moves.{World}
use Rattle.tip_machine.specs.Outputs.{Output}
use Rattle.tip_machine.specs.Starting.{IsStart, are_declared, is_starting}
use Rattle.tip_machine.specs.declared.head.Head.{Head}
use Rattle.tip_agreement.proofs.Denying.{is_undenied, moved_undenied}
use Rattle.tip_agreement.proofs.Keeping.{in_append}
use Rattle.tip_agreement.proofs.Spelling.{keys_told}
use Rattle.tip_agreement.proofs.Walking.{In}
use Rattle.tip_succession.specs.Agreement.{have_asked, is_asked_then, was_asked}
use Rattle.tip_succession.proofs.Moments.{IsMade, IsMoment, made_here}

-- Lists

filter_none : {T : Type 0} (p : T → Bool) (xs : List T) → ((x : T) → In x xs → p x ≡ true → ⊥) → filter p xs ≡ []
filter_none p [] never = refl
filter_none p (y ∷ ys) never = step (p y) refl (filter_none p ys (λ x there. never x (inr there))) where
  step : (b : Bool) → p y ≡ b → filter p ys ≡ [] → cond (p y) (y ∷ filter p ys) (filter p ys) ≡ []
  step true is rest = absurd (never y (inl refl) is)
  step false is rest = ap (λ b. cond b (y ∷ filter p ys) (filter p ys)) is ∙ rest

first_in : {T : Type 0} (p : T → Bool) (xs : List T) (x : T) (more : List T) → filter p xs ≡ x ∷ more → (In x xs) × (p x ≡ true)
first_in p [] x more is = absurd (let wrong : [] ≡ x ∷ more = is in cc)
first_in p (y ∷ ys) x more is = step (p y) refl (first_in p ys x more) where
  step : (b : Bool) → p y ≡ b → (filter p ys ≡ x ∷ more → (In x ys) × (p x ≡ true)) → (In x (y ∷ ys)) × (p x ≡ true)
  step true holds later =
      let same : y ∷ filter p ys ≡ x ∷ more = sym (ap (λ b. cond b (y ∷ filter p ys) (filter p ys)) holds) ∙ is in
      let it : y ≡ x = cc in
      (inl (sym it), subst (λ z. p z ≡ true) it holds)
  step false fails later =
      let rest = later (sym (ap (λ b. cond b (y ∷ filter p ys) (filter p ys)) fails) ∙ is) in
      (inr rest.0, rest.1)

pub shown_both : (xs ys : List Moment) → shown_in (xs ++ ys) ≡ shown_in xs ++ shown_in ys
shown_both xs ys = flat_map-append (λ (m : Moment). m.shown) xs ys

-- a test of each moment of a process holds behind what was before it, too
lift : (p q : List Moment → Moment → Bool) (before own : List Moment) → ((earlier : List Moment) (m : Moment) → ((x : Moment) → In x (earlier ++ m ∷ []) → In x own) → In m own → p earlier m ≡ true → q (before ++ earlier) m ≡ true) → (earlier moments : List Moment) → ((x : Moment) → In x earlier → In x own) → ((x : Moment) → In x moments → In x own) → at_each_behind earlier p moments ≡ true → at_each_behind (before ++ earlier) q moments ≡ true
lift p q before own each earlier [] done left is = refl
lift p q before own each earlier (m ∷ moments) done left is =
    let parts = and_parts (p earlier m) (at_each_behind (earlier ++ m ∷ []) p moments) is in
    and_from _ _ (each earlier m sub (left m (inl refl)) parts.0) (subst (λ xs. at_each_behind xs q moments ≡ true) (sym (append_assoc before earlier (m ∷ []))) (lift p q before own each (earlier ++ m ∷ []) moments sub (λ x there. left x (inr there)) parts.1)) where
      sub : (x : Moment) → In x (earlier ++ m ∷ []) → In x own
      sub x there = elim (in_append earlier (m ∷ []) x there) [
        | inl before ↦ done x before
        | inr (inl same) ↦ left x (inl same)
        | inr (inr none) ↦ absurd none
      ]

pub at_each_both : (q : List Moment → Moment → Bool) (before xs ys : List Moment) → at_each_behind before q xs ≡ true → at_each_behind (before ++ xs) q ys ≡ true → at_each_behind before q (xs ++ ys) ≡ true
at_each_both q before [] ys first second = subst (λ zs. at_each_behind zs q ys ≡ true) (append-nil before) second
at_each_both q before (x ∷ xs) ys first second =
    let parts = and_parts (q before x) (at_each_behind (before ++ x ∷ []) q xs) first in
    and_from _ _ parts.0 (at_each_both q (before ++ x ∷ []) xs ys parts.1 (subst (λ zs. at_each_behind zs q ys ≡ true) (sym (append_assoc before (x ∷ []) xs)) second))

-- a realm has a branch
some_branch : (head : Head) → is_starting head ≡ true → head.branches ≡ [] → ⊥
some_branch head is none =
    let a = and_parts (is_realm head.name && is_address head.address && are_allowed head.limits && are_declared head.branches && is_within 1 last_epoch head.epoch && (head.given == 0)) (head.entries == 0) is in
    let b = and_parts (is_realm head.name && is_address head.address && are_allowed head.limits && are_declared head.branches && is_within 1 last_epoch head.epoch) (head.given == 0) a.0 in
    let c = and_parts (is_realm head.name && is_address head.address && are_allowed head.limits && are_declared head.branches) (is_within 1 last_epoch head.epoch) b.0 in
    let d = and_parts (is_realm head.name && is_address head.address && are_allowed head.limits) (are_declared head.branches) c.0 in
    let wrong : are_declared [] ≡ true = subst (λ bs. are_declared bs ≡ true) none d.1 in
    cc

-- WHERE A PROCESS BEGINS, behind what those before it did

pub record Begins (start : World) (id : List ℕ) (before : List Moment) (begun : World) : Type 0 where
  pub started : IsStart begun
  pub name : begun.state.head.name ≡ start.state.head.name
  pub past : (m : Moment) → In m before → nat_lt m.world.state.head.epoch begun.state.head.epoch ≡ true
  pub made : (m : Moment) → In m before → is_made_in start.state.head.name id m ≡ true → IsMade start.state.head.name id m
  -- its committed row was stored, and what has a row was asked
  pub committed : option_map_or is_committed_row (row_in start.state.head.name id begun.rows) false ≡ true → was_committed start.state.head.name id start (shown_in before) ≡ true
  pub asked : is_some (row_in start.state.head.name id begun.rows) ≡ true → is_some (row_in start.state.head.name id start.rows) || was_asked start.state.head.name id before ≡ true

module _ (start : World) (id : List ℕ) (before : List Moment) (begun last : World) (begins : Begins start id before begun) (own : List Moment) (of : (m : Moment) → In m own → IsMoment begun last m) where
  abbrev realm : List ℕ
  realm = start.state.head.name

  abbrev made : List Moment → List Moment
  made moments = filter (is_made_in realm id) moments

  made_own : (m : Moment) → In m own → is_made_in realm id m ≡ true → IsMade realm id m
  made_own m there is = subst (λ n. IsMade n id m) begins.name (made_here begun last m id (of m there) (subst (λ n. is_made_in n id m ≡ true) (sym begins.name) is))

  -- BACKED

  pub was_before : (shown : List Output) → was_committed realm id begun shown ≡ true → was_committed realm id start (shown_in before ++ shown) ≡ true
  was_before shown is = elim (or_cases (option_map_or is_committed_row (row_in realm id begun.rows) false) (list_any (stores_commit realm id) shown) is) [
    | inl stood ↦ elim (or_cases (option_map_or is_committed_row (row_in realm id start.rows) false) (list_any (stores_commit realm id) (shown_in before)) (begins.committed stood)) [
      | inl first ↦ or_left _ _ first
      | inr stored ↦ or_right (option_map_or is_committed_row (row_in realm id start.rows) false) _ (list_any-append (stores_commit realm id) (shown_in before) shown ∙ or_left _ _ stored)
    ]
    | inr stored ↦ or_right (option_map_or is_committed_row (row_in realm id start.rows) false) _ (list_any-append (stores_commit realm id) (shown_in before) shown ∙ or_right (list_any (stores_commit realm id) (shown_in before)) _ stored)
  ]

  each_backed : (earlier : List Moment) (m : Moment) → ((x : Moment) → In x (earlier ++ m ∷ []) → In x own) → In m own → is_backed realm id begun earlier m ≡ true → is_backed realm id start (before ++ earlier) m ≡ true
  each_backed earlier m sub there is = elim (or_cases (not (tells_commit realm id m)) (was_committed realm id begun (shown_in earlier ++ m.shown)) is) [
    | inl quiet ↦ or_left _ _ quiet
    | inr was ↦ or_right (not (tells_commit realm id m)) _ (subst (λ xs. was_committed realm id start xs ≡ true) (sym (append_assoc (shown_in before) (shown_in earlier) m.shown) ∙ ap (λ xs. xs ++ m.shown) (sym (shown_both before earlier))) (was_before (shown_in earlier ++ m.shown) was))
  ]

  -- KEPT

  same_start : (earlier : List Moment) (m : Moment) → In m own → of_this_start realm id (before ++ earlier) m ≡ of_this_start realm id earlier m
  same_start earlier m there = ap (filter this) (append_assoc before earlier (m ∷ [])) ∙ (filter-append this before (earlier ++ m ∷ []) ∙ ap (λ xs. xs ++ filter this (earlier ++ m ∷ [])) (filter_none this before (λ x earlier_one is. never x.world.state.head.epoch begun.state.head.epoch m.world.state.head.epoch (begins.past x earlier_one) (of m there).least is))) where
    this : Moment → Bool
    this x = x.world.state.head.epoch == m.world.state.head.epoch

    never : (a b c : ℕ) → nat_lt a b ≡ true → nat_le b c ≡ true → (a == c) ≡ true → ⊥
    never a b c less least is = grind (arith, nat_tests, less, least, is)

  each_kept : (earlier : List Moment) (m : Moment) → ((x : Moment) → In x (earlier ++ m ∷ []) → In x own) → In m own → is_kept realm id begun earlier m ≡ true → is_kept realm id start (before ++ earlier) m ≡ true
  each_kept earlier m sub there is =
      let parts = and_parts (not (list_any (removes realm id) m.shown) || option_map_or (all_have_done realm id (of_this_start realm id earlier m)) (row_in realm id m.world.rows) true) _ is in
      and_from _ _ (subst (λ ms. not (list_any (removes realm id) m.shown) || option_map_or (all_have_done realm id ms) (row_in realm id m.world.rows) true ≡ true) (sym (same_start earlier m there)) parts.0) (elim (or_cases (not (is_denied realm id m)) (is_none (row_in realm id m.world.rows)) undenied) [
        | inl quiet ↦ or_left _ _ (or_left _ _ quiet)
        | inr gone ↦ or_right (not (is_denied realm id m) || not (was_committed realm id start (shown_in (before ++ earlier)))) _ gone
      ]) where
        undenied : is_undenied realm id earlier m ≡ true
        undenied =
            let it = of m there in
            subst (λ n. is_undenied n id earlier m ≡ true) (it.name ∙ begins.name) (subst (λ x. is_undenied m.world.state.head.name id earlier x ≡ true) (sym it.is) (moved_undenied m.move m.world id earlier it.sound))

  -- ASKED

  -- made by those before, or by this one, and not by both
  made_once : (piece : List Moment) → ((x : Moment) → In x piece → In x own) → (made before ≡ []) ⊎ (made piece ≡ [])
  made_once piece sub = step (made before) refl where
    never : (a b c d e : ℕ) → (a == b) ≡ true → nat_lt b c ≡ true → nat_le c d ≡ true → (e == d) ≡ true → a ≡ e → ⊥
    never a b c d e then less least now same = grind (arith, nat_tests, then, less, least, now, same)

    step : (ms : List Moment) → made before ≡ ms → (made before ≡ []) ⊎ (made piece ≡ [])
    step [] is = inl is
    step (old ∷ more) is =
        let found = first_in (is_made_in realm id) before old more is in
        let then = begins.made old found.0 found.1 in
        inr (filter_none (is_made_in realm id) piece (λ x there is_made.
        let now = made_own x (sub x there) is_made in
        let same = keys_told realm then.key now.key then.spelled now.spelled (sym then.spells ∙ now.spells) in
        never then.key.epoch old.world.state.head.epoch begun.state.head.epoch x.world.state.head.epoch now.key.epoch then.now (begins.past old found.0) (of x (sub x there)).least now.now (ap (λ (key : Key). key.epoch) same)))

  none_willing : were_willing realm id [] begun.state.head.branches ≡ true → ⊥
  none_willing = step begun.state.head.branches refl where
    step : (branches : List (ℕ × List ℕ)) → begun.state.head.branches ≡ branches → were_willing realm id [] branches ≡ true → ⊥
    step [] none is = some_branch begun.state.head begins.started.head none
    step (branch ∷ more) some is = let wrong : false ≡ true = is in cc

  have_asked_here : (piece : List Moment) → ((x : Moment) → In x piece → In x own) → were_willing realm id (made piece) begun.state.head.branches ≡ true → have_asked realm id (made piece) ≡ true
  have_asked_here piece sub = step (made piece) refl where
    step : (ms : List Moment) → made piece ≡ ms → were_willing realm id ms begun.state.head.branches ≡ true → have_asked realm id ms ≡ true
    step [] is willing = absurd (none_willing willing)
    step (first ∷ more) is willing = subst (λ bs. were_willing realm id (first ∷ more) bs ≡ true) (sym (of first (sub first (first_in (is_made_in realm id) piece first more is).0)).branches) willing

  pub asked_so : (piece : List Moment) → ((x : Moment) → In x piece → In x own) → is_some (row_in realm id begun.rows) || were_willing realm id (made piece) begun.state.head.branches ≡ true → is_some (row_in realm id start.rows) || was_asked realm id (before ++ piece) ≡ true
  asked_so piece sub is = subst (λ ms. is_some (row_in realm id start.rows) || have_asked realm id ms ≡ true) (sym (filter-append (is_made_in realm id) before piece)) (elim (made_once piece sub) [
    | inl none ↦ subst (λ ms. is_some (row_in realm id start.rows) || have_asked realm id (ms ++ made piece) ≡ true) (sym none) (by_this none is)
    | inr none ↦ subst (λ ms. is_some (row_in realm id start.rows) || have_asked realm id (made before ++ ms) ≡ true) (sym none) (subst (λ ms. is_some (row_in realm id start.rows) || have_asked realm id ms ≡ true) (sym (append-nil (made before))) (by_those none is))
  ]) where
    unasked : made before ≡ [] → was_asked realm id before ≡ true → ⊥
    unasked none was = let wrong : false ≡ true = sym (ap (have_asked realm id) none) ∙ was in cc

    by_this : made before ≡ [] → is_some (row_in realm id begun.rows) || were_willing realm id (made piece) begun.state.head.branches ≡ true → is_some (row_in realm id start.rows) || have_asked realm id (made piece) ≡ true
    by_this none is = elim (or_cases (is_some (row_in realm id begun.rows)) (were_willing realm id (made piece) begun.state.head.branches) is) [
      | inl stood ↦ elim (or_cases (is_some (row_in realm id start.rows)) (was_asked realm id before) (begins.asked stood)) [
        | inl first ↦ or_left _ _ first
        | inr was ↦ absurd (unasked none was)
      ]
      | inr willing ↦ or_right (is_some (row_in realm id start.rows)) _ (have_asked_here piece sub willing)
    ]

    by_those : made piece ≡ [] → is_some (row_in realm id begun.rows) || were_willing realm id (made piece) begun.state.head.branches ≡ true → is_some (row_in realm id start.rows) || was_asked realm id before ≡ true
    by_those none is = elim (or_cases (is_some (row_in realm id begun.rows)) (were_willing realm id (made piece) begun.state.head.branches) is) [
      | inl stood ↦ begins.asked stood
      | inr willing ↦ absurd (none_willing (subst (λ ms. were_willing realm id ms begun.state.head.branches ≡ true) none willing))
    ]

  each_asked : (earlier : List Moment) (m : Moment) → ((x : Moment) → In x (earlier ++ m ∷ []) → In x own) → In m own → is_asked realm id begun earlier m ≡ true → is_asked_then realm id start (before ++ earlier) m ≡ true
  each_asked earlier m sub there is = elim (or_cases (not (tells_commit realm id m) || is_some (row_in realm id begun.rows)) _ is) [
    | inr willing ↦ by_ok (or_right (is_some (row_in realm id begun.rows)) _ (subst (λ bs. were_willing realm id (made (earlier ++ m ∷ [])) bs ≡ true) (of m there).branches willing))
    | inl either ↦ elim (or_cases (not (tells_commit realm id m)) (is_some (row_in realm id begun.rows)) either) [
      | inl quiet ↦ or_left _ _ (or_left _ _ quiet)
      | inr stood ↦ by_ok (or_left _ _ stood)
    ]
  ] where
    by_ok : is_some (row_in realm id begun.rows) || were_willing realm id (made (earlier ++ m ∷ [])) begun.state.head.branches ≡ true → is_asked_then realm id start (before ++ earlier) m ≡ true
    by_ok ok = elim (or_cases (is_some (row_in realm id start.rows)) (was_asked realm id (before ++ (earlier ++ m ∷ []))) (asked_so (earlier ++ m ∷ []) sub ok)) [
      | inl first ↦ or_left _ _ (or_right (not (tells_commit realm id m)) _ first)
      | inr was ↦ or_right (not (tells_commit realm id m) || is_some (row_in realm id start.rows)) _ (subst (λ xs. was_asked realm id xs ≡ true) (sym (append_assoc before earlier (m ∷ []))) was)
    ]

  -- so each sentence of its own is one of all up to it
  lifts : (p q : List Moment → Moment → Bool) → ((earlier : List Moment) (m : Moment) → ((x : Moment) → In x (earlier ++ m ∷ []) → In x own) → In m own → p earlier m ≡ true → q (before ++ earlier) m ≡ true) → at_each_behind [] p own ≡ true → at_each_behind before q own ≡ true
  lifts p q each is = subst (λ xs. at_each_behind xs q own ≡ true) (append-nil before) (lift p q before own each [] own (λ x none. absurd none) (λ x there. there) is)

  pub backed_behind : at_each_behind [] (is_backed realm id begun) own ≡ true → at_each_behind before (is_backed realm id start) own ≡ true
  backed_behind = lifts (is_backed realm id begun) (is_backed realm id start) each_backed

  pub kept_behind : at_each_behind [] (is_kept realm id begun) own ≡ true → at_each_behind before (is_kept realm id start) own ≡ true
  kept_behind = lifts (is_kept realm id begun) (is_kept realm id start) each_kept

  pub asked_behind : at_each_behind [] (is_asked realm id begun) own ≡ true → at_each_behind before (is_asked_then realm id start) own ≡ true
  asked_behind = lifts (is_asked realm id begun) (is_asked_then realm id start) each_asked
