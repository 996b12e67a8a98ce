-- A row that is ahead stands among the rows that were loaded.
use Rattle.std.proofs.Common.{◌≡◌, ◌↔◌, ◌∙◌, ◌||◌, ◌<◌, ℕ, Bool, true, false, cond, List, [], ◌∷◌, Option, Some, refl, sym, subst, is_some, nat_lt, true≢false, pos, arith}
use Rattle.std.specs.Prelude.{IsTrue, find, option_map}
use Rattle.std.specs.List.{All, list_any}
use Rattle.std.specs.Str.{bytes_eq}
use Rattle.std.proofs.lemmas.List.Folds.{Any-from_list_any}
use Rattle.std.proofs.lemmas.Slice.Eq.{bytes_eq-Decides}
use Rattle.std.proofs.lemmas.Bool.Decides.{Decides-ltb, nat_tests}
use Rattle.tip_rows.specs.Keys.{Key, is_same}
use Rattle.tip_rows.specs.Logs.{AreNames, IsPart, Log, row_at}
use Rattle.tip_rows.specs.declared.row.Row.{Row}
use Rattle.tip_duties.specs.Starting.{IsAhead, are_ahead}

same_self : (a : Key) → is_same a a ≡ true
same_self a = grind (arith, nat_tests)

same_epoch : (a b : Key) → is_same a b ≡ true → a.epoch ≡ b.epoch
same_epoch a b same = grind (arith, nat_tests)

-- a row that is found behind others is found
found_behind : (e : Key × Row) (rows : List (Key × Row)) (key : Key) → is_some (row_at key rows) ≡ true → is_some (row_at key (e ∷ rows)) ≡ true
found_behind e rows key found = go (is_same e.0 key)
  where
    go : (same : Bool) → is_some (option_map (λ (f : Key × Row). f.1) (cond same (Some e) (find (λ f. is_same f.0 key) rows))) ≡ true
    go true = refl
    go false = found

abbrev pub Found : ℕ → List (Key × Row) → Type 0
Found epoch rows = (key : Key) × (is_some (row_at key rows) ≡ true) × (epoch < key.epoch)

pub ahead_is_found : (epoch : ℕ) (rows : List (Key × Row)) → are_ahead epoch rows ≡ true → Found epoch rows
ahead_is_found epoch [] ahead = absurd (true≢false (sym ahead))
ahead_is_found epoch (e ∷ rows) ahead = go (λ behind. ahead_is_found epoch rows behind) (nat_lt epoch e.0.epoch) refl
  where
    here : is_some (row_at e.0 (e ∷ rows)) ≡ true
    here = rw (same_self e.0) refl

    go : (are_ahead epoch rows ≡ true → Found epoch rows) → (later : Bool) → nat_lt epoch e.0.epoch ≡ later → Found epoch (e ∷ rows)
    go next true later = (e.0, here, (Decides-ltb epoch e.0.epoch).0 later)
    go next false later = let found = next (rw later at ahead) in (found.0, found_behind e rows found.0 found.1, found.2)

pub found_is_ahead : (epoch : ℕ) (rows : List (Key × Row)) (key : Key) → is_some (row_at key rows) ≡ true → epoch < key.epoch → are_ahead epoch rows ≡ true
found_is_ahead epoch [] key found later = absurd (true≢false (sym found))
found_is_ahead epoch (e ∷ rows) key found later = go (λ behind. found_is_ahead epoch rows key behind later) (is_same e.0 key) refl found
  where
    either : (b : Bool) → (b || true) ≡ true
    either true = refl
    either false = refl

    go : (is_some (row_at key rows) ≡ true → are_ahead epoch rows ≡ true) → (same : Bool) → is_same e.0 key ≡ same
        → is_some (option_map (λ (f : Key × Row). f.1) (cond same (Some e) (find (λ f. is_same f.0 key) rows))) ≡ true → are_ahead epoch (e ∷ rows) ≡ true
    go next true same here =
        let at : e.0.epoch ≡ key.epoch = same_epoch e.0 key same in
        let ahead : nat_lt epoch e.0.epoch ≡ true = (Decides-ltb epoch e.0.epoch).1 (omega arith) in
        rw ahead refl
    go next false same behind = rw (next behind) (either (nat_lt epoch e.0.epoch))

-- of a realm that was loaded
pub part_is_ahead : (log : Log) (realm : List ℕ) (epoch : ℕ) (rows : List (Key × Row)) → IsPart log realm epoch rows → IsTrue (are_ahead epoch rows) ↔ IsAhead log realm
part_is_ahead log realm epoch rows part = (there, back)
  where
    there : are_ahead epoch rows ≡ true → IsAhead log realm
    there ahead =
        let found = ahead_is_found epoch rows ahead in
        (epoch, found.0, part.epoch, subst (λ (row : Option Row). is_some row ≡ true) (part.same found.0) found.1, found.2)

    back : IsAhead log realm → are_ahead epoch rows ≡ true
    back ahead =
        let same : pos ahead.0 ≡ pos epoch = sym ahead.2 ∙ part.epoch in
        let number : ahead.0 ≡ epoch = cc in
        found_is_ahead epoch rows ahead.1 (subst (λ (row : Option Row). is_some row ≡ true) (sym (part.same ahead.1)) ahead.3) (rw (← number) ahead.4)

-- the store knows a realm where its name is among the names
known_is_named : (P : List ℕ → Type 0) (names : List (List ℕ)) (realm : List ℕ) → All P names → list_any (λ other. bytes_eq other realm) names ≡ true → P realm
known_is_named P names realm all known =
    let any = Any-from_list_any (λ (other : List ℕ). bytes_eq other realm) names known in
    let at : any.1 ≡ realm = (bytes_eq-Decides any.1 realm).0 any.4 in
    subst P (any.3 ∙ at) (all any.0 any.1 any.2)

pub none_known_is : (log : Log) (names : List (List ℕ)) → AreNames log names → All (λ realm. ¬ IsAhead log realm) names
    → (realm : List ℕ) → is_some (log.epochs realm) ≡ true → ¬ IsAhead log realm
none_known_is log names are none realm known = known_is_named (λ (realm : List ℕ). ¬ IsAhead log realm) names realm none (sym (are.known realm) ∙ known)
