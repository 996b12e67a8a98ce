-- Lists that rise, and what may stand behind their last element.
use Rattle.std.proofs.Common.{◌≡◌, ℕ, ◌-◌, suc, List, [], ◌∷◌, ◌++◌, length, map, slice_get, Bool, true, ◌&&◌, Option, Some, refl, sym, ap, ◌∙◌, arith}
use Rattle.std.specs.List.{list_all}
use Rattle.std.specs.declared.cmp.Ordering.{Ordering}
use Rattle.std.specs.declared.cmp.Ordering.TheVariants.{Less, Equal, Greater}
use Rattle.std.specs.Ordering.{is_lt, nat_cmp}
use Rattle.std.specs.Cmp.Lexicographic.{slice_cmp}
use Rattle.std.proofs.lemmas.Cmp.{nat_list_cmp_total}
use Rattle.std.proofs.lemmas.Bool.{and_parts, and_from}
use Rattle.std.proofs.lemmas.Bool.Decides.{nat_tests}
use Rattle.tip_rows.specs.Keys.{Key, comes_before}
use Rattle.tip_rows.specs.Logs.{is_rising, are_rising_names, name_before}
use Rattle.tip_rows.specs.declared.row.Row.{Row}
use Rattle.tip_sql.specs.Reading.{last_of, may_follow, rises}

module _ {X : Type 0} (before : X → X → Bool) where
  pub all_before : ((a b c : X) → before a b ≡ true → before b c ≡ true → before a c ≡ true) → (xs : List X) (y : X) → rises before xs ≡ true → may_follow before (last_of xs) y ≡ true → list_all (λ x. before x y) xs ≡ true
  all_before trans [] y rising follows = refl
  all_before trans (x ∷ []) y rising follows = rw follows refl
  all_before trans (x ∷ z ∷ rest) y rising follows =
      let parts = and_parts _ _ rising in
      let others = all_before trans (z ∷ rest) y parts.1 follows in
      and_from _ _ (trans x z y (and_parts _ _ parts.0).0 (and_parts _ _ others).0) others

  all_push : (x : X) (xs : List X) (y : X) → list_all (before x) xs ≡ true → before x y ≡ true → list_all (before x) (xs ++ y ∷ []) ≡ true
  all_push x [] y all more = rw more refl
  all_push x (z ∷ xs) y all more = let parts = and_parts _ _ all in and_from _ _ parts.0 (all_push x xs y parts.1 more)

  pub rising_push : (xs : List X) (y : X) → rises before xs ≡ true → list_all (λ x. before x y) xs ≡ true → rises before (xs ++ y ∷ []) ≡ true
  rising_push [] y rising all = refl
  rising_push (x ∷ xs) y rising all =
      let parts = and_parts _ _ rising in
      let each = and_parts _ _ all in
      and_from _ _ (all_push x xs y parts.0 each.0) (rising_push xs y parts.1 each.1)

pub last_push : {X : Type 0} (xs : List X) (y : X) → last_of (xs ++ y ∷ []) ≡ Some y
last_push [] y = refl
last_push (x ∷ []) y = refl
last_push (x ∷ z ∷ rest) y = last_push (z ∷ rest) y

pub last_is : {X : Type 0} (xs : List X) → slice_get xs (length xs - 1) ≡ last_of xs
last_is [] = refl
last_is (x ∷ []) = refl
last_is (x ∷ z ∷ rest) =
    let e : length (x ∷ z ∷ rest) - 1 ≡ suc (length (z ∷ rest) - 1) = omega arith in
    ap (slice_get (x ∷ z ∷ rest)) e ∙ last_is (z ∷ rest)

before-trans : (a b c : Key) → comes_before a b ≡ true → comes_before b c ≡ true → comes_before a c ≡ true
before-trans a b c h k = grind (arith, nat_tests)

entries_rise : (entries : List (Key × Row)) → is_rising entries ≡ rises (λ (e : Key × Row) (f : Key × Row). comes_before e.0 f.0) entries
entries_rise [] = refl
entries_rise (e ∷ entries) = ap (λ b. list_all (λ (f : Key × Row). comes_before e.0 f.0) entries && b) (entries_rise entries)

last_key : (entries : List (Key × Row)) (last : Option Key) (entry : Key × Row) → last ≡ last_of (map (λ (e : Key × Row). e.0) entries) → may_follow comes_before last entry.0 ≡ true → may_follow (λ (e : Key × Row) (f : Key × Row). comes_before e.0 f.0) (last_of entries) entry ≡ true
last_key [] last entry is h = refl
last_key (e ∷ []) last entry is h = sym (ap (λ o. may_follow comes_before o entry.0) is) ∙ h
last_key (e ∷ f ∷ rest) last entry is h = last_key (f ∷ rest) last entry is h

pub entries_push : (entries : List (Key × Row)) (last : Option Key) (entry : Key × Row) → last ≡ last_of (map (λ (e : Key × Row). e.0) entries) → is_rising entries ≡ true → may_follow comes_before last entry.0 ≡ true → is_rising (entries ++ entry ∷ []) ≡ true
entries_push entries last entry is rising follows =
    let before = λ (e : Key × Row) (f : Key × Row). comes_before e.0 f.0 in
    let rises = sym (entries_rise entries) ∙ rising in
    entries_rise (entries ++ entry ∷ []) ∙ rising_push before entries entry rises (all_before before (λ a b c. before-trans a.0 b.0 c.0) entries entry rises (last_key entries last entry is follows))

names_rise : (names : List (List ℕ)) → are_rising_names names ≡ rises name_before names
names_rise [] = refl
names_rise (name ∷ names) = ap (λ b. list_all (name_before name) names && b) (names_rise names)

less : (o : Ordering) → is_lt o ≡ true → o ≡ Less
less Less h = refl
less Equal h = cc
less Greater h = cc

name-trans : (a b c : List ℕ) → name_before a b ≡ true → name_before b c ≡ true → name_before a c ≡ true
name-trans a b c h k = rw (nat_list_cmp_total.trans a b c (less (slice_cmp nat_cmp a b) h) (less (slice_cmp nat_cmp b c) k)) refl

pub names_push : (names : List (List ℕ)) (name : List ℕ) → are_rising_names names ≡ true → may_follow name_before (last_of names) name ≡ true → are_rising_names (names ++ name ∷ []) ≡ true
names_push names name rising follows =
    let rises = sym (names_rise names) ∙ rising in
    names_rise (names ++ name ∷ []) ∙ rising_push name_before names name rises (all_before name_before name-trans names name rises follows)
