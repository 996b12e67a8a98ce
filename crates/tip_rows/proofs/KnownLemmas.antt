-- A known realm, found by halves.
use Rattle.std.proofs.Common.{◌≡◌, ℕ, zero, suc, ◌<◌, ◌≤◌, List, [], ◌∷◌, length, get_or, map, Bool, true, false, cond, not, Some, None, find, refl, ap, ◌∙◌, arith, inl, inr, position, le_refl, zero-le, nat_lt}
use Rattle.std.specs.List.{list_all, position_or_len}
use Rattle.std.specs.List.Sorted.{IsPartitionPoint, IsPartitionedBy}
use Rattle.std.proofs.lemmas.Bool.{cases_Bool}
use Rattle.std.proofs.lemmas.Bool.Decides.{nat_tests}
use Rattle.std.proofs.lemmas.List.Sums.{position_or_len_is}
use Rattle.tip_line.proofs.StopLemmas.{and_left, and_right}
use Rattle.tip_rows.specs.Logs.{are_rising_names, name_before}
use Rattle.tip_rows.specs.Memory.{are_by_name, is_from, is_named}
use Rattle.tip_rows.specs.declared.memory.Known.{Known}
use Rattle.tip_rows.proofs.MemoryLemmas.{bytes_eq-sym}
use Rattle.tip_rows.proofs.NameLemmas.{name-apart, name-other, name-trans, newly, not_true}

abbrev pub names : List Known → List (List ℕ)
names known = map (λ k. k.realm) known

-- the name of a known realm comes before this one
abbrev pub is_earlier : List ℕ → Known → Bool
is_earlier name k = name_before k.realm name

name-at : (name : List ℕ) (known : List Known) (k : ℕ) (d : Known) → list_all (name_before name) (names known) ≡ true → k < length known → name_before name (get_or known k d).realm ≡ true
name-at name [] k d all inside = absurd (omega (arith, inside))
name-at name (x ∷ known) zero d all inside = and_left (name_before name x.realm) (list_all (name_before name) (names known)) all
name-at name (x ∷ known) (suc k) d all inside = name-at name known k d (and_right (name_before name x.realm) (list_all (name_before name) (names known)) all) (omega (arith, inside))

-- those that come before a name are in front
pub parted-known : (name : List ℕ) (known : List Known) → are_by_name known ≡ true → IsPartitionedBy (is_earlier name) known
parted-known name [] rising i j d le within passes = absurd (omega (arith, within))
parted-known name (x ∷ known) rising zero zero d le within passes = passes
parted-known name (x ∷ known) rising zero (suc j) d le within passes =
    let first = and_left (list_all (name_before x.realm) (names known)) (are_rising_names (names known)) rising in
    name-trans x.realm (get_or known j d).realm name (name-at x.realm known j d first (omega (arith, within))) passes
parted-known name (x ∷ known) rising (suc i) zero d le within passes = absurd (omega (arith, le))
parted-known name (x ∷ known) rising (suc i) (suc j) d le within passes =
    let rest = and_right (list_all (name_before x.realm) (names known)) (are_rising_names (names known)) rising in
    parted-known name known rest i j d (omega (arith, le)) (omega (arith, within)) passes

-- where they end
module _ (name : List ℕ) (known : List Known) (i : ℕ) (within : i ≤ length known) (point : IsPartitionPoint (λ k. is_earlier name k ≡ true) (λ k. is_earlier name k ≡ false) known i) where
  end_at : position_or_len (is_from name) known ≡ i
  end_at = position_or_len_is (is_from name) known i (newly name) within (λ k less. ap not (point.0 k (newly name) zero-le less)) (λ inside. ap not (point.1 i (newly name) (le_refl i) inside))

  pub first_at : i < length known → position (is_from name) known ≡ Some i
  first_at inside = elim (cases_Bool (nat_lt i (length known))) [
    | inl less ↦ ap (λ n. cond (nat_lt n (length known)) (Some n) None) end_at ∙ ap (λ b. cond b (Some i) None) less
    | inr past ↦ absurd (grind (arith, nat_tests, inside, past))
  ]

  pub none_from : length known ≤ i → position (is_from name) known ≡ None
  none_from past = elim (cases_Bool (nat_lt i (length known))) [
    | inl less ↦ absurd (grind (arith, nat_tests, past, less))
    | inr end ↦ ap (λ n. cond (nat_lt n (length known)) (Some n) None) end_at ∙ ap (λ b. cond b (Some i) None) end
  ]

-- the realm of a name is the first that does not come before it, if it is this one
apart : (name : List ℕ) (k : Known) → is_from name k ≡ false → is_named name k ≡ false
apart name k earlier = name-apart k.realm name (not_true (name_before k.realm name) earlier)

pub named_here : (name : List ℕ) (known : List Known) (i : ℕ) (d : Known) → i < length known → ((j : ℕ) → j < i → is_from name (get_or known j d) ≡ false) → is_named name (get_or known i d) ≡ true → find (is_named name) known ≡ Some (get_or known i d)
named_here name [] i d inside before same = absurd (omega (arith, inside))
named_here name (x ∷ known) zero d inside before same = rw same refl
named_here name (x ∷ known) (suc i) d inside before same =
    let first : is_named name x ≡ false = apart name x (before 0 (omega arith)) in
    rw first (named_here name known i d (omega (arith, inside)) (λ j less. before (suc j) (omega (arith, less))) same)

-- a name that comes before all is none of theirs
none_later : (name : List ℕ) (known : List Known) → list_all (name_before name) (names known) ≡ true → find (is_named name) known ≡ None
none_later name [] all = refl
none_later name (x ∷ known) all =
    let first : is_named name x ≡ false = bytes_eq-sym x.realm name ∙ name-apart name x.realm (and_left (name_before name x.realm) (list_all (name_before name) (names known)) all) in
    rw first (none_later name known (and_right (name_before name x.realm) (list_all (name_before name) (names known)) all))

leads-less : (a b : List ℕ) (known : List Known) → name_before a b ≡ true → list_all (name_before b) (names known) ≡ true → list_all (name_before a) (names known) ≡ true
leads-less a b [] less all = refl
leads-less a b (x ∷ known) less all =
    let first = name-trans a b x.realm less (and_left (name_before b x.realm) (list_all (name_before b) (names known)) all) in
    let rest = leads-less a b known less (and_right (name_before b x.realm) (list_all (name_before b) (names known)) all) in
    rw (first, rest) refl

pub named_nowhere : (name : List ℕ) (known : List Known) (i : ℕ) (d : Known) → are_by_name known ≡ true → i < length known → ((j : ℕ) → j < i → is_from name (get_or known j d) ≡ false) → is_from name (get_or known i d) ≡ true → is_named name (get_or known i d) ≡ false → find (is_named name) known ≡ None
named_nowhere name [] i d rising inside before past other = refl
named_nowhere name (x ∷ known) zero d rising inside before past other =
    let less : name_before name x.realm ≡ true = name-other x.realm name past other in
    rw other (none_later name known (leads-less name x.realm known less (and_left (list_all (name_before x.realm) (names known)) (are_rising_names (names known)) rising)))
named_nowhere name (x ∷ known) (suc i) d rising inside before past other =
    let first : is_named name x ≡ false = apart name x (before 0 (omega arith)) in
    rw first (named_nowhere name known i d (and_right (list_all (name_before x.realm) (names known)) (are_rising_names (names known)) rising) (omega (arith, inside)) (λ j less. before (suc j) (omega (arith, less))) past other)

pub named_never : (name : List ℕ) (known : List Known) → ((j : ℕ) (d : Known) → j < length known → is_from name (get_or known j d) ≡ false) → find (is_named name) known ≡ None
named_never name [] before = refl
named_never name (x ∷ known) before =
    let first : is_named name x ≡ false = apart name x (before 0 x (omega arith)) in
    rw first (named_never name known (λ j d less. before (suc j) d (omega (arith, less))))
