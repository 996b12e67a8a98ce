-- The rows of one realm among all.
use Rattle.std.proofs.Common.{◌≡◌, ℕ, zero, suc, ◌<◌, ◌≤◌, List, [], ◌∷◌, length, take, drop, get_or, map, filter, Bool, true, false, nat_lt, None, refl, ap, ◌∙◌, arith, inl, inr}
use Rattle.std.specs.List.{AllWithin, position, position_or_len}
use Rattle.std.specs.List.Sorted.{IsPartitionPoint, IsPartitionedBy}
use Rattle.std.proofs.lemmas.Bool.Decides.{nat_tests}
use Rattle.std.proofs.lemmas.List.Sums.{fails_before_first}
use Rattle.std.specs.Str.{bytes_eq}
use Rattle.std.proofs.lemmas.Bool.{cases_Bool}
use Rattle.tip_line.proofs.StopLemmas.{and_right}
use Rattle.tip_rows.specs.Keys.{Key}
use Rattle.tip_rows.specs.Logs.{name_before}
use Rattle.tip_rows.specs.Memory.{Stored, part, place_before, are_placed, is_of, is_of_earlier}
use Rattle.tip_rows.specs.declared.row.Row.{Row}
use Rattle.tip_rows.proofs.MemoryLemmas.{same_text}
use Rattle.tip_rows.proofs.NameLemmas.{name-apart, name-trans}
use Rattle.tip_rows.proofs.OrderLemmas.{leads}
use Rattle.tip_rows.proofs.PlaceLemmas.{parted}

-- the key and the row of each row of a realm, in order
pub part-of : (realm : List ℕ) (rows : List Stored) → map (λ (s : Stored). (s.key, s.row)) (filter (is_of realm) rows) ≡ part realm rows
part-of realm [] = refl
part-of realm (s ∷ rows) = elim (cases_Bool (bytes_eq s.realm realm)) [
  | inl own ↦ simp own (ap (λ (es : List (Key × Row)). (s.key, s.row) ∷ es) (part-of realm rows))
  | inr other ↦ simp other (part-of realm rows)
]

-- a row that stands before one of an earlier realm is of an earlier realm
earlier-back : (realm : List ℕ) (x y : Stored) → place_before x.realm x.key y.realm y.key ≡ true → is_of_earlier realm y ≡ true → is_of_earlier realm x ≡ true
earlier-back realm x y before earlier = elim (cases_Bool (bytes_eq x.realm y.realm)) [
  | inl same ↦ ap (λ (n : List ℕ). name_before n realm) (same_text x.realm y.realm same) ∙ earlier
  | inr apart ↦ (let less : name_before x.realm y.realm ≡ true = rw apart at before in name-trans x.realm y.realm realm less earlier)
]

-- rows in the order of their places: those of earlier realms are in front
pub parted-earlier : (realm : List ℕ) (rows : List Stored) → are_placed rows ≡ true → IsPartitionedBy (is_of_earlier realm) rows
parted-earlier realm rows placed = parted (is_of_earlier realm) rows placed (λ i y d less. earlier-back realm (get_or rows i d) y)

-- a row of no earlier realm that stands before one of the realm is of the realm
own-back : (realm : List ℕ) (x y : Stored) → is_of_earlier realm x ≡ false → place_before x.realm x.key y.realm y.key ≡ true → is_of realm y ≡ true → is_of realm x ≡ true
own-back realm x y late before own = elim (cases_Bool (bytes_eq x.realm y.realm)) [
  | inl same ↦ ap (λ (n : List ℕ). bytes_eq n realm) (same_text x.realm y.realm same) ∙ own
  | inr apart ↦
      let less : name_before x.realm y.realm ≡ true = rw apart at before in
      cc (ap (name_before x.realm) (same_text y.realm realm own), less, late)
]

-- rows in the order of their places without some at the front are still so
placed-drop : (n : ℕ) (rows : List Stored) → are_placed rows ≡ true → are_placed (drop n rows) ≡ true
placed-drop zero rows placed = placed
placed-drop (suc n) [] placed = refl
placed-drop (suc n) (x ∷ rows) placed = placed-drop n rows (and_right (leads x.realm x.key rows) (are_placed rows) placed)

-- without those at the front that may be of earlier realms, none is
none-earlier : (realm : List ℕ) (rows : List Stored) (start : ℕ) → AllWithin (λ x. is_of_earlier realm x ≡ false) rows start (length rows) → AllWithin (λ x. is_of_earlier realm x ≡ false) (drop start rows) 0 (length (drop start rows))
none-earlier realm rows zero late = late
none-earlier realm [] (suc start) late = λ k d _ less. absurd (omega (arith, less))
none-earlier realm (x ∷ rows) (suc start) late = none-earlier realm rows start (λ k d from less. late (suc k) d (omega (arith, from)) (omega (arith, less)))

-- behind the rows of earlier realms those of the realm are in front
pub parted-own : (realm : List ℕ) (rows : List Stored) (start : ℕ) → are_placed rows ≡ true → IsPartitionPoint (λ x. is_of_earlier realm x ≡ true) (λ x. is_of_earlier realm x ≡ false) rows start → IsPartitionedBy (is_of realm) (drop start rows)
parted-own realm rows start placed point =
    let late = none-earlier realm rows start point.1 in
    parted (is_of realm) (drop start rows) (placed-drop start rows placed) (λ i y d less. own-back realm (get_or (drop start rows) i d) y (late i d (omega arith) less))

-- of rows where all that a test passes are in front: those are what a filter by it keeps
front-passes : (p : Stored → Bool) (rows : List Stored) (i : ℕ) → IsPartitionPoint (λ x. p x ≡ true) (λ x. p x ≡ false) rows i → i ≤ length rows → take i rows ≡ filter p rows
front-passes p [] zero point within = refl
front-passes p [] (suc i) point within = absurd (omega (arith, within))
front-passes p (x ∷ rows) zero point within =
    let first : p x ≡ false = point.1 0 x (omega arith) (omega arith) in
    simp first (front-passes p rows zero ((λ k d _ less. absurd (omega (arith, less))), (λ k d from less. point.1 (suc k) d (omega arith) (omega (arith, less)))) (omega arith))
front-passes p (x ∷ rows) (suc i) point within =
    let first : p x ≡ true = point.0 0 x (omega arith) (omega arith) in
    simp first (ap (λ (xs : List Stored). x ∷ xs) (front-passes p rows i ((λ k d from less. point.0 (suc k) d (omega arith) (omega (arith, less))), (λ k d from less. point.1 (suc k) d (omega (arith, from)) (omega (arith, less)))) (omega (arith, within))))

-- without those of earlier realms at the front, the rows of the realm are all there
own-behind : (realm : List ℕ) (rows : List Stored) (start : ℕ) → AllWithin (λ x. is_of_earlier realm x ≡ true) rows 0 start → filter (is_of realm) (drop start rows) ≡ filter (is_of realm) rows
own-behind realm rows zero front = refl
own-behind realm [] (suc start) front = refl
own-behind realm (x ∷ rows) (suc start) front =
    let other : is_of realm x ≡ false = name-apart x.realm realm (front 0 x (omega arith) (omega arith)) in
    simp other (own-behind realm rows start (λ k d from less. front (suc k) d (omega arith) (omega (arith, less))))

-- the rows between those of earlier realms and those of later ones are the rows of the realm
pub run-own : (realm : List ℕ) (rows : List Stored) (start len : ℕ) → AllWithin (λ x. is_of_earlier realm x ≡ true) rows 0 start → IsPartitionPoint (λ x. is_of realm x ≡ true) (λ x. is_of realm x ≡ false) (drop start rows) len → len ≤ length (drop start rows) → take len (drop start rows) ≡ filter (is_of realm) rows
run-own realm rows start len front point within = front-passes (is_of realm) (drop start rows) len point within ∙ own-behind realm rows start front

-- a search that finds nothing
pub position-None : {X : Type 0} (test : X → Bool) (xs : List X) (d : X) → position test xs ≡ None → (k : ℕ) → k < length xs → test (get_or xs k d) ≡ false
position-None test xs d none k inside =
    elim (cases_Bool (nat_lt (position_or_len test xs) (length xs))) [
      | inl less ↦ cc
      | inr not_less ↦ fails_before_first test xs k d (grind (arith, nat_tests))
    ]
