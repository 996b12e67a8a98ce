-- Where a row has its place among all, and what is put and removed there.
use Rattle.std.proofs.Common.{◌≡◌, ℕ, zero, suc, ◌<◌, ◌≤◌, List, [], ◌∷◌, length, get_or, slice_set, insert, filter, Bool, true, false, refl, sym, ap, ◌∙◌, arith, inl, inr}
use Rattle.std.specs.Prelude.{remove}
use Rattle.std.specs.List.{AllWithin}
use Rattle.std.specs.Ordering.{is_eq, nat_cmp}
use Rattle.std.specs.declared.cmp.Ordering.TheVariants.{Less, Equal, Greater}
use Rattle.std.specs.Cmp.Lexicographic.{slice_cmp}
use Rattle.std.proofs.lemmas.Map.Text.{is_eq-slice_cmp}
use Rattle.std.specs.List.Sorted.{IsPartitionPoint, IsPartitionedBy}
use Rattle.std.proofs.lemmas.Bool.{cases_Bool}
use Rattle.tip_line.proofs.StopLemmas.{and_left, and_right}
use Rattle.tip_rows.specs.Keys.{Key, comes_before}
use Rattle.tip_rows.specs.declared.row.Row.{Row}
use Rattle.tip_rows.specs.Memory.{Stored, place_before, are_placed, is_before, is_at, is_other, stands_at, put_in}
use Rattle.tip_rows.proofs.OrderLemmas.{before_not_here, leads, leads-less, place-other, place-sym, place-trans, same_place}

-- a place that is before all of a list is before that of each row of it
leads-at : (realm : List ℕ) (key : Key) (rows : List Stored) (k : ℕ) (d : Stored) → leads realm key rows ≡ true → k < length rows → place_before realm key (get_or rows k d).realm (get_or rows k d).key ≡ true
leads-at realm key [] k d all less = absurd (omega (arith, less))
leads-at realm key (t ∷ rows) zero d all less = and_left (place_before realm key t.realm t.key) (leads realm key rows) all
leads-at realm key (t ∷ rows) (suc k) d all less = leads-at realm key rows k d (and_right (place_before realm key t.realm t.key) (leads realm key rows) all) (omega (arith, less))

-- rows in the order of their places: where a test passes each row that stands before one that it passes, those that it passes are in front
pub parted : (p : Stored → Bool) (rows : List Stored) → are_placed rows ≡ true → ((i : ℕ) (y d : Stored) → i < length rows → place_before (get_or rows i d).realm (get_or rows i d).key y.realm y.key ≡ true → p y ≡ true → p (get_or rows i d) ≡ true) → IsPartitionedBy p rows
parted p [] placed back i j d le within passes = absurd (omega (arith, within))
parted p (x ∷ rows) placed back zero zero d le within passes = passes
parted p (x ∷ rows) placed back zero (suc j) d le within passes =
    let first = and_left (leads x.realm x.key rows) (are_placed rows) placed in
    back 0 (get_or rows j d) d (omega arith) (leads-at x.realm x.key rows j d first (omega (arith, within))) passes
parted p (x ∷ rows) placed back (suc i) zero d le within passes = absurd (omega (arith, le))
parted p (x ∷ rows) placed back (suc i) (suc j) d le within passes =
    let rest = and_right (leads x.realm x.key rows) (are_placed rows) placed in
    parted p rows rest (λ k y e less. back (suc k) y e (omega (arith, less))) i j d (omega (arith, le)) (omega (arith, within)) passes

-- so are the rows that stand before a place
pub parted-before : (realm : List ℕ) (key : Key) (rows : List Stored) → are_placed rows ≡ true → IsPartitionedBy (is_before realm key) rows
parted-before realm key rows placed = parted (is_before realm key) rows placed (λ i y d less before passes. place-trans (get_or rows i d).realm (get_or rows i d).key y.realm y.key realm key before passes)

-- a row of an earlier realm stands before a place
pub names_less : (realm : List ℕ) (key : Key) (s : Stored) → slice_cmp nat_cmp s.realm realm ≡ Less → is_before realm key s ≡ true
names_less realm key s order = simp (sym (is_eq-slice_cmp s.realm realm) ∙ ap is_eq order, order)

-- a row of the same realm stands before a place if its key comes before that of the place
pub names_equal : (realm : List ℕ) (key : Key) (s : Stored) → slice_cmp nat_cmp s.realm realm ≡ Equal → is_before realm key s ≡ comes_before s.key key
names_equal realm key s order = rw (sym (is_eq-slice_cmp s.realm realm) ∙ ap is_eq order) refl

-- a row of a later realm does not stand before a place
pub names_greater : (realm : List ℕ) (key : Key) (s : Stored) → slice_cmp nat_cmp s.realm realm ≡ Greater → is_before realm key s ≡ false
names_greater realm key s order = simp (sym (is_eq-slice_cmp s.realm realm) ∙ ap is_eq order, order)

-- a row that stands at a place does not stand before it
at_not_before : (realm : List ℕ) (key : Key) (x : Stored) → is_at realm key x ≡ true → is_before realm key x ≡ false
at_not_before realm key x at = elim (cases_Bool (is_before realm key x)) [
  | inl before ↦ cc (before_not_here x.realm x.key realm key before, at)
  | inr not_before ↦ not_before
]

-- a row set in place of the one that stands where it belongs
pub put_over : (s : Stored) (rows : List Stored) (i : ℕ) → AllWithin (λ x. is_before s.realm s.key x ≡ true) rows 0 i → stands_at s.realm s.key rows i ≡ true → slice_set rows i s ≡ put_in s rows
put_over s [] i front at = absurd (cc)
put_over s (x ∷ rows) zero front at = simp (at_not_before s.realm s.key x at, at)
put_over s (x ∷ rows) (suc i) front at =
    let first : is_before s.realm s.key x ≡ true = front 0 x (omega arith) (omega arith) in
    simp first (ap (λ (xs : List Stored). x ∷ xs) (put_over s rows i (λ k d from less. front (suc k) d (omega arith) (omega (arith, less))) at))

at_here : (realm : List ℕ) (key : Key) (rows : List Stored) (i : ℕ) (d : Stored) → stands_at realm key rows i ≡ true → is_at realm key (get_or rows i d) ≡ true
at_here realm key [] i d at = absurd (cc)
at_here realm key (x ∷ rows) zero d at = at
at_here realm key (x ∷ rows) (suc i) d at = at_here realm key rows i d at

-- the same where what is set is the row alone
pub put_within : (realm : List ℕ) (key : Key) (row : Row) (rows : List Stored) (i : ℕ) (old : Stored) → AllWithin (λ x. is_before realm key x ≡ true) rows 0 i → stands_at realm key rows i ≡ true → get_or rows i old ≡ old → slice_set rows i (record old { row = row }) ≡ put_in (record { realm = realm; key = key; row = row }) rows
put_within realm key row rows i old front at here =
    let same = same_place old.realm old.key realm key (ap (is_at realm key) (sym here) ∙ at_here realm key rows i old at) in
    let set : record old { row = row } ≡ record { realm = realm; key = key; row = row } = λ i. record { realm = same.0 i; key = same.1 i; row = row } in
    ap (slice_set rows i) set ∙ put_over (record { realm = realm; key = key; row = row }) rows i front at

-- a row inserted between those that stand before its place and the others, where none stands at it
pub put_new : (s : Stored) (rows : List Stored) (i : ℕ) → IsPartitionPoint (λ x. is_before s.realm s.key x ≡ true) (λ x. is_before s.realm s.key x ≡ false) rows i → i ≤ length rows → stands_at s.realm s.key rows i ≡ false → insert rows i s ≡ put_in s rows
put_new s [] zero point within at = refl
put_new s [] (suc i) point within at = absurd (omega (arith, within))
put_new s (x ∷ rows) zero point within at =
    let not_before : is_before s.realm s.key x ≡ false = point.1 0 x (omega arith) (omega arith) in
    simp (not_before, at)
put_new s (x ∷ rows) (suc i) point within at =
    let first : is_before s.realm s.key x ≡ true = point.0 0 x (omega arith) (omega arith) in
    simp first (ap (λ (xs : List Stored). x ∷ xs) (put_new s rows i ((λ k d from less. point.0 (suc k) d (omega arith) (omega (arith, less))), (λ k d from less. point.1 (suc k) d (omega (arith, from)) (omega (arith, less)))) (omega (arith, within)) at))

-- no row of a list stands at a place that is before all of them
none_behind : (realm : List ℕ) (key : Key) (rows : List Stored) → leads realm key rows ≡ true → filter (is_other realm key) rows ≡ rows
none_behind realm key [] all = refl
none_behind realm key (x ∷ rows) all =
    let first = and_left (place_before realm key x.realm x.key) (leads realm key rows) all in
    let rest = and_right (place_before realm key x.realm x.key) (leads realm key rows) all in
    let apart : is_at realm key x ≡ false = place-sym x.realm x.key realm key ∙ before_not_here realm key x.realm x.key first in
    simp apart (ap (λ (xs : List Stored). x ∷ xs) (none_behind realm key rows rest))

-- the row that stands at a place taken out: no other row stands there
pub taken_out : (realm : List ℕ) (key : Key) (rows : List Stored) (i : ℕ) → are_placed rows ≡ true → AllWithin (λ x. is_before realm key x ≡ true) rows 0 i → stands_at realm key rows i ≡ true → remove rows i ≡ filter (is_other realm key) rows
taken_out realm key [] i placed front at = absurd (cc)
taken_out realm key (x ∷ rows) zero placed front at =
    let e = same_place x.realm x.key realm key at in
    let all : leads realm key rows ≡ true = (λ i. leads (sym e.0 i) (sym e.1 i) rows) ∙ and_left (leads x.realm x.key rows) (are_placed rows) placed in
    simp at (sym (none_behind realm key rows all))
taken_out realm key (x ∷ rows) (suc i) placed front at =
    let apart : is_at realm key x ≡ false = before_not_here x.realm x.key realm key (front 0 x (omega arith) (omega arith)) in
    simp apart (ap (λ (xs : List Stored). x ∷ xs) (taken_out realm key rows i (and_right (leads x.realm x.key rows) (are_placed rows) placed) (λ k d from less. front (suc k) d (omega arith) (omega (arith, less))) at))

-- where no row stands at a place between those before it and the others, none stands there at all
pub none_taken : (realm : List ℕ) (key : Key) (rows : List Stored) (i : ℕ) → are_placed rows ≡ true → IsPartitionPoint (λ x. is_before realm key x ≡ true) (λ x. is_before realm key x ≡ false) rows i → i ≤ length rows → stands_at realm key rows i ≡ false → rows ≡ filter (is_other realm key) rows
none_taken realm key [] i placed point within at = refl
none_taken realm key (x ∷ rows) zero placed point within at =
    let not_before : is_before realm key x ≡ false = point.1 0 x (omega arith) (omega arith) in
    let less = place-other x.realm x.key realm key not_before at in
    let all = leads-less realm key x.realm x.key rows less (and_left (leads x.realm x.key rows) (are_placed rows) placed) in
    simp at (ap (λ (xs : List Stored). x ∷ xs) (sym (none_behind realm key rows all)))
none_taken realm key (x ∷ rows) (suc i) placed point within at =
    let apart : is_at realm key x ≡ false = before_not_here x.realm x.key realm key (point.0 0 x (omega arith) (omega arith)) in
    simp apart (ap (λ (xs : List Stored). x ∷ xs) (none_taken realm key rows i (and_right (leads x.realm x.key rows) (are_placed rows) placed) ((λ k d from less. point.0 (suc k) d (omega arith) (omega (arith, less))), (λ k d from less. point.1 (suc k) d (omega (arith, from)) (omega (arith, less)))) (omega (arith, within)) at))
