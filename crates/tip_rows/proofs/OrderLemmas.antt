-- Rows in the order of their places: of their realms' names, and within a realm of their keys.
use Rattle.std.proofs.Common.{◌≡◌, ℕ, List, [], ◌∷◌, filter, Bool, true, false, not, ◌&&◌, ◌==◌, if◌then◌else◌, Some, None, refl, sym, ap, ◌∙◌, arith, inl, inr}
use Rattle.std.specs.List.{list_all}
use Rattle.std.specs.Str.{bytes_eq}
use Rattle.std.proofs.lemmas.Bool.{cases_Bool}
use Rattle.std.proofs.lemmas.Bool.Decides.{nat_tests}
use Rattle.tip_line.proofs.StopLemmas.{and_left, and_right}
use Rattle.tip_rows.specs.Keys.{Key, is_same, comes_before}
use Rattle.tip_rows.specs.Logs.{Log, row_at, is_rising, is_here, name_before, with_row, without_row}
use Rattle.tip_rows.specs.Memory.{Stored, part, log_in, place_before, are_placed, is_before, is_at, put_in, is_other}
use Rattle.tip_rows.specs.declared.row.Row.{Row}
use Rattle.tip_rows.specs.declared.memory.Known.{Known}
use Rattle.tip_rows.proofs.MemoryLemmas.{Shows, same_text, bytes_eq-sym}
use Rattle.tip_rows.proofs.NameLemmas.{name-apart, name-other, name-trans}

-- three numbers that are equal, one by one
same-equal : (a b c x y z : ℕ) → (a == x && b == y && c == z) ≡ true → (a ≡ x) × (b ≡ y) × (c ≡ z)
same-equal a b c x y z h =
    let ab = and_left (a == x && b == y) (c == z) h in
    let first = and_left (a == x) (b == y) ab in
    let second = and_right (a == x) (b == y) ab in
    let third = and_right (a == x && b == y) (c == z) h in
    (grind (arith, nat_tests), grind (arith, nat_tests), grind (arith, nat_tests))

-- keys that are the same are equal
pub same_key : (a b : Key) → is_same a b ≡ true → a ≡ b
same_key a b h =
    let parts = same-equal a.epoch a.connection a.number b.epoch b.connection b.number h in
    λ i. record { epoch = parts.0 i; connection = parts.1 i; number = parts.2 i }

-- of two keys it does not matter which is named first
same-sym : (a b : Key) → is_same a b ≡ is_same b a
same-sym a b = elim (cases_Bool (is_same a b)) [
  | inl same ↦ let e : a ≡ b = same_key a b same in rw e refl
  | inr other ↦ elim (cases_Bool (is_same b a)) [
    | inl same ↦ let e : b ≡ a = same_key b a same in rw e refl
    | inr both ↦ rw (other, both) refl
  ]
]

-- no key comes before itself
before-self : (a : Key) → comes_before a a ≡ false
before-self a = grind (arith, nat_tests)

-- a key that comes before another is not the same
before_not_same : (a b : Key) → comes_before a b ≡ true → is_same a b ≡ false
before_not_same a b h = elim (cases_Bool (is_same a b)) [
  | inl same ↦ let e : a ≡ b = same_key a b same in let no_such = rw e at h in cc (before-self b)
  | inr other ↦ other
]

-- a key that comes before one that comes before a third comes before that
before-trans : (a b c : Key) → comes_before a b ≡ true → comes_before b c ≡ true → comes_before a c ≡ true
before-trans a b c h k = grind (arith, nat_tests)

-- of two keys that are not the same, where the one does not come before the other, the other comes before it
before-other : (a b : Key) → comes_before a b ≡ false → is_same a b ≡ false → comes_before b a ≡ true
before-other a b h k = grind (arith, nat_tests)

-- places that are the same have one realm and one key
pub same_place : (realm : List ℕ) (key : Key) (r : List ℕ) (k : Key) → is_here realm key r k ≡ true → (realm ≡ r) × (key ≡ k)
same_place realm key r k h = (same_text realm r (and_left (bytes_eq realm r) (is_same key k) h), same_key key k (and_right (bytes_eq realm r) (is_same key k) h))

-- of two places it does not matter which is named first
pub place-sym : (realm : List ℕ) (key : Key) (r : List ℕ) (k : Key) → is_here realm key r k ≡ is_here r k realm key
place-sym realm key r k = rw (bytes_eq-sym realm r, same-sym key k) refl

-- a place that is before another is not the same
pub before_not_here : (realm : List ℕ) (key : Key) (r : List ℕ) (k : Key) → place_before realm key r k ≡ true → is_here realm key r k ≡ false
before_not_here realm key r k h = elim (cases_Bool (bytes_eq realm r)) [
  | inl own ↦ (let less : comes_before key k ≡ true = rw own at h in simp (own, before_not_same key k less))
  | inr other ↦ simp other
]

-- of two places that are not the same, where the one is not before the other, the other is before it
pub place-other : (realm : List ℕ) (key : Key) (r : List ℕ) (k : Key) → place_before realm key r k ≡ false → is_here realm key r k ≡ false → place_before r k realm key ≡ true
place-other realm key r k h apart = elim (cases_Bool (bytes_eq realm r)) [
  | inl own ↦
      let not_before : comes_before key k ≡ false = rw own at h in
      let different : is_same key k ≡ false = rw own at apart in
      simp (bytes_eq-sym r realm ∙ own) (before-other key k not_before different)
  | inr other ↦
      let not_before : name_before realm r ≡ false = rw other at h in
      simp (bytes_eq-sym r realm ∙ other) (name-other realm r (ap not not_before) other)
]

-- a place that is before one that is before a third is before that
pub place-trans : (a : List ℕ) (k : Key) (b : List ℕ) (l : Key) (c : List ℕ) (m : Key) → place_before a k b l ≡ true → place_before b l c m ≡ true → place_before a k c m ≡ true
place-trans a k b l c m first second = elim (cases_Bool (bytes_eq a b)) [
  | inl own ↦
      let e : a ≡ b = same_text a b own in
      let less : comes_before k l ≡ true = rw own at first in
      elim (cases_Bool (bytes_eq b c)) [
        | inl same ↦
            let further : comes_before l m ≡ true = rw same at second in
            simp (ap (λ (n : List ℕ). bytes_eq n c) e ∙ same) (before-trans k l m less further)
        | inr apart ↦
            let further : name_before b c ≡ true = rw apart at second in
            simp (ap (λ (n : List ℕ). bytes_eq n c) e ∙ apart) (ap (λ (n : List ℕ). name_before n c) e ∙ further)
      ]
  | inr other ↦
      let less : name_before a b ≡ true = rw other at first in
      elim (cases_Bool (bytes_eq b c)) [
        | inl same ↦
            let e : b ≡ c = same_text b c same in
            simp (ap (bytes_eq a) (sym e) ∙ other) (ap (name_before a) (sym e) ∙ less)
        | inr apart ↦
            let further : name_before b c ≡ true = rw apart at second in
            let through : name_before a c ≡ true = name-trans a b c less further in
            simp (name-apart a c through) through
      ]
]

-- a place that is before those of all rows of a list
abbrev pub leads : List ℕ → Key → List Stored → Bool
leads realm key rows = list_all (λ (t : Stored). place_before realm key t.realm t.key) rows

-- so is each place before it
pub leads-less : (a : List ℕ) (k : Key) (b : List ℕ) (l : Key) (rows : List Stored) → place_before a k b l ≡ true → leads b l rows ≡ true → leads a k rows ≡ true
leads-less a k b l [] less all = refl
leads-less a k b l (t ∷ rows) less all =
    let first = and_left (place_before b l t.realm t.key) (leads b l rows) all in
    let rest = and_right (place_before b l t.realm t.key) (leads b l rows) all in
    cc (place-trans a k b l t.realm t.key less first, leads-less a k b l rows less rest)

-- it is still before all when a row is put among them that it is before
leads-put : (a : List ℕ) (k : Key) (s : Stored) (rows : List Stored) → place_before a k s.realm s.key ≡ true → leads a k rows ≡ true → leads a k (put_in s rows) ≡ true
leads-put a k s [] less all = simp less
leads-put a k s (x ∷ rows) less all =
    let first = and_left (place_before a k x.realm x.key) (leads a k rows) all in
    let rest = and_right (place_before a k x.realm x.key) (leads a k rows) all in
    elim (cases_Bool (is_before s.realm s.key x)) [
      | inl before ↦ simp (before, first) (leads-put a k s rows less rest)
      | inr not_before ↦ elim (cases_Bool (is_at s.realm s.key x)) [
        | inl same ↦ simp (not_before, same, less) rest
        | inr different ↦ simp (not_before, different, less, first) rest
      ]
    ]

-- rows in the order of their places stay so when one is put among them
placed-put : (s : Stored) (rows : List Stored) → are_placed rows ≡ true → are_placed (put_in s rows) ≡ true
placed-put s [] placed = refl
placed-put s (x ∷ rows) placed =
    let first = and_left (leads x.realm x.key rows) (are_placed rows) placed in
    let rest = and_right (leads x.realm x.key rows) (are_placed rows) placed in
    elim (cases_Bool (is_before s.realm s.key x)) [
      | inl before ↦ simp (before, leads-put x.realm x.key s rows before first) (placed-put s rows rest)
      | inr not_before ↦ elim (cases_Bool (is_at s.realm s.key x)) [
        | inl same ↦
            let at = same_place x.realm x.key s.realm s.key same in
            let all : leads s.realm s.key rows ≡ true = (λ i. leads (sym at.0 i) (sym at.1 i) rows) ∙ first in
            simp (not_before, same, all) rest
        | inr different ↦
            let less = place-other x.realm x.key s.realm s.key not_before different in
            simp (not_before, different, less, leads-less s.realm s.key x.realm x.key rows less first, first) rest
      ]
    ]

-- a place that is before all of a list is before what a removal leaves of it
leads-removed : (a : List ℕ) (k : Key) (realm : List ℕ) (key : Key) (rows : List Stored) → leads a k rows ≡ true → leads a k (filter (is_other realm key) rows) ≡ true
leads-removed a k realm key [] all = refl
leads-removed a k realm key (x ∷ rows) all =
    let first = and_left (place_before a k x.realm x.key) (leads a k rows) all in
    let rest = leads-removed a k realm key rows (and_right (place_before a k x.realm x.key) (leads a k rows) all) in
    elim (cases_Bool (is_at realm key x)) [ inl same ↦ simp same rest | inr different ↦ simp (different, first) rest ]

-- rows in the order of their places stay so when one is removed
placed-removed : (realm : List ℕ) (key : Key) (rows : List Stored) → are_placed rows ≡ true → are_placed (filter (is_other realm key) rows) ≡ true
placed-removed realm key [] placed = refl
placed-removed realm key (x ∷ rows) placed =
    let first = leads-removed x.realm x.key realm key rows (and_left (leads x.realm x.key rows) (are_placed rows) placed) in
    let rest = placed-removed realm key rows (and_right (leads x.realm x.key rows) (are_placed rows) placed) in
    elim (cases_Bool (is_at realm key x)) [ inl same ↦ simp same rest | inr different ↦ simp (different, first) rest ]

-- a place that is before all of a list: its key comes before those of the rows of its realm
leads-part : (realm : List ℕ) (key : Key) (rows : List Stored) → leads realm key rows ≡ true → list_all (λ (e : Key × Row). comes_before key e.0) (part realm rows) ≡ true
leads-part realm key [] all = refl
leads-part realm key (x ∷ rows) all =
    let first = and_left (place_before realm key x.realm x.key) (leads realm key rows) all in
    let rest = leads-part realm key rows (and_right (place_before realm key x.realm x.key) (leads realm key rows) all) in
    elim (cases_Bool (bytes_eq x.realm realm)) [
      | inl own ↦ (let less : comes_before key x.key ≡ true = rw (bytes_eq-sym realm x.realm ∙ own) at first in simp (own, less) rest)
      | inr other ↦ simp other rest
    ]

-- of rows in the order of their places, those of one realm are by rising key
pub rising_part : (realm : List ℕ) (rows : List Stored) → are_placed rows ≡ true → is_rising (part realm rows) ≡ true
rising_part realm [] placed = refl
rising_part realm (x ∷ rows) placed =
    let first = and_left (leads x.realm x.key rows) (are_placed rows) placed in
    let rest = rising_part realm rows (and_right (leads x.realm x.key rows) (are_placed rows) placed) in
    elim (cases_Bool (bytes_eq x.realm realm)) [
      | inl own ↦
          let all : leads realm x.key rows ≡ true = ap (λ (n : List ℕ). leads n x.key rows) (sym (same_text x.realm realm own)) ∙ first in
          simp (own, leads-part realm x.key rows all) rest
      | inr other ↦ simp other rest
    ]

-- the row at a place, of one row and others: that one, if it stands there
row_at-more : (realm : List ℕ) (q : Key) (x : Stored) (rows : List Stored) → row_at q (part realm (x ∷ rows)) ≡ (if is_at realm q x then Some x.row else row_at q (part realm rows))
row_at-more realm q x rows = elim (cases_Bool (bytes_eq x.realm realm)) [
  | inl own ↦ elim (cases_Bool (is_same x.key q)) [ inl same ↦ simp (own, same) | inr apart ↦ simp (own, apart) ]
  | inr other ↦ simp other
]

-- a row that stands at one place stands at each place that is the same, and at no other
at_here : (realm : List ℕ) (key : Key) (r : List ℕ) (q : Key) (x : Stored) → is_at realm key x ≡ true → is_at r q x ≡ is_here realm key r q
at_here realm key r q x at = let e = same_place x.realm x.key realm key at in λ i. is_here (e.0 i) (e.1 i) r q

-- a place where a row stands is not one where it does not
not_here : (realm : List ℕ) (key : Key) (r : List ℕ) (q : Key) (x : Stored) → is_at realm key x ≡ false → is_at r q x ≡ true → is_here realm key r q ≡ false
not_here realm key r q x apart at = let e = same_place x.realm x.key r q at in place-sym realm key r q ∙ (λ i. is_here (sym e.0 i) (sym e.1 i) realm key) ∙ apart

-- a row that is put is found at its place, and at the others what was found there before
log-put : (s : Stored) (rows : List Stored) (realm : List ℕ) (q : Key) → row_at q (part realm (put_in s rows)) ≡ (if is_here s.realm s.key realm q then Some s.row else row_at q (part realm rows))
log-put s [] realm q = row_at-more realm q s []
log-put s (x ∷ rows) realm q = elim (cases_Bool (is_before s.realm s.key x)) [
  | inl before ↦ simp before (row_at-more realm q x (put_in s rows) ∙ elim (cases_Bool (is_at realm q x)) [
    | inl at ↦ simp (at, not_here s.realm s.key realm q x (before_not_here x.realm x.key s.realm s.key before) at, row_at-more realm q x rows)
    | inr elsewhere ↦ simp (elsewhere, row_at-more realm q x rows) (log-put s rows realm q)
  ])
  | inr not_before ↦ elim (cases_Bool (is_at s.realm s.key x)) [
    | inl same ↦ simp (not_before, same) (row_at-more realm q s rows ∙ elim (cases_Bool (is_here s.realm s.key realm q)) [
      | inl here ↦ simp here
      | inr elsewhere ↦ simp (elsewhere, row_at-more realm q x rows, at_here s.realm s.key realm q x same)
    ])
    | inr different ↦ simp (not_before, different) (row_at-more realm q s (x ∷ rows))
  ]
]

-- false, whichever way is chosen
no_choice : (b : Bool) → false ≡ (if b then false else false)
no_choice true = refl
no_choice false = refl

-- rows in memory with one put among them are in their order, and stand for the log with that row
pub Shows-put : (known : List Known) (rows : List Stored) (s : Stored) (log : Log) → Shows known rows log → Shows known (put_in s rows) (with_row s.realm s.key s.row log)
Shows-put known rows s log shown =
    let same : log_in known (put_in s rows) ≡ with_row s.realm s.key s.row (log_in known rows) =
    λ i. record (log_in known rows) { rows = λ r q. log-put s rows r q i; unreadable = λ r q. no_choice (is_here s.realm s.key r q) i } in
    record {
      kept = record { names = shown.kept.names; realms = shown.kept.realms; placed = placed-put s rows shown.kept.placed };
      same = same ∙ ap (with_row s.realm s.key s.row) shown.same;
    }

-- after a removal nothing is found at that place, and at the others what was found there before
log-removed : (realm : List ℕ) (key : Key) (rows : List Stored) (r : List ℕ) (q : Key) → row_at q (part r (filter (is_other realm key) rows)) ≡ (if is_here realm key r q then None else row_at q (part r rows))
log-removed realm key [] r q = elim (cases_Bool (is_here realm key r q)) [ inl here ↦ simp here | inr elsewhere ↦ simp elsewhere ]
log-removed realm key (x ∷ rows) r q = elim (cases_Bool (is_at realm key x)) [
  | inl at ↦ simp at (log-removed realm key rows r q ∙ elim (cases_Bool (is_here realm key r q)) [
    | inl here ↦ simp here
    | inr elsewhere ↦ simp (elsewhere, row_at-more r q x rows, at_here realm key r q x at)
  ])
  | inr apart ↦ simp apart (row_at-more r q x (filter (is_other realm key) rows) ∙ elim (cases_Bool (is_at r q x)) [
    | inl own ↦ simp (own, not_here realm key r q x apart own, row_at-more r q x rows)
    | inr other ↦ simp (other, row_at-more r q x rows) (log-removed realm key rows r q)
  ])
]

-- rows in memory with one removed are in their order, and stand for the log without it
pub Shows-removed : (known : List Known) (rows : List Stored) (realm : List ℕ) (key : Key) (log : Log) → Shows known rows log → Shows known (filter (is_other realm key) rows) (without_row realm key log)
Shows-removed known rows realm key log shown =
    let same : log_in known (filter (is_other realm key) rows) ≡ without_row realm key (log_in known rows) =
    λ i. record (log_in known rows) { rows = λ r q. log-removed realm key rows r q i; unreadable = λ r q. no_choice (is_here realm key r q) i } in
    record {
      kept = record { names = shown.kept.names; realms = shown.kept.realms; placed = placed-removed realm key rows shown.kept.placed };
      same = same ∙ ap (without_row realm key) shown.same;
    }
