-- The marks of one journal, and the entries of passes for which they stand.
use Rattle.std.proofs.Common.{◌≡◌, ℕ, zero, suc, ◌+◌, ◌-◌, ◌<◌, ◌≤◌, List, [], ◌∷◌, ◌++◌, length, Some, Bool, true, false, refl, sym, ap, ◌∙◌, subst, arith, inl, inr, replicate, length-set}
use Rattle.std.specs.Prelude.{◌==◌, ◌↔◌, IsTrue, slice_set, slice_get, if◌then◌else◌, All, cond}
use Rattle.std.proofs.lemmas.Bool.{cases_Bool}
use Rattle.std.proofs.lemmas.Bool.Decides.{nat_tests}
use Rattle.std.proofs.lemmas.List.{append-nil, length-replicate}
use Rattle.std.proofs.lemmas.List.Elements.{All-nil, All-push, filter-append}
use Rattle.std.proofs.lemmas.List.Sums.{sum_by-append, sum_by-cons, sum_by_push}
use Rattle.std.proofs.lemmas.Option.{slice_get_within, none-some}
use Rattle.tip_journal.specs.Journal.{at_number}
use Rattle.tip_journal.specs.Pass.{Held, is_of, own}
use Rattle.tip_journal.specs.Audit.{Follows, times, times_in, IsAudited}
use Rattle.tip_journal.specs.Sheets.{Marked, CanMark, last_in, marked}
use Rattle.tip_journal.specs.declared.pass.Noted.{Noted}
use Rattle.tip_journal.proofs.Lists.{All-at, All-from_at, All-middle}

-- 1 where the number is this one
abbrev pub hit : ℕ → ℕ → ℕ
hit m n = cond (m == n) 1 0

-- 1 where the place is marked
abbrev pub bit_at : List Bool → ℕ → ℕ
bit_at [] n = 0
bit_at (b ∷ bs) zero = if b then 1 else 0
bit_at (b ∷ bs) (suc n) = bit_at bs n

hit-next : (m n : ℕ) → hit (m + 1) (n + 1) ≡ hit m n
hit-next m n = grind (arith, nat_tests)

bit-free : (bs : List Bool) (k : ℕ) → slice_get bs k ≡ Some false → bit_at bs k ≡ 0
bit-free [] k free = absurd (cc)
bit-free (b ∷ bs) zero free = let is : b ≡ false = cc in rw is refl
bit-free (b ∷ bs) (suc k) free = bit-free bs k free

free-bit : (bs : List Bool) (k : ℕ) → k < length bs → bit_at bs k ≡ 0 → slice_get bs k ≡ Some false
free-bit [] k within none = absurd (omega arith)
free-bit (true ∷ bs) zero within none = absurd (omega arith)
free-bit (false ∷ bs) zero within none = refl
free-bit (b ∷ bs) (suc k) within none = free-bit bs k (omega arith) none

bit-set : (bs : List Bool) (k n : ℕ) → slice_get bs k ≡ Some false → bit_at (slice_set bs k true) n ≡ bit_at bs n + hit k n
bit-set [] k n free = absurd (cc)
bit-set (b ∷ bs) zero zero free = let is : b ≡ false = cc in rw is refl
bit-set (b ∷ bs) zero (suc n) free = grind (arith, nat_tests)
bit-set (b ∷ bs) (suc k) zero free = grind (arith, nat_tests)
bit-set (b ∷ bs) (suc k) (suc n) free = let rest = bit-set bs k n free in grind (arith, nat_tests, rest)

bit-full : (bs : List Bool) (k : ℕ) → slice_get bs k ≡ Some true → bit_at bs k ≡ 1
bit-full [] k full = absurd (cc)
bit-full (b ∷ bs) zero full = let is : b ≡ true = cc in rw is refl
bit-full (b ∷ bs) (suc k) full = bit-full bs k full

full-bit : (bs : List Bool) (k : ℕ) (b : Bool) → slice_get bs k ≡ Some b → bit_at bs k ≡ 1 → b ≡ true
full-bit bs k true is one = refl
full-bit bs k false is one = absurd (let none = bit-free bs k is in omega arith)

get-within : (bs : List Bool) (k : ℕ) → k < length bs → (b : Bool) × (slice_get bs k ≡ Some b)
get-within [] k within = absurd (omega arith)
get-within (b ∷ bs) zero within = (b, refl)
get-within (b ∷ bs) (suc k) within = get-within bs k (omega arith)

bit-none : (k n : ℕ) → bit_at (replicate k false) n ≡ 0
bit-none zero n = refl
bit-none (suc k) zero = refl
bit-none (suc k) (suc n) = bit-none k n

-- an entry that stands at its number has a place
pub place-of : {E : Type 0} (entries : List E) (number : ℕ) (x : E) → at_number entries number ≡ Some x → (0 < number) × (number - 1 < length entries)
place-of entries zero x is = absurd (none-some x is)
place-of entries (suc n) x is = let within = slice_get_within entries n x is in (omega arith, omega arith)

own-yes : {E : Type 0} (realm epoch : ℕ) (xs : List (Noted E)) (x : Noted E) → is_of realm epoch x ≡ true → own realm epoch (xs ++ x ∷ []) ≡ own realm epoch xs ++ x ∷ []
own-yes realm epoch xs x mine = filter-append (is_of realm epoch) xs (x ∷ []) ∙ ap (λ b. own realm epoch xs ++ cond b (x ∷ []) []) mine

own-no : {E : Type 0} (realm epoch : ℕ) (xs : List (Noted E)) (x : Noted E) → is_of realm epoch x ≡ false → own realm epoch (xs ++ x ∷ []) ≡ own realm epoch xs
own-no realm epoch xs x theirs = filter-append (is_of realm epoch) xs (x ∷ []) ∙ ap (λ b. own realm epoch xs ++ cond b (x ∷ []) []) theirs ∙ append-nil (own realm epoch xs)

own-cut : {E : Type 0} (realm epoch : ℕ) (xs : List (Noted E)) (x : Noted E) (ys : List (Noted E)) → is_of realm epoch x ≡ true → own realm epoch (xs ++ x ∷ ys) ≡ own realm epoch xs ++ x ∷ own realm epoch ys
own-cut realm epoch xs x ys mine = filter-append (is_of realm epoch) xs (x ∷ ys) ∙ ap (λ b. own realm epoch xs ++ cond b (x ∷ own realm epoch ys) (own realm epoch ys)) mine

-- the number of the last one
abbrev pub last_number_of : {E : Type 0} → ℕ → List (Noted E) → ℕ
last_number_of n [] = n
last_number_of n (x ∷ xs) = last_number_of x.number xs

last_number-push : {E : Type 0} (n : ℕ) (xs : List (Noted E)) (x : Noted E) → last_number_of n (xs ++ x ∷ []) ≡ x.number
last_number-push n [] x = refl
last_number-push n (y ∷ xs) x = last_number-push y.number xs x

follows-push : {E : Type 0} (entries : List E) (n : ℕ) (xs : List (Noted E)) (x : Noted E) → Follows entries n xs → last_number_of n xs < x.number → at_number entries x.number ≡ Some x.entry → Follows entries n (xs ++ x ∷ [])
follows-push entries n [] x follows rises is = (rises, is, tt)
follows-push entries n (y ∷ xs) x follows rises is = (follows.0, follows.1, follows-push entries y.number xs x follows.2 rises is)

follows-cut : {E : Type 0} (entries : List E) (n : ℕ) (xs : List (Noted E)) (x : Noted E) (ys : List (Noted E)) → Follows entries n (xs ++ x ∷ ys) → (last_number_of n xs < x.number) × (at_number entries x.number ≡ Some x.entry)
follows-cut entries n [] x ys follows = (follows.0, follows.1)
follows-cut entries n (y ∷ xs) x ys follows = follows-cut entries y.number xs x ys follows.2

-- The sheet of a journal stands for the entries of these passes, and of those noted, which are of the pass of this place.
pub record Stands {E : Type 0} (realm epoch : ℕ) (entries : List E) (passes : List (Held E)) (pass : ℕ) (noted : List (Noted E)) (sheet : Marked) : Type 0 where
  pub long : length sheet.marks ≡ length entries
  pub reached : sheet.pass ≤ pass
  pub last : last_in pass sheet ≡ last_number_of 0 (own realm epoch noted)
  pub follow : All (λ p. Follows entries 0 (own realm epoch p.noted)) passes
  pub follows : Follows entries 0 (own realm epoch noted)
  pub counted : (n : ℕ) → bit_at sheet.marks n ≡ times_in realm epoch (n + 1) passes + times (n + 1) (own realm epoch noted)

pub stands-blank : {E : Type 0} (realm epoch : ℕ) (entries : List E) → Stands realm epoch entries [] 0 [] (record { pass = 0; last = 0; marks = replicate (length entries) false })
stands-blank realm epoch entries = record {
  long = length-replicate (length entries) false;
  reached = omega arith;
  last = refl;
  follow = All-nil (λ p. Follows entries 0 (own realm epoch p.noted));
  follows = tt;
  counted = bit-none (length entries);
}

pub stands-next : {E : Type 0} (realm epoch : ℕ) (entries : List E) (passes : List (Held E)) (pass : ℕ) (held : Held E) (sheet : Marked) → Stands realm epoch entries passes pass held.noted sheet → Stands realm epoch entries (passes ++ held ∷ []) (pass + 1) [] sheet
stands-next realm epoch entries passes pass held sheet is =
    let none : (sheet.pass == pass + 1) ≡ false = grind (arith, nat_tests, is.reached) in record {
      long = is.long;
      reached = omega (arith, is.reached);
      last = rw none refl;
      follow = All-push (λ p. Follows entries 0 (own realm epoch p.noted)) passes held is.follow is.follows;
      follows = tt;
      counted = λ n. omega (arith, is.counted n, sum_by_push (λ p. times (n + 1) (own realm epoch p.noted)) passes held);
    }

pub stands-own : {E : Type 0} (realm epoch : ℕ) (entries : List E) (passes : List (Held E)) (pass : ℕ) (noted : List (Noted E)) (x : Noted E) (sheet : Marked) → Stands realm epoch entries passes pass noted sheet → is_of realm epoch x ≡ true → CanMark entries pass x sheet → Stands realm epoch entries passes pass (noted ++ x ∷ []) (marked pass x sheet)
stands-own realm epoch entries passes pass noted x sheet is mine can =
    let now = own-yes realm epoch noted x mine in
    let place = place-of entries x.number x.entry can.stands in
    let here : (pass == pass) ≡ true = grind (arith, nat_tests) in
    let rises : last_number_of 0 (own realm epoch noted) < x.number = omega (arith, is.last, can.rises) in
    let back : x.number - 1 + 1 ≡ x.number = omega (arith, place) in record {
      long = length-set sheet.marks (x.number - 1) true ∙ is.long;
      reached = omega arith;
      last = rw here (sym (ap (last_number_of 0) now ∙ last_number-push 0 (own realm epoch noted) x));
      follow = is.follow;
      follows = subst (Follows entries 0) (sym now) (follows-push entries 0 (own realm epoch noted) x is.follows rises can.stands);
      counted = λ n.
          let set = bit-set sheet.marks (x.number - 1) n can.free in
          let shift : hit (x.number - 1) n ≡ hit x.number (n + 1) = sym (hit-next (x.number - 1) n) ∙ ap (λ m. hit m (n + 1)) back in
          let more = ap (times (n + 1)) now ∙ sum_by_push (λ (y : Noted _). hit y.number (n + 1)) (own realm epoch noted) x in
          omega (arith, set, shift, more, is.counted n);
    }

pub stands-other : {E : Type 0} (realm epoch : ℕ) (entries : List E) (passes : List (Held E)) (pass : ℕ) (noted : List (Noted E)) (x : Noted E) (sheet : Marked) → Stands realm epoch entries passes pass noted sheet → is_of realm epoch x ≡ false → Stands realm epoch entries passes pass (noted ++ x ∷ []) sheet
stands-other realm epoch entries passes pass noted x sheet is theirs =
    let now = own-no realm epoch noted x theirs in record {
      long = is.long;
      reached = is.reached;
      last = is.last ∙ ap (last_number_of 0) (sym now);
      follow = is.follow;
      follows = subst (Follows entries 0) (sym now) is.follows;
      counted = λ n. is.counted n ∙ ap (λ ys. times_in realm epoch (n + 1) passes + times (n + 1) ys) (sym now);
    }

-- where the journal is right, its next entry can be marked
pub can-mark : {E : Type 0} (realm epoch : ℕ) (entries : List E) (passes : List (Held E)) (pass : ℕ) (noted : List (Noted E)) (x : Noted E) (sheet : Marked) (held : Held E) (after : List (Noted E)) (rest : List (Held E)) → Stands realm epoch entries passes pass noted sheet → is_of realm epoch x ≡ true → held.noted ≡ noted ++ x ∷ after → IsAudited realm epoch entries (passes ++ held ∷ rest) → CanMark entries pass x sheet
can-mark realm epoch entries passes pass noted x sheet held after rest is mine cut audited =
    let now = ap (own realm epoch) cut ∙ own-cut realm epoch noted x after mine in
    let follows = follows-cut entries 0 (own realm epoch noted) x (own realm epoch after) (subst (Follows entries 0) now (All-middle (λ p. Follows entries 0 (own realm epoch p.noted)) passes held rest audited.follow)) in
    let place = place-of entries x.number x.entry follows.1 in
    let n = x.number - 1 in
    let same : x.number ≡ n + 1 = omega (arith, place) in
    let one : hit x.number (n + 1) ≡ 1 = let is : (x.number == n + 1) ≡ true = grind (arith, nat_tests, same) in rw is refl in
    let count : times_in realm epoch (n + 1) (passes ++ held ∷ rest) ≡ 1 = audited.once (n + 1) (omega arith) (omega (arith, place)) in
    let passed = sum_by-append (λ (p : Held _). times (n + 1) (own realm epoch p.noted)) passes (held ∷ rest) in
    let own-pass = sum_by-cons (λ (p : Held _). times (n + 1) (own realm epoch p.noted)) held rest in
    let inside = ap (times (n + 1)) now ∙ sum_by-append (λ (y : Noted _). hit y.number (n + 1)) (own realm epoch noted) (x ∷ own realm epoch after) in
    let head = sum_by-cons (λ (y : Noted _). hit y.number (n + 1)) x (own realm epoch after) in
    record {
      rises = omega (arith, is.last, follows.0);
      stands = follows.1;
      free = free-bit sheet.marks n (omega (arith, is.long, place)) (omega (arith, is.counted n, count, passed, own-pass, inside, head, one));
    }

-- once all passes were walked over, the journal is right where all is marked
pub audited-full : {E : Type 0} (realm epoch : ℕ) (entries : List E) (passes : List (Held E)) (pass : ℕ) (sheet : Marked) → Stands realm epoch entries passes pass [] sheet → All (λ mark. mark ≡ true) sheet.marks → IsAudited realm epoch entries passes
audited-full realm epoch entries passes pass sheet is full = record {
  follow = is.follow;
  once = λ number above within.
      let n = number - 1 in
      let back : n + 1 ≡ number = omega arith in
      let mark = get-within sheet.marks n (omega (arith, is.long)) in
      let mine : mark.0 ≡ true = All-at (λ m. m ≡ true) sheet.marks n mark.0 full mark.1 in
      let one : bit_at sheet.marks n ≡ 1 = bit-full sheet.marks n (mark.1 ∙ ap Some mine) in
      ap (λ m. times_in realm epoch m passes) (sym back) ∙ omega (arith, is.counted n, one);
}

pub full-audited : {E : Type 0} (realm epoch : ℕ) (entries : List E) (passes : List (Held E)) (pass : ℕ) (sheet : Marked) → Stands realm epoch entries passes pass [] sheet → IsAudited realm epoch entries passes → All (λ mark. mark ≡ true) sheet.marks
full-audited realm epoch entries passes pass sheet is audited =
    All-from_at (λ m. m ≡ true) sheet.marks
    (λ n b at.
    let within = slice_get_within sheet.marks n b at in
    let one = audited.once (n + 1) (omega arith) (omega (arith, within, is.long)) in
    full-bit sheet.marks n b at (omega (arith, is.counted n, one)))

-- An entry that is marked if it is this journal's

module _ {E : Type 0} (realm epoch : ℕ) (entries : List E) (passes : List (Held E)) (pass : ℕ) (noted : List (Noted E)) (x : Noted E) (old new : Marked) (result : Bool) (stands : Stands realm epoch entries passes pass noted old)
    (can : is_of realm epoch x ≡ true → IsTrue result ↔ CanMark entries pass x old) (now : is_of realm epoch x ≡ true → IsTrue result → new ≡ marked pass x old) (theirs : is_of realm epoch x ≡ false → (result ≡ true) × (new ≡ old)) where
  pub stands-more : result ≡ true → Stands realm epoch entries passes pass (noted ++ x ∷ []) new
  stands-more taken = elim (cases_Bool (is_of realm epoch x)) [
    | inl mine ↦ subst (Stands realm epoch entries passes pass (noted ++ x ∷ [])) (sym (now mine taken)) (stands-own realm epoch entries passes pass noted x old stands mine ((can mine).0 taken))
    | inr other ↦ subst (Stands realm epoch entries passes pass (noted ++ x ∷ [])) (sym (theirs other).1) (stands-other realm epoch entries passes pass noted x old stands other)
  ]

  -- where the journal is right, none is refused
  pub never-refused : (held : Held E) (after : List (Noted E)) (rest : List (Held E)) → held.noted ≡ noted ++ x ∷ after → IsAudited realm epoch entries (passes ++ held ∷ rest) → result ≡ true
  never-refused held after rest cut audited = elim (cases_Bool (is_of realm epoch x)) [
    | inl mine ↦ (can mine).1 (can-mark realm epoch entries passes pass noted x old held after rest stands mine cut audited)
    | inr other ↦ (theirs other).0
  ]
