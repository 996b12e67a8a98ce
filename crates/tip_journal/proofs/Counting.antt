-- How many entries the passes have of a journal: its numbers counted pass by pass.
use Rattle.std.proofs.Common.{◌≡◌, ℕ, zero, suc, ◌+◌, ◌-◌, ◌<◌, ◌≤◌, List, [], ◌∷◌, length, refl, sym, ap, ◌∙◌, arith, inl, inr}
use Rattle.std.specs.Prelude.{All, sum_by, Some}
use Rattle.std.proofs.lemmas.Bool.{cases_lt}
use Rattle.std.proofs.lemmas.Bool.Decides.{nat_tests}
use Rattle.std.proofs.lemmas.List.Elements.{All-head, All-tail}
use Rattle.std.proofs.lemmas.List.Sums.{sum_by-cons}
use Rattle.tip_journal.specs.Audit.{AreAudited, Follows, times, times_in}
use Rattle.tip_journal.specs.Journal.{Written}
use Rattle.tip_journal.specs.Journals.{at}
use Rattle.tip_journal.specs.Pass.{Held, own}
use Rattle.tip_journal.specs.declared.pass.Noted.{Noted}
use Rattle.tip_journal.proofs.Marks.{hit, place-of}
use Rattle.tip_journal.proofs.Walk.{each-at}

-- the sum of a function of the numbers below this one
abbrev upto : ℕ → (ℕ → ℕ) → ℕ
upto zero f = 0
upto (suc m) f = upto m f + f m

upto-same : (m : ℕ) (f g : ℕ → ℕ) → ((k : ℕ) → k < m → f k ≡ g k) → upto m f ≡ upto m g
upto-same zero f g same = refl
upto-same (suc m) f g same = omega (arith, upto-same m f g (λ k less. same k (omega arith)), same m (omega arith))

upto-add : (m : ℕ) (f g : ℕ → ℕ) → upto m (λ k. f k + g k) ≡ upto m f + upto m g
upto-add zero f g = refl
upto-add (suc m) f g = omega (arith, upto-add m f g)

upto-zero : (m : ℕ) → upto m (λ _. 0) ≡ 0
upto-zero zero = refl
upto-zero (suc m) = omega (arith, upto-zero m)

upto-one : (m : ℕ) → upto m (λ _. 1) ≡ m
upto-one zero = refl
upto-one (suc m) = omega (arith, upto-one m)

upto-past : (m n : ℕ) → m ≤ n → upto m (λ k. hit (n + 1) (k + 1)) ≡ 0
upto-past zero n past = refl
upto-past (suc m) n past =
    let other : hit (n + 1) (m + 1) ≡ 0 = grind (arith, nat_tests, past) in
    omega (arith, upto-past m n (omega arith), other)

-- a number is one of them, once
upto-hit : (m n : ℕ) → n < m → upto m (λ k. hit (n + 1) (k + 1)) ≡ 1
upto-hit zero n within = absurd (omega arith)
upto-hit (suc m) n within =
    elim (cases_lt n m) [
      | inl less ↦
          let other : hit (n + 1) (m + 1) ≡ 0 = grind (arith, nat_tests, less) in
          omega (arith, upto-hit m n less, other)
      | inr past ↦
          let same : hit (n + 1) (m + 1) ≡ 1 = grind (arith, nat_tests, past, within) in
          omega (arith, upto-past m n past, same)
    ]

own-count : {E : Type 0} (entries : List E) (last : ℕ) (xs : List (Noted E)) → Follows entries last xs → length xs ≡ upto (length entries) (λ k. times (k + 1) xs)
own-count entries last [] follows = sym (upto-zero (length entries))
own-count entries last (x ∷ xs) follows =
    let m = length entries in
    let place = place-of entries x.number x.entry follows.1 in
    let back : x.number - 1 + 1 ≡ x.number = omega (arith, place) in
    let one : upto m (λ k. hit x.number (k + 1)) ≡ 1 = ap (λ n. upto m (λ k. hit n (k + 1))) (sym back) ∙ upto-hit m (x.number - 1) place.1 in
    let split = upto-same m (λ k. times (k + 1) (x ∷ xs)) (λ k. hit x.number (k + 1) + times (k + 1) xs) (λ k _. sum_by-cons (λ (y : Noted _). hit y.number (k + 1)) x xs) in
    let both = upto-add m (λ k. hit x.number (k + 1)) (λ k. times (k + 1) xs) in
    omega (arith, one, split, both, own-count entries x.number xs follows.2)

passes-count : {E : Type 0} (realm epoch : ℕ) (entries : List E) (passes : List (Held E)) → All (λ pass. Follows entries 0 (own realm epoch pass.noted)) passes → sum_by (λ pass. length (own realm epoch pass.noted)) passes ≡ upto (length entries) (λ k. times_in realm epoch (k + 1) passes)
passes-count realm epoch entries [] follow = sym (upto-zero (length entries))
passes-count realm epoch entries (pass ∷ passes) follow =
    let m = length entries in
    let Follow : Held _ → Type 0 = λ p. Follows entries 0 (own realm epoch p.noted) in
    let here = own-count entries 0 (own realm epoch pass.noted) (All-head Follow pass passes follow) in
    let rest = passes-count realm epoch entries passes (All-tail Follow pass passes follow) in
    let split = upto-same m (λ k. times_in realm epoch (k + 1) (pass ∷ passes)) (λ k. times (k + 1) (own realm epoch pass.noted) + times_in realm epoch (k + 1) passes) (λ k _. sum_by-cons (λ (p : Held _). times (k + 1) (own realm epoch p.noted)) pass passes) in
    let both = upto-add m (λ k. times (k + 1) (own realm epoch pass.noted)) (λ k. times_in realm epoch (k + 1) passes) in
    omega (arith, sum_by-cons (λ (p : Held _). length (own realm epoch p.noted)) pass passes, here, rest, split, both)

-- where all is right, the passes have as many entries of a journal as it has
pub audited-count : {S E : Type 0} (journals : List (List (Written S E))) (passes : List (Held E)) (realm place : ℕ) (journal : Written S E) → AreAudited journals passes → at journals realm place ≡ Some journal → sum_by (λ pass. length (own realm journal.epoch pass.noted)) passes ≡ length journal.entries
audited-count journals passes realm place journal is there =
    let right = each-at journals passes realm place journal is there in
    passes-count realm journal.epoch journal.entries passes right.follow
    ∙ upto-same (length journal.entries) (λ k. times_in realm journal.epoch (k + 1) passes) (λ _. 1) (λ k less. right.once (k + 1) (omega arith) (omega arith))
    ∙ upto-one (length journal.entries)
