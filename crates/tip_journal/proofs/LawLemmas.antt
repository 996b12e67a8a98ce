-- What the laws say.
use Rattle.std.proofs.Common.{◌≡◌, ◌≢◌, ℕ, zero, suc, ◌+◌, ◌-◌, ◌<◌, ◌≤◌, List, [], ◌∷◌, ◌++◌, length, Option, Some, None, true, refl, ap, ◌∙◌, subst, arith, inl, inr, add-one, length-append}
use Rattle.std.specs.Prelude.{◌==◌, slice_get, take, Any, IfSome, if◌then◌else◌}
use Rattle.std.specs.List.{find}
use Rattle.std.specs.Option.{option_map}
use Rattle.std.proofs.lemmas.Bool.{cases_Bool, cases_lt}
use Rattle.std.proofs.lemmas.Bool.Decides.{nat_tests}
use Rattle.std.proofs.lemmas.List.{reverse-append}
use Rattle.std.proofs.lemmas.List.Sums.{sum_by-cons}
use Rattle.std.proofs.lemmas.Option.{slice_get_within, get_or_from_slice_get}
use Rattle.tip_journal.specs.Audit.{Follows, AreAudited, times, times_in}
use Rattle.tip_journal.specs.Fits.{Fits}
use Rattle.tip_journal.specs.Journal.{Written, at_number, with_entry}
use Rattle.tip_journal.specs.Journals.{at, changed_at, current, entries_of, epoch_at, epoch_of, last_number, last_of, renewed, with_current, with_last, without_last}
use Rattle.tip_journal.specs.Pass.{Held, is_of, last_own, own}
use Rattle.tip_journal.specs.declared.pass.Noted.{Noted}
use Rattle.tip_journal.proofs.HistoryLemmas.{last_of-with_last, length-changed_at, slice_get-changed_at, slice_get-changed_other}
use Rattle.tip_journal.proofs.Lists.{All-at}
use Rattle.tip_journal.proofs.Marks.{hit}
use Rattle.tip_journal.proofs.Walk.{each-at}

pub changed-current : {S E : Type 0} (journals : List (List (Written S E))) (realm : ℕ) (change : Written S E → Written S E) → current (with_current realm change journals) realm ≡ option_map change (current journals realm)
changed-current [] realm change = refl
changed-current (history ∷ journals) zero change = last_of-with_last history change
changed-current (history ∷ journals) (suc realm) change = changed-current journals realm change

pub changed-others : {S E : Type 0} (journals : List (List (Written S E))) (realm other : ℕ) (change : Written S E → Written S E) → other ≢ realm → slice_get (with_current realm change journals) other ≡ slice_get journals other
changed-others journals realm other change differ = slice_get-changed_other journals realm other (with_last change) differ

pub changed-realms : {S E : Type 0} (journals : List (List (Written S E))) (realm : ℕ) (change : Written S E → Written S E) → length (with_current realm change journals) ≡ length journals
changed-realms journals realm change = length-changed_at journals realm (with_last change)

slice_get-push : {A : Type 0} (xs : List A) (x : A) → slice_get (xs ++ x ∷ []) (length xs) ≡ Some x
slice_get-push [] x = refl
slice_get-push (y ∷ xs) x = slice_get-push xs x

last_of-push : {S E : Type 0} (history : List (Written S E)) (journal : Written S E) → last_of (history ++ journal ∷ []) ≡ Some journal
last_of-push history journal =
    let place : length (history ++ journal ∷ []) - 1 ≡ length history = omega (arith, length-append history (journal ∷ [])) in
    ap (slice_get (history ++ journal ∷ [])) place ∙ slice_get-push history journal

pub renewed-current : {S E : Type 0} (journals : List (List (Written S E))) (realm : ℕ) (journal : Written S E) → realm < length journals → current (renewed realm journal journals) realm ≡ Some journal
renewed-current [] realm journal within = absurd (omega arith)
renewed-current (history ∷ journals) zero journal within = last_of-push history journal
renewed-current (history ∷ journals) (suc realm) journal within = renewed-current journals realm journal (omega arith)

pub renewed-kept : {S E : Type 0} (journals : List (List (Written S E))) (realm : ℕ) (journal : Written S E) → slice_get (renewed realm journal journals) realm ≡ option_map (λ history. history ++ journal ∷ []) (slice_get journals realm)
renewed-kept journals realm journal = slice_get-changed_at journals realm (λ history. history ++ journal ∷ [])

pub renewed-others : {S E : Type 0} (journals : List (List (Written S E))) (realm other : ℕ) (journal : Written S E) → other ≢ realm → slice_get (renewed realm journal journals) other ≡ slice_get journals other
renewed-others journals realm other journal differ = slice_get-changed_other journals realm other (λ history. history ++ journal ∷ []) differ

take_front : {A : Type 0} (xs : List A) (x : A) → take (length xs) (xs ++ x ∷ []) ≡ xs
take_front [] x = refl
take_front (y ∷ xs) x = ap (λ ys. y ∷ ys) (take_front xs x)

without_last-push : {S E : Type 0} (history : List (Written S E)) (journal : Written S E) → without_last (history ++ journal ∷ []) ≡ history
without_last-push history journal =
    let count : length (history ++ journal ∷ []) - 1 ≡ length history = omega (arith, length-append history (journal ∷ [])) in
    ap (λ n. take n (history ++ journal ∷ [])) count ∙ take_front history journal

pub renewed-withdrawn : {S E : Type 0} (journals : List (List (Written S E))) (realm : ℕ) (journal : Written S E) → changed_at realm without_last (renewed realm journal journals) ≡ journals
renewed-withdrawn [] realm journal = refl
renewed-withdrawn (history ∷ journals) zero journal = ap (λ h. h ∷ journals) (without_last-push history journal)
renewed-withdrawn (history ∷ journals) (suc realm) journal = ap (λ hs. history ∷ hs) (renewed-withdrawn journals realm journal)

pub last_own-push : {E : Type 0} (noted : List (Noted E)) (one : Noted E) (realm epoch : ℕ) → last_own realm epoch (noted ++ one ∷ []) ≡ (if is_of realm epoch one then Some one else last_own realm epoch noted)
last_own-push noted one realm epoch = ap (find (is_of realm epoch)) (reverse-append noted (one ∷ []))

at_number-push : {E : Type 0} (entries : List E) (entry : E) → at_number (entries ++ entry ∷ []) (length entries + 1) ≡ Some entry
at_number-push entries entry = rw add-one (slice_get-push entries entry)

-- what a realm's current journal was given fits it
pub noted-fits : {S E : Type 0} (journals : List (List (Written S E))) (realm : ℕ) (entry : E) (noted : List (Noted E)) → Fits (with_current realm (with_entry entry) journals) (noted ++ record { realm = realm; epoch = epoch_at journals realm; number = last_number journals realm + 1; entry = entry } ∷ []) realm
noted-fits {S} {E} journals realm entry noted = rw (changed-current journals realm (with_entry entry)) (go (current journals realm) refl)
  where
    one : Noted E
    one = record { realm = realm; epoch = epoch_at journals realm; number = last_number journals realm + 1; entry = entry }

    go : (now : Option (Written S E)) → current journals realm ≡ now → IfSome (option_map (with_entry entry) now) (λ journal. IfSome (last_own realm journal.epoch (noted ++ one ∷ [])) (λ last. at_number journal.entries last.number ≡ Some last.entry))
    go None is = tt
    go (Some journal) is =
        let epoch : epoch_at journals realm ≡ journal.epoch = ap epoch_of is in
        let number : last_number journals realm ≡ length journal.entries = ap entries_of is in
        let mine : is_of realm journal.epoch one ≡ true = grind (arith, nat_tests, epoch) in
        rw (last_own-push noted one realm journal.epoch, mine) (rw number (at_number-push journal.entries entry))

times-some : {E : Type 0} (number : ℕ) (xs : List (Noted E)) → 0 < times number xs → (k : ℕ) × (x : Noted E) × (slice_get xs k ≡ Some x) × (x.number ≡ number)
times-some number [] some = absurd (omega arith)
times-some number (x ∷ xs) some =
    elim (cases_Bool (x.number == number)) [
      | inl same ↦ (0, x, refl, grind (arith, nat_tests, same))
      | inr other ↦
          let rest : 0 < times number xs = (let none : hit x.number number ≡ 0 = rw other refl in omega (arith, sum_by-cons (λ (y : Noted _). hit y.number number) x xs, none)) in
          let found = times-some number xs rest in
          (found.0 + 1, found.1, rw (add-one, found.2) refl, found.3)
    ]

follows-at : {E : Type 0} (entries : List E) (last : ℕ) (xs : List (Noted E)) (k : ℕ) (x : Noted E) → Follows entries last xs → slice_get xs k ≡ Some x → at_number entries x.number ≡ Some x.entry
follows-at entries last [] k x follows is = absurd (cc)
follows-at entries last (y ∷ xs) zero x follows is = let same : y ≡ x = cc in subst (λ (z : Noted _). at_number entries z.number ≡ Some z.entry) same follows.1
follows-at entries last (y ∷ xs) (suc k) x follows is = follows-at entries y.number xs k x follows.2 is

passes-some : {E : Type 0} (realm epoch number : ℕ) (passes : List (Held E)) → 0 < times_in realm epoch number passes → (k : ℕ) × (pass : Held E) × (slice_get passes k ≡ Some pass) × (0 < times number (own realm epoch pass.noted))
passes-some realm epoch number [] some = absurd (omega arith)
passes-some realm epoch number (pass ∷ passes) some =
    elim (cases_lt 0 (times number (own realm epoch pass.noted))) [
      | inl here ↦ (0, pass, refl, here)
      | inr none ↦
          let rest : 0 < times_in realm epoch number passes = omega (arith, sum_by-cons (λ (p : Held _). times number (own realm epoch p.noted)) pass passes) in
          let found = passes-some realm epoch number passes rest in
          (found.0 + 1, found.1, rw (add-one, found.2) refl, found.3)
    ]

Any-at : {A : Type 0} (P : A → Type 0) (xs : List A) (k : ℕ) (x : A) → slice_get xs k ≡ Some x → P x → Any P xs
Any-at P xs k x is holds = (k, x, slice_get_within xs k x is, get_or_from_slice_get xs k x x is, holds)

pub audited-noted : {S E : Type 0} (journals : List (List (Written S E))) (passes : List (Held E)) (realm place : ℕ) (journal : Written S E) (number : ℕ) → AreAudited journals passes → at journals realm place ≡ Some journal → 0 < number → number ≤ length journal.entries → Any (λ pass. Any (λ one. (one.number ≡ number) × (at_number journal.entries number ≡ Some one.entry)) (own realm journal.epoch pass.noted)) passes
audited-noted {S} {E} journals passes realm place journal number is there above within =
    let right = each-at journals passes realm place journal is there in
    let once = right.once number above within in
    let pass = passes-some realm journal.epoch number passes (omega (arith, once)) in
    let mine = own realm journal.epoch pass.1.noted in
    let one = times-some number mine pass.3 in
    let stands = follows-at journal.entries 0 mine one.0 one.1 (All-at (λ (p : Held E). Follows journal.entries 0 (own realm journal.epoch p.noted)) passes pass.0 pass.1 right.follow pass.2) one.2 in
    Any-at (λ (p : Held E). Any (λ (one : Noted E). (one.number ≡ number) × (at_number journal.entries number ≡ Some one.entry)) (own realm journal.epoch p.noted)) passes pass.0 pass.1 pass.2
    (Any-at (λ (one : Noted E). (one.number ≡ number) × (at_number journal.entries number ≡ Some one.entry)) mine one.0 one.1 one.2 (one.3, subst (λ n. at_number journal.entries n ≡ Some one.1.entry) one.3 stands))

pub ruleset changing = (changed-current, changed-others, changed-realms)

pub ruleset renewing = (renewed-current, renewed-kept, renewed-others, renewed-withdrawn)

pub ruleset noting = (last_own-push, noted-fits)
