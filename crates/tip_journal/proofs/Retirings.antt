-- The journal that is let go.
use Rattle.std.proofs.Common.{◌≡◌, ◌∙◌, ℕ, List, [], ◌∷◌, Option, Some, None, refl, sym, ap, arith}
use Rattle.std.specs.Prelude.{◌==◌, Bool, true, false, cond, slice_get}
use Rattle.std.specs.Option.{option_and_then}
use Rattle.std.proofs.lemmas.Bool.Decides.{nat_tests}
use Rattle.std.proofs.lemmas.Option.{none-some, same_Some}
use Rattle.tip_journal.specs.Journal.{Written}
use Rattle.tip_journal.specs.Retiring.{ended_at, if_of, oldest_ended}

-- the journals of a realm of which the oldest has ended
pub record Ended {S E : Type 0} (journals : List (List (Written S E))) (realm epoch : ℕ) (journal : Written S E) : Type 0 where
  pub next : Written S E
  pub later : List (Written S E)
  pub are : slice_get journals realm ≡ Some (journal ∷ next ∷ later)
  pub epoch_is : journal.epoch ≡ epoch

of_epoch : {S E : Type 0} (found journal : Written S E) (epoch : ℕ) → if_of epoch found ≡ Some journal → (found ≡ journal) × (journal.epoch ≡ epoch)
of_epoch found journal epoch is = by (found.epoch == epoch) refl is where
  by : (b : Bool) → (found.epoch == epoch) ≡ b → cond b (Some found) None ≡ Some journal → (found ≡ journal) × (journal.epoch ≡ epoch)
  by false differ is = absurd (none-some journal is)
  by true equal is =
      let same = same_Some found journal is in
      let epochs : found.epoch ≡ epoch = grind (arith, nat_tests, equal) in
      (same, ap (λ (j : Written _ _). j.epoch) (sym same) ∙ epochs)

oldest_of : {S E : Type 0} (journals : List (List (Written S E))) (realm epoch : ℕ) (journal : Written S E) (found : Option (List (Written S E))) → slice_get journals realm ≡ found → option_and_then (if_of epoch) (option_and_then oldest_ended found) ≡ Some journal → Ended journals realm epoch journal
oldest_of journals realm epoch journal None there is = absurd (none-some journal is)
oldest_of journals realm epoch journal (Some []) there is = absurd (none-some journal is)
oldest_of journals realm epoch journal (Some (current ∷ [])) there is = absurd (none-some journal is)
oldest_of journals realm epoch journal (Some (oldest ∷ next ∷ later)) there is =
    let found = of_epoch oldest journal epoch is in
    record { next = next; later = later; are = there ∙ ap (λ j. Some (j ∷ next ∷ later)) found.0; epoch_is = found.1 }

pub ended-is : {S E : Type 0} (journals : List (List (Written S E))) (realm epoch : ℕ) (journal : Written S E) → ended_at journals realm epoch ≡ Some journal → Ended journals realm epoch journal
ended-is journals realm epoch journal is = oldest_of journals realm epoch journal (slice_get journals realm) refl is
