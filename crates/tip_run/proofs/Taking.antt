-- A party that is taken out and comes back, or is lost, at a host at which nobody else is taken out.
use Rattle.std.proofs.Common.{◌≡◌, ◌≢◌, ◌++◌, ◌∷◌, ◌∙◌, ℕ, true, cond, List, [], Option, Some, None, append_assoc, refl, ap, sym, inl, inr}
use Rattle.std.specs.Prelude.{◌==◌, find}
use Rattle.std.specs.Cmp.{unsigned_Decides}
use Rattle.std.specs.Option.{option_to_list}
use Rattle.std.specs.Str.{bytes_eq}
use Rattle.std.proofs.lemmas.Bool.{and_from, cases_eq}
use Rattle.std.proofs.lemmas.Slice.Eq.{bytes_eq-Decides}
use Rattle.tip_branch.specs.Notes.{PartyNotes}
use Rattle.tip_host.specs.Books.{out_of}
use Rattle.tip_host.specs.Works.{is_errand_of, left_out}
use Rattle.tip_table.specs.Kept.{of}
use Rattle.tip_table.specs.Lists.{without}
use Rattle.tip_run.specs.Moves.{HasTaken}
use Rattle.tip_run.specs.Running.{Running}

-- it is its own errand
own_errand : (sent : PartyNotes) → is_errand_of sent sent ≡ true
own_errand sent = and_from (bytes_eq sent.id sent.id) (sent.epoch == sent.epoch) ((bytes_eq-Decides sent.id sent.id).1 refl) ((unsigned_Decides sent.epoch sent.epoch).1 refl)

-- where it alone is taken out, it is found, and nobody is left once it is back
pub found_alone : (sent : PartyNotes) (out : List PartyNotes) → out ≡ sent ∷ [] → find (is_errand_of sent) out ≡ Some sent
found_alone sent out alone = ap (find (is_errand_of sent)) alone ∙ ap (λ b. cond b (Some sent) None) (own_errand sent)

pub none_left : (sent : PartyNotes) (out : List PartyNotes) → out ≡ sent ∷ [] → left_out (Some sent) out ≡ []
none_left sent out alone = ap (without (is_errand_of sent)) alone ∙ ap (λ b. cond b [] (sent ∷ [])) (own_errand sent)

module _ {S : Type 0} (old new : Running S) (place : ℕ) (found : Option PartyNotes) (taken : HasTaken old new place found) where
  -- what is out of each realm is the same
  pub same_out : (other : ℕ) → out_of new.host.books other ≡ out_of old.host.books other
  same_out other = elim (cases_eq other place) [
    | inl same ↦ ap (out_of new.host.books) same ∙ here ∙ ap (out_of old.host.books) (sym same)
    | inr differ ↦ let kept = taken.takes.others other differ in λ i. kept.1 i ++ kept.0 i
  ] where
    here : out_of new.host.books place ≡ out_of old.host.books place
    here =
        ap (λ o. o ++ of new.host.books.work place) taken.takes.goes
        ∙ append_assoc (of old.host.books.out place) (option_to_list found) (of new.host.books.work place)
        ∙ ap (λ w. of old.host.books.out place ++ w) (sym taken.takes.waited)

  -- who was taken is alone
  pub alone : ((other : ℕ) → of old.host.books.out other ≡ []) → of new.host.books.out place ≡ option_to_list found
  alone nobody = taken.takes.goes ∙ ap (λ o. o ++ option_to_list found) (nobody place)

  pub others_none : ((other : ℕ) → of old.host.books.out other ≡ []) → (other : ℕ) → other ≢ place → of new.host.books.out other ≡ []
  others_none nobody other differ = (taken.takes.others other differ).1 ∙ nobody other
