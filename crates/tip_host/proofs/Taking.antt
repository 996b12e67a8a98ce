-- The oldest party of a realm that waits, and who is out once it was taken.
use Rattle.std.proofs.Common.{◌≡◌, ◌≢◌, ◌∙◌, ◌==◌, ◌++◌, ◌∷◌, [], ℕ, zero, suc, true, false, List, Some, None, append_assoc, arith, refl, ap, sym, subst, inl, inr}
use Rattle.std.specs.Prelude.{find, remove, slice_get}
use Rattle.std.specs.Option.{option_and_then}
use Rattle.std.proofs.lemmas.Bool.{cases_eq}
use Rattle.std.proofs.lemmas.Bool.Decides.{nat_tests}
use Rattle.std.proofs.lemmas.Option.{none-some, same_Some}
use Rattle.tip_branch.specs.Notes.{PartyNotes}
use Rattle.tip_table.specs.Kept.{Kept, StandsAt, item_at, of, places, taken_out}
use Rattle.tip_table.specs.Lists.{IsFirst}

-- where no party is found, none waits
pub nobody : (work : List PartyNotes) → find (λ party. true) work ≡ None → work ≡ []
nobody [] none = refl
nobody (party ∷ work) none = absurd (none-some party (sym none))

any_first : (work : List PartyNotes) (at : ℕ) → IsFirst (λ (party : PartyNotes). true) work at → (first : PartyNotes) × (rest : List PartyNotes) × (work ≡ first ∷ rest) × (at ≡ 0)
any_first [] at first = absurd first
any_first (party ∷ work) zero first = (party, work, refl, refl)
any_first (party ∷ work) (suc at) first = absurd (let wrong : true ≡ false = first.0 in cc)

module _ (work : Kept PartyNotes) (realm spot : ℕ) (party : PartyNotes) (here : StandsAt work realm (λ (party : PartyNotes). true) spot) (is : item_at work spot ≡ Some party) where
  -- it was the first, and the others are left
  pub taken_first : of work realm ≡ party ∷ taken_out (places work spot) realm (of work realm)
  taken_first =
      let found = any_first (of work realm) here.at here.first in
      let got : slice_get (of work realm) here.at ≡ Some party = ap (λ o. option_and_then (λ i. slice_get (of work i.realm) i.at) o) (sym here.there) ∙ is in
      let own : (realm == realm) ≡ true = grind (arith, nat_tests) in
      let head : found.0 ≡ party = same_Some found.0 party (sym (λ i. slice_get (found.2 i) (found.3 i)) ∙ got) in
      let rest : taken_out (places work spot) realm (of work realm) ≡ found.1 = rw (here.there, own) (λ i. remove (found.2 i) (found.3 i)) in
      found.2 ∙ (λ i. head i ∷ sym rest i)

  -- those of another realm wait still
  pub taken_others : (other : ℕ) → other ≢ realm → taken_out (places work spot) other (of work other) ≡ of work other
  taken_others other differ = let no : (realm == other) ≡ false = grind (arith, nat_tests) in rw (here.there, no) refl

  -- who is out is as before
  pub taken_over : (work' out ready out' : Kept PartyNotes) → ((place : ℕ) → of work' place ≡ taken_out (places work spot) place (of work place)) → ((place : ℕ) → of ready place ≡ of out place) → of out' realm ≡ of ready realm ++ party ∷ [] → ((other : ℕ) → other ≢ realm → of out' other ≡ of ready other) → (place : ℕ) → of out' place ++ of work' place ≡ of out place ++ of work place
  taken_over work' out ready out' left same added others place = elim (cases_eq place realm) [
    | inl at ↦ subst (λ p. of out' p ++ of work' p ≡ of out p ++ of work p) (sym at) (
        (λ i. (added ∙ ap (λ xs. xs ++ party ∷ []) (same realm)) i ++ left realm i)
        ∙ append_assoc (of out realm) (party ∷ []) (taken_out (places work spot) realm (of work realm))
        ∙ ap (λ xs. of out realm ++ xs) (sym taken_first))
    | inr differ ↦ (λ i. (others place differ ∙ same place) i ++ (left place ∙ taken_others place differ) i)
  ]
