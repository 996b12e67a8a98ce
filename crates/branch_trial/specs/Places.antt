-- Where the party of a transaction is, and what sending it out makes of that.
use Rattle.std.specs.Prelude.{◌≡◌, ℕ, Option, Some, None}
use Rattle.tip_branch.specs.declared.member.Errand.{Errand}
use Rattle.tip_branch.specs.Notes.{PartyNotes, given}
use Rattle.branch_trial.specs.declared.place.Place.{Place}
use Rattle.branch_trial.specs.declared.place.Place.TheVariants.{Table, Out, Spent}

abbrev pub sent_out : {X : Type 0} {F : X → Type 0} → Errand → Place X F → Place X F
sent_out e (Table p) = Out e
sent_out e (Out f) = Out f
sent_out e Spent = Spent

abbrev pub party_in : {X : Type 0} {F : X → Type 0} → Errand → Place X F → Option PartyNotes
party_in e (Table p) = Some (given p e)
party_in e (Out f) = None
party_in e Spent = None

abbrev pub IsOfEpoch : {X : Type 0} {F : X → Type 0} → ℕ → Place X F → Type 0
IsOfEpoch e p = (n : PartyNotes) → p ≡ Table n → n.epoch ≡ e
