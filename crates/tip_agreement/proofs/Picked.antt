-- An errand that is picked was out, and so were the others.
use Rattle.std.proofs.Common.{◌≡◌, ℕ, zero, suc, true, List, [], ◌∷◌, subst, sym, inl, inr}
use Rattle.tip_branch.specs.Notes.{PartyNotes}
use Rattle.tip_machine.specs.Invariants.Parties.{are_out}
use Rattle.tip_machine.specs.Moves.{behind_first, picked}
use Rattle.tip_machine.specs.States.{State}
use Rattle.tip_agreement.proofs.Picking.{picked_out}
use Rattle.tip_agreement.proofs.Walking.{In}

-- this party is picked from those that are out, and the rest stays
abbrev pub IsPicked : List PartyNotes → PartyNotes → List PartyNotes → Type 0
IsPicked errands party rest = (place : ℕ) × (picked place errands ≡ party ∷ rest)

pub out_picked : (state : State) (errands : List PartyNotes) (party : PartyNotes) (rest : List PartyNotes) → IsPicked errands party rest → are_out state errands ≡ true → are_out state (party ∷ rest) ≡ true
out_picked state errands party rest (place, at) out = subst (λ ps. are_out state ps ≡ true) at (picked_out place state errands out)

pub in_picked : (errands : List PartyNotes) (party : PartyNotes) (rest : List PartyNotes) → IsPicked errands party rest → (p : PartyNotes) → In p (party ∷ rest) → In p errands
in_picked errands party rest (place, at) p is = among place errands (subst (In p) (sym at) is) where
  among : (place : ℕ) (errands : List PartyNotes) → In p (picked place errands) → In p errands
  among place [] is = is
  among zero (first ∷ others) is = is
  among (suc place) (first ∷ others) is = behind (picked place others) (among place others) is where
    behind : (found : List PartyNotes) → (In p found → In p others) → In p (behind_first first found) → In p (first ∷ others)
    behind [] later is = absurd is
    behind (q ∷ found) later (inl is) = inr (later (inl is))
    behind (q ∷ found) later (inr (inl is)) = inl is
    behind (q ∷ found) later (inr (inr is)) = inr (later (inr is))
