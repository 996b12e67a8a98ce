-- The parts of a transaction, the first of which is its local party.
use Rattle.std.specs.Prelude.{◌≡◌, ℕ, suc, zero, List, [], ◌∷◌, Bool, true, false, ◌&&◌, ◌||◌, not, Option, Some, None, option_map, slice_get}
use Rattle.std.specs.List.{list_any}
use Rattle.std.specs.Option.{option_and_then}
use Rattle.std.specs.Str.{bytes_eq}
use Rattle.tip_txn.specs.declared.answer.Ballot.{Ballot}
use Rattle.tip_txn.specs.declared.answer.Ballot.TheVariants as answer
use Rattle.tip_txn.specs.declared.part.Participant.{Participant}

-- the set of pairs of a part and its answer
abbrev pub answers_of : List Participant → ℕ → Option Ballot → Type 0
answers_of parts part said = option_map (λ p. p.answer) (slice_get parts part) ≡ Some said

-- the answer of a part, if it has one
abbrev pub answer_at : List Participant → ℕ → Option Ballot
answer_at parts part = option_and_then (λ p. p.answer) (slice_get parts part)

-- both are there and have these octets
abbrev pub is_text : List ℕ → Option (List ℕ) → Bool
is_text text None = false
is_text text (Some other) = bytes_eq other text

-- a part of this address and identifier
abbrev pub is_pair : List ℕ → List ℕ → Participant → Bool
is_pair address id p = is_text address p.address && is_text id p.id

-- a subordinate that is named is a part already; one without a name is not looked for
abbrev pub is_enlisted : List Participant → List ℕ → Option (List ℕ) → Bool
is_enlisted parts address None = false
is_enlisted parts address (Some id) = list_any (is_pair address id) parts

-- a subordinate that becomes a part
abbrev pub enlisted : List ℕ → Option (List ℕ) → Participant
enlisted address id = record { address = Some address; id = id; answer = None; acknowledged = false }

-- the parts with one of them changed
abbrev pub changed_at : ℕ → (Participant → Participant) → List Participant → List Participant
changed_at part change [] = []
changed_at zero change (p ∷ parts) = change p ∷ parts
changed_at (suc part) change (p ∷ parts) = p ∷ changed_at part change parts

abbrev pub named : List ℕ → Participant → Participant
named id p = record p { id = Some id }

abbrev pub answered : Ballot → Participant → Participant
answered said p = record p { answer = Some said }

abbrev pub acknowledged : Participant → Participant
acknowledged p = record p { acknowledged = true }

abbrev pub is_yes : Option Ballot → Bool
is_yes None = false
is_yes (Some answer.Yes) = true
is_yes (Some answer.No) = false
is_yes (Some answer.ReadOnly) = false
is_yes (Some answer.Lost) = false

-- has it nothing to acknowledge any more? who said yes has, until it has acknowledged the commit (RFC 2371, section 13, COMMIT)
abbrev pub is_settled : Participant → Bool
is_settled p = not (is_yes p.answer) || p.acknowledged

-- is this the part of that address and identifier, and has it still to acknowledge the commit?
abbrev pub is_due : List ℕ → List ℕ → Participant → Bool
is_due address id p = is_pair address id p && not (is_settled p)
