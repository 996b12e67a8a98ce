-- What is seen of a transaction.
use Rattle.std.specs.Prelude.{ℕ, List, [], ◌∷◌, map, Bool, true, false, Some, None}
use Rattle.tip_txn.specs.declared.answer.Ballot.TheVariants.{Yes}
use Rattle.tip_txn.specs.declared.answer.Phase.{Phase}
use Rattle.tip_txn.specs.declared.answer.Phase.TheVariants.{Active, Asking, Prepared, Committed, Aborted}
use Rattle.tip_txn.specs.declared.part.Participant.{Participant}

-- the parts are in the order enlisted, the local party first; `spare` is how many more there is room for
pub record Transaction : Type 0 where
  pub phase : Phase
  pub parts : List Participant
  pub spare : ℕ

-- the local party of a transaction that has just begun
abbrev pub local_party : Participant
local_party = record { address = None; id = None; answer = None; acknowledged = false }

abbrev pub fresh : Transaction
fresh = record { phase = Active; parts = local_party ∷ []; spare = 0 }

-- a subordinate of a stored row, which had said yes
abbrev pub willing : List ℕ × List ℕ → Participant
willing subordinate = record { address = Some subordinate.0; id = Some subordinate.1; answer = Some Yes; acknowledged = false }

-- the parts of a stored row: each said yes, the local party too, and no subordinate has acknowledged
abbrev pub promised_parts : List (List ℕ × List ℕ) → List Participant
promised_parts subordinates = record local_party { answer = Some Yes } ∷ map willing subordinates

-- the transaction of a stored row
abbrev pub recovered : Phase → List (List ℕ × List ℕ) → Transaction
recovered phase subordinates = record { phase = phase; parts = promised_parts subordinates; spare = 0 }

-- an aborted transaction is none, as one that never was
abbrev pub exists_in : Phase → Bool
exists_in Active = true
exists_in Asking = true
exists_in Prepared = true
exists_in Committed = true
exists_in Aborted = false
