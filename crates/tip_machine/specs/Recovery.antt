-- A realm that starts again (ours, for RFC 2371, sections 10 and 15): what it is after a start hangs on its stored rows, the
-- boxes that were adopted for them and the new epoch alone.
use Rattle.std.specs.Prelude.{ℕ, List, [], ◌∷◌, map, Some}
use Rattle.tip_branch.specs.declared.branch.Badge.{Badge}
use Rattle.tip_branch.specs.Members.{ready_members}
use Rattle.tip_branch.specs.Notes.{idle_party}
use Rattle.tip_rows.specs.Keys.{Key}
use Rattle.tip_rows.specs.declared.row.Row.{Row}
use Rattle.tip_rows.specs.declared.row.Row.TheVariants as row
use Rattle.tip_txn.specs.Transactions.{promised_parts}
use Rattle.tip_txn.specs.declared.answer.Phase.TheVariants.{Prepared, Committed}
use Rattle.tip_machine.specs.Types.{PartyPlace, Transaction}
use Rattle.tip_machine.specs.Answers.{identifier}
use Rattle.tip_machine.specs.States.{State}
use Rattle.tip_machine.specs.declared.head.Head.{Head}
use Rattle.tip_machine.specs.declared.transaction.Origin.TheVariants as origin
use Rattle.tip_machine.specs.declared.transaction.PartyPlace.TheVariants.{Here, Spent}

-- a stored row, with the boxes that were adopted for its branches
pub record Loaded : Type 0 where
  pub key : Key
  pub row : Row
  pub boxes : List Badge

-- the party of a row: its branches are ready; where it names none, there is nobody to tell (ours)
abbrev pub adopted : Head → Key → List (ℕ × List ℕ) → List Badge → PartyPlace
adopted head key [] boxes = Spent
adopted head key (branch ∷ branches) boxes = Here (idle_party head.name head.epoch (identifier head.name key) (ready_members (map (λ b. b.0) (branch ∷ branches)) boxes))

-- the transaction of a row: in doubt, or committed with no subordinate that has acknowledged; no connection is on it (ours)
abbrev pub reopened : Head → Key → List Badge → Row → Transaction
reopened head key boxes (row.Prepared address superior branches subordinates) = record {
  key = key;
  origin = origin.Subordinate (Some address) superior;
  place = adopted head key branches boxes;
  branches = branches;
  phase = Prepared;
  parts = promised_parts subordinates;
}
reopened head key boxes (row.Committed branches subordinates) = record {
  key = key;
  origin = origin.Root;
  place = adopted head key branches boxes;
  branches = branches;
  phase = Committed;
  parts = promised_parts subordinates;
}

-- A REALM AFTER A START (ours)
abbrev pub restarted : Head → List Loaded → State
restarted head loaded = record { head = head; connections = []; transactions = map (λ l. reopened head l.key l.boxes l.row) loaded }
