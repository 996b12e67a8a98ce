-- The machine's data as definitions see it: boxes as the list of what each is known by, a party as what is noted of it.
use Rattle.std.specs.Prelude.{ℕ, List}
use Rattle.tip_branch.specs.Notes.{PartyNotes}
use Rattle.tip_branch.specs.declared.branch.Badge.{Badge}
use Rattle.tip_rows.specs.Keys.{Key}
use Rattle.tip_txn.specs.declared.answer.Phase.{Phase}
use Rattle.tip_txn.specs.declared.part.Participant.{Participant}
use Rattle.tip_machine.specs.declared.answer.Answer as answer
use Rattle.tip_machine.specs.declared.connection.Connection as connection
use Rattle.tip_machine.specs.declared.event.Event as event
use Rattle.tip_machine.specs.declared.transaction.PartyPlace as place
use Rattle.tip_machine.specs.declared.transaction.Origin.{Origin}
use Rattle.tip_machine.specs.declared.transaction.Transaction as transaction

abbrev pub Connection : Type 0
Connection = connection.Connection (List Badge)

abbrev pub PartyPlace : Type 0
PartyPlace = place.PartyPlace PartyNotes

-- An open transaction. It knows no connection: each connection knows the transaction that it is on. Its identifier is spelled
-- from the realm's name and its key.
pub record Transaction : Type 0 where
  pub key : Key
  pub origin : Origin
  pub place : PartyPlace
  -- its local branches by number, each with its label
  pub branches : List (ℕ × List ℕ)
  pub phase : Phase
  -- its parts in the order enlisted, the local party first
  pub parts : List Participant

-- What the code's transaction stands for. How many further parts it has room for is no part of a realm's state.
abbrev pub seen : transaction.Transaction PartyNotes → Transaction
seen held = record {
  key = held.key;
  origin = held.origin;
  place = held.place;
  branches = held.branches;
  phase = held.txn.phase;
  parts = held.txn.parts;
}

abbrev pub Event : Type 0
Event = event.Event (List Badge) PartyNotes

abbrev pub Answer : Type 0
Answer = answer.Answer (List Badge) PartyNotes
