-- What a connection was opened to ask, or whom to reach, and the identifier that it then says (RFC 2371, section 13, QUERY and
-- RECONNECT).
use Rattle.std.specs.Prelude.{ℕ, List, Option, Some, None, option_map, if◌then◌else◌}
use Rattle.std.specs.Option.{option_and_then}
use Rattle.tip_rows.specs.Keys.{Key}
use Rattle.tip_txn.specs.declared.part.Participant.{Participant}
use Rattle.tip_machine.specs.Responses.{is_owed_commit}
use Rattle.tip_machine.specs.States.{State, connection_of, identified_by}
use Rattle.tip_machine.specs.Transactions.{is_committed, subordinate_of}
use Rattle.tip_machine.specs.Types.{Transaction}
use Rattle.tip_machine.specs.declared.connection.Awaited.{Awaited}
use Rattle.tip_machine.specs.declared.connection.Awaited.TheVariants as awaited
use Rattle.tip_machine.specs.declared.connection.Purpose.TheVariants as purpose
use Rattle.tip_machine.specs.declared.transaction.Origin.{Origin}
use Rattle.tip_machine.specs.declared.transaction.Origin.TheVariants as origin
use Rattle.tip_rules.specs.declared.reaching.Aim.{Aim}

-- the identifier of a transaction at its superior
abbrev pub superior_in : Origin → Option (List ℕ)
superior_in origin.Root = None
superior_in (origin.Subordinate address superior) = Some superior

abbrev pub superior_of : Option Transaction → Option (List ℕ)
superior_of found = option_and_then (λ t. superior_in t.origin) found

-- the identifier of the transaction that a connection was opened to ask for
abbrev pub asked_for : Option Awaited → Option (List ℕ)
asked_for None = None
asked_for (Some (awaited.Identify purpose.Plain)) = None
asked_for (Some (awaited.Identify (purpose.Query id))) = Some id
asked_for (Some (awaited.Identify (purpose.Reconnect id place))) = None
asked_for (Some awaited.Push) = None
asked_for (Some awaited.Pull) = None
asked_for (Some awaited.Prepare) = None
asked_for (Some awaited.Commit) = None
asked_for (Some awaited.Abort) = None
asked_for (Some (awaited.Query key)) = None
asked_for (Some awaited.Reconnect) = None

-- the identifier of the transaction whose subordinate a connection was opened to reach again, and the number of that one
abbrev pub aimed_at : Option Awaited → Option (List ℕ × ℕ)
aimed_at None = None
aimed_at (Some (awaited.Identify purpose.Plain)) = None
aimed_at (Some (awaited.Identify (purpose.Query id))) = None
aimed_at (Some (awaited.Identify (purpose.Reconnect id number))) = Some (id, number)
aimed_at (Some awaited.Push) = None
aimed_at (Some awaited.Pull) = None
aimed_at (Some awaited.Prepare) = None
aimed_at (Some awaited.Commit) = None
aimed_at (Some awaited.Abort) = None
aimed_at (Some (awaited.Query key)) = None
aimed_at (Some awaited.Reconnect) = None

-- the identifier that the subordinate of a number gave
abbrev pub named_in : ℕ → Transaction → Option (List ℕ)
named_in number t = option_and_then (λ s. s.1.id) (subordinate_of number t)

abbrev pub named_of : ℕ → Option Transaction → Option (List ℕ)
named_of number found = option_and_then (named_in number) found

-- the identifier that is said then: to a superior its own, and to a subordinate the one that it gave
abbrev pub word_for : Option Awaited → State → Option (List ℕ)
word_for None state = None
word_for (Some (awaited.Identify purpose.Plain)) state = None
word_for (Some (awaited.Identify (purpose.Query id))) state = superior_of (identified_by id state)
word_for (Some (awaited.Identify (purpose.Reconnect id number))) state = named_of number (identified_by id state)
word_for (Some awaited.Push) state = None
word_for (Some awaited.Pull) state = None
word_for (Some awaited.Prepare) state = None
word_for (Some awaited.Commit) state = None
word_for (Some awaited.Abort) state = None
word_for (Some (awaited.Query key)) state = None
word_for (Some awaited.Reconnect) state = None

-- the same, of the connection of a number
abbrev pub word_at : ℕ → State → Option (List ℕ)
word_at number state = option_and_then (λ connection. word_for connection.awaited state) (connection_of number state)

-- the key of the transaction of an identifier
abbrev pub key_of : State → List ℕ → Option Key
key_of state id = option_map (λ t. t.key) (identified_by id state)

abbrev pub aim_at : ℕ → Key → Aim
aim_at subordinate key = record { key = key; subordinate = subordinate }

-- the same, with the number of its subordinate
abbrev pub aim_in : State → List ℕ × ℕ → Option Aim
aim_in state aim = option_map (aim_at aim.1) (key_of state aim.0)

-- the part that a subordinate is, if it is owed a commit at this address
abbrev pub owed_if : Option (List ℕ) → Key → State → ℕ × Participant → Option ℕ
owed_if peer key state s = if is_owed_commit peer key state s then Some s.0 else None

-- the part that the subordinate of a number is, if the transaction is committed and that one is owed a commit at this address
abbrev pub owed_in : Option (List ℕ) → ℕ → State → Transaction → Option ℕ
owed_in peer number state t = if is_committed t.phase then option_and_then (owed_if peer t.key state) (subordinate_of number t) else None
