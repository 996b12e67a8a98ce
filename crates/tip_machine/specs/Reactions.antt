-- What a transaction's progress means for one connection that is on it (RFC 2371, section 13).
use Rattle.std.specs.Prelude.{◌∷◌, ◌++◌, [], List, map, flat_map, Option, Some, None, is_none, if◌then◌else◌}
use Rattle.std.specs.Option.{option_map_or}
use Rattle.tip_line.specs.declared.command.CommandName.{CommandName}
use Rattle.tip_line.specs.declared.command.CommandName.TheVariants as command
use Rattle.tip_conn.specs.declared.state.State.{State as ConnectionState}
use Rattle.tip_conn.specs.declared.state.State.TheVariants.{Initial, Idle, Begun, Enlisted, Prepared, Error}
use Rattle.tip_rows.specs.Keys.{Key}
use Rattle.tip_machine.specs.Types.{Connection}
use Rattle.tip_machine.specs.Answers.{response_name}
use Rattle.tip_machine.specs.Connections.{awaiting, is_on, advanced}
use Rattle.tip_machine.specs.States.{Work}
use Rattle.tip_machine.specs.declared.answer.Asked.{Asked}
use Rattle.tip_machine.specs.declared.answer.Asked.TheVariants as asked
use Rattle.tip_machine.specs.declared.answer.Item.{Item}
use Rattle.tip_machine.specs.declared.answer.Item.TheVariants.{Say, Ask}
use Rattle.tip_machine.specs.declared.answer.Said.{Said}
use Rattle.tip_machine.specs.declared.answer.Said.TheVariants as said
use Rattle.tip_machine.specs.declared.answer.Sent.{Sent}
use Rattle.tip_machine.specs.declared.connection.Awaited.{Awaited}
use Rattle.tip_machine.specs.declared.connection.Awaited.TheVariants as awaited
use Rattle.tip_machine.specs.declared.connection.Role.{Role}
use Rattle.tip_machine.specs.declared.connection.Role.TheVariants.{Superior, Subordinate}

-- how a subordinate is asked PREPARE, COMMIT or ABORT for a transaction
pub record Demand : Type 0 where
  pub asked : Key → Asked
  pub awaited : Awaited

abbrev pub prepare_demand : Demand
prepare_demand = record { asked = asked.Prepare; awaited = awaited.Prepare }

abbrev pub commit_demand : Demand
commit_demand = record { asked = asked.Commit; awaited = awaited.Commit }

abbrev pub abort_demand : Demand
abort_demand = record { asked = asked.Abort; awaited = awaited.Abort }

-- A reaction: what is answered to the command that a connection is owed a response to; and what a subordinate is asked, by
-- the state of its connection, where nothing is awaited there. Where nothing is said here, a connection stays as it is.
pub record Reaction : Type 0 where
  pub owed : CommandName → Option Said
  pub enlisted : Option Demand
  pub prepared : Option Demand

-- the superior's command is not answered yet
abbrev pub silent : CommandName → Option Said
silent command = None

-- the vote is read-only: the subordinate leaves at PREPARE, and there was nothing to commit at COMMIT
abbrev pub read_only : CommandName → Option Said
read_only command.Prepare = Some said.ReadOnly
read_only command.Commit = Some said.Committed
read_only other = None

-- THE TABLE
abbrev pub asks : Reaction
asks = record { owed = silent; enlisted = Some prepare_demand; prepared = None }

abbrev pub promises : Reaction
promises = record { owed = λ command. Some said.Prepared; enlisted = None; prepared = None }

abbrev pub needs_nothing : Reaction
needs_nothing = record { owed = read_only; enlisted = None; prepared = None }

abbrev pub commits : Reaction
commits = record { owed = λ command. Some said.Committed; enlisted = None; prepared = Some commit_demand }

abbrev pub aborts : Reaction
aborts = record { owed = λ command. Some said.Aborted; enlisted = Some abort_demand; prepared = Some abort_demand }

-- what a subordinate is asked in this state
abbrev pub demanded : Reaction → ConnectionState → Option Demand
demanded reaction Initial = None
demanded reaction Idle = None
demanded reaction Begun = None
demanded reaction Enlisted = reaction.enlisted
demanded reaction Prepared = reaction.prepared
demanded reaction Error = None

abbrev pub demanded_as : Reaction → Option Role → Connection → Option Demand
demanded_as reaction None connection = None
demanded_as reaction (Some (Superior key)) connection = None
demanded_as reaction (Some (Subordinate key part)) connection = if is_none connection.awaited then demanded reaction connection.state else None

-- what a connection becomes, and what is said on it
pub record Reacted : Type 0 where
  pub connection : Connection
  pub items : List Item

abbrev pub stays : Connection → Reacted
stays connection = record { connection = connection; items = [] }

abbrev pub answers : CommandName → Connection → Said → Reacted
answers command connection said = record { connection = advanced command (response_name said) connection; items = Say said ∷ [] }

abbrev pub demands : Key → Connection → Demand → Reacted
demands key connection demand = record { connection = awaiting demand.awaited connection; items = Ask (demand.asked key) ∷ [] }

abbrev pub reacts : Reaction → Key → Option CommandName → Connection → Reacted
reacts reaction key (Some command) connection = option_map_or (answers command connection) (reaction.owed command) (stays connection)
reacts reaction key None connection = option_map_or (demands key connection) (demanded_as reaction connection.role connection) (stays connection)

-- a connection that is not on the transaction stays
abbrev pub reacted : Reaction → Key → Connection → Reacted
reacted reaction key connection = if is_on key connection then reacts reaction key connection.owed connection else stays connection

abbrev pub sent_by : Reaction → Key → Connection → List Sent
sent_by reaction key connection = map (λ item. record { connection = connection.number; item = item }) (reacted reaction key connection).items

-- each connection on the transaction reacts
unfoldable pub react : Reaction → Key → Work → Work
react reaction key work = record {
  state = record work.state { connections = map (λ connection. (reacted reaction key connection).connection) work.state.connections };
  answer = record work.answer { sent = work.answer.sent ++ flat_map (sent_by reaction key) work.state.connections };
}
