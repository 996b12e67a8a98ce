-- AGREEMENT (ours, for RFC 2371, sections 10, 13 and 15): four sentences on the transaction of an identifier, over a run. They
-- are read off what was shown, and off what was heard. They compute, so that the worked examples try them out.
pub mod Verdicts
pub mod Traces
use Rattle.std.specs.Prelude.{◌≡◌, ℕ, ◌==◌, ◌&&◌, ◌||◌, not, Bool, true, false, List, [], ◌∷◌, ◌++◌, filter, filter_map, find, slice_get, Option, Some, None, is_none, is_some, option_map, if◌then◌else◌}
use Rattle.std.specs.List.{flat_map, list_all, list_any}
use Rattle.std.specs.Option.{option_and_then, option_map_or}
use Rattle.std.specs.Str.{bytes_eq}
use Rattle.tip_branch.specs.declared.branch.Settled.TheVariants.{Done}
use Rattle.tip_branch.specs.declared.branch.Vote.{Vote}
use Rattle.tip_branch.specs.declared.branch.Vote.TheVariants as vote
use Rattle.tip_branch.specs.declared.member.Call.{Call}
use Rattle.tip_branch.specs.declared.member.Call.TheVariants as call
use Rattle.tip_line.specs.declared.command.Command.TheVariants as command
use Rattle.tip_line.specs.declared.response.Response.{Response}
use Rattle.tip_line.specs.declared.response.Response.TheVariants as response
use Rattle.tip_rows.specs.Keys.{Key}
use Rattle.tip_rows.specs.declared.row.Row.{Row}
use Rattle.tip_rows.specs.declared.row.Row.TheVariants as row
use Rattle.tip_txn.specs.Parts.{is_pair}
use Rattle.tip_txn.specs.declared.answer.Ballot.{Ballot}
use Rattle.tip_txn.specs.declared.answer.Ballot.TheVariants as answer
use Rattle.tip_txn.specs.declared.part.Participant.{Participant}
use Rattle.tip_machine.specs.Types.{Connection}
use Rattle.tip_machine.specs.Answers.{identifier}
use Rattle.tip_machine.specs.Moves.{Move, World}
use Rattle.tip_machine.specs.Outputs.{Output}
use Rattle.tip_machine.specs.States.{State, identified_by}
use Rattle.tip_machine.specs.Returns.{is_nil}
use Rattle.tip_machine.specs.Transactions.{has_id}
use Rattle.tip_machine.specs.Agreement.Traces.{Came, Moment, at_each, heard_in, shown_in}
use Rattle.tip_machine.specs.Agreement.Verdicts.{is_unanimous, is_commit, told}
use Rattle.tip_machine.specs.declared.answer.Item.{Item}
use Rattle.tip_machine.specs.declared.answer.Item.TheVariants.{Say}
use Rattle.tip_machine.specs.declared.answer.Said.TheVariants as said
use Rattle.tip_machine.specs.declared.connection.Awaited.{Awaited}
use Rattle.tip_machine.specs.declared.connection.Awaited.TheVariants as awaited
use Rattle.tip_machine.specs.declared.connection.Role.{Role}
use Rattle.tip_machine.specs.declared.connection.Role.TheVariants.{Subordinate}
use Rattle.tip_machine.specs.declared.event.Change.TheVariants.{Put, Remove}
use Rattle.tip_machine.specs.declared.event.Event.TheVariants.{Line}
use Rattle.tip_machine.specs.declared.event.Heard.TheVariants as heard
use Rattle.tip_machine.specs.declared.event.Outcome.TheVariants.{Stored}

-- Words

abbrev pub is_committed_row : Row → Bool
is_committed_row (row.Prepared address superior branches subordinates) = false
is_committed_row (row.Committed branches subordinates) = true

abbrev pub is_willing : Ballot → Bool
is_willing answer.Yes = true
is_willing answer.No = false
is_willing answer.ReadOnly = true
is_willing answer.Lost = false

-- what a response to PREPARE or to PUSH answers (section 13)
abbrev pub answer_by : Option Awaited → Response → Option Ballot
answer_by (Some awaited.Prepare) response.Prepared = Some answer.Yes
answer_by (Some awaited.Prepare) response.Aborted = Some answer.No
answer_by (Some awaited.Prepare) response.ReadOnly = Some answer.ReadOnly
answer_by (Some awaited.Push) (response.AlreadyPushed id) = Some answer.ReadOnly
answer_by (Some awaited.Push) response.NotPushed = Some answer.ReadOnly
answer_by awaited response = None

-- a subordinate that has committed, or has no such transaction any more (section 13)
abbrev pub is_acknowledgement : Option Awaited → Response → Bool
is_acknowledgement (Some awaited.Commit) response.Committed = true
is_acknowledgement (Some awaited.Reconnect) response.NotReconnected = true
is_acknowledgement awaited response = false

abbrev pub is_willing_vote : Call → Bool
is_willing_vote (call.Vote vote.Yes) = true
is_willing_vote (call.Vote vote.ReadOnly) = true
is_willing_vote other = false

abbrev pub is_done_commit : Call → Bool
is_done_commit (call.Commit Done) = true
is_done_commit other = false

abbrev pub is_denial : Item → Bool
is_denial (Say said.QueriedNotFound) = true
is_denial other = false

-- Of the transaction of this identifier, in the realm of this name
module _ (realm : List ℕ) (id : List ℕ) where
  abbrev pub spells : Key → Bool
  spells key = bytes_eq id (identifier realm key)

  -- Its row

  abbrev pub row_in : List (Key × Row) → Option Row
  row_in rows = option_map (λ stored. stored.1) (find (λ stored. spells stored.0) rows)

  abbrev pub stores_commit : Output → Bool
  stores_commit (Output.Changed (Put key row) Stored) = spells key && is_committed_row row
  stores_commit other = false

  abbrev pub removes : Output → Bool
  removes (Output.Changed (Remove key) Stored) = spells key
  removes other = false

  -- its committed row was stored, or stood at the start
  abbrev pub was_committed : World → List Output → Bool
  was_committed start shown = option_map_or is_committed_row (row_in start.rows) false || list_any stores_commit shown

  -- Its branches

  -- a branch was called, and answered so
  abbrev pub is_called : (Call → Bool) → ℕ → Output → Bool
  is_called test number (Output.Called other member badge call) = bytes_eq id other && (member == number) && test call
  is_called test number other = false

  abbrev pub was_called : (Call → Bool) → List Moment → ℕ × List ℕ → Bool
  was_called test moments branch = list_any (is_called test branch.0) (shown_in moments)

  -- Its parts

  abbrev pub part_of : Option Role → Option ℕ
  part_of (Some (Subordinate key part)) = if spells key then Some part else None
  part_of other = None

  -- the parts that have a connection
  abbrev pub parts_in : World → List ℕ
  parts_in world = filter_map (λ connection. part_of connection.role) world.state.connections

  abbrev pub has_part : ℕ → World → Bool
  has_part part world = list_any (λ other. part == other) (parts_in world)

  -- what was heard from a part
  abbrev pub heard_from : ℕ → Moment → Option Came
  heard_from part moment = option_and_then (λ came. if option_map_or (λ other. part == other) (part_of came.connection.role) false then Some came else None) (heard_in moment)

  abbrev pub answers_from : ℕ → List Moment → List Ballot
  answers_from part moments = filter_map (λ moment. option_and_then (λ came. answer_by came.connection.awaited came.response) (heard_from part moment)) moments

  -- the connection of a part is gone before the part has answered
  abbrev pub is_lost : ℕ → List Moment → Moment → Bool
  is_lost part before moment = has_part part moment.world && not (has_part part moment.after) && is_nil (answers_from part (before ++ moment ∷ []))

  -- a part has answered, yes or read-only alone, and was not lost
  abbrev pub was_willing : List Moment → ℕ → Bool
  was_willing moments part =
      not (is_nil (answers_from part moments)) && list_all is_willing (answers_from part moments)
      && at_each (λ before moment. not (is_lost part before moment)) moments

  -- the start in which it was made
  abbrev pub is_made_in : Moment → Bool
  is_made_in moment = list_any (λ t. has_id realm id t && (t.key.epoch == moment.world.state.head.epoch)) (moment.world.state.transactions ++ moment.after.state.transactions)

  -- the part that a connection is, as its transaction keeps it
  abbrev pub part_on : Connection → State → Option Participant
  part_on connection state = option_and_then (λ part. option_and_then (λ t. slice_get t.parts part) (identified_by id state)) (part_of connection.role)

  -- a subordinate of a row, known by its address and identifier, has acknowledged
  abbrev pub has_acknowledged : List ℕ × List ℕ → Moment → Bool
  has_acknowledged subordinate moment =
      option_map_or
      (λ came. is_acknowledgement came.connection.awaited came.response && option_map_or (is_pair subordinate.0 subordinate.1) (part_on came.connection moment.world.state) false)
      (heard_in moment)
      false

  -- ONE: no branch is told to commit where a branch is told to abort

  abbrev pub is_one : List Moment → Bool
  is_one moments = is_unanimous (told realm id (shown_in moments))

  -- BACKED: where a commit is told, the committed row was stored by then, or stood at the start

  abbrev pub tells_commit : Moment → Bool
  tells_commit moment = list_any is_commit (told realm id moment.shown)

  abbrev pub is_backed : World → List Moment → Moment → Bool
  is_backed start before moment = not (tells_commit moment) || was_committed start (shown_in before ++ moment.shown)

  -- KEPT: a committed row is removed only where, in that start, each subordinate in it has acknowledged and each branch in it has
  -- answered `commit` with Done; and what was committed is answered QUERIEDNOTFOUND only where its row is gone

  abbrev pub all_have_done : List Moment → Row → Bool
  all_have_done moments (row.Prepared address superior branches subordinates) = true
  all_have_done moments (row.Committed branches subordinates) = list_all (was_called is_done_commit moments) branches && list_all (λ s. list_any (has_acknowledged s) moments) subordinates

  -- the moments of the last one's start
  abbrev pub of_this_start : List Moment → Moment → List Moment
  of_this_start before moment = filter (λ m. m.world.state.head.epoch == moment.world.state.head.epoch) (before ++ moment ∷ [])

  -- the connection on which we are asked for it
  abbrev pub queried_on : Move → Option ℕ
  queried_on (Move.Step (Line seat (heard.Command (command.Query superior))) outcome) = if bytes_eq id superior then Some seat.number else None
  queried_on other = None

  abbrev pub denies : ℕ → Output → Bool
  denies number (Output.Sent sent) = (sent.connection == number) && is_denial sent.item
  denies number other = false

  abbrev pub is_denied : Moment → Bool
  is_denied moment = option_map_or (λ number. list_any (denies number) moment.shown) (queried_on moment.move) false

  abbrev pub is_kept : World → List Moment → Moment → Bool
  is_kept start before moment =
      (not (list_any removes moment.shown) || option_map_or (all_have_done (of_this_start before moment)) (row_in moment.world.rows) true)
      && (not (is_denied moment) || not (was_committed start (shown_in before)) || is_none (row_in moment.world.rows))

  -- ASKED: of a transaction made in the run a commit is told only where each branch had voted yes or read-only, and each part had
  -- answered, none with no and none lost

  abbrev pub were_willing : List Moment → List (ℕ × List ℕ) → Bool
  were_willing moments branches =
      list_all (was_called is_willing_vote moments) branches
      && list_all (was_willing moments) (flat_map (λ moment. parts_in moment.world ++ parts_in moment.after) moments)

  abbrev pub is_asked : World → List Moment → Moment → Bool
  is_asked start before moment =
      not (tells_commit moment) || is_some (row_in start.rows)
      || were_willing (filter is_made_in (before ++ moment ∷ [])) moment.world.state.head.branches

-- ALL FOUR, of the transaction of an identifier, over a run that began in this world
pub record IsAgreed (start : World) (moments : List Moment) (id : List ℕ) : Type 0 where
  pub one : is_one start.state.head.name id moments ≡ true
  pub backed : at_each (is_backed start.state.head.name id start) moments ≡ true
  pub kept : at_each (is_kept start.state.head.name id start) moments ≡ true
  pub asked : at_each (is_asked start.state.head.name id start) moments ≡ true
