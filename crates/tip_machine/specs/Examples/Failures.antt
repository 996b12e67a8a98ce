-- Worked examples of failures, restarts and refusals: what short scripts show.
use Rattle.std.specs.Prelude.{[], ◌∷◌, ◌++◌, codes, Some, None}
use Rattle.tip_branch.specs.declared.branch.Settled.TheVariants.{Done}
use Rattle.tip_branch.specs.declared.branch.Vote.TheVariants as vote
use Rattle.tip_branch.specs.declared.member.Call.TheVariants as call
use Rattle.tip_branch.specs.declared.member.Errand.TheVariants as errand
use Rattle.tip_line.specs.declared.command.Command.TheVariants as command
use Rattle.tip_line.specs.declared.refusal.Refusal.TheVariants as refusal
use Rattle.tip_line.specs.declared.response.Response.TheVariants as response
use Rattle.tip_rows.specs.declared.row.Row.TheVariants as row
use Rattle.tip_machine.specs.Outputs.{Output}
use Rattle.tip_machine.specs.Examples.Scripts.{Example, Line, ask, at, close, connected, connects, dials, hears, hears_back, hears_nothing, id, key, loses, north, north_with, not_removed, opens, put, read_only, remove, resumes, say, t, yes}
use Rattle.tip_machine.specs.declared.answer.Asked.TheVariants as asked
use Rattle.tip_machine.specs.declared.answer.Said.TheVariants as said
use Rattle.tip_machine.specs.declared.connection.Purpose.TheVariants as purpose
use Rattle.tip_machine.specs.declared.event.Event.TheVariants as event
use Rattle.tip_machine.specs.declared.event.Heard.TheVariants as heard

-- one of two parts is lost before it answers: the other is told as soon as it has answered
abbrev pub part_lost : Example
part_lost = record {
  head = north;
  lines =
      connects (at 1 1) None (yes 11 ∷ []) ++ (
      hears (at 1 1) command.Begin ∷
      connects (at 1 2) (Some (codes "p.x")) [] ++ (
      hears (at 1 2) (command.Pull id (codes "p7")) ∷
      connects (at 1 3) (Some (codes "q.x")) [] ++ (
      hears (at 1 3) (command.Pull id (codes "q7")) ∷
      hears (at 1 1) command.Commit ∷
      loses (at 1 3) ∷
      hears_back (at 1 2) response.Prepared ∷
      Line.Goes ∷
      hears_back (at 1 2) response.Aborted ∷
      Line.Goes ∷ [])));
  shown =
      connected (at 1 1) ++ (
      say 1 (said.Begun t) ∷
      connected (at 1 2) ++ (
      say 2 said.Pulled ∷
      connected (at 1 3) ++ (
      say 3 said.Pulled ∷
      ask 2 (asked.Prepare t) ∷
      ask 3 (asked.Prepare t) ∷
      Output.Works id errand.Vote ∷
      say 1 said.Aborted ∷
      ask 2 (asked.Abort t) ∷
      Output.Called id 1 (yes 11) (call.Vote vote.Yes) ∷
      Output.Works id errand.Abort ∷
      Output.Called id 1 (yes 11) call.Abort ∷ [])));
}

-- a part says what is no line: the superior is answered before the part is closed
abbrev pub part_not_valid : Example
part_not_valid = record {
  head = north;
  lines =
      connects (at 1 1) None (yes 11 ∷ []) ++ (
      hears (at 1 1) command.Begin ∷
      connects (at 1 2) (Some (codes "p.x")) [] ++ (
      hears (at 1 2) (command.Pull id (codes "p7")) ∷
      hears (at 1 1) command.Commit ∷
      hears_nothing (at 1 2) ∷ []));
  shown =
      connected (at 1 1) ++ (
      say 1 (said.Begun t) ∷
      connected (at 1 2) ++ (
      say 2 said.Pulled ∷
      ask 2 (asked.Prepare t) ∷
      Output.Works id errand.Vote ∷
      say 1 said.Aborted ∷
      say 2 said.Error ∷
      close 2 ∷ []));
}

-- a line that is not valid: ERROR, and a closing
abbrev pub not_valid : Example
not_valid = record {
  head = north;
  lines =
      connects (at 1 1) None (yes 11 ∷ []) ++ (
      hears (at 1 1) command.Begin ∷
      hears (at 1 1) command.Begin ∷
      connects (at 1 2) None [] ++ (
      hears_nothing (at 1 2) ∷
      connects (at 1 3) None [] ++ (
      hears (at 1 3) command.Error ∷ [])));
  shown =
      connected (at 1 1) ++ (
      say 1 (said.Begun t) ∷
      say 1 said.Error ∷
      close 1 ∷
      Output.Dropped id 1 (yes 11) ∷
      connected (at 1 2) ++ (
      say 2 said.Error ∷
      close 2 ∷
      connected (at 1 3) ++ (
      close 3 ∷ [])));
}

-- a party that was asked for its vote does not come back
abbrev pub lost_vote : Example
lost_vote = record {
  head = north;
  lines =
      connects (at 1 1) None (yes 11 ∷ []) ++ (
      hears (at 1 1) command.Begin ∷
      hears (at 1 1) command.Commit ∷
      Line.Loses ∷
      Line.Goes ∷ []);
  shown =
      connected (at 1 1) ++ (
      say 1 (said.Begun t) ∷
      Output.Works id errand.Vote ∷
      Output.Dropped id 1 (yes 11) ∷ []);
}

-- a transaction in doubt is reached again after a restart, and aborted
abbrev pub restarted_in_doubt : Example
restarted_in_doubt = record {
  head = north;
  lines =
      connects (at 1 1) (Some (codes "a.x")) (yes 11 ∷ []) ++ (
      hears (at 1 1) (command.Push (codes "s1")) ∷
      hears (at 1 1) command.Prepare ∷
      Line.Goes ∷
      Line.Restarts ∷
      connects (at 2 1) (Some (codes "a.x")) (yes 11 ∷ []) ++ (
      hears (at 2 1) command.Begin ∷
      connects (at 2 2) (Some (codes "a.x")) [] ++ (
      hears (at 2 2) (command.Reconnect id) ∷
      hears (at 2 2) command.Abort ∷
      Line.Goes ∷ [])));
  shown =
      connected (at 1 1) ++ (
      say 1 (said.Pushed t) ∷
      Output.Works id errand.Vote ∷
      Output.Called id 1 (yes 11) (call.Vote vote.Yes) ∷
      put t (row.Prepared (codes "a.x") (codes "s1") ((1, codes "b1") ∷ []) []) ∷
      say 1 said.Prepared ∷
      connected (at 2 1) ++ (
      say 1 (said.Begun (key 2 1 1)) ∷
      connected (at 2 2) ++ (
      say 2 said.Reconnected ∷
      remove t ∷
      say 2 said.Aborted ∷
      Output.Works id errand.Abort ∷
      Output.Called id 1 (yes 91) call.Abort ∷ [])));
}

-- the store refuses to remove a row: nobody is told, and after a restart the superior may still commit
abbrev pub refused_removal : Example
refused_removal = record {
  head = north;
  lines =
      connects (at 1 1) (Some (codes "a.x")) (yes 11 ∷ []) ++ (
      hears (at 1 1) (command.Push (codes "s1")) ∷
      hears (at 1 1) command.Prepare ∷
      Line.Goes ∷
      Line.HappensRefused (event.Line (at 1 1) (heard.Command command.Abort)) ∷
      Line.Restarts ∷
      connects (at 2 1) (Some (codes "a.x")) [] ++ (
      hears (at 2 1) (command.Reconnect id) ∷
      hears (at 2 1) command.Commit ∷
      Line.Goes ∷ []));
  shown =
      connected (at 1 1) ++ (
      say 1 (said.Pushed t) ∷
      Output.Works id errand.Vote ∷
      Output.Called id 1 (yes 11) (call.Vote vote.Yes) ∷
      put t (row.Prepared (codes "a.x") (codes "s1") ((1, codes "b1") ∷ []) []) ∷
      say 1 said.Prepared ∷
      not_removed t ∷
      close 1 ∷
      connected (at 2 1) ++ (
      say 1 said.Reconnected ∷
      put t (row.Committed ((1, codes "b1") ∷ []) []) ∷
      say 1 said.Committed ∷
      Output.Works id errand.Commit ∷
      Output.Called id 1 (yes 91) (call.Commit Done) ∷
      remove t ∷ []));
}

-- the superior of a transaction in doubt has forgotten it
abbrev pub presumed_abort : Example
presumed_abort = record {
  head = north;
  lines =
      connects (at 1 1) (Some (codes "a.x")) (yes 11 ∷ []) ++ (
      hears (at 1 1) (command.Push (codes "s1")) ∷
      hears (at 1 1) command.Prepare ∷
      Line.Goes ∷
      loses (at 1 1) ∷
      dials (codes "a.x") (purpose.Query id) [] ∷
      hears_back (at 1 2) (response.Identified 3) ∷
      hears_back (at 1 2) response.QueriedNotFound ∷
      Line.Goes ∷ []);
  shown =
      connected (at 1 1) ++ (
      say 1 (said.Pushed t) ∷
      Output.Works id errand.Vote ∷
      Output.Called id 1 (yes 11) (call.Vote vote.Yes) ∷
      put t (row.Prepared (codes "a.x") (codes "s1") ((1, codes "b1") ∷ []) []) ∷
      say 1 said.Prepared ∷
      Output.Opened (at 1 2) ∷
      ask 2 (asked.Identify (codes "n.x") (codes "a.x")) ∷
      ask 2 (asked.Query (codes "s1")) ∷
      remove t ∷
      Output.Works id errand.Abort ∷
      Output.Called id 1 (yes 11) call.Abort ∷ []);
}

-- a part is lost after it voted: the outcome is brought to it by RECONNECT
abbrev pub part_reached_again : Example
part_reached_again = record {
  head = north;
  lines =
      connects (at 1 1) None (read_only 11 ∷ []) ++ (
      hears (at 1 1) command.Begin ∷
      connects (at 1 2) (Some (codes "p.x")) [] ++ (
      hears (at 1 2) (command.Pull id (codes "p7")) ∷
      hears (at 1 1) command.Commit ∷
      Line.Goes ∷
      hears_back (at 1 2) response.Prepared ∷
      loses (at 1 2) ∷
      connects (at 1 3) (Some (codes "p.x")) [] ++ (
      hears (at 1 3) (command.Query id) ∷
      dials (codes "p.x") (purpose.Reconnect id 1) [] ∷
      hears_back (at 1 4) (response.Identified 3) ∷
      hears_back (at 1 4) response.NotReconnected ∷
      hears (at 1 3) (command.Query id) ∷ [])));
  shown =
      connected (at 1 1) ++ (
      say 1 (said.Begun t) ∷
      connected (at 1 2) ++ (
      say 2 said.Pulled ∷
      ask 2 (asked.Prepare t) ∷
      Output.Works id errand.Vote ∷
      Output.Called id 1 (read_only 11) (call.Vote vote.ReadOnly) ∷
      put t (row.Committed [] ((codes "p.x", codes "p7") ∷ [])) ∷
      say 1 said.Committed ∷
      ask 2 (asked.Commit t) ∷
      connected (at 1 3) ++ (
      say 3 said.QueriedExists ∷
      Output.Opened (at 1 4) ∷
      ask 4 (asked.Identify (codes "n.x") (codes "p.x")) ∷
      ask 4 (asked.Reconnect (codes "p7")) ∷
      remove t ∷
      say 3 said.QueriedNotFound ∷ [])));
}

-- a superior reconnects while its earlier connection is still there
abbrev pub taken_over : Example
taken_over = record {
  head = north;
  lines =
      connects (at 1 1) (Some (codes "a.x")) (yes 11 ∷ []) ++ (
      hears (at 1 1) (command.Push (codes "s1")) ∷
      hears (at 1 1) command.Prepare ∷
      Line.Goes ∷
      connects (at 1 2) (Some (codes "a.x")) [] ++ (
      hears (at 1 2) (command.Reconnect id) ∷
      hears (at 1 2) command.Commit ∷
      Line.Goes ∷ []));
  shown =
      connected (at 1 1) ++ (
      say 1 (said.Pushed t) ∷
      Output.Works id errand.Vote ∷
      Output.Called id 1 (yes 11) (call.Vote vote.Yes) ∷
      put t (row.Prepared (codes "a.x") (codes "s1") ((1, codes "b1") ∷ []) []) ∷
      say 1 said.Prepared ∷
      connected (at 1 2) ++ (
      say 2 said.Reconnected ∷
      close 1 ∷
      put t (row.Committed ((1, codes "b1") ∷ []) []) ∷
      say 2 said.Committed ∷
      Output.Works id errand.Commit ∷
      Output.Called id 1 (yes 11) (call.Commit Done) ∷
      remove t ∷ []));
}

-- the store refuses to forget a committed transaction
abbrev pub resumed : Example
resumed = record {
  head = north;
  lines =
      connects (at 1 1) None (yes 11 ∷ []) ++ (
      hears (at 1 1) command.Begin ∷
      hears (at 1 1) command.Commit ∷
      Line.Goes ∷
      Line.GoesRefused ∷
      resumes id ∷
      resumes id ∷ []);
  shown =
      connected (at 1 1) ++ (
      say 1 (said.Begun t) ∷
      Output.Works id errand.Vote ∷
      Output.Called id 1 (yes 11) (call.Vote vote.Yes) ∷
      put t (row.Committed ((1, codes "b1") ∷ []) []) ∷
      say 1 said.Committed ∷
      Output.Works id errand.Commit ∷
      Output.Called id 1 (yes 11) (call.Commit Done) ∷
      not_removed t ∷
      remove t ∷
      Output.Refused refusal.NotActive ∷ []);
}

-- a realm whose journal is full takes no event; renewed, it starts anew
abbrev pub frozen_and_renewed : Example
frozen_and_renewed = record {
  head = north_with (record { connections = 8; transactions = 8; boxes = 8; entries = 2 }) ((1, codes "b1") ∷ []);
  lines =
      connects (at 1 1) None (yes 11 ∷ []) ++ (
      hears (at 1 1) command.Begin ∷
      Line.Renews ∷
      opens (yes 21 ∷ []) ∷
      hears (at 2 1) command.Tls ∷ []);
  shown =
      connected (at 1 1) ++ (
      Output.Refused refusal.Frozen ∷
      Output.Opened (at 2 1) ∷
      say 1 said.CantTls ∷ []);
}

-- a party that comes back after a renewal is a stranger
abbrev pub stranger : Example
stranger = record {
  head = north;
  lines =
      connects (at 1 1) None (yes 11 ∷ []) ++ (
      hears (at 1 1) command.Begin ∷
      hears (at 1 1) command.Commit ∷
      Line.Renews ∷
      Line.Goes ∷
      connects (at 2 1) None (yes 11 ∷ []) ++ (
      hears (at 2 1) command.Begin ∷ []));
  shown =
      connected (at 1 1) ++ (
      say 1 (said.Begun t) ∷
      Output.Works id errand.Vote ∷
      Output.Refused refusal.Stranger ∷
      Output.Called id 1 (yes 11) (call.Vote vote.Yes) ∷
      connected (at 2 1) ++ (
      say 1 (said.Begun (key 2 1 1)) ∷ []));
}
