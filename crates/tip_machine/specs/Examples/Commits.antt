-- Worked examples of transactions that come to their outcome: what short scripts show.
use Rattle.std.specs.Prelude.{[], ◌∷◌, ◌++◌, codes, Some, None}
use Rattle.tip_branch.specs.declared.branch.Settled.TheVariants.{Done, Later}
use Rattle.tip_branch.specs.declared.branch.Vote.TheVariants as vote
use Rattle.tip_branch.specs.declared.member.Call.TheVariants as call
use Rattle.tip_branch.specs.declared.member.Errand.TheVariants as errand
use Rattle.tip_line.specs.declared.command.Command.TheVariants as command
use Rattle.tip_line.specs.declared.refusal.Refusal.TheVariants as refusal
use Rattle.tip_line.specs.declared.response.Response.TheVariants as response
use Rattle.tip_rows.specs.declared.row.Row.TheVariants as row
use Rattle.tip_machine.specs.Outputs.{Output}
use Rattle.tip_machine.specs.Examples.Scripts.{Example, Line, ask, at, connected, connects, dials, hears, hears_back, id, key, late_box, name, no, north, north_with, pulls, pushes, put, read_only, remove, resumes, say, t, yes}
use Rattle.tip_machine.specs.declared.answer.Asked.TheVariants as asked
use Rattle.tip_machine.specs.declared.answer.Said.TheVariants as said
use Rattle.tip_machine.specs.declared.connection.Purpose.TheVariants as purpose

-- a branch is late: it asks to be told again, and the realm is resumed (section 13, COMMIT)
abbrev pub late : Example
late = record {
  head = north;
  lines =
      connects (at 1 1) None (late_box 11 ∷ []) ++ (
      hears (at 1 1) command.Begin ∷
      hears (at 1 1) command.Commit ∷
      Line.Goes ∷
      Line.Goes ∷
      resumes id ∷
      Line.Goes ∷ []);
  shown =
      connected (at 1 1) ++ (
      say 1 (said.Begun t) ∷
      Output.Works id errand.Vote ∷
      Output.Called id 1 (late_box 11) (call.Vote vote.Yes) ∷
      put t (row.Committed ((1, codes "b1") ∷ []) []) ∷
      say 1 said.Committed ∷
      Output.Works id errand.Commit ∷
      Output.Called id 1 (late_box 11) (call.Commit Later) ∷
      Output.Works id errand.Commit ∷
      Output.Called id 1 (late_box 11) (call.Commit Done) ∷
      remove t ∷ []);
}

-- the second branch says no: the first is aborted, the third was never asked
abbrev pub a_no : Example
a_no = record {
  head = north_with (record { connections = 8; transactions = 8; boxes = 9; entries = 100 }) ((1, codes "b1") ∷ (2, codes "b2") ∷ (3, codes "b3") ∷ []);
  lines =
      connects (at 1 1) None (yes 11 ∷ no 12 ∷ yes 13 ∷ []) ++ (
      hears (at 1 1) command.Begin ∷
      hears (at 1 1) command.Commit ∷
      Line.Goes ∷
      Line.Goes ∷ []);
  shown =
      connected (at 1 1) ++ (
      say 1 (said.Begun t) ∷
      Output.Works id errand.Vote ∷
      Output.Called id 1 (yes 11) (call.Vote vote.Yes) ∷
      Output.Called id 2 (no 12) (call.Vote vote.No) ∷
      say 1 said.Aborted ∷
      Output.Works id errand.Abort ∷
      Output.Called id 1 (yes 11) call.Abort ∷
      Output.Dropped id 3 (yes 13) ∷ []);
}

-- a row names the branches by the labels of the realm
abbrev pub labelled : Example
labelled = record {
  head = north_with (record { connections = 8; transactions = 8; boxes = 8; entries = 100 }) ((1, codes "ledger") ∷ (2, codes "queue") ∷ []);
  lines =
      connects (at 1 1) None (yes 11 ∷ yes 12 ∷ []) ++ (
      hears (at 1 1) command.Begin ∷
      hears (at 1 1) command.Commit ∷
      Line.Goes ∷ []);
  shown =
      connected (at 1 1) ++ (
      say 1 (said.Begun t) ∷
      Output.Works id errand.Vote ∷
      Output.Called id 1 (yes 11) (call.Vote vote.Yes) ∷
      Output.Called id 2 (yes 12) (call.Vote vote.Yes) ∷
      put t (row.Committed ((1, codes "ledger") ∷ (2, codes "queue") ∷ []) []) ∷
      say 1 said.Committed ∷
      Output.Works id errand.Commit ∷ []);
}

-- PREPARE aborts where the superior could not be reached again; a part without changes is read-only
abbrev pub push_and_prepare : Example
push_and_prepare = record {
  head = north;
  lines =
      connects (at 1 1) None (yes 11 ∷ []) ++ (
      hears (at 1 1) (command.Push (codes "s1")) ∷
      hears (at 1 1) command.Prepare ∷
      connects (at 1 2) (Some (codes "a.x")) (read_only 21 ∷ []) ++ (
      hears (at 1 2) (command.Push (codes "s1")) ∷
      hears (at 1 2) command.Prepare ∷
      Line.Goes ∷ []));
  shown =
      connected (at 1 1) ++ (
      say 1 (said.Pushed t) ∷
      say 1 said.Aborted ∷
      Output.Dropped id 1 (yes 11) ∷
      connected (at 1 2) ++ (
      say 2 (said.Pushed (key 1 2 1)) ∷
      Output.Works (name (key 1 2 1)) errand.Vote ∷
      Output.Called (name (key 1 2 1)) 1 (read_only 21) (call.Vote vote.ReadOnly) ∷
      say 2 said.ReadOnly ∷ []));
}

-- one of two parts says no while our own party is out
abbrev pub one_part_says_no : Example
one_part_says_no = record {
  head = north;
  lines =
      connects (at 1 1) None (yes 11 ∷ []) ++ (
      hears (at 1 1) command.Begin ∷
      connects (at 1 2) (Some (codes "p.x")) [] ++ (
      hears (at 1 2) (command.Pull id (codes "p7")) ∷
      connects (at 1 3) (Some (codes "q.x")) [] ++ (
      hears (at 1 3) (command.Pull id (codes "q7")) ∷
      hears (at 1 1) command.Commit ∷
      hears_back (at 1 2) response.Prepared ∷
      hears_back (at 1 3) response.Aborted ∷
      Line.Goes ∷
      hears_back (at 1 2) response.Aborted ∷
      Line.Goes ∷ [])));
  shown =
      connected (at 1 1) ++ (
      say 1 (said.Begun t) ∷
      connected (at 1 2) ++ (
      say 2 said.Pulled ∷
      connected (at 1 3) ++ (
      say 3 said.Pulled ∷
      ask 2 (asked.Prepare t) ∷
      ask 3 (asked.Prepare t) ∷
      Output.Works id errand.Vote ∷
      say 1 said.Aborted ∷
      ask 2 (asked.Abort t) ∷
      Output.Called id 1 (yes 11) (call.Vote vote.Yes) ∷
      Output.Works id errand.Abort ∷
      Output.Called id 1 (yes 11) call.Abort ∷ [])));
}

-- a transaction with two remote parts is forgotten once both have acknowledged
abbrev pub two_parts : Example
two_parts = record {
  head = north;
  lines =
      connects (at 1 1) None (read_only 11 ∷ []) ++ (
      hears (at 1 1) command.Begin ∷
      connects (at 1 2) (Some (codes "p.x")) [] ++ (
      hears (at 1 2) (command.Pull id (codes "p7")) ∷
      connects (at 1 3) (Some (codes "q.x")) [] ++ (
      hears (at 1 3) (command.Pull id (codes "q7")) ∷
      hears (at 1 1) command.Commit ∷
      Line.Goes ∷
      hears_back (at 1 2) response.Prepared ∷
      hears_back (at 1 3) response.Prepared ∷
      hears_back (at 1 3) response.Committed ∷
      connects (at 1 4) (Some (codes "p.x")) [] ++ (
      hears (at 1 4) (command.Query id) ∷
      hears_back (at 1 2) response.Committed ∷ []))));
  shown =
      connected (at 1 1) ++ (
      say 1 (said.Begun t) ∷
      connected (at 1 2) ++ (
      say 2 said.Pulled ∷
      connected (at 1 3) ++ (
      say 3 said.Pulled ∷
      ask 2 (asked.Prepare t) ∷
      ask 3 (asked.Prepare t) ∷
      Output.Works id errand.Vote ∷
      Output.Called id 1 (read_only 11) (call.Vote vote.ReadOnly) ∷
      put t (row.Committed [] ((codes "p.x", codes "p7") ∷ (codes "q.x", codes "q7") ∷ [])) ∷
      say 1 said.Committed ∷
      ask 2 (asked.Commit t) ∷
      ask 3 (asked.Commit t) ∷
      connected (at 1 4) ++ (
      say 4 said.QueriedExists ∷
      remove t ∷ []))));
}

-- a transaction of another manager is pulled here
abbrev pub pulled : Example
pulled = record {
  head = north;
  lines =
      dials (codes "m.x") purpose.Plain (yes 11 ∷ []) ∷
      hears_back (at 1 1) (response.Identified 3) ∷
      pulls (at 1 1) (codes "m5") ∷
      hears_back (at 1 1) response.Pulled ∷
      hears (at 1 1) command.Prepare ∷
      Line.Goes ∷
      hears (at 1 1) command.Abort ∷
      Line.Goes ∷ [];
  shown =
      Output.Opened (at 1 1) ∷
      ask 1 (asked.Identify (codes "n.x") (codes "m.x")) ∷
      ask 1 (asked.Pull (codes "m5") t) ∷
      Output.Works id errand.Vote ∷
      Output.Called id 1 (yes 11) (call.Vote vote.Yes) ∷
      put t (row.Prepared (codes "m.x") (codes "m5") ((1, codes "b1") ∷ []) []) ∷
      say 1 said.Prepared ∷
      remove t ∷
      say 1 said.Aborted ∷
      Output.Works id errand.Abort ∷
      Output.Called id 1 (yes 11) call.Abort ∷ [];
}

-- our transaction is pushed to another manager, which has nothing to commit
abbrev pub pushed : Example
pushed = record {
  head = north;
  lines =
      connects (at 1 1) None (yes 11 ∷ []) ++ (
      hears (at 1 1) command.Begin ∷
      dials (codes "p.x") purpose.Plain [] ∷
      hears_back (at 1 2) (response.Identified 4) ∷
      pushes (at 1 2) id ∷
      hears_back (at 1 2) (response.Pushed (codes "p9")) ∷
      hears (at 1 1) command.Commit ∷
      hears_back (at 1 2) response.ReadOnly ∷
      Line.Goes ∷
      Line.Goes ∷ []);
  shown =
      connected (at 1 1) ++ (
      say 1 (said.Begun t) ∷
      Output.Opened (at 1 2) ∷
      ask 2 (asked.Identify (codes "n.x") (codes "p.x")) ∷
      ask 2 (asked.Push t) ∷
      ask 2 (asked.Prepare t) ∷
      Output.Works id errand.Vote ∷
      Output.Called id 1 (yes 11) (call.Vote vote.Yes) ∷
      put t (row.Committed ((1, codes "b1") ∷ []) []) ∷
      say 1 said.Committed ∷
      Output.Works id errand.Commit ∷
      Output.Called id 1 (yes 11) (call.Commit Done) ∷
      remove t ∷ []);
}

-- a transaction that is here already is not pulled again
abbrev pub known_or_not_pulled : Example
known_or_not_pulled = record {
  head = north;
  lines =
      connects (at 1 1) (Some (codes "m.x")) (yes 11 ∷ []) ++ (
      hears (at 1 1) (command.Push (codes "m5")) ∷
      dials (codes "m.x") purpose.Plain (yes 21 ∷ []) ∷
      hears_back (at 1 2) (response.Identified 3) ∷
      pulls (at 1 2) (codes "m5") ∷
      pulls (at 1 2) (codes "m6") ∷
      hears_back (at 1 2) response.NotPulled ∷ []);
  shown =
      connected (at 1 1) ++ (
      say 1 (said.Pushed t) ∷
      Output.Opened (at 1 2) ∷
      ask 2 (asked.Identify (codes "n.x") (codes "m.x")) ∷
      Output.Refused refusal.Known ∷
      ask 2 (asked.Pull (codes "m6") (key 1 2 1)) ∷
      Output.Dropped (name (key 1 2 1)) 1 (yes 21) ∷ []);
}

-- we are a superior and a subordinate at once
abbrev pub in_doubt_and_committed : Example
in_doubt_and_committed = record {
  head = north;
  lines =
      connects (at 1 1) (Some (codes "a.x")) (yes 11 ∷ []) ++ (
      hears (at 1 1) (command.Push (codes "s1")) ∷
      connects (at 1 2) (Some (codes "p.x")) [] ++ (
      hears (at 1 2) (command.Pull id (codes "p7")) ∷
      hears (at 1 1) command.Prepare ∷
      Line.Goes ∷
      hears_back (at 1 2) response.Prepared ∷
      hears (at 1 1) command.Commit ∷
      hears_back (at 1 2) response.Committed ∷
      Line.Goes ∷ []));
  shown =
      connected (at 1 1) ++ (
      say 1 (said.Pushed t) ∷
      connected (at 1 2) ++ (
      say 2 said.Pulled ∷
      ask 2 (asked.Prepare t) ∷
      Output.Works id errand.Vote ∷
      Output.Called id 1 (yes 11) (call.Vote vote.Yes) ∷
      put t (row.Prepared (codes "a.x") (codes "s1") ((1, codes "b1") ∷ []) ((codes "p.x", codes "p7") ∷ [])) ∷
      say 1 said.Prepared ∷
      put t (row.Committed ((1, codes "b1") ∷ []) ((codes "p.x", codes "p7") ∷ [])) ∷
      say 1 said.Committed ∷
      ask 2 (asked.Commit t) ∷
      Output.Works id errand.Commit ∷
      Output.Called id 1 (yes 11) (call.Commit Done) ∷
      remove t ∷ []));
}

-- a line that comes before its turn is refused, Busy, and taken when it comes again (section 12)
abbrev pub out_of_turn : Example
out_of_turn = record {
  head = north;
  lines =
      connects (at 1 1) None (read_only 11 ∷ []) ++ (
      hears (at 1 1) command.Begin ∷
      connects (at 1 2) (Some (codes "p.x")) [] ++ (
      hears (at 1 2) (command.Pull id (codes "p7")) ∷
      hears_back (at 1 2) response.ReadOnly ∷
      hears (at 1 1) command.Commit ∷
      hears_back (at 1 2) response.ReadOnly ∷
      Line.Goes ∷ []));
  shown =
      connected (at 1 1) ++ (
      say 1 (said.Begun t) ∷
      connected (at 1 2) ++ (
      say 2 said.Pulled ∷
      Output.Refused refusal.Busy ∷
      ask 2 (asked.Prepare t) ∷
      Output.Works id errand.Vote ∷
      Output.Called id 1 (read_only 11) (call.Vote vote.ReadOnly) ∷
      say 1 said.Committed ∷ []));
}

-- of two transactions the one that goes out second comes back first, to vote and to commit: both commit
abbrev pub overtaken : Example
overtaken = record {
  head = north;
  lines =
      connects (at 1 1) None (yes 11 ∷ []) ++ (
      hears (at 1 1) command.Begin ∷
      connects (at 1 2) None (yes 21 ∷ []) ++ (
      hears (at 1 2) command.Begin ∷
      hears (at 1 1) command.Commit ∷
      hears (at 1 2) command.Commit ∷
      Line.GoesAt 1 ∷
      Line.Goes ∷
      Line.GoesAt 1 ∷
      Line.Goes ∷ []));
  shown =
      connected (at 1 1) ++ (
      say 1 (said.Begun t) ∷
      connected (at 1 2) ++ (
      say 2 (said.Begun (key 1 2 1)) ∷
      Output.Works id errand.Vote ∷
      Output.Works (name (key 1 2 1)) errand.Vote ∷
      Output.Called (name (key 1 2 1)) 1 (yes 21) (call.Vote vote.Yes) ∷
      put (key 1 2 1) (row.Committed ((1, codes "b1") ∷ []) []) ∷
      say 2 said.Committed ∷
      Output.Works (name (key 1 2 1)) errand.Commit ∷
      Output.Called id 1 (yes 11) (call.Vote vote.Yes) ∷
      put t (row.Committed ((1, codes "b1") ∷ []) []) ∷
      say 1 said.Committed ∷
      Output.Works id errand.Commit ∷
      Output.Called id 1 (yes 11) (call.Commit Done) ∷
      remove t ∷
      Output.Called (name (key 1 2 1)) 1 (yes 21) (call.Commit Done) ∷
      remove (key 1 2 1) ∷ []));
}
