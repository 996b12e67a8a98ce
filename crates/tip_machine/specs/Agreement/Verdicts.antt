-- What the branches of a transaction are told (ours): what agreement is about. It is read off what is shown alone, so a realm
-- that says COMMIT and forgets the transaction in the same event has still said it.
use Rattle.std.specs.Prelude.{ℕ, ◌&&◌, not, Bool, true, false, List, filter_map, Option, Some, None, if◌then◌else◌}
use Rattle.std.specs.List.{list_any}
use Rattle.std.specs.Str.{bytes_eq}
use Rattle.tip_branch.specs.declared.member.Call.{Call}
use Rattle.tip_branch.specs.declared.member.Call.TheVariants as call
use Rattle.tip_machine.specs.Answers.{identifier}
use Rattle.tip_machine.specs.Outputs.{Output}
use Rattle.tip_machine.specs.declared.answer.Asked.TheVariants as asked
use Rattle.tip_machine.specs.declared.answer.Item.{Item}
use Rattle.tip_machine.specs.declared.answer.Item.TheVariants.{Ask}

pub data Verdict : Type 0 where
  Commit : Verdict
  Abort : Verdict

abbrev pub of_call : Call → Option Verdict
of_call (call.Vote vote) = None
of_call (call.Commit answer) = Some Verdict.Commit
of_call call.Abort = Some Verdict.Abort

-- what a line tells a subordinate of the transaction of this identifier, in the realm of this name
abbrev pub of_item : List ℕ → List ℕ → Item → Option Verdict
of_item realm id (Ask (asked.Commit key)) = if bytes_eq id (identifier realm key) then Some Verdict.Commit else None
of_item realm id (Ask (asked.Abort key)) = if bytes_eq id (identifier realm key) then Some Verdict.Abort else None
of_item realm id other = None

-- what an output tells a branch, local or remote, of the transaction of this identifier; an active branch that is rolled back
-- is told to abort
abbrev pub told_by : List ℕ → List ℕ → Output → Option Verdict
told_by realm id (Output.Called other number badge call) = if bytes_eq id other then of_call call else None
told_by realm id (Output.Dropped other number badge) = if bytes_eq id other then Some Verdict.Abort else None
told_by realm id (Output.Sent sent) = of_item realm id sent.item
told_by realm id other = None

-- ALL THAT IS TOLD of a transaction
abbrev pub told : List ℕ → List ℕ → List Output → List Verdict
told realm id outputs = filter_map (told_by realm id) outputs

abbrev pub is_commit : Verdict → Bool
is_commit Verdict.Commit = true
is_commit Verdict.Abort = false

abbrev pub is_abort : Verdict → Bool
is_abort Verdict.Commit = false
is_abort Verdict.Abort = true

-- no branch is told to commit where a branch is told to abort
abbrev pub is_unanimous : List Verdict → Bool
is_unanimous told = not (list_any is_commit told && list_any is_abort told)
