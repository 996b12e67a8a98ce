-- What the lines of a transcript say (ours): each is of one realm.
use Rattle.std.specs.Prelude.{ℕ, Bool, List, Option, Some, None, filter, filter_map, if◌then◌else◌}
use Rattle.std.specs.List.{flat_map, list_all}
use Rattle.std.specs.Str.{bytes_eq}
use Rattle.tip_line.specs.Words.{is_realm}
use Rattle.tip_line.specs.declared.refusal.Refusal.TheVariants.{EpochEnd}
use Rattle.tip_machine.specs.Outputs.{Output}
use Rattle.tip_rows.specs.Keys.{Key}
use Rattle.tip_rows.specs.declared.row.Row.{Row}
use Rattle.tip_actor.specs.Acting.{adoption_text}
use Rattle.tip_transcript.specs.Printing.{idle_text, nowhere_text, output_text, refusal_text, start_text}

pub data Saying : Type 0 where
  -- what the realm's machine shows
  Shows : Output → Saying
  -- no party is out
  Idles : Saying
  -- it has started in an epoch
  Starts : ℕ → Saying
  -- the branches of a stored row have their boxes again
  Adopts : Key × Row → Saying
  -- after its last epoch it does not start again
  Ends : Saying
  -- there is no realm of this name
  Lacks : Saying

abbrev pub saying_text : List ℕ → Saying → List ℕ
saying_text name (Shows output) = output_text name output
saying_text name Idles = idle_text name
saying_text name (Starts epoch) = start_text name epoch
saying_text name (Adopts stored) = adoption_text name stored
saying_text name Ends = refusal_text name EpochEnd
saying_text name Lacks = nowhere_text name

-- the name of a realm, and what is said of it
abbrev pub Line : Type 0
Line = List ℕ × Saying

abbrev pub line_text : Line → List ℕ
line_text line = saying_text line.0 line.1

abbrev pub lines_text : List Line → List ℕ
lines_text lines = flat_map line_text lines

-- realms have names as realms are spelled: up to 16 letters
abbrev pub are_spelled : List Line → Bool
are_spelled lines = list_all (λ line. is_realm line.0) lines

-- what is said of the realm of this name
abbrev pub lines_on : List ℕ → List Line → List Line
lines_on name lines = filter (λ line. bytes_eq name line.0) lines

abbrev pub output_of : Saying → Option Output
output_of (Shows output) = Some output
output_of other = None

-- what the machine of the realm of this name shows
abbrev pub shown_on : List ℕ → Line → Option Output
shown_on name line = if bytes_eq name line.0 then output_of line.1 else None

abbrev pub shown_of : List ℕ → List Line → List Output
shown_of name lines = filter_map (shown_on name) lines
