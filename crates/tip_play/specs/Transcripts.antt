-- THE TRANSCRIPT OF A SCRIPT: what its octets make tipd print, and where it ends.
use Rattle.tip_rows.specs.Logs.{Keeping}
use Rattle.std.specs.Prelude.{◌≡◌, ℕ, ◌+◌, Bool, true, List, [], ◌∷◌, ◌++◌, length, take, count_by, slice_index_or, nat_le, Option, Some, None, Result, Ok, Err, if◌then◌else◌}
use Rattle.std.specs.List.{list_all, slice_split}
use Rattle.std.specs.Io.KnownBytes.{Appends, Consumes}
use Rattle.script_lines.specs.Lines.{is_line_feed, longest_line}
use Rattle.tip_scene.specs.Acts.{Stage, Declaring, Acted, Basis, acted, closing_of, is_covered}
use Rattle.tip_script.specs.Scripts.{move_of}
use Rattle.tip_play.specs.declared.fault.PlayFault.{PlayFault}
use Rattle.tip_play.specs.declared.fault.PlayFault.TheVariants as fault

-- the lines of a script stand between its line feeds; the last one has no end
abbrev pub lines_of : List ℕ → List (List ℕ)
lines_of script = slice_split is_line_feed script

-- those that have ended, as many as there are line feeds
abbrev pub ended : List ℕ → List (List ℕ)
ended script = take (count_by is_line_feed script) (lines_of script)

-- and what has come of the one behind them
abbrev pub unended : List ℕ → List ℕ
unended script = slice_index_or (lines_of script) (count_by is_line_feed script) []

-- the lines were played to this stage, or the one of this number is not understood
pub data Ending : Type 0 where
  Reached : Stage → Ending
  Fault : ℕ → Ending

pub record Played : Type 0 where
  pub printed : List ℕ
  pub ending : Ending

abbrev pub prepended : List ℕ → Played → Played
prepended before played = record played { printed = before ++ played.printed }

abbrev pub act_of : Basis → Stage → List ℕ → Acted
act_of basis stage line = if nat_le (length line) longest_line then acted basis stage line else record { printed = []; stage = None }

-- behind a fault no line is played
abbrev pub played_on : List ℕ → Option Stage → ℕ → (Stage → Played) → Played
played_on printed None number later = record { printed = printed; ending = Fault number }
played_on printed (Some stage) number later = prepended printed (later stage)

-- the lines one after another, the first with this number
abbrev pub played : Basis → Stage → ℕ → List (List ℕ) → Played
played basis stage number [] = record { printed = []; ending = Reached stage }
played basis stage number (line ∷ lines) = played_on (act_of basis stage line).printed (act_of basis stage line).stage number (λ next. played basis next (number + 1) lines)

-- at the end of a script the realms start, if they have not
abbrev pub closing_text : Basis → Ending → List ℕ
closing_text basis (Reached stage) = closing_of basis stage
closing_text basis (Fault number) = []

-- what was played of a script when so much of it was read: the lines that have ended
abbrev pub played_of : Basis → List ℕ → Played
played_of basis read = played basis (Declaring []) 1 (ended read)

-- the last line may lack its end
abbrev pub all_played : Basis → List ℕ → Played
all_played basis script = played basis (Declaring []) 1 (lines_of script)

-- WHAT THE WHOLE SCRIPT PRINTS
abbrev pub transcript : Basis → List ℕ → List ℕ
transcript basis script = (all_played basis script).printed ++ closing_text basis (all_played basis script).ending

-- a front of the transcript was written
pub record IsFront (basis : Basis) (script : List ℕ) (old new : Option (List ℕ)) : Type 0 where
  pub front : List ℕ
  pub later : List ℕ
  pub whole : transcript basis script ≡ front ++ later
  pub written : Appends old new front

-- the lines that ended in what was read were played
pub record IsReadTo (basis : Basis) (script : List ℕ) (rest old new : Option (List ℕ)) : Type 0 where
  pub read : List ℕ
  pub consumed : Consumes (Some script) rest read
  pub written : Appends old new (played_of basis read).printed

-- WHAT PLAYING A SCRIPT LEAVES: what is left of it, and what was written before and then, where that is known.
abbrev pub Transcribes : Basis → List ℕ → Option (List ℕ) → Option (List ℕ) → Option (List ℕ) → Result (Unit {0}) PlayFault → Type 0
Transcribes basis script rest old new (Ok done) = ((stage : Stage) × ((all_played basis script).ending ≡ Reached stage)) × Appends old new (transcript basis script)
Transcribes basis script rest old new (Err (fault.Script line)) = ((all_played basis script).ending ≡ Fault line) × Appends old new (transcript basis script)
Transcribes basis script rest old new (Err fault.Read) = IsReadTo basis script rest old new
Transcribes basis script rest old new (Err fault.Write) = IsFront basis script old new
Transcribes basis script rest old new (Err fault.Memory) = IsFront basis script old new
Transcribes basis script rest old new (Err fault.Store) = IsFront basis script old new

-- the same over a store of any kind, as long as it may be relied on
abbrev pub TranscribesOn : {S : Type 0} → Keeping S → Basis → List ℕ → Option (List ℕ) → Option (List ℕ) → Option (List ℕ) → Result S (PlayFault × S) → Type 0
TranscribesOn kept basis script rest old new (Ok store) = kept.is_true store → Transcribes basis script rest old new (Ok tt)
TranscribesOn kept basis script rest old new (Err fault) = kept.is_true fault.1 → Transcribes basis script rest old new (Err fault.0)

-- the basis covers each realm that the script declares
abbrev pub covers_all : Basis → List ℕ → Bool
covers_all basis script = list_all (λ line. is_covered basis (move_of line)) (lines_of script)

-- rows in memory, which a script can ask to refuse, and of which nothing is stored
abbrev pub in_memory : Basis
in_memory = record { may_refuse = true; covers = λ name. true; before = λ name. record { epoch = 0; rows = [] } }
