-- WHAT PLAYING A SCRIPT HAS WRITTEN (ours): a front of a text that tells honest histories, and in which each realm is alone.
use Rattle.std.specs.Prelude.{◌≡◌, ℕ, List, ◌++◌, ◌⊎◌, Option, Some, Result, Ok, Err}
use Rattle.std.specs.Io.KnownBytes.{Appends, Consumes}
use Rattle.tip_rows.specs.Logs.{Keeping}
use Rattle.tip_scene.specs.Acts.{Basis}
use Rattle.tip_play.specs.Transcripts.{ended, lines_of}
use Rattle.tip_play.specs.declared.fault.PlayFault.{PlayFault}
use Rattle.tip_history.specs.Alone.{AreApart}
use Rattle.tip_history.specs.Histories.{IsTold, asked_by, declared_by, left_by}

-- the lines of a script, or those that have ended in what was read of it
abbrev pub AreRead : List ℕ → Option (List ℕ) → List (List ℕ) → Type 0
AreRead script rest lines = (lines ≡ lines_of script) ⊎ ((read : List ℕ) × Consumes (Some script) rest read × (lines ≡ ended read))

pub record Tells (basis : Basis) (script : List ℕ) (rest old new : Option (List ℕ)) : Type 0 where
  pub lines : List (List ℕ)
  pub read : AreRead script rest lines
  -- what these lines print
  pub front : List ℕ
  pub later : List ℕ
  pub written : Appends old new front
  pub told : IsTold basis (declared_by basis lines) (asked_by basis lines) (left_by basis lines) (front ++ later)
  pub apart : AreApart basis lines (front ++ later)

-- the same over a store of any kind, as long as it may be relied on
abbrev pub TellsOn : {S : Type 0} → Keeping S → Basis → List ℕ → Option (List ℕ) → Option (List ℕ) → Option (List ℕ) → Result S (PlayFault × S) → Type 0
TellsOn kept basis script rest old new (Ok store) = kept.is_true store → Tells basis script rest old new
TellsOn kept basis script rest old new (Err fault) = kept.is_true fault.1 → Tells basis script rest old new
