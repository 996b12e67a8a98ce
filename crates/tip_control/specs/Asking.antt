-- A QUESTION to a control port (ours).
use Rattle.std.specs.Prelude.{◌≡◌, ◌≢◌, ◌-◌, ℕ, Bool, true, false, List, [], ◌∷◌, length, slice_get, Option, Some, codes, eqb, if◌then◌else◌}
use Rattle.std.specs.Io.BufRead.{drop_through, take_through}
use Rattle.std.specs.Io.KnownBytes.{Appends}
use Rattle.std.specs.List.{concat, starts_with}
use Rattle.tip_control.specs.declared.asking.Verdict.{Verdict}
use Rattle.tip_control.specs.declared.asking.Verdict.TheVariants.{Done, Refused}

abbrev pub status_of : Verdict → ℕ
status_of Done = 0
status_of Refused = 3

-- a line of an answer: it has its end, and is not empty
pub record IsLine (line : List ℕ) : Type 0 where
  pub ended : slice_get line (length line - 1) ≡ Some 10
  pub some : line ≢ 10 ∷ []

-- THESE OCTETS BEGIN WITH AN ANSWER: its lines, and an empty line behind them
abbrev pub Answers : List (List ℕ) → List ℕ → Type 0
Answers [] octets = take_through 10 octets ≡ 10 ∷ []
Answers (line ∷ lines) octets = IsLine line × (line ≡ take_through 10 octets) × Answers lines (drop_through 10 octets)

-- a refusal is told by the first word of the first line
abbrev pub verdict_of : List (List ℕ) → Verdict
verdict_of [] = Done
verdict_of (line ∷ lines) = if starts_with eqb line (codes "refused ") then Refused else Done

-- the next line was taken from the front of octets; no more come behind the empty one
abbrev pub Hears : Bool → List ℕ → Option (List ℕ) → List ℕ → Type 0
Hears true line left octets = IsLine line × (line ≡ take_through 10 octets) × (left ≡ Some (drop_through 10 octets))
Hears false line left octets = take_through 10 octets ≡ 10 ∷ []

-- the lines of an answer were told
abbrev pub Tells : List ℕ → Option (List ℕ) → Option (List ℕ) → Type 0
Tells octets before after = (lines : List (List ℕ)) × Answers lines octets × Appends before after (concat lines)

-- THE ANSWER was told, and this is what it comes to
abbrev pub IsAnswered : List ℕ → Verdict → Option (List ℕ) → Option (List ℕ) → Type 0
IsAnswered octets verdict before after = (lines : List (List ℕ)) × Answers lines octets × (verdict ≡ verdict_of lines) × Appends before after (concat lines)
