-- The lines of a script: they stand between its line feeds, and the last one may lack its end (ours).
use Rattle.std.specs.Prelude.{◌≡◌, ◌≤◌, ◌<◌, ℕ, ◌==◌, not, Bool, true, List, [], ◌∷◌, ◌++◌, length, take, slice_index, Option, None, Some, Result, Ok, Err, OnSome, ⊤}
use Rattle.std.specs.List.{list_all}
use Rattle.std.specs.Io.KnownBytes.{Consumes, IsAtEnd}
use Rattle.script_lines.specs.declared.line.LineEnd.{LineEnd}
use Rattle.script_lines.specs.declared.line.LineEnd.TheVariants.{LineFeed, EndOfInput, TooLong}
use Rattle.script_lines.specs.declared.line.LineFault.{LineFault}
use Rattle.script_lines.specs.declared.line.LineFault.TheVariants as fault

-- how many octets a line may have, without its end
abbrev pub longest_line : ℕ
longest_line = 8192

abbrev pub is_line_feed : ℕ → Bool
is_line_feed octet = octet == 10

abbrev pub is_inner : ℕ → Bool
is_inner octet = not (is_line_feed octet)

-- octets with no end of a line among them, as many as a line may have at most
pub record AreOfLine (line : List ℕ) : Type 0 where
  pub inner : list_all is_inner line ≡ true
  pub short : length line ≤ longest_line

-- one octet more than a line may have
pub record IsTooLong (old new : Option (List ℕ)) (line : List ℕ) : Type 0 where
  pub octet : ℕ
  pub inner : is_inner octet ≡ true
  pub full : length line ≡ longest_line
  pub taken : Consumes old new (line ++ octet ∷ [])

-- WHAT WAS READ: a line and its end, or what there was of it
abbrev pub Reads : Option (List ℕ) → Option (List ℕ) → List ℕ → Result LineEnd LineFault → Type 0
Reads old new line (Ok LineFeed) = AreOfLine line × Consumes old new (line ++ 10 ∷ [])
Reads old new line (Ok EndOfInput) = AreOfLine line × Consumes old new line × OnSome old (IsAtEnd new)
Reads old new line (Ok TooLong) = AreOfLine line × IsTooLong old new line
Reads old new line (Err fault.Read) = AreOfLine line × Consumes old new line
Reads old new line (Err fault.Memory) = ⊤

-- so much of a line was read
abbrev pub HasRead : Option (List ℕ) → Option (List ℕ) → List ℕ → Type 0
HasRead old new line = Reads old new line (Err fault.Read)

-- more of it was read, up to its end, or it goes on
abbrev pub ReadsOn : Option (List ℕ) → Option (List ℕ) → List ℕ → List ℕ → Result (Option LineEnd) LineFault → Type 0
ReadsOn old new before line (Ok None) = HasRead old new line × (length before < length line)
ReadsOn old new before line (Ok (Some end)) = Reads old new line (Ok end)
ReadsOn old new before line (Err fault) = Reads old new line (Err fault)

-- how a line ends behind so many octets of a buffer, if it does
abbrev pub EndsAt : List ℕ → ℕ → ℕ → Option LineEnd → Type 0
EndsAt buffer room count None = count ≡ length buffer
EndsAt buffer room count (Some LineFeed) = (count < length buffer) × (slice_index buffer count ≡ 10)
EndsAt buffer room count (Some TooLong) = (count < length buffer) × (count ≡ room) × (is_inner (slice_index buffer count) ≡ true)
EndsAt buffer room count (Some EndOfInput) = ⊥

-- so many octets at the front of a buffer are of a line that may have so many more, and it ends so behind them
abbrev pub IsFront : List ℕ → ℕ → ℕ → Option LineEnd → Type 0
IsFront buffer room count end = (count ≤ length buffer) × (count ≤ room) × (list_all is_inner (take count buffer) ≡ true) × EndsAt buffer room count end
