-- The lines of a control connection (ours): of up to 2,048 octets, and ended by LF or CR LF.
use Rattle.std.specs.Prelude.{◌≡◌, ◌≢◌, ◌⊎◌, ◌≤◌, ◌<◌, ◌-◌, ℕ, List, [], ◌∷◌, ◌++◌, length, slice_get, take, Some}
use Rattle.std.specs.Io.BufRead.{take_through}
use Rattle.tip_control.specs.declared.lines.Coming.{Coming}
use Rattle.tip_control.specs.declared.lines.Coming.TheVariants.{End, Line, TooLong}

-- the octets of the first line were taken, or none where a read failed
abbrev pub IsTaken : List ℕ → List ℕ → Type 0
IsTaken octets input = (octets ≡ take_through 10 (take 2050 input)) ⊎ (octets ≡ [])

-- WHAT OCTETS ARE that were taken as a line
abbrev pub IsComing : List ℕ → Coming → Type 0
IsComing octets (Line line) = (length line.now ≤ 2048) × ((octets ≡ line.now ++ 13 ∷ 10 ∷ []) ⊎ ((octets ≡ line.now ++ 10 ∷ []) × (slice_get line.now (length line.now - 1) ≢ Some 13)))
IsComing octets TooLong = 2048 < length octets
IsComing octets End = length octets ≤ 2048
