-- How the line at the front of some octets stops.
use Rattle.std.specs.Prelude.{◌≡◌, ◌≢◌, ℕ, ◌<◌, List, length, take, true, false, slice_index, Option, Some, None}
use Rattle.tip_line.specs.Octets.{is_end, is_printable, IsWithin}
use Rattle.tip_line.specs.declared.buffer.Stop.{Stop}
use Rattle.tip_line.specs.declared.buffer.Stop.TheVariants.{Open, Ended, Fault}
use Rattle.tip_line.specs.declared.lines.Cause.{Cause}
use Rattle.tip_line.specs.declared.lines.Cause.TheVariants.{TooLong, Octet}

-- Why an octet that ends no line can't follow `at` others of a line.
abbrev pub IsCause : ℕ → ℕ → Cause → Type 0
IsCause at octet TooLong = at ≡ 1024
IsCause at octet Octet = (at ≢ 1024) × (is_printable octet ≡ false)

abbrev pub CausedBy : ℕ → ℕ → Option Cause → Type 0
CausedBy at octet None = (at ≢ 1024) × (is_printable octet ≡ true)
CausedBy at octet (Some cause) = IsCause at octet cause

abbrev pub StopsAt : List ℕ → Stop → Type 0
StopsAt octets Open = IsWithin octets
StopsAt octets (Ended at) = (at < length octets) × IsWithin (take at octets) × (is_end (slice_index octets at) ≡ true)
StopsAt octets (Fault cause) = (at : ℕ) × (at < length octets) × IsWithin (take at octets) × (is_end (slice_index octets at) ≡ false) × IsCause at (slice_index octets at) cause
