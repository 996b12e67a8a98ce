-- Versions of the protocol, as IDENTIFY and IDENTIFIED say them (RFC 2371, section 13).
use Rattle.std.specs.Prelude.{ℕ, ◌+◌, ◌-◌, ◌*◌, List, [], ◌∷◌, length, ◌&&◌, nat_lt, nat_le, Option, Some, None, if◌then◌else◌}
use Rattle.std.specs.Char.{is_ascii_digit}
use Rattle.std.specs.List.{list_all}

-- the number that digits say, behind a number that was said before
abbrev pub number_from : ℕ → List ℕ → ℕ
number_from n [] = n
number_from n (digit ∷ digits) = number_from (10 * n + (digit - 48)) digits

-- a version is 1 to 9 digits, zeros in front allowed
abbrev pub version_of : List ℕ → Option ℕ
version_of word = if nat_lt 0 (length word) && nat_le (length word) 9 && list_all is_ascii_digit word then Some (number_from 0 word) else None
