-- The octets of a line (RFC 2371, section 11).
use Rattle.std.specs.Prelude.{◌≡◌, ℕ, ◌≤◌, List, [], ◌∷◌, length, reverse, Bool, true, if◌then◌else◌, ◌||◌, ◌&&◌, ◌==◌, nat_le}
use Rattle.std.specs.List.{list_all}

-- CR or LF ends a line
abbrev pub is_end : ℕ → Bool
is_end octet = octet == 13 || octet == 10

-- a line has the octets from space to tilde
abbrev pub is_printable : ℕ → Bool
is_printable octet = nat_le 32 octet && nat_le octet 126

abbrev pub is_space : ℕ → Bool
is_space octet = octet == 32

-- what may stand before the end of a line
pub record IsWithin (line : List ℕ) : Type 0 where
  pub printable : list_all is_printable line ≡ true
  pub short : length line ≤ 1024

abbrev pub IsBlank : List ℕ → Type 0
IsBlank line = list_all is_space line ≡ true

-- a line without the spaces at its front
abbrev pub without_front : List ℕ → List ℕ
without_front [] = []
without_front (octet ∷ line) = if is_space octet then without_front line else octet ∷ line

-- a line without the spaces at its ends
abbrev pub text_of : List ℕ → List ℕ
text_of line = reverse (without_front (reverse (without_front line)))
