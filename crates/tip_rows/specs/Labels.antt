-- The names of local branches.
use Rattle.std.specs.Prelude.{ℕ, List, [], ◌∷◌, length, Bool, false, ◌&&◌, ◌||◌, nat_le}
use Rattle.std.specs.List.{list_all}
use Rattle.tip_line.specs.Words.{is_letter}

abbrev pub is_digit : ℕ → Bool
is_digit octet = nat_le 48 octet && nat_le octet 57

abbrev pub is_label_octet : ℕ → Bool
is_label_octet octet = is_letter octet || is_digit octet

-- a letter, then letters or digits, 1 to 16 octets
abbrev pub is_label : List ℕ → Bool
is_label [] = false
is_label (first ∷ rest) = nat_le (length (first ∷ rest)) 16 && is_letter first && list_all is_label_octet rest
