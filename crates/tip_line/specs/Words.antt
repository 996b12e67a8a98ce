-- The words of a line (RFC 2371, section 11).
use Rattle.std.specs.Prelude.{ℕ, List, [], ◌∷◌, length, Bool, true, false, not, ◌&&◌, nat_lt, nat_le, codes, filter}
use Rattle.std.specs.List.{list_all, slice_split}
use Rattle.std.specs.Str.{bytes_eq}
use Rattle.tip_line.specs.Octets.{is_space}

-- from exclamation mark to tilde
abbrev pub is_word_octet : ℕ → Bool
is_word_octet octet = nat_le 33 octet && nat_le octet 126

-- a word has 1 to 1,024 octets, none of them a space
abbrev pub is_word : List ℕ → Bool
is_word word = nat_lt 0 (length word) && nat_le (length word) 1024 && list_all is_word_octet word

abbrev pub is_short : List ℕ → Bool
is_short word = nat_le (length word) 1024

abbrev pub has_octets : List ℕ → Bool
has_octets [] = false
has_octets (octet ∷ word) = true

-- the words of a text stand between its spaces
abbrev pub words_of : List ℕ → List (List ℕ)
words_of text = filter has_octets (slice_split is_space text)

-- an address is a word other than `-`
abbrev pub is_address : List ℕ → Bool
is_address word = not (bytes_eq word (codes "-")) && is_word word

-- the name of a realm has 1 to 16 letters
abbrev pub is_letter : ℕ → Bool
is_letter octet = nat_le 97 octet && nat_le octet 122

abbrev pub is_realm : List ℕ → Bool
is_realm name = nat_lt 0 (length name) && nat_le (length name) 16 && list_all is_letter name
