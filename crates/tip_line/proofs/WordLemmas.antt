-- What kind of octets words have.
use Rattle.std.proofs.Common.{◌≡◌, ℕ, ◌<◌, List, [], ◌∷◌, length, true, ◌&&◌, nat_lt, nat_le, refl, arith, lit<, zero, suc}
use Rattle.std.specs.List.{list_all}
use Rattle.std.specs.Str.{IsAscii}
use Rattle.std.proofs.lemmas.Bool.Decides.{nat_tests}
use Rattle.tip_line.specs.Words.{is_word, is_word_octet, is_realm, is_letter}
use Rattle.tip_line.proofs.StopLemmas.{and_left, and_right}

ascii_octet : (octet : ℕ) → is_word_octet octet ≡ true → octet < 128
ascii_octet octet h = grind (arith, nat_tests)

ascii_octets : (octets : List ℕ) → list_all is_word_octet octets ≡ true → IsAscii octets
ascii_octets [] h i = lit< tt
ascii_octets (x ∷ octets) h zero = ascii_octet x (and_left (is_word_octet x) (list_all is_word_octet octets) h)
ascii_octets (x ∷ octets) h (suc i) = ascii_octets octets (and_right (is_word_octet x) (list_all is_word_octet octets) h) i

pub all_octets : (word : List ℕ) → is_word word ≡ true → list_all is_word_octet word ≡ true
all_octets word h = and_right (nat_lt 0 (length word) && nat_le (length word) 1024) (list_all is_word_octet word) h

pub ascii_word : (word : List ℕ) → is_word word ≡ true → IsAscii word
ascii_word word h = ascii_octets word (all_octets word h)

letter_octet : (octet : ℕ) → is_letter octet ≡ true → is_word_octet octet ≡ true
letter_octet octet h = grind (arith, nat_tests)

letter_octets : (octets : List ℕ) → list_all is_letter octets ≡ true → list_all is_word_octet octets ≡ true
letter_octets [] h = refl
letter_octets (x ∷ octets) h = cc (letter_octet x (and_left (is_letter x) (list_all is_letter octets) h), letter_octets octets (and_right (is_letter x) (list_all is_letter octets) h))

bounds_word : (n : ℕ) → (nat_lt 0 n && nat_le n 16) ≡ true → (nat_lt 0 n && nat_le n 1024) ≡ true
bounds_word n h = grind (arith, nat_tests)

pub realm_is_word : (name : List ℕ) → is_realm name ≡ true → is_word name ≡ true
realm_is_word name h =
    let short = bounds_word (length name) (and_left (nat_lt 0 (length name) && nat_le (length name) 16) (list_all is_letter name) h) in
    let octets = letter_octets name (and_right (nat_lt 0 (length name) && nat_le (length name) 16) (list_all is_letter name) h) in
    cc (short, octets)
