-- What labels are made of.
use Rattle.std.proofs.Common.{◌≡◌, ℕ, ◌+◌, List, [], ◌∷◌, length, true, ◌&&◌, nat_lt, nat_le, refl, arith}
use Rattle.std.specs.List.{list_all}
use Rattle.std.proofs.lemmas.Bool.Decides.{nat_tests}
use Rattle.tip_line.specs.Words.{is_word, is_word_octet, is_letter}
use Rattle.tip_line.proofs.StopLemmas.{and_left, and_right}
use Rattle.tip_rows.specs.Labels.{is_label, is_label_octet}

label_octet : (octet : ℕ) → is_label_octet octet ≡ true → is_word_octet octet ≡ true
label_octet octet h = grind (arith, nat_tests)

letter_octet : (octet : ℕ) → is_letter octet ≡ true → is_word_octet octet ≡ true
letter_octet octet h = grind (arith, nat_tests)

label_octets : (octets : List ℕ) → list_all is_label_octet octets ≡ true → list_all is_word_octet octets ≡ true
label_octets [] h = refl
label_octets (x ∷ octets) h = cc (label_octet x (and_left (is_label_octet x) (list_all is_label_octet octets) h), label_octets octets (and_right (is_label_octet x) (list_all is_label_octet octets) h))

bounds : (n m : ℕ) → m ≡ n + 1 → nat_le m 16 ≡ true → (nat_lt 0 m && nat_le m 1024) ≡ true
bounds n m e h = grind (arith, nat_tests)

pub label_is_word : (label : List ℕ) → is_label label ≡ true → is_word label ≡ true
label_is_word [] h = cc
label_is_word (x ∷ rest) h =
    let front = and_left (nat_le (length (x ∷ rest)) 16 && is_letter x) (list_all is_label_octet rest) h in
    let short = bounds (length rest) (length (x ∷ rest)) (omega arith) (and_left (nat_le (length (x ∷ rest)) 16) (is_letter x) front) in
    let first = letter_octet x (and_right (nat_le (length (x ∷ rest)) 16) (is_letter x) front) in
    let others = label_octets rest (and_right (nat_le (length (x ∷ rest)) 16 && is_letter x) (list_all is_label_octet rest) h) in
    cc (short, first, others)
