-- What is joined by a mark is parted at that mark again, where no part has it.
use Rattle.std.proofs.Common.{◌≡◌, ℕ, ◌+◌, ◌<◌, List, [], ◌∷◌, ◌++◌, Bool, true, false, ◌&&◌, not, nat_le, eqb, refl, ap, ◌∙◌, arith, length}
use Rattle.std.specs.List.{list_all, slice_split, onto_first, join_with_byte}
use Rattle.std.proofs.lemmas.Bool.Decides.{nat_tests}
use Rattle.std.proofs.lemmas.List.Folds.{list_all-append}
use Rattle.tip_line.specs.Words.{is_word, is_word_octet, is_letter}
use Rattle.tip_line.proofs.StopLemmas.{and_left, and_right}
use Rattle.tip_line.proofs.WordLemmas.{all_octets}
use Rattle.tip_rows.specs.Labels.{is_label, is_label_octet}

abbrev pub is_other : ℕ → ℕ → Bool
is_other mark octet = not (eqb octet mark)

-- a part that has no mark
abbrev pub is_free : ℕ → List ℕ → Bool
is_free mark part = list_all (is_other mark) part

other_is : (test : Bool) → not test ≡ true → test ≡ false
other_is true h = cc
other_is false h = refl

mark_is : (mark : ℕ) → eqb mark mark ≡ true
mark_is mark = grind (arith, nat_tests)

split_last : (mark : ℕ) (part : List ℕ) → is_free mark part ≡ true → slice_split (λ octet. eqb octet mark) part ≡ part ∷ []
split_last mark [] h = refl
split_last mark (x ∷ part) h =
    rw (other_is (eqb x mark) (and_left (is_other mark x) (is_free mark part) h)) (ap (onto_first x) (split_last mark part (and_right (is_other mark x) (is_free mark part) h)))

split_first : (mark : ℕ) (part rest : List ℕ) → is_free mark part ≡ true → slice_split (λ octet. eqb octet mark) (part ++ mark ∷ rest) ≡ part ∷ slice_split (λ octet. eqb octet mark) rest
split_first mark [] rest h = rw (mark_is mark) refl
split_first mark (x ∷ part) rest h =
    rw (other_is (eqb x mark) (and_left (is_other mark x) (is_free mark part) h)) (ap (onto_first x) (split_first mark part rest (and_right (is_other mark x) (is_free mark part) h)))

pub split_joined : (mark : ℕ) (part : List ℕ) (parts : List (List ℕ)) → list_all (is_free mark) (part ∷ parts) ≡ true → slice_split (λ octet. eqb octet mark) (join_with_byte mark (part ∷ parts)) ≡ part ∷ parts
split_joined mark part [] h = split_last mark part (and_left (is_free mark part) true h)
split_joined mark part (next ∷ parts) h =
    split_first mark part (join_with_byte mark (next ∷ parts)) (and_left (is_free mark part) (list_all (is_free mark) (next ∷ parts)) h) ∙ ap (λ ps. part ∷ ps) (split_joined mark next parts (and_right (is_free mark part) (list_all (is_free mark) (next ∷ parts)) h))

-- parts without a space have none where commas join them
pub joined_free : (parts : List (List ℕ)) → list_all (is_free 32) parts ≡ true → is_free 32 (join_with_byte 44 parts) ≡ true
joined_free [] h = refl
joined_free (part ∷ []) h = and_left (is_free 32 part) true h
joined_free (part ∷ next ∷ parts) h =
    let first = and_left (is_free 32 part) (list_all (is_free 32) (next ∷ parts)) h in
    let more = joined_free (next ∷ parts) (and_right (is_free 32 part) (list_all (is_free 32) (next ∷ parts)) h) in
    list_all-append (is_other 32) part (44 ∷ join_with_byte 44 (next ∷ parts)) ∙ cc (first, more)

word_octet : (x : ℕ) → is_word_octet x ≡ true → is_other 32 x ≡ true
word_octet x h = grind (arith, nat_tests)

word_octets : (octets : List ℕ) → list_all is_word_octet octets ≡ true → is_free 32 octets ≡ true
word_octets [] h = refl
word_octets (x ∷ octets) h = cc (word_octet x (and_left (is_word_octet x) (list_all is_word_octet octets) h), word_octets octets (and_right (is_word_octet x) (list_all is_word_octet octets) h))

-- a word has no space
pub word_free : (word : List ℕ) → is_word word ≡ true → is_free 32 word ≡ true
word_free word h = word_octets word (all_octets word h)

letter : (mark x : ℕ) → mark < 48 → is_letter x ≡ true → is_other mark x ≡ true
letter mark x low h = grind (arith, nat_tests)

label_octet : (mark x : ℕ) → mark < 48 → is_label_octet x ≡ true → is_other mark x ≡ true
label_octet mark x low h = grind (arith, nat_tests)

label_octets : (mark : ℕ) → mark < 48 → (octets : List ℕ) → list_all is_label_octet octets ≡ true → is_free mark octets ≡ true
label_octets mark low [] h = refl
label_octets mark low (x ∷ octets) h = cc (label_octet mark x low (and_left (is_label_octet x) (list_all is_label_octet octets) h), label_octets mark low octets (and_right (is_label_octet x) (list_all is_label_octet octets) h))

-- a label has neither comma nor space
pub label_free : (mark : ℕ) → mark < 48 → (label : List ℕ) → is_label label ≡ true → is_free mark label ≡ true
label_free mark low [] h = refl
label_free mark low (x ∷ rest) h =
    let front = and_left (nat_le (length (x ∷ rest)) 16 && is_letter x) (list_all is_label_octet rest) h in
    let first = letter mark x low (and_right (nat_le (length (x ∷ rest)) 16) (is_letter x) front) in
    let others = label_octets mark low rest (and_right (nat_le (length (x ∷ rest)) 16 && is_letter x) (list_all is_label_octet rest) h) in
    cc (first, others)

pub number_free : (mark n : ℕ) → mark < 48 → is_other mark (48 + n) ≡ true
number_free mark n low = grind (arith, nat_tests)

pub colon_free : (mark : ℕ) → mark < 48 → is_other mark 58 ≡ true
colon_free mark low = grind (arith, nat_tests)
