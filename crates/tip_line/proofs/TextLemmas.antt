-- The words of a text.
use Rattle.std.proofs.Common.{◌≡◌, ℕ, suc, ◌+◌, ◌<◌, ◌≤◌, List, [], ◌∷◌, length, take, drop, Bool, true, false, ◌&&◌, refl, arith, ap, ◌∙◌, sym}
use Rattle.std.specs.List.{list_all, filter, slice_split, onto_first, position_or_len}
use Rattle.std.proofs.lemmas.Bool.Decides.{nat_tests}
use Rattle.std.proofs.lemmas.List.{length-drop}
use Rattle.tip_line.specs.Octets.{is_printable, is_space, without_front}
use Rattle.tip_line.specs.Words.{is_word, is_word_octet, is_short, has_octets, words_of}
use Rattle.tip_line.specs.Texts.{is_plain, has_short_words}
use Rattle.tip_line.proofs.StopLemmas.{and_left, and_right}
use Rattle.tip_line.proofs.NumberLemmas.{word_from}

-- how many octets stand before the first space
abbrev len_of : List ℕ → ℕ
len_of text = position_or_len is_space text

take_one : (n x : ℕ) (xs : List ℕ) → take (1 + n) (x ∷ xs) ≡ x ∷ take n xs
take_one n x xs = let s : 1 + n ≡ suc n = omega arith in ap (λ k. take k (x ∷ xs)) s

drop_one : (n x : ℕ) (xs : List ℕ) → drop (1 + n) (x ∷ xs) ≡ drop n xs
drop_one n x xs = let s : 1 + n ≡ suc n = omega arith in ap (λ k. drop k (x ∷ xs)) s

len_in_word : (x : ℕ) (text : List ℕ) → is_space x ≡ false → len_of (x ∷ text) ≡ 1 + len_of text
len_in_word x text e = rw e

-- The parts of a text: what stands before its first space, and those behind it.
record Parted (text : List ℕ) : Type 0 where
  parts : List (List ℕ)
  split : slice_split is_space text ≡ take (len_of text) text ∷ parts
  words : filter has_octets parts ≡ words_of (drop (len_of text) text)

parted_more : (x : ℕ) (text : List ℕ) (space : Bool) → is_space x ≡ space → Parted text → Parted (x ∷ text)
parted_more x text true e p = record { parts = slice_split is_space text; split = rw e; words = rw (e, e) }
parted_more x text false e p = record {
  parts = p.parts;
  split = rw e (ap (onto_first x) p.split ∙ ap (λ w. w ∷ p.parts) (sym (take_one (len_of text) x text)));
  words = p.words ∙ ap words_of (sym (drop_one (len_of text) x text) ∙ ap (λ n. drop n (x ∷ text)) (sym (len_in_word x text e)));
}

parted : (text : List ℕ) → Parted text
parted [] = record { parts = []; split = refl; words = refl }
parted (x ∷ text) = parted_more x text (is_space x) refl (parted text)

front_more : (x : ℕ) (text : List ℕ) (space : Bool) → is_space x ≡ space → words_of (without_front text) ≡ words_of text → words_of (without_front (x ∷ text)) ≡ words_of (x ∷ text)
front_more x text true e more = rw e more
front_more x text false e more = let same : without_front (x ∷ text) ≡ x ∷ text = rw e in ap words_of same

-- spaces at the front are in no word
words-front : (text : List ℕ) → words_of (without_front text) ≡ words_of text
words-front [] = refl
words-front (x ∷ text) = front_more x text (is_space x) refl (words-front text)

length_more : (x : ℕ) (text : List ℕ) (space : Bool) → is_space x ≡ space → length (without_front text) ≤ length text → length (without_front (x ∷ text)) ≤ length (x ∷ text)
length_more x text true e more = rw e (omega arith)
length_more x text false e more = rw e (omega arith)

length-front : (text : List ℕ) → length (without_front text) ≤ length text
length-front [] = omega arith
length-front (x ∷ text) = length_more x text (is_space x) refl (length-front text)

begins_more : (x y : ℕ) (text front : List ℕ) (space : Bool) → is_space y ≡ space → (without_front text ≡ x ∷ front → is_space x ≡ false) → without_front (y ∷ text) ≡ x ∷ front → is_space x ≡ false
begins_more x y text front true h more e = more (rw h at e)
begins_more x y text front false h more e = let same : y ∷ text ≡ x ∷ front = rw h at e in let heads : y ≡ x = cc in ap is_space (sym heads) ∙ h

-- what stands behind the spaces at the front begins with no space
begins : (x : ℕ) (text front : List ℕ) → without_front text ≡ x ∷ front → is_space x ≡ false
begins x [] front e = absurd (cc)
begins x (y ∷ text) front e = begins_more x y text front (is_space y) refl (begins x text front) e

pub filter_some : (word : List ℕ) (parts : List (List ℕ)) → 0 < length word → filter has_octets (word ∷ parts) ≡ word ∷ filter has_octets parts
filter_some [] parts some = absurd (omega arith)
filter_some (x ∷ word) parts some = refl

pub short_is : (word : List ℕ) → is_short word ≡ true → length word ≤ 1024
short_is word h = grind (arith, nat_tests)

first_at : (x : ℕ) (text : List ℕ) → is_space x ≡ false → words_of (x ∷ text) ≡ take (len_of (x ∷ text)) (x ∷ text) ∷ words_of (drop (len_of (x ∷ text)) (x ∷ text))
first_at x text h =
    let p = parted (x ∷ text) in
    let word = take (len_of (x ∷ text)) (x ∷ text) in
    let first : word ≡ x ∷ take (len_of text) text = ap (λ n. take n (x ∷ text)) (len_in_word x text h) ∙ take_one (len_of text) x text in
    let len = ap length first in
    ap (filter has_octets) p.split ∙ filter_some word p.parts (omega arith) ∙ ap (λ ws. word ∷ ws) p.words

-- The first word of a text, and what stands behind it.
pub record FirstWord (text word rest : List ℕ) : Type 0 where
  pub words : words_of text ≡ word ∷ words_of rest
  pub shorter : length rest < length text

first_in : (text front : List ℕ) → without_front text ≡ front → 0 < length front → FirstWord text (take (len_of front) front) (drop (len_of front) front)
first_in text [] e some = absurd (omega arith)
first_in text (x ∷ front) e some =
    let h = begins x text front e in
    let shorter = length-front text in
    let len = ap length e in
    let is = len_in_word x front h in
    record {
      words = sym (words-front text) ∙ ap words_of e ∙ first_at x front h;
      shorter = rw length-drop (omega arith);
    }

pub first_words : (text : List ℕ) → 0 < length (without_front text) → FirstWord text (take (len_of (without_front text)) (without_front text)) (drop (len_of (without_front text)) (without_front text))
first_words text some = first_in text (without_front text) refl some

-- where nothing but spaces is, no word is
pub no_words : (text : List ℕ) → length (without_front text) ≡ 0 → words_of text ≡ []
no_words text none = sym (words-front text) ∙ blank (without_front text) none
  where
    blank : (front : List ℕ) → length front ≡ 0 → words_of front ≡ []
    blank [] e = refl
    blank (x ∷ front) e = absurd (omega arith)

abbrev are_octets : List ℕ → Bool
are_octets part = list_all is_word_octet part

word_octet : (x : ℕ) → is_printable x ≡ true → is_space x ≡ false → is_word_octet x ≡ true
word_octet x printable space = grind (arith, nat_tests)

octets_onto : (x : ℕ) (parts : List (List ℕ)) → is_word_octet x ≡ true → list_all are_octets parts ≡ true → list_all are_octets (onto_first x parts) ≡ true
octets_onto x [] h all = cc
octets_onto x (part ∷ parts) h all = cc (and_left (are_octets part) (list_all are_octets parts) all, and_right (are_octets part) (list_all are_octets parts) all)

octets_more : (x : ℕ) (text : List ℕ) (space : Bool) → is_space x ≡ space → is_printable x ≡ true → list_all are_octets (slice_split is_space text) ≡ true → list_all are_octets (slice_split is_space (x ∷ text)) ≡ true
octets_more x text true e h all = rw e all
octets_more x text false e h all = rw e (octets_onto x (slice_split is_space text) (word_octet x h e) all)

-- no part between spaces has a space
octets_of : (text : List ℕ) → is_plain text ≡ true → list_all are_octets (slice_split is_space text) ≡ true
octets_of [] plain = refl
octets_of (x ∷ text) plain = octets_more x text (is_space x) refl (and_left (is_printable x) (is_plain text) plain) (octets_of text (and_right (is_printable x) (is_plain text) plain))

words_from : (parts : List (List ℕ)) → list_all are_octets parts ≡ true → list_all is_short (filter has_octets parts) ≡ true → list_all is_word (filter has_octets parts) ≡ true
words_from [] octets short = refl
words_from ([] ∷ parts) octets short = words_from parts octets short
words_from ((x ∷ part) ∷ parts) octets short =
    let more = words_from parts (and_right (are_octets (x ∷ part)) (list_all are_octets parts) octets) (and_right (is_short (x ∷ part)) (list_all is_short (filter has_octets parts)) short) in
    let first = word_from (x ∷ part) (omega arith) (short_is (x ∷ part) (and_left (is_short (x ∷ part)) (list_all is_short (filter has_octets parts)) short)) (and_left (are_octets (x ∷ part)) (list_all are_octets parts) octets) in
    cc (first, more)

-- the words of a text that a line may have are words
pub all_words : (text : List ℕ) → is_plain text ≡ true → has_short_words text ≡ true → list_all is_word (words_of text) ≡ true
all_words text plain short = words_from (slice_split is_space text) (octets_of text plain) short

-- the first of words is one, and the others are words
pub word_taken : (word text rest : List ℕ) → list_all is_word (words_of text) ≡ true → words_of text ≡ word ∷ words_of rest → (is_word word ≡ true) × (list_all is_word (words_of rest) ≡ true)
word_taken word text rest all e =
    let both : (is_word word && list_all is_word (words_of rest)) ≡ true = sym (ap (list_all is_word) e) ∙ all in
    (and_left (is_word word) (list_all is_word (words_of rest)) both, and_right (is_word word) (list_all is_word (words_of rest)) both)
