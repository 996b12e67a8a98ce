-- The name that a text begins with, and why there is none.
use Rattle.std.proofs.Common.{◌≡◌, ◌≢◌, ℕ, List, [], ◌∷◌, Option, Some, None, Result, Ok, Err, Bool, true, false, refl, sym, ap, ◌∙◌, subst}
use Rattle.std.specs.List.{find}
use Rattle.std.specs.Option.{ok_or}
use Rattle.std.specs.Str.{bytes_eq}
use Rattle.std.proofs.lemmas.Slice.Eq.{bytes_eq-Decides}
use Rattle.tip_line.specs.Named.{head_in, head_of}
use Rattle.tip_line.specs.Texts.{is_plain, has_short_words, IsClean, IsUnclean, words_in, ◌>>=◌}
use Rattle.tip_line.specs.Words.{words_of}
use Rattle.tip_line.specs.declared.fault.ParseFault.{ParseFault}
use Rattle.tip_line.specs.declared.fault.ParseFault.TheVariants.{Octet, TooLong, Unknown, Missing, Number, Memory}
use Rattle.tip_line.proofs.Texts.{find_passes, clean_words, unplain_words, long_words}

pub reading : {N : Type 0} (spelled : N → List ℕ) (names : List N) (text : List ℕ) (words : List (List ℕ)) → words_in text ≡ Ok words → head_of spelled names text ≡ head_in spelled names words
unfolding head_of
reading spelled names text words e = ap (λ r. r >>= head_in spelled names) e

pub refused_words : {N : Type 0} (spelled : N → List ℕ) (names : List N) (text : List ℕ) (f : ParseFault) → words_in text ≡ Err f → head_of spelled names text ≡ Err f
unfolding head_of
refused_words spelled names text f e = ap (λ r. r >>= head_in spelled names) e

pub none_said : {N : Type 0} (spelled : N → List ℕ) (names : List N) (text : List ℕ) (words : List (List ℕ)) → words_in text ≡ Ok words → words ≡ [] → head_of spelled names text ≡ Err Unknown
unfolding head_in
none_said spelled names text words e none = reading spelled names text words e ∙ ap (head_in spelled names) none

pub name_said : {N : Type 0} (spelled : N → List ℕ) (names : List N) (text word : List ℕ) (words others : List (List ℕ)) (n : N) → words_in text ≡ Ok words → words ≡ word ∷ others → Some n ≡ find (λ m. bytes_eq (spelled m) word) names → head_of spelled names text ≡ Ok (n, others)
unfolding head_in
name_said spelled names text word words others n e are is = reading spelled names text words e ∙ ap (head_in spelled names) are ∙ ap (λ m. ok_or m Unknown >>= (λ name. Ok (name, others))) (sym is)

pub no_name_said : {N : Type 0} (spelled : N → List ℕ) (names : List N) (text word : List ℕ) (words others : List (List ℕ)) → words_in text ≡ Ok words → words ≡ word ∷ others → None ≡ find (λ m. bytes_eq (spelled m) word) names → head_of spelled names text ≡ Err Unknown
unfolding head_in
no_name_said spelled names text word words others e are is = reading spelled names text words e ∙ ap (head_in spelled names) are ∙ ap (λ m. ok_or m Unknown >>= (λ name. Ok (name, others))) (sym is)

-- a table that finds each of its names by its spelling
module _ {N : Type 0} (spelled : N → List ℕ) (names : List N) (finds : (n : N) → find (λ m. bytes_eq (spelled m) (spelled n)) names ≡ Some n) where
  abbrev found : List ℕ → Option N
  found word = find (λ m. bytes_eq (spelled m) word) names

  spelled_so : (word : List ℕ) (n : N) → found word ≡ Some n → word ≡ spelled n
  spelled_so word n e = sym ((bytes_eq-Decides (spelled n) word).0 (find_passes (λ m. bytes_eq (spelled m) word) names n e))

  -- what a text begins with, by what is read of it
  abbrev pub IsHead : List ℕ → Result (N × List (List ℕ)) ParseFault → Type 0
  IsHead text (Ok head) = IsClean text × (words_of text ≡ spelled head.0 ∷ head.1)
  IsHead text (Err Octet) = IsUnclean text Octet
  IsHead text (Err TooLong) = IsUnclean text TooLong
  IsHead text (Err Unknown) = IsClean text × ((n : N) (others : List (List ℕ)) → words_of text ≢ spelled n ∷ others)
  IsHead text (Err Missing) = ⊥
  IsHead text (Err Number) = ⊥
  IsHead text (Err Memory) = ⊥

  with_name : (word : List ℕ) (n : N) (others : List (List ℕ)) → found word ≡ Some n → head_in spelled names (word ∷ others) ≡ Ok (n, others)
  unfolding head_in
  with_name word n others e = ap (λ m. ok_or m Unknown >>= (λ name. Ok (name, others))) e

  without_name : (word : List ℕ) (others : List (List ℕ)) → found word ≡ None → head_in spelled names (word ∷ others) ≡ Err Unknown
  unfolding head_in
  without_name word others e = ap (λ m. ok_or m Unknown >>= (λ name. Ok (name, others))) e

  no_name : (word : List ℕ) (others : List (List ℕ)) → found word ≡ None → (n : N) (behind : List (List ℕ)) → word ∷ others ≢ spelled n ∷ behind
  no_name word others none n behind e =
      let same : word ≡ spelled n = cc in
      let none_is : None ≡ Some n = sym none ∙ ap found same ∙ finds n in
      cc

  word_head : (text word : List ℕ) (others : List (List ℕ)) (n : Option N) → found word ≡ n → IsClean text → words_of text ≡ word ∷ others → IsHead text (head_in spelled names (word ∷ others))
  word_head text word others (Some n) e clean words =
      subst (IsHead text) (sym (with_name word n others e)) (clean, words ∙ ap (λ w. w ∷ others) (spelled_so word n e))
  word_head text word others None e clean words =
      subst (IsHead text) (sym (without_name word others e)) (clean, λ n behind same. no_name word others e n behind (sym words ∙ same))

  words_head : (text : List ℕ) (words : List (List ℕ)) → IsClean text → words_of text ≡ words → IsHead text (head_in spelled names words)
  unfolding head_in
  words_head text [] clean e = (clean, λ n behind same. let none : [] ≡ spelled n ∷ behind = sym e ∙ same in cc)
  words_head text (word ∷ others) clean e = word_head text word others (found word) refl clean e

  text_head : (text : List ℕ) (plain short : Bool) → is_plain text ≡ plain → has_short_words text ≡ short → IsHead text (head_of spelled names text)
  text_head text false short p s = subst (IsHead text) (sym (refused_words spelled names text Octet (unplain_words text p))) p
  text_head text true false p s = subst (IsHead text) (sym (refused_words spelled names text TooLong (long_words text p s))) (p, s)
  text_head text true true p s =
      let clean : IsClean text = record { plain = p; short = s } in
      subst (IsHead text) (sym (reading spelled names text (words_of text) (clean_words text clean))) (words_head text (words_of text) clean refl)

  pub is_head : (text : List ℕ) → IsHead text (head_of spelled names text)
  is_head text = text_head text (is_plain text) (has_short_words text) refl refl

  pub head_read : (text : List ℕ) (n : N) (others : List (List ℕ)) → IsClean text → words_of text ≡ spelled n ∷ others → head_of spelled names text ≡ Ok (n, others)
  head_read text n others clean words = reading spelled names text (words_of text) (clean_words text clean) ∙ ap (head_in spelled names) words ∙ with_name (spelled n) n others (finds n)

  -- a refusal that is due is what is read

  unknown_word : (word : List ℕ) (others : List (List ℕ)) (n : Option N) → found word ≡ n → ((n : N) (behind : List (List ℕ)) → word ∷ others ≢ spelled n ∷ behind) → head_in spelled names (word ∷ others) ≡ Err Unknown
  unknown_word word others (Some n) e other = absurd (other n others (ap (λ w. w ∷ others) (spelled_so word n e)))
  unknown_word word others None e other = without_name word others e

  unknown_words : (text : List ℕ) (words : List (List ℕ)) → words_of text ≡ words → ((n : N) (behind : List (List ℕ)) → words_of text ≢ spelled n ∷ behind) → head_in spelled names words ≡ Err Unknown
  unfolding head_in
  unknown_words text [] e other = refl
  unknown_words text (word ∷ others) e other = unknown_word word others (found word) refl (λ n behind same. other n behind (e ∙ same))

  pub head_unknown : (text : List ℕ) → IsClean text → ((n : N) (behind : List (List ℕ)) → words_of text ≢ spelled n ∷ behind) → head_of spelled names text ≡ Err Unknown
  head_unknown text clean other = reading spelled names text (words_of text) (clean_words text clean) ∙ unknown_words text (words_of text) refl other
