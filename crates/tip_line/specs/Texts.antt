-- The text of a line, as its words are taken from it (RFC 2371, section 11).
use Rattle.std.specs.Prelude.{◌≡◌, ℕ, List, Bool, true, false, Result, Ok, Err, IsOk, if◌then◌else◌}
use Rattle.std.specs.List.{list_all}
use Rattle.tip_line.specs.Octets.{is_printable}
use Rattle.tip_line.specs.Words.{is_short, words_of}
use Rattle.tip_line.specs.declared.fault.ParseFault.{ParseFault}
use Rattle.tip_line.specs.declared.fault.ParseFault.TheVariants.{Octet, TooLong, Unknown, Missing, Number, Memory}

-- no octet but those that a line may have
abbrev pub is_plain : List ℕ → Bool
is_plain text = list_all is_printable text

abbrev pub has_short_words : List ℕ → Bool
has_short_words text = list_all is_short (words_of text)

-- a text whose words are taken
pub record IsClean (text : List ℕ) : Type 0 where
  pub plain : is_plain text ≡ true
  pub short : has_short_words text ≡ true

-- why no words are taken from a text
abbrev pub IsUnclean : List ℕ → ParseFault → Type 0
IsUnclean text Octet = is_plain text ≡ false
IsUnclean text TooLong = (is_plain text ≡ true) × (has_short_words text ≡ false)
IsUnclean text Unknown = ⊥
IsUnclean text Missing = ⊥
IsUnclean text Number = ⊥
IsUnclean text Memory = ⊥

-- the words of a text, or why there are none
unfoldable pub words_in : List ℕ → Result (List (List ℕ)) ParseFault
words_in text = if is_plain text then (if has_short_words text then Ok (words_of text) else Err TooLong) else Err Octet

infixl 10 ◌>>=◌
abbrev pub ◌>>=◌ : {A B : Type 0} → Result A ParseFault → (A → Result B ParseFault) → Result B ParseFault
(Ok x) >>= f = f x
(Err fault) >>= f = Err fault

-- What a function answers is what reading says; it is out of memory only where something is read.
abbrev pub Fails : {A : Type 0} → ParseFault → Result A ParseFault → Type 0
Fails Memory read = IsOk read
Fails Octet read = read ≡ Err Octet
Fails TooLong read = read ≡ Err TooLong
Fails Unknown read = read ≡ Err Unknown
Fails Missing read = read ≡ Err Missing
Fails Number read = read ≡ Err Number

abbrev pub Gives : {A : Type 0} → Result A ParseFault → Result A ParseFault → Type 0
Gives (Ok x) read = read ≡ Ok x
Gives (Err fault) read = Fails fault read
