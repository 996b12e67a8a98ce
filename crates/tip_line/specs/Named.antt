-- A text that begins with a name out of a table (RFC 2371, section 13).
use Rattle.std.specs.Prelude.{ℕ, List, [], ◌∷◌, Result, Ok, Err}
use Rattle.std.specs.List.{find}
use Rattle.std.specs.Option.{ok_or}
use Rattle.std.specs.Str.{bytes_eq}
use Rattle.tip_line.specs.Texts.{words_in, ◌>>=◌}
use Rattle.tip_line.specs.declared.fault.ParseFault.{ParseFault}
use Rattle.tip_line.specs.declared.fault.ParseFault.TheVariants.{Unknown}

-- the name that the first word is, and the words behind it
unfoldable pub head_in : {N : Type 0} → (N → List ℕ) → List N → List (List ℕ) → Result (N × List (List ℕ)) ParseFault
head_in spelled names [] = Err Unknown
head_in spelled names (word ∷ others) = do
  name ← ok_or (find (λ name. bytes_eq (spelled name) word) names) Unknown
  Ok (name, others)

-- the same of a text, or why no words are taken from it
unfoldable pub head_of : {N : Type 0} → (N → List ℕ) → List N → List ℕ → Result (N × List (List ℕ)) ParseFault
head_of spelled names text = do
  words ← words_in text
  head_in spelled names words
