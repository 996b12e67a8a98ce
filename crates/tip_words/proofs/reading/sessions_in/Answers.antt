use Rattle.std.proofs.Common.{◌≡◌, ℕ, List, Option, Some, None, Ok, Err, Result, refl, subst}
use Rattle.std.specs.Str.Parse.{ExplainsUnsignedError, HasUnsignedDigitsIfOk, ParsesUnsigned}
use Rattle.clap.proofs.WalkLemmas.{one_text-rows}
use Rattle.clap.specs.Words.{ReadsOne, found_of, one_text, Text}
use Rattle.tip_words.specs.Orders.{IsNumberOf}
use Rattle.std.proofs.Common.{codes}
use Rattle.tip_words.proofs.reading.sessions_in.Goals as goal

-- what `get_one` answers is the number of the text
read_so : {E : Type 0} (gives : List ℕ → Result ℕ E → Type 0) → ((t : List ℕ) (r : Result ℕ E) → gives t r → ParsesUnsigned 32 10 t r)
    → (text : Option Text) (number : Option ℕ) → (text ≡ None → number ≡ None) → ((t : List ℕ) → text ≡ Some t → ReadsOne gives t number) → IsNumberOf text number
read_so gives parses None number none value = none refl
read_so gives parses (Some t) None none value = let read = value t refl in parses t (Err read.0) read.1
read_so gives parses (Some t) (Some n) none value = parses t (Ok n) (value t refl)

pub returns : goal.returns
returns c =
    subst (λ (text : Option Text). IsNumberOf text c.get_one.result) (one_text-rows (found_of c.args.found.now) (codes "sessions"))
    (read_so (λ t r. ParsesUnsigned 32 10 t r × ExplainsUnsignedError 10 t r × HasUnsignedDigitsIfOk t r) (λ t r given. given.0) (one_text (found_of c.args.found.now) (codes "sessions")) c.get_one.result c.get_one.ensures.none c.get_one.ensures.value)
