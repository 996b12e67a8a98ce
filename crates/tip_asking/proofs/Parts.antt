-- Parts of a dialogue, one behind another.
use Rattle.std.proofs.Common.{◌≡◌, ◌∙◌, ◌+◌, ℕ, List, [], ◌∷◌, ◌++◌, length, Option, Some, None, Ok, arith, refl, sym, ap, subst, append-nil, append_assoc, length-append}
use Rattle.std.specs.Io.KnownBytes.{Appends, Consumes}
use Rattle.std.proofs.KnownBytes.{Appends-trans, Consumes-trans}
use Rattle.std.proofs.lemmas.Grind.{flat_map-append}
use Rattle.tip_line.specs.Command as commands
use Rattle.tip_line.specs.Reading.{Item, items_of}
use Rattle.tip_line.specs.declared.command.Command.{Command}
use Rattle.tip_line.specs.declared.response.Response.{Response}
use Rattle.tip_client.specs.Answers.{AreAnswers}
use Rattle.tip_client.specs.Dialogues.{Completes, IsInput, line_of, lines_of}
use Rattle.tip_client.specs.Hearing.{Hears}
use Rattle.tip_asking.specs.Dialogues.{Continues}

-- answers with others behind them
both : (said said' : List Command) (items items' : List Item) (heard heard' : List Response) → AreAnswers said items heard → length items ≡ length said → length heard ≡ length said
    → AreAnswers said' items' heard' → AreAnswers (said ++ said') (items ++ items') (heard ++ heard')
both [] said' [] items' [] heard' so many all later = later
both [] said' (item ∷ items) items' heard heard' so many all later = absurd (omega (arith, many))
both [] said' [] items' (response ∷ heard) heard' so many all later = absurd (omega (arith, all))
both (command ∷ said) said' [] items' heard heard' so many all later = absurd (omega (arith, many))
both (command ∷ said) said' (item ∷ items) items' [] heard' so many all later = absurd (omega (arith, all))
both (command ∷ said) said' (item ∷ items) items' (response ∷ heard) heard' so many all later = (so.0, both said said' items items' heard heard' so.1 (omega (arith, many)) (omega (arith, all)) later)

-- answers with more read behind them
more_read : (said : List Command) (items later : List Item) (heard : List Response) → AreAnswers said items heard → AreAnswers said (items ++ later) heard
more_read said items later [] so = tt
more_read [] items later (response ∷ heard) so = absurd so
more_read (command ∷ said) [] later (response ∷ heard) so = absurd so
more_read (command ∷ said) (item ∷ items) later (response ∷ heard) so = (so.0, more_read said items later heard so.1)

module _ (waiting left : List ℕ) (before after old new : Option (List ℕ)) where
  -- one command
  pub answers : (command : Command) (response : Response) → Appends old new (line_of command) → Hears (commands.name_of command) waiting left before after (Ok response)
      → Continues waiting left before after old new (command ∷ []) (response ∷ [])
  answers command response written hears = record {
    read = hears.read;
    consumed = hears.consumed;
    items = hears.said.0 ∷ [];
    many = refl;
    gives = λ more. ap items_of (sym (append_assoc waiting hears.read more)) ∙ hears.said.2 more;
    answered = (hears.said.1, tt);
    all = refl;
    written = subst (Appends old new) (sym (append-nil (line_of command))) written;
  }

  -- and what follows
  pub goes_on : (end : List ℕ) (later last : Option (List ℕ)) (said said' : List Command) (heard heard' : List Response) → Continues waiting left before after old new said heard → Continues left end after later new last said' heard'
      → Continues waiting end before later old last (said ++ said') (heard ++ heard')
  goes_on end later last said said' heard heard' first next = record {
    read = first.read ++ next.read;
    consumed = Consumes-trans before after later first.read next.read first.consumed next.consumed;
    items = first.items ++ next.items;
    many = length-append first.items next.items ∙ ap (λ n. n + length next.items) first.many ∙ ap (λ n. length said + n) next.many ∙ sym (length-append said said');
    gives = λ more.
        ap (λ l. items_of (waiting ++ l)) (append_assoc first.read next.read more) ∙ first.gives (next.read ++ more) ∙ ap (λ l. first.items ++ l) (next.gives more)
        ∙ sym (append_assoc first.items next.items (items_of (end ++ more)));
    answered = both said said' first.items next.items heard heard' first.answered first.many first.all next.answered;
    all = length-append heard heard' ∙ ap (λ n. n + length heard') first.all ∙ ap (λ n. length said + n) next.all ∙ sym (length-append said said');
    written = subst (Appends old last) (sym (flat_map-append line_of said said')) (Appends-trans old new last (lines_of said) (lines_of said') first.written next.written);
  }

-- what was read, and all that comes behind it
input_of : (before after : Option (List ℕ)) (read : List ℕ) → Consumes before after read → (more : List ℕ) × IsInput before (read ++ more)
input_of None after read consumed = ([], tt)
input_of (Some octets) None read consumed = absurd consumed
input_of (Some octets) (Some more) read consumed = (more, sym consumed)

-- a whole dialogue, before which nothing waits
pub completes : (waiting left : List ℕ) (before after old new : Option (List ℕ)) (said : List Command) (heard : List Response) → waiting ≡ [] → Continues waiting left before after old new said heard → Completes said heard before old new
completes waiting left before after old new said heard empty so =
    let input = input_of before after so.read so.consumed in
    let items : items_of (so.read ++ input.0) ≡ so.items ++ items_of (left ++ input.0) = ap (λ l. items_of (l ++ (so.read ++ input.0))) (sym empty) ∙ so.gives input.0 in
    record {
      input = so.read ++ input.0;
      told = input.1;
      answered = subst (λ is. AreAnswers said is heard) (sym items) (more_read said so.items (items_of (left ++ input.0)) heard so.answered);
      all = so.all;
      written = so.written;
    }
