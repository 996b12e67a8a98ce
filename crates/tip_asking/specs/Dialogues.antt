-- A PART OF A DIALOGUE: commands are said one after another, and each is answered before the next is said, by the lines that wait and
-- those that are read (RFC 2371, sections 9 and 13).
use Rattle.std.specs.Prelude.{◌≡◌, ℕ, List, ◌++◌, length, Option}
use Rattle.std.specs.Io.KnownBytes.{Appends, Consumes}
use Rattle.tip_line.specs.Reading.{Item, items_of}
use Rattle.tip_line.specs.declared.command.Command.{Command}
use Rattle.tip_line.specs.declared.response.Response.{Response}
use Rattle.tip_client.specs.Answers.{AreAnswers}
use Rattle.tip_client.specs.Dialogues.{lines_of}

pub record Continues (waiting left : List ℕ) (before after old new : Option (List ℕ)) (said : List Command) (heard : List Response) : Type 0 where
  pub read : List ℕ
  pub consumed : Consumes before after read
  pub items : List Item
  pub many : length items ≡ length said
  pub gives : (more : List ℕ) → items_of (waiting ++ (read ++ more)) ≡ items ++ items_of (left ++ more)
  pub answered : AreAnswers said items heard
  pub all : length heard ≡ length said
  pub written : Appends old new (lines_of said)
