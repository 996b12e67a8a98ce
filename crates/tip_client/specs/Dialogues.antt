-- A DIALOGUE: a primary says one command after another, and takes the response to each before it says the next
-- (RFC 2371, sections 4, 9 and 13).
use Rattle.std.specs.Prelude.{◌≡◌, ◌<◌, ◌+◌, ℕ, List, [], ◌∷◌, ◌++◌, length, take, slice_get, Option, Some, IfSome}
use Rattle.std.specs.Io.KnownBytes.{Appends, IsAtEnd}
use Rattle.std.specs.List.{flat_map}
use Rattle.tip_line.specs.Command as commands
use Rattle.tip_line.specs.Reading.{Item, items_of}
use Rattle.tip_line.specs.declared.command.Command.{Command}
use Rattle.tip_line.specs.declared.response.Response.{Response}
use Rattle.tip_writing.specs.Fronts.{IsFrontOf}
use Rattle.tip_client.specs.Answers.{AreAnswers, IsNoAnswer}
use Rattle.tip_client.specs.declared.fault.ClientFault.{ClientFault}
use Rattle.tip_client.specs.declared.fault.ClientFault.TheVariants.{Unexpected, Closed, Read, Write, Memory}

-- a command as it is sent: its spelling, and CR LF behind it (section 11)
abbrev pub line_of : Command → List ℕ
line_of command = commands.printed command ++ 13 ∷ 10 ∷ []

abbrev pub lines_of : List Command → List ℕ
lines_of said = flat_map line_of said

-- all that comes is what the reader tells of it, where it tells that
abbrev pub IsInput : Option (List ℕ) → List ℕ → Type 0
IsInput known input = IfSome known (λ octets. input ≡ octets)

-- ALL COMMANDS WERE SAID AND ANSWERED: their lines were written in order, and the first lines that came are the responses.
pub record Completes (said : List Command) (heard : List Response) (known old new : Option (List ℕ)) : Type 0 where
  pub input : List ℕ
  pub told : IsInput known input
  pub answered : AreAnswers said (items_of input) heard
  pub all : length heard ≡ length said
  pub written : Appends old new (lines_of said)

-- so many commands, which are there, were said whole
abbrev pub HasSaid : List Command → ℕ → Option (List ℕ) → Option (List ℕ) → Type 0
HasSaid said count old new = Appends old new (lines_of (take count said))

-- the item at this place does not answer the command at the same place
pub record IsUnanswered (said : List Command) (items : List Item) (at : ℕ) : Type 0 where
  pub command : Command
  pub item : Item
  pub is_said : slice_get said at ≡ Some command
  pub comes : slice_get items at ≡ Some item
  pub no_answer : IsNoAnswer (commands.name_of command) item

-- Why a dialogue stops behind so many responses, what was written until then, and what is left to read: the next command
-- was said whole, where its response was awaited; else a front of its line was written at most.
abbrev pub StopsBy : ClientFault → List Command → List Item → ℕ → Option (List ℕ) → Option (List ℕ) → Option (List ℕ) → Type 0
StopsBy Unexpected said items count rest old new = IsUnanswered said items count × HasSaid said (count + 1) old new
StopsBy Closed said items count rest old new = (count < length said) × (length items ≡ count) × IsAtEnd rest × HasSaid said (count + 1) old new
StopsBy Read said items count rest old new = (count < length said) × HasSaid said (count + 1) old new
StopsBy Write said items count rest old new = (count < length said) × IsFrontOf (lines_of (take (count + 1) said)) old new
StopsBy Memory said items count rest old new = IsFrontOf (lines_of (take (count + 1) said)) old new

-- A DIALOGUE STOPPED, behind these responses, which are the first lines that came.
pub record Stops (fault : ClientFault) (said : List Command) (known rest old new : Option (List ℕ)) : Type 0 where
  pub input : List ℕ
  pub told : IsInput known input
  pub heard : List Response
  pub answered : AreAnswers said (items_of input) heard
  pub why : StopsBy fault said (items_of input) (length heard) rest old new
