-- How a response is heard: lines that have come and wait, and what is read behind them.
use Rattle.std.specs.Prelude.{◌≡◌, ⊤, ℕ, List, [], ◌∷◌, ◌++◌, Option, Result, Ok, Err}
use Rattle.std.specs.Io.KnownBytes.{Consumes, IsAtEnd}
use Rattle.tip_line.specs.Reading.{Item, Text, items_of}
use Rattle.tip_line.specs.declared.command.CommandName.{CommandName}
use Rattle.tip_line.specs.declared.response.Response.{Response}
use Rattle.tip_intake.specs.Intake.{Begins}
use Rattle.tip_client.specs.Answers.{IsAnswer, IsNoAnswer}
use Rattle.tip_client.specs.declared.fault.ClientFault.{ClientFault}
use Rattle.tip_client.specs.declared.fault.ClientFault.TheVariants.{Unexpected, Closed, Read, Write, Memory}

-- the first item of these octets, whatever comes behind them
abbrev pub BeginsWith : List ℕ → Item → Type 0
BeginsWith octets item = (more : List ℕ) → (later : List Item) × (items_of (octets ++ more) ≡ item ∷ later)

-- what a text is, as the answer to a command
abbrev pub AnswersBy : CommandName → List ℕ → Result Response ClientFault → Type 0
AnswersBy command text (Ok response) = IsAnswer command (Text text) response
AnswersBy command text (Err Unexpected) = IsNoAnswer command (Text text)
AnswersBy command text (Err Closed) = ⊥
AnswersBy command text (Err Read) = ⊥
AnswersBy command text (Err Write) = ⊥
AnswersBy command text (Err Memory) = ⊤

-- the response to a command, from lines that wait and the octets that are read behind them
abbrev pub HearsBy : CommandName → List ℕ → List ℕ → List ℕ → Option (List ℕ) → Result Response ClientFault → Type 0
HearsBy command old new read after (Ok response) = (item : Item) × IsAnswer command item response × Begins (old ++ read) item new
HearsBy command old new read after (Err Unexpected) = (item : Item) × IsNoAnswer command item × BeginsWith (old ++ read) item
HearsBy command old new read after (Err Closed) = (items_of (old ++ read) ≡ []) × IsAtEnd after
HearsBy command old new read after (Err Read) = ⊤
HearsBy command old new read after (Err Write) = ⊥
HearsBy command old new read after (Err Memory) = ⊤

pub record Hears (command : CommandName) (old new : List ℕ) (before after : Option (List ℕ)) (result : Result Response ClientFault) : Type 0 where
  pub read : List ℕ
  pub consumed : Consumes before after read
  pub said : HearsBy command old new read after result
