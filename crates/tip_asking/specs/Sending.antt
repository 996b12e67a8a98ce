-- COMMANDS OF AN INPUT that are said to a manager (RFC 2371, sections 11 and 13).
use Rattle.std.specs.Prelude.{◌≡◌, ℕ, List, [], ◌∷◌, ◌++◌, Option, Some, None, Result, Ok, Err}
use Rattle.std.specs.Io.KnownBytes.{Consumes, IsAtEnd}
use Rattle.tip_line.specs.Command.{IsCommand}
use Rattle.tip_line.specs.Reading.{Item, Text, Bad, items_of}
use Rattle.tip_line.specs.declared.command.Command.{Command}
use Rattle.tip_line.specs.declared.response.Response.{Response}
use Rattle.tip_client.specs.Dialogues.{Completes, IsInput, lines_of}
use Rattle.tip_intake.specs.Intake.{Begins}
use Rattle.tip_writing.specs.Fronts.{IsFrontOf}
use Rattle.tip_asking.specs.Asking.{Tells}
use Rattle.tip_asking.specs.declared.fault.SendFault.{SendFault}
use Rattle.tip_asking.specs.declared.fault.SendFault.TheVariants.{Ask, NoCommand, Input, Memory}

abbrev pub send_status_of : SendFault → ℕ
send_status_of NoCommand = 2
send_status_of (Ask fault) = 1
send_status_of Input = 1
send_status_of Memory = 1

-- what came are these commands, each a line
abbrev pub AreCommands : List Item → List Command → Type 0
AreCommands [] [] = Unit {0}
AreCommands (Text text ∷ items) (command ∷ said) = IsCommand text command × AreCommands items said
AreCommands items said = ⊥

-- so many commands have come from an input, and these octets wait behind them
pub record HaveCome (waiting : List ℕ) (before after : Option (List ℕ)) (said : List Command) : Type 0 where
  pub read : List ℕ
  pub consumed : Consumes before after read
  pub items : List Item
  pub gives : (more : List ℕ) → items_of (read ++ more) ≡ items ++ items_of (waiting ++ more)
  pub are : AreCommands items said

-- what comes next of an input: a command, its end, or neither
abbrev pub ComesBy : List ℕ → List ℕ → Option (List ℕ) → Result (Option Command) SendFault → Type 0
ComesBy octets left after (Ok (Some command)) = (text : List ℕ) × IsCommand text command × Begins octets (Text text) left
ComesBy octets left after (Ok None) = (items_of octets ≡ []) × IsAtEnd after
ComesBy octets left after (Err fault) = Unit {0}

pub record Comes (waiting left : List ℕ) (before after : Option (List ℕ)) (result : Result (Option Command) SendFault) : Type 0 where
  pub read : List ℕ
  pub consumed : Consumes before after read
  pub comes : ComesBy (waiting ++ read) left after result

-- THE WHOLE INPUT was said: its lines are the commands, and what was heard to each was told.
pub record HasSent (known responses old new before after : Option (List ℕ)) : Type 0 where
  pub said : List Command
  pub heard : List Response
  pub input : List ℕ
  pub told : IsInput known input
  pub commands : AreCommands (items_of input) said
  pub dialogue : Completes said heard responses old new
  pub tells : Tells heard before after

-- IT STOPPED: of what came first, and is commands, a front was said, and nothing else.
pub record HasStopped (known rest old new : Option (List ℕ)) : Type 0 where
  pub said : List Command
  pub waiting : List ℕ
  pub came : HaveCome waiting known rest said
  pub front : IsFrontOf (lines_of said) old new
