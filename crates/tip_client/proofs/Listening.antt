-- What comes next, as the answer to a command.
use Rattle.std.proofs.Common.{ℕ, List, [], ◌++◌, Option, Result, Ok, Err}
use Rattle.tip_line.specs.Reading.{Text, Bad, items_of}
use Rattle.tip_line.specs.declared.command.CommandName.{CommandName}
use Rattle.tip_line.specs.declared.lines.Cause.{Cause}
use Rattle.tip_line.specs.declared.response.Response.{Response}
use Rattle.tip_intake.specs.Intake.{Begins, Comes}
use Rattle.tip_intake.specs.declared.intake.Coming.TheVariants.{Line, Fault}
use Rattle.tip_intake.specs.declared.intake.Intake.{Intake}
use Rattle.tip_client.specs.Hearing.{AnswersBy, Hears, HearsBy}
use Rattle.tip_client.specs.declared.fault.ClientFault.{ClientFault}
use Rattle.tip_client.specs.declared.fault.ClientFault.TheVariants.{Unexpected, Closed, Read, Write, Memory}

-- a text that comes is said as it answers
said_by : (command : CommandName) (old new read text : List ℕ) (after : Option (List ℕ)) (answer : Result Response ClientFault) → AnswersBy command text answer → Begins (old ++ read) (Text text) new → HearsBy command old new read after answer
said_by command old new read text after (Ok response) answers begins = (Text text, answers, begins)
said_by command old new read text after (Err Unexpected) answers begins = (Text text, answers, λ more. (items_of (new ++ more), begins more))
said_by command old new read text after (Err Closed) answers begins = absurd answers
said_by command old new read text after (Err Read) answers begins = absurd answers
said_by command old new read text after (Err Write) answers begins = absurd answers
said_by command old new read text after (Err Memory) answers begins = tt

pub hears_line : (IsHeard : List ℕ → Result Response ClientFault → Type 0) (command : CommandName) (old new : Intake) (before after : Option (List ℕ)) (answer : Result Response ClientFault) → ((text : List ℕ) → IsHeard text answer → AnswersBy command text answer) → Comes IsHeard old new before after (Line answer) → Hears command old.lines new.lines before after answer
hears_line IsHeard command old new before after answer answers comes = record {
  read = comes.read;
  consumed = comes.consumed;
  said = said_by command old.lines new.lines comes.read comes.gives.0 after answer (answers comes.gives.0 comes.gives.1) comes.gives.2;
}

pub hears_fault : (IsHeard : List ℕ → Result Response ClientFault → Type 0) (command : CommandName) (old new : Intake) (before after : Option (List ℕ)) (cause : Cause) → Comes IsHeard old new before after (Fault cause) → Hears command old.lines new.lines before after (Err Unexpected)
hears_fault IsHeard command old new before after cause comes = record {
  read = comes.read;
  consumed = comes.consumed;
  said = (Bad cause, λ response answer. answer, λ more. ([], comes.gives.0 more));
}
