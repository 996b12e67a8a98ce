-- What is looked for among answers to decide (RFC 2371, section 13).
use Rattle.std.specs.Prelude.{Bool, Option, is_none}
use Rattle.tip_txn.specs.Parts.{is_yes}
use Rattle.tip_txn.specs.declared.answer.Ballot.{Ballot}
use Rattle.tip_txn.specs.declared.part.Participant.{Participant}
use Rattle.tip_machine.specs.Transactions.{refuses}
use Rattle.tip_outlook.specs.declared.others.Sought.{Sought}
use Rattle.tip_outlook.specs.declared.others.Sought.TheVariants as sought

abbrev pub is_sought : Sought → Option Ballot → Bool
is_sought sought.Refusal said = refuses said
is_sought sought.Nothing said = is_none said
is_sought sought.Yes said = is_yes said

abbrev pub says : Sought → Participant → Bool
says what part = is_sought what part.answer
