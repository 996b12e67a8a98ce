use Rattle.tip_line.proofs.Printing.{command_printed}
use Rattle.tip_line.proofs.laws.printed_commands_are_read.Goals as goal

pub returns : goal.returns
returns c = command_printed
