use Rattle.tip_line.proofs.Printing.{response_printed}
use Rattle.tip_line.proofs.laws.printed_responses_are_read.Goals as goal

pub returns : goal.returns
returns c = response_printed
