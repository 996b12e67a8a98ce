-- Where no name is read, the refusal is the name's.
use Rattle.tip_line.proofs.Commands.{reading}
use Rattle.tip_line.proofs.Texts.{gives_refused}
use Rattle.tip_line.specs.Command.{command_of}
use Rattle.std.proofs.Common.{Err}
use Rattle.tip_line.proofs.command.Command.read.Goals as goal

pub returns-in_err-name : goal.returns-in_err-name
returns-in_err-name c = gives_refused c.from_residual.result c.in_err-name.field-0.0 (command_of c.args.text.now) c.from_residual.ensures c.in_err-name.ensures.1 (reading c.args.text.now (Err c.in_err-name.field-0.0) c.in_err-name.ensures.0)
