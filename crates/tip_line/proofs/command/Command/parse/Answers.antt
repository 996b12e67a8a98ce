use Rattle.tip_line.proofs.Commands.{parsed, parsed_only, parse_refused, parse_exactly}
use Rattle.tip_line.proofs.command.Command.parse.Goals as goal

pub returns-clause-read : goal.returns-clause-read
returns-clause-read c = parsed c.args.text.now c.read.result c.read.ensures

pub returns-clause-only : goal.returns-clause-only
returns-clause-only c = parsed_only c.args.text.now c.read.result c.read.ensures

pub returns-clause-refused : goal.returns-clause-refused
returns-clause-refused c = parse_refused c.args.text.now c.read.result c.read.ensures

pub returns-clause-exactly : goal.returns-clause-exactly
returns-clause-exactly c = parse_exactly c.args.text.now c.read.result c.read.ensures
