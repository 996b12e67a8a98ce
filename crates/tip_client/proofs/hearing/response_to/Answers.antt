-- What comes next is the response, or none.
use Rattle.std.proofs.Common.{rules}
use Rattle.tip_client.proofs.Listening.{hears_fault, hears_line}
use Rattle.tip_client.proofs.hearing.response_to.Goals as goal

pub returns-in-Line : goal.returns-in-Line
returns-in-Line g c = hears_line _ c.args.command c.args.intake.now c.next.new.self (g.R.Read.remaining c.args.reader.now) (g.R.Read.remaining c.next.new.reader) c.in-Line.answer (λ text is. search rules) c.in-Line.ensures

pub returns-in-Fault : goal.returns-in-Fault
returns-in-Fault g c = hears_fault _ c.args.command c.args.intake.now c.next.new.self (g.R.Read.remaining c.args.reader.now) (g.R.Read.remaining c.next.new.reader) c.in-Fault.field-0 c.in-Fault.ensures
