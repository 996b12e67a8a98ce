use Rattle.std.proofs.Common.{ap}
use Rattle.tip_control.proofs.Taken.{taken}
use Rattle.tip_control.proofs.lines.take_line.Goals as goal

pub returns-in-Ok : goal.returns-in-Ok
returns-in-Ok g c =
    taken (g.R.Read.remaining c.args.reader.now) (g.R.Read.remaining c.take.result.inner.now) c.take.result.limit c.read_until.new.buf.items c.clear.new.self.items
    (ap (λ r. g.R.Read.remaining r.now) c.take.ensures.inner) c.take.ensures.limit c.clear.ensures.items c.in-Ok.ensures.bytes
