-- A piece more was written.
use Rattle.tip_writing.proofs.Appending.{writes_on}
use Rattle.tip_writing.proofs.writing.write_front.Goals as goal

pub loop-preserved : goal.loop-preserved
loop-preserved g c = writes_on c.args.text.now c.loop.rest.now c.in_ok-len.len (g.W.Write.contents c.args.output.now) (g.W.Write.contents c.loop.output) (g.W.Write.contents c.write_some.new.output) c.loop.invariant c.in_ok-len.ensures.ok
