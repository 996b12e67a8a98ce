-- What one read adds.
use Rattle.std.proofs.Common.{◌≤◌, length, take, arith}
use Rattle.tip_intake.proofs.Reading.{offered}
use Rattle.tip_intake.proofs.intake.Intake.read_more.Goals as goal

pub returns-in-Ok-clause-adds : goal.returns-in-Ok-clause-adds
returns-in-Ok-clause-adds g c =
    let piece = take c.in-Ok.len c.read.new.buf in
    let bound = c.in-Ok.ensures.bound in
    let all = c.read.auto.buf in
    let short : length piece ≤ 1024 = omega arith in
    let some : 1 ≤ length piece = omega arith in
    (piece, some, short, c.in-Ok.ensures.bytes.0, offered c.args.self.now.lines piece c.offer.new.self c.offer.result c.requires short c.offer.ensures.bound c.offer.ensures.fits c.offer.ensures.taken)
