use Rattle.std.proofs.Common.{arith}
use Rattle.tip_stored.proofs.TakingUp.{back_at, given_at}
use Rattle.tip_stored.proofs.recovering.adopt_at.Goals as goal

pub returns-clause-ok : goal.returns-clause-ok
returns-clause-ok g c = given_at c.args.id.now c.args.boxes c.args.realms.now.items c.args.realm c.index_mut.result.now (omega arith) c.index_mut.ensures.value c.adopt.result c.adopt.new.self c.adopt.ensures.ok

pub returns-clause-err : goal.returns-clause-err
returns-clause-err g c = back_at c.args.id.now c.args.boxes c.args.realms.now.items c.args.realm c.index_mut.result.now (omega arith) c.index_mut.ensures.value c.adopt.result c.adopt.ensures.err
