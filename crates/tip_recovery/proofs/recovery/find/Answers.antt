use Rattle.std.proofs.Common.{arith, rules}
use Rattle.tip_recovery.specs.Adopting.{is_named}
use Rattle.tip_recovery.proofs.Looking.{skips-more, skips-to}
use Rattle.tip_recovery.proofs.recovery.find.Goals as goal

pub returns-then-is_named : goal.returns-then-is_named
returns-then-is_named g c = skips-to (is_named c.args.id.now) c.loop-place.place c.args.rows.now c.index-rows-place.result (omega arith) (search rules) c.loop-place.invariant

pub loop-place-preserved : goal.loop-place-preserved
loop-place-preserved g c = skips-more (is_named c.args.id.now) c.loop-place.place c.args.rows.now c.index-rows-place.result (omega arith) (search rules) c.loop-place.invariant
