use Rattle.std.proofs.Common.{arith}
use Rattle.std.proofs.lemmas.List.Edits.{map_over_more}
use Rattle.tip_rows.specs.Memory.{raised_named}
use Rattle.tip_rows.proofs.memory.raise_of.Goals as goal

pub loop-k-preserved : goal.loop-k-preserved
loop-k-preserved g c = rw (c.raise_named.ensures, ← c.k-item.is) (map_over_more (raised_named c.args.realm.now) c.as_mut_slice-k-items.result.now c.loop-k.k-items c.loop-k.k-index c.k-item.result (omega arith) c.loop-k.invariant c.k-item.is)
