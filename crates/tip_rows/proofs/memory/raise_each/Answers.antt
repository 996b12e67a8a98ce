use Rattle.std.proofs.Common.{arith}
use Rattle.std.proofs.lemmas.List.Edits.{map_over_more}
use Rattle.tip_rows.specs.Memory.{raised_known}
use Rattle.tip_rows.proofs.memory.raise_each.Goals as goal

pub loop-k-preserved : goal.loop-k-preserved
loop-k-preserved g c = rw (c.raise_one.ensures, ← c.k-item.is) (map_over_more raised_known c.as_mut_slice-k-items.result.now c.loop-k.k-items c.loop-k.k-index c.k-item.result (omega arith) c.loop-k.invariant c.k-item.is)
