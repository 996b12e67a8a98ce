use Rattle.std.proofs.Common.{refl}
use Rattle.tip_rows.proofs.memory.MemRows.new_in.Goals as goal

pub returns-clause-empty : goal.returns-clause-empty
returns-clause-empty g c = rw (c.new.ensures.items, c.new-2.ensures.items) refl
