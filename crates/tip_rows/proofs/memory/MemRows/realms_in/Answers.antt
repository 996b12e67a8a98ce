use Rattle.std.proofs.Common.{ap}
use Rattle.tip_rows.specs.Memory.{log_of}
use Rattle.tip_rows.proofs.MemoryLemmas.{shows}
use Rattle.tip_rows.proofs.NameLemmas.{AreNames-known}
use Rattle.tip_rows.proofs.memory.MemRows.realms_in.Goals as goal

pub returns-in-Ok-clause-names : goal.returns-in-Ok-clause-names
returns-in-Ok-clause-names g c = rw (c.in-Ok.ensures, c.deref.ensures.value) (AreNames-known _ c.self.inside.rows.items _ (shows _ _ _ c.self.invariant (ap log_of c.self.view_is)))
