use Rattle.tip_history.proofs.Telling.{memory_is_written}
use Rattle.tip_history.proofs.laws.nothing_was_stored_in_memory.Goals as goal

pub returns : goal.returns
returns c = memory_is_written
