use Rattle.std.proofs.Common.{arith}
use Rattle.std.proofs.lemmas.Grind.{common_steps}
use Rattle.tip_table.proofs.SlotLemmas.{length-placed}
use Rattle.tip_table.proofs.table.Table.with_room.Goals as goal

pub returns-clause-room : goal.returns-clause-room
returns-clause-room g c =
    let all = length-placed c.self.inside.slots c.self.inside.order.items c.self.invariant.0.there in
    rw (← c.self.view_is) (grind (arith, common_steps, all))
