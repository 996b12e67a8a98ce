use denote.Param.{param}
use denote.Param.Send.{sendable}
use denote.Param.Object.{Vt, ghosts_of}
use Rattle.std.proofs.Crossing.{dyn_box_send}
use Rattle.std.proofs.alloc.Global.TheSendSync as global
use Rattle.tip_shared.proofs.Crossing.{also, caught, none}
use Rattle.tip_threads.specs.contracts.running.start_hanging_up.dyn-1 as boxed
use Rattle.tip_threads.proofs.Crossing.{links_send}
use Rattle.tip_threads.proofs.running.start_hanging_up.Goals as goal

pub spawn-requires-send-F : goal.spawn-requires-send-F
spawn-requires-send-F g c κs within =
    let D = Vt (boxed.slots g.row.R g.row.S g.row.S-Medium) g.dyn-1.0 in
    let h = ghosts_of (boxed.slots g.row.R g.row.S g.row.S-Medium) g.dyn-1.0 g.dyn-1.1 in
    let boxes = dyn_box_send D h g.dyn-1.2 (search sendable) in
    let link = links_send D h boxes (param 1 g.row.S) c.type_bounds.send-S in
    search (also _ _ c.type_bounds.send-R (also _ _ global.the_send (also _ _ link none)), caught)
