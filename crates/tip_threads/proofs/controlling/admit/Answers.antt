use denote.Builtin.{usize}
use denote.Param.{param}
use denote.Param.Send.{IsSend, plain_send, sendable}
use denote.Param.Object.{Vt, ghosts_of}
use Rattle.std.proofs.Crossing.{dyn_box_send}
use Rattle.std.proofs.alloc.Global.TheSendSync as global
use Rattle.std.proofs.Crossing.{Arc-send}
use Rattle.std.proofs.net.tcp.TcpStream.TheSendSync as socket
use Rattle.std.specs.contracts.net.tcp.TcpStream
use Rattle.tip_shared.proofs.Crossing.{also, caught, none}
use Rattle.tip_threads.specs.contracts.controlling.admit.dyn-1 as boxed
use Rattle.tip_threads.proofs.Crossing.{ports_send}
use Rattle.tip_threads.proofs.controlling.admit.Goals as goal

place_send : IsSend usize
place_send = plain_send _ _ _ _ _

pub spawn-started-requires-send-F : goal.spawn-started-requires-send-F
spawn-started-requires-send-F g c κs within =
    let D = Vt (boxed.slots g.row.R g.row.S g.row.S-Medium) g.dyn-1.0 in
    let h = ghosts_of (boxed.slots g.row.R g.row.S g.row.S-Medium) g.dyn-1.0 g.dyn-1.1 in
    let boxes = dyn_box_send D h g.dyn-1.2 (search sendable) in
    let port = ports_send D h boxes (param 1 g.row.S) c.type_bounds.send-S in
    search (also _ _ c.type_bounds.send-R (also _ _ global.the_send (also _ _ port (also _ _ (Arc-send TcpStream.the_row socket.the_send socket.the_sync) (also _ _ place_send none)))), caught)
