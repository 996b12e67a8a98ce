-- What the threads of a connection share, and those of a control port, may cross threads, where the store and the branches may.
use denote.RattleType.{RattleType}
use denote.Param.Object.{Ghosts}
use denote.Param.Send.{IsSend, IsSync, plain_send, plain_sync, recorded_send, recorded_sync, struct_send, struct_sync}
use denote.Struct.Declared
use Rattle.std.proofs.Crossing.{Arc-send, Arc-sync}
use Rattle.std.proofs.net.tcp.TcpStream.TheSendSync as socket
use Rattle.std.proofs.option.Option.TheSendSync as option
use Rattle.std.specs.contracts.alloc.Global
use Rattle.std.specs.contracts.dyn_box.DynBox
use Rattle.std.specs.contracts.impls.GlobalAllocator.TheImpl
use Rattle.std.specs.contracts.sync.Arc
use Rattle.tip_line.proofs.realm.Realm.TheSendSync as realm
use Rattle.tip_host.proofs.seat.Seat.TheSendSync as seat
use Rattle.tip_shared.proofs.Crossing.{shared_send, shared_sync}
use Rattle.tip_shared.specs.contracts.shared.Shared
use Rattle.tip_duties.proofs.duties.Dial.TheSendSync as dial
use Rattle.tip_duties.specs.contracts.duties.Dial
use Rattle.tip_notices.proofs.inbox.Inbox.TheSendSync as inbox
use Rattle.tip_notices.proofs.kept.Kept.TheSendSync as kept
use Rattle.tip_notices.proofs.log.Log.TheSendSync as log
use Rattle.tip_notices.specs.contracts.inbox.Inbox
use Rattle.tip_notices.specs.contracts.kept.Kept
use Rattle.tip_notices.specs.contracts.log.Log
use Rattle.tip_notices.proofs.slots.Slots.TheSendSync as slots
use Rattle.tip_notices.specs.contracts.slots.Slots
use Rattle.tip_machine.proofs.head.Limits.TheSendSync as limits
use Rattle.tip_threads.proofs.pacing.Pace.TheSendSync as pace
use Rattle.tip_threads.specs.contracts.answering.ControlPort
use Rattle.tip_threads.specs.contracts.running.Link

module _ (D : RattleType) (g : Ghosts D.Denot) (boxed : IsSend (DynBox.the_row D Global.the_row g TheImpl.ghosts)) (S : RattleType) (s : IsSend S) where
  link_send : IsSend (Link.the_row S D g)
  link_send = recorded_send (Link.the_field S D g).row _ _ (Link.the_type S D g).to_one (struct_send (Declared.shape (Link.the_type S D g)) (
    Arc-send (Shared.the_row S D g) (shared_send D g boxed S s) (shared_sync D g boxed S s),
    (
      Arc-send Inbox.the_row inbox.the_send inbox.the_sync,
      (
        Arc-send Log.the_row log.the_send log.the_sync,
        (
          socket.the_field_send,
          (
            realm.the_send,
            (
              seat.the_field_send,
              (
                plain_send _ _ _ _ _,
                (
                  option.the_field_send Dial.the_row dial.the_send,
                  (
                    option.the_field_send Kept.the_row kept.the_send,
                    tt,
                  ),
                ),
              ),
            ),
          ),
        ),
      ),
    ),
  ))

  link_sync : IsSync (Link.the_row S D g)
  link_sync = recorded_sync (Link.the_field S D g).row _ _ (Link.the_type S D g).to_one (struct_sync (Declared.shape (Link.the_type S D g)) (
    Arc-sync (Shared.the_row S D g) (shared_send D g boxed S s) (shared_sync D g boxed S s),
    (
      Arc-sync Inbox.the_row inbox.the_send inbox.the_sync,
      (
        Arc-sync Log.the_row log.the_send log.the_sync,
        (
          socket.the_field_sync,
          (
            realm.the_sync,
            (
              seat.the_field_sync,
              (
                plain_sync _ _ _ _ _,
                (
                  option.the_field_sync Dial.the_row dial.the_sync,
                  (
                    option.the_field_sync Kept.the_row kept.the_sync,
                    tt,
                  ),
                ),
              ),
            ),
          ),
        ),
      ),
    ),
  ))

  pub links_send : IsSend (Arc.the_row (Link.the_row S D g) Global.the_row TheImpl.ghosts)
  links_send = Arc-send (Link.the_row S D g) link_send link_sync

  port_send : IsSend (ControlPort.the_row S D g)
  port_send = recorded_send (ControlPort.the_field S D g).row _ _ (ControlPort.the_type S D g).to_one (struct_send (Declared.shape (ControlPort.the_type S D g)) (
    Arc-send (Shared.the_row S D g) (shared_send D g boxed S s) (shared_sync D g boxed S s),
    (
      Arc-send Inbox.the_row inbox.the_send inbox.the_sync,
      (
        Arc-send Slots.the_row slots.the_send slots.the_sync,
        (
          pace.the_field_send,
          (
            plain_send _ _ _ _ _,
            (
              limits.the_field_send,
              tt,
            ),
          ),
        ),
      ),
    ),
  ))

  port_sync : IsSync (ControlPort.the_row S D g)
  port_sync = recorded_sync (ControlPort.the_field S D g).row _ _ (ControlPort.the_type S D g).to_one (struct_sync (Declared.shape (ControlPort.the_type S D g)) (
    Arc-sync (Shared.the_row S D g) (shared_send D g boxed S s) (shared_sync D g boxed S s),
    (
      Arc-sync Inbox.the_row inbox.the_send inbox.the_sync,
      (
        Arc-sync Slots.the_row slots.the_send slots.the_sync,
        (
          pace.the_field_sync,
          (
            plain_sync _ _ _ _ _,
            (
              limits.the_field_sync,
              tt,
            ),
          ),
        ),
      ),
    ),
  ))

  pub ports_send : IsSend (Arc.the_row (ControlPort.the_row S D g) Global.the_row TheImpl.ghosts)
  ports_send = Arc-send (ControlPort.the_row S D g) port_send port_sync
