-- A host may cross threads, and be shared by them behind its lock, where its store and its branches may cross. The prover finds
-- this of a type by its fields, but not of one that holds boxes: there it searches through all that the type is made of. So whoever
-- starts a thread over a host cites these.
use denote.RattleType.{RattleType}
use denote.Exit.{no}
use denote.Param.{arg}
use denote.Param.Object.{Ghosts}
use denote.Param.Send.{AllSend, IsSend, IsSync, arg_send, param_send, plain_send, recorded_send, recorded_sync, shr_send, struct_send, struct_sync, view_send}
use denote.Param.SendFields.{FieldsHave, as_row_send, declared_send}
use denote.Struct.Declared
use denote.Struct.Field.{row_field}
use denote.Struct.Tuple.{TupleAt, parts, type_at}
use mathlib.Core.List.{List, [], ◌∷◌}
use mir.Syntax.{Sym, Ty}
use Rattle.std.below.std_heap.proofs.GlobalAllocator.TheSendSync as heap
use Rattle.std.proofs.alloc.Global.TheSendSync as global
use Rattle.std.proofs.sync.Mutex.TheSendSync as mutex
use Rattle.std.proofs.vec.Vec.TheSendSync as vec
use Rattle.std.specs.contracts.alloc.Global
use Rattle.std.specs.contracts.dyn_box.DynBox
use Rattle.std.specs.contracts.impls.GlobalAllocator.TheImpl
use Rattle.std.specs.contracts.vec.Vec
use Rattle.tip_line.proofs.id.Id.TheSendSync as id
use Rattle.tip_line.proofs.realm.Realm.TheSendSync as realm
use Rattle.tip_branch.proofs.branch.Badge.TheSendSync as badge
use Rattle.tip_branch.proofs.branch.Phase.TheSendSync as phase
use Rattle.tip_branch.proofs.member.Errand.TheSendSync as errand
use Rattle.tip_branch.proofs.party_note.PartyNote.TheSendSync as note
use Rattle.tip_branch.proofs.roll.Roll.TheSendSync as roll
use Rattle.tip_branch.specs.contracts.branch.Badge
use Rattle.tip_branch.specs.contracts.held_fresh.HeldFresh
use Rattle.tip_branch.specs.contracts.held_fresh.HeldFresh.TheInside as InFresh
use Rattle.tip_branch.specs.contracts.held_party.HeldParty
use Rattle.tip_branch.specs.contracts.held_party.HeldParty.TheInside as InParty
use Rattle.tip_branch.specs.contracts.lot.Lot
use Rattle.tip_branch.specs.contracts.party.Party
use Rattle.tip_branch.specs.contracts.party_note.PartyNote
use Rattle.tip_machine.proofs.connection.Connection.TheSendSync as connection
use Rattle.tip_machine.proofs.transaction.Transaction.TheSendSync as transaction
use Rattle.tip_machine.specs.contracts.connection.Connection
use Rattle.tip_machine.specs.contracts.connection.ConnectionLinked.TheImpl as connection_linked
use Rattle.tip_machine.specs.contracts.transaction.Transaction
use Rattle.tip_machine.specs.contracts.transaction.TransactionLinked.TheImpl as transaction_linked
use Rattle.tip_outlook.proofs.turns.Turns.TheSendSync as turns
use Rattle.tip_rules.proofs.realms.Realms.TheSendSync as realms
use Rattle.tip_rules.specs.contracts.realms.Realms
use Rattle.tip_core.specs.contracts.machine.Core
use Rattle.tip_core.specs.contracts.machine.Core.TheInside as InCore
use Rattle.tip_stored.proofs.stored_core.StoredCore.TheSendSync as stored
use Rattle.tip_stored.specs.contracts.errands.PartyOut
use Rattle.tip_stored.specs.contracts.errands.PartyOut.TheInside as InOut
use Rattle.tip_table.proofs.table.Table.TheSendSync as table
use Rattle.tip_table.specs.contracts.table.Table
use Rattle.tip_journal.proofs.journals.Journals.TheSendSync as journals
use Rattle.tip_journal.proofs.retired.Retired.TheSendSync as retired
use Rattle.tip_journal.specs.contracts.retired.Retired
use Rattle.tip_honest.proofs.entry.Entry.TheSendSync as entry
use Rattle.tip_honest.specs.contracts.entry.Entry
use Rattle.tip_kept.proofs.kept_rows.KeptRows.TheSendSync as kept
use Rattle.tip_outbox.proofs.outboxes.Outboxes.TheSendSync as outboxes
use Rattle.tip_host.proofs.opening.Opening.TheSendSync as opening
use Rattle.tip_host.specs.contracts.opening.Opening
use Rattle.tip_host.specs.contracts.books.Books.TheInside as InBooks
use Rattle.tip_host.specs.contracts.books.Books
use Rattle.tip_host.specs.contracts.host.Host
use Rattle.tip_host.specs.contracts.host.Host.TheInside as InHost
use Rattle.tip_host.proofs.unlinked.Unlinked.TheSendSync as unlinked
use Rattle.tip_host.specs.contracts.unlinked.Unlinked
use Rattle.tip_host.specs.contracts.unlinked.UnlinkedLinked.TheImpl as unlinked_linked
use Rattle.tip_shared.proofs.conditions.Conditions.TheSendSync as conditions
use Rattle.tip_shared.specs.contracts.shared.Shared

each_has : (Ts : List RattleType) → AllSend Ts → FieldsHave IsSend (parts Ts)
each_has [] s = tt
each_has (T ∷ Ts) s = (as_row_send (row_field T) s.0, each_has Ts s.1)

-- what a closure captures crosses
pub record Caught (Ts : List RattleType) : Type 0 where
  pub each : AllSend Ts

pub none : Caught []
none = record { each = tt }

pub also : (T : RattleType) (Ts : List RattleType) → IsSend T → Caught Ts → Caught (T ∷ Ts)
also T Ts s rest = record { each = (s, rest.each) }

pub captures_send : (ν : Sym) (Ts : List RattleType) → Caught Ts → IsSend (TupleAt ν Ts)
captures_send ν Ts s = declared_send (type_at ν Ts) (each_has Ts s.each)

pub handed_send : (δ : Ty) (R : RattleType) → IsSend R → IsSend (arg δ no R)
handed_send δ R = arg_send δ no R

-- of a closure that is handed to a thread
pub ruleset caught = (param_send, handed_send, captures_send, also, none, shr_send)

-- the branches are of this type, in boxes
module _ (D : RattleType) (g : Ghosts D.Denot) (boxed : IsSend (DynBox.the_row D Global.the_row g TheImpl.ghosts)) where
  boxes_send : IsSend (Vec.the_row (DynBox.the_row D Global.the_row g TheImpl.ghosts) Global.the_row TheImpl.ghosts)
  boxes_send = vec.the_send (DynBox.the_row D Global.the_row g TheImpl.ghosts) Global.the_row TheImpl.ghosts boxed global.the_send heap.the_frees

  party_send : IsSend (Party.the_field D g).row
  party_send = struct_send (Declared.shape (Party.the_type D g)) (realm.the_send, (plain_send _ _ _ _ _, (id.the_send, (errand.the_field_send, (roll.the_send, (boxes_send, tt))))))

  pub held_party_send : IsSend (HeldParty.the_row D g)
  held_party_send = view_send (InParty.the_row D g) _ _ _ _ (recorded_send (InParty.the_field D g).row _ _ (InParty.the_type D g).to_one (struct_send (Declared.shape (InParty.the_type D g)) (party_send, tt)))

  lot_send : IsSend (Lot.the_field D g).row
  lot_send = struct_send (Declared.shape (Lot.the_type D g)) (phase.the_field_send, (boxes_send, (vec.the_send Badge.the_row Global.the_row TheImpl.ghosts badge.the_send global.the_send heap.the_frees, tt)))

  pub held_fresh_send : IsSend (HeldFresh.the_row D g)
  held_fresh_send = view_send (InFresh.the_row D g) _ _ _ _ (recorded_send (InFresh.the_field D g).row _ _ (InFresh.the_type D g).to_one (struct_send (Declared.shape (InFresh.the_type D g)) (lot_send, tt)))

  realms_send : IsSend (Realms.the_field (Connection.the_row (HeldFresh.the_row D g)) (Transaction.the_row (HeldParty.the_row D g)) (connection_linked.ghosts (HeldFresh.the_row D g)) (transaction_linked.ghosts (HeldParty.the_row D g))).row
  realms_send = realms.the_field_send (Connection.the_row (HeldFresh.the_row D g)) (Transaction.the_row (HeldParty.the_row D g)) (connection_linked.ghosts (HeldFresh.the_row D g)) (transaction_linked.ghosts (HeldParty.the_row D g)) (connection.the_send (HeldFresh.the_row D g) held_fresh_send) (transaction.the_send (HeldParty.the_row D g) held_party_send)

  pub core_send : IsSend (Core.the_row D g)
  core_send = view_send (InCore.the_row D g) _ _ _ _ (recorded_send (InCore.the_field D g).row _ _ (InCore.the_type D g).to_one (struct_send (Declared.shape (InCore.the_type D g)) (realms_send, (turns.the_send, tt))))

  party_out_send : IsSend (PartyOut.the_row D g)
  party_out_send = view_send (InOut.the_row D g) _ _ _ _ (recorded_send (InOut.the_field D g).row _ _ (InOut.the_type D g).to_one (struct_send (Declared.shape (InOut.the_type D g)) (held_party_send, tt)))

  work_send : IsSend (Table.the_row (Unlinked.the_row (PartyOut.the_row D g)) Global.the_row (unlinked_linked.ghosts (PartyOut.the_row D g)) TheImpl.ghosts)
  work_send = table.the_send (Unlinked.the_row (PartyOut.the_row D g)) Global.the_row (unlinked_linked.ghosts (PartyOut.the_row D g)) TheImpl.ghosts (unlinked.the_send (PartyOut.the_row D g) party_out_send) global.the_send heap.the_frees

  out_send : IsSend (Table.the_row (Unlinked.the_row PartyNote.the_row) Global.the_row (unlinked_linked.ghosts PartyNote.the_row) TheImpl.ghosts)
  out_send = table.the_send (Unlinked.the_row PartyNote.the_row) Global.the_row (unlinked_linked.ghosts PartyNote.the_row) TheImpl.ghosts (unlinked.the_send PartyNote.the_row note.the_send) global.the_send heap.the_frees

  retired_send : IsSend (Vec.the_row Retired.the_row Global.the_row TheImpl.ghosts)
  retired_send = vec.the_send Retired.the_row Global.the_row TheImpl.ghosts retired.the_send global.the_send heap.the_frees

  pub books_send : IsSend (Books.the_row D g)
  books_send = view_send (InBooks.the_row D g) _ _ _ _ (recorded_send (InBooks.the_field D g).row _ _ (InBooks.the_type D g).to_one (struct_send (Declared.shape (InBooks.the_type D g)) (journals.the_send Opening.the_row Entry.the_row opening.the_send entry.the_send, (retired_send, (outboxes.the_field_send, (kept.the_send, (work_send, (out_send, tt))))))))

  module _ (S : RattleType) (s : IsSend S) where
    pub host_send : IsSend (Host.the_row S D g)
    host_send = view_send (InHost.the_row S D g) _ _ _ _ (recorded_send (InHost.the_field S D g).row _ _ (InHost.the_type S D g).to_one (struct_send (Declared.shape (InHost.the_type S D g)) (stored.the_field_send S (Core.the_row D g) s core_send, (books_send, tt))))

    pub shared_sync : IsSync (Shared.the_row S D g)
    shared_sync = recorded_sync (Shared.the_field S D g).row _ _ (Shared.the_type S D g).to_one (struct_sync (Declared.shape (Shared.the_type S D g)) (mutex.the_sync (Host.the_row S D g) host_send, (conditions.the_field_sync, tt)))

    pub shared_send : IsSend (Shared.the_row S D g)
    shared_send = recorded_send (Shared.the_field S D g).row _ _ (Shared.the_type S D g).to_one (struct_send (Declared.shape (Shared.the_type S D g)) (mutex.the_send (Host.the_row S D g) host_send, (conditions.the_field_send, tt)))
