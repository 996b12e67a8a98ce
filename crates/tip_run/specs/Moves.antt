-- ONE MOVE OF A RUN (ours), as the host says what its calls do; nothing happens between two moves.
use Rattle.std.specs.Prelude.{◌≡◌, ◌≢◌, ℕ, true, false, List, [], ◌∷◌, ◌++◌, map, Option, Some, None, Ok}
use Rattle.tip_branch.specs.Notes.{PartyNotes}
use Rattle.tip_branch.specs.declared.branch.Badge.{Badge}
use Rattle.tip_core.specs.Hosted.{HaveNames, realm}
use Rattle.tip_honest.specs.Hosts as Honest
use Rattle.tip_honest.specs.Honesty.{Journal}
use Rattle.tip_host.specs.Entries.{Noted}
use Rattle.tip_host.specs.HostEvents.{HostEvent}
use Rattle.tip_host.specs.Hosts.{Host, Reply, Serves, known}
use Rattle.tip_host.specs.Renewals.{AreKeptBut}
use Rattle.tip_host.specs.Works.{Takes, left_out}
use Rattle.tip_machine.specs.Honest.{brings_no_party}
use Rattle.tip_machine.specs.Returns.{Back, can_answer, event_of}
use Rattle.tip_machine.specs.States.{State}
use Rattle.tip_machine.specs.Types.{Event}
use Rattle.tip_outbox.specs.Waiting.{waiting}
use Rattle.tip_recovery.specs.Adopting.{Recovery, adopted_all, are_for_all, loaded}
use Rattle.tip_rows.specs.Logs.{Keeping, Log}
use Rattle.tip_stored.specs.Errands.{was_done}
use Rattle.tip_stored.specs.Loading.{Goes, IsRead, Never, Stays}
use Rattle.tip_stored.specs.Renewing as Stored
use Rattle.tip_stored.specs.Renewing.{Rises}
use Rattle.tip_stored.specs.declared.renewing.RenewFault.{RenewFault}
use Rattle.tip_table.specs.Kept.{of}
use Rattle.tip_run.specs.Running.{Running}
use Rattle.tip_run.specs.Starts.{HasBoxes, IsRestarted}
use Rattle.tip_run.specs.declared.moves.Move as moves
use Rattle.tip_run.specs.declared.moves.Move.TheVariants as move
use Rattle.tip_run.specs.declared.shown.Said.{Said}
use Rattle.tip_run.specs.declared.shown.Shown.{Shown}
use Rattle.tip_run.specs.declared.shown.Shown.TheVariants as shown

abbrev pub Move : Type 0
Move = moves.Move HostEvent (List Badge)

-- a host with what its run has beside it
abbrev pub at_work : {S : Type 0} → Host S → List Noted → List (List (List Journal)) → Running S
at_work host noted earlier = record { host = host; noted = noted; earlier = earlier }

-- Events

-- what a host has said of an event, but for the boxes and the party that it let go
abbrev pub said_of : Reply → Said
said_of reply = record { refusal = reply.refusal; opened = reply.opened; change = reply.change; outcome = reply.outcome; spoken = reply.spoken; entry = reply.entry }

-- AN EVENT of the realm at a place, which brings nobody or who was sent so
pub record Comes {S : Type 0} (kept : Keeping S) (old new : Running S) (place : ℕ) (event : Event) (back : Option PartyNotes) (said : Said) : Type 0 where
  pub reply : Reply
  pub serves : Serves kept old.host new.host old.noted new.noted place event back reply
  pub says : said ≡ said_of reply
  pub stopped : new.host.stored.is_stopped ≡ old.host.stored.is_stopped
  pub earlier : new.earlier ≡ old.earlier

-- Errands

-- THE OLDEST PARTY of a realm that waits is taken out, if one waits
pub record HasTaken {S : Type 0} (old new : Running S) (place : ℕ) (found : Option PartyNotes) : Type 0 where
  pub takes : Takes place found old.host.books.work new.host.books.work old.host.books.out new.host.books.out
  pub rest : new ≡ record old { host = record old.host { books = record old.host.books { work = new.host.books.work; out = new.host.books.out } } }

-- it does its errand, and comes back as the errand leaves it
pub record ComesBack {S : Type 0} (kept : Keeping S) (old new : Running S) (place : ℕ) (said : Said) : Type 0 where
  pub sent : PartyNotes
  pub between : Running S
  pub taken : HasTaken old between place (Some sent)
  pub back : Back
  pub can : can_answer sent.errand back sent.members ≡ true
  pub done : was_done sent.errand back ≡ true
  pub comes : Comes kept between new place (event_of sent back) (Some sent) said

-- it is lost, which is no event
pub record IsLost {S : Type 0} (old new : Running S) (place : ℕ) (party : PartyNotes) : Type 0 where
  pub between : Running S
  pub taken : HasTaken old between place (Some party)
  pub lost : of new.host.books.out place ≡ left_out (Some party) (of between.host.books.out place)
  pub others : (other : ℕ) → other ≢ place → of new.host.books.out other ≡ of between.host.books.out other
  pub rest : new ≡ record between { host = record between.host { books = record between.host.books { out = new.host.books.out } } }

-- Starts

-- A REALM STARTS AGAIN while the others run, by what was read of it, with these boxes
pub record IsRenewed {S : Type 0} (kept : Keeping S) (old new : Running S) (place : ℕ) (boxes : List (List Badge)) : Type 0 where
  pub state : State
  pub read : Recovery
  pub recovery : Recovery
  pub boxes_are : recovery.rows ≡ adopted_all boxes read.rows
  -- one for each branch of each row, and no more
  pub boxes_fit : are_for_all boxes read.rows ≡ true
  -- the store, once it was read
  pub between : S
  pub reads : Goes kept false Stays Never old.host.stored.store between
  pub is_read : (log : Log) → kept.stands old.host.stored.store log → kept.is_true between → IsRead log state.head.name read
  pub rises : Rises kept (λ (fault : RenewFault). fault) state.head.name (Ok (tt {0})) between new.host.stored.store
  pub again : Stored.IsRenewed kept recovery state between new.host.stored.store (realm new.host.stored.core place)
  -- what the host knows of its realms, and all else
  pub renewed : Honest.IsRenewed (known old.host) (known new.host) place state (map loaded recovery.rows)
  pub lines : (number : ℕ) → waiting new.host.books.outboxes place number ≡ []
  pub others : AreKeptBut place old.host new.host
  pub out : (other : ℕ) → of new.host.books.out other ≡ of old.host.books.out other
  pub names : HaveNames new.host.stored.core
  pub stopped : new.host.stored.is_stopped ≡ old.host.stored.is_stopped
  pub noted : new.noted ≡ old.noted
  pub earlier : new.earlier ≡ old.earlier

-- ALL REALMS START AGAIN, with these boxes: the host ends, and its journals are the last of those before
pub record AreRestarted {S : Type 0} (kept : Keeping S) (old new : Running S) (boxes : List (List (List Badge))) : Type 0 where
  pub is : IsRestarted kept old.host new.host
  pub boxes_are : HasBoxes is.begins boxes
  pub noted : new.noted ≡ old.noted
  pub earlier : new.earlier ≡ old.earlier ++ old.host.books.journals ∷ []

-- Moves

-- ONE MOVE, and what is shown of it
abbrev pub IsMade : {S : Type 0} → Keeping S → Running S → Move → Shown → Running S → Type 0
IsMade kept old (move.Step event) (shown.Came said) new = (brings_no_party event.event ≡ true) × Comes kept old new event.realm event.event None said
IsMade kept old (move.Go place) (shown.Came said) new = ComesBack kept old new place said
IsMade kept old (move.Go place) shown.Nobody new = HasTaken old new place None
IsMade kept old (move.Lose place) (shown.Lost party) new = IsLost old new place party
IsMade kept old (move.Lose place) shown.Nobody new = HasTaken old new place None
IsMade kept old (move.Restart boxes) shown.Started new = AreRestarted kept old new (map (λ lots. lots.items) boxes.items)
IsMade kept old (move.Renew place boxes) shown.Started new = IsRenewed kept old new place boxes.items
IsMade kept old move shown new = ⊥

-- ONE AFTER ANOTHER
abbrev pub AreMade : {S : Type 0} → Keeping S → Running S → List Move → List Shown → Running S → Type 0
AreMade kept old [] [] new = new ≡ old
AreMade kept old (move ∷ moves) (one ∷ shown) new = (between : Running _) × IsMade kept old move one between × AreMade kept between moves shown new
AreMade kept old moves shown new = ⊥
