-- A host as contracts see it, and what its calls do.
use Rattle.std.specs.Prelude.{◌≡◌, ◌≢◌, ℕ, Bool, false, not, List, [], ◌++◌, Option, Some, None, Result, find, option_map, if◌then◌else◌, IfOk, IfSome, OnErr}
use Rattle.std.specs.Option.{option_to_list}
use Rattle.tip_branch.specs.Notes.{PartyNotes}
use Rattle.tip_branch.specs.declared.branch.Badge.{Badge}
use Rattle.tip_core.specs.Hosted.{Hosted, realm}
use Rattle.tip_honest.specs.Hosts.{AreOthersKept, HasCome, IsSame, Known}
use Rattle.tip_stored.specs.Keeping.{Happened, Happens}
use Rattle.tip_stored.specs.declared.stored_core.StoredCore.{StoredCore}
use Rattle.tip_stored.specs.declared.stored_core.StepFault.{StepFault}
use Rattle.tip_stored.specs.declared.stored_core.StepFault.TheVariants as stored
use Rattle.tip_machine.specs.States.{State}
use Rattle.tip_machine.specs.Steps.{is_open}
use Rattle.tip_machine.specs.Types.{Answer, Event}
use Rattle.tip_machine.specs.declared.answer.Item.{Item}
use Rattle.tip_rows.specs.Keys.{Key}
use Rattle.tip_rows.specs.Logs.{Keeping, IsPart, Log}
use Rattle.tip_rows.specs.declared.row.Row.{Row}
use Rattle.tip_outbox.specs.Waiting.{sent_to, waiting}
use Rattle.tip_table.specs.Kept.{of}
use Rattle.tip_host.specs.Books.{Books, known_by}
use Rattle.tip_host.specs.Entries.{Enters, Noted, bare, takes_entry}
use Rattle.tip_host.specs.Seats.{is_now, seat_at}
use Rattle.tip_host.specs.Speaking.{Speaks}
use Rattle.tip_host.specs.Works.{Takes, is_errand_of, left_out}
use Rattle.tip_host.specs.declared.host.HostFault.{HostFault}
use Rattle.tip_host.specs.declared.host.HostFault.TheVariants as hosts
use Rattle.tip_host.specs.declared.reply.Reply as replies
use Rattle.tip_host.specs.declared.seat.Seat.{Seat}

abbrev pub Reply : Type 0
Reply = replies.Reply (List Badge) PartyNotes

-- a stored core, and what is kept of its realms beside it
pub record Host (S : Type 0) : Type 0 where
  pub stored : StoredCore S Hosted
  pub books : Books

-- WHAT WAITS FOR A CONNECTION, in the order in which it is to go out; nothing waits for one of an earlier start
abbrev pub waiting_at : {S : Type 0} → Seat → Host S → List Item
waiting_at seat host = if is_now seat (realm host.stored.core seat.realm) then waiting host.books.outboxes seat.realm seat.number else []

-- what it knows of its realms
abbrev pub known : {S : Type 0} → Host S → Known
known host = known_by host.stored.core host.books

-- a realm that is there takes no entry more before it starts again
abbrev pub is_frozen : Option State → Bool
is_frozen None = false
is_frozen (Some state) = not (is_open state)

-- what comes back is the answer's of the realm at a place, without the party that goes out, and of its lines for whom they are alone
pub record IsOf (place : ℕ) (reply : Reply) (answer : Answer) : Type 0 where
  pub refusal : reply.refusal ≡ answer.refusal
  pub opened : reply.opened ≡ option_map (seat_at place) answer.opened
  pub spoken : Speaks answer.sent reply.spoken
  pub spent : reply.spent ≡ answer.spent
  pub unused : reply.unused ≡ answer.unused

-- what happened in the realms and in their store, by what came back and the realm's answer
abbrev pub happened_of : Reply → Answer → Happened
happened_of reply answer = record { change = reply.change; outcome = reply.outcome; answer = answer }

-- ONE EVENT AT A HOST: it is one step of its realm, by what the store made of its change; its lines wait behind those that waited for
-- their connections;
-- the realm's journal and the pass have its entry, and its rows the change; who comes back by it is out no more, and who goes out
-- waits behind those that wait. Every other realm keeps all that it has
pub record Serves {S : Type 0} (kept : Keeping S) (old new : Host S) (noted noted' : List Noted) (place : ℕ) (event : Event) (back : Option PartyNotes) (reply : Reply) : Type 0 where
  pub answer : Answer
  pub happens : Happens kept old.stored new.stored place event (happened_of reply answer)
  pub is : IsOf place reply answer
  pub lines : (number : ℕ) → waiting new.books.outboxes place number ≡ waiting old.books.outboxes place number ++ sent_to number answer.sent
  pub others : (other number : ℕ) → other ≢ place → waiting new.books.outboxes other number ≡ waiting old.books.outboxes other number
  pub enters : Enters (takes_entry (realm old.stored.core place)) (bare old.books.journals) (bare new.books.journals) noted noted' place (record { event = event; outcome = reply.outcome }) reply.entry
  pub retired : new.books.retired ≡ old.books.retired
  pub waits : of new.books.work place ≡ of old.books.work place ++ option_to_list answer.work
  pub out : of new.books.out place ≡ left_out back (of old.books.out place)
  pub others_out : (other : ℕ) → other ≢ place → (of new.books.work other ≡ of old.books.work other) × (of new.books.out other ≡ of old.books.out other)
  pub comes : (state : State) → realm old.stored.core place ≡ Some state → HasCome (known old) (known new) place event reply.outcome state
  pub elsewhere : AreOthersKept place (known old) (known new)

-- AN EVENT, AND THE ERRAND THAT COMES OF IT: behind the event the oldest party of its realm that waits goes out, and nothing else is done;
-- without memory it waits still
pub record ServesOut {S W E : Type 0} (kept : Keeping S) (old new : Host S) (noted noted' : List Noted) (place : ℕ) (event : Event) (back : Option PartyNotes) (reply : Reply) (realm_of : W → ℕ) (sent_of : W → PartyNotes) (work : Result (Option W) E) : Type 0 where
  pub between : Host S
  pub serves : Serves kept old between noted noted' place event back reply
  pub takes : IfOk work (λ found. Takes place (option_map sent_of found) between.books.work new.books.work between.books.out new.books.out)
  pub own : IfOk work (λ found. IfSome found (λ one. realm_of one ≡ place))
  pub stays : OnErr work ((other : ℕ) → (of new.books.work other ≡ of between.books.work other) × (of new.books.out other ≡ of between.books.out other))
  pub rest : new ≡ record between { books = record between.books { work = new.books.work; out = new.books.out } }

-- what a refused call leaves: all is as it was
pub record Stays {S : Type 0} (old new : Host S) : Type 0 where
  pub store : new.stored.store ≡ old.stored.store
  pub same : IsSame (known old) (known new)
  pub retired : new.books.retired ≡ old.books.retired
  pub stopped : new.stored.is_stopped ≡ old.stored.is_stopped
  pub lines : (place number : ℕ) → waiting new.books.outboxes place number ≡ waiting old.books.outboxes place number
  pub waits : (place : ℕ) → of new.books.work place ≡ of old.books.work place
  pub out : (place : ℕ) → of new.books.out place ≡ of old.books.out place

-- THIS PARTY IS OUT of a realm: it was taken, and did not come back since
abbrev pub IsOut : {S : Type 0} → Host S → ℕ → PartyNotes → Type 0
IsOut host realm sent = find (is_errand_of sent) (of host.books.out realm) ≡ Some sent

-- why an event did not happen, as the stored core says it
abbrev pub fault_of : StepFault → HostFault
fault_of stored.Stopped = hosts.Stopped
fault_of stored.Memory = hosts.Memory

-- the store has shown these rows of a realm, if it is there: they are its part of any log that the store stood for, as long as it may
-- be relied on
abbrev pub IsShown : {S : Type 0} → Keeping S → S → S → Option State → List (Key × Row) → Type 0
IsShown kept old new None rows = Unit {0}
IsShown kept old new (Some state) rows = (log : Log) → kept.stands old log → kept.is_true new → IsPart log state.head.name state.head.epoch rows
