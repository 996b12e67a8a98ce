-- The step of one realm: what it answers to an event, and what it is afterwards.
use Rattle.std.specs.Prelude.{◌≡◌, ◌≤◌, ℕ, ◌+◌, ◌&&◌, nat_lt, Bool, true, false, not, List, [], ◌∷◌, ◌==◌, Option, Some, None, if◌then◌else◌}
use Rattle.std.specs.List.{list_any}
use Rattle.std.specs.Option.{IfSome}
use Rattle.tip_branch.specs.Notes.{PartyNotes}
use Rattle.tip_line.specs.declared.refusal.Refusal.{Refusal}
use Rattle.tip_txn.specs.declared.answer.Phase.TheVariants.{Aborted}
use Rattle.tip_line.specs.declared.refusal.Refusal.TheVariants.{NoRealm, Frozen}
use Rattle.tip_rows.specs.Keys.{Key, is_same}
use Rattle.tip_machine.specs.Types.{Answer, Event, Transaction}
use Rattle.tip_machine.specs.Answers.{identifier, key_in, silence}
use Rattle.tip_machine.specs.Connections.{has_number, is_on}
use Rattle.tip_machine.specs.States.{State, Work, Attempt, connection_of, identified_by, seated, transaction_of}
use Rattle.tip_machine.specs.Order.{ordered}
use Rattle.tip_machine.specs.Requests.{ask_pull, ask_push, dial, line, lost, opened, owner, resume, settled, voted}
use Rattle.tip_machine.specs.declared.answer.Sent.{Sent}
use Rattle.tip_machine.specs.declared.event.Change.{Change}
use Rattle.tip_machine.specs.declared.event.Change.TheVariants.{Put, Remove}
use Rattle.tip_machine.specs.declared.event.Seat.{Seat}
use Rattle.tip_machine.specs.declared.event.Outcome.{Outcome}
use Rattle.tip_machine.specs.declared.event.Outcome.TheVariants.{NoChange, Stored, Refused}
use Rattle.tip_machine.specs.declared.transaction.PartyPlace.TheVariants.{Here}
use Rattle.tip_machine.specs.declared.event.Event.TheVariants.{Open, Dial, Line, Voted, Settled, Lost, AskPush, AskPull, Resume}

-- the event takes the next entry of the realm's journal (ours)
abbrev pub entered : State → Work
entered state = record {
  state = record state { head = record state.head { entries = state.head.entries + 1 } };
  answer = record silence { entry = Some (state.head.entries + 1) };
}

-- the rule of each event (ours)
abbrev pub attempt : Event → Work → Attempt
attempt (Open boxes) work = Attempt.Done (opened boxes work)
attempt (Dial address purpose boxes) work = Attempt.Done (dial address purpose boxes work)
attempt (Line seat heard) work = line (seated seat work.state) heard work
attempt (Voted party) work = voted (owner party work.state) party work
attempt (Settled party) work = settled (owner party work.state) party work
attempt (Lost seat) work = Attempt.Done (lost (seated seat work.state) work)
attempt (AskPush seat id) work = Attempt.Done (ask_push (seated seat work.state) id work)
attempt (AskPull seat superior) work = Attempt.Done (ask_pull (seated seat work.state) superior work)
attempt (Resume id) work = resume (identified_by id work.state) work

-- the work, by what became of the change; an outcome that says nothing of it counts as a refusal (ours)
abbrev pub chosen : Attempt → Outcome → Work
chosen (Attempt.Done work) outcome = work
chosen (Attempt.Asks change stored refused) Stored = stored
chosen (Attempt.Asks change stored refused) Refused = refused
chosen (Attempt.Asks change stored refused) NoChange = refused

-- the change that an attempt asks for
abbrev pub wanted : Attempt → Option Change
wanted (Attempt.Done work) = None
wanted (Attempt.Asks change stored refused) = Some change

-- has the realm room for an entry? (ours)
abbrev pub is_open : State → Bool
is_open state = nat_lt state.head.entries state.head.limits.entries

-- an event that can't happen leaves nothing behind: its party is let go, and its boxes are handed back (ours)
abbrev pub returned : Refusal → Event → Answer
returned why (Open boxes) = record silence { refusal = Some why; unused = Some boxes }
returned why (Dial address purpose boxes) = record silence { refusal = Some why; unused = Some boxes }
returned why (Voted party) = record silence { refusal = Some why; spent = Some party }
returned why (Settled party) = record silence { refusal = Some why; spent = Some party }
returned why other = record silence { refusal = Some why }

-- a realm whose journal is full stays as it is, and takes no entry (ours)
abbrev pub frozen : Event → State → Work
frozen event state = record { state = state; answer = returned Frozen event }

-- ONE STEP of the machine of one realm
abbrev pub step : State → Event → Outcome → Work
step state event outcome = if is_open state then ordered state (chosen (attempt event (entered state)) outcome) else frozen event state

-- the change of the stored rows that an event wants, before its outcome is known
abbrev pub wants : State → Event → Option Change
wants state event = if is_open state then wanted (attempt event (entered state)) else None

abbrev pub is_no_change : Outcome → Bool
is_no_change NoChange = true
is_no_change Stored = false
is_no_change Refused = false

-- the outcome is one of the change that was wanted: no change where none was, and stored or refused where one was
abbrev pub fits : Option Change → Outcome → Bool
fits None outcome = is_no_change outcome
fits (Some change) outcome = not (is_no_change outcome)

-- a state that differs in the count of entries, if at all
abbrev pub ChangesTheEntriesAlone : State → State → Type 0
ChangesTheEntriesAlone old new = new ≡ record old { head = record old.head { entries = new.head.entries } }

-- the event is one of the connection of this number
abbrev pub Names : Event → ℕ → Type 0
Names (Line seat heard) number = seat.number ≡ number
Names (Lost seat) number = seat.number ≡ number
Names (AskPush seat id) number = seat.number ≡ number
Names (AskPull seat superior) number = seat.number ≡ number
Names other number = ⊥

-- no connection of this number is on the transaction of this key
abbrev pub IsOff : Key → ℕ → State → Type 0
IsOff key number state = list_any (λ connection. has_number number connection && is_on key connection) state.connections ≡ false

-- what changes is the transaction of this key, connections on it, the one that the event names, and a new one
pub record TouchesOne (key : Key) (event : Event) (old new : State) : Type 0 where
  pub transactions : (other : Key) → is_same key other ≡ false → transaction_of other new ≡ transaction_of other old
  pub connections : (number : ℕ) → number ≤ old.head.given → ¬ Names event number → IsOff key number old → connection_of number new ≡ connection_of number old

-- none of these names another transaction of ours
abbrev pub AreOf : Key → List Sent → Type 0
AreOf key [] = Unit {0}
AreOf key (sent ∷ others) = IfSome (key_in sent.item) (λ named. named ≡ key) × AreOf key others

abbrev pub is_for : ℕ → Sent → Bool
is_for number sent = sent.connection == number

-- what goes out names the transaction of this key alone, and goes to connections on it, to the one that the event names, and to
-- a new one
pub record TellsOfOne (key : Key) (event : Event) (old : State) (sent : List Sent) : Type 0 where
  pub named : AreOf key sent
  pub quiet : (number : ℕ) → number ≤ old.head.given → ¬ Names event number → IsOff key number old → list_any (is_for number) sent ≡ false

-- a party that is here is its transaction's own
abbrev pub IsOwn : List ℕ → Transaction → Type 0
IsOwn realm transaction = (party : PartyNotes) → transaction.place ≡ Here party → party.id ≡ identifier realm transaction.key

abbrev pub AreOwn : List ℕ → List Transaction → Type 0
AreOwn realm [] = Unit {0}
AreOwn realm (transaction ∷ transactions) = IsOwn realm transaction × AreOwn realm transactions

-- the party that goes out, and the one that is let go where nothing is refused, is of the transaction of this key
pub record SendsOne (key : Key) (state : State) (answer : Answer) : Type 0 where
  pub works : AreOwn state.head.name state.transactions → (party : PartyNotes) → answer.work ≡ Some party → party.id ≡ identifier state.head.name key
  pub spends : AreOwn state.head.name state.transactions → answer.refusal ≡ None → (party : PartyNotes) → answer.spent ≡ Some party → party.id ≡ identifier state.head.name key

abbrev pub key_changed : Change → Key
key_changed (Put key row) = key
key_changed (Remove key) = key

-- a change that was stored is of the transaction of this key
abbrev pub IsOfKey : Key → Option Change → Outcome → Type 0
IsOfKey key (Some change) Stored = key_changed change ≡ key
IsOfKey key change outcome = Unit {0}

-- no transaction of this identifier is open, or it is aborted
abbrev pub IsForgotten : List ℕ → State → Type 0
IsForgotten id state = (transaction : Transaction) → identified_by id state ≡ Some transaction → transaction.phase ≡ Aborted

-- the seat of the next connection
abbrev pub IsNext : State → Seat → Type 0
IsNext state seat = seat ≡ record { epoch = state.head.epoch; number = state.head.given + 1 }

-- what is answered for a realm that is not there (ours)
abbrev pub nowhere : Event → Answer
nowhere event = returned NoRealm event
