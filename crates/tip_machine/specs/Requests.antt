-- What happens to a realm beside commands and responses: connections come and go, lines come in or out of turn, parties come
-- back, and the host asks for something.
use Rattle.std.specs.Prelude.{ℕ, ◌+◌, ◌==◌, Bool, false, List, [], ◌∷◌, ◌++◌, length, not, Option, Some, None, find, if◌then◌else◌}
use Rattle.tip_branch.specs.Notes.{PartyNotes}
use Rattle.tip_branch.specs.declared.branch.Badge.{Badge}
use Rattle.tip_branch.specs.declared.member.Errand.TheVariants as errand
use Rattle.tip_line.specs.declared.command.Command.TheVariants.{Error}
use Rattle.tip_line.specs.declared.refusal.Refusal.TheVariants.{Full, Stale, Busy, NotActive, Stranger, Known}
use Rattle.tip_conn.specs.declared.state.Side.{Side}
use Rattle.tip_conn.specs.declared.state.Side.TheVariants.{Primary, Secondary}
use Rattle.tip_txn.specs.Parts.{answered, enlisted}
use Rattle.tip_machine.specs.Types.{Connection, PartyPlace, Transaction}
use Rattle.tip_machine.specs.Connections.{accepted, dialled, is_free, may_take, taking}
use Rattle.tip_machine.specs.Transactions.{enlisting, has_ready, is_active, is_committed, is_done, is_known, next_key, noting, standing_at, party_answer}
use Rattle.tip_machine.specs.States.{Attempt, State, Work, has_place, has_room, identified_by}
use Rattle.tip_machine.specs.Changes.{alter, change, refuse, send, tell}
use Rattle.tip_machine.specs.Proceeding.{dispatch, finish, proceed}
use Rattle.tip_machine.specs.Failing.{closed, fail, wrong}
use Rattle.tip_machine.specs.Commands.{commanded, make}
use Rattle.tip_machine.specs.Responses.{answered_by}
use Rattle.tip_machine.specs.declared.answer.Asked.TheVariants as asked
use Rattle.tip_machine.specs.declared.answer.Item.TheVariants.{Ask}
use Rattle.tip_machine.specs.declared.connection.Awaited.TheVariants as awaited
use Rattle.tip_machine.specs.declared.connection.Purpose.{Purpose}
use Rattle.tip_machine.specs.declared.connection.Role.TheVariants.{Subordinate}
use Rattle.tip_machine.specs.declared.event.Heard.{Heard}
use Rattle.tip_machine.specs.declared.event.Heard.TheVariants.{Command as ACommand, Response as AResponse}
use Rattle.tip_machine.specs.declared.transaction.Origin.TheVariants as origin
use Rattle.tip_machine.specs.declared.transaction.PartyPlace.TheVariants.{Here, Out, Spent}

-- Connections

-- boxes that no transaction took are handed back (ours)
abbrev pub hand_back : List Badge → Work → Work
hand_back boxes work = record work { answer = record work.answer { unused = Some boxes } }

-- a connection is added, with the next number (ours, for section 5)
unfoldable pub added : (ℕ → Connection) → Work → Work
added new work = record {
  state = record work.state {
    head = record work.state.head { given = work.state.head.given + 1 };
    connections = work.state.connections ++ new (work.state.head.given + 1) ∷ [];
  };
  answer = record work.answer { opened = Some (record { epoch = work.state.head.epoch; number = work.state.head.given + 1 }) };
}

-- another manager opens a connection (section 4; the limits are ours)
unfoldable pub opened : List Badge → Work → Work
opened boxes work = if has_place (length boxes) work.state then added (accepted boxes) work else hand_back boxes (refuse Full work)

-- we open a connection, and identify ourselves (section 13, IDENTIFY; the limits are ours)
unfoldable pub dial : List ℕ → Purpose → List Badge → Work → Work
dial address purpose boxes work =
    if has_place (length boxes) work.state
    then tell (work.state.head.given + 1) (Ask (asked.Identify work.state.head.address address)) (added (dialled address purpose boxes) work)
    else hand_back boxes (refuse Full work)

-- the connection was lost, if it was there (section 15)
unfoldable pub lost : Option Connection → Work → Work
lost None work = refuse Stale work
lost (Some connection) work = fail connection work

-- Lines

-- as its secondary we wait for a command, as its primary for a response; ERROR alone is both (section 12)
abbrev pub hear : Side → Heard → Connection → Work → Attempt
hear Secondary (ACommand command) connection work = commanded command connection work
hear Primary (ACommand Error) connection work = Attempt.Done (closed connection work)
hear Primary (AResponse response) connection work = answered_by connection.awaited response connection work
hear side other connection work = Attempt.Done (wrong connection work)

-- a line for a connection, if it is there; one that comes out of turn is not heard, and may come again (section 12)
unfoldable pub line : Option Connection → Heard → Work → Attempt
line None heard work = Attempt.Done (refuse Stale work)
line (Some connection) heard work = if may_take connection then hear connection.side heard connection work else Attempt.Done (refuse Busy work)

-- may a line of this seat be taken now? not where no connection has the seat (section 12)
abbrev pub may_take_on : Option Connection → Bool
may_take_on None = false
may_take_on (Some connection) = may_take connection

-- must it wait? where none may be taken; on a connection that is gone it is refused at once
abbrev pub must_wait_on : Option Connection → Bool
must_wait_on None = false
must_wait_on (Some connection) = not (may_take connection)

-- Requests of the host

-- our transaction is pushed to the other side, which becomes a part at once (section 13, PUSH)
abbrev pub push_part : Option Transaction → Option (List ℕ) → ℕ → Work → Work
push_part (Some transaction) (Some address) number work =
    if is_active transaction.phase
    then
    change number (taking (Subordinate transaction.key (length transaction.parts)))
    (alter transaction.key (enlisting (enlisted address None))
    (send number awaited.Push (asked.Push transaction.key) work))
    else refuse NotActive work
push_part found peer number work = refuse NotActive work

-- on a connection that is there and free (ours)
unfoldable pub ask_push : Option Connection → List ℕ → Work → Work
ask_push None id work = refuse Stale work
ask_push (Some connection) id work = if is_free connection then push_part (identified_by id work.state) connection.peer connection.number work else refuse Busy work

-- a transaction of the other side is pulled here, unless it is here already (section 13, PULL)
abbrev pub pull_new : List ℕ → Connection → Work → Work
pull_new superior connection work =
    if has_room connection work.state
    then send connection.number awaited.Pull (asked.Pull superior (next_key work.state.head connection)) (make (origin.Subordinate connection.peer superior) connection work)
    else refuse Full work

-- a transaction that is here already is not pulled again (ours)
abbrev pub pull_if : Option Transaction → List ℕ → Connection → Work → Work
pull_if None superior connection work = pull_new superior connection work
pull_if (Some known) superior connection work = refuse Known work

-- on a connection that is there and free (ours)
unfoldable pub ask_pull : Option Connection → List ℕ → Work → Work
ask_pull None superior work = refuse Stale work
ask_pull (Some connection) superior work = if is_free connection then pull_if (find (is_known connection.peer superior) work.state.transactions) superior connection work else refuse Busy work

-- what is left of a committed transaction is tried again: its party, or the removal of its row (ours)
abbrev pub resume_in : PartyPlace → Transaction → Work → Attempt
resume_in (Here party) transaction work = Attempt.Done (dispatch transaction.key work)
resume_in (Out errand) transaction work = Attempt.Done (refuse Busy work)
resume_in Spent transaction work = if is_done transaction then finish transaction work else Attempt.Done (refuse Busy work)

-- only a committed transaction is resumed (ours)
unfoldable pub resume : Option Transaction → Work → Attempt
resume None work = Attempt.Done (refuse NotActive work)
resume (Some transaction) work = if is_committed transaction.phase then resume_in transaction.place transaction work else Attempt.Done (refuse NotActive work)

-- Parties that come back (ours)

-- the transaction that gave this party out in this start (ours)
abbrev pub owner : PartyNotes → State → Option Transaction
owner party state = if party.epoch == state.head.epoch then identified_by party.id state else None

-- a party that no transaction gave out for this is let go (ours)
abbrev pub strange : PartyNotes → Work → Attempt
strange party work = Attempt.Done (record work { answer = record work.answer { refusal = Some Stranger; spent = Some party } })

-- a party that voted gives the answer of the local part (ours)
abbrev pub voted_for : PartyPlace → PartyNotes → Transaction → Work → Attempt
voted_for (Out errand.Vote) party transaction work =
    let key = transaction.key in
    proceed key (alter key (noting 0 (answered (party_answer party))) (alter key (standing_at (Here party)) work))
voted_for place party transaction work = strange party work

-- a party comes back from a vote (ours)
unfoldable pub voted : Option Transaction → PartyNotes → Work → Attempt
voted None party work = strange party work
voted (Some transaction) party work = voted_for transaction.place party transaction work

-- a party that was told to commit waits to be resumed where a branch asked for it; else it is let go (ours)
abbrev pub settled_for : PartyPlace → PartyNotes → Transaction → Work → Attempt
settled_for (Out errand.Commit) party transaction work =
    let key = transaction.key in
    let work = alter key (standing_at (Here party)) work in
    proceed key (if has_ready party then work else dispatch key work)
settled_for (Out errand.Abort) party transaction work = proceed transaction.key (alter transaction.key (standing_at (Here party)) work)
settled_for place party transaction work = strange party work

-- a party comes back that was told the outcome (ours)
unfoldable pub settled : Option Transaction → PartyNotes → Work → Attempt
settled None party work = strange party work
settled (Some transaction) party work = settled_for transaction.place party transaction work
