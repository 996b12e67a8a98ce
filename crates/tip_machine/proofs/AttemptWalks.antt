-- Each event that opens no connection is refused, or keeps what each single change keeps.
use Rattle.std.proofs.Common.{◌≡◌, Bool, true, false, ℕ, List, Option, Some, None, cond, refl}
use Rattle.std.specs.Prelude.{◌==◌, find}
use Rattle.std.proofs.lemmas.Option.{none-some}
use Rattle.std.specs.Option.{IfSome}
use Rattle.tip_branch.specs.Notes.{PartyNotes}
use Rattle.tip_branch.specs.declared.branch.Badge.{Badge}
use Rattle.tip_branch.specs.declared.member.Errand.TheVariants as errand
use Rattle.tip_line.specs.declared.refusal.Refusal.{Refusal}
use Rattle.tip_line.specs.declared.refusal.Refusal.TheVariants.{Full, Stale, Busy, NotActive, Known}
use Rattle.tip_rows.specs.Keys.{Key}
use Rattle.tip_txn.specs.Parts.{answered}
use Rattle.tip_machine.specs.Types.{Connection, Event, PartyPlace, Transaction}
use Rattle.tip_machine.specs.Connections.{is_free, key_of, may_take}
use Rattle.tip_machine.specs.Transactions.{has_id, has_ready, is_active, is_committed, is_done, is_known, next_key, standing_at, party_answer}
use Rattle.tip_machine.specs.States.{Attempt, State, Work, connection_of, has_room, identified_by, seated}
use Rattle.tip_machine.specs.Changes.{alter, refuse}
use Rattle.tip_machine.specs.Proceeding.{dispatch, finish, proceed}
use Rattle.tip_machine.specs.Requests.{ask_pull, ask_push, hear, line, lost, owner, pull_if, push_part, resume, resume_in, settled, settled_for, strange, voted, voted_for}
use Rattle.tip_machine.specs.Steps.{attempt, Names}
use Rattle.tip_machine.specs.declared.connection.Purpose.{Purpose}
use Rattle.tip_machine.specs.declared.event.Event.TheVariants.{Open, Dial, Line, Voted, Settled, Lost, AskPush, AskPull, Resume}
use Rattle.tip_machine.specs.declared.event.Heard.{Heard}
use Rattle.tip_machine.specs.declared.event.Seat.{Seat}
use Rattle.tip_machine.specs.declared.transaction.PartyPlace.TheVariants.{Here, Out, Spent}
use Rattle.tip_machine.specs.declared.transaction.Origin.TheVariants as origin
use Rattle.tip_machine.proofs.Walks.{Closed, EndsAtOne, EndsOn, Is, at_one, either, either_attempt, found_passes, is_or_any, or_any, seated_there}
use Rattle.tip_machine.proofs.RuleWalks.{dispatch-keeps, enlisting-keeps, fail-keeps, finish-keeps, noting-keeps, send-keeps, proceed-keeps, taking-keeps}
use Rattle.tip_machine.proofs.EventWalks.{is_heard}

-- does it open a connection?
abbrev pub is_opening : Event → Bool
is_opening (Open boxes) = true
is_opening (Dial address purpose boxes) = true
is_opening other = false

-- what holds of an event that opens a connection, and of any other, holds of each
pub each_event : (P : Event → Type 0) → ((boxes : List Badge) → P (Open boxes)) → ((address : List ℕ) (purpose : Purpose) (boxes : List Badge) → P (Dial address purpose boxes)) → ((event : Event) → is_opening event ≡ false → P event) → (event : Event) → P event
each_event P opens dials others (Open boxes) = opens boxes
each_event P opens dials others (Dial address purpose boxes) = dials address purpose boxes
each_event P opens dials others (Line seat heard) = others (Line seat heard) refl
each_event P opens dials others (Voted party) = others (Voted party) refl
each_event P opens dials others (Settled party) = others (Settled party) refl
each_event P opens dials others (Lost seat) = others (Lost seat) refl
each_event P opens dials others (AskPush seat id) = others (AskPush seat id) refl
each_event P opens dials others (AskPull seat superior) = others (AskPull seat superior) refl
each_event P opens dials others (Resume id) = others (Resume id) refl

-- a connection that was found is the one of its number
abbrev IsThere : Option Connection → State → Type 0
IsThere found state = (c : Connection) → found ≡ Some c → connection_of c.number state ≡ Some c

-- the transaction of a party that came back has its identifier
owner_if : (b : Bool) (test : Transaction → Bool) (ts : List Transaction) (t : Transaction) → cond b (find test ts) None ≡ Some t → test t ≡ true
owner_if true test ts t is = found_passes test ts t is
owner_if false test ts t is = absurd (none-some t is)

owner_named : (party : PartyNotes) (state : State) (t : Transaction) → owner party state ≡ Some t → has_id state.head.name party.id t ≡ true
owner_named party state t is = owner_if (party.epoch == state.head.epoch) (has_id state.head.name party.id) state.transactions t is

-- what holds of an event that was refused, of one that brought a stranger, and of what was kept
module _ (R : Key → Work → Work → Type 0) (May : ℕ → Type 0) (k : (key : Key) → Closed (R key) May (Is key)) (w : Work) (Q : Attempt → Type 0) (kept : (a : Attempt) → EndsAtOne R w a → Q a) (refused : (why : Refusal) → Q (Attempt.Done (refuse why w))) (strangers : (party : PartyNotes) → Q (strange party w)) where
  -- a transaction that was found has the identifier that the party says
  abbrev IsNamed : Option Transaction → PartyNotes → Type 0
  IsNamed found party = (t : Transaction) → found ≡ Some t → has_id w.state.head.name party.id t ≡ true

  kept_each : (key : Key) (a : Attempt) → EndsOn (Is key) (R key w) a → Q a
  kept_each key a keeps = kept a (at_one R w key a keeps)

  done : (key : Key) (v : Work) → R key w v → Q (Attempt.Done v)
  done key v keeps = kept_each key (Attempt.Done v) keeps

  -- either way, of work that is done
  which : (b : Bool) (this that : Work) → Q (Attempt.Done this) → Q (Attempt.Done that) → Q (Attempt.Done (cond b this that))
  which b this that e f = either (λ v. Q (Attempt.Done v)) b this that e f

  line-goes : (found : Option Connection) (may : IfSome found (λ c. May c.number)) (heard : Heard) → IsThere found w.state → Q (line found heard w)
  unfolding line
  line-goes None may heard is = refused Stale
  line-goes (Some c) may heard is = either_attempt Q (may_take c) (hear c.side heard c w) _ (kept (hear c.side heard c w) (is_heard R May k c w may c.side heard (is c refl))) (refused Busy)

  lost-goes : (found : Option Connection) (may : IfSome found (λ c. May c.number)) → Q (Attempt.Done (lost found w))
  unfolding lost
  lost-goes None may = refused Stale
  lost-goes (Some c) may = let key = or_any (key_of c.role) in done key _ (fail-keeps (R key) May (Is key) (k key) c w may (is_or_any (key_of c.role)))

  pull_if-goes : (found : Option Transaction) (superior : List ℕ) (c : Connection) → May c.number → connection_of c.number w.state ≡ Some c → Q (Attempt.Done (pull_if found superior c w))
  pull_if-goes None superior c may is =
      let key = next_key w.state.head c in
      which (has_room c w.state) _ _ (done key _ ((k key).then w _ _ ((k key).makes (origin.Subordinate c.peer superior) c w may refl is) (send-keeps (R key) May (Is key) (k key) c.number _ _ _ may refl))) (refused Full)
  pull_if-goes (Some t) superior c may is = refused Known

  ask_pull-goes : (found : Option Connection) (may : IfSome found (λ c. May c.number)) (superior : List ℕ) → IsThere found w.state → Q (Attempt.Done (ask_pull found superior w))
  unfolding ask_pull
  ask_pull-goes None may superior is = refused Stale
  ask_pull-goes (Some c) may superior is = which (is_free c) (pull_if (find (is_known c.peer superior) w.state.transactions) superior c w) _ (pull_if-goes (find (is_known c.peer superior) w.state.transactions) superior c may (is c refl)) (refused Busy)

  -- events of the transaction that was found
  module _ (t : Transaction) where
    push_part-goes : (peer : Option (List ℕ)) (n : ℕ) → May n → Q (Attempt.Done (push_part (Some t) peer n w))
    push_part-goes None n may = refused NotActive
    push_part-goes (Some address) n may =
        which (is_active t.phase) _ _
        (done t.key _ ((k t.key).then w _ _ (send-keeps (R t.key) May (Is t.key) (k t.key) n _ _ w may refl) ((k t.key).then _ _ _ (enlisting-keeps (R t.key) May (Is t.key) (k t.key) _ t.key _ refl) (taking-keeps (R t.key) May (Is t.key) (k t.key) n _ _ may))))
        (refused NotActive)

    resume_in-goes : (place : PartyPlace) → Q (resume_in place t w)
    resume_in-goes (Here party) = done t.key _ (dispatch-keeps (R t.key) May (Is t.key) (k t.key) t.key w refl)
    resume_in-goes (Out errand) = refused Busy
    resume_in-goes Spent = either_attempt Q (is_done t) (finish t w) _ (kept_each t.key _ (finish-keeps (R t.key) May (Is t.key) (k t.key) w t w refl ((k t.key).same w))) (refused Busy)

    -- its party is here again
    returns : (party : PartyNotes) → has_id w.state.head.name party.id t ≡ true → R t.key w (alter t.key (standing_at (Here party)) w)
    returns party own = (k t.key).returns party t w refl own

    proceeds_from : (v : Work) → R t.key w v → Q (proceed t.key v)
    proceeds_from v r = kept_each t.key _ (proceed-keeps (R t.key) May (Is t.key) (k t.key) w t.key v refl r)

    voted_for-goes : (place : PartyPlace) (party : PartyNotes) → has_id w.state.head.name party.id t ≡ true → Q (voted_for place party t w)
    voted_for-goes (Out errand.Vote) party own = proceeds_from _ ((k t.key).then w _ _ (returns party own) (noting-keeps (R t.key) May (Is t.key) (k t.key) 0 (answered (party_answer party)) t.key _ refl))
    voted_for-goes place party own = strangers party

    settled_for-goes : (place : PartyPlace) (party : PartyNotes) → has_id w.state.head.name party.id t ≡ true → Q (settled_for place party t w)
    settled_for-goes (Out errand.Commit) party own =
        let here = alter t.key (standing_at (Here party)) w in
        proceeds_from _ (either (R t.key w) (has_ready party) here (dispatch t.key here) (returns party own) ((k t.key).then w here _ (returns party own) (dispatch-keeps (R t.key) May (Is t.key) (k t.key) t.key here refl)))
    settled_for-goes (Out errand.Abort) party own = proceeds_from _ (returns party own)
    settled_for-goes place party own = strangers party

  push_found-goes : (found : Option Transaction) (peer : Option (List ℕ)) (n : ℕ) → May n → Q (Attempt.Done (push_part found peer n w))
  push_found-goes None peer n may = refused NotActive
  push_found-goes (Some t) peer n may = push_part-goes t peer n may

  ask_push-goes : (found : Option Connection) (may : IfSome found (λ c. May c.number)) (id : List ℕ) → Q (Attempt.Done (ask_push found id w))
  unfolding ask_push
  ask_push-goes None may id = refused Stale
  ask_push-goes (Some c) may id = which (is_free c) (push_part (identified_by id w.state) c.peer c.number w) _ (push_found-goes (identified_by id w.state) c.peer c.number may) (refused Busy)

  resume-goes : (found : Option Transaction) → Q (resume found w)
  unfolding resume
  resume-goes None = refused NotActive
  resume-goes (Some t) = either_attempt Q (is_committed t.phase) (resume_in t.place t w) _ (resume_in-goes t t.place) (refused NotActive)

  voted-goes : (found : Option Transaction) (party : PartyNotes) → IsNamed found party → Q (voted found party w)
  unfolding voted
  voted-goes None party own = strangers party
  voted-goes (Some t) party own = voted_for-goes t t.place party (own t refl)

  settled-goes : (found : Option Transaction) (party : PartyNotes) → IsNamed found party → Q (settled found party w)
  unfolding settled
  settled-goes None party own = strangers party
  settled-goes (Some t) party own = settled_for-goes t t.place party (own t refl)

  pub attempt-goes : (event : Event) → is_opening event ≡ false → ((seat : Seat) → Names event seat.number → IfSome (seated seat w.state) (λ c. May c.number)) → Q (attempt event w)
  attempt-goes (Open boxes) not may = absurd (cc)
  attempt-goes (Dial address purpose boxes) not may = absurd (cc)
  attempt-goes (Line seat heard) not may = line-goes (seated seat w.state) (may seat refl) heard (seated_there seat w.state)
  attempt-goes (Voted party) not may = voted-goes (owner party w.state) party (owner_named party w.state)
  attempt-goes (Settled party) not may = settled-goes (owner party w.state) party (owner_named party w.state)
  attempt-goes (Lost seat) not may = lost-goes (seated seat w.state) (may seat refl)
  attempt-goes (AskPush seat id) not may = ask_push-goes (seated seat w.state) (may seat refl) id
  attempt-goes (AskPull seat superior) not may = ask_pull-goes (seated seat w.state) (may seat refl) superior (seated_there seat w.state)
  attempt-goes (Resume id) not may = resume-goes (identified_by id w.state)
