-- A transaction that is committed, promised or asked leaves a realm whole.
use Rattle.std.proofs.Common.{◌≡◌, Bool, true, false, Option, Some, None, cond, refl, ap, subst, sym, ◌∙◌}
use Rattle.std.specs.Prelude.{◌&&◌, ◌||◌, not, length}
use Rattle.std.specs.List.{list_any}
use Rattle.std.proofs.lemmas.Bool.{and_from, and_parts, both_ways, not-true, or_left}
use Rattle.tip_rows.specs.Keys.{Key}
use Rattle.tip_branch.specs.Members.{is_active}
use Rattle.tip_branch.specs.Notes.{PartyNotes}
use Rattle.tip_branch.specs.declared.member.Errand.TheVariants as errand
use Rattle.tip_conn.specs.Table.{next_of}
use Rattle.tip_conn.specs.declared.state.State.TheVariants as state
use Rattle.tip_line.specs.declared.command.CommandName.TheVariants as command
use Rattle.tip_txn.specs.declared.answer.Ballot.{Ballot}
use Rattle.tip_txn.specs.declared.answer.Ballot.TheVariants.{Yes, No, ReadOnly, Lost}
use Rattle.tip_txn.specs.declared.answer.Decision.TheVariants as decision
use Rattle.tip_txn.specs.declared.answer.Phase.{Phase}
use Rattle.tip_txn.specs.declared.answer.Phase.TheVariants.{Prepared, Committed}
use Rattle.tip_txn.specs.declared.part.Participant.{Participant}
use Rattle.tip_machine.specs.Invariants.Links.{Link}
use Rattle.tip_machine.specs.Invariants.Links.Link.{Gone, Owes, Awaits}
use Rattle.tip_machine.specs.Invariants.Parties.{is_its_own}
use Rattle.tip_machine.specs.Invariants.Phases.{is_named, is_part, is_part_in, is_party, is_superior, may_have_acknowledged}
use Rattle.tip_machine.specs.Proceeding.{commit, dispatch, dispatched, enter, give_out, let_go, promise}
use Rattle.tip_machine.specs.Reactions.{Reaction, commits, promises, react}
use Rattle.tip_machine.specs.States.{State, Work, transaction_of}
use Rattle.tip_machine.specs.Transactions.{decision_of, entering, has_ready, standing_at}
use Rattle.tip_machine.specs.Types.{PartyPlace, Transaction}
use Rattle.tip_machine.specs.declared.connection.Awaited.TheVariants as awaited
use Rattle.tip_machine.specs.declared.transaction.Origin.{Origin}
use Rattle.tip_machine.specs.declared.transaction.Origin.TheVariants as origin
use Rattle.tip_machine.specs.declared.transaction.PartyPlace.TheVariants.{Here, Out, Spent}
use Rattle.tip_agreement.proofs.Aborting.{on_some, own_as, party_now}
use Rattle.tip_agreement.proofs.Around.{Around, Whole, alter_around, altered, whole_of, le_self}
use Rattle.tip_agreement.proofs.Owned.{Owned, above_after, alter_owned, from_phase, part_after, react_owned}
use Rattle.tip_agreement.proofs.Reacting.{IsOutcome, commits_so, promises_so, react_around}

-- A phase is entered, and the connections react

pub record Entered (phase : Phase) (above : Link → Bool) (part : Link → Participant → Bool) (party : PartyPlace → Option Ballot → Bool) (key : Key) (t : Transaction) (s : State) : Type 0 where
  pub around : Around key s
  pub owned : Owned above part party key (entering phase t) s

module _ (phase : Phase) (reaction : Reaction) (so : IsOutcome reaction) (above above' : Link → Bool) (part part' : Link → Participant → Bool) (party : PartyPlace → Option Ballot → Bool) (up : (l : Link) → above l ≡ true → above' (above_after reaction l) ≡ true) (down : (l : Link) (p : Participant) → part l p ≡ true → part' (part_after reaction l) p ≡ true) where
  pub enters : (key : Key) (t : Transaction) (w : Work) → Around key w.state → Owned above part party key t w.state → Entered phase above' part' party key t (react reaction key (enter phase key w)).state
  unfolding react
  enters key t w around owned = record { around = react_around s reaction so key here; owned = react_owned s reaction so key here above above' part part' party (entering phase t) up down entered } where
    s : State
    s = altered key w.state (entering phase)

    here : Around key s
    here = alter_around key w.state (entering phase) (λ t. refl) (λ t. le_self (length t.parts)) around

    entered : Owned above part party key (entering phase t) s
    entered = alter_owned above above part part party party key (entering phase) t w.state (λ t. refl) (λ l is. is) owned.parts (own_as w.state t (entering phase t) t.place refl ∙ owned.own) owned

-- COMMIT

abbrev pub may_commit_above : Origin → Link → Bool
may_commit_above origin.Root (Owes state.Begun (Some command.Commit)) = true
may_commit_above (origin.Subordinate address superior) (Owes state.Enlisted (Some command.Commit)) = true
may_commit_above (origin.Subordinate address superior) (Owes state.Prepared (Some command.Commit)) = true
may_commit_above from link = false

abbrev pub may_commit : Link → Option Ballot → Bool
may_commit (Awaits state.Prepared None) (Some Yes) = true
may_commit (Awaits state.Prepared (Some awaited.Commit)) (Some Yes) = true
may_commit (Awaits state.Idle (Some awaited.Reconnect)) (Some Yes) = true
may_commit Gone (Some Yes) = true
may_commit Gone (Some ReadOnly) = true
may_commit link answer = false

abbrev pub may_commit_part : Link → Participant → Bool
may_commit_part link part = may_commit link part.answer && (not part.acknowledged || may_have_acknowledged Committed link part.answer) && is_named link part

above_committed : (from : Origin) (link : Link) → may_commit_above from link ≡ true → is_superior Committed from (above_after commits link) ≡ true
unfolding next_of
above_committed origin.Root (Owes state.Begun (Some command.Commit)) is = refl
above_committed (origin.Subordinate address superior) (Owes state.Enlisted (Some command.Commit)) is = refl
above_committed (origin.Subordinate address superior) (Owes state.Prepared (Some command.Commit)) is = refl
above_committed from link is = absurd (cc)

part_committed : (link : Link) (answer : Option Ballot) (part : Participant) → may_commit link answer ≡ true → not part.acknowledged || may_have_acknowledged Committed link answer ≡ true → is_named link part ≡ true → (is_part Committed (part_after commits link) answer ≡ true) × (not part.acknowledged || may_have_acknowledged Committed (part_after commits link) answer ≡ true) × (is_named (part_after commits link) part ≡ true)
part_committed (Awaits state.Prepared None) (Some Yes) part is told named = (refl, told, named)
part_committed (Awaits state.Prepared (Some awaited.Commit)) (Some Yes) part is told named = (refl, told, named)
part_committed (Awaits state.Idle (Some awaited.Reconnect)) (Some Yes) part is told named = (refl, told, named)
part_committed Gone (Some Yes) part is told named = (refl, told, named)
part_committed Gone (Some ReadOnly) part is told named = (refl, told, named)
part_committed link answer part is told named = absurd (cc)

pub parts_committed : (link : Link) (part : Participant) → may_commit_part link part ≡ true → is_part_in Committed (part_after commits link) part ≡ true
parts_committed link part is =
    let a = and_parts (may_commit link part.answer && (not part.acknowledged || may_have_acknowledged Committed link part.answer)) (is_named link part) is in
    let b = and_parts (may_commit link part.answer) (not part.acknowledged || may_have_acknowledged Committed link part.answer) a.0 in
    let after = part_committed link part.answer part b.0 b.1 a.1 in
    and_from _ _ (and_from _ _ after.0 after.1) after.2

-- a promise where a branch is ready, and none where none is
told_commit : (party : PartyNotes) (answer : Option Ballot) → has_ready party ≡ true → is_party Prepared (Here party) answer ≡ true → is_party Committed (Out errand.Commit) answer ≡ true
told_commit party (Some Yes) ready is = refl
told_commit party (Some ReadOnly) ready is = absurd (both_ways (has_ready party) (not-true _ (and_parts (not (list_any is_active party.members)) (not (has_ready party)) is).1) ready)
told_commit party None ready is = absurd (cc)
told_commit party (Some No) ready is = absurd (cc)
told_commit party (Some Lost) ready is = absurd (cc)

let_off : (party : PartyNotes) (answer : Option Ballot) → is_party Prepared (Here party) answer ≡ true → is_party Committed Spent answer ≡ true
let_off party (Some Yes) is = refl
let_off party (Some ReadOnly) is = refl
let_off party None is = absurd (cc)
let_off party (Some No) is = absurd (cc)
let_off party (Some Lost) is = absurd (cc)

spent_still : (answer : Option Ballot) → is_party Prepared Spent answer ≡ true → is_party Committed Spent answer ≡ true
spent_still (Some Yes) is = refl
spent_still (Some ReadOnly) is = absurd (cc)
spent_still None is = absurd (cc)
spent_still (Some No) is = absurd (cc)
spent_still (Some Lost) is = absurd (cc)

module _ (key : Key) (t : Transaction) (w : Work) (above : Link → Bool) (part : Link → Participant → Bool) (known : Entered Committed above part (is_party Prepared) key t w.state) where
  -- where the party is then
  sent_to : (place : PartyPlace) → ((answer : Option Ballot) → is_party Prepared t.place answer ≡ true → is_party Committed place answer ≡ true) → ((u : Transaction) → is_its_own w.state u place ≡ true) → Entered Committed above part (is_party Committed) key (standing_at place t) (altered key w.state (standing_at place))
  sent_to place fits own = record {
    around = alter_around key w.state (standing_at place) (λ t. refl) (λ t. le_self (length t.parts)) known.around;
    owned = alter_owned above above part part (is_party Prepared) (is_party Committed) key (standing_at place) (entering Committed t) w.state (λ t. refl) (λ l is. is) (party_now part (is_party Prepared) (is_party Committed) t.place place t.parts key w.state.connections fits known.owned.parts) (own (standing_at place (entering Committed t))) known.owned;
  }

  module _ (whole : (u : Transaction) (s : State) → u.parts ≡ t.parts → u.origin ≡ t.origin → Entered Committed above part (is_party Committed) key u s → Whole s) where
    stays_at : (place : PartyPlace) → t.place ≡ place → ((answer : Option Ballot) → is_party Prepared place answer ≡ true → is_party Committed place answer ≡ true) → Whole w.state
    stays_at place at fits = whole t w.state refl refl (record {
      around = known.around;
      owned = record {
        found = known.owned.found;
        above = known.owned.above;
        parts = party_now part (is_party Prepared) (is_party Committed) t.place t.place t.parts key w.state.connections (λ answer is. subst (λ p. is_party Committed p answer ≡ true) (sym at) (fits answer (subst (λ p. is_party Prepared p answer ≡ true) at is))) known.owned.parts;
        own = known.owned.own;
      };
    })

    goes_to : (place now : PartyPlace) → t.place ≡ place → ((answer : Option Ballot) → is_party Prepared place answer ≡ true → is_party Committed now answer ≡ true) → ((u : Transaction) → is_its_own w.state u now ≡ true) → Whole (altered key w.state (standing_at now))
    goes_to place now at fits own = whole (standing_at now t) (altered key w.state (standing_at now)) refl refl (sent_to now (λ answer is. fits answer (subst (λ p. is_party Prepared p answer ≡ true) at is)) own)

    dispatched_at : (place : PartyPlace) → t.place ≡ place → Whole (dispatched place Committed key w).state
    dispatched_at (Here party) at = step (has_ready party) refl where
      step : (b : Bool) → has_ready party ≡ b → Whole (cond b (give_out errand.Commit party key w) (let_go party key w)).state
      step true ready = goes_to (Here party) (Out errand.Commit) at (λ answer is. told_commit party answer ready is) (λ u. refl)
      step false ready = goes_to (Here party) Spent at (λ answer is. let_off party answer is) (λ u. refl)
    dispatched_at (Out errand) at = stays_at (Out errand) at (λ answer is. absurd (never answer is)) where
      never : (answer : Option Ballot) → is_party Prepared (Out errand) answer ≡ true → ⊥
      never answer is = cc
    dispatched_at Spent at = stays_at Spent at spent_still

    pub dispatched_whole : Whole (dispatch key w).state
    unfolding dispatch
    dispatched_whole = on_some (λ v. Whole v.state) (transaction_of key w.state) (entering Committed t) _ w known.owned.found (dispatched_at t.place refl)

-- a committed transaction as its tables say
pub committed_whole : (key : Key) (t : Transaction) (s : State) → decision_of t ≡ decision.Commit → Entered Committed (is_superior Committed t.origin) (is_part_in Committed) (is_party Committed) key t s → Whole s
committed_whole key t s agreed known = whole_of key s (entering Committed t) known.owned.found (from_phase key (entering Committed t) s (record {
  owned = known.owned;
  address = refl;
  come = rw agreed refl;
  over = refl;
})) known.around

pub commit_whole : (key : Key) (t : Transaction) (w : Work) → decision_of t ≡ decision.Commit → Around key w.state → Owned (may_commit_above t.origin) may_commit_part (is_party Prepared) key t w.state → Whole (commit key w).state
unfolding commit
commit_whole key t w agreed around owned =
    dispatched_whole key t (react commits key (enter Committed key w)) (is_superior Committed t.origin) (is_part_in Committed)
    (enters Committed commits commits_so (may_commit_above t.origin) (is_superior Committed t.origin) may_commit_part (is_part_in Committed) (is_party Prepared) (above_committed t.origin) parts_committed key t w around owned)
    (λ u s parts from known. committed_whole key u s (ap (λ ps. decision_of (record u { parts = ps })) parts ∙ agreed) (subst (λ o. Entered Committed (is_superior Committed o) (is_part_in Committed) (is_party Committed) key u s) (sym from) known))

-- PROMISE

abbrev pub may_promise_above : Origin → Link → Bool
may_promise_above (origin.Subordinate (Some address) superior) (Owes state.Enlisted (Some command.Prepare)) = true
may_promise_above from link = false

abbrev pub may_promise : Link → Option Ballot → Bool
may_promise (Awaits state.Prepared None) (Some Yes) = true
may_promise Gone (Some Yes) = true
may_promise Gone (Some ReadOnly) = true
may_promise link answer = false

abbrev pub may_promise_part : Link → Participant → Bool
may_promise_part link part = may_promise link part.answer && not part.acknowledged && is_named link part

above_promised : (from : Origin) (link : Link) → may_promise_above from link ≡ true → is_superior Prepared from (above_after promises link) ≡ true
unfolding next_of
above_promised (origin.Subordinate (Some address) superior) (Owes state.Enlisted (Some command.Prepare)) is = refl
above_promised from link is = absurd (cc)

part_promised : (link : Link) (answer : Option Ballot) (part : Participant) → may_promise link answer ≡ true → is_named link part ≡ true → (is_part Prepared (part_after promises link) answer ≡ true) × (is_named (part_after promises link) part ≡ true)
part_promised (Awaits state.Prepared None) (Some Yes) part is named = (refl, named)
part_promised Gone (Some Yes) part is named = (refl, named)
part_promised Gone (Some ReadOnly) part is named = (refl, named)
part_promised link answer part is named = absurd (cc)

parts_promised : (link : Link) (part : Participant) → may_promise_part link part ≡ true → is_part_in Prepared (part_after promises link) part ≡ true
parts_promised link part is =
    let a = and_parts (may_promise link part.answer && not part.acknowledged) (is_named link part) is in
    let b = and_parts (may_promise link part.answer) (not part.acknowledged) a.0 in
    let after = part_promised link part.answer part b.0 a.1 in
    and_from _ _ (and_from _ _ after.0 (or_left _ _ b.1)) after.1

pub promise_whole : (key : Key) (t : Transaction) (w : Work) → decision_of t ≡ decision.Commit → Around key w.state → Owned (may_promise_above t.origin) may_promise_part (is_party Prepared) key t w.state → Whole (promise key w).state
unfolding promise
promise_whole key t w agreed around owned =
    let known = enters Prepared promises promises_so (may_promise_above t.origin) (is_superior Prepared t.origin) may_promise_part (is_part_in Prepared) (is_party Prepared) (above_promised t.origin) parts_promised key t w around owned in
    let s = (react promises key (enter Prepared key w)).state in
    whole_of key s (entering Prepared t) known.owned.found (from_phase key (entering Prepared t) s (record { owned = known.owned; address = refl; come = rw agreed refl; over = refl })) known.around
