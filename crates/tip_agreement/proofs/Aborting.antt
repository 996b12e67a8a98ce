-- A transaction that is aborted leaves a realm whole.
use Rattle.std.proofs.Common.{◌≡◌, Bool, true, false, List, [], ◌∷◌, Option, Some, None, cond, refl, subst, sym, ◌∙◌}
use Rattle.std.specs.Prelude.{◌&&◌, not, length}
use Rattle.std.specs.List.{list_any}
use Rattle.std.proofs.lemmas.Bool.{and_from, and_parts, both_ways, not-true, not_from_false, or_left}
use Rattle.tip_rows.specs.Keys.{Key}
use Rattle.tip_branch.specs.declared.member.Errand.{Errand}
use Rattle.tip_branch.specs.declared.member.Errand.TheVariants as errand
use Rattle.tip_conn.specs.Table.{next_of}
use Rattle.tip_conn.specs.declared.state.State.TheVariants as state
use Rattle.tip_line.specs.declared.command.CommandName.TheVariants as command
use Rattle.tip_txn.specs.declared.answer.Ballot.{Ballot}
use Rattle.tip_txn.specs.declared.answer.Ballot.TheVariants.{Yes}
use Rattle.tip_txn.specs.declared.answer.Phase.TheVariants.{Aborted}
use Rattle.tip_txn.specs.declared.part.Participant.{Participant}
use Rattle.tip_machine.specs.Connections.{is_on}
use Rattle.tip_machine.specs.Invariants.Links.{Link}
use Rattle.tip_machine.specs.Invariants.Links.Link.{Gone, Owes, Awaits}
use Rattle.tip_machine.specs.Invariants.Parties.{is_its_own}
use Rattle.tip_machine.specs.Invariants.Phases.{is_named, is_part, is_part_in, is_party, is_superior}
use Rattle.tip_machine.specs.Changes.{end, on}
use Rattle.tip_machine.specs.Proceeding.{abort, dispatch, dispatched, enter, give_out, let_go, release}
use Rattle.tip_machine.specs.Reactions.{aborts, react}
use Rattle.tip_machine.specs.States.{State, Work, transaction_of}
use Rattle.tip_machine.specs.Transactions.{entering, has_ready, is_spent, standing_at}
use Rattle.tip_machine.specs.Types.{Connection, PartyPlace, Transaction}
use Rattle.tip_machine.specs.declared.connection.Awaited.TheVariants as awaited
use Rattle.tip_machine.specs.declared.transaction.Origin.{Origin}
use Rattle.tip_machine.specs.declared.transaction.Origin.TheVariants as origin
use Rattle.tip_machine.specs.declared.transaction.PartyPlace.TheVariants.{Here, Out, Spent}
use Rattle.tip_agreement.proofs.Around.{Around, Whole, alter_around, altered, end_whole, whole_of, le_self}
use Rattle.tip_agreement.proofs.Owned.{Owned, above_after, alter_owned, from_phase, have_parts, key_found, part_after, parts_from, react_owned}
use Rattle.tip_agreement.proofs.Reacting.{aborts_so, react_around}

-- The tables before

abbrev pub may_abort_above : Origin → Link → Bool
may_abort_above origin.Root (Owes state.Begun None) = true
may_abort_above origin.Root (Owes state.Begun (Some command.Commit)) = true
may_abort_above origin.Root (Owes state.Begun (Some command.Abort)) = true
may_abort_above (origin.Subordinate address superior) (Awaits state.Idle (Some awaited.Pull)) = true
may_abort_above (origin.Subordinate address superior) (Owes state.Enlisted None) = true
may_abort_above (origin.Subordinate address superior) (Owes state.Enlisted (Some command.Prepare)) = true
may_abort_above (origin.Subordinate address superior) (Owes state.Enlisted (Some command.Commit)) = true
may_abort_above (origin.Subordinate address superior) (Owes state.Enlisted (Some command.Abort)) = true
may_abort_above (origin.Subordinate address superior) (Owes state.Prepared (Some command.Abort)) = true
may_abort_above from Gone = true
may_abort_above from link = false

abbrev pub may_abort : Link → Option Ballot → Bool
may_abort (Awaits state.Idle (Some awaited.Push)) None = true
may_abort (Awaits state.Enlisted None) None = true
may_abort (Awaits state.Enlisted (Some awaited.Prepare)) None = true
may_abort (Awaits state.Enlisted (Some awaited.Abort)) None = true
may_abort (Awaits state.Prepared None) (Some Yes) = true
may_abort (Awaits state.Prepared (Some awaited.Abort)) (Some Yes) = true
may_abort Gone answer = true
may_abort link answer = false

abbrev pub may_abort_part : Link → Participant → Bool
may_abort_part link part = may_abort link part.answer && not part.acknowledged && is_named link part

abbrev pub may_abort_party : PartyPlace → Option Ballot → Bool
may_abort_party (Here party) answer = true
may_abort_party (Out errand.Vote) answer = true
may_abort_party (Out errand.Abort) answer = true
may_abort_party Spent answer = true
may_abort_party place answer = false

-- and after

above_aborted : (from : Origin) (link : Link) → may_abort_above from link ≡ true → is_superior Aborted from (above_after aborts link) ≡ true
unfolding next_of
above_aborted origin.Root (Owes state.Begun None) is = refl
above_aborted origin.Root (Owes state.Begun (Some command.Commit)) is = refl
above_aborted origin.Root (Owes state.Begun (Some command.Abort)) is = refl
above_aborted (origin.Subordinate address superior) (Awaits state.Idle (Some awaited.Pull)) is = refl
above_aborted (origin.Subordinate address superior) (Owes state.Enlisted None) is = refl
above_aborted (origin.Subordinate address superior) (Owes state.Enlisted (Some command.Prepare)) is = refl
above_aborted (origin.Subordinate address superior) (Owes state.Enlisted (Some command.Commit)) is = refl
above_aborted (origin.Subordinate address superior) (Owes state.Enlisted (Some command.Abort)) is = refl
above_aborted (origin.Subordinate address superior) (Owes state.Prepared (Some command.Abort)) is = refl
above_aborted from Gone is = refl
above_aborted from link is = absurd (cc)

part_aborted : (link : Link) (answer : Option Ballot) (part : Participant) → may_abort link answer ≡ true → is_named link part ≡ true → (is_part Aborted (part_after aborts link) answer ≡ true) × (is_named (part_after aborts link) part ≡ true)
part_aborted (Awaits state.Idle (Some awaited.Push)) None part is named = (refl, named)
part_aborted (Awaits state.Enlisted None) None part is named = (refl, named)
part_aborted (Awaits state.Enlisted (Some awaited.Prepare)) None part is named = (refl, named)
part_aborted (Awaits state.Enlisted (Some awaited.Abort)) None part is named = (refl, named)
part_aborted (Awaits state.Prepared None) (Some Yes) part is named = (refl, named)
part_aborted (Awaits state.Prepared (Some awaited.Abort)) (Some Yes) part is named = (refl, named)
part_aborted Gone answer part is named = (refl, named)
part_aborted link answer part is named = absurd (cc)

parts_aborted : (link : Link) (part : Participant) → may_abort_part link part ≡ true → is_part_in Aborted (part_after aborts link) part ≡ true
parts_aborted link part is =
    let a = and_parts (may_abort link part.answer && not part.acknowledged) (is_named link part) is in
    let b = and_parts (may_abort link part.answer) (not part.acknowledged) a.0 in
    let after = part_aborted link part.answer part b.0 a.1 in
    and_from _ _ (and_from _ _ after.0 (or_left _ _ b.1)) after.1

-- Rules

pub on_some : (P : Work → Type 0) (found : Option Transaction) (t : Transaction) (rule : Transaction → Work → Work) (w : Work) → found ≡ Some t → P (rule t w) → P (on found rule w)
on_some P found t rule w is p = subst (λ o. P (on o rule w)) (sym is) p

pub own_as : (s : State) (t u : Transaction) (place : PartyPlace) → u.key ≡ t.key → is_its_own s u place ≡ is_its_own s t place
own_as s t u (Here party) same = rw same refl
own_as s t u (Out errand) same = refl
own_as s t u Spent same = refl

-- its phase is aborted, and nobody is here
record Aborting (key : Key) (s : State) : Type 0 where
  transaction : Transaction
  around : Around key s
  owned : Owned (is_superior Aborted transaction.origin) (is_part_in Aborted) (is_party Aborted) key (entering Aborted transaction) s

released : (key : Key) (w : Work) → Aborting key w.state → Whole (release key w).state
unfolding release
released key w aborting = on_some (λ v. Whole v.state) (transaction_of key w.state) t _ w aborting.owned.found (step (is_spent t.place && not (list_any (is_on key) w.state.connections)) refl) where
  t : Transaction
  t = entering Aborted aborting.transaction

  step : (b : Bool) → (is_spent t.place && not (list_any (is_on key) w.state.connections)) ≡ b → Whole (cond b (end key w) w).state
  step true is = end_whole key w.state (not-true _ (and_parts (is_spent t.place) (not (list_any (is_on key) w.state.connections)) is).1) aborting.around
  step false is = whole_of key w.state t aborting.owned.found (from_phase key t w.state (record {
    owned = aborting.owned;
    address = refl;
    come = refl;
    over = not_from_false _ (subst (λ k. (is_spent t.place && not (list_any (is_on k) w.state.connections)) ≡ false) (key_found key t w.state aborting.owned.found) is);
  })) aborting.around

-- the party is somewhere else then, as the table says
pub party_now : (table : Link → Participant → Bool) (party party' : PartyPlace → Option Ballot → Bool) (place place' : PartyPlace) (parts : List Participant) (key : Key) (cs : List Connection) → ((answer : Option Ballot) → party place answer ≡ true → party' place' answer ≡ true) → have_parts table party place parts key cs ≡ true → have_parts table party' place' parts key cs ≡ true
party_now table party party' place place' [] key cs goes all = absurd (cc)
party_now table party party' place place' (local ∷ parts) key cs goes all = let both = and_parts (party place local.answer) (parts_from table 1 parts key cs) all in and_from _ _ (goes local.answer both.0) both.1

-- what is known of the transaction before its party goes out
record Stopping (key : Key) (s : State) : Type 0 where
  transaction : Transaction
  around : Around key s
  owned : Owned (is_superior Aborted transaction.origin) (is_part_in Aborted) may_abort_party key (entering Aborted transaction) s

module _ (key : Key) (w : Work) (stopping : Stopping key w.state) where
  stopped : Transaction
  stopped = entering Aborted stopping.transaction

  goes_to : (place : PartyPlace) → ((answer : Option Ballot) → is_party Aborted place answer ≡ true) → ((t : Transaction) → is_its_own w.state t place ≡ true) → Aborting key (altered key w.state (standing_at place))
  unfolding stopped
  goes_to place fits own = record {
    transaction = standing_at place stopping.transaction;
    around = alter_around key w.state (standing_at place) (λ t. refl) (λ t. le_self (length t.parts)) stopping.around;
    owned = alter_owned (is_superior Aborted stopping.transaction.origin) (is_superior Aborted stopping.transaction.origin) (is_part_in Aborted) (is_part_in Aborted) may_abort_party (is_party Aborted) key (standing_at place) stopped w.state (λ t. refl) (λ l is. is) (party_now (is_part_in Aborted) may_abort_party (is_party Aborted) stopped.place place stopped.parts key w.state.connections (λ answer is. fits answer) stopping.owned.parts) (own (standing_at place stopped)) stopping.owned;
  }

  stays_at : (place : PartyPlace) → stopping.transaction.place ≡ place → ((answer : Option Ballot) → is_party Aborted place answer ≡ true) → Aborting key w.state
  unfolding stopped
  stays_at place at fits = record {
    transaction = stopping.transaction;
    around = stopping.around;
    owned = record {
      found = stopping.owned.found;
      above = stopping.owned.above;
      parts = party_now (is_part_in Aborted) may_abort_party (is_party Aborted) stopped.place stopped.place stopped.parts key w.state.connections (λ answer is. subst (λ p. is_party Aborted p answer ≡ true) (sym at) (fits answer)) stopping.owned.parts;
      own = stopping.owned.own;
    };
  }

  never_out : (errand : Errand) → ((answer : Option Ballot) → may_abort_party (Out errand) answer ≡ false) → (parts : List Participant) → have_parts (is_part_in Aborted) may_abort_party (Out errand) parts key w.state.connections ≡ true → ⊥
  never_out errand fails [] all = absurd (cc)
  never_out errand fails (local ∷ parts) all = both_ways _ (fails local.answer) (and_parts (may_abort_party (Out errand) local.answer) (parts_from (is_part_in Aborted) 1 parts key w.state.connections) all).0

  dispatched_at : (place : PartyPlace) → stopping.transaction.place ≡ place → Aborting key (dispatched place Aborted key w).state
  unfolding stopped
  dispatched_at (Here party) at = step (has_ready party) where
    step : (b : Bool) → Aborting key (cond b (give_out errand.Abort party key w) (let_go party key w)).state
    step true = goes_to (Out errand.Abort) (λ answer. refl) (λ t. refl)
    step false = goes_to Spent (λ answer. refl) (λ t. refl)
  dispatched_at (Out errand.Vote) at = stays_at (Out errand.Vote) at (λ answer. refl)
  dispatched_at (Out errand.Abort) at = stays_at (Out errand.Abort) at (λ answer. refl)
  dispatched_at (Out errand.Commit) at = absurd (never_out errand.Commit (λ answer. refl) stopping.transaction.parts (subst (λ p. have_parts (is_part_in Aborted) may_abort_party p stopping.transaction.parts key w.state.connections ≡ true) at stopping.owned.parts))
  dispatched_at (Out errand.Idle) at = absurd (never_out errand.Idle (λ answer. refl) stopping.transaction.parts (subst (λ p. have_parts (is_part_in Aborted) may_abort_party p stopping.transaction.parts key w.state.connections ≡ true) at stopping.owned.parts))
  dispatched_at Spent at = stays_at Spent at (λ answer. refl)

  dispatched_so : Aborting key (dispatch key w).state
  unfolding dispatch stopped
  dispatched_so = on_some (λ v. Aborting key v.state) (transaction_of key w.state) stopped _ w stopping.owned.found (dispatched_at stopping.transaction.place refl)

-- A transaction whose tables allow it is aborted, and all is whole
pub aborted_whole : (key : Key) (t : Transaction) (w : Work) → Around key w.state → Owned (may_abort_above t.origin) may_abort_part may_abort_party key t w.state → Whole (abort key w).state
unfolding abort react
aborted_whole key t w around owned = released key _ (dispatched_so key (react aborts key (enter Aborted key w)) (record { transaction = t; around = react_around s aborts aborts_so key here; owned = react_owned s aborts aborts_so key here (may_abort_above t.origin) (is_superior Aborted t.origin) may_abort_part (is_part_in Aborted) may_abort_party (entering Aborted t) (above_aborted t.origin) parts_aborted entered })) where
  s : State
  s = altered key w.state (entering Aborted)

  here : Around key s
  here = alter_around key w.state (entering Aborted) (λ t. refl) (λ t. le_self (length t.parts)) around

  entered : Owned (may_abort_above t.origin) may_abort_part may_abort_party key (entering Aborted t) s
  entered = alter_owned (may_abort_above t.origin) (may_abort_above t.origin) may_abort_part may_abort_part may_abort_party may_abort_party key (entering Aborted) t w.state (λ t. refl) (λ l is. is) owned.parts (own_as w.state t (entering Aborted t) t.place refl ∙ owned.own) owned
