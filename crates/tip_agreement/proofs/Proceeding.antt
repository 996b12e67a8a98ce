-- What follows for a transaction leaves a realm whole.
use Rattle.std.proofs.Common.{◌≡◌, Bool, true, false, ℕ, ◌+◌, List, [], ◌∷◌, Option, Some, None, cond, refl, ap, subst, sym, ◌∙◌, ◌⊎◌, inl, inr}
use Rattle.std.specs.Prelude.{◌&&◌, ◌||◌, not, find, map, is_none}
use Rattle.std.specs.List.{list_any}
use Rattle.std.specs.Option.{option_and_then}
use Rattle.std.proofs.lemmas.Bool.{and_from, and_parts, both_ways, not-true, not_from_false, or_left, or_parts}
use Rattle.tip_rows.specs.Keys.{Key}
use Rattle.tip_branch.specs.declared.member.Errand.TheVariants as errand
use Rattle.tip_conn.specs.declared.state.Side.{Side}
use Rattle.tip_conn.specs.declared.state.Side.TheVariants.{Primary, Secondary}
use Rattle.tip_conn.specs.declared.state.State.{State as ConnectionState}
use Rattle.tip_conn.specs.declared.state.State.TheVariants as state
use Rattle.tip_line.specs.declared.command.CommandName.{CommandName}
use Rattle.tip_line.specs.declared.command.CommandName.TheVariants as command
use Rattle.tip_txn.specs.declared.answer.Ballot.{Ballot}
use Rattle.tip_txn.specs.declared.answer.Ballot.TheVariants.{Yes, No, ReadOnly, Lost}
use Rattle.tip_txn.specs.declared.answer.Decision.{Decision}
use Rattle.tip_txn.specs.declared.answer.Decision.TheVariants as decisions
use Rattle.tip_txn.specs.declared.answer.Phase.{Phase}
use Rattle.tip_txn.specs.declared.answer.Phase.TheVariants.{Active, Asking, Prepared, Committed, Aborted}
use Rattle.tip_txn.specs.declared.part.Participant.{Participant}
use Rattle.tip_txn.specs.Parts.{is_yes}
use Rattle.tip_branch.specs.Members.{is_active}
use Rattle.tip_branch.specs.Notes.{PartyNotes}
use Rattle.tip_branch.specs.declared.member.Errand.{Errand}
use Rattle.tip_machine.specs.Connections.{is_superior_of}
use Rattle.tip_machine.specs.Invariants.Links.{Link, link, link_on}
use Rattle.tip_machine.specs.Invariants.Links.Link.{Gone, Owes, Awaits}
use Rattle.tip_machine.specs.Invariants.Parties.{has_left, has_promised}
use Rattle.tip_machine.specs.Invariants.Phases.{has_come_to, is_named, is_part, is_part_in, is_party, is_superior, is_transaction}
use Rattle.tip_machine.specs.Changes.{attempt_on, end}
use Rattle.tip_machine.specs.Proceeding.{abort, agree, commit, conclude, finish, leave, proceed, proceed_in, promise, wait}
use Rattle.tip_machine.specs.Reactions.{asks, commits, react}
use Rattle.tip_machine.specs.States.{Attempt, State, Work, transaction_of}
use Rattle.tip_machine.specs.Transactions.{decision, decision_of, is_done, refuses, has_ready}
use Rattle.tip_machine.specs.Types.{Connection, PartyPlace, Transaction}
use Rattle.tip_machine.specs.declared.event.Change.TheVariants.{Remove}
use Rattle.tip_machine.specs.declared.connection.Awaited.TheVariants as awaited
use Rattle.tip_machine.specs.declared.transaction.Origin.{Origin}
use Rattle.tip_machine.specs.declared.transaction.Origin.TheVariants as origin
use Rattle.tip_machine.specs.declared.transaction.PartyPlace.TheVariants.{Here, Out}
use Rattle.tip_machine.proofs.Walks.{Ends}
use Rattle.tip_agreement.proofs.Aborting.{aborted_whole, may_abort, may_abort_above, may_abort_part, may_abort_party}
use Rattle.tip_agreement.proofs.Around.{Around, Whole, whole_of, with_connections}
use Rattle.tip_agreement.proofs.Deciding.{commit_whole, may_commit, may_commit_above, may_commit_part, may_promise, may_promise_above, may_promise_part, parts_committed, promise_whole}
use Rattle.tip_agreement.proofs.Leaving.{done_whole, is_gone, is_gone_part, leave_whole, may_leave_above}
use Rattle.tip_agreement.proofs.Owned.{Owned, above_after, from_as, have_parts, in_phase, key_found, parts_from, part_after, react_owned}
use Rattle.tip_agreement.proofs.Reacting.{asks_so, become, commits_so, react_around}

-- the tables in which none of the answers is one of these
parts_but : (bad : Option Ballot → Bool) (table table' : Link → Participant → Bool) → ((l : Link) (p : Participant) → table l p ≡ true → bad p.answer ≡ false → table' l p ≡ true) → (place : ℕ) (parts : List Participant) (key : Key) (cs : List Connection) → list_any bad (map (λ (part : Participant). part.answer) parts) ≡ false → parts_from table place parts key cs ≡ true → parts_from table' place parts key cs ≡ true
parts_but bad table table' goes place [] key cs none all = refl
parts_but bad table table' goes place (p ∷ parts) key cs none all =
    let both = and_parts (table _ p) (parts_from table (place + 1) parts key cs) all in
    let nor = or_parts (bad p.answer) _ none in
    and_from _ _ (goes _ p both.0 nor.0) (parts_but bad table table' goes (place + 1) parts key cs nor.1 both.1)

have_but : (bad : Option Ballot → Bool) (table table' : Link → Participant → Bool) (party party' : PartyPlace → Option Ballot → Bool) (place : PartyPlace) → ((l : Link) (p : Participant) → table l p ≡ true → bad p.answer ≡ false → table' l p ≡ true) → ((a : Option Ballot) → party place a ≡ true → bad a ≡ false → party' place a ≡ true) → (parts : List Participant) (key : Key) (cs : List Connection) → list_any bad (map (λ (part : Participant). part.answer) parts) ≡ false → have_parts table party place parts key cs ≡ true → have_parts table' party' place parts key cs ≡ true
have_but bad table table' party party' place goes local [] key cs none all = absurd (cc)
have_but bad table table' party party' place goes local (p ∷ parts) key cs none all =
    let both = and_parts (party place p.answer) (parts_from table 1 parts key cs) all in
    let nor = or_parts (bad p.answer) _ none in
    and_from _ _ (local p.answer both.0 nor.0) (parts_but bad table table' goes 1 parts key cs nor.1 both.1)

-- ASKING: some answer may have come

abbrev pub may_ask : Link → Option Ballot → Bool
may_ask (Awaits state.Idle (Some awaited.Push)) None = true
may_ask (Awaits state.Enlisted None) None = true
may_ask (Awaits state.Enlisted (Some awaited.Prepare)) None = true
may_ask (Awaits state.Prepared None) (Some Yes) = true
may_ask Gone (Some Yes) = true
may_ask Gone (Some ReadOnly) = true
may_ask Gone (Some No) = true
may_ask link answer = false

abbrev pub may_ask_part : Link → Participant → Bool
may_ask_part link part = may_ask link part.answer && not part.acknowledged && is_named link part

abbrev pub may_ask_party : PartyPlace → Option Ballot → Bool
may_ask_party (Out errand.Vote) None = true
may_ask_party (Here party) (Some Yes) = has_promised party
may_ask_party (Here party) (Some ReadOnly) = has_left party
may_ask_party (Here party) (Some No) = true
may_ask_party place answer = false

-- no answer that is missing or refuses
is_open_answer : Option Ballot → Bool
is_open_answer answer = refuses answer || is_none answer

is_not_read_only : Option Ballot → Bool
is_not_read_only answer = is_open_answer answer || is_yes answer

asked_part : (link : Link) (answer : Option Ballot) (part : Participant) → may_ask link answer ≡ true → refuses answer ≡ false → is_named link part ≡ true → (is_part Asking (part_after asks link) answer ≡ true) × (is_named (part_after asks link) part ≡ true)
asked_part (Awaits state.Idle (Some awaited.Push)) None part is never named = (refl, named)
asked_part (Awaits state.Enlisted None) None part is never named = (refl, named)
asked_part (Awaits state.Enlisted (Some awaited.Prepare)) None part is never named = (refl, named)
asked_part (Awaits state.Prepared None) (Some Yes) part is never named = (refl, named)
asked_part Gone (Some Yes) part is never named = (refl, named)
asked_part Gone (Some ReadOnly) part is never named = (refl, named)
asked_part Gone (Some No) part is never named = absurd (cc)
asked_part link answer part is never named = absurd (cc)

asked_above : (from : Origin) (link : Link) → is_superior Asking from link ≡ true → (is_superior Asking from (above_after asks link) ≡ true) × (may_abort_above from link ≡ true) × (may_leave_above from link ≡ true)
asked_above origin.Root (Owes state.Begun (Some command.Commit)) is = (refl, refl, refl)
asked_above (origin.Subordinate (Some address) superior) (Owes state.Enlisted (Some command.Prepare)) is = (refl, refl, refl)
asked_above (origin.Subordinate address superior) (Owes state.Enlisted (Some command.Commit)) is = (refl, refl, refl)
asked_above from link is = absurd (cc)

-- the superior has asked on its connection
abbrev is_owing : Link → Bool
is_owing (Owes at owed) = true
is_owing link = false

owing_above : (from : Origin) (link : Link) → is_superior Asking from link ≡ true → is_owing link ≡ true
owing_above origin.Root (Owes state.Begun (Some command.Commit)) is = refl
owing_above (origin.Subordinate (Some address) superior) (Owes state.Enlisted (Some command.Prepare)) is = refl
owing_above (origin.Subordinate address superior) (Owes state.Enlisted (Some command.Commit)) is = refl
owing_above from link is = absurd (cc)

decided_part : (link : Link) (answer : Option Ballot) → may_ask link answer ≡ true → is_open_answer answer ≡ false → (may_promise link answer ≡ true) × (may_commit link answer ≡ true)
unfolding is_open_answer
decided_part (Awaits state.Idle (Some awaited.Push)) None is none = absurd (cc)
decided_part (Awaits state.Enlisted None) None is none = absurd (cc)
decided_part (Awaits state.Enlisted (Some awaited.Prepare)) None is none = absurd (cc)
decided_part (Awaits state.Prepared None) (Some Yes) is none = (refl, refl)
decided_part Gone (Some Yes) is none = (refl, refl)
decided_part Gone (Some ReadOnly) is none = (refl, refl)
decided_part Gone (Some No) is none = absurd (cc)
decided_part link answer is none = absurd (cc)

left_part : (link : Link) (answer : Option Ballot) → may_ask link answer ≡ true → is_not_read_only answer ≡ false → is_gone link ≡ true
unfolding is_open_answer is_not_read_only
left_part (Awaits state.Idle (Some awaited.Push)) None is none = absurd (cc)
left_part (Awaits state.Enlisted None) None is none = absurd (cc)
left_part (Awaits state.Enlisted (Some awaited.Prepare)) None is none = absurd (cc)
left_part (Awaits state.Prepared None) (Some Yes) is none = absurd (cc)
left_part Gone answer is none = refl
left_part link answer is none = absurd (cc)

aborted_part : (link : Link) (answer : Option Ballot) → may_ask link answer ≡ true → may_abort link answer ≡ true
aborted_part (Awaits state.Idle (Some awaited.Push)) None is = refl
aborted_part (Awaits state.Enlisted None) None is = refl
aborted_part (Awaits state.Enlisted (Some awaited.Prepare)) None is = refl
aborted_part (Awaits state.Prepared None) (Some Yes) is = refl
aborted_part Gone answer is = refl
aborted_part link answer is = absurd (cc)

asked_party : (place : PartyPlace) (answer : Option Ballot) → may_ask_party place answer ≡ true → refuses answer ≡ false → is_party Asking place answer ≡ true
asked_party (Out errand.Vote) None is never = refl
asked_party (Here party) (Some Yes) is never = is
asked_party (Here party) (Some ReadOnly) is never = is
asked_party (Here party) (Some No) is never = absurd (cc)
asked_party place answer is never = absurd (cc)

decided_party : (place : PartyPlace) (answer : Option Ballot) → may_ask_party place answer ≡ true → is_open_answer answer ≡ false → is_party Prepared place answer ≡ true
unfolding is_open_answer
decided_party (Out errand.Vote) None is none = absurd (cc)
decided_party (Here party) (Some Yes) is none = is
decided_party (Here party) (Some ReadOnly) is none = is
decided_party (Here party) (Some No) is none = absurd (cc)
decided_party place answer is none = absurd (cc)

aborted_party : (place : PartyPlace) (answer : Option Ballot) → may_ask_party place answer ≡ true → may_abort_party place answer ≡ true
aborted_party (Out errand.Vote) None is = refl
aborted_party (Here party) answer is = refl
aborted_party place answer is = absurd (cc)

-- a part of such a table
record AskPart (link : Link) (part : Participant) : Type 0 where
  asked : may_ask link part.answer ≡ true
  untold : not part.acknowledged ≡ true
  named : is_named link part ≡ true

ask_part : (link : Link) (part : Participant) → may_ask_part link part ≡ true → AskPart link part
ask_part link part is =
    let a = and_parts (may_ask link part.answer && not part.acknowledged) (is_named link part) is in
    let b = and_parts (may_ask link part.answer) (not part.acknowledged) a.0 in
    record { asked = b.0; untold = b.1; named = a.1 }

to_abort : (link : Link) (part : Participant) → may_ask_part link part ≡ true → may_abort_part link part ≡ true
to_abort link part is = let a = ask_part link part is in and_from _ _ (and_from _ _ (aborted_part link part.answer a.asked) a.untold) a.named

to_promise : (link : Link) (part : Participant) → may_ask_part link part ≡ true → is_open_answer part.answer ≡ false → may_promise_part link part ≡ true
to_promise link part is none = let a = ask_part link part is in and_from _ _ (and_from _ _ (decided_part link part.answer a.asked none).0 a.untold) a.named

to_commit : (link : Link) (part : Participant) → may_ask_part link part ≡ true → is_open_answer part.answer ≡ false → may_commit_part link part ≡ true
to_commit link part is none = let a = ask_part link part is in and_from _ _ (and_from _ _ (decided_part link part.answer a.asked none).1 (or_left _ _ a.untold)) a.named

to_leave : (link : Link) (part : Participant) → may_ask_part link part ≡ true → is_not_read_only part.answer ≡ false → is_gone_part link part ≡ true
to_leave link part is none = left_part link part.answer (ask_part link part is).asked none

-- one that doesn't refuse
abbrev unrefused : Link → Participant → Bool
unrefused link part = may_ask_part link part && not (refuses part.answer)

to_asked : (link : Link) (part : Participant) → unrefused link part ≡ true → is_part_in Asking (part_after asks link) part ≡ true
to_asked link part is =
    let both = and_parts (may_ask_part link part) (not (refuses part.answer)) is in
    let a = ask_part link part both.0 in
    let after = asked_part link part.answer part a.asked (not-true _ both.1) a.named in
    and_from _ _ (and_from _ _ after.0 (or_left _ _ a.untold)) after.1

-- the decision

waits : (said : List (Option Ballot)) → decision said ≡ decisions.Wait → list_any refuses said ≡ false
waits said is = step (list_any refuses said) (list_any is_none said) (list_any is_yes said) is where
  step : (a b c : Bool) → cond a decisions.Abort (cond b decisions.Wait (cond c decisions.Commit decisions.ReadOnly)) ≡ decisions.Wait → a ≡ false
  step true b c is = absurd (cc)
  step false b c is = refl

none_open : (said : List (Option Ballot)) → list_any refuses said ≡ false → list_any is_none said ≡ false → list_any is_open_answer said ≡ false
unfolding is_open_answer
none_open [] these those = refl
none_open (a ∷ said) these those =
    let this = or_parts (refuses a) (list_any refuses said) these in
    let that = or_parts (is_none a) (list_any is_none said) those in
    rw (this.0, that.0) (none_open said this.1 that.1)

none_else : (said : List (Option Ballot)) → list_any is_open_answer said ≡ false → list_any is_yes said ≡ false → list_any is_not_read_only said ≡ false
unfolding is_not_read_only
none_else [] these those = refl
none_else (a ∷ said) these those =
    let this = or_parts (is_open_answer a) (list_any is_open_answer said) these in
    let that = or_parts (is_yes a) (list_any is_yes said) those in
    rw (this.0, that.0) (none_else said this.1 that.1)

agrees : (said : List (Option Ballot)) → decision said ≡ decisions.Commit → list_any is_open_answer said ≡ false
agrees said is = none_open said (step (list_any refuses said) (list_any is_none said) (list_any is_yes said) is).0 (step (list_any refuses said) (list_any is_none said) (list_any is_yes said) is).1 where
  step : (a b c : Bool) → cond a decisions.Abort (cond b decisions.Wait (cond c decisions.Commit decisions.ReadOnly)) ≡ decisions.Commit → (a ≡ false) × (b ≡ false)
  step true b c is = absurd (cc)
  step false true c is = absurd (cc)
  step false false c is = (refl, refl)

leaves : (said : List (Option Ballot)) → decision said ≡ decisions.ReadOnly → list_any is_not_read_only said ≡ false
leaves said is = let all = step (list_any refuses said) (list_any is_none said) (list_any is_yes said) is in none_else said (none_open said all.0 all.1) all.2 where
  step : (a b c : Bool) → cond a decisions.Abort (cond b decisions.Wait (cond c decisions.Commit decisions.ReadOnly)) ≡ decisions.ReadOnly → (a ≡ false) × (b ≡ false) × (c ≡ false)
  step true b c is = absurd (cc)
  step false true c is = absurd (cc)
  step false false true is = absurd (cc)
  step false false false is = (refl, refl, refl)

abbrev pub AllWhole : Attempt → Type 0
AllWhole attempt = Ends (λ v. Whole v.state) attempt

abbrev answers_in : Transaction → List (Option Ballot)
answers_in t = map (λ (part : Participant). part.answer) t.parts

-- what asking knows
abbrev pub InAsking : Transaction → State → Type 0
InAsking t s = Owned (is_superior Asking t.origin) may_ask_part may_ask_party t.key t s

module _ (t : Transaction) (w : Work) (asking : t.phase ≡ Asking) (around : Around t.key w.state) (owned : InAsking t w.state) where
  ask_aborts : Whole (abort t.key w).state
  ask_aborts = aborted_whole t.key t w around (record {
    found = owned.found;
    above = (asked_above t.origin _ owned.above).1;
    parts = have_but (λ answer. false) may_ask_part may_abort_part may_ask_party may_abort_party t.place (λ l p is never. to_abort l p is) (λ a is never. aborted_party t.place a is) t.parts t.key w.state.connections (none_at_all t.parts) owned.parts;
    own = owned.own;
  }) where
    none_at_all : (parts : List Participant) → list_any (λ (answer : Option Ballot). false) (map (λ (part : Participant). part.answer) parts) ≡ false
    none_at_all [] = refl
    none_at_all (p ∷ parts) = none_at_all parts

  ask_waits : decision_of t ≡ decisions.Wait → Whole (wait Asking t.key w).state
  unfolding react
  ask_waits is =
      let start : Owned (is_superior Asking t.origin) unrefused (is_party Asking) t.key t w.state = record {
        found = owned.found;
        above = owned.above;
        parts = have_but refuses may_ask_part unrefused may_ask_party (is_party Asking) t.place (λ l p fits never. and_from _ _ fits (not_from_false _ never)) (λ a fits never. asked_party t.place a fits never) t.parts t.key w.state.connections (waits (answers_in t) is) owned.parts;
        own = owned.own;
      } in
      let known = react_owned w.state asks asks_so t.key around (is_superior Asking t.origin) (is_superior Asking t.origin) unrefused (is_part_in Asking) (is_party Asking) t (λ l fits. (asked_above t.origin l fits).0) to_asked start in
      let v = with_connections t.key w.state (map (become w.state asks asks_so t.key) w.state.connections) in
      whole_of t.key v t known.found (from_as Asking t.key t v asking known refl (rw is refl) refl) (react_around w.state asks asks_so t.key around)

  ask_leaves : decision_of t ≡ decisions.ReadOnly → Whole (leave t.key w).state
  ask_leaves is = leave_whole t.key t w (λ place answer. true) around (record {
    found = owned.found;
    above = (asked_above t.origin _ owned.above).2;
    parts = have_but is_not_read_only may_ask_part is_gone_part may_ask_party (λ place answer. true) t.place to_leave (λ a fits never. refl) t.parts t.key w.state.connections (leaves (answers_in t) is) owned.parts;
    own = owned.own;
  })

  agreed_parts : (table : Link → Participant → Bool) → ((l : Link) (p : Participant) → may_ask_part l p ≡ true → is_open_answer p.answer ≡ false → table l p ≡ true) → decision_of t ≡ decisions.Commit → have_parts table (is_party Prepared) t.place t.parts t.key w.state.connections ≡ true
  agreed_parts table goes is = have_but is_open_answer may_ask_part table may_ask_party (is_party Prepared) t.place goes (decided_party t.place) t.parts t.key w.state.connections (agrees (answers_in t) is) owned.parts

  abbrev above_link : Link
  above_link = link (find (is_superior_of t.key) w.state.connections)

  ask_commits : decision_of t ≡ decisions.Commit → (l : Link) → above_link ≡ l → may_commit_above t.origin l ≡ true → Whole (commit t.key w).state
  ask_commits is l at fits = commit_whole t.key t w is around (record { found = owned.found; above = ap (may_commit_above t.origin) at ∙ fits; parts = agreed_parts may_commit_part to_commit is; own = owned.own })

  ask_promises : decision_of t ≡ decisions.Commit → (l : Link) → above_link ≡ l → may_promise_above t.origin l ≡ true → Whole (promise t.key w).state
  ask_promises is l at fits = promise_whole t.key t w is around (record { found = owned.found; above = ap (may_promise_above t.origin) at ∙ fits; parts = agreed_parts may_promise_part to_promise is; own = owned.own })

  agreed_on : decision_of t ≡ decisions.Commit → (from : Origin) (at : ConnectionState) (owed : Option CommandName) → t.origin ≡ from → above_link ≡ Owes at owed → is_superior Asking from (Owes at owed) ≡ true → AllWhole (agree owed from t w)
  agreed_on is origin.Root state.Begun (Some command.Commit) from at fits = (ask_commits is _ at (ap (λ o. may_commit_above o (Owes state.Begun (Some command.Commit))) from), ask_aborts)
  agreed_on is (origin.Subordinate (Some address) superior) state.Enlisted (Some command.Prepare) from at fits = (ask_promises is _ at (ap (λ o. may_promise_above o (Owes state.Enlisted (Some command.Prepare))) from), ask_aborts)
  agreed_on is (origin.Subordinate address superior) state.Enlisted (Some command.Commit) from at fits = (ask_commits is _ at (ap (λ o. may_commit_above o (Owes state.Enlisted (Some command.Commit))) from), ask_aborts)
  agreed_on is from state owed same at fits = absurd (cc)

  agree_whole : decision_of t ≡ decisions.Commit → AllWhole (agree (option_and_then (λ (c : Connection). c.owed) (find (is_superior_of t.key) w.state.connections)) t.origin t w)
  agree_whole is = step (find (is_superior_of t.key) w.state.connections) refl owned.above where
    on_side : (c : Connection) (side : Side) → c.side ≡ side → above_link ≡ link_on side c → is_superior Asking t.origin (link_on side c) ≡ true → AllWhole (agree c.owed t.origin t w)
    on_side c Secondary at same fits = agreed_on is t.origin c.state c.owed refl same fits
    on_side c Primary at same fits = absurd (both_ways (is_owing (link_on Primary c)) refl (owing_above t.origin (link_on Primary c) fits))

    step : (found : Option Connection) → find (is_superior_of t.key) w.state.connections ≡ found → is_superior Asking t.origin (link found) ≡ true → AllWhole (agree (option_and_then (λ (c : Connection). c.owed) found) t.origin t w)
    step None found fits = absurd (both_ways (is_owing Gone) refl (owing_above t.origin Gone fits))
    step (Some c) found fits = on_side c c.side refl (ap link found) fits

  concluded : (d : Decision) → decision_of t ≡ d → AllWhole (conclude d t w)
  concluded decisions.Wait is = subst (λ phase. Whole (wait phase t.key w).state) (sym asking) (ask_waits is)
  concluded decisions.Commit is = agree_whole is
  concluded decisions.Abort is = ask_aborts
  concluded decisions.ReadOnly is = ask_leaves is

-- COMMITTED: the connections that can be told are told, and where all is done, it is over

module _ (t : Transaction) (w : Work) (committed : t.phase ≡ Committed) (agreed : decision_of t ≡ decisions.Commit) where
  pub finished : Around t.key w.state → Owned (is_superior Committed t.origin) (is_part_in Committed) (is_party Committed) t.key t w.state → AllWhole (finish t w)
  unfolding finish
  finished around owned = step (is_done t) refl where
    still : Whole w.state
    still = whole_of t.key w.state t owned.found (from_as Committed t.key t w.state committed owned refl (rw agreed refl) refl) around

    step : (b : Bool) → is_done t ≡ b → AllWhole (cond b (Attempt.Asks (Remove t.key) (end t.key w) w) (Attempt.Done w))
    step true done = (done_whole t.key t w (is_party Committed) done around owned, still)
    step false not = still

committed_follows : (t : Transaction) (w : Work) → t.phase ≡ Committed → decision_of t ≡ decisions.Commit → Around t.key w.state → Owned (is_superior Committed t.origin) may_commit_part (is_party Committed) t.key t w.state → AllWhole (finish t (react commits t.key w))
unfolding react
committed_follows t w committed agreed around owned = finished t (react commits t.key w) committed agreed (react_around w.state commits commits_so t.key around) (react_owned w.state commits commits_so t.key around (is_superior Committed t.origin) (is_superior Committed t.origin) may_commit_part (is_part_in Committed) (is_party Committed) t (nothing_owed t.origin) parts_committed owned) where
  nothing_owed : (from : Origin) (l : Link) → is_superior Committed from l ≡ true → is_superior Committed from (above_after commits l) ≡ true
  nothing_owed from Gone is = refl
  nothing_owed from l is = absurd (cc)

-- What each phase knows before it goes on
pub data Follows (t : Transaction) (s : State) : Type 0 where
  OfActive : t.phase ≡ Active → is_transaction s t ≡ true → Follows t s
  OfAsking : t.phase ≡ Asking → InAsking t s → Follows t s
  OfCommitted : t.phase ≡ Committed → decision_of t ≡ decisions.Commit → Owned (is_superior Committed t.origin) may_commit_part (is_party Committed) t.key t s → Follows t s
  OfAborted : t.phase ≡ Aborted → Owned (may_abort_above t.origin) may_abort_part may_abort_party t.key t s → Follows t s

-- an active transaction waits
active_waits : (t : Transaction) (w : Work) → t.phase ≡ Active → Whole w.state → is_transaction w.state t ≡ true → transaction_of t.key w.state ≡ Some t → AllWhole (conclude (decision_of t) t w)
active_waits t w active whole is found = step (decision_of t) (subst (λ phase. has_come_to phase (decision_of t) ≡ true) active (in_phase t.key t w.state found is).come) where
  step : (d : Decision) → has_come_to Active d ≡ true → AllWhole (conclude d t w)
  step decisions.Wait come = subst (λ phase. Whole (wait phase t.key w).state) (sym active) whole
  step d come = absurd (cc)

follows : (t : Transaction) (w : Work) → transaction_of t.key w.state ≡ Some t → Around t.key w.state → Follows t w.state → AllWhole (proceed_in t.phase t w)
follows t w found around (OfActive active is) = subst (λ phase. AllWhole (proceed_in phase t w)) (sym active) (active_waits t w active (whole_of t.key w.state t found is around) is found)
follows t w found around (OfAsking asking owned) = subst (λ phase. AllWhole (proceed_in phase t w)) (sym asking) (concluded t w asking around owned (decision_of t) refl)
follows t w found around (OfCommitted committed agreed owned) = subst (λ phase. AllWhole (proceed_in phase t w)) (sym committed) (committed_follows t w committed agreed around owned)
follows t w found around (OfAborted aborted owned) = subst (λ phase. AllWhole (proceed_in phase t w)) (sym aborted) (aborted_whole t.key t w around owned)

-- WHAT FOLLOWS leaves all whole
pub proceed_whole : (key : Key) (t : Transaction) (w : Work) → transaction_of key w.state ≡ Some t → Around key w.state → Follows t w.state → AllWhole (proceed key w)
unfolding proceed
proceed_whole key t w found around known =
    let same = key_found key t w.state found in
    subst (λ o. AllWhole (attempt_on o (λ t. proceed_in t.phase t) w)) (sym found) (follows t w (subst (λ k. transaction_of k w.state ≡ Some t) same found) (subst (λ k. Around k w.state) same around) known)

-- What the local party is where the answers decide

-- the party of a transaction that is asked, or was not asked yet
abbrev pub waits_at : Phase → PartyPlace → Option Ballot → Bool
waits_at Active place answer = is_party Active place answer
waits_at Asking place answer = may_ask_party place answer
waits_at phase place answer = true

abbrev pub local_waits : Phase → PartyPlace → List Participant → Bool
local_waits phase place [] = false
local_waits phase place (local ∷ parts) = waits_at phase place local.answer

active_open : (place : PartyPlace) (answer : Option Ballot) → is_party Active place answer ≡ true → is_open_answer answer ≡ true
unfolding is_open_answer
active_open (Here party) None is = refl
active_open place answer is = absurd (cc)

-- all agree: none of its branches is active
pub agreed_party : (phase : Phase) (place : PartyPlace) (parts : List Participant) → (phase ≡ Active) ⊎ (phase ≡ Asking) → local_waits phase place parts ≡ true → decision (map (λ (part : Participant). part.answer) parts) ≡ decisions.Commit → (party : PartyNotes) → place ≡ Here party → list_any is_active party.members ≡ false
agreed_party phase place [] which waits agreed party at = absurd (cc)
agreed_party phase place (local ∷ parts) which waits agreed party at = step phase which waits where
  closed_now : is_open_answer local.answer ≡ false
  closed_now = (or_parts (is_open_answer local.answer) _ (agrees (local.answer ∷ map (λ (part : Participant). part.answer) parts) agreed)).0

  none_active : (answer : Option Ballot) → is_party Prepared (Here party) answer ≡ true → list_any is_active party.members ≡ false
  none_active (Some Yes) is = not-true _ (and_parts (not (list_any is_active party.members)) (has_ready party) is).0
  none_active (Some ReadOnly) is = not-true _ (and_parts (not (list_any is_active party.members)) (not (has_ready party)) is).0
  none_active None is = absurd (cc)
  none_active (Some No) is = absurd (cc)
  none_active (Some Lost) is = absurd (cc)

  step : (phase : Phase) → (phase ≡ Active) ⊎ (phase ≡ Asking) → waits_at phase place local.answer ≡ true → list_any is_active party.members ≡ false
  step Active which waits = absurd (both_ways (is_open_answer local.answer) closed_now (active_open place local.answer waits))
  step Asking which waits = none_active local.answer (subst (λ p. is_party Prepared p local.answer ≡ true) at (decided_party place local.answer waits closed_now))
  step Prepared (inl is) waits = absurd (cc)
  step Prepared (inr is) waits = absurd (cc)
  step Committed (inl is) waits = absurd (cc)
  step Committed (inr is) waits = absurd (cc)
  step Aborted (inl is) waits = absurd (cc)
  step Aborted (inr is) waits = absurd (cc)

-- nor is it out
pub agreed_within : (phase : Phase) (place : PartyPlace) (parts : List Participant) → (phase ≡ Active) ⊎ (phase ≡ Asking) → local_waits phase place parts ≡ true → decision (map (λ (part : Participant). part.answer) parts) ≡ decisions.Commit → (e : Errand) → place ≡ Out e → ⊥
agreed_within phase place [] which waits agreed e at = cc
agreed_within phase place (local ∷ parts) which waits agreed e at = step phase which waits where
  closed_now : is_open_answer local.answer ≡ false
  closed_now = (or_parts (is_open_answer local.answer) _ (agrees (local.answer ∷ map (λ (part : Participant). part.answer) parts) agreed)).0

  never : (answer : Option Ballot) → is_party Prepared (Out e) answer ≡ true → ⊥
  never answer is = cc

  step : (phase : Phase) → (phase ≡ Active) ⊎ (phase ≡ Asking) → waits_at phase place local.answer ≡ true → ⊥
  step Active which waits = both_ways (is_open_answer local.answer) closed_now (active_open place local.answer waits)
  step Asking which waits = never local.answer (subst (λ p. is_party Prepared p local.answer ≡ true) at (decided_party place local.answer waits closed_now))
  step Prepared (inl is) waits = cc
  step Prepared (inr is) waits = cc
  step Committed (inl is) waits = cc
  step Committed (inr is) waits = cc
  step Aborted (inl is) waits = cc
  step Aborted (inr is) waits = cc

-- all are read-only: it is not out, and none of its branches waits for the outcome
pub record HasLeft (place : PartyPlace) : Type 0 where
  pub within : (e : Errand) → place ≡ Out e → ⊥
  pub left : (party : PartyNotes) → place ≡ Here party → has_ready party ≡ false
  pub settled : (party : PartyNotes) → place ≡ Here party → list_any is_active party.members ≡ false

read_only_at : (place : PartyPlace) (answer : Option Ballot) → may_ask_party place answer ≡ true → is_not_read_only answer ≡ false → HasLeft place
unfolding is_open_answer is_not_read_only
read_only_at (Out errand.Vote) None may closed = absurd (cc)
read_only_at (Here party) (Some Yes) may closed = absurd (cc)
read_only_at (Here party) (Some No) may closed = absurd (cc)
read_only_at (Here party) (Some ReadOnly) may closed = record { within = λ e is. never e is; left = λ q is. subst (λ p. has_ready p ≡ false) (same_here q is) (not-true _ (and_parts (not (list_any is_active party.members)) (not (has_ready party)) may).1); settled = λ q is. subst (λ p. list_any is_active p.members ≡ false) (same_here q is) (not-true _ (and_parts (not (list_any is_active party.members)) (not (has_ready party)) may).0) } where
  never : (e : Errand) → Here party ≡ Out e → ⊥
  never e is = cc

  same_here : (q : PartyNotes) → Here party ≡ Here q → party ≡ q
  same_here q is = cc
read_only_at place answer may closed = absurd (cc)

open_not : (answer : Option Ballot) → is_not_read_only answer ≡ false → is_open_answer answer ≡ false
unfolding is_not_read_only
open_not answer not = (or_parts (is_open_answer answer) (is_yes answer) not).0

pub left_party : (phase : Phase) (place : PartyPlace) (parts : List Participant) → (phase ≡ Active) ⊎ (phase ≡ Asking) → local_waits phase place parts ≡ true → decision (map (λ (part : Participant). part.answer) parts) ≡ decisions.ReadOnly → HasLeft place
left_party phase place [] which waits left = absurd (cc)
left_party phase place (local ∷ parts) which waits left = step phase which waits where
  closed_now : is_not_read_only local.answer ≡ false
  closed_now = (or_parts (is_not_read_only local.answer) _ (leaves (local.answer ∷ map (λ (part : Participant). part.answer) parts) left)).0

  step : (phase : Phase) → (phase ≡ Active) ⊎ (phase ≡ Asking) → waits_at phase place local.answer ≡ true → HasLeft place
  step Active which waits = absurd (both_ways (is_open_answer local.answer) (open_not local.answer closed_now) (active_open place local.answer waits))
  step Asking which waits = read_only_at place local.answer waits closed_now
  step Prepared (inl is) waits = absurd (cc)
  step Prepared (inr is) waits = absurd (cc)
  step Committed (inl is) waits = absurd (cc)
  step Committed (inr is) waits = absurd (cc)
  step Aborted (inl is) waits = absurd (cc)
  step Aborted (inr is) waits = absurd (cc)
