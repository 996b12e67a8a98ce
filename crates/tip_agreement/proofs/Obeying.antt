-- A superior's command leaves a realm whole.
use Rattle.std.proofs.Common.{◌≡◌, Bool, true, false, ℕ, List, [], ◌∷◌, Option, Some, None, cond, refl, ap, subst, sym, ◌∙◌, inl}
use Rattle.std.specs.Prelude.{find, is_some, length}
use Rattle.std.proofs.lemmas.Bool.{and_from, and_parts, both_ways, or_left}
use Rattle.tip_rows.specs.Keys.{Key}
use Rattle.tip_branch.specs.Notes.{PartyNotes}
use Rattle.tip_branch.specs.declared.member.Errand.TheVariants as errand
use Rattle.tip_conn.specs.declared.state.Side.TheVariants.{Secondary}
use Rattle.tip_conn.specs.declared.state.State.{State as ConnectionState}
use Rattle.tip_conn.specs.declared.state.State.TheVariants as state
use Rattle.tip_line.specs.declared.command.CommandName.{CommandName}
use Rattle.tip_line.specs.declared.command.CommandName.TheVariants as command
use Rattle.tip_txn.specs.declared.answer.Ballot.{Ballot}
use Rattle.tip_txn.specs.declared.answer.Ballot.TheVariants.{ReadOnly}
use Rattle.tip_txn.specs.declared.answer.Phase.TheVariants.{Active, Asking, Aborted}
use Rattle.tip_txn.specs.declared.part.Participant.{Participant}
use Rattle.tip_machine.specs.Changes.{change}
use Rattle.tip_machine.specs.Connections.{asks_for, has_number, is_part_of, is_superior_of, owing, reaches}
use Rattle.tip_machine.specs.Invariants.Links.{Link, acts_as, link, link_on}
use Rattle.tip_machine.specs.Invariants.Links.Link.{Gone, Owes, Awaits}
use Rattle.tip_machine.specs.Invariants.Phases.{is_part, is_part_in, is_party, is_superior}
use Rattle.tip_machine.specs.Proceeding.{abort, ask, asked_for_votes, enter, give_out, proceed}
use Rattle.tip_machine.specs.States.{Work, connection_of, transaction_of}
use Rattle.tip_machine.specs.Transactions.{entering, standing_at}
use Rattle.tip_machine.specs.Types.{Connection, PartyPlace, Transaction}
use Rattle.tip_machine.specs.declared.connection.Awaited.TheVariants as awaited
use Rattle.tip_machine.specs.declared.connection.Role.TheVariants.{Superior}
use Rattle.tip_machine.specs.declared.transaction.Origin.{Origin}
use Rattle.tip_machine.specs.declared.transaction.Origin.TheVariants as origin
use Rattle.tip_machine.specs.declared.transaction.PartyPlace.TheVariants.{Here, Out, Spent}
use Rattle.tip_agreement.proofs.Aborting.{aborted_whole, own_as, party_now, may_abort_above, may_abort_part, may_abort_party}
use Rattle.tip_agreement.proofs.Around.{Around, Whole, alter_around, altered, around_of, beside, set, stands, le_self}
use Rattle.tip_agreement.proofs.Closing.{above_there, have_same, in_table, untold_in, is_stoppable, known, stoppable_parts, stoppable_party, stands_there}
use Rattle.tip_agreement.proofs.Found.{find_apart, find_at}
use Rattle.tip_agreement.proofs.Keys.{key_self}
use Rattle.tip_agreement.proofs.Owned.{InPhase, Owned, alter_owned, have_parts, parts_from, once_superior, own_still}
use Rattle.tip_agreement.proofs.Proceeding.{AllWhole, may_ask, may_ask_part, may_ask_party, proceed_whole}
use Rattle.tip_agreement.proofs.Proceeding.Follows.{OfAsking}
use Rattle.tip_agreement.proofs.Reacting.{Standing}

-- The command is owed a response

module _ (key : Key) (t : Transaction) (c : Connection) (w : Work) (whole : Whole w.state) (there : connection_of c.number w.state ≡ Some c) (found : transaction_of key w.state ≡ Some t) (on : c.role ≡ Some (Superior key)) (side : c.side ≡ Secondary) (name : CommandName) where
  abbrev pub owed : Work
  owed = change c.number (owing name) w

  pub was : InPhase key t w.state
  was = known key t c w whole there found

  stood : Standing w.state c
  stood = stands_there c w whole there

  still_stands : stands w.state (owing name c) ≡ true
  still_stands = and_from _ _ (and_from _ _ (and_from _ _ (and_from _ _ (subst (λ s. acts_as s (owing name c) ≡ true) (sym side) (subst (λ s. acts_as s c ≡ true) side stood.acts)) stood.side) (or_left _ _ (ap is_some on))) stood.asks) stood.placed

  pub around_owed : Around key owed.state
  around_owed = set key w.state c.number (owing name) c there (ap (beside key) on ∙ key_self key) (inl refl) still_stands (around_of key w.state whole)

  above_on : is_superior_of key c ≡ true
  above_on = ap (asks_for key) on ∙ key_self key

  above_owed : find (is_superior_of key) owed.state.connections ≡ Some (owing name c)
  above_owed = find_at (is_superior_of key) (has_number c.number) (owing name) w.state.connections c (once_superior key w.state.connections whole.apart) there above_on ∙ subst (λ b. cond b (Some (owing name c)) None ≡ Some (owing name c)) (sym above_on) refl

  pub link_owed : link (find (is_superior_of key) owed.state.connections) ≡ Owes c.state (Some name)
  link_owed = ap link above_owed ∙ ap (λ s. link_on s (owing name c)) side

  parts_owed : (place : ℕ) → find (is_part_of key place) owed.state.connections ≡ find (is_part_of key place) w.state.connections
  parts_owed place = find_apart (is_part_of key place) (has_number c.number) (owing name) w.state.connections c there (ap (reaches key place) on) (ap (reaches key place) on)

  -- what the tables were
  pub link_was : is_superior t.phase t.origin (Owes c.state c.owed) ≡ true
  link_was = subst (λ l. is_superior t.phase t.origin l ≡ true) (ap link (above_there key t c w whole there found on) ∙ ap (λ s. link_on s c) side) was.owned.above

  pub owned_owed : (above : Link → Bool) (table : Link → Participant → Bool) (party : PartyPlace → Option Ballot → Bool) → above (Owes c.state (Some name)) ≡ true → ((l : Link) (p : Participant) → is_part_in t.phase l p ≡ true → table l p ≡ true) → ((answer : Option Ballot) → is_party t.phase t.place answer ≡ true → party t.place answer ≡ true) → Owned above table party key t owed.state
  owned_owed above table party up down local = record {
    found = found;
    above = ap above link_owed ∙ up;
    parts = have_same key w.state.connections owed.state.connections 0 (is_part_in t.phase) table (λ place differs. parts_owed place) down (is_party t.phase) party t.place t.parts refl local was.owned.parts;
    own = own_still w.state owed.state t t.place refl refl ∙ was.owned.own;
  }

  -- ABORT before the promise, or once it is aborted
  pub abort_owed : is_stoppable t.phase ≡ true → may_abort_above t.origin (Owes c.state (Some name)) ≡ true → Whole (abort key owed).state
  abort_owed can fits = aborted_whole key t owed around_owed (owned_owed (may_abort_above t.origin) may_abort_part may_abort_party fits (stoppable_parts t.phase can) (stoppable_party t.phase can t.place))

-- PREPARE and COMMIT before the promise: all are asked

active_ask : (link : Link) (answer : Option Ballot) → is_part Active link answer ≡ true → may_ask link answer ≡ true
active_ask (Awaits state.Idle (Some awaited.Push)) None is = refl
active_ask (Awaits state.Enlisted None) None is = refl
active_ask Gone (Some ReadOnly) is = refl
active_ask link answer is = absurd (cc)

pub active_ask_part : (link : Link) (part : Participant) → is_part_in Active link part ≡ true → may_ask_part link part ≡ true
active_ask_part link part is = let a = in_table Active link part is in and_from _ _ (and_from _ _ (active_ask link part.answer a.fits) (untold_in Active refl part link a.told)) a.named

out_to_vote : (party : PartyNotes) (answer : Option Ballot) → is_party Active (Here party) answer ≡ true → may_ask_party (Out errand.Vote) answer ≡ true
out_to_vote party None is = refl
out_to_vote party (Some answer) is = absurd (cc)

never_active : (table : Link → Participant → Bool) (place : PartyPlace) (parts : List Participant) (key : Key) (cs : List Connection) → ((answer : Option Ballot) → is_party Active place answer ≡ false) → have_parts table (is_party Active) place parts key cs ≡ true → ⊥
never_active table place [] key cs fails all = cc
never_active table place (local ∷ parts) key cs fails all = both_ways _ (fails local.answer) (and_parts (is_party Active place local.answer) (parts_from table 1 parts key cs) all).0

module _ (t : Transaction) (v : Work) (above : Link → Bool) (around : Around t.key v.state) (fits : (l : Link) → above l ≡ true → is_superior Asking t.origin l ≡ true) (owned : Owned above may_ask_part (is_party Active) t.key t v.state) where
  around_asking : Around t.key (altered t.key v.state (entering Asking))
  around_asking = alter_around t.key v.state (entering Asking) (λ t. refl) (λ t. le_self (length t.parts)) around

  owned_asking : Owned (is_superior Asking t.origin) may_ask_part (is_party Active) t.key (entering Asking t) (altered t.key v.state (entering Asking))
  owned_asking = alter_owned above (is_superior Asking t.origin) may_ask_part may_ask_part (is_party Active) (is_party Active) t.key (entering Asking) t v.state (λ t. refl) fits owned.parts (own_as v.state t (entering Asking t) t.place refl ∙ owned.own) owned

  voting : (party : PartyNotes) → t.place ≡ Here party → AllWhole (proceed t.key (give_out errand.Vote party t.key (enter Asking t.key v)))
  voting party at =
      let s = altered t.key v.state (entering Asking) in
      let u = standing_at (Out errand.Vote) (entering Asking t) in
      let known = alter_owned (is_superior Asking t.origin) (is_superior Asking t.origin) may_ask_part may_ask_part (is_party Active) may_ask_party t.key (standing_at (Out errand.Vote)) (entering Asking t) s (λ t. refl) (λ l is. is) (party_now may_ask_part (is_party Active) may_ask_party t.place (Out errand.Vote) t.parts t.key v.state.connections (λ answer is. out_to_vote party answer (subst (λ p. is_party Active p answer ≡ true) at is)) owned.parts) refl owned_asking in
      proceed_whole t.key u (give_out errand.Vote party t.key (enter Asking t.key v)) known.found (alter_around t.key s (standing_at (Out errand.Vote)) (λ t. refl) (λ t. le_self (length t.parts)) around_asking) (OfAsking refl known)

  asks_at : (place : PartyPlace) → t.place ≡ place → AllWhole (proceed t.key (asked_for_votes place t.key (enter Asking t.key v)))
  asks_at (Here party) at = voting party at
  asks_at (Out errand) at = absurd (never_active may_ask_part (Out errand) t.parts t.key v.state.connections (λ answer. refl) (subst (λ p. have_parts may_ask_part (is_party Active) p t.parts t.key v.state.connections ≡ true) at owned.parts))
  asks_at Spent at = absurd (never_active may_ask_part Spent t.parts t.key v.state.connections (λ answer. refl) (subst (λ p. have_parts may_ask_part (is_party Active) p t.parts t.key v.state.connections ≡ true) at owned.parts))

  pub ask_whole : AllWhole (ask t v)
  unfolding ask
  ask_whole = asks_at t.place refl

-- Where the superior stands when it asks

-- nothing is owed to a superior that may ask, but where all are asked already
abbrev pub asks_from : ConnectionState → Origin → Bool
asks_from state.Begun origin.Root = true
asks_from state.Enlisted (origin.Subordinate address superior) = true
asks_from at from = false

abbrev pub is_enlisted_state : ConnectionState → Bool
is_enlisted_state state.Enlisted = true
is_enlisted_state at = false

pub active_from : (from : Origin) (at : ConnectionState) (owed : Option CommandName) → is_superior Active from (Owes at owed) ≡ true → asks_from at from ≡ true
active_from origin.Root state.Begun None is = refl
active_from (origin.Subordinate address superior) state.Enlisted None is = refl
active_from from at owed is = absurd (cc)

pub aborted_from : (from : Origin) (at : ConnectionState) (owed : Option CommandName) → is_superior Aborted from (Owes at owed) ≡ true → asks_from at from ≡ true
aborted_from origin.Root state.Begun None is = refl
aborted_from (origin.Subordinate address superior) state.Enlisted None is = refl
aborted_from from at owed is = absurd (cc)

pub abort_from : (at : ConnectionState) (from : Origin) → asks_from at from ≡ true → (may_abort_above from (Owes at (Some command.Abort)) ≡ true) × (may_abort_above from (Owes at (Some command.Commit)) ≡ true) × (is_superior Asking from (Owes at (Some command.Commit)) ≡ true)
abort_from state.Begun origin.Root is = (refl, refl, refl)
abort_from state.Enlisted (origin.Subordinate None superior) is = (refl, refl, refl)
abort_from state.Enlisted (origin.Subordinate (Some address) superior) is = (refl, refl, refl)
abort_from at from is = absurd (cc)

pub prepare_from : (at : ConnectionState) (from : Origin) → asks_from at from ≡ true → is_enlisted_state at ≡ true → may_abort_above from (Owes at (Some command.Prepare)) ≡ true
prepare_from state.Enlisted (origin.Subordinate address superior) is here = refl
prepare_from state.Begun from is here = absurd (cc)
prepare_from at from is here = absurd (cc)
