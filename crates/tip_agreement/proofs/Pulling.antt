-- The answers to our PULL leave a realm whole.
use Rattle.std.proofs.Common.{◌≡◌, Bool, true, false, ℕ, suc, zero, List, [], ◌∷◌, Option, Some, None, cond, refl, ap, subst, sym, ◌∙◌, inl, inr}
use Rattle.std.specs.Prelude.{◌&&◌, ◌||◌, not, find, is_some, length, nat_le, nat_lt}
use Rattle.std.specs.List.{list_any}
use Rattle.std.specs.Option.{option_map_or}
use Rattle.std.proofs.lemmas.Bool.{and_from, and_parts, both_ways, or_left}
use Rattle.std.proofs.lemmas.Option.{same_Some}
use Rattle.tip_rows.specs.Keys.{Key}
use Rattle.tip_table.specs.Lists.{changed}
use Rattle.tip_conn.specs.Table.{next_of}
use Rattle.tip_conn.specs.declared.state.Side.{Side}
use Rattle.tip_conn.specs.declared.state.Side.TheVariants.{Primary, Secondary}
use Rattle.tip_conn.specs.declared.state.State.{State as ConnectionState}
use Rattle.tip_conn.specs.declared.state.State.TheVariants as state
use Rattle.tip_conn.specs.declared.state.Turn.TheVariants.{Original, Reverse}
use Rattle.tip_line.specs.declared.command.CommandName.TheVariants as command
use Rattle.tip_line.specs.declared.response.ResponseName.TheVariants as response
use Rattle.tip_txn.specs.declared.answer.Ballot.{Ballot}
use Rattle.tip_txn.specs.declared.answer.Phase.{Phase}
use Rattle.tip_txn.specs.declared.answer.Phase.TheVariants.{Active, Asking, Prepared, Committed, Aborted}
use Rattle.tip_txn.specs.declared.part.Participant.{Participant}
use Rattle.tip_machine.specs.Changes.{change}
use Rattle.tip_machine.specs.Connections.{advanced, advanced_to, asks_for, has_number, is_on, is_part_of, is_superior_of, names, opposite, reaches}
use Rattle.tip_machine.specs.Invariants.Links.{Link, is_on_none, link, link_on}
use Rattle.tip_machine.specs.Invariants.Links.Link.{Owes, Awaits}
use Rattle.tip_machine.specs.Invariants.Phases.{has_its_address, is_over, is_part, is_part_in, is_party, is_superior}
use Rattle.tip_machine.specs.Proceeding.{abort}
use Rattle.tip_machine.specs.Responses.{abort_as, go_on}
use Rattle.tip_machine.specs.States.{State, Work, connection_of, transaction_of}
use Rattle.tip_machine.specs.Transactions.{is_spent}
use Rattle.tip_machine.specs.Types.{Connection, PartyPlace, Transaction}
use Rattle.tip_machine.specs.declared.connection.Awaited.TheVariants as awaited
use Rattle.tip_machine.specs.declared.connection.Role.{Role}
use Rattle.tip_machine.specs.declared.connection.Role.TheVariants.{Superior, Subordinate}
use Rattle.tip_machine.specs.declared.transaction.Origin.{Origin}
use Rattle.tip_machine.specs.declared.transaction.Origin.TheVariants as origin
use Rattle.tip_agreement.proofs.Aborting.{aborted_whole, may_abort_above, may_abort_part, may_abort_party}
use Rattle.tip_agreement.proofs.Around.{Around, Whole, around_of, asks_as, beside, is_placed, set, stands, whole_of}
use Rattle.tip_agreement.proofs.Closing.{above_there, gone_may_abort, have_same, in_table, is_stoppable, known, part_of, part_there, stoppable_parts, stoppable_party, stands_there}
use Rattle.tip_agreement.proofs.Found.{find_apart, find_at}
use Rattle.tip_agreement.proofs.Keys.{key_self}
use Rattle.tip_agreement.proofs.Owned.{InPhase, Owned, from_phase, key_found, once_superior, own_still}
use Rattle.tip_agreement.proofs.Reacting.{Standing, idle}
use Rattle.tip_agreement.proofs.Responding.{Becomes}
use Rattle.tip_agreement.proofs.Sound.{part_held}

-- one that passes still is counted still
any_kept : (p test : Connection → Bool) (f : Connection → Connection) (cs : List Connection) (c : Connection) → find test cs ≡ Some c → p (f c) ≡ p c → list_any p (changed test f cs) ≡ list_any p cs
any_kept p test f [] c is same = refl
any_kept p test f (d ∷ cs) c is same = step (test d) is (λ later. any_kept p test f cs c later same) where
  step : (b : Bool) → cond b (Some d) (find test cs) ≡ Some c → (find test cs ≡ Some c → list_any p (changed test f cs) ≡ list_any p cs) → list_any p (cond b (f d ∷ cs) (d ∷ changed test f cs)) ≡ p d || list_any p cs
  step true is later = ap (λ b. b || list_any p cs) (subst (λ x. p (f x) ≡ p x) (sym (same_Some d c is)) same)
  step false is later = ap (λ b. p d || b) (later is)

pub link_before : (t : Transaction) (c : Connection) (w : Work) (whole : Whole w.state) (there : connection_of c.number w.state ≡ Some c) (found : transaction_of t.key w.state ≡ Some t) → c.role ≡ Some (Superior t.key) → is_superior t.phase t.origin (link_on c.side c) ≡ true
link_before t c w whole there found on = subst (λ o. is_superior t.phase t.origin (link o) ≡ true) (above_there t.key t c w whole there found on) (known t.key t c w whole there found).owned.above

module _ (t : Transaction) (c : Connection) (w : Work) (whole : Whole w.state) (there : connection_of c.number w.state ≡ Some c) (found : transaction_of t.key w.state ≡ Some t) (on : c.role ≡ Some (Superior t.key)) (f : Connection → Connection) (becomes : Becomes w.state c (f c)) where
  abbrev moved : Work
  moved = change c.number f w

  was : InPhase t.key t w.state
  was = known t.key t c w whole there found

  above_on : is_superior_of t.key c ≡ true
  above_on = ap (asks_for t.key) on ∙ key_self t.key

  around_moved : Around t.key moved.state
  around_moved = set t.key w.state c.number f c there (ap (beside t.key) on ∙ key_self t.key) becomes.role becomes.stand (around_of t.key w.state whole)

  above_moved : find (is_superior_of t.key) moved.state.connections ≡ cond (is_superior_of t.key (f c)) (Some (f c)) None
  above_moved = find_at (is_superior_of t.key) (has_number c.number) f w.state.connections c (once_superior t.key w.state.connections whole.apart) there above_on

  parts_moved : (place : ℕ) → find (is_part_of t.key place) moved.state.connections ≡ find (is_part_of t.key place) w.state.connections
  parts_moved place = find_apart (is_part_of t.key place) (has_number c.number) f w.state.connections c there (ap (reaches t.key place) on) (elim becomes.role [ inl same ↦ ap (reaches t.key place) (same ∙ on) | inr none ↦ ap (reaches t.key place) none ])

  owned_moved : (above : Link → Bool) (table : Link → Participant → Bool) (party : PartyPlace → Option Ballot → Bool) → above (link (cond (is_superior_of t.key (f c)) (Some (f c)) None)) ≡ true → ((l : Link) (p : Participant) → is_part_in t.phase l p ≡ true → table l p ≡ true) → ((answer : Option Ballot) → is_party t.phase t.place answer ≡ true → party t.place answer ≡ true) → Owned above table party t.key t moved.state
  owned_moved above table party up down local = record {
    found = found;
    above = ap (λ o. above (link o)) above_moved ∙ up;
    parts = have_same t.key w.state.connections moved.state.connections 0 (is_part_in t.phase) table (λ place differs. parts_moved place) down (is_party t.phase) party t.place t.parts refl local was.owned.parts;
    own = own_still w.state moved.state t t.place refl refl ∙ was.owned.own;
  }

  -- NOTPULLED: the connection is left, and we abort
  pub not_pulled : (f c).role ≡ None → is_stoppable t.phase ≡ true → Whole (abort t.key moved).state
  not_pulled none can = aborted_whole t.key t moved around_moved (owned_moved (may_abort_above t.origin) may_abort_part may_abort_party (subst (λ b. may_abort_above t.origin (link (cond b (Some (f c)) None)) ≡ true) (sym (ap (asks_for t.key) none)) (gone_may_abort t.origin)) (stoppable_parts t.phase can) (stoppable_party t.phase can t.place))

  still_over : (phase : Phase) → (f c).role ≡ c.role → not (is_over phase w.state t) ≡ true → not (is_over phase moved.state t) ≡ true
  still_over Active role over = refl
  still_over Asking role over = refl
  still_over Prepared role over = refl
  still_over Committed role over = refl
  still_over Aborted role over = ap (λ b. not (is_spent t.place && not b)) (any_kept (is_on t.key) (has_number c.number) f w.state.connections c there (ap (names t.key) role)) ∙ over

  same_address : (phase : Phase) (from : Origin) (d e : Connection) → d.peer ≡ e.peer → has_its_address phase from (Some e) ≡ true → has_its_address phase from (Some d) ≡ true
  same_address Active origin.Root d e same is = refl
  same_address Active (origin.Subordinate address superior) d e same is = rw same is
  same_address Asking from d e same is = refl
  same_address Prepared from d e same is = refl
  same_address Committed from d e same is = refl
  same_address Aborted from d e same is = refl

  -- PULLED: the sides have turned, and our superior is there
  pub pulled : (f c).role ≡ c.role → (f c).peer ≡ c.peer → is_superior t.phase t.origin (link_on (f c).side (f c)) ≡ true → Whole moved.state
  pulled role peer above = whole_of t.key moved.state t found (from_phase t.key t moved.state (record {
    owned = owned_moved (is_superior t.phase t.origin) (is_part_in t.phase) (is_party t.phase) (ap (λ o. is_superior t.phase t.origin (link o)) now ∙ above) (λ l p fits. fits) (λ answer fits. fits);
    address = ap (λ o. has_its_address t.phase t.origin o) (above_moved ∙ now) ∙ same_address t.phase t.origin (f c) c peer (subst (λ o. has_its_address t.phase t.origin o ≡ true) (above_there t.key t c w whole there found on) was.address);
    come = was.come;
    over = still_over t.phase role was.over;
  })) around_moved where
    now : cond (is_superior_of t.key (f c)) (Some (f c)) None ≡ Some (f c)
    now = subst (λ b. cond b (Some (f c)) None ≡ Some (f c)) (sym (ap (asks_for t.key) role ∙ above_on)) refl

-- Only a superior's connection awaits the answer to PULL

pub pull_rows : (phase : Phase) (from : Origin) (at : ConnectionState) → is_superior phase from (Awaits at (Some awaited.Pull)) ≡ true → (at ≡ state.Idle) × (is_stoppable phase ≡ true) × (is_superior phase from (Owes state.Enlisted None) ≡ true)
pull_rows Active (origin.Subordinate address superior) state.Idle is = (refl, refl, refl)
pull_rows Aborted (origin.Subordinate address superior) state.Idle is = (refl, refl, refl)
pull_rows Asking (origin.Subordinate None superior) at is = absurd (cc)
pull_rows Prepared (origin.Subordinate None superior) at is = absurd (cc)
pull_rows phase from at is = absurd (cc)

never_part : (phase : Phase) (at : ConnectionState) (answer : Option Ballot) → is_part phase (Awaits at (Some awaited.Pull)) answer ≡ true → ⊥
never_part Active state.Idle answer is = cc
never_part Asking state.Idle answer is = cc
never_part Prepared state.Idle answer is = cc
never_part Committed state.Idle answer is = cc
never_part Aborted state.Idle answer is = cc
never_part phase at answer is = cc

never_none : (at : ConnectionState) → is_on_none (Awaits at (Some awaited.Pull)) ≡ true → ⊥
never_none state.Idle is = cc
never_none at is = cc

pub pulled_next : next_of command.Pull state.Idle response.Pulled ≡ Some (state.Enlisted, Reverse)
unfolding next_of
pulled_next = refl

pub not_pulled_next : next_of command.Pull state.Idle response.NotPulled ≡ Some (state.Idle, Original)
unfolding next_of
not_pulled_next = refl

-- the transaction that was pulled
pub record Pulls (c : Connection) (s : State) : Type 0 where
  pub transaction : Transaction
  pub found : transaction_of transaction.key s ≡ Some transaction
  pub on : c.role ≡ Some (Superior transaction.key)

module _ (c : Connection) (w : Work) (whole : Whole w.state) (there : connection_of c.number w.state ≡ Some c) (side : c.side ≡ Primary) (waits : c.awaited ≡ Some awaited.Pull) where
  known_there : Standing w.state c
  known_there = stands_there c w whole there

  link_now : (s : Side) → c.side ≡ s → s ≡ Primary → link_on s c ≡ Awaits c.state (Some awaited.Pull)
  link_now Primary at is = ap (Awaits c.state) waits
  link_now Secondary at is = absurd (cc)

  pub awaits_now : link_on c.side c ≡ Awaits c.state (Some awaited.Pull)
  awaits_now = link_now c.side refl side

  never_part_there : (key : Key) (place : ℕ) (found : Option Transaction) → transaction_of key w.state ≡ found → nat_le 1 place && option_map_or (λ (t : Transaction). nat_lt place (length t.parts)) found false ≡ true → c.role ≡ Some (Subordinate key place) → ⊥
  never_part_there key place None is range role = both_ways false refl (and_parts (nat_le 1 place) false range).1
  never_part_there key zero (Some t) is range role = cc
  never_part_there key (suc m) (Some t) is range role =
      let same = key_found key t w.state is in
      let found = subst (λ k. transaction_of k w.state ≡ Some t) same is in
      let on = subst (λ k. c.role ≡ Some (Subordinate k (suc m))) same role in
      let parts = and_parts (nat_le 1 (suc m)) (nat_lt (suc m) (length t.parts)) range in
      let held = part_held (is_part_in t.phase) (is_party t.phase) t.place (suc m) t.parts t.key w.state.connections parts.0 parts.1 (part_of m t c w whole there found on).owned.parts in
      let holds : is_part_in t.phase (Awaits c.state (Some awaited.Pull)) held.part ≡ true = subst (λ l. is_part_in t.phase l held.part ≡ true) (ap link (part_there m t c w whole there found on) ∙ awaits_now) held.holds in
      never_part t.phase c.state held.part.answer (in_table t.phase (Awaits c.state (Some awaited.Pull)) held.part holds).fits

  its_own : (key : Key) (found : Option Transaction) → transaction_of key w.state ≡ found → is_some found ≡ true → c.role ≡ Some (Superior key) → Pulls c w.state
  its_own key None is some role = absurd (cc)
  its_own key (Some t) is some role = let same = key_found key t w.state is in record { transaction = t; found = subst (λ k. transaction_of k w.state ≡ Some t) same is; on = subst (λ k. c.role ≡ Some (Superior k)) same role }

  pulls_at : (role : Option Role) → c.role ≡ role → is_placed w.state role ≡ true → Pulls c w.state
  pulls_at None role placed = absurd (never_none c.state (subst (λ l. is_on_none l ≡ true) awaits_now (subst (λ r. is_some r || is_on_none (link_on c.side c) ≡ true) role known_there.free)))
  pulls_at (Some (Superior key)) role placed = its_own key (transaction_of key w.state) refl placed role
  pulls_at (Some (Subordinate key place)) role placed = absurd (never_part_there key place (transaction_of key w.state) refl placed role)

  pub pulls : Pulls c w.state
  pulls = pulls_at c.role refl known_there.placed

  pub pulled_whole : Whole (go_on command.Pull response.Pulled c w).state
  pulled_whole =
      let t = pulls.transaction in
      let fits = link_before t c w whole there pulls.found pulls.on in
      let row = pull_rows t.phase t.origin c.state (subst (λ l. is_superior t.phase t.origin l ≡ true) awaits_now fits) in
      let d : Connection = record c { state = state.Enlisted; side = Secondary; owed = None; awaited = None } in
      let is : advanced command.Pull response.Pulled c ≡ d = ap (λ place. advanced_to place c) (ap (λ s. next_of command.Pull s response.Pulled) row.0 ∙ pulled_next) ∙ ap (λ s. record c { state = state.Enlisted; side = opposite s; owed = None; awaited = None }) side in
      let stand : stands w.state d ≡ true = and_from _ _ (and_from _ _ (and_from _ _ refl (or_left _ _ (ap is_some pulls.on))) (subst (λ r. asks_as r Secondary ≡ true) (sym pulls.on) refl)) known_there.placed in
      let becomes : Becomes w.state c d = record { role = inl refl; stand = stand } in
      pulled t c w whole there pulls.found pulls.on (advanced command.Pull response.Pulled) (subst (Becomes w.state c) (sym is) becomes) (ap (λ (e : Connection). e.role) is) (ap (λ (e : Connection). e.peer) is) (subst (λ (e : Connection). is_superior t.phase t.origin (link_on e.side e) ≡ true) (sym is) row.2)

  aborts_whole : (t : Transaction) → transaction_of t.key w.state ≡ Some t → c.role ≡ Some (Superior t.key) → Whole (abort t.key (go_on command.Pull response.NotPulled c w)).state
  aborts_whole t found on =
      let fits = link_before t c w whole there found on in
      let row = pull_rows t.phase t.origin c.state (subst (λ l. is_superior t.phase t.origin l ≡ true) awaits_now fits) in
      let is : advanced command.Pull response.NotPulled c ≡ advanced_to (Some (state.Idle, Original)) c = ap (λ place. advanced_to place c) (ap (λ s. next_of command.Pull s response.NotPulled) row.0 ∙ not_pulled_next) in
      let becomes : Becomes w.state c (advanced_to (Some (state.Idle, Original)) c) = record { role = inr refl; stand = idle w.state c } in
      not_pulled t c w whole there found on (advanced command.Pull response.NotPulled) (subst (Becomes w.state c) (sym is) becomes) (ap (λ (e : Connection). e.role) is) row.1

  pub not_pulled_whole : Whole (abort_as c.role (go_on command.Pull response.NotPulled c w)).state
  not_pulled_whole = subst (λ r. Whole (abort_as r (go_on command.Pull response.NotPulled c w)).state) (sym pulls.on) (aborts_whole pulls.transaction pulls.found pulls.on)
