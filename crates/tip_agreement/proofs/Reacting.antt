-- What a reaction leaves of the connections, and of all but its transaction.
use Rattle.std.proofs.Common.{◌≡◌, Bool, true, false, ℕ, Option, Some, None, cond, refl, ap, subst, sym, ◌∙◌, ◌⊎◌, inl, inr}
use Rattle.std.specs.Prelude.{◌&&◌, ◌||◌, not, find, map, is_none, is_some, option_map}
use Rattle.std.specs.List.{list_all}
use Rattle.std.specs.Option.{option_map_or}
use Rattle.std.proofs.lemmas.Bool.{and_from, and_parts, cases_Bool, or_left}
use Rattle.std.proofs.lemmas.Option.{none-some, same_Some}
use Rattle.tip_rows.specs.Keys.{Key, is_same}
use Rattle.tip_line.specs.declared.command.CommandName.{CommandName}
use Rattle.tip_line.specs.declared.command.CommandName.TheVariants as command
use Rattle.tip_line.specs.declared.response.ResponseName.{ResponseName}
use Rattle.tip_line.specs.declared.response.ResponseName.TheVariants as response
use Rattle.tip_conn.specs.Table.{Row, is_answer, is_row_of, next_of, rows}
use Rattle.tip_conn.specs.declared.state.Side.{Side}
use Rattle.tip_conn.specs.declared.state.Side.TheVariants.{Primary, Secondary}
use Rattle.tip_conn.specs.declared.state.State.{State as ConnectionState}
use Rattle.tip_conn.specs.declared.state.State.TheVariants.{Initial, Idle, Begun, Enlisted, Prepared, Error}
use Rattle.tip_conn.specs.declared.state.Turn.{Turn}
use Rattle.tip_conn.specs.declared.state.Turn.TheVariants.{Keep, Original}
use Rattle.tip_machine.specs.Answers.{response_name}
use Rattle.tip_machine.specs.Connections.{advanced_to, awaiting, is_on, is_part_of, is_superior_of, names, role_in}
use Rattle.tip_machine.specs.Invariants.Links.{acts_as, has_its_side, is_connected, is_on_none, link_on}
use Rattle.tip_machine.specs.Reactions.{Demand, Reaction, aborts, answers, asks, commits, demanded, demanded_as, demands, needs_nothing, promises, Reacted, reacted, reacts, stays}
use Rattle.tip_machine.specs.States.{State}
use Rattle.tip_machine.specs.Types.{Connection}
use Rattle.tip_machine.specs.declared.answer.Said.{Said}
use Rattle.tip_machine.specs.declared.connection.Role.{Role}
use Rattle.tip_machine.specs.declared.connection.Role.TheVariants.{Superior, Subordinate}
use Rattle.tip_machine.proofs.Others.{reacted-keeps}
use Rattle.tip_machine.proofs.Walks.{found_passes}
use Rattle.tip_agreement.proofs.Apart.{all_found, all_mapped}
use Rattle.tip_agreement.proofs.Around.{Alike, Around, asks_as, beside, clash, clashes, is_placed, on_no_other, others_still, stand_with, stands, with_connections}
use Rattle.tip_agreement.proofs.Found.{any_beside, apart_mapped, find_beside}

-- Roles

abbrev pub KeepsOrLeaves : Connection → Connection → Type 0
KeepsOrLeaves c d = (d.role ≡ c.role) ⊎ (d.role ≡ None)

left_in : (state : ConnectionState) (role : Option Role) → (role_in state role ≡ role) ⊎ (role_in state role ≡ None)
left_in Initial role = inl refl
left_in Idle role = inr refl
left_in Begun role = inl refl
left_in Enlisted role = inl refl
left_in Prepared role = inl refl
left_in Error role = inl refl

advanced_role : (place : Option (ConnectionState × Turn)) (c : Connection) → KeepsOrLeaves c (advanced_to place c)
advanced_role None c = inl refl
advanced_role (Some place) c = left_in place.0 c.role

pub role_reacted : (reaction : Reaction) (key : Key) (c : Connection) → KeepsOrLeaves c (reacted reaction key c).connection
role_reacted reaction key c = reacted-keeps (KeepsOrLeaves c) c (inl refl) reaction key (λ command response. advanced_role (next_of command c.state response) c) (λ awaited. inl refl)

on_beside : (key : Key) (role : Option Role) → names key role ≡ true → beside key role ≡ true
on_beside key None is = refl
on_beside key (Some role) is = is

-- The connection table at an outcome

abbrev pub is_outcome : ResponseName → Bool
is_outcome response.Prepared = true
is_outcome response.ReadOnly = true
is_outcome response.Committed = true
is_outcome response.Aborted = true
is_outcome other = false

-- idle on its original sides, or prepared on the same
abbrev pub is_end : ConnectionState × Turn → Bool
is_end (Idle, Original) = true
is_end (Prepared, Keep) = true
is_end place = false

abbrev ends_at : ResponseName → Row → Bool
ends_at response row = not (is_answer row.response response) || is_end (row.next, row.turn)

all_end : (response : ResponseName) → is_outcome response ≡ true → list_all (ends_at response) rows ≡ true
all_end response.Prepared is = refl
all_end response.ReadOnly is = refl
all_end response.Committed is = refl
all_end response.Aborted is = refl
all_end other is = absurd (cc)

abbrev is_row : CommandName → ConnectionState → ResponseName → Row → Bool
is_row command state response row = is_row_of command state row && is_answer row.response response

pub outcome_ends : (command : CommandName) (state : ConnectionState) (response : ResponseName) (place : ConnectionState × Turn) → is_outcome response ≡ true → next_of command state response ≡ Some place → is_end place ≡ true
unfolding next_of
outcome_ends command state response place out next = step (find (is_row command state response) rows) refl next where
  step : (found : Option Row) → find (is_row command state response) rows ≡ found → option_map (λ (row : Row). (row.next, row.turn)) found ≡ Some place → is_end place ≡ true
  step None none is = absurd (none-some place is)
  step (Some row) found is =
      let answers = (and_parts (is_row_of command state row) (is_answer row.response response) (found_passes (is_row command state response) rows row found)).1 in
      let fine : not (is_answer row.response response) || is_end (row.next, row.turn) ≡ true = all_found (ends_at response) (is_row command state response) rows row (all_end response out) found in
      let e : not true || is_end (row.next, row.turn) ≡ true = subst (λ b. not b || is_end (row.next, row.turn) ≡ true) answers fine in
      subst (λ p. is_end p ≡ true) (same_Some (row.next, row.turn) place is) e

-- Standing

-- a reaction answers with outcomes alone
abbrev pub IsOutcome : Reaction → Type 0
IsOutcome reaction = (command : CommandName) → option_map_or (λ said. is_outcome (response_name said)) (reaction.owed command) true ≡ true

pub asks_so : IsOutcome asks
asks_so command = refl

pub promises_so : IsOutcome promises
promises_so command = refl

pub commits_so : IsOutcome commits
commits_so command = refl

pub aborts_so : IsOutcome aborts
aborts_so command = refl

pub needs_nothing_so : IsOutcome needs_nothing
needs_nothing_so command.Prepare = refl
needs_nothing_so command.Commit = refl
needs_nothing_so other = refl

module _ (s : State) (c : Connection) where
  -- the same connection, with nothing owed and nothing awaited
  pub acts_free : (side : Side) (state : ConnectionState) (role : Option Role) → acts_as side (record c { state = state; side = side; owed = None; awaited = None; role = role }) ≡ true
  acts_free Primary state role = refl
  acts_free Secondary state role = refl

  idle_stands : (b : Bool) → c.dialled ≡ b → stands s (advanced_to (Some (Idle, Original)) c) ≡ true
  idle_stands true is = rw is refl
  idle_stands false is = rw is refl

  pub idle : stands s (advanced_to (Some (Idle, Original)) c) ≡ true
  idle = idle_stands c.dialled refl

  -- what is known of a connection that stands
  pub record Standing : Type 0 where
    pub acts : acts_as c.side c ≡ true
    pub side : has_its_side c ≡ true
    pub free : is_some c.role || is_on_none (link_on c.side c) ≡ true
    pub asks : asks_as c.role c.side ≡ true
    pub placed : is_placed s c.role ≡ true

  pub standing : stands s c ≡ true → Standing
  standing is =
      let a = and_parts (is_connected c && asks_as c.role c.side) (is_placed s c.role) is in
      let b = and_parts (is_connected c) (asks_as c.role c.side) a.0 in
      let d = and_parts (acts_as c.side c && has_its_side c) (is_some c.role || is_on_none (link_on c.side c)) b.0 in
      let e = and_parts (acts_as c.side c) (has_its_side c) d.0 in
      record { acts = e.0; side = e.1; free = d.1; asks = b.1; placed = a.1 }

  end_stands : (state : ConnectionState) (turn : Turn) → is_end (state, turn) ≡ true → Standing → is_some c.role ≡ true → stands s (advanced_to (Some (state, turn)) c) ≡ true
  end_stands Idle Original is known on = idle
  end_stands Prepared Keep is known on = and_from _ _ (and_from _ _ (and_from _ _ (and_from _ _ (acts_free c.side Prepared c.role) refl) (or_left _ _ on)) known.asks) known.placed
  end_stands state turn is known on = absurd (cc)

  awaits_stands : (demand : Demand) (key : Key) (part : ℕ) (side : Side) → c.side ≡ side → c.role ≡ Some (Subordinate key part) → c.owed ≡ None → Standing → stands s (awaiting demand.awaited c) ≡ true
  awaits_stands demand key part Primary at role owed known = and_from _ _ (and_from _ _ (and_from _ _ (and_from _ _ (subst (λ t. acts_as t (awaiting demand.awaited c) ≡ true) (sym at) (ap is_none owed)) known.side) (or_left _ _ (ap is_some role))) known.asks) known.placed
  awaits_stands demand key part Secondary at role owed known = absurd (let e : asks_as (Some (Subordinate key part)) Secondary ≡ true = subst (λ r. asks_as r Secondary ≡ true) role (subst (λ t. asks_as c.role t ≡ true) at known.asks) in cc)

module _ (s : State) (reaction : Reaction) (so : IsOutcome reaction) (key : Key) where
  answered_stands : (c : Connection) (command : CommandName) (said : Option Said) → stands s c ≡ true → is_some c.role ≡ true → option_map_or (λ said. is_outcome (response_name said)) said true ≡ true → stands s (option_map_or (answers command c) said (stays c)).connection ≡ true
  answered_stands c command None is on out = is
  answered_stands c command (Some said) is on out = step (next_of command c.state (response_name said)) refl where
    step : (place : Option (ConnectionState × Turn)) → next_of command c.state (response_name said) ≡ place → stands s (advanced_to place c) ≡ true
    step None at = is
    step (Some place) at = end_stands s c place.0 place.1 (outcome_ends command c.state (response_name said) place out at) (standing s c is) on

  demanded_stands : (c : Connection) (at : Key) (part : ℕ) (demand : Option Demand) → stands s c ≡ true → c.role ≡ Some (Subordinate at part) → c.owed ≡ None → stands s (option_map_or (demands key c) demand (stays c)).connection ≡ true
  demanded_stands c at part None is role owed = is
  demanded_stands c at part (Some demand) is role owed = awaits_stands s c demand at part c.side refl role owed (standing s c is)

  asked_stands : (c : Connection) (role : Option Role) → c.role ≡ role → stands s c ≡ true → c.owed ≡ None → stands s (option_map_or (demands key c) (demanded_as reaction role c) (stays c)).connection ≡ true
  asked_stands c None role is owed = is
  asked_stands c (Some (Superior at)) role is owed = is
  asked_stands c (Some (Subordinate at part)) role is owed = demanded_stands c at part (cond (is_none c.awaited) (demanded reaction c.state) None) is role owed

  reacts_stands : (c : Connection) (owed : Option CommandName) → c.owed ≡ owed → is_some c.role ≡ true → stands s c ≡ true → stands s (reacts reaction key owed c).connection ≡ true
  reacts_stands c (Some command) owed on is = answered_stands c command (reaction.owed command) is on (so command)
  reacts_stands c None owed on is = asked_stands c c.role refl is owed

  some_role : (role : Option Role) → names key role ≡ true → is_some role ≡ true
  some_role None is = absurd (cc)
  some_role (Some role) is = refl

  reacted_stands : (c : Connection) → stands s c ≡ true → stands s (reacted reaction key c).connection ≡ true
  reacted_stands c is = step (is_on key c) refl where
    step : (b : Bool) → is_on key c ≡ b → stands s (cond b (reacts reaction key c.owed c) (stays c)).connection ≡ true
    step true on = reacts_stands c c.owed refl (some_role c.role on) is
    step false off = is

  -- Others see no change

  abbrev pub become : Connection → Connection
  become c = (reacted reaction key c).connection

  stays_off : (c : Connection) → is_on key c ≡ false → become c ≡ c
  stays_off c off = not_taken (is_on key c) (reacts reaction key c.owed c) off where
    not_taken : (b : Bool) (r : Reacted) → b ≡ false → (cond b r (stays c)).connection ≡ c
    not_taken true r off = absurd (cc)
    not_taken false r off = refl

  both_off : {T : Type 0} (b c : Bool) (x y : T) → b ≡ false → c ≡ false → cond b (Some x) None ≡ cond c (Some y) None
  both_off true c x y is so = absurd (cc)
  both_off false true x y is so = absurd (cc)
  both_off false false x y is so = refl

  module _ (test : Connection → Bool) (clear : (c : Connection) → beside key c.role ≡ true → test c ≡ false) where
    same_test : (c : Connection) → cond (test c) (Some c) None ≡ cond (test (become c)) (Some (become c)) None
    same_test c = elim (cases_Bool (is_on key c)) [
      | inl on ↦ both_off (test c) (test (become c)) c (become c) (clear c (on_beside key c.role on)) (clear (become c) (stays_beside c on))
      | inr off ↦ ap (λ d. cond (test d) (Some d) None) (sym (stays_off c off))
    ] where
      stays_beside : (c : Connection) → is_on key c ≡ true → beside key (become c).role ≡ true
      stays_beside c on = elim (role_reacted reaction key c) [
        | inl same ↦ ap (beside key) same ∙ on_beside key c.role on
        | inr none ↦ ap (beside key) none
      ]

    same_any : (c : Connection) → test (become c) ≡ test c
    same_any c = agree (test c) (test (become c)) c (become c) (same_test c) where
      agree : {T : Type 0} (b d : Bool) (x y : T) → cond b (Some x) None ≡ cond d (Some y) None → d ≡ b
      agree true true x y is = refl
      agree false false x y is = refl
      agree true false x y is = absurd (none-some x (sym is))
      agree false true x y is = absurd (none-some y is)

  alike_reacted : (other : Key) → is_same key other ≡ false → Alike other s (with_connections key s (map become s.connections))
  alike_reacted other differ = record {
    epoch = refl;
    name = refl;
    superior = find_beside (is_superior_of other) become s.connections (same_test (is_superior_of other) (λ c on. (on_no_other key other c.role on differ).0));
    part = λ place. find_beside (is_part_of other place) become s.connections (same_test (is_part_of other place) (λ c on. (on_no_other key other c.role on differ).1 place));
    on = any_beside (is_on other) become s.connections (same_any (is_on other) (λ c on. (on_no_other key other c.role on differ).2));
  }

  no_clash : (this that these those : Option Role) → (these ≡ this) ⊎ (these ≡ None) → (those ≡ that) ⊎ (those ≡ None) → clash this that ≡ false → clash these those ≡ false
  no_clash this that these those (inr none) t apart = rw none refl
  no_clash this that these those (inl same) (inl so) apart = rw (same, so) apart
  no_clash this that None those (inl same) (inr none) apart = refl
  no_clash this that (Some role) those (inl same) (inr none) apart = rw none refl

  pub react_around : Around key s → Around key (with_connections key s (map become s.connections))
  react_around around = record {
    keys = around.keys;
    apart = apart_mapped clashes become s.connections (λ c d apart. no_clash c.role d.role (become c).role (become d).role (role_reacted reaction key c) (role_reacted reaction key d) apart) around.apart;
    standing = stand_with key s (map become s.connections) (all_mapped (stands s) become s.connections reacted_stands around.standing);
    others = others_still key s (with_connections key s (map become s.connections)) s.transactions alike_reacted around.others;
  }
