-- PREPARE, COMMIT and ABORT, as lines that are heard, leave a realm whole.
use Rattle.std.proofs.Common.{◌≡◌, Bool, true, false, ℕ, Option, Some, None, cond, refl, ap, subst, sym, ◌∙◌}
use Rattle.std.specs.Prelude.{◌||◌, is_none, is_some}
use Rattle.std.specs.Option.{option_and_then}
use Rattle.std.proofs.lemmas.Bool.{and_parts, both_ways}
use Rattle.tip_rows.specs.Keys.{Key}
use Rattle.tip_conn.specs.Table.{admit_of, is_valid}
use Rattle.tip_conn.specs.declared.state.Admit.TheVariants.{Serve, Wrong}
use Rattle.tip_conn.specs.declared.state.Side.TheVariants.{Secondary}
use Rattle.tip_conn.specs.declared.state.State.{State as ConnectionState}
use Rattle.tip_conn.specs.declared.state.State.TheVariants as state
use Rattle.tip_line.specs.Command.{name_of}
use Rattle.tip_line.specs.declared.command.Command.{Command}
use Rattle.tip_line.specs.declared.command.Command.TheVariants as commands
use Rattle.tip_line.specs.declared.command.CommandName.{CommandName}
use Rattle.tip_line.specs.declared.command.CommandName.TheVariants as command
use Rattle.tip_machine.specs.Changes.{attempt_on, change}
use Rattle.tip_machine.specs.Commands.{commanded, decide_abort, decide_commit, obey, prepare, serve, serve_if, superior_role}
use Rattle.tip_machine.specs.Connections.{may_take, owing}
use Rattle.tip_machine.specs.Invariants.Links.{is_on_none, link_on}
use Rattle.tip_machine.specs.Invariants.Links.Link.{Owes}
use Rattle.tip_machine.specs.Requests.{hear, line}
use Rattle.tip_machine.specs.States.{Attempt, Work, connection_of, transaction_of}
use Rattle.tip_machine.specs.Types.{Connection, Transaction}
use Rattle.tip_machine.specs.declared.connection.Role.{Role}
use Rattle.tip_machine.specs.declared.connection.Role.TheVariants.{Superior, Subordinate}
use Rattle.tip_machine.specs.declared.event.Heard.TheVariants.{Command as ACommand}
use Rattle.tip_agreement.proofs.Around.{Whole, asks_as, is_placed}
use Rattle.tip_agreement.proofs.Closing.{wrong_whole, stands_there}
use Rattle.tip_agreement.proofs.Commanding.{abort_obeyed, commit_obeyed, prepare_obeyed}
use Rattle.tip_agreement.proofs.Obeying.{is_enlisted_state}
use Rattle.tip_agreement.proofs.Owned.{key_found}
use Rattle.tip_agreement.proofs.Proceeding.{AllWhole}
use Rattle.tip_agreement.proofs.Reacting.{Standing}

-- what a superior says of its transaction (section 13)
abbrev is_of_superior : CommandName → Bool
is_of_superior command.Prepare = true
is_of_superior command.Commit = true
is_of_superior command.Abort = true
is_of_superior other = false

-- a command of a superior's is valid on no idle connection
never_early : (name : CommandName) (at : ConnectionState) (owed : Option CommandName) → is_of_superior name ≡ true → is_valid name at ≡ true → is_on_none (Owes at owed) ≡ false
unfolding is_valid
never_early command.Prepare state.Initial owed is valid = absurd (cc)
never_early command.Prepare state.Idle owed is valid = absurd (cc)
never_early command.Commit state.Initial owed is valid = absurd (cc)
never_early command.Commit state.Idle owed is valid = absurd (cc)
never_early command.Abort state.Initial owed is valid = absurd (cc)
never_early command.Abort state.Idle owed is valid = absurd (cc)
never_early name state.Begun owed is valid = refl
never_early name state.Enlisted owed is valid = refl
never_early name state.Prepared owed is valid = refl
never_early name state.Error owed is valid = refl
never_early name at owed is valid = absurd (cc)

module _ (c : Connection) (w : Work) (whole : Whole w.state) (there : connection_of c.number w.state ≡ Some c) (side : c.side ≡ Secondary) (name : CommandName) (superiors : is_of_superior name ≡ true) (valid : is_valid name c.state ≡ true) (rule : Transaction → Work → Attempt) (keeps : (t : Transaction) → transaction_of t.key w.state ≡ Some t → c.role ≡ Some (Superior t.key) → AllWhole (rule t (change c.number (owing name) w))) where
  known_there : Standing w.state c
  known_there = stands_there c w whole there

  never_alone : c.role ≡ None → ⊥
  never_alone none = both_ways (is_on_none (link_on c.side c)) (ap (λ s. is_on_none (link_on s c)) side ∙ never_early name c.state c.owed superiors valid) (subst (λ r. is_some r || is_on_none (link_on c.side c) ≡ true) none known_there.free)

  never_below : (key : Key) (place : ℕ) → c.role ≡ Some (Subordinate key place) → ⊥
  never_below key place role = let e : asks_as (Some (Subordinate key place)) Secondary ≡ true = subst (λ s. asks_as (Some (Subordinate key place)) s ≡ true) side (subst (λ r. asks_as r c.side ≡ true) role known_there.asks) in cc

  its_own : (key : Key) (found : Option Transaction) → transaction_of key w.state ≡ found → is_some found ≡ true → c.role ≡ Some (Superior key) → AllWhole (attempt_on found rule (change c.number (owing name) w))
  its_own key None is some role = absurd (cc)
  its_own key (Some t) is some role = let same = key_found key t w.state is in keeps t (subst (λ k. transaction_of k w.state ≡ Some t) same is) (subst (λ k. c.role ≡ Some (Superior k)) same role)

  by_role : (role : Option Role) → c.role ≡ role → is_placed w.state role ≡ true → AllWhole (attempt_on (option_and_then (λ key. transaction_of key w.state) (superior_role role)) rule (change c.number (owing name) w))
  by_role None role placed = absurd (never_alone role)
  by_role (Some (Superior key)) role placed = its_own key (transaction_of key w.state) refl placed role
  by_role (Some (Subordinate key place)) role placed = absurd (never_below key place role)

  pub obeyed : AllWhole (obey name rule c w)
  obeyed = by_role c.role refl known_there.placed

module _ (c : Connection) (w : Work) (whole : Whole w.state) (there : connection_of c.number w.state ≡ Some c) (side : c.side ≡ Secondary) (silent : c.owed ≡ None) where
  pub commit_served : is_valid command.Commit c.state ≡ true → AllWhole (serve commands.Commit c w)
  commit_served valid = obeyed c w whole there side command.Commit refl valid (λ t. decide_commit t.phase c t) (λ t found on. commit_obeyed t c w whole there found on side silent t.phase refl)

  pub abort_served : is_valid command.Abort c.state ≡ true → AllWhole (serve commands.Abort c w)
  abort_served valid = obeyed c w whole there side command.Abort refl valid (λ t. decide_abort t.phase c t) (λ t found on. abort_obeyed t c w whole there found on side silent t.phase refl)

  -- whether it is valid or not
  pub served_or_not : (line : Command) → (is_valid (name_of line) c.state ≡ true → AllWhole (serve line c w)) → AllWhole (hear Secondary (ACommand line) c w)
  unfolding commanded
  served_or_not line serves = subst (λ s. AllWhole (serve_if (admit_of c.state s (name_of line)) line c w)) (sym side) (step (is_valid (name_of line) c.state) refl) where
    step : (b : Bool) → is_valid (name_of line) c.state ≡ b → AllWhole (serve_if (cond b Serve Wrong) line c w)
    step true valid = serves valid
    step false valid = wrong_whole c w whole there

  -- PREPARE is valid where we are enlisted
  enlisted_there : is_valid command.Prepare c.state ≡ true → is_enlisted_state c.state ≡ true
  unfolding is_valid
  enlisted_there valid = step c.state valid where
    step : (at : ConnectionState) → is_valid command.Prepare at ≡ true → is_enlisted_state at ≡ true
    step state.Enlisted valid = refl
    step at valid = absurd (cc)

  pub prepare_served : is_valid command.Prepare c.state ≡ true → AllWhole (serve commands.Prepare c w)
  prepare_served valid = obeyed c w whole there side command.Prepare refl valid (λ t. prepare t.phase c.peer c t) (λ t found on. prepare_obeyed t c w whole there found on side silent (enlisted_there valid) t.phase refl c.peer refl)

pub nothing_owed : (c : Connection) → may_take c ≡ true → c.owed ≡ None
nothing_owed c is = step c.owed (and_parts (is_none c.owed) _ is).0 where
  step : (o : Option CommandName) → is_none o ≡ true → o ≡ None
  step None is = refl
  step (Some name) is = absurd (cc)
