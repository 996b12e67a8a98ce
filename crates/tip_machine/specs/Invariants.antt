-- THE INVARIANTS of what a realm reaches (ours): what every rule may rely on, and leaves. They compute, so that the worked
-- examples try them out in each of their states.
pub mod Bounds
pub mod Links
pub mod Parties
pub mod Phases
pub mod Stored
use Rattle.std.specs.Prelude.{◌≡◌, ◌&&◌, Bool, true, false, map, filter}
use Rattle.std.specs.List.{list_all}
use Rattle.tip_rows.specs.Keys.{is_same}
use Rattle.tip_machine.specs.Types.{Transaction}
use Rattle.tip_machine.specs.Given.{are_numbered, was_given}
use Rattle.tip_machine.specs.Invariants.Bounds.{are_bounded}
use Rattle.tip_machine.specs.Invariants.Links.{are_distinct, have_roles, is_connected}
use Rattle.tip_machine.specs.Moves.{World}
use Rattle.tip_machine.specs.Invariants.Parties.{are_out}
use Rattle.tip_machine.specs.Invariants.Phases.{is_transaction}
use Rattle.tip_machine.specs.States.{State}
use Rattle.tip_machine.specs.Invariants.Stored.{are_stored}
use Rattle.tip_machine.specs.Transactions.{comes_from, is_undecided}
use Rattle.tip_machine.specs.declared.transaction.Origin.{Origin}
use Rattle.tip_machine.specs.declared.transaction.Origin.TheVariants as origin

-- transactions have distinct keys that were given
abbrev pub are_keyed : State → Bool
are_keyed state =
    are_distinct is_same (map (λ transaction. transaction.key) state.transactions)
    && list_all (λ transaction. was_given state transaction.key) state.transactions

-- both came from one manager under one identifier
abbrev pub came_twice : Transaction → Origin → Bool
came_twice this origin.Root = false
came_twice this (origin.Subordinate address superior) = comes_from address superior this.origin

-- no transaction that has no outcome is here twice
abbrev pub are_known_once : State → Bool
are_known_once state = are_distinct (λ this that. came_twice this that.origin) (filter (λ transaction. is_undecided transaction.phase) state.transactions)

-- ALL OF THEM, of a realm with its rows and the parties that are out
pub record IsSound (world : World) : Type 0 where
  pub numbered : are_numbered world.state ≡ true
  pub bounded : are_bounded world.state ≡ true
  pub keyed : are_keyed world.state ≡ true
  pub roles : have_roles world.state ≡ true
  pub connections : list_all is_connected world.state.connections ≡ true
  pub transactions : list_all (is_transaction world.state) world.state.transactions ≡ true
  pub out : are_out world.state world.errands ≡ true
  pub known_once : are_known_once world.state ≡ true
  pub stored : are_stored world.state world.rows ≡ true
