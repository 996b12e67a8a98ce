-- The numbers of which identifiers are made (section 5) stay below the entries of the realm's journal, which are limited (ours).
use Rattle.std.specs.Prelude.{◌≡◌, ◌≤◌, ◌<◌, ℕ, true}
use Rattle.std.specs.List.{All}
use Rattle.tip_machine.specs.Types.{Connection}
use Rattle.tip_machine.specs.Given.{are_numbered}
use Rattle.tip_machine.specs.Heads.{IsCounted}
use Rattle.tip_machine.specs.States.{State}

-- a connection that has a number, and on which no more transactions were made than the realm counted entries
pub record IsBelow (entries : ℕ) (connection : Connection) : Type 0 where
  pub number : 0 < connection.number
  pub made : connection.made ≤ entries

-- a realm that was started, whose connections are told apart by their numbers, and whose counts are below its entries: of its
-- connections, and of the transactions made on each
pub record HasCounts (state : State) : Type 0 where
  pub epoch : 0 < state.head.epoch
  pub given : IsCounted state.head
  pub connections : All (IsBelow state.head.entries) state.connections
  pub numbered : are_numbered state ≡ true
