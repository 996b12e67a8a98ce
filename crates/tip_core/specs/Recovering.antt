-- A realm that takes up its stored rows when it starts.
use Rattle.std.specs.Prelude.{◌≡◌, ◌++◌, List, map}
use Rattle.tip_machine.specs.Recovery.{restarted}
use Rattle.tip_machine.specs.States.{State}
use Rattle.tip_machine.specs.Types.{Transaction}
use Rattle.tip_machine.specs.declared.head.Head.{Head}
use Rattle.tip_recovery.specs.Adopting.{Recovery, Unfinished, loaded}

-- the rows are of the realm of this head, in its epoch
pub record IsOf (recovery : Recovery) (head : Head) : Type 0 where
  pub name : head.name ≡ recovery.realm
  pub epoch : head.epoch ≡ recovery.epoch

-- the transactions that recovery makes of rows
abbrev pub reopened_all : Head → List Unfinished → List Transaction
reopened_all head rows = (restarted head (map loaded rows)).transactions

-- a realm with the transactions of its rows behind those that it has: one that was just started is then as recovery makes it
abbrev pub taking_up : List Unfinished → State → State
taking_up rows state = record state { transactions = state.transactions ++ reopened_all state.head rows }
