-- What the parties of transactions let go.
use Rattle.std.specs.Prelude.{List}
use Rattle.std.specs.List.{flat_map}
use Rattle.tip_machine.specs.Moves.{drops_at}
use Rattle.tip_machine.specs.Outputs.{Output}
use Rattle.tip_machine.specs.Types.{Transaction}

abbrev pub here : List Transaction → List Output
here transactions = flat_map (λ (transaction : Transaction). drops_at transaction.place) transactions
