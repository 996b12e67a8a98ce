-- What a test says of each example.
use Rattle.std.proofs.Common.{◌≡◌, Bool, true, List, [], ◌∷◌}
use Rattle.std.specs.List.{list_all}
use Rattle.std.proofs.lemmas.Bool.{and_parts}
use Rattle.tip_machine.specs.Examples.Scripts.{Each, Example}

pub each : (test : Example → Bool) (P : Example → Type 0) → ((example : Example) → test example ≡ true → P example) → (examples : List Example) → list_all test examples ≡ true → Each P examples
each test P holds [] all = tt
each test P holds (example ∷ examples) all = let both = and_parts (test example) (list_all test examples) all in (holds example both.0, each test P holds examples both.1)
