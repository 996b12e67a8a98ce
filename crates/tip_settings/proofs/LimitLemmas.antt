-- Limits that are allowed one by one are allowed together.
use Rattle.std.proofs.Common.{◌≡◌, ℕ, true, arith}
use Rattle.std.proofs.lemmas.Bool.Decides.{nat_tests}
use Rattle.tip_machine.specs.Heads.{are_allowed}
use Rattle.tip_settings.specs.Limits.{alone}
use Rattle.tip_settings.specs.declared.limit.Limit.TheVariants.{Connections, Transactions, Boxes, Entries}

pub together : (connections transactions boxes entries : ℕ) → are_allowed (alone Connections connections) ≡ true → are_allowed (alone Transactions transactions) ≡ true
    → are_allowed (alone Boxes boxes) ≡ true → are_allowed (alone Entries entries) ≡ true
    → are_allowed (record { connections = connections; transactions = transactions; boxes = boxes; entries = entries }) ≡ true
together connections transactions boxes entries c t b e = grind (arith, nat_tests)
