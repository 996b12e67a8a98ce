-- Branches that are numbered one by one.
use Rattle.std.proofs.Common.{◌≡◌, ◌+◌, ℕ, suc, List, [], ◌∷◌, length, true, refl, ap, arith}
use Rattle.std.proofs.lemmas.Bool.Decides.{nat_tests}
use Rattle.tip_machine.specs.Starting.{are_counted_from}
use Rattle.tip_settings.specs.Branches.{numbered}

pub counted_numbered : (number : ℕ) (labels : List (List ℕ)) → are_counted_from number (numbered number labels) ≡ true
counted_numbered number [] = refl
counted_numbered number (label ∷ labels) = let rest = counted_numbered (number + 1) labels in grind (arith, nat_tests)

pub length_numbered : (number : ℕ) (labels : List (List ℕ)) → length (numbered number labels) ≡ length labels
length_numbered number [] = refl
length_numbered number (label ∷ labels) = ap suc (length_numbered (number + 1) labels)
