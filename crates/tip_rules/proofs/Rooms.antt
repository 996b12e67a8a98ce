-- How many branches a realm can have.
use Rattle.std.proofs.Common.{◌≡◌, ◌≤◌, ◌+◌, ℕ, true, List, [], ◌∷◌, length, arith}
use Rattle.std.proofs.lemmas.Bool.Decides.{nat_tests}
use Rattle.tip_rows.specs.Branches.{are_branches}

-- as many as there are numbers from the first one's on
few_behind : (branch : ℕ × List ℕ) (branches : List (ℕ × List ℕ)) → are_branches (branch ∷ branches) ≡ true → branch.0 + length branches ≤ 8
few_behind branch [] is = grind (arith, nat_tests, is)
few_behind branch (next ∷ branches) is = grind (arith, nat_tests, is, few_behind next branches)

pub few : (branches : List (ℕ × List ℕ)) → are_branches branches ≡ true → length branches ≤ 8
few [] is = omega arith
few (branch ∷ branches) is = grind (arith, nat_tests, is, few_behind branch branches)
