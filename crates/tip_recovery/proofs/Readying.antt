-- What is made of a row beforehand.
use Rattle.std.proofs.Common.{◌≡◌, ℕ, zero, suc, true, false, List, [], ◌∷◌, Option, None, Some, length, map, refl, arith}
use Rattle.std.specs.Prelude.{◌&&◌, ◌==◌, MatchOption, is_none, nat_le, nat_lt, not, unwrap_or}
use Rattle.std.specs.List.{list_all}
use Rattle.std.proofs.lemmas.Bool.{and_from, and_parts}
use Rattle.std.proofs.lemmas.Bool.Decides.{nat_tests}
use Rattle.tip_branch.specs.declared.branch.Badge.{Badge}
use Rattle.tip_branch.specs.Members.{are_numbers, rise_above}
use Rattle.tip_rows.specs.Branches.{are_branches, is_behind}
use Rattle.tip_rows.specs.Rows.{branches_of}
use Rattle.tip_rows.specs.declared.row.Row.{Row}
use Rattle.tip_recovery.specs.Adopting.{AreFor}

-- the numbers of branches rise
rise : (low : ℕ) (label : List ℕ) (branches : List (ℕ × List ℕ)) → list_all (is_behind low label) branches ≡ true → are_branches branches ≡ true → rise_above low (map (λ branch. branch.0) branches) ≡ true
rise low label [] behind are = refl
rise low label (b ∷ branches) behind are =
    let first = and_parts (is_behind low label b) (list_all (is_behind low label) branches) behind in
    let above = and_parts (nat_lt low b.0) _ first.0 in
    let rest = and_parts (nat_le 1 b.0 && nat_le b.0 8 && list_all (is_behind b.0 b.1) branches) (are_branches branches) are in
    let own = and_parts (nat_le 1 b.0 && nat_le b.0 8) (list_all (is_behind b.0 b.1) branches) rest.0 in
    let most = and_parts (nat_le 1 b.0) (nat_le b.0 8) own.0 in
    and_from (nat_lt low b.0 && nat_le b.0 8) _ (and_from (nat_lt low b.0) (nat_le b.0 8) above.0 most.1) (rise b.0 b.1 branches own.1 rest.1)

pub numbers_rise : (branches : List (ℕ × List ℕ)) → are_branches branches ≡ true → are_numbers (map (λ branch. branch.0) branches) ≡ true
numbers_rise [] are = refl
numbers_rise (b ∷ branches) are =
    let rest = and_parts (nat_le 1 b.0 && nat_le b.0 8 && list_all (is_behind b.0 b.1) branches) (are_branches branches) are in
    let own = and_parts (nat_le 1 b.0 && nat_le b.0 8) (list_all (is_behind b.0 b.1) branches) rest.0 in
    let most = and_parts (nat_le 1 b.0) (nat_le b.0 8) own.0 in
    let some : nat_lt 0 b.0 ≡ true = most.0 in
    and_from (nat_lt 0 b.0 && nat_le b.0 8) _ (and_from (nat_lt 0 b.0) (nat_le b.0 8) some most.1) (rise b.0 b.1 branches own.1 rest.1)

-- a row that does not wait has one box for each branch
none_for : (count : ℕ) → (not (count == 0) && true) ≡ false → 0 ≡ count
none_for zero idle = refl
none_for (suc count) idle = absurd (grind (arith, nat_tests, idle))

pub one_for_each : (row : Row) (boxes : Option (List Badge)) → MatchOption boxes (Unit {0}) (AreFor row) → (not (length (branches_of row) == 0) && is_none boxes) ≡ false → length (unwrap_or boxes []) ≡ length (branches_of row)
one_for_each row (Some boxes) fitting idle = fitting.counted
one_for_each row None fitting idle = none_for (length (branches_of row)) idle
