-- The branches of a realm that names none.
use Rattle.std.proofs.Common.{◌≡◌, ◌≤◌, true, ℕ, zero, suc, refl, arith}
use Rattle.tip_rows.specs.Branches.{are_branches}
use Rattle.tip_scene.specs.Acts.{first_branches}

pub first_are_branches : (count : ℕ) → count ≤ 8 → are_branches (first_branches count) ≡ true
first_are_branches zero le = refl
first_are_branches (suc zero) le = refl
first_are_branches (suc (suc zero)) le = refl
first_are_branches (suc (suc (suc zero))) le = refl
first_are_branches (suc (suc (suc (suc zero)))) le = refl
first_are_branches (suc (suc (suc (suc (suc zero))))) le = refl
first_are_branches (suc (suc (suc (suc (suc (suc zero)))))) le = refl
first_are_branches (suc (suc (suc (suc (suc (suc (suc zero))))))) le = refl
first_are_branches (suc (suc (suc (suc (suc (suc (suc (suc zero)))))))) le = refl
first_are_branches (suc (suc (suc (suc (suc (suc (suc (suc (suc n))))))))) le = absurd (omega (arith, le))
