-- The boxes of a script: those that come with its lines, and those for rows of realms that start.
use Rattle.std.specs.Prelude.{◌≡◌, ℕ, ◌+◌, Bool, true, List, [], ◌∷◌, Option, None, Some, length, if◌then◌else◌}
use Rattle.std.specs.Str.{bytes_eq}
use Rattle.tip_branch.specs.Members.{untold}
use Rattle.tip_branch.specs.declared.branch.Phase.TheVariants.{Ready}
use Rattle.tip_branch.specs.declared.branch.Plan.TheVariants.{Yes}
use Rattle.tip_branch.specs.declared.branch.Standing.{Standing}
use Rattle.tip_recovery.specs.Adopting.{Recovery, Unfinished}
use Rattle.tip_rows.specs.Keys.{Key}
use Rattle.tip_rows.specs.Rows.{branches_of}
use Rattle.tip_rows.specs.declared.row.Row.{Row}
use Rattle.tip_actor.specs.Acting.{Acting}

-- a branch of a row that waits for its outcome, and promises to commit
abbrev pub willing_branch : Standing
willing_branch = untold Ready (record { plan = Yes; mark = 0 })

abbrev pub AreWilling : List Standing → Type 0
AreWilling [] = Unit {0}
AreWilling (box ∷ boxes) = (box ≡ willing_branch) × AreWilling boxes

-- how many branches rows have
abbrev pub row_count : List Unfinished → ℕ
row_count [] = 0
row_count (row ∷ rows) = length (branches_of row.row) + row_count rows

-- and the rows of all realms
abbrev pub branch_count : List Recovery → ℕ
branch_count [] = 0
branch_count (recovery ∷ realms) = row_count recovery.rows + branch_count realms

-- the same of rows that are stored
abbrev pub boxes_for : List (Key × Row) → ℕ
boxes_for [] = 0
boxes_for (stored ∷ rows) = length (branches_of stored.1) + boxes_for rows

-- the realm of a name is meant, or all are where no name is given
abbrev pub is_meant : Option (List ℕ) → List ℕ → Bool
is_meant None name = true
is_meant (Some only) name = bytes_eq name only

abbrev pub boxes_if_meant : Option (List ℕ) → List ℕ → List (Key × Row) → ℕ
boxes_if_meant only name rows = if is_meant only name then boxes_for rows else 0

-- and of those of the realms of a scene that are meant
abbrev pub box_count : Option (List ℕ) → List Acting → ℕ
box_count only [] = 0
box_count only (acting ∷ scene) = boxes_if_meant only acting.name acting.world.rows + box_count only scene
