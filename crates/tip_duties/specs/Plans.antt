-- The boxes that come with a connection (ours).
use Rattle.std.specs.Prelude.{ℕ, zero, suc, List, [], ◌++◌}
use Rattle.tip_branch.specs.declared.branch.Plan.{Plan}

-- the branches of so many transactions, one after another
abbrev pub repeated : ℕ → List Plan → List Plan
repeated zero branches = []
repeated (suc times) branches = repeated times branches ++ branches
