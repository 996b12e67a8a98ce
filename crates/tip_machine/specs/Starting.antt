-- WHAT A RUN BEGINS WITH (ours): what the start of a process makes of a realm's declaration and of the rows that it finds.
use Rattle.std.specs.Prelude.{◌≡◌, ℕ, ◌+◌, ◌==◌, ◌&&◌, nat_lt, Bool, true, List, [], ◌∷◌, length}
use Rattle.std.specs.List.{list_all}
use Rattle.tip_branch.specs.declared.branch.Badge.{Badge}
use Rattle.tip_line.specs.Words.{is_address, is_realm}
use Rattle.tip_rows.specs.Branches.{are_branches}
use Rattle.tip_rows.specs.Keys.{Key}
use Rattle.tip_rows.specs.Labels.{is_label}
use Rattle.tip_rows.specs.Logs.{is_rising, last_epoch}
use Rattle.tip_rows.specs.Rows.{branches_of}
use Rattle.tip_rows.specs.declared.row.Row.{Row}
use Rattle.tip_machine.specs.Heads.{are_allowed, is_within}
use Rattle.tip_machine.specs.Invariants.{are_known_once}
use Rattle.tip_machine.specs.Invariants.Bounds.{is_spelled}
use Rattle.tip_machine.specs.Moves.{World, loaded}
use Rattle.tip_machine.specs.Recovery.{restarted}
use Rattle.tip_machine.specs.declared.head.Head.{Head}

-- branches are numbered from here on, one by one
abbrev pub are_counted_from : ℕ → List (ℕ × List ℕ) → Bool
are_counted_from number [] = true
are_counted_from number (branch ∷ branches) = (branch.0 == number) && are_counted_from (number + 1) branches

-- the branches that a realm may declare: one to eight, numbered from 1, each with a label of its own
abbrev pub are_declared : List (ℕ × List ℕ) → Bool
are_declared branches = is_within 1 8 (length branches) && are_counted_from 1 branches && are_branches branches && list_all (λ branch. is_label branch.1) branches

-- a realm as it may be declared, at its start: in an epoch that it may have, with nothing counted
abbrev pub is_starting : Head → Bool
is_starting head =
    is_realm head.name && is_address head.address && are_allowed head.limits && are_declared head.branches
    && is_within 1 last_epoch head.epoch && (head.given == 0) && (head.entries == 0)

-- rows of earlier epochs, as an honest run leaves them: by rising key, and none whose identifier could be another's
pub record AreRowsBefore (epoch : ℕ) (rows : List (Key × Row)) : Type 0 where
  pub rising : is_rising rows ≡ true
  pub spelled : list_all (λ stored. is_spelled stored.0) rows ≡ true
  pub earlier : list_all (λ stored. nat_lt stored.0.epoch epoch) rows ≡ true

-- each row's branches get exactly their boxes
abbrev pub are_adopted : (Key → List Badge) → List (Key × Row) → Bool
are_adopted boxes rows = list_all (λ stored. length (boxes stored.0) == length (branches_of stored.1)) rows

pub record IsStart (world : World) : Type 0 where
  pub head : is_starting world.state.head ≡ true
  pub rows : AreRowsBefore world.state.head.epoch world.rows
  -- the boxes that were adopted for the rows' branches
  pub boxes : Key → List Badge
  pub adopted : are_adopted boxes world.rows ≡ true
  pub state : world.state ≡ restarted world.state.head (loaded boxes world.rows)
  -- no two rows in doubt are of one transaction of one superior
  pub known_once : are_known_once world.state ≡ true
  pub errands : world.errands ≡ []
