-- What a plan promises.
use Rattle.std.specs.Prelude.{ℕ, ◌==◌, Option, Some, None, if◌then◌else◌}
use Rattle.tip_branch.specs.declared.branch.Plan.{Plan}
use Rattle.tip_branch.specs.declared.branch.Plan.TheVariants as plans
use Rattle.tip_branch.specs.declared.branch.Vote.{Vote}
use Rattle.tip_branch.specs.declared.branch.Vote.TheVariants as votes
use Rattle.tip_branch.specs.declared.branch.Settled.{Settled}
use Rattle.tip_branch.specs.declared.branch.Settled.TheVariants.{Done, Later}

-- the vote that a plan promises; an open one promises none
abbrev pub planned_vote : Plan → Option Vote
planned_vote plans.Open = None
planned_vote plans.Yes = Some votes.Yes
planned_vote plans.No = Some votes.No
planned_vote plans.ReadOnly = Some votes.ReadOnly
planned_vote plans.Late = Some votes.Yes

-- the answer that a plan promises to a commit before which there were n others
abbrev pub planned_answer : Plan → ℕ → Option Settled
planned_answer plans.Open n = None
planned_answer plans.Yes n = Some Done
planned_answer plans.No n = Some Done
planned_answer plans.ReadOnly n = Some Done
planned_answer plans.Late n = Some (if n == 0 then Later else Done)
