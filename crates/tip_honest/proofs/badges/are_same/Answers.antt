use Rattle.std.proofs.Common.{rules, ◌≡◌}
use Rattle.std.specs.Prelude.{Decides}
use Rattle.std.proofs.lemmas.Slice.Eq.{slice_eq-Decides}
use Rattle.tip_branch.specs.contracts.branch.BadgePartialEq.TheImpl as equality
use Rattle.tip_branch.specs.declared.branch.Badge.{Badge}
use Rattle.tip_honest.proofs.badges.are_same.Goals as goal

decides : (a b : Badge) → Decides (equality.eq-value.it a b) (a ≡ b)
decides a b = search rules

pub returns : goal.returns
returns c = slice_eq-Decides {E = equality.eq-value.it} decides c.args.one.now c.args.others.now c.eq.result c.eq.ensures
