use Rattle.std.proofs.Common.{◌≡◌, drop}
use Rattle.tip_branch.specs.Members.{member_of}
use Rattle.tip_branch.proofs.roll.Roll.find.Given as goal

abbrev pub invariant-loop-member : goal.invariant-loop-member
invariant-loop-member l = member_of l.number l.self ≡ member_of l.number (drop l.member-index l.self)
