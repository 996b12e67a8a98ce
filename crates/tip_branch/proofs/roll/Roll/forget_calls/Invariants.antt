use Rattle.std.proofs.Common.{◌≡◌, map, length, take, drop}
use Rattle.tip_branch.specs.Members.{forgetting}
use Rattle.tip_branch.proofs.roll.Roll.forget_calls.Given as goal

abbrev pub invariant-loop-i : goal.invariant-loop-i
invariant-loop-i l = record {
  done : take l.i l.self ≡ map forgetting (take l.i l.initial.self);
  left : drop l.i l.self ≡ drop l.i l.initial.self;
  counted : length l.self ≡ length l.initial.self;
}
