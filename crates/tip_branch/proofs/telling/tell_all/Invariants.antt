use Rattle.std.proofs.Common.{◌≡◌, ◌++◌, List, length, map, take, drop}
use Rattle.tip_branch.specs.declared.member.Member.{Member}
use Rattle.tip_branch.specs.Errands.{IsCarriedOut}
use Rattle.tip_branch.specs.Accounts.{Agrees, AreCalled}
use Rattle.tip_branch.proofs.telling.tell_all.Given as goal

abbrev pub invariant-loop-i : goal.invariant-loop-i
invariant-loop-i g l = record {
  done : (rest : List Member) → IsCarriedOut l.errand (drop l.i l.initial.roll) rest → IsCarriedOut l.errand l.initial.roll (take l.i l.roll ++ rest);
  left : drop l.i l.roll ≡ drop l.i l.initial.roll;
  counted : length l.roll ≡ length l.initial.roll;
  called : Agrees l.initial.roll (map (λ b. (goal.Branch-dyn g (b.vtable, b.value)).standing b.value) l.initial.boxes) → AreCalled l.roll (map (λ b. (goal.Branch-dyn g (b.vtable, b.value)).standing b.value) l.initial.boxes) (map (λ b. (goal.Branch-dyn g (b.vtable, b.value)).standing b.value) l.boxes);
  agrees : Agrees l.initial.roll (map (λ b. (goal.Branch-dyn g (b.vtable, b.value)).standing b.value) l.initial.boxes) → Agrees l.roll (map (λ b. (goal.Branch-dyn g (b.vtable, b.value)).standing b.value) l.boxes);
}
