use Rattle.std.proofs.Common.{map, refl, sym, subst, ◌∙◌, arith}
use Rattle.std.specs.Prelude.{slice_set}
use Rattle.tip_branch.specs.Accounts.{Agrees, AreCalled}
use Rattle.std.proofs.lemmas.Grind.{common_steps}
use Rattle.std.proofs.lemmas.List.{length-map}
use Rattle.tip_branch.proofs.Walks.{same_at, carried_more, carried_stop, carried_end, forgotten_at}
use Rattle.tip_branch.proofs.Accounting.{AreCalled-none, agrees_more, called_more}
use Rattle.tip_branch.proofs.telling.tell_all.Goals as goal

pub loop-i-init : goal.loop-i-init
loop-i-init g c =
    record {
      done = λ rest v. v;
      left = refl;
      counted = refl;
      called = λ h. AreCalled-none c.args.roll.now (map (λ b. (goal.Branch-dyn g (b.vtable, b.value)).standing b.value) c.args.boxes.now) c.requires.forgotten (length-map c.args.boxes.now (λ b. (goal.Branch-dyn g (b.vtable, b.value)).standing b.value) ∙ c.requires.counted);
      agrees = λ h. h;
    }

pub tell-member-requires : goal.tell-member-requires
tell-member-requires g c = forgotten_at c.loop-i.roll c.args.roll.now c.loop-i.i c.get.result (omega arith) c.loop-i.invariant.left c.get.ensures c.requires.forgotten

pub returns-then-said_no-clause-told : goal.returns-then-said_no-clause-told
returns-then-said_no-clause-told g c = rw (c.set.ensures) (carried_stop c.args.errand c.loop-i.roll c.args.roll.now c.loop-i.i c.get.result c.tell-member.result (omega arith) (omega arith) (c.get.ensures ∙ same_at c.loop-i.roll c.args.roll.now c.loop-i.i c.get.result c.loop-i.invariant.left) c.tell-member.ensures.told (sym c.said_no.ensures ∙ c.if-said_no.true) c.loop-i.invariant.left c.loop-i.invariant.done)

pub returns-then-said_no-clause-own : goal.returns-then-said_no-clause-own
returns-then-said_no-clause-own g c = λ h. subst (λ xs. AreCalled xs (map (λ b. (goal.Branch-dyn g (b.vtable, b.value)).standing b.value) c.args.boxes.now) (map (λ b. (goal.Branch-dyn g (b.vtable, b.value)).standing b.value) (slice_set c.loop-i.boxes c.loop-i.i c.tell-member.new.branch))) (sym c.set.ensures) (called_more (λ b. (goal.Branch-dyn g (b.vtable, b.value)).standing b.value) c.loop-i.roll c.loop-i.boxes c.args.boxes.now c.loop-i.i c.get.result c.tell-member.result c.index-boxes-i.result c.tell-member.new.branch (omega arith) (omega arith) c.get.ensures (forgotten_at c.loop-i.roll c.args.roll.now c.loop-i.i c.get.result (omega arith) c.loop-i.invariant.left c.get.ensures c.requires.forgotten) c.tell-member.ensures.own (c.loop-i.invariant.agrees h) (c.loop-i.invariant.called h))

pub returns-then-said_no-clause-agrees : goal.returns-then-said_no-clause-agrees
returns-then-said_no-clause-agrees g c = λ h. subst (λ xs. Agrees xs (map (λ b. (goal.Branch-dyn g (b.vtable, b.value)).standing b.value) (slice_set c.loop-i.boxes c.loop-i.i c.tell-member.new.branch))) (sym c.set.ensures) (agrees_more (λ b. (goal.Branch-dyn g (b.vtable, b.value)).standing b.value) c.loop-i.roll c.loop-i.boxes c.loop-i.i c.get.result c.tell-member.result c.index-boxes-i.result c.tell-member.new.branch (omega arith) (omega arith) c.get.ensures c.tell-member.ensures.stands (c.loop-i.invariant.agrees h))

pub loop-i-preserved : goal.loop-i-preserved
loop-i-preserved g c = record {
  done = rw (c.set.ensures) (carried_more c.args.errand c.loop-i.roll c.args.roll.now c.loop-i.i c.get.result c.tell-member.result (omega arith) (omega arith) (c.get.ensures ∙ same_at c.loop-i.roll c.args.roll.now c.loop-i.i c.get.result c.loop-i.invariant.left) c.tell-member.ensures.told (sym c.said_no.ensures ∙ c.if-said_no.false) c.loop-i.invariant.done);
  left = grind (arith, common_steps);
  counted = grind (arith, common_steps);
  called = λ h. subst (λ xs. AreCalled xs (map (λ b. (goal.Branch-dyn g (b.vtable, b.value)).standing b.value) c.args.boxes.now) (map (λ b. (goal.Branch-dyn g (b.vtable, b.value)).standing b.value) (slice_set c.loop-i.boxes c.loop-i.i c.tell-member.new.branch))) (sym c.set.ensures) (called_more (λ b. (goal.Branch-dyn g (b.vtable, b.value)).standing b.value) c.loop-i.roll c.loop-i.boxes c.args.boxes.now c.loop-i.i c.get.result c.tell-member.result c.index-boxes-i.result c.tell-member.new.branch (omega arith) (omega arith) c.get.ensures (forgotten_at c.loop-i.roll c.args.roll.now c.loop-i.i c.get.result (omega arith) c.loop-i.invariant.left c.get.ensures c.requires.forgotten) c.tell-member.ensures.own (c.loop-i.invariant.agrees h) (c.loop-i.invariant.called h));
  agrees = λ h. subst (λ xs. Agrees xs (map (λ b. (goal.Branch-dyn g (b.vtable, b.value)).standing b.value) (slice_set c.loop-i.boxes c.loop-i.i c.tell-member.new.branch))) (sym c.set.ensures) (agrees_more (λ b. (goal.Branch-dyn g (b.vtable, b.value)).standing b.value) c.loop-i.roll c.loop-i.boxes c.loop-i.i c.get.result c.tell-member.result c.index-boxes-i.result c.tell-member.new.branch (omega arith) (omega arith) c.get.ensures c.tell-member.ensures.stands (c.loop-i.invariant.agrees h));
}

pub returns-clause-told : goal.returns-clause-told
returns-clause-told g c = carried_end c.args.errand c.loop-i.roll c.args.roll.now c.loop-i.i (omega arith) (omega arith) c.loop-i.invariant.done
