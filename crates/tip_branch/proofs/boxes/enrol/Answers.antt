use Rattle.std.proofs.Common.{◌≡◌, ◌∙◌, length, map, get_or, sym, ap, arith}
use Rattle.std.proofs.lemmas.Grind.{common_steps}
use Rattle.std.proofs.lemmas.List.{take_all, length-map}
use Rattle.tip_branch.specs.Members.{new_member, new_members}
use Rattle.tip_branch.proofs.Places.{enrolled_more, length-new_members}
use Rattle.tip_branch.proofs.boxes.enrol.Goals as goal

pub loop-i-preserved : goal.loop-i-preserved
loop-i-preserved g c = record {
  enrolled = c.push.ensures ∙ enrolled_more (λ b. (goal.Branch-dyn g (b.vtable, b.value)).standing b.value) c.args.numbers.now c.args.boxes.now c.loop-i.roll c.loop-i.i c.member_for.result 0 c.index-boxes-i.result (omega arith) (omega arith) c.requires.counted c.loop-i.invariant.enrolled (c.member_for.ensures ∙ ap (λ b. new_member (get_or c.args.numbers.now c.loop-i.i 0) ((goal.Branch-dyn g (b.vtable, b.value)).standing b.value).badge ((goal.Branch-dyn g (b.vtable, b.value)).standing b.value).phase) c.index-boxes-i.is);
  counted = grind (arith, common_steps);
}

pub returns : goal.returns
returns g c =
    let all : length (new_members c.args.numbers.now (map (λ b. (goal.Branch-dyn g (b.vtable, b.value)).standing b.value) c.args.boxes.now)) ≡ length c.args.boxes.now = length-new_members c.args.numbers.now (map (λ b. (goal.Branch-dyn g (b.vtable, b.value)).standing b.value) c.args.boxes.now) (c.requires.counted ∙ sym (length-map c.args.boxes.now (λ b. (goal.Branch-dyn g (b.vtable, b.value)).standing b.value))) ∙ length-map c.args.boxes.now (λ b. (goal.Branch-dyn g (b.vtable, b.value)).standing b.value) in
    c.loop-i.invariant.enrolled ∙ take_all c.loop-i.i (new_members c.args.numbers.now (map (λ b. (goal.Branch-dyn g (b.vtable, b.value)).standing b.value) c.args.boxes.now)) (omega arith)
