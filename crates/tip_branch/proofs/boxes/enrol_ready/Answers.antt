use Rattle.std.proofs.Common.{◌≡◌, ◌∙◌, length, map, sym, arith}
use Rattle.std.proofs.lemmas.Grind.{common_steps}
use Rattle.std.proofs.lemmas.List.{take_all, length-map}
use Rattle.tip_branch.specs.declared.branch.Badge.{Badge}
use Rattle.tip_branch.specs.declared.branch.Plan.TheVariants.{Open}
use Rattle.tip_branch.specs.declared.branch.Phase.TheVariants.{Ready}
use Rattle.tip_branch.specs.Members.{ready_members, untold}
use Rattle.tip_branch.proofs.Places.{enrolled_more, length-new_members}
use Rattle.tip_branch.proofs.boxes.enrol_ready.Goals as goal

pub loop-i-preserved : goal.loop-i-preserved
loop-i-preserved c =
    let nobody : Badge = record { plan = Open; mark = 0 } in
    record {
      enrolled = c.push.ensures ∙ enrolled_more (untold Ready) c.args.numbers.now c.args.known.now c.loop-i.roll c.loop-i.i c.new.result 0 nobody (omega arith) (omega arith) c.requires.counted c.loop-i.invariant.enrolled c.new.ensures;
      counted = grind (arith, common_steps);
    }

pub returns : goal.returns
returns c =
    let known : length (map (untold Ready) c.args.known.now) ≡ length c.args.known.now = length-map c.args.known.now (untold Ready) in
    let all : length (ready_members c.args.numbers.now c.args.known.now) ≡ length c.args.known.now = length-new_members c.args.numbers.now (map (untold Ready) c.args.known.now) (c.requires.counted ∙ sym known) ∙ known in
    c.loop-i.invariant.enrolled ∙ take_all c.loop-i.i (ready_members c.args.numbers.now c.args.known.now) (omega arith)
