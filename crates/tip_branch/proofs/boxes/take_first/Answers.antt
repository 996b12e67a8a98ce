use Rattle.std.proofs.Common.{◌++◌, ◌∷◌, [], ◌∙◌, reverse, sym, ap, arith}
use Rattle.std.proofs.lemmas.Grind.{common_steps}
use Rattle.tip_branch.proofs.Enrolling.{popped_taken, popped_left, popped_noted}
use Rattle.tip_branch.proofs.boxes.take_first.Goals as goal

pub loop-i-preserved : goal.loop-i-preserved
loop-i-preserved g c = record {
  noted = c.push.ensures ∙ ap (λ m. c.loop-i.roll ++ m ∷ []) c.new.ensures ∙ popped_noted (reverse c.args.known.now.items) c.loop-i.known.items c.pop-in-loop-i.new.self.items c.loop-i.i c.in-Some-Some.badge c.loop-i.roll c.loop-i.invariant.known_left c.in-Some-Some.ensures'.items c.loop-i.invariant.noted c.loop-i.invariant.enrolled;
  known_left = popped_left (reverse c.args.known.now.items) c.loop-i.known.items c.pop-in-loop-i.new.self.items c.loop-i.i c.in-Some-Some.badge c.loop-i.invariant.known_left c.in-Some-Some.ensures'.items;
  taken = c.put.ensures.added ∙ ap (λ bs. bs ++ c.in-Some-Some.branch ∷ []) c.loop-i.invariant.taken ∙ sym (popped_taken (reverse c.args.from.now.items) c.loop-i.from.items c.pop.new.self.items c.loop-i.i c.in-Some-Some.branch c.loop-i.invariant.left c.in-Some-Some.ensures.items);
  left = popped_left (reverse c.args.from.now.items) c.loop-i.from.items c.pop.new.self.items c.loop-i.i c.in-Some-Some.branch c.loop-i.invariant.left c.in-Some-Some.ensures.items;
  counted = omega (arith, c.in-Some-Some.ensures.cases, c.in-Some-Some.ensures'.cases);
  enrolled = grind (arith, common_steps);
  filled = omega (arith, c.put.ensures.len);
  room = omega arith;
}
