use Rattle.std.proofs.Common.{◌≡◌, ◌≤◌, ◌∙◌, None, IsTrue, length, map, take, ap, sym, subst, arith}
use Rattle.std.specs.List.{All}
use Rattle.std.proofs.lemmas.Grind.{common_steps}
use Rattle.tip_branch.specs.Members.{are_numbers, numbers_of, fresh_members}
use Rattle.tip_branch.specs.Accounts.{Agrees}
use Rattle.tip_branch.specs.Parties.{boxes_of}
use Rattle.tip_branch.specs.Lots.{badges, boxes_in, AreIn}
use Rattle.tip_branch.proofs.Enrolling.{are_numbers-fresh_members, All-fresh_members, Agrees-first}
use Rattle.tip_branch.proofs.party.Party.of_first.Goals as goal

pub with_roll-requires-clause-rising : goal.with_roll-requires-clause-rising
with_roll-requires-clause-rising g c =
    let first = take c.room.inside.count (badges c.args.lot.now) in
    let few : length first ≤ 8 = grind (arith, common_steps, c.room.invariant) in
    subst (λ ms. IsTrue (are_numbers (numbers_of ms))) (sym c.take_first-roll.ensures.noted) (are_numbers-fresh_members first few)

pub with_roll-requires-clause-forgotten : goal.with_roll-requires-clause-forgotten
with_roll-requires-clause-forgotten g c = subst (λ ms. All (λ m. m.call ≡ None) ms) (sym c.take_first-roll.ensures.noted) (All-fresh_members 1 (take c.room.inside.count (badges c.args.lot.now)))

pub returns-clause-agrees : goal.returns-clause-agrees
returns-clause-agrees g c = λ agrees active.
    let noted : c.with_roll.result.roll ≡ fresh_members 1 (take c.room.inside.count (badges c.args.lot.now)) = ap (λ p. p.members) c.with_roll.ensures.noted ∙ c.take_first-roll.ensures.noted in
    let taken : boxes_of c.with_roll.result ≡ take c.room.inside.count (boxes_in c.args.lot.now) = c.with_roll.ensures.same ∙ c.take_first-roll.ensures.taken in
    let first : Agrees (fresh_members 1 (take c.room.inside.count (badges c.args.lot.now))) (map (λ b. (goal.Branch-dyn g (b.vtable, b.value)).standing b.value) (take c.room.inside.count (boxes_in c.args.lot.now))) = Agrees-first (λ b. (goal.Branch-dyn g (b.vtable, b.value)).standing b.value) (boxes_in c.args.lot.now) (badges c.args.lot.now) c.room.inside.count agrees.known (subst (λ f. AreIn f (map (λ b. (goal.Branch-dyn g (b.vtable, b.value)).standing b.value) (boxes_in c.args.lot.now))) active agrees.phase) in
    subst (λ ms. Agrees ms (map (λ b. (goal.Branch-dyn g (b.vtable, b.value)).standing b.value) (boxes_of c.with_roll.result))) (sym noted) (subst (λ bs. Agrees (fresh_members 1 (take c.room.inside.count (badges c.args.lot.now))) (map (λ b. (goal.Branch-dyn g (b.vtable, b.value)).standing b.value) bs)) (sym taken) first)
