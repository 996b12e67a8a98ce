use Rattle.std.proofs.Common.{◌≡◌, None, IsTrue, length, map, sym, ap, subst, ◌∙◌, arith}
use Rattle.std.specs.List.{All}
use Rattle.std.proofs.lemmas.Grind.{common_steps}
use Rattle.std.proofs.lemmas.List.{length-map}
use Rattle.tip_branch.specs.Accounts.{Agrees}
use Rattle.tip_branch.specs.declared.branch.Phase.TheVariants.{Ready}
use Rattle.tip_branch.specs.Members.{are_numbers, numbers_of, ready_members, untold}
use Rattle.tip_branch.specs.Lots.{AreIn, badges, badges_of, boxes_in}
use Rattle.tip_branch.specs.Parties.{boxes_of}
use Rattle.tip_branch.proofs.Enrolling.{Agrees-ready_members}
use Rattle.tip_branch.proofs.Keeping.{length-are_numbers, numbers_of-new_members, All-new_members}
use Rattle.tip_branch.proofs.Places.{length-new_members}
use Rattle.tip_branch.proofs.party.Party.of_ready.Goals as goal

pub take_all-roll-requires-clause-few : goal.take_all-roll-requires-clause-few
take_all-roll-requires-clause-few g c = length-are_numbers c.args.numbers.now c.requires.rising

pub with_roll-requires-clause-counted : goal.with_roll-requires-clause-counted
with_roll-requires-clause-counted g c =
    let known = map (untold Ready) (badges c.args.lot) in
    let counted : length c.args.numbers.now ≡ length known = c.requires.counted ∙ sym (length-map (badges c.args.lot) (untold Ready)) in
    let size : length c.take_all-roll.result.0 ≡ length (badges c.args.lot) = ap length c.take_all-roll.ensures.noted ∙ length-new_members c.args.numbers.now known counted ∙ length-map (badges c.args.lot) (untold Ready) in
    grind (arith, common_steps, c.args.lot.counted)

pub with_roll-requires-clause-rising : goal.with_roll-requires-clause-rising
with_roll-requires-clause-rising g c =
    let known = map (untold Ready) (badges c.args.lot) in
    let counted : length c.args.numbers.now ≡ length known = c.requires.counted ∙ sym (length-map (badges c.args.lot) (untold Ready)) in
    subst (λ ns. IsTrue (are_numbers ns)) (sym (ap numbers_of c.take_all-roll.ensures.noted ∙ numbers_of-new_members c.args.numbers.now known counted)) c.requires.rising

pub with_roll-requires-clause-forgotten : goal.with_roll-requires-clause-forgotten
with_roll-requires-clause-forgotten g c = subst (λ ms. All (λ m. m.call ≡ None) ms) (sym c.take_all-roll.ensures.noted) (All-new_members c.args.numbers.now (map (untold Ready) (badges c.args.lot)))

pub returns-clause-agrees : goal.returns-clause-agrees
returns-clause-agrees g c = λ agrees ready.
    let own = map (λ b. (goal.Branch-dyn g (b.vtable, b.value)).standing b.value) (boxes_in c.args.lot) in
    let noted : c.with_roll.result.roll ≡ ready_members c.args.numbers.now (badges c.args.lot) = ap (λ p. p.members) c.with_roll.ensures.noted ∙ c.take_all-roll.ensures.noted in
    let taken : boxes_of c.with_roll.result ≡ boxes_in c.args.lot = c.with_roll.ensures.same ∙ c.take_all-roll.ensures.taken in
    let counted : length c.args.numbers.now ≡ length own = c.requires.counted ∙ ap length (sym agrees.known) ∙ length-map own (λ s. s.badge) in
    let all : Agrees (ready_members c.args.numbers.now (badges_of own)) own = Agrees-ready_members c.args.numbers.now own counted (subst (λ f. AreIn f own) ready agrees.phase) in
    let all_known : Agrees (ready_members c.args.numbers.now (badges c.args.lot)) own = subst (λ ks. Agrees (ready_members c.args.numbers.now ks) own) agrees.known all in
    subst (λ ms. Agrees ms (map (λ b. (goal.Branch-dyn g (b.vtable, b.value)).standing b.value) (boxes_of c.with_roll.result))) (sym noted) (subst (λ bs. Agrees (ready_members c.args.numbers.now (badges c.args.lot)) (map (λ b. (goal.Branch-dyn g (b.vtable, b.value)).standing b.value) bs)) (sym taken) all_known)
