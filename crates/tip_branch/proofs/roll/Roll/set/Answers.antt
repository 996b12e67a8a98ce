use Rattle.std.proofs.Common.{◌∙◌, ap, length, slice_set, take}
use Rattle.std.proofs.lemmas.List.{length-set}
use Rattle.tip_branch.proofs.Places.{taken_set}
use Rattle.tip_branch.proofs.roll.Roll.set.Goals as goal

pub invariant_of-self : goal.invariant_of-self
invariant_of-self c = (c.self.invariant.0, ap length c.replace.ensures ∙ length-set c.deref_mut.result.now c.args.index c.args.member ∙ ap length c.deref_mut.ensures.value ∙ c.self.invariant.1)

pub returns : goal.returns
returns c =
    ap (take c.self.inside.len) (c.replace.ensures ∙ ap (λ ms. slice_set ms c.args.index c.args.member) c.deref_mut.ensures.value) ∙ taken_set c.self.inside.members.value c.self.inside.len c.args.index c.args.member ∙ ap (λ ms. slice_set ms c.args.index c.args.member) c.self.view_is
