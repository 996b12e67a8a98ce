use Rattle.std.proofs.Common.{◌≡◌, ◌<◌, ◌+◌, ◌∙◌, ◌++◌, ◌∷◌, [], ap, arith, length, slice_set, subst, sym, take}
use Rattle.std.proofs.lemmas.List.{length-set, length-take, take_more_set}
use Rattle.tip_branch.proofs.roll.Roll.push.Goals as goal

pub replace-requires : goal.replace-requires
replace-requires c =
    let size : length (take c.self.inside.len c.self.inside.members.value) < 8 = subst (λ ms. length ms < 8) (sym c.self.view_is) c.requires in
    grind (arith, length-take, c.self.invariant)

pub invariant_of-self : goal.invariant_of-self
invariant_of-self c =
    let size : length (take c.self.inside.len c.self.inside.members.value) < 8 = subst (λ ms. length ms < 8) (sym c.self.view_is) c.requires in
    let long : length c.replace.new.members ≡ 8 = ap length c.replace.ensures ∙ length-set c.deref_mut.result.now c.self.inside.len c.args.member ∙ ap length c.deref_mut.ensures.value ∙ c.self.invariant.1 in
    (grind (arith, length-take, c.self.invariant), long)

pub returns : goal.returns
returns c =
    let size : length (take c.self.inside.len c.self.inside.members.value) < 8 = subst (λ ms. length ms < 8) (sym c.self.view_is) c.requires in
    let within : c.self.inside.len < length c.self.inside.members.value = grind (arith, length-take, c.self.invariant) in
    ap (take (c.self.inside.len + 1)) (c.replace.ensures ∙ ap (λ ms. slice_set ms c.self.inside.len c.args.member) c.deref_mut.ensures.value) ∙ take_more_set c.self.inside.members.value c.self.inside.len c.args.member within ∙ ap (λ ms. ms ++ c.args.member ∷ []) c.self.view_is
