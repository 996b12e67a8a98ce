use Rattle.std.proofs.Common.{◌≡◌, ◌<◌, true, false, refl, length, sym, subst, ◌∙◌, arith}
use Rattle.std.specs.List.{All}
use Rattle.std.proofs.lemmas.List.Elements.{All-map}
use Rattle.std.proofs.lemmas.List.{take_all}
use Rattle.tip_branch.specs.declared.branch.Standing.{Standing}
use Rattle.tip_branch.proofs.Places.{All-seen_more, All-seen_not}
use Rattle.tip_branch.proofs.boxes.are_all_in.Goals as goal

pub returns-then-not-is_in : goal.returns-then-not-is_in
returns-then-not-is_in g c =
    let within : c.loop-branch.branch-index < length c.args.boxes.now = omega arith in
    let P : Standing → Type 0 = λ s. s.phase ≡ c.args.phase in
    (λ e. absurd (let f : false ≡ true = e in cc), λ h. absurd (All-seen_not P (λ b. (goal.Branch-dyn g (b.vtable, b.value)).standing b.value) c.args.boxes.now c.loop-branch.branch-index c.branch-item.result within (λ p. let e : c.is_in.result ≡ true = c.is_in.ensures.1 (subst (λ b. P ((goal.Branch-dyn g (b.vtable, b.value)).standing b.value)) (sym c.branch-item.is) p) in let f : c.is_in.result ≡ false = c.if-not-is_in.true in let z : false ≡ true = sym f ∙ e in cc) h))

pub loop-branch-preserved : goal.loop-branch-preserved
loop-branch-preserved g c =
    let within : c.loop-branch.branch-index < length c.args.boxes.now = omega arith in
    let P : Standing → Type 0 = λ s. s.phase ≡ c.args.phase in
    All-seen_more P (λ b. (goal.Branch-dyn g (b.vtable, b.value)).standing b.value) c.args.boxes.now c.loop-branch.branch-index c.branch-item.result within c.loop-branch.invariant (subst (λ b. P ((goal.Branch-dyn g (b.vtable, b.value)).standing b.value)) c.branch-item.is (c.is_in.ensures.0 c.if-not-is_in.false))

pub returns : goal.returns
returns g c =
    let P : Standing → Type 0 = λ s. s.phase ≡ c.args.phase in
    (λ e. All-map P (λ b. (goal.Branch-dyn g (b.vtable, b.value)).standing b.value) c.args.boxes.now (subst (λ xs. All (λ b. P ((goal.Branch-dyn g (b.vtable, b.value)).standing b.value)) xs) (take_all c.loop-branch.branch-index c.args.boxes.now (omega arith)) c.loop-branch.invariant), λ h. refl)
