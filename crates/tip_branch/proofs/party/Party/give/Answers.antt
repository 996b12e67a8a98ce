use Rattle.std.proofs.Common.{◌≡◌, IsTrue, None, length, map, ap, sym, subst, ◌∙◌}
use Rattle.std.specs.List.{All}
use Rattle.std.proofs.lemmas.List.{length-map}
use Rattle.tip_branch.specs.Members.{are_numbers, numbers_of, forgetting}
use Rattle.tip_branch.specs.Accounts.{Agrees}
use Rattle.tip_branch.proofs.Keeping.{numbers_of-forgetting, Agrees-forgetting, All-forgetting}
use Rattle.tip_branch.proofs.party.Party.give.Goals as goal

pub invariant_of-self : goal.invariant_of-self
invariant_of-self g c = record {
  counted = c.args.self.now.counted ∙ sym (ap length c.forget_calls.ensures ∙ length-map c.args.self.now.roll forgetting);
  numbered = subst (λ ns. IsTrue (are_numbers ns)) (sym (ap numbers_of c.forget_calls.ensures ∙ numbers_of-forgetting c.args.self.now.roll)) c.args.self.now.numbered;
  unanswered = λ _. subst (λ ms. All (λ m. m.call ≡ None) ms) (sym c.forget_calls.ensures) (All-forgetting c.args.self.now.roll);
}

pub returns-clause-agrees : goal.returns-clause-agrees
returns-clause-agrees g c = λ h. subst (λ ms. Agrees ms (map (λ b. (goal.Branch-dyn g (b.vtable, b.value)).standing b.value) c.args.self.now.boxes.items)) (sym c.forget_calls.ensures) (Agrees-forgetting c.args.self.now.roll (map (λ b. (goal.Branch-dyn g (b.vtable, b.value)).standing b.value) c.args.self.now.boxes.items) h)
