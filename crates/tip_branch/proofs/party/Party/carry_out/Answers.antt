use Rattle.std.proofs.Common.{IsTrue, refl, sym, subst, ◌∙◌}
use Rattle.tip_branch.specs.Members.{are_numbers}
use Rattle.tip_branch.proofs.Keeping.{numbers_of-IsCarriedOut, length-IsCarriedOut}
use Rattle.tip_branch.proofs.party.Party.carry_out.Goals as goal

pub invariant_of-self : goal.invariant_of-self
invariant_of-self g c = record {
  counted = c.args.self.now.counted ∙ sym (length-IsCarriedOut c.args.self.now.errand c.args.self.now.roll c.tell_all.new.roll c.tell_all.ensures.told);
  numbered = subst (λ ns. IsTrue (are_numbers ns)) (sym (numbers_of-IsCarriedOut c.args.self.now.errand c.args.self.now.roll c.tell_all.new.roll c.tell_all.ensures.told)) c.args.self.now.numbered;
  unanswered = λ busy. absurd (busy refl);
}
