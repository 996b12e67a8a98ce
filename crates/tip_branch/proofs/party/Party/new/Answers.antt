use Rattle.std.proofs.Common.{◌≡◌, ◌∙◌, IsTrue, None, length, map, ap, sym, subst, arith}
use Rattle.std.specs.List.{All}
use Rattle.std.proofs.lemmas.List.{length-map}
use Rattle.tip_branch.specs.Members.{are_numbers, numbers_of, new_members}
use Rattle.tip_branch.specs.Accounts.{Agrees}
use Rattle.tip_branch.proofs.Keeping.{length-are_numbers, numbers_of-new_members, Agrees-new_members, All-new_members}
use Rattle.tip_branch.proofs.Places.{length-new_members}
use Rattle.tip_branch.proofs.party.Party.new.Goals as goal

pub enrol-roll-requires-clause-few : goal.enrol-roll-requires-clause-few
enrol-roll-requires-clause-few g c = let few = length-are_numbers c.args.numbers.items c.requires.rising in omega arith

pub invariant_of-result : goal.invariant_of-result
invariant_of-result g c =
    let own = map (λ b. (goal.Branch-dyn g (b.vtable, b.value)).standing b.value) c.args.boxes.items in
    let counted : length c.args.numbers.items ≡ length own = grind (arith, length-map c.args.boxes.items (λ b. (goal.Branch-dyn g (b.vtable, b.value)).standing b.value)) in
    let enrolled : c.enrol-roll.result ≡ new_members c.args.numbers.items own = grind (arith) in
    let size : length c.enrol-roll.result ≡ length c.args.boxes.items = ap length enrolled ∙ length-new_members c.args.numbers.items own counted ∙ length-map c.args.boxes.items (λ b. (goal.Branch-dyn g (b.vtable, b.value)).standing b.value) in
    record {
      counted = omega arith;
      numbered = subst (λ ns. IsTrue (are_numbers ns)) (sym (ap numbers_of enrolled ∙ numbers_of-new_members c.args.numbers.items own counted)) c.requires.rising;
      unanswered = λ _. subst (λ ms. All (λ m. m.call ≡ None) ms) (sym enrolled) (All-new_members c.args.numbers.items own);
    }

pub returns-clause-agrees : goal.returns-clause-agrees
returns-clause-agrees g c =
    let own = map (λ b. (goal.Branch-dyn g (b.vtable, b.value)).standing b.value) c.args.boxes.items in
    let counted : length c.args.numbers.items ≡ length own = grind (arith, length-map c.args.boxes.items (λ b. (goal.Branch-dyn g (b.vtable, b.value)).standing b.value)) in
    let enrolled : c.enrol-roll.result ≡ new_members c.args.numbers.items own = grind (arith) in
    subst (λ ms. Agrees ms own) (sym enrolled) (Agrees-new_members c.args.numbers.items own counted)
