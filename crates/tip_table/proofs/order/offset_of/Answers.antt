-- It is one of those that were looked at.
use Rattle.std.proofs.Common.{◌≡◌, ◌-◌, ◌==◌, arith, false, get_or, inl, inr, subst, sym}
use Rattle.std.proofs.lemmas.Bool.{cases_Bool}
use Rattle.std.proofs.lemmas.Bool.Decides.{nat_tests}
use Rattle.tip_table.proofs.KeyLemmas.{differs, is_somewhere}
use Rattle.tip_table.proofs.order.offset_of.Goals as goal

pub loop-end-preserved : goal.loop-end-preserved
loop-end-preserved c =
    let here = c.loop-end.end - 1 in
    let some = c.loop-end-test.true in
    let before = c.loop-end.invariant.within in
    record {
      within = omega (arith, before);
      none = λ k least within. elim (cases_Bool (k == here)) [
        | inl same ↦
            let is : k ≡ here = grind (arith, nat_tests, same) in
            let apart = c.if-keys-end.false in
            let unlike : (get_or c.args.keys.now here 0 == c.args.key) ≡ false = grind (arith, nat_tests, apart) in
            subst (λ n. (get_or c.args.keys.now n 0 == c.args.key) ≡ false) (sym is) unlike
        | inr other ↦ let apart = differs k here other in c.loop-end.invariant.none k (omega (arith, least, apart, some)) within
      ];
    }

pub unreachable-requires : goal.unreachable-requires
unreachable-requires c = let none = c.loop-end-test.false in is_somewhere c.args.keys.now c.args.key c.requires (λ k within. c.loop-end.invariant.none k (omega (arith, none)) within)
