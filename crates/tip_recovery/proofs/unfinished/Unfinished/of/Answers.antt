use Rattle.std.proofs.Common.{◌∙◌, ap, map, rules, ℕ, List}
use Rattle.tip_recovery.proofs.Readying.{numbers_rise}
use Rattle.tip_recovery.proofs.unfinished.Unfinished.of.Goals as goal

pub invariant_of-result : goal.invariant_of-result
invariant_of-result g c = record {
  named = search rules;
  numbered = c.in_ok-numbers.ensures ∙ ap (map (λ (branch : ℕ × List ℕ). branch.0)) c.branches_of.ensures.same;
  rising = rw c.in_ok-numbers.ensures (numbers_rise c.branches_of.result.now c.branches_of.ensures.branches);
  promised = search rules;
  fitting = tt;
}
