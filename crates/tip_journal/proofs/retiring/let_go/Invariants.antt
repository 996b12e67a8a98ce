use Rattle.std.proofs.Common.{◌≡◌, drop, map, take}
use Rattle.tip_journal.specs.Pass.{others}
use Rattle.tip_journal.proofs.retiring.let_go.Given as goal

abbrev pub invariant-loop-pass : goal.invariant-loop-pass
invariant-loop-pass g l = record {
  done : map (λ pass. pass.noted) (take l.pass-index l.passes) ≡ map (λ pass. others l.realm l.epoch pass.noted) (take l.pass-index l.initial.passes);
  left : drop l.pass-index l.passes ≡ drop l.pass-index l.initial.passes;
}
