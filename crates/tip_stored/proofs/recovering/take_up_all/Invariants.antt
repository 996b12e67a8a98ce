use Rattle.std.proofs.Common.{◌≡◌, ℕ, ◌<◌, ◌≤◌, ◌++◌, length}
use Rattle.std.specs.Prelude.{slice_get}
use Rattle.tip_core.specs.Hosted.{HaveNames, free_in, realm}
use Rattle.tip_stored.specs.Recovering.{recovered}
use Rattle.tip_stored.proofs.recovering.take_up_all.Given as goal

-- each realm that was taken is as recovery makes it, and there is room for the others
abbrev pub invariant-loop-recovery : goal.invariant-loop-recovery
invariant-loop-recovery g l = record {
  whole : l.yielded ++ l.recovery-iterator.rest.items ≡ l.fn.realms.items;
  counted : l.place ≡ length l.yielded;
  done : (at : ℕ) → at < l.place → realm l.core at ≡ recovered (slice_get l.fn.realms.items at) (realm l.fn.core at);
  to_come : (at : ℕ) → l.place ≤ at → realm l.core at ≡ realm l.fn.core at;
  names : HaveNames l.core;
  room : (at : ℕ) → l.place ≤ at → free_in at l.core ≡ free_in at l.fn.core;
}
