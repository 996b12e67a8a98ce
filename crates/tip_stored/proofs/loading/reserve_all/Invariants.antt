use Rattle.std.proofs.Common.{◌≡◌, ◌≢◌, ◌<◌, ◌≤◌, ℕ, None, Some, length}
use Rattle.std.specs.Prelude.{slice_get}
use Rattle.tip_core.specs.Hosted.{HaveNames, free_in, realm}
use Rattle.tip_recovery.specs.Adopting.{Recovery}
use Rattle.tip_stored.proofs.loading.reserve_all.Given as goal

-- each realm so far has its room
abbrev pub invariant-loop-place : goal.invariant-loop-place
invariant-loop-place g l = record {
  realms : (at : ℕ) → realm l.core at ≡ realm l.fn.core at;
  room : (at : ℕ) (recovery : Recovery) → at < l.place → slice_get l.realms at ≡ Some recovery → realm l.fn.core at ≢ None → length recovery.rows ≤ free_in at l.core;
  names : HaveNames l.core;
}
