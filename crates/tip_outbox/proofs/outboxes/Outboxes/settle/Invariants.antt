use Rattle.std.proofs.Common.{◌≡◌, ℕ}
use Rattle.std.specs.VecDeque.{deque_len}
use Rattle.tip_outbox.specs.Waiting.{waiting}
use Rattle.tip_outbox.proofs.outboxes.Outboxes.settle.Given as goal

-- all that waits is as it was
abbrev pub invariant-loop-sent : goal.invariant-loop-sent
invariant-loop-sent l = (realm number : ℕ) → waiting l.self realm number ≡ waiting l.initial.self realm number

abbrev pub decreases-loop-sent : goal.decreases-loop-sent
decreases-loop-sent l = deque_len l.self.last
