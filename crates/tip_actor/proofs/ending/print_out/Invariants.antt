use Rattle.std.proofs.Common.{◌≡◌, ◌++◌, string_bytes}
use Rattle.std.specs.VecDeque.Iter.{deque_iter_rest}
use Rattle.tip_actor.proofs.Leaving.{left_out}
use Rattle.tip_actor.proofs.ending.print_out.Given as goal

-- what was printed, and then the text of what is left, is what all print
abbrev pub invariant-loop-party : goal.invariant-loop-party
invariant-loop-party g l = string_bytes l.printed ++ left_out l.fn.name (deque_iter_rest l.party-iterator) ≡ string_bytes l.fn.printed ++ left_out l.fn.name l.fn.errands.items
