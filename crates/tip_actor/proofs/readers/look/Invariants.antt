use Rattle.tip_actor.proofs.Busy.{IsLooking}
use Rattle.tip_actor.proofs.readers.look.Given as goal

-- those asked so far have no line that may be taken, and these are left
abbrev pub invariant-loop-index : goal.invariant-loop-index
invariant-loop-index g l = IsLooking l.core l.place l.busy.keys l.index-iterator l.fn.all.items l.all.items l.idle
