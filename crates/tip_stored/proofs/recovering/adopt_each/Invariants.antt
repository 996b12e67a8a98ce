use Rattle.tip_core.specs.Hosted.{Hosted}
use Rattle.tip_recovery.proofs.Giving.{Giving}
use Rattle.tip_stored.specs.Recovering.{HaveBegun}
use Rattle.tip_stored.proofs.TakingUp.{fits_it, with_its}
use Rattle.tip_stored.proofs.recovering.adopt_each.Given as goal

-- each realm that was reached has its boxes
abbrev pub invariant-loop-lots : goal.invariant-loop-lots
invariant-loop-lots g l = record {
  giving : Giving with_its fits_it l.fn.boxes.items l.fn.realms.items l.realms.items l.yielded l.lots-iterator.rest.items l.place;
  begun : (core : Hosted) → HaveBegun core l.fn.realms.items → HaveBegun core l.realms.items;
}
