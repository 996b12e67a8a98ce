-- Tables that have nothing, one after another.
use Rattle.std.proofs.Common.{ap, arith, length, subst, sym}
use Rattle.std.proofs.lemmas.Grind.{common_steps}
use Rattle.tip_core.specs.Starting.{AreEmpty}
use Rattle.tip_core.proofs.Stepping.{empty_more, none_empty}
use Rattle.tip_core.proofs.machine.tables_of.Goals as goal

pub loop-init : goal.loop-init
loop-init g c = record {
  counted = ap length c.in_ok-tables.ensures.items;
  empty = subst AreEmpty (sym c.in_ok-tables.ensures.items) none_empty;
}

pub loop-preserved : goal.loop-preserved
loop-preserved g c = record {
  counted = grind (arith, common_steps);
  empty = subst AreEmpty (sym c.in_ok-push.ensures.items) (empty_more c.loop.tables.items c.new.result c.loop.invariant.empty c.new.ensures.connections c.new.ensures.transactions);
}
