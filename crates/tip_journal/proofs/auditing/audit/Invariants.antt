use Rattle.std.proofs.Common.{◌<◌, [], length, take}
use Rattle.tip_journal.proofs.Walk.{Walked}
use Rattle.tip_journal.proofs.auditing.audit.Given as goal

abbrev pub invariant-loop-place : goal.invariant-loop-place
invariant-loop-place g l = Walked l.journals (take l.place l.passes) l.place [] l.sheets.items

abbrev pub invariant-loop-noted : goal.invariant-loop-noted
invariant-loop-noted g l = record {
  there : l.place < length l.passes;
  walked : Walked l.journals (take l.place l.passes) l.place (take l.noted-index l.noted-items) l.sheets.items;
}
