use Rattle.std.proofs.Common.{◌<◌, [], length, take}
use Rattle.tip_journal.proofs.Marks.{Stands}
use Rattle.tip_journal.proofs.auditing.audit_journal.Given as goal

abbrev pub invariant-loop-place : goal.invariant-loop-place
invariant-loop-place g l = Stands l.realm l.journal.epoch l.journal.entries (take l.place l.passes) l.place [] l.sheet

abbrev pub invariant-loop-noted : goal.invariant-loop-noted
invariant-loop-noted g l = record {
  there : l.place < length l.passes;
  stands : Stands l.realm l.journal.epoch l.journal.entries (take l.place l.passes) l.place (take l.noted-index l.noted-items) l.sheet;
}
