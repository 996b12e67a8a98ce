use Rattle.std.proofs.Common.{◌≡◌, ◌-◌, ◌^◌, min, take}
use Rattle.tip_duties.specs.Headings.{entries_of}
use Rattle.tip_duties.proofs.report.entries_of.Given as goal

abbrev pub invariant-loop-journal : goal.invariant-loop-journal
invariant-loop-journal l = l.entries ≡ min (entries_of l.realm (take l.journal-index l.report)) (2 ^ 64 - 1)
