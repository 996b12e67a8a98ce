use Rattle.std.proofs.Common.{◌≡◌, ◌<◌, ◌++◌, length, get_or, take, map}
use Rattle.tip_journal.specs.Audit.{report_of, reported}
use Rattle.tip_journal.proofs.auditing.report.Given as goal

abbrev pub invariant-loop-realm : goal.invariant-loop-realm
invariant-loop-realm g l = l.report.items ≡ report_of (take l.realm l.journals)

abbrev pub invariant-loop-journal : goal.invariant-loop-journal
invariant-loop-journal g l = record {
  there : l.realm < length l.journals;
  history : l.journal-items ≡ get_or l.journals l.realm l.journal-items;
  reported_so_far : l.report.items ≡ report_of (take l.realm l.journals) ++ map (reported l.realm) (take l.journal-index l.journal-items);
}
