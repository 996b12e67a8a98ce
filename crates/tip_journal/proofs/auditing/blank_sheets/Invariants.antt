use Rattle.std.proofs.Common.{◌≡◌, take, map}
use Rattle.tip_journal.specs.Sheets.{blank}
use Rattle.tip_journal.proofs.auditing.blank_sheets.Given as goal

abbrev pub invariant-loop-history : goal.invariant-loop-history
invariant-loop-history g l = l.sheets.items ≡ map (map blank) (take l.history-index l.journals)
