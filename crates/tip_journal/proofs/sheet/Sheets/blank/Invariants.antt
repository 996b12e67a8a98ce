use Rattle.std.proofs.Common.{◌≡◌, take, map}
use Rattle.tip_journal.specs.Sheets.{blank}
use Rattle.tip_journal.proofs.sheet.Sheets.blank.Given as goal

abbrev pub invariant-loop-journal : goal.invariant-loop-journal
invariant-loop-journal g l = l.sheets.items ≡ map blank (take l.journal-index l.journals)
