use Rattle.tip_journal.specs.Sheets.{marked}
use Rattle.tip_journal.proofs.HistoryLemmas.{changed_at-read}
use Rattle.tip_journal.proofs.sheet.Sheets.mark.Goals as goal

pub returns-clause-new : goal.returns-clause-new
returns-clause-new g c = λ done. rw c.self.view_is (changed_at-read c.args.self.now c.args.place (marked c.args.pass c.args.noted.now) c.index_mut-sheet.result.now c.mark.new.self (rw (← c.self.view_is) c.index_mut-sheet.ensures.value) (c.mark.ensures.new done))
