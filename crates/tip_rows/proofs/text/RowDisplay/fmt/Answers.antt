use Rattle.std.proofs.Common.{ap, sym, ◌∙◌}
use Rattle.std.proofs.Output.{has_written_of_eq}
use Rattle.tip_rows.specs.Rows.{written}
use Rattle.tip_rows.proofs.WrittenLemmas.{prepared_written, committed_written}
use Rattle.tip_rows.proofs.text.RowDisplay.fmt.Goals as goal

pub returns-in-Prepared-clause-writes : goal.returns-in-Prepared-clause-writes
returns-in-Prepared-clause-writes g c plain ok =
    let row = c.in-Prepared in
    has_written_of_eq _ _ _ _ _ (prepared_written row.address row.superior row.branches row.subordinates ∙ ap written (sym row.is)) (c.write.ensures.writes plain ok)

pub returns-in-Committed-clause-writes : goal.returns-in-Committed-clause-writes
returns-in-Committed-clause-writes g c plain ok =
    let row = c.in-Committed in
    has_written_of_eq _ _ _ _ _ (committed_written row.branches row.subordinates ∙ ap written (sym row.is)) (c.write-in-Committed.ensures.writes plain ok)
