use Rattle.std.proofs.Common.{Err, ap, sym}
use Rattle.tip_sql.proofs.Readings.{read_row, no_row}
use Rattle.tip_checking.proofs.rows.row_in.Goals as goal

pub returns-in-Ok : goal.returns-in-Ok
returns-in-Ok c = sym (read_row c.args.text.now c.in-Ok.row c.in-Ok.ensures.read)

pub returns-in-Err-BadRow : goal.returns-in-Err-BadRow
returns-in-Err-BadRow c = sym (no_row c.args.text.now (c.in-Err-BadRow.ensures.bad (ap Err c.in-Err-BadRow.field-0-is)))
