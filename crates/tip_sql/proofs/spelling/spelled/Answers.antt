use Rattle.std.proofs.Common.{◌≡◌, ◌∙◌, ap, ℕ, List, Some, IfOk, Ok, Err, Result, string_bytes}
use Rattle.tip_rows.specs.Rows.{written, IsRow}
use Rattle.tip_rows.specs.declared.row.Row.{Row}
use Rattle.tip_sql.specs.Standing.{row_of}
use Rattle.tip_sql.proofs.Readings.{read_written}
use Rattle.tip_sql.proofs.spelling.spelled.Goals as goal

printed : {T E : Type 0} (bytes : T → List ℕ) (row : Row) (result : Result T E) → IsRow row → IfOk result (λ text. bytes text ≡ written row) → IfOk result (λ text. row_of (bytes text) ≡ Some row)
printed bytes row (Ok text) whole same = ap row_of same ∙ read_written row whole
printed bytes row (Err fault) whole same = tt

pub returns : goal.returns
returns c = printed string_bytes c.args.row.now c.print.result c.learn_parts.ensures c.print.ensures
