use Rattle.std.proofs.Common.{inl, inr}
use Rattle.tip_sql.proofs.Keeping.{as_risen, on_ok}
use Rattle.tip_sql.proofs.sql_rows.SqlRowsRowLog.raise_epochs.Goals as goal

pub returns-in-Ok-true-clause-end : goal.returns-in-Ok-true-clause-end
returns-in-Ok-true-clause-end g c log stood clean is = rw c.in-Ok-true.field-0-test at (c.in-Ok-true.ensures.ended log stood clean)

pub returns-in-Ok-true-clause-stop : goal.returns-in-Ok-true-clause-stop
returns-in-Ok-true-clause-stop g c log stood clean left may = inl (c.is_at_end.ensures.stop log stood clean left may)

pub returns-in-Ok-false-clause-stands : goal.returns-in-Ok-false-clause-stands
returns-in-Ok-false-clause-stands g c log stood = as_risen c.change.result c.risen.result _ _ _ _ _ c.risen.ensures (c.change.ensures.stands log (c.is_at_end.ensures.stands log stood))

pub returns-in-Ok-false-clause-no_end : goal.returns-in-Ok-false-clause-no_end
returns-in-Ok-false-clause-no_end g c log stood clean = on_ok c.risen.result _ (rw c.in-Ok-false.field-0-test at (c.in-Ok-false.ensures.ended log stood (c.change.ensures.truth clean)))

pub returns-in-Ok-false-clause-stop : goal.returns-in-Ok-false-clause-stop
returns-in-Ok-false-clause-stop g c log stood clean left may =
    elim (c.change.ensures.stop log (c.is_at_end.ensures.stands log stood) clean left may) [
      | inl old ↦ inl (c.is_at_end.ensures.stop log stood (c.change.ensures.truth clean) left old)
      | inr new ↦ inr new
    ]

pub returns-in-Err-clause-stop : goal.returns-in-Err-clause-stop
returns-in-Err-clause-stop g c log stood clean left may = inl (c.is_at_end.ensures.stop log stood clean left may)
