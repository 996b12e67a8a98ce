use Rattle.std.proofs.Common.{[], refl}
use Rattle.sqlite.specs.Held.{state}
use Rattle.tip_rows.specs.Logs.{with_all_raised}
use Rattle.tip_sql.proofs.Texts.{raise_all_text, raise_command, can_rise_terms}
use Rattle.tip_sql.proofs.Meanings.{raise_all_means}
use Rattle.tip_sql.proofs.Outcomes.{changes}
use Rattle.tip_sql.proofs.statements.raise_all.Goals as goal

pub returns : goal.returns
returns g c =
    changes raise_all_text [] (raise_command can_rise_terms) with_all_raised raise_all_means (state g.S.Store c.args.conn.now) (state g.S.Store c.execute.new.self) [] refl c.execute.result c.execute.ensures.runs c.execute.ensures.survives
