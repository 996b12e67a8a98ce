use Rattle.sqlite.specs.Held.{state}
use Rattle.tip_sql.proofs.Making.{rows_made}
use Rattle.tip_sql.proofs.opening.make_rows.Goals as goal

pub returns-clause-takes : goal.returns-clause-takes
returns-clause-takes g c has = rows_made (state g.S.Store c.args.conn.now) (state g.S.Store c.execute.new.self) c.execute.result has c.execute.ensures.runs c.execute.ensures.survives
