use Rattle.sqlite.specs.Held.{state}
use Rattle.tip_sql.proofs.Making.{realms_made}
use Rattle.tip_sql.proofs.opening.make_realms.Goals as goal

pub returns : goal.returns
returns g c has = realms_made (state g.S.Store c.args.conn.now) (state g.S.Store c.execute.new.self) c.execute.result has c.execute.ensures.runs c.execute.ensures.survives
