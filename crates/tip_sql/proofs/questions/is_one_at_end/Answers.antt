use Rattle.sqlite.specs.Held.{state}
use Rattle.tip_sql.proofs.Looking.{one_look}
use Rattle.tip_sql.proofs.questions.is_one_at_end.Goals as goal

pub returns : goal.returns
returns g c = one_look (state g.S.Store c.args.conn.now) (state g.S.Store c.ended.new.conn) c.in-Ok.names c.deref.result.now c.has_some.result c.in-Ok.ensures c.deref.ensures.value c.has_some.ensures
