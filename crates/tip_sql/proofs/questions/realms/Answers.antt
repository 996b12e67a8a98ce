use Rattle.sqlite.specs.Held.{state}
use Rattle.tip_sql.proofs.Looking.{names_look}
use Rattle.tip_sql.proofs.questions.realms.Goals as goal

pub returns : goal.returns
returns g c =
    names_look (state g.S.Store c.args.conn.now) (state g.S.Store c.names.new.conn) c.in-Ok.names c.deref.result.now c.realms_in.result c.in-Ok.ensures c.deref.ensures.value c.realms_in.ensures.read c.realms_in.ensures.rising c.realms_in.ensures.bad
