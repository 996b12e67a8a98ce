use Rattle.sqlite.specs.Held.{state}
use Rattle.tip_sql.proofs.Looking.{part_look}
use Rattle.tip_sql.proofs.questions.part.Goals as goal

pub returns : goal.returns
returns g c =
    part_look c.args.realm.now (state g.S.Store c.args.conn.now) (state g.S.Store c.epoch.new.conn) (state g.S.Store c.rows.new.conn) c.in-Ok.epochs c.in-Ok-rows.rows c.deref.result.now c.deref-2.result.now c.part_in.result
    c.in-Ok.ensures c.in-Ok-rows.ensures c.deref.ensures.value c.deref-2.ensures.value c.part_in.ensures.epoch c.part_in.ensures.read c.part_in.ensures.rising c.part_in.ensures.bad
