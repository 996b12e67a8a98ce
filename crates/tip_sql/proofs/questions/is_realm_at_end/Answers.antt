use Rattle.sqlite.specs.Held.{state}
use Rattle.tip_sql.proofs.Looking.{realm_look}
use Rattle.tip_sql.proofs.questions.is_realm_at_end.Goals as goal

pub returns : goal.returns
returns g c =
    realm_look c.args.realm.now (state g.S.Store c.args.conn.now) (state g.S.Store c.epoch.new.conn) c.in-Ok.epochs c.deref.result.now c.is_last.result c.in-Ok.ensures c.deref.ensures.value (rw c.epoch_in.ensures at c.is_last.ensures)
