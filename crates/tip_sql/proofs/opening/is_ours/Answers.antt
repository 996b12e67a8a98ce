use Rattle.std.proofs.Common.{sym, ◌∙◌}
use Rattle.sqlite.specs.Held.{state}
use Rattle.tip_sql.proofs.Keeping.{on_true}
use Rattle.tip_sql.proofs.Checking.{checked, ids_in}
use Rattle.tip_sql.proofs.opening.is_ours.Goals as goal

pub returns : goal.returns
returns g c =
    checked (state g.S.Store c.args.conn.now) (state g.S.Store c.realm_ids.new.conn) (state g.S.Store c.row_ids.new.conn) c.in-Ok.realms c.in-Ok-row_ids.rows c.is_autocommit.result
    (sym c.schema.ensures.value ∙ on_true c.is_whole.result _ c.if-not-is_whole.false c.is_whole.ensures) c.schema.ensures.live c.in-Ok.ensures c.in-Ok-row_ids.ensures
    (λ tree moved. ids_in tree c.in-Ok.realms.items c.deref.result.now c.are_ids.result c.if-not-are_ids.false c.deref.ensures.value moved c.are_ids.ensures.numbers c.are_ids.ensures.rising)
    (λ tree moved. ids_in tree c.in-Ok-row_ids.rows.items c.deref-2.result.now c.are_ids-2.result c.if-not-are_ids-2.false c.deref-2.ensures.value moved c.are_ids-2.ensures.numbers c.are_ids-2.ensures.rising)
    c.is_autocommit.ensures.value c.is_autocommit.ensures.settled
