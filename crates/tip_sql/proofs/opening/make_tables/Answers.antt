use Rattle.std.proofs.Common.{sym, ◌∙◌}
use Rattle.sqlite.specs.Held.{state}
use Rattle.tip_sql.proofs.Keeping.{on_true}
use Rattle.tip_sql.proofs.Making.{then_made}
use Rattle.tip_sql.proofs.opening.make_tables.Goals as goal

pub returns : goal.returns
returns g c =
    then_made (state g.S.Store c.args.conn.now) (state g.S.Store c.make_realms.new.conn) (state g.S.Store c.make_rows-2.new.conn) c.in_ok-make_realms.field-0 c.make_rows-2.result
    (c.in_ok-make_realms.ensures (sym c.schema-3.ensures.value ∙ on_true c.is_blank.result _ c.if-not-is_blank.false c.is_blank.ensures)) c.make_rows-2.ensures.takes c.make_rows-2.ensures.truth
