use Rattle.std.proofs.Common.{refl, sym, ◌∙◌}
use Rattle.sqlite.specs.Held.{state}
use Rattle.tip_sql.specs.Standing.{log_of}
use Rattle.tip_sql.proofs.Keeping.{left_alone, on_made}
use Rattle.tip_sql.proofs.Making.{found_whole}
use Rattle.tip_sql.proofs.sql_rows.SqlRows.over.Goals as goal

pub returns-clause-stands : goal.returns-clause-stands
returns-clause-stands g c clean _ =
    let made = on_made c.make_tables.result c.is_err.result _ c.if-is_err.false c.is_err.ensures.negation (c.make_tables.ensures.taken (c.is_ours.ensures.truth clean)) in
    (c.is_ours.ensures.ours clean c.if-not-is_ours.false).1 ∙ sym (found_whole (state g.S.Store c.make_tables.new.conn).now made.0) ∙ made.1

pub returns-clause-settled : goal.returns-clause-settled
returns-clause-settled g c clean =
    let s = state g.S.Store c.is_ours.new.conn in
    let ours = (c.is_ours.ensures.ours clean c.if-not-is_ours.false).0 in
    record {
      log = log_of s.now.trees;
      shown = λ _ _. refl;
      one = λ other stood. sym (stood clean refl);
      left = left_alone s ours (g.met.S.Store.settled c.is_ours.new.conn.store) (g.met.S.Store.stays c.is_ours.new.conn.store);
    }
