use Rattle.std.proofs.Common.{refl, sym, subst}
use Rattle.sqlite.specs.Held.{state}
use Rattle.tip_sql.specs.Standing.{log_of}
use Rattle.tip_sql.specs.Sql.{may_leave_in}
use Rattle.tip_sql.proofs.Keeping.{left_alone}
use Rattle.tip_sql.proofs.sql_rows.SqlRows.is_at_end.Goals as goal

pub returns-in-Ok-clause-settled : goal.returns-in-Ok-clause-settled
returns-in-Ok-clause-settled g c clean =
    let s = state g.S.Store c.is_at_end.new.conn in
    let was = c.self.invariant (c.in-Ok.ensures.truth clean) c.if-self.false in
    let now = c.in-Ok.ensures.same clean was (c.in-Ok.ensures.opens clean was refl) in
    record {
      log = log_of s.now.trees;
      shown = λ _ _. refl;
      one = λ other stood. sym (stood clean c.if-self.false);
      left = left_alone s now.0 (g.met.S.Store.settled c.is_at_end.new.conn.store) (g.met.S.Store.stays c.is_at_end.new.conn.store);
    }

pub returns-in-Err-clause-stop : goal.returns-in-Err-clause-stop
returns-in-Err-clause-stop g c log stood clean left may =
    let before = c.is_alive.ensures.truth clean in
    let was = c.self.invariant (c.is_at_end.ensures.truth before) c.if-self.false in
    subst (λ v. may_leave_in g.S.Store v left) c.self.view_is (c.is_at_end.ensures.leaves before was left (c.is_alive.ensures.leaves clean left may))
