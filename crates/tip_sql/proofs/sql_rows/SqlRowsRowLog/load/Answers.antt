use Rattle.std.proofs.Common.{refl, sym, subst, ◌∙◌}
use Rattle.sqlite.specs.Held.{state}
use Rattle.tip_sql.specs.Standing.{log_of}
use Rattle.tip_sql.specs.Sql.{may_leave_in}
use Rattle.tip_sql.proofs.Keeping.{left_alone, on_ok}
use Rattle.tip_sql.proofs.sql_rows.SqlRowsRowLog.load.Goals as goal

pub returns-then-is_refused-clause-stop : goal.returns-then-is_refused-clause-stop
returns-then-is_refused-clause-stop g c log stood clean left may =
    let before = c.is_alive.ensures.truth clean in
    let was = c.self.invariant (c.part-read.ensures.truth before) c.if-self.false in
    subst (λ v. may_leave_in g.S.Store v left) c.self.view_is (c.part-read.ensures.leaves before was left (c.is_alive.ensures.leaves clean left may))

pub returns-clause-settled : goal.returns-clause-settled
returns-clause-settled g c clean =
    let s = state g.S.Store c.part-read.new.conn in
    let was = c.self.invariant (c.part-read.ensures.truth clean) c.if-self.false in
    let now = c.part-read.ensures.same clean was (c.part-read.ensures.opens clean was (sym c.is_refused.ensures ∙ c.if-is_refused.false)) in
    on_ok c.part-read.result _ (record {
      log = log_of s.now.trees;
      shown = λ _ _. refl;
      one = λ other stood. sym (stood clean c.if-self.false);
      left = left_alone s now.0 (g.met.S.Store.settled c.part-read.new.conn.store) (g.met.S.Store.stays c.part-read.new.conn.store);
    })
