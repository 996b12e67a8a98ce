use Rattle.std.proofs.Common.{inl, inr, refl, sym, ap, subst, ◌∙◌}
use Rattle.sqlite.specs.Held.{state}
use Rattle.tip_sql.specs.Standing.{change_of, log_of}
use Rattle.tip_sql.specs.Sql.{stands_in, may_leave_in}
use Rattle.tip_sql.proofs.Keeping.{at_ok, was_false, left_alone, failed_kept}
use Rattle.tip_sql.proofs.sql_rows.SqlRows.change.Goals as goal

pub returns-then-is_ok-clause-settled : goal.returns-then-is_ok-clause-settled
returns-then-is_ok-clause-settled g c clean =
    let s = state g.S.Store c.make.new.conn in
    let was = c.self.invariant (c.make.ensures.truth clean) c.if-self.false in
    let now = at_ok c.make.result _ _ (sym c.is_ok.ensures.value ∙ c.if-is_ok.true) (c.make.ensures.made clean was) in
    record {
      log = log_of s.now.trees;
      shown = λ _ _. refl;
      one = λ other stood. sym (stood clean c.if-self.false);
      left = left_alone s now.0 (g.met.S.Store.settled c.make.new.conn.store) (g.met.S.Store.stays c.make.new.conn.store);
    }

pub invariant_of-self-2 : goal.invariant_of-self-2
invariant_of-self-2 g c clean alive =
    failed_kept (change_of c.args.change.now) (state g.S.Store c.self.inside.database.conn) (state g.S.Store c.make.new.conn) (state g.S.Store c.is_alive.new.conn) c.make.result c.is_alive.result c.make.ensures c.is_alive.ensures
    (sym c.is_ok.ensures.value ∙ c.if-is_ok.false) (was_false c.is_alive.result alive) (c.self.invariant (c.make.ensures.truth (c.is_alive.ensures.truth clean)) c.if-self.false) clean

pub returns-clause-stop : goal.returns-clause-stop
returns-clause-stop g c log stood clean left may =
    let before = c.is_alive.ensures.truth clean in
    let early = c.make.ensures.truth before in
    let shown = subst (λ v. stands_in g.S.Store v log) (sym c.self.view_is) stood in
    elim (c.make.ensures.leaves before (c.self.invariant early c.if-self.false) left (c.is_alive.ensures.leaves clean left may)) [
      | inl old ↦ inl (subst (λ v. may_leave_in g.S.Store v left) c.self.view_is old)
      | inr new ↦ inr (new ∙ ap (change_of c.args.change.now) (shown early c.if-self.false))
    ]
