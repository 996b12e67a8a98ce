use Rattle.std.proofs.Common.{◌≡◌, ◌++◌, ◌∷◌, ◌∙◌, List, ap, arith, subst, sym}
use Rattle.std.proofs.lemmas.Grind.{common_steps}
use Rattle.tip_table.specs.Kept.{of}
use Rattle.tip_recovery.specs.Adopting.{AreOf, Unfinished}
use Rattle.tip_core.proofs.TakingUp.{joined, row_of}
use Rattle.tip_core.proofs.recovering.reopen_all.Goals as goal

pub loop-row-preserved : goal.loop-row-preserved
loop-row-preserved g c =
    let whole : c.loop-row.yielded ++ c.in-Some.row ∷ c.next.new.self.rest.items ≡ c.args.rows.items = ap (λ (rows : List Unfinished). c.loop-row.yielded ++ rows) (sym c.in-Some.ensures.steps.0) ∙ c.loop-row.invariant.whole in record {
      whole = grind (arith, common_steps);
      own = λ head own epoch.
          joined head c.loop-row.yielded c.in-Some.row (of c.args.transactions.now c.args.realm) (of c.loop-row.transactions c.args.realm) (of c.add.new.self c.args.realm) c.reopen.result c.add.ensures.added (c.loop-row.invariant.own head own epoch)
          (c.reopen.ensures head (row_of head.name c.loop-row.yielded c.next.new.self.rest.items c.in-Some.row (subst (λ (rows : List Unfinished). AreOf head.name rows) (sym whole) own)) epoch);
      others = λ other differ. c.add.ensures.others other differ ∙ c.loop-row.invariant.others other differ;
      room = grind (arith, common_steps);
    }
