use Rattle.std.proofs.Common.{[], ◌∷◌, codes, refl, ap, ◌∙◌}
use Rattle.sqlite.specs.Held.{state}
use Rattle.sqlite.specs.Values.{bound_value}
use Rattle.sqlite.specs.Term.{col}
use Rattle.sqlite.specs.declared.types.Value.TheVariants.{Text}
use Rattle.tip_sql.specs.Places.{is_named, epoch_shown}
use Rattle.tip_sql.proofs.Texts.{epoch_text, epoch_is, is_equal}
use Rattle.tip_sql.proofs.Knowing.{named}
use Rattle.tip_sql.proofs.Meanings.{epoch_agrees}
use Rattle.tip_sql.proofs.Outcomes.{queries}
use Rattle.tip_sql.proofs.statements.epoch.Goals as goal

pub returns : goal.returns
returns g c =
    queries epoch_text 0 (is_equal 1 (col 0 0) ∷ []) (col 1 2 ∷ []) ([]) (codes "epoch" ∷ []) epoch_is (λ db. refl) (named c.args.realm.now) (is_named c.args.realm.now) epoch_shown (epoch_agrees c.args.realm.now) (state g.S.Store c.args.conn.now) (state g.S.Store c.query_all.new.self)
    _ (ap (λ v. bound_value v ∷ []) (c.to_sql.ensures ∙ ap Text c.as_str.ensures.same)) c.query_all.result c.query_all.ensures.ok c.query_all.ensures.err c.query_all.ensures.survives
