use Rattle.std.proofs.Common.{[], ◌∷◌, codes, refl, ap, ◌∙◌}
use Rattle.sqlite.specs.Held.{state}
use Rattle.sqlite.specs.Values.{bound_value}
use Rattle.sqlite.specs.Term.{col}
use Rattle.sqlite.specs.declared.types.Value.TheVariants.{Text}
use Rattle.tip_sql.specs.Places.{is_named, row_shown}
use Rattle.tip_sql.proofs.Texts.{rows_text, rows_are, is_equal, by_place}
use Rattle.tip_sql.proofs.Knowing.{named}
use Rattle.tip_sql.proofs.Meanings.{rows_agree}
use Rattle.tip_sql.proofs.Outcomes.{queries}
use Rattle.tip_sql.proofs.statements.rows.Goals as goal

pub returns : goal.returns
returns g c =
    queries rows_text 2 (is_equal 1 (col 0 0) ∷ []) (col 1 2 ∷ col 1 3 ∷ col 1 4 ∷ col 1 5 ∷ []) (by_place 2 ∷ by_place 3 ∷ by_place 4 ∷ []) (codes "epoch" ∷ codes "conn" ∷ codes "num" ∷ codes "text" ∷ []) rows_are (λ db. refl) (named c.args.realm.now) (is_named c.args.realm.now) row_shown (rows_agree c.args.realm.now) (state g.S.Store c.args.conn.now) (state g.S.Store c.query_all.new.self)
    _ (ap (λ v. bound_value v ∷ []) (c.to_sql.ensures ∙ ap Text c.as_str.ensures.same)) c.query_all.result c.query_all.ensures.ok c.query_all.ensures.err c.query_all.ensures.survives
