use Rattle.std.proofs.Common.{[], ◌∷◌, ap, ◌∙◌}
use Rattle.sqlite.specs.Held.{state}
use Rattle.sqlite.specs.Values.{bound_value}
use Rattle.sqlite.specs.declared.types.Value.TheVariants.{Text}
use Rattle.tip_rows.specs.Logs.{with_raised}
use Rattle.tip_sql.proofs.Texts.{raise_one_text, raise_command, one_can_rise_terms}
use Rattle.tip_sql.proofs.Knowing.{named}
use Rattle.tip_sql.proofs.Meanings.{raise_one_means}
use Rattle.tip_sql.proofs.Outcomes.{changes}
use Rattle.tip_sql.proofs.statements.raise_one.Goals as goal

pub returns : goal.returns
returns g c =
    let realm = c.args.realm.now in
    changes raise_one_text (named realm) (raise_command one_can_rise_terms) (with_raised realm) (raise_one_means realm) (state g.S.Store c.args.conn.now) (state g.S.Store c.execute.new.self) _
    (ap (λ v. bound_value v ∷ []) (c.to_sql.ensures ∙ ap Text c.as_str.ensures.same)) c.execute.result c.execute.ensures.runs c.execute.ensures.survives
