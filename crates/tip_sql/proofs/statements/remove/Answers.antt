use Rattle.std.proofs.Common.{◌≡◌, pos, true, [], ◌∷◌, ap, ◌∙◌, arith}
use Rattle.sqlite.specs.Held.{state}
use Rattle.sqlite.specs.Values.{bound_value}
use Rattle.sqlite.specs.Order.{Row}
use Rattle.sqlite.specs.declared.types.Value.{Value}
use Rattle.sqlite.specs.declared.types.Value.TheVariants.{Int, Text}
use Rattle.tip_rows.specs.Logs.{without_row}
use Rattle.tip_sql.specs.Standing.{place_of}
use Rattle.tip_sql.specs.Places.{has_key}
use Rattle.tip_sql.proofs.Texts.{remove_text, remove_command}
use Rattle.tip_sql.proofs.Removing.{asked}
use Rattle.tip_sql.proofs.Meanings.{remove_means, key_fits}
use Rattle.tip_sql.proofs.Outcomes.{changes}
use Rattle.tip_sql.proofs.statements.remove.Goals as goal

same_row : (a b c d x y z u : Value) → a ≡ x → b ≡ y → c ≡ z → d ≡ u → ◌≡◌ {A = Row} (bound_value a ∷ bound_value b ∷ bound_value c ∷ bound_value d ∷ []) (bound_value x ∷ bound_value y ∷ bound_value z ∷ bound_value u ∷ [])
same_row a b c d x y z u p q r s = λ i. bound_value (p i) ∷ bound_value (q i) ∷ bound_value (r i) ∷ bound_value (s i) ∷ []

pub returns : goal.returns
returns g c =
    let realm = c.args.realm.now in
    let key = c.args.key in
    let fits : has_key (place_of realm key) ≡ true = key_fits realm key (omega arith) (omega arith) (omega arith) (omega arith) (omega arith) (omega arith) in
    changes remove_text (asked (place_of realm key)) remove_command (without_row realm key) (remove_means realm key fits) (state g.S.Store c.args.conn.now) (state g.S.Store c.execute.new.self) _
    (same_row _ _ _ _ _ _ _ _ (c.to_sql.ensures ∙ ap Text c.as_str.ensures.same) (c.to_sql-2.ensures ∙ ap (λ n. Int (pos n)) c.epoch.ensures.same) (c.to_sql-3.ensures ∙ ap (λ n. Int (pos n)) c.connection.ensures.same)
    (c.to_sql-4.ensures ∙ ap (λ n. Int (pos n)) c.number.ensures.same)) c.execute.result c.execute.ensures.runs c.execute.ensures.survives
