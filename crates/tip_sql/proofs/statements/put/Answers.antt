use Rattle.std.proofs.Common.{◌≡◌, pos, true, [], ◌∷◌, ap, ◌∙◌, arith}
use Rattle.sqlite.specs.Held.{state}
use Rattle.sqlite.specs.Values.{bound_value}
use Rattle.sqlite.specs.Order.{Row}
use Rattle.sqlite.specs.declared.types.Value.{Value}
use Rattle.sqlite.specs.declared.types.Value.TheVariants.{Int, Text}
use Rattle.tip_rows.specs.Logs.{with_row}
use Rattle.tip_sql.specs.Standing.{place_of}
use Rattle.tip_sql.specs.Places.{has_key}
use Rattle.tip_sql.proofs.Texts.{put_text, put_command}
use Rattle.tip_sql.proofs.Putting.{given}
use Rattle.tip_sql.proofs.Meanings.{put_means, key_fits}
use Rattle.tip_sql.proofs.Outcomes.{changes}
use Rattle.tip_sql.proofs.statements.put.Goals as goal

same_row : (a b c d e x y z u v : Value) → a ≡ x → b ≡ y → c ≡ z → d ≡ u → e ≡ v → ◌≡◌ {A = Row} (bound_value a ∷ bound_value b ∷ bound_value c ∷ bound_value d ∷ bound_value e ∷ []) (bound_value x ∷ bound_value y ∷ bound_value z ∷ bound_value u ∷ bound_value v ∷ [])
same_row a b c d e x y z u v p q r s t = λ i. bound_value (p i) ∷ bound_value (q i) ∷ bound_value (r i) ∷ bound_value (s i) ∷ bound_value (t i) ∷ []

pub returns : goal.returns
returns g c row reads =
    let realm = c.args.realm.now in
    let key = c.args.key in
    let fits : has_key (place_of realm key) ≡ true = key_fits realm key (omega arith) (omega arith) (omega arith) (omega arith) (omega arith) (omega arith) in
    changes put_text (given (place_of realm key) c.args.text.now) put_command (with_row realm key row) (put_means realm key c.args.text.now row fits reads) (state g.S.Store c.args.conn.now) (state g.S.Store c.execute.new.self) _
    (same_row _ _ _ _ _ _ _ _ _ _ (c.to_sql.ensures ∙ ap Text c.as_str.ensures.same) (c.to_sql-2.ensures ∙ ap (λ n. Int (pos n)) c.epoch.ensures.same) (c.to_sql-3.ensures ∙ ap (λ n. Int (pos n)) c.connection.ensures.same)
    (c.to_sql-4.ensures ∙ ap (λ n. Int (pos n)) c.number.ensures.same) c.to_sql-5.ensures) c.execute.result c.execute.ensures.runs c.execute.ensures.survives
