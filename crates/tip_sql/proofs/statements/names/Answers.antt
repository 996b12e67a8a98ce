use Rattle.std.proofs.Common.{[], ◌∷◌, codes, refl}
use Rattle.sqlite.specs.Held.{state}
use Rattle.sqlite.specs.Term.{col}
use Rattle.tip_sql.specs.Places.{all_rows, name_shown}
use Rattle.tip_sql.proofs.Texts.{names_text, names_are, by_place}
use Rattle.tip_sql.proofs.Meanings.{names_agree}
use Rattle.tip_sql.proofs.Outcomes.{queries}
use Rattle.tip_sql.proofs.statements.names.Goals as goal

pub returns : goal.returns
returns g c =
    queries names_text 0 ([]) (col 1 1 ∷ []) (by_place 1 ∷ []) (codes "name" ∷ []) names_are (λ db. refl) ([]) (all_rows) name_shown names_agree (state g.S.Store c.args.conn.now) (state g.S.Store c.query_all.new.self)
    _ refl c.query_all.result c.query_all.ensures.ok c.query_all.ensures.err c.query_all.ensures.survives
