use Rattle.std.proofs.Common.{[], ◌∷◌, pos, codes, refl}
use Rattle.sqlite.specs.Held.{state}
use Rattle.sqlite.specs.Term.{lit, col}
use Rattle.sqlite.specs.declared.types.Value.TheVariants.{Int}
use Rattle.tip_sql.specs.Places.{is_last, name_shown}
use Rattle.tip_sql.proofs.Texts.{ends_text, ends_are, is_equal}
use Rattle.tip_sql.proofs.Meanings.{ends_agree}
use Rattle.tip_sql.proofs.Outcomes.{queries}
use Rattle.tip_sql.proofs.statements.ended.Goals as goal

pub returns : goal.returns
returns g c =
    queries ends_text 0 (is_equal 2 (lit (Int (pos 4294967295))) ∷ []) (col 1 1 ∷ []) ([]) (codes "name" ∷ []) ends_are (λ db. refl) ([]) (is_last) name_shown ends_agree (state g.S.Store c.args.conn.now) (state g.S.Store c.query_all.new.self)
    _ refl c.query_all.result c.query_all.ensures.ok c.query_all.ensures.err c.query_all.ensures.survives
