use Rattle.std.proofs.Common.{[], ◌∷◌, codes, refl}
use Rattle.sqlite.specs.Held.{state}
use Rattle.tip_sql.proofs.Texts.{realm_ids_text, realm_ids_are, by_place}
use Rattle.tip_sql.proofs.Outcomes.{ids_shown}
use Rattle.tip_sql.proofs.opening.realm_ids.Goals as goal

pub returns : goal.returns
returns g c =
    ids_shown realm_ids_text 0 (by_place 0 ∷ []) (codes "rowid" ∷ []) realm_ids_are (λ db. refl) (state g.S.Store c.args.conn.now) (state g.S.Store c.query_all.new.self) c.query_all.result c.query_all.ensures.ok c.query_all.ensures.survives
