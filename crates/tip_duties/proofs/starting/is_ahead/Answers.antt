use Rattle.std.proofs.Common.{◌≡◌, Bool, List, subst, sym}
use Rattle.std.specs.Prelude.{IsTrue, ◌↔◌}
use Rattle.tip_duties.proofs.Ahead.{part_is_ahead}
use Rattle.tip_rows.specs.Keys.{Key}
use Rattle.tip_rows.specs.declared.row.Row.{Row}
use Rattle.tip_duties.specs.Starting.{IsAhead, are_ahead}
use Rattle.tip_duties.proofs.starting.is_ahead.Goals as goal

pub returns-clause-ahead : goal.returns-clause-ahead
returns-clause-ahead g c = λ log stands faithful.
    let loaded = c.in_ok-loaded.loaded in
    let part = c.in_ok-loaded.ensures.part log stands faithful in
    let same = subst (λ (rows : List (Key × Row)). c.are_ahead.result ≡ are_ahead loaded.epoch rows) c.deref.ensures.value c.are_ahead.ensures in
    subst (λ (ahead : Bool). IsTrue ahead ↔ IsAhead log c.args.realm.now) (sym same) (part_is_ahead log c.args.realm.now loaded.epoch loaded.rows.items part)
