use Rattle.std.proofs.Common.{◌≡◌, ◌∙◌, Bool, true, ap, rules, subst, sym}
use Rattle.std.specs.Prelude.{◌&&◌, ◌↔◌}
use Rattle.tip_rows.specs.Keys.{is_same}
use Rattle.tip_recovery.proofs.Rereading.{is_stored}
use Rattle.tip_recovery.specs.Renewing.{is_row_again}
use Rattle.tip_recovery.proofs.unfinished.Unfinished.is_of.Goals as goal

pub returns-then-eq : goal.returns-then-eq
returns-then-eq g c = rw (← c.self.view_is) (
    let key : is_same c.self.inside.key c.args.key ≡ true = search rules in
    let both : (is_same c.self.inside.key c.args.key && is_row_again c.self.inside.row c.args.row.now) ≡ c.is_row_again.result = ap (λ b. b && is_row_again c.self.inside.row c.args.row.now) key ∙ sym c.is_row_again.ensures in
    subst (λ (b : Bool). (b ≡ true) ↔ ((c.self.inside.key ≡ c.args.key) × (c.self.inside.row ≡ c.args.row.now))) both (is_stored c.self.inside.key c.args.key c.self.inside.row c.args.row.now)
    )
