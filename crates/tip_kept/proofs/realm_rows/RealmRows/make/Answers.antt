use Rattle.std.proofs.Common.{◌≡◌, subst, sym, true}
use Rattle.tip_machine.proofs.Storing.{rising_put, rising_removed}
use Rattle.tip_rows.specs.Logs.{is_rising}
use Rattle.tip_kept.proofs.realm_rows.RealmRows.make.Goals as goal

pub invariant_of-self : goal.invariant_of-self
invariant_of-self c = subst (λ rows. is_rising rows ≡ true) (sym c.put.ensures) (rising_put c.in-Put.key c.in-Put.row c.self.inside.rows.items c.self.invariant)

pub invariant_of-self-in-Remove : goal.invariant_of-self-in-Remove
invariant_of-self-in-Remove c = subst (λ rows. is_rising rows ≡ true) (sym c.remove.ensures) (rising_removed c.in-Remove.key c.self.inside.rows.items c.self.invariant)
