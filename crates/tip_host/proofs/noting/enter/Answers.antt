use Rattle.std.proofs.Common.{ap, subst, sym}
use Rattle.std.specs.Prelude.{Some, is_some}
use Rattle.tip_host.proofs.Entering.{entered_so}
use Rattle.tip_host.specs.Entries.{Enters, bare}
use Rattle.tip_host.specs.Notings.{AreOf}
use Rattle.tip_host.proofs.noting.enter.Goals as goal

pub returns : goal.returns
returns c = λ event are.
    subst (λ n. Enters (is_some n) (bare c.args.journals.now) (bare c.add-number.new.self) c.args.pass.now.noted c.add.new.self.noted c.args.realm (record { event = event; outcome = c.args.outcome }) (Some c.add-number.result)) (sym c.in_ok-noting.was)
    (entered_so c.args.journals.now c.add-number.new.self c.args.pass.now.noted c.add.new.self.noted c.args.realm event c.args.outcome c.in_ok-noting.noting c.epoch_of-epoch.result c.add-number.result (subst (AreOf event) c.in_ok-noting.was are) c.add-number.ensures.new c.add-number.ensures.number c.epoch_of-epoch.ensures (ap (λ p. p.noted) c.add.ensures))
