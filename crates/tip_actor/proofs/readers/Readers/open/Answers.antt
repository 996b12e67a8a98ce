use Rattle.std.proofs.Common.{Some, refl, subst, sym}
use Rattle.tip_actor.specs.Standing.{AreReadings}
use Rattle.tip_actor.proofs.Lists.{given}
use Rattle.tip_actor.proofs.readers.Readers.open.Goals as goal

pub returns : goal.returns
returns c = record {
  readings = λ readings are.
      let inside = subst (λ view. AreReadings view.items readings) (sym c.self.view_is) are in
      given c.self.inside.all.items c.push.new.self.items readings c.new.result c.args.seat (Some c.args.seat) inside refl c.new.ensures.seat c.new.ensures.gives c.in_ok-push.ensures.items;
}
