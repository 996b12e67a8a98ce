-- Octets come on a connection that the realm has given, or on another.
use Rattle.std.proofs.Common.{arith, refl, subst, sym}
use Rattle.tip_script.specs.Moves.{octets_of}
use Rattle.tip_actor.specs.Standing.{AreReadings}
use Rattle.tip_actor.proofs.Busy.{fed_at}
use Rattle.tip_actor.proofs.Connecting.{has_fed, no_reading_past}
use Rattle.tip_actor.proofs.Lists.{some_at}
use Rattle.tip_actor.proofs.readers.Readers.feed.Goals as goal

pub returns-in_default-get_mut : goal.returns-in_default-get_mut
returns-in_default-get_mut c = λ readings are.
    let inside = subst (λ view. AreReadings view.items readings) (sym c.self.view_is) are in
    (no_reading_past c.self.inside.all.items readings c.args.connection c.in-Some.index inside (let number = c.in-Some.ensures in omega (arith, number.0, number.1)) c.in_default-get_mut.ensures.item.3, inside)

pub invariant_of-self-in_err-feed : goal.invariant_of-self-in_err-feed
invariant_of-self-in_err-feed c = fed_at c.self.inside.busy c.insert.new.self c.self.inside.all.items c.in-Some.index c.feed.new.self c.in_ok-insert.ensures.updates c.self.invariant

pub invariant_of-self-2 : goal.invariant_of-self-2
invariant_of-self-2 c = fed_at c.self.inside.busy c.insert.new.self c.self.inside.all.items c.in-Some.index c.feed.new.self c.in_ok-insert.ensures.updates c.self.invariant

pub returns : goal.returns
returns c = λ readings are.
    let inside = subst (λ view. AreReadings view.items readings) (sym c.self.view_is) are in
    has_fed c.self.inside.all.items _ readings c.args.connection c.in-Some.index c.in-Some-get_mut.reader.now c.feed.new.self (octets_of c.args.octets) inside (let number = c.in-Some.ensures in omega (arith, number.0, number.1))
    (some_at c.self.inside.all.items c.in-Some.index c.in-Some-get_mut.reader.now c.in-Some-get_mut.ensures.item.3.0 c.in-Some-get_mut.ensures.item.3.1) c.in_ok-feed.ensures.seat c.in_ok-feed.ensures.gives refl
