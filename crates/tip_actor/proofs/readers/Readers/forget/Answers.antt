use Rattle.std.proofs.Common.{arith, subst, sym}
use Rattle.tip_actor.specs.Standing.{AreReadings}
use Rattle.tip_actor.proofs.Lists.{forgets, forgets_nothing, some_at}
use Rattle.tip_actor.proofs.readers.Readers.forget.Goals as goal

pub returns-in-Some-get_mut : goal.returns-in-Some-get_mut
returns-in-Some-get_mut c = λ readings are.
    let readers = c.self.inside.all.items in
    let reader = c.in-Some-get_mut.reader.now in
    let inside = subst (λ view. AreReadings view.items readings) (sym c.self.view_is) are in
    forgets readers readings c.args.connection c.in-Some.index reader c.restart.new.self (let number = c.in-Some.ensures in omega (arith, number.0, number.1)) inside (some_at readers c.in-Some.index reader c.in-Some-get_mut.ensures.item.3.0 c.in-Some-get_mut.ensures.item.3.1) c.restart.ensures.seat c.restart.ensures.gives

pub returns-in_default-get_mut : goal.returns-in_default-get_mut
returns-in_default-get_mut c = λ readings are.
    let inside = subst (λ view. AreReadings view.items readings) (sym c.self.view_is) are in
    forgets_nothing c.self.inside.all.items readings c.args.connection c.in-Some.index (let number = c.in-Some.ensures in omega (arith, number.0, number.1)) inside c.in_default-get_mut.ensures.item.3
