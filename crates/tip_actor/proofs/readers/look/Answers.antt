-- The busy readers are asked one after another.
use Rattle.std.proofs.Common.{None, subst, sym, ◌∙◌}
use Rattle.tip_actor.specs.Listening.{IsAsked, line_of}
use Rattle.tip_actor.specs.Standing.{GivesNext}
use Rattle.tip_actor.proofs.Busy.{IsLooking, busy_then, found, found_none, held, misses, nothing, starts}
use Rattle.tip_actor.proofs.Lists.{some_at}
use Rattle.tip_actor.proofs.readers.look.Goals as goal

pub loop-index-init : goal.loop-index-init
loop-index-init g c = subst (λ rest. IsLooking c.args.core.now c.args.place c.args.busy.now.keys rest c.args.all.now.items c.args.all.now.items None) (sym (c.into_iter-index-iterator.ensures.into_iter_gives ∙ c.iter-index-items.ensures.rest)) (starts c.args.core.now c.args.place c.args.busy.now.keys c.args.all.now.items c.requires c.iter-index-items.ensures.ordered)

pub loop-index-preserved-in_default : goal.loop-index-preserved-in_default
loop-index-preserved-in_default g c =
    let looking = subst (λ rest. IsLooking c.args.core.now c.args.place c.args.busy.now.keys rest c.args.all.now.items c.loop-index.all.items c.loop-index.idle) c.in-Some.ensures.steps c.loop-index.invariant in
    misses c.args.core.now c.args.place c.args.busy.now.keys c.in-Some.index.now c.next.new.self c.args.all.now.items c.loop-index.all.items c.loop-index.idle looking c.in_default.ensures.item.3

pub returns-in_err-heard-clause-busy : goal.returns-in_err-heard-clause-busy
returns-in_err-heard-clause-busy g c =
    let looking = subst (λ rest. IsLooking c.args.core.now c.args.place c.args.busy.now.keys rest c.args.all.now.items c.loop-index.all.items c.loop-index.idle) c.in-Some.ensures.steps c.loop-index.invariant in
    busy_then c.args.core.now c.args.place c.args.busy.now.keys c.in-Some.index.now c.next.new.self c.args.all.now.items c.loop-index.all.items c.loop-index.idle c.ask.new.self looking

pub returns-in-Line-clause-busy : goal.returns-in-Line-clause-busy
returns-in-Line-clause-busy g c =
    let looking = subst (λ rest. IsLooking c.args.core.now c.args.place c.args.busy.now.keys rest c.args.all.now.items c.loop-index.all.items c.loop-index.idle) c.in-Some.ensures.steps c.loop-index.invariant in
    busy_then c.args.core.now c.args.place c.args.busy.now.keys c.in-Some.index.now c.next.new.self c.args.all.now.items c.loop-index.all.items c.loop-index.idle c.ask.new.self looking

pub returns-in-Line-clause-finds : goal.returns-in-Line-clause-finds
returns-in-Line-clause-finds g c = λ state readings there are.
    let looking = subst (λ rest. IsLooking c.args.core.now c.args.place c.args.busy.now.keys rest c.args.all.now.items c.loop-index.all.items c.loop-index.idle) c.in-Some.ensures.steps c.loop-index.invariant in
    let here = some_at c.loop-index.all.items c.in-Some.index.now c.in-Some-get_mut.reader.now c.in-Some-get_mut.ensures.item.3.0 c.in-Some-get_mut.ensures.item.3.1 in
    found c.args.core.now c.args.place c.args.busy.now.keys c.in-Some.index.now c.next.new.self c.args.all.now.items c.loop-index.all.items c.loop-index.idle c.in-Some-get_mut.reader.now c.ask.new.self c.in-Line.heard looking here
    (λ s reading at is. subst (λ asked. GivesNext s c.ask.new.self reading (line_of asked)) c.in-Line.is (c.in_ok-heard.ensures.next s reading at is)) state readings there are

pub loop-index-preserved-in-Held : goal.loop-index-preserved-in-Held
loop-index-preserved-in-Held g c =
    let looking = subst (λ rest. IsLooking c.args.core.now c.args.place c.args.busy.now.keys rest c.args.all.now.items c.loop-index.all.items c.loop-index.idle) c.in-Some.ensures.steps c.loop-index.invariant in
    let here = some_at c.loop-index.all.items c.in-Some.index.now c.in-Some-get_mut.reader.now c.in-Some-get_mut.ensures.item.3.0 c.in-Some-get_mut.ensures.item.3.1 in
    held c.args.core.now c.args.place c.args.busy.now.keys c.in-Some.index.now c.next.new.self c.args.all.now.items c.loop-index.all.items c.loop-index.idle c.in-Some-get_mut.reader.now c.ask.new.self looking here
    (λ s reading at is. subst (λ asked. GivesNext s c.ask.new.self reading (line_of asked)) c.in-Held.is (c.in_ok-heard.ensures.next s reading at is))
    (subst (λ asked. IsAsked asked c.in-Some-get_mut.reader.now c.ask.new.self) c.in-Held.is c.in_ok-heard.ensures.asked)

pub loop-index-preserved : goal.loop-index-preserved
loop-index-preserved g c =
    let looking = subst (λ rest. IsLooking c.args.core.now c.args.place c.args.busy.now.keys rest c.args.all.now.items c.loop-index.all.items c.loop-index.idle) c.in-Some.ensures.steps c.loop-index.invariant in
    let here = some_at c.loop-index.all.items c.in-Some.index.now c.in-Some-get_mut.reader.now c.in-Some-get_mut.ensures.item.3.0 c.in-Some-get_mut.ensures.item.3.1 in
    nothing c.args.core.now c.args.place c.args.busy.now.keys c.in-Some.index.now c.next.new.self c.args.all.now.items c.loop-index.all.items c.loop-index.idle c.in-Some-get_mut.reader.now c.ask.new.self looking here
    (λ s reading at is. subst (λ asked. GivesNext s c.ask.new.self reading (line_of asked)) c.in-Nothing.is (c.in_ok-heard.ensures.next s reading at is))
    (subst (λ asked. IsAsked asked c.in-Some-get_mut.reader.now c.ask.new.self) c.in-Nothing.is c.in_ok-heard.ensures.asked)

pub returns-clause-finds : goal.returns-clause-finds
returns-clause-finds g c = λ state readings there are.
    let looking = subst (λ rest. IsLooking c.args.core.now c.args.place c.args.busy.now.keys rest c.args.all.now.items c.loop-index.all.items c.loop-index.idle) c.in-None.ensures.steps.0 c.loop-index.invariant in
    found_none c.args.core.now c.args.place c.args.busy.now.keys c.args.all.now.items c.loop-index.all.items c.loop-index.idle looking state readings there are
