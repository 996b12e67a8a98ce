-- Lines are taken one after another.
use Rattle.std.proofs.Common.{string_bytes, subst}
use Rattle.tip_actor.specs.Standing.{Finds}
use Rattle.tip_actor.proofs.Settling.{halts_taking, settled, settles_first, settles_on}
use Rattle.tip_actor.proofs.lines.Actor+PartyOut.settle.Goals as goal

pub loop-init : goal.loop-init
loop-init g c = record {
  running = c.requires.running;
  truth = λ is. is;
  settles = λ acting is. settles_first g.S.RowLog.keeping c.args.stored_core.now c.args.place c.args.self.now (string_bytes c.args.printed.now) acting is;
}

pub returns-in-None-clause-acts : goal.returns-in-None-clause-acts
returns-in-None-clause-acts g c = λ acting is.
    let so = c.loop.invariant.settles acting is in
    let none = subst (Finds c.next_line.new.self so.now.acting) c.in-None.is (c.in_ok-event.ensures so.now.acting so.done.own.served.state_is so.done.own.own) in
    settled g.S.RowLog.keeping c.args.stored_core.now c.loop.stored_core c.args.place c.args.self.now c.loop.self c.next_line.new.self (string_bytes c.args.printed.now) (string_bytes c.loop.printed) acting so none.0 none.1

pub loop-preserved : goal.loop-preserved
loop-preserved g c = record {
  running = c.happen.ensures.running;
  truth = λ is. c.loop.invariant.truth (c.happen.ensures.truth is);
  settles = λ acting is.
      let so = c.loop.invariant.settles acting is in
      let next = subst (Finds c.next_line.new.self so.now.acting) c.in-Some.is (c.in_ok-event.ensures so.now.acting so.done.own.served.state_is so.done.own.own) in
      settles_on g.S.RowLog.keeping c.args.stored_core.now c.loop.stored_core c.happen.new.stored_core c.args.place c.args.self.now c.loop.self c.next_line.new.self c.happen.new.self (string_bytes c.args.printed.now) (string_bytes c.loop.printed) (string_bytes c.happen.new.printed) acting c.in-Some.event so next c.in_ok-happen-in-Some.ensures.acts;
}

-- However it ends

pub returns-in_err-happen-in-Some-clause-halts : goal.returns-in_err-happen-in-Some-clause-halts
returns-in_err-happen-in-Some-clause-halts g c = λ acting is.
    let so = c.loop.invariant.settles acting is in
    let next = subst (Finds c.next_line.new.self so.now.acting) c.in-Some.is (c.in_ok-event.ensures so.now.acting so.done.own.served.state_is so.done.own.own) in
    halts_taking g.S.RowLog.keeping c.args.stored_core.now c.loop.stored_core c.args.place c.args.self.now c.loop.self (string_bytes c.args.printed.now) (string_bytes c.loop.printed) acting so c.happen.new.stored_core.store c.next_line.new.self c.in-Some.event next c.happen.ensures.halts
