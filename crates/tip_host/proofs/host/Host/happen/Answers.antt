use Rattle.std.proofs.Common.{◌∙◌, ap, sym}
use Rattle.std.specs.Prelude.{is_some}
use Rattle.tip_host.proofs.Honestly.{few_so, is_within, seen_same, still_honest}
use Rattle.tip_host.proofs.Served.{entered_from, honest_so, rows_ready, serves_so}
use Rattle.tip_host.specs.Entries.{takes_entry}
use Rattle.tip_host.proofs.host.Host.happen.Goals as goal

pub make_ready-requires : goal.make_ready-requires
make_ready-requires g c = record { here = λ state here. is_within c.self.inside.stored.core c.self.inside.books c.self.invariant c.args.realm state (sym (c.room.ensures.realms c.args.realm) ∙ here) }

pub invariant_of-self-in_default : goal.invariant_of-self-in_default
invariant_of-self-in_default g c =
    let seen = c.make_ready.ensures.seen in
    still_honest c.self.inside.stored.core c.room.new.self.core c.self.inside.books c.make_ready.new.books (seen_same c.self.inside.stored.core c.room.new.self.core c.self.inside.books c.make_ready.new.books c.room.ensures.realms seen) seen.count seen.retired c.self.invariant

pub finish-requires-clause-few : goal.finish-requires-clause-few
finish-requires-clause-few g c = λ yes.
    let realms = c.room.ensures.realms c.args.realm in
    let noting = c.in-Ok-make_ready.ensures.noting in
    few_so c.self.inside.stored.core c.self.inside.books c.make_ready.new.books.journals c.args.realm c.self.invariant c.make_ready.ensures.seen.journals (ap takes_entry (sym realms) ∙ sym noting.takes ∙ yes) (λ state here. noting.few yes state (realms ∙ here))

pub finish-requires-clause-rows : goal.finish-requires-clause-rows
finish-requires-clause-rows g c =
    rows_ready c.self.inside.stored.core c.room.new.self.core c.self.inside.books c.make_ready.new.books c.args.realm c.in-Ok-make_ready.ready.change c.in-Ok.room.change c.self.invariant (c.room.ensures.realms c.args.realm) c.in-Ok.ensures.room.nothing c.in-Ok-make_ready.ensures.change c.make_ready.ensures.seen c.in-Ok-make_ready.ensures.space.rows

pub invariant_of-self-2 : goal.invariant_of-self-2
invariant_of-self-2 g c =
    honest_so _ c.self.inside.stored c.room.new.self c.happen-happened.new.self c.self.inside.books c.make_ready.new.books c.finish.new.books c.args.realm c.args.event c.happen-happened.result c.in-Ok-make_ready.ready.change c.args.back c.args.pass.now.noted c.finish.new.pass.noted c.finish.result (is_some c.in-Ok-make_ready.ready.noting)
    c.room.ensures.realms c.room.ensures.store c.happen-happened.ensures.happens c.self.invariant c.make_ready.ensures.seen (rw (← c.self.view_is) at c.requires.brings) c.finish.ensures.writes (c.in-Ok-make_ready.ensures.change ∙ sym c.happen-happened.ensures.change)
    (c.in-Ok-make_ready.ensures.noting.takes ∙ ap takes_entry (c.room.ensures.realms c.args.realm)) (entered_from _ _ _ _ _ _ _ _ _ c.make_ready.ensures.pass (c.finish.ensures.enters c.args.event c.in-Ok-make_ready.ensures.noting.of))

pub returns-clause-serves : goal.returns-clause-serves
returns-clause-serves g c = rw (← c.self.view_is) (
    serves_so _ c.self.inside.stored c.room.new.self c.happen-happened.new.self c.self.inside.books c.make_ready.new.books c.finish.new.books c.args.realm c.args.event c.happen-happened.result c.in-Ok-make_ready.ready.change c.args.back c.args.pass.now.noted c.finish.new.pass.noted c.finish.result (is_some c.in-Ok-make_ready.ready.noting)
    c.room.ensures.realms c.room.ensures.store c.happen-happened.ensures.happens c.make_ready.ensures.seen (rw (← c.self.view_is) at c.requires.brings) c.finish.ensures.writes (c.in-Ok-make_ready.ensures.change ∙ sym c.happen-happened.ensures.change)
    c.finish.ensures.is c.finish.ensures.change c.finish.ensures.outcome
    (c.in-Ok-make_ready.ensures.noting.takes ∙ ap takes_entry (c.room.ensures.realms c.args.realm)) (entered_from _ _ _ _ _ _ _ _ _ c.make_ready.ensures.pass (c.finish.ensures.enters c.args.event c.in-Ok-make_ready.ensures.noting.of)))
