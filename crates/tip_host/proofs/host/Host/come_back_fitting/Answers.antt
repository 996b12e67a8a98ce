use Rattle.std.proofs.Common.{option_map, subst}
use Rattle.std.specs.Prelude.{IfOk, IfSome, ◌≡◌}
use Rattle.tip_journal.specs.Fits.{Fits}
use Rattle.tip_host.specs.Works.{Takes}
use Rattle.tip_host.proofs.Answering.{answered_so}
use Rattle.tip_host.proofs.host.Host.come_back_fitting.Goals as goal

pub returns-clause-answered : goal.returns-clause-answered
returns-clause-answered g c =
    let serves = rw (← c.self.view_is) at c.in_ok-reply.ensures.serves in
    let fits = subst (Fits c.self.inside.books.journals c.args.pass.now.noted) c.realm-realm.ensures (rw (← c.self.view_is) at (c.fits.ensures.0 c.if-not-fits.false)) in
    rw (← c.self.view_is) (answered_so _ _ c.come_back.new.self _ _ _ _ _ _ c.self.invariant fits serves)

pub returns-clause-serves : goal.returns-clause-serves
returns-clause-serves g c =
    let went = c.come_back.new.self in
    let now = c.take_work-work.new.self in
    record {
      between = went;
      serves = c.in_ok-reply.ensures.serves;
      takes = subst (λ realm. IfOk c.take_work-work.result (λ found. Takes realm (option_map (λ (work : _). work.sent) found) went.books.work now.books.work went.books.out now.books.out)) c.realm-realm.ensures c.take_work-work.ensures.takes;
      own = subst (λ realm. IfOk c.take_work-work.result (λ found. IfSome found (λ work. work.realm ≡ realm))) c.realm-realm.ensures c.take_work-work.ensures.realm;
      stays = c.take_work-work.ensures.stays;
      rest = c.take_work-work.ensures.rest;
    }
