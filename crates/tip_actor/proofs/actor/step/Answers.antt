-- What the stored core has done is what its realm does, with a store that refuses where that is due alone.
use Rattle.std.proofs.Common.{refl, subst}
use Rattle.tip_core.specs.Hosted.{realm}
use Rattle.tip_actor.proofs.Serving.{refused_stays, serves, still_true}
use Rattle.tip_actor.proofs.actor.step.Goals as goal

pub returns-in-Err-Memory-default-clause-truth : goal.returns-in-Err-Memory-default-clause-truth
returns-in-Err-Memory-default-clause-truth g c = λ is. subst g.S.RowLog.keeping.is_true c.in-Err-Memory-default.ensures.store is

pub returns-then-is_unforeseen-clause-truth : goal.returns-then-is_unforeseen-clause-truth
returns-then-is_unforeseen-clause-truth g c = still_true g.S.RowLog.keeping c.args.stored_core.now.core c.args.stored_core.now.store c.step.new.self.store c.args.place c.in-Ok.happened.change c.in-Ok.happened.outcome (realm c.args.stored_core.now.core c.args.place) refl (λ none. (c.in-Ok.ensures.happens.absent none).1) c.in-Ok.ensures.happens.keeps

pub returns-clause-truth : goal.returns-clause-truth
returns-clause-truth g c = still_true g.S.RowLog.keeping c.args.stored_core.now.core c.args.stored_core.now.store c.step.new.self.store c.args.place c.in-Ok.happened.change c.in-Ok.happened.outcome (realm c.args.stored_core.now.core c.args.place) refl (λ none. (c.in-Ok.ensures.happens.absent none).1) c.in-Ok.ensures.happens.keeps

pub returns-clause-serves : goal.returns-clause-serves
returns-clause-serves g c = λ state served. serves g.S.RowLog.keeping c.args.stored_core.now c.step.new.self c.args.place state c.args.is_due c.args.event c.in-Ok.happened served c.in-Ok.ensures.happens.steps (c.in-Ok.ensures.happens.wanted state served.state_is) c.in-Ok.ensures.happens.fits c.in-Ok.ensures.happens.names (c.in-Ok.ensures.happens.keeps state served.state_is) (c.is_unforeseen.ensures.no c.if-is_unforeseen.false)

pub returns-then-is_unforeseen-clause-stays : goal.returns-then-is_unforeseen-clause-stays
returns-then-is_unforeseen-clause-stays g c = refused_stays g.S.RowLog.keeping c.args.stored_core.now.core c.args.stored_core.now.store c.step.new.self.store c.args.place c.in-Ok.happened.change c.in-Ok.happened.outcome (realm c.args.stored_core.now.core c.args.place) refl (c.is_unforeseen.ensures.yes c.if-is_unforeseen.true) (λ none. (c.in-Ok.ensures.happens.absent none).1) c.in-Ok.ensures.happens.keeps
