-- One realm more, to which nothing has come.
use Rattle.std.proofs.Common.{◌++◌, ◌∷◌, ◌∙◌, [], List, ap, append_assoc, subst, sym}
use Rattle.tip_actor.specs.Standing.{Actor}
use Rattle.tip_scene.specs.Rising.{AreAnew}
use Rattle.tip_scene.proofs.Begun.{anew_push}
use Rattle.tip_scene.proofs.rising.anew.Goals as goal

pub loop-actor-preserved : goal.loop-actor-preserved
loop-actor-preserved g c = record {
  whole = append_assoc c.loop-actor.yielded (c.in-Some.actor ∷ []) c.next.new.self.rest.items ∙ ap (λ (actors : List Actor). c.loop-actor.yielded ++ actors) (sym c.in-Some.ensures.steps.0) ∙ c.loop-actor.invariant.whole;
  made = subst (λ again. AreAnew again (c.loop-actor.yielded ++ c.in-Some.actor ∷ [])) (sym c.in_ok-push.ensures.items) (anew_push c.loop-actor.again.items c.loop-actor.yielded c.anew.result c.in-Some.actor c.loop-actor.invariant.made (record { name = c.anew.ensures.name; readers = c.anew.ensures.readers; errands = c.anew.ensures.errands; due = c.anew.ensures.due }));
}
