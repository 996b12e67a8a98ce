-- What is read leaves all as it was.
use Rattle.std.proofs.Common.{◌≡◌, List, Some, map, subst, sym}
use Rattle.std.specs.Prelude.{slice_get}
use Rattle.tip_actor.specs.Standing.{Actor}
use Rattle.tip_scene.proofs.Blaming.{all_whole, never_spoiled}
use Rattle.tip_scene.proofs.Leaving.{scene_names}
use Rattle.tip_scene.proofs.Scening.{reads}
use Rattle.tip_scene.proofs.Wanting.{has_scene}
use Rattle.tip_scene.specs.Wanting.{AreNamed}
use Rattle.tip_scene.proofs.playing.Playing+StoredCore+S+Actor.willing.Goals as goal

pub returns-clause-stands : goal.returns-clause-stands
returns-clause-stands g c = λ scene is. reads g.S.RowLog.keeping c.args.self.now.stored_core c.count_acting.new.store c.count_acting.ensures.stands c.count_acting.ensures.due c.args.self.now.actors.items scene is

pub returns-clause-blames : goal.returns-clause-blames
returns-clause-blames g c = λ scene is store truth.
    let named = λ (l : List Actor). map (λ (actor : Actor). actor.name) l in
    never_spoiled g.S.RowLog.keeping c.args.self.now.stored_core.store c.count_acting.new.store (named c.deref.result.now)
    (λ place name here. all_whole g.S.RowLog.keeping c.args.self.now.stored_core c.args.self.now.actors.items scene is place name (subst (λ l. slice_get (named l) place ≡ Some name) c.deref.ensures.value here)) truth (c.count_acting.ensures.unread store)

pub returns-clause-wanted : goal.returns-clause-wanted
returns-clause-wanted g c = λ scene is.
    let named = λ (l : List Actor). map (λ (actor : Actor). actor.name) l in
    let stored_core = c.args.self.now.stored_core in
    let actors = c.args.self.now.actors.items in
    c.count_acting.ensures.wanted scene (subst (λ l. AreNamed (named l) scene) (sym c.deref.ensures.value) (sym (scene_names g.S.RowLog.keeping stored_core actors scene is))) (has_scene g.S.RowLog.keeping stored_core actors scene is)
