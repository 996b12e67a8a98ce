-- A line of a realm, and one of a realm that is not there.
use Rattle.std.proofs.Common.{refl, string_bytes, subst}
use Rattle.tip_actor.proofs.Lists.{none_at, some_at}
use Rattle.tip_actor.specs.Standing.{Tells}
use Rattle.tip_script.specs.Moves.{move_by}
use Rattle.tip_scene.specs.Scenes.{does}
use Rattle.tip_scene.proofs.Halting.{halts_doing, halts_taking, none_of_it}
use Rattle.tip_scene.proofs.Leaving.{always_ok, rest_done, rest_stays}
use Rattle.tip_scene.proofs.Scening.{has_moved, has_not_moved, moved_elsewhere}
use Rattle.tip_scene.proofs.playing.Playing+StoredCore+S+Actor.act_in.Goals as goal

pub returns-in_default-clause-serves : goal.returns-in_default-clause-serves
returns-in_default-clause-serves g c = λ scene is may boxes.
    moved_elsewhere g.S.RowLog.keeping c.args.self.now scene (move_by c.args.instruction) c.args.realm.now c.place_of-place.result (string_bytes c.args.printed.now) (string_bytes c.print_elsewhere.new.printed) c.print_elsewhere.result is
    (c.place_of-place.ensures scene is) (none_at c.args.self.now.actors.items c.place_of-place.result c.in_default.ensures.item.3) c.print_elsewhere.ensures

pub returns-then-not-branch-clause-serves : goal.returns-then-not-branch-clause-serves
returns-then-not-branch-clause-serves g c = λ scene is may boxes.
    let actors = c.args.self.now.actors.items in
    let place = c.place_of-place.result in
    let actor = c.in-Some.actor.now in
    has_not_moved g.S.RowLog.keeping c.args.self.now.stored_core c.obey.new.stored_core c.args.self.now actors scene (move_by c.args.instruction) c.args.realm.now place actor c.obey.new.actor (string_bytes c.args.printed.now) (string_bytes c.obey.new.printed) is
    (c.place_of-place.ensures scene is) (some_at actors place actor c.in-Some.ensures.item.3.0 c.in-Some.ensures.item.3.1)
    (λ acting acts. subst (λ told. Tells g.S.RowLog.keeping c.args.self.now.stored_core c.obey.new.stored_core place actor c.obey.new.actor (string_bytes c.args.printed.now) (string_bytes c.obey.new.printed) told (does (move_by c.args.instruction) acting)) c.if-not-branch.true (c.in_ok-obey.ensures.tells acting acts may boxes))

pub returns-clause-truth : goal.returns-clause-truth
returns-clause-truth g c = λ truth. c.obey.ensures.truth (c.settle.ensures.truth truth)

pub returns-clause-serves : goal.returns-clause-serves
returns-clause-serves g c = λ scene is may boxes.
    let actors = c.args.self.now.actors.items in
    let place = c.place_of-place.result in
    let actor = c.in-Some.actor.now in
    has_moved g.S.RowLog.keeping c.args.self.now.stored_core c.obey.new.stored_core c.settle.new.stored_core actors scene (move_by c.args.instruction) c.args.realm.now place actor c.obey.new.actor c.settle.new.self (string_bytes c.args.printed.now) (string_bytes c.obey.new.printed) (string_bytes c.settle.new.printed) is
    (c.place_of-place.ensures scene is) (some_at actors place actor c.in-Some.ensures.item.3.0 c.in-Some.ensures.item.3.1)
    (λ acting acts. subst (λ told. Tells g.S.RowLog.keeping c.args.self.now.stored_core c.obey.new.stored_core place actor c.obey.new.actor (string_bytes c.args.printed.now) (string_bytes c.obey.new.printed) told (does (move_by c.args.instruction) acting)) c.if-not-branch.false (c.in_ok-obey.ensures.tells acting acts may boxes))
    c.in_ok-settle.ensures.acts

pub returns-in_default-clause-leaves : goal.returns-in_default-clause-leaves
returns-in_default-clause-leaves g c = λ scene is may boxes truth. always_ok g.S.RowLog.keeping c.print_elsewhere.result (rest_stays g.S.RowLog.keeping c.args.self.now)

pub returns-clause-leaves : goal.returns-clause-leaves
returns-clause-leaves g c = λ scene is may boxes truth.
    let actors = c.args.self.now.actors.items in
    let place = c.place_of-place.result in
    let actor = c.in-Some.actor.now in
    rest_done g.S.RowLog.keeping c.args.self.now _ c.obey.new.stored_core scene place actor c.obey.new.actor c.settle.new.self (string_bytes c.args.printed.now) (string_bytes c.obey.new.printed) (string_bytes c.settle.new.printed) (does (move_by c.args.instruction)) is
    (some_at actors place actor c.in-Some.ensures.item.3.0 c.in-Some.ensures.item.3.1) refl
    (λ acting acts. subst (λ told. Tells g.S.RowLog.keeping c.args.self.now.stored_core c.obey.new.stored_core place actor c.obey.new.actor (string_bytes c.args.printed.now) (string_bytes c.obey.new.printed) told (does (move_by c.args.instruction) acting)) c.if-not-branch.false (c.in_ok-obey.ensures.tells acting acts may boxes))
    c.in_ok-settle.ensures.acts

-- However far it has come

pub returns-in_default-clause-halts : goal.returns-in_default-clause-halts
returns-in_default-clause-halts g c = λ scene is may boxes. none_of_it g.S.RowLog.keeping c.args.self.now.stored_core c.args.self.now.stored_core.store c.args.self.now.actors.items scene (move_by c.args.instruction) c.args.realm.now is (λ name epoch rows stored. stored)

pub returns-in_err-obey-clause-halts : goal.returns-in_err-obey-clause-halts
returns-in_err-obey-clause-halts g c = λ scene is may boxes.
    let actors = c.args.self.now.actors.items in
    let place = c.place_of-place.result in
    let actor = c.in-Some.actor.now in
    halts_doing g.S.RowLog.keeping c.args.self.now.stored_core c.obey.new.stored_core.store actors scene (move_by c.args.instruction) c.args.realm.now place actor is (c.place_of-place.ensures scene is) (some_at actors place actor c.in-Some.ensures.item.3.0 c.in-Some.ensures.item.3.1) (λ acting acts. c.obey.ensures.halts acting acts may boxes)

pub returns-then-not-branch-clause-halts : goal.returns-then-not-branch-clause-halts
returns-then-not-branch-clause-halts g c = λ scene is may boxes.
    let actors = c.args.self.now.actors.items in
    let place = c.place_of-place.result in
    let actor = c.in-Some.actor.now in
    halts_doing g.S.RowLog.keeping c.args.self.now.stored_core c.obey.new.stored_core.store actors scene (move_by c.args.instruction) c.args.realm.now place actor is (c.place_of-place.ensures scene is) (some_at actors place actor c.in-Some.ensures.item.3.0 c.in-Some.ensures.item.3.1) (λ acting acts. c.obey.ensures.halts acting acts may boxes)

pub returns-in_err-settle-clause-halts : goal.returns-in_err-settle-clause-halts
returns-in_err-settle-clause-halts g c = λ scene is may boxes.
    let actors = c.args.self.now.actors.items in
    let place = c.place_of-place.result in
    let actor = c.in-Some.actor.now in
    halts_taking g.S.RowLog.keeping c.args.self.now.stored_core c.settle.new.stored_core.store actors scene (move_by c.args.instruction) c.args.realm.now place actor is (c.place_of-place.ensures scene is) (some_at actors place actor c.in-Some.ensures.item.3.0 c.in-Some.ensures.item.3.1) c.obey.new.stored_core c.obey.new.actor (string_bytes c.args.printed.now) (string_bytes c.obey.new.printed)
    (λ acting acts. subst (λ told. Tells g.S.RowLog.keeping c.args.self.now.stored_core c.obey.new.stored_core place actor c.obey.new.actor (string_bytes c.args.printed.now) (string_bytes c.obey.new.printed) told (does (move_by c.args.instruction) acting)) c.if-not-branch.false (c.in_ok-obey.ensures.tells acting acts may boxes))
    c.settle.ensures.halts

pub returns-clause-halts : goal.returns-clause-halts
returns-clause-halts g c = λ scene is may boxes.
    let actors = c.args.self.now.actors.items in
    let place = c.place_of-place.result in
    let actor = c.in-Some.actor.now in
    halts_taking g.S.RowLog.keeping c.args.self.now.stored_core c.settle.new.stored_core.store actors scene (move_by c.args.instruction) c.args.realm.now place actor is (c.place_of-place.ensures scene is) (some_at actors place actor c.in-Some.ensures.item.3.0 c.in-Some.ensures.item.3.1) c.obey.new.stored_core c.obey.new.actor (string_bytes c.args.printed.now) (string_bytes c.obey.new.printed)
    (λ acting acts. subst (λ told. Tells g.S.RowLog.keeping c.args.self.now.stored_core c.obey.new.stored_core place actor c.obey.new.actor (string_bytes c.args.printed.now) (string_bytes c.obey.new.printed) told (does (move_by c.args.instruction) acting)) c.if-not-branch.false (c.in_ok-obey.ensures.tells acting acts may boxes))
    c.settle.ensures.halts
