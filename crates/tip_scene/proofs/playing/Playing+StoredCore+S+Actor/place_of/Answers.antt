-- A realm that has the name is the first that has it.
use Rattle.std.proofs.Common.{ap, sym, ◌∙◌}
use Rattle.std.specs.Prelude.{option_map, slice_get}
use Rattle.tip_scene.specs.Standing.{has_name}
use Rattle.tip_scene.proofs.Scening.{first_there}
use Rattle.tip_scene.proofs.playing.Playing+StoredCore+S+Actor.place_of.Goals as goal

pub returns-in-Some : goal.returns-in-Some
returns-in-Some g c = λ scene is.
    let found = sym (ap (λ actors. option_map (has_name c.args.name.now) (slice_get actors c.in-Some.place)) c.deref.ensures.value) ∙ c.in-Some.ensures in
    first_there g.S.RowLog.keeping c.args.self.now.stored_core c.args.self.now.actors.items scene c.args.name.now c.in-Some.place is found
