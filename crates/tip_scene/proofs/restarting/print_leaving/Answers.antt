-- What one realm more lets go.
use Rattle.std.proofs.Common.{◌≡◌, ◌∙◌, ◌++◌, Some, ap, arith, string_bytes, sym}
use Rattle.std.specs.List.{flat_map}
use Rattle.std.specs.Prelude.{slice_get}
use Rattle.std.proofs.lemmas.Option.{slice_get-get_or}
use Rattle.tip_actor.proofs.Lists.{partner}
use Rattle.tip_actor.specs.Acting.{restarts}
use Rattle.tip_scene.proofs.Begun.{all_said, said_more}
use Rattle.tip_scene.proofs.restarting.print_leaving.Goals as goal

pub loop-place-preserved : goal.loop-place-preserved
loop-place-preserved g c = λ scene is.
    let actors = c.args.actors.now in
    let place = c.loop-place.place in
    let actor = c.index-actors-place.result in
    let here : slice_get actors place ≡ Some actor = slice_get-get_or actors place actor c.loop-place-test.true ∙ ap Some (sym c.index-actors-place.is) in
    let mate = partner actors scene place actor is.count here in
    said_more (λ acting. (restarts acting).printed) scene place mate.0 (string_bytes c.loop-place.printed) (string_bytes c.print_leaving.new.printed) (string_bytes c.args.printed.now ++ flat_map (λ acting. (restarts acting).printed) scene) mate.1 (c.in_ok-print_leaving.ensures mate.0 (is.each place actor mate.0 here mate.1)) (c.loop-place.invariant scene is)

pub returns : goal.returns
returns g c = λ scene is.
    let count = is.count in
    let test = c.loop-place-test.false in
    all_said (λ acting. (restarts acting).printed) scene c.loop-place.place (string_bytes c.loop-place.printed) (string_bytes c.args.printed.now ++ flat_map (λ acting. (restarts acting).printed) scene) (omega (arith, count, test)) (c.loop-place.invariant scene is)
