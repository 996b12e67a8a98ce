-- What one realm more says.
use Rattle.std.proofs.Common.{◌≡◌, ◌∙◌, ◌++◌, Some, ap, arith, string_bytes, sym}
use Rattle.std.specs.Prelude.{slice_get}
use Rattle.std.proofs.lemmas.Option.{slice_get-get_or}
use Rattle.tip_actor.proofs.Lists.{partner}
use Rattle.tip_actor.specs.Acting.{opening_text}
use Rattle.tip_scene.specs.Scenes.{openings_text}
use Rattle.tip_scene.proofs.Begun.{all_said, new_at, new_count, said_more}
use Rattle.tip_scene.proofs.rising.print_openings.Goals as goal

pub loop-place-preserved : goal.loop-place-preserved
loop-place-preserved g c = λ scene are rising.
    let actors = c.args.actors.now in
    let place = c.loop-place.place in
    let actor = c.index-actors-place.result in
    let here : slice_get actors place ≡ Some actor = slice_get-get_or actors place actor c.loop-place-test.true ∙ ap Some (sym c.index-actors-place.is) in
    let mate = partner actors scene place actor (new_count actors scene are) here in
    said_more opening_text scene place mate.0 (string_bytes c.loop-place.printed) (string_bytes c.print_opening.new.printed) (string_bytes c.args.printed.now ++ openings_text scene) mate.1 (c.in_ok-print_opening.ensures mate.0 (new_at actors scene place actor mate.0 are here mate.1).name (rising.each place mate.0 mate.1)) (c.loop-place.invariant scene are rising)

pub returns : goal.returns
returns g c = λ scene are rising.
    let count = new_count c.args.actors.now scene are in
    let test = c.loop-place-test.false in
    all_said opening_text scene c.loop-place.place (string_bytes c.loop-place.printed) (string_bytes c.args.printed.now ++ openings_text scene) (omega (arith, count, test)) (c.loop-place.invariant scene are rising)
