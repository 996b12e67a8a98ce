-- The place of the first realm of that name, or the one behind all.
use Rattle.std.proofs.Common.{◌≡◌, ◌∙◌, Some, false, true, sym, ap}
use Rattle.std.specs.Str.{bytes_eq}
use Rattle.std.proofs.lemmas.Option.{slice_get-get_or}
use Rattle.tip_scene.specs.Acts.{is_declared}
use Rattle.tip_scene.proofs.Places.{first_passes, none_passes, none_yet, one_more_fails}
use Rattle.tip_scene.proofs.declared.place_of.Goals as goal

pub loop-place-init : goal.loop-place-init
loop-place-init c = none_yet (is_declared c.args.name.now) c.args.declarations.now

pub returns-then-eq : goal.returns-then-eq
returns-then-eq c =
    let declarations = c.args.declarations.now in
    let item = c.index-declarations-place.result in
    let passes : is_declared c.args.name.now item ≡ true = ap (λ n. bytes_eq n c.args.name.now) (sym c.as_str.ensures.same) ∙ sym c.eq.ensures ∙ c.if-eq.true in
    first_passes (is_declared c.args.name.now) declarations c.loop-place.place item (slice_get-get_or declarations c.loop-place.place item c.loop-place-test.true ∙ ap Some (sym c.index-declarations-place.is)) passes c.loop-place.invariant

pub loop-place-preserved : goal.loop-place-preserved
loop-place-preserved c =
    let declarations = c.args.declarations.now in
    let item = c.index-declarations-place.result in
    let fails : is_declared c.args.name.now item ≡ false = ap (λ n. bytes_eq n c.args.name.now) (sym c.as_str.ensures.same) ∙ sym c.eq.ensures ∙ c.if-eq.false in
    one_more_fails (is_declared c.args.name.now) declarations c.loop-place.place item c.loop-place.invariant (slice_get-get_or declarations c.loop-place.place item c.loop-place-test.true ∙ ap Some (sym c.index-declarations-place.is)) fails

pub returns : goal.returns
returns c = none_passes (is_declared c.args.name.now) c.args.declarations.now c.loop-place.place c.loop-place-test.false c.loop-place.invariant
