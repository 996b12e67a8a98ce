-- The seat of a connection that the realm has given, or none.
use Rattle.std.proofs.Common.{◌<◌, ◌≤◌, ◌∙◌, Some, length, arith, ap, slice_index_or, subst, sym}
use Rattle.std.specs.Prelude.{option_map}
use Rattle.std.proofs.lemmas.Bool.Decides.{nat_tests}
use Rattle.std.proofs.lemmas.Option.{slice_get-get_or}
use Rattle.tip_actor.specs.Acting.{Reading}
use Rattle.tip_actor.specs.Standing.{AreReadings}
use Rattle.tip_actor.proofs.Connecting.{is_given, no_reading_past}
use Rattle.tip_actor.proofs.readers.Readers.seat.Goals as goal

pub returns-in_err-get : goal.returns-in_err-get
returns-in_err-get c = λ readings are.
    let past : length c.args.self.now.items ≤ c.in_ok-index.index = grind (arith, nat_tests) in
    let none = no_reading_past c.args.self.now.items readings c.args.connection c.in_ok-index.index are (let number = c.in_ok-index.ensures in omega (arith, number.0, number.1)) past in
    c.from_residual-in_err-get.ensures ∙ ap (option_map (λ (reading : Reading). reading.seat)) (sym none)

pub returns : goal.returns
returns c = λ readings are.
    let readers = c.self.inside.all.items in
    let inside = subst (λ view. AreReadings view.items readings) (sym c.self.view_is) are in
    let reader = c.in_ok-get.field-0.now in
    let within : c.in_ok-index.index < length readers = grind (arith, nat_tests) in
    let here = slice_get-get_or readers c.in_ok-index.index reader within ∙ ap Some (sym (c.in_ok-get.ensures.lookup.1 ∙ ap (λ l. slice_index_or l c.in_ok-index.index reader) c.deref.ensures.value)) in
    let given = is_given readers readings c.args.connection c.in_ok-index.index reader inside (let number = c.in_ok-index.ensures in omega (arith, number.0, number.1)) here in
    ap Some given.is.0 ∙ ap (option_map (λ (reading : Reading). reading.seat)) (sym given.found)
