-- The branches of one realm have labels.
use Rattle.std.proofs.Common.{◌≡◌, ◌∙◌, Some, ap}
use Rattle.std.specs.List.{position_or_len}
use Rattle.std.specs.Prelude.{slice_get}
use Rattle.tip_actor.proofs.Lists.{some_at}
use Rattle.tip_line.specs.Fields.{fields_of}
use Rattle.tip_scene.specs.Acts.{is_declared}
use Rattle.tip_scene.proofs.Hosting.{set_hostable}
use Rattle.tip_scene.proofs.Labelling.{labelled_so}
use Rattle.tip_scene.proofs.declared.Declared+S+Core.label.Goals as goal

pub returns-clause-declares : goal.returns-clause-declares
returns-clause-declares g c =
    let all = c.args.self.now.declarations.items in
    let place = c.place_of-place.result in
    let here : place ≡ position_or_len (is_declared c.args.name.now) all = c.place_of-place.ensures ∙ ap (position_or_len (is_declared c.args.name.now)) c.deref.ensures.value in
    let there : slice_get all place ≡ Some c.in-Some.declaration.now = some_at all place c.in-Some.declaration.now c.in-Some.ensures.item.3.0 c.in-Some.ensures.item.3.1 in
    labelled_so all c.args.name.now (fields_of 32 c.args.labels.now) place c.in-Some.declaration.now here there c.label.new.self c.label.result c.label.ensures.ok c.label.ensures.bad c.label.ensures.unblamed

pub returns-clause-hostable : goal.returns-clause-hostable
returns-clause-hostable g c = λ all.
    let items = c.args.self.now.declarations.items in
    let place = c.place_of-place.result in
    let there : slice_get items place ≡ Some c.in-Some.declaration.now = some_at items place c.in-Some.declaration.now c.in-Some.ensures.item.3.0 c.in-Some.ensures.item.3.1 in
    set_hostable items place c.in-Some.declaration.now c.label.new.self (fields_of 32 c.args.labels.now) c.label.result there c.label.ensures.ok c.label.ensures.same all
