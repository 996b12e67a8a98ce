use Rattle.std.proofs.Common.{◌≡◌, true, false, ◌∙◌, sym, ap, get_or, Some, None, position}
use Rattle.std.proofs.lemmas.List.Quantifiers.{position-Some}
use Rattle.tip_rows.specs.Memory.{is_from, is_named}
use Rattle.tip_rows.proofs.PartLemmas.{position-None}
use Rattle.tip_rows.proofs.KnownLemmas.{named_here, named_never, named_nowhere}
use Rattle.tip_rows.proofs.memory.find.Goals as goal

pub returns-in_default : goal.returns-in_default
returns-in_default c =
    let realm = c.args.realm.now in
    let known = c.args.known.now in
    let none : position (is_from realm) known ≡ None = ap (λ name. position (is_from name) known) (sym c.as_str.ensures.same) ∙ sym c.in_default.ensures in
    sym (named_never realm known (λ j d less. position-None (is_from realm) known d none j less))

pub returns-then-is_named : goal.returns-then-is_named
returns-then-is_named c =
    let realm = c.args.realm.now in
    let known = c.args.known.now in
    let place = c.in-Some.place in
    let first = c.index-known-place in
    let at : position (is_from realm) known ≡ Some place = ap (λ name. position (is_from name) known) (sym c.as_str.ensures.same) ∙ sym c.in-Some.ensures in
    let found = position-Some (is_from realm) known place first.result at in
    let same : is_named realm (get_or known place first.result) ≡ true = ap (is_named realm) (sym first.is) ∙ sym c.is_named.ensures ∙ c.if-is_named.true in
    sym (named_here realm known place first.result found.0 found.2 same ∙ ap Some (sym first.is))

pub returns-else-is_named : goal.returns-else-is_named
returns-else-is_named c =
    let realm = c.args.realm.now in
    let known = c.args.known.now in
    let place = c.in-Some.place in
    let first = c.index-known-place in
    let at : position (is_from realm) known ≡ Some place = ap (λ name. position (is_from name) known) (sym c.as_str.ensures.same) ∙ sym c.in-Some.ensures in
    let found = position-Some (is_from realm) known place first.result at in
    let other : is_named realm (get_or known place first.result) ≡ false = ap (is_named realm) (sym first.is) ∙ sym c.is_named.ensures ∙ c.if-is_named.false in
    sym (named_nowhere realm known place first.result c.requires found.0 found.2 found.1 other)
