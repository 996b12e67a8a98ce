use Rattle.std.proofs.Common.{◌≡◌, ◌∙◌, Some, ap, false, sym, true}
use Rattle.std.proofs.lemmas.Option.{same_Some}
use Rattle.tip_host.specs.Works.{is_errand_of}
use Rattle.tip_table.proofs.Standing.{found}
use Rattle.tip_host.proofs.returning.place_of.Goals as goal

pub returns-then-not-is-clause-none : goal.returns-then-not-is-clause-none
returns-then-not-is-clause-none c = λ same.
    let first = found c.args.out.now c.args.realm (is_errand_of c.args.sent.now) c.in_ok-place.place c.in_ok-place.ensures.some ∙ c.item.ensures in
    let wrong : false ≡ true = sym c.if-not-is.true ∙ c.is.ensures.1 (c.item-2.ensures ∙ same_Some _ _ (sym first ∙ same)) in cc

pub returns-clause-found : goal.returns-clause-found
returns-clause-found c =
    found c.args.out.now c.args.realm (is_errand_of c.args.sent.now) c.in_ok-place.place c.in_ok-place.ensures.some ∙ c.item.ensures ∙ ap Some (sym c.item-2.ensures ∙ c.is.ensures.0 c.if-not-is.false)
