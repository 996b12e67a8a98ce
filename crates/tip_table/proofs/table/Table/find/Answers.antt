use Rattle.std.proofs.Common.{◌≡◌, ◌∙◌, None, Some, ap, get_or, sym, subst}
use Rattle.std.specs.Prelude.{position}
use Rattle.std.specs.List.{find}
use Rattle.std.proofs.lemmas.Iterator.Adapters.{position_from-zero}
use Rattle.std.proofs.lemmas.List.Quantifiers.{position-Some}
use Rattle.std.proofs.lemmas.Option.{slice_get-get_or}
use Rattle.tip_table.specs.Entries.{AreThere, IsFirstAt, items_at, items_in, own_keys, placed_at}
use Rattle.tip_table.specs.Kept.{of, places}
use Rattle.tip_table.specs.Links.{AreEnough}
use Rattle.tip_table.specs.Lists.{IsFirst}
use Rattle.tip_table.proofs.Aiming.{enough-first, enough-none, enough-there}
use Rattle.tip_table.proofs.OwnLemmas.{first-passing, items-own, none-passing, passes_at, standing-own, there-own}
use Rattle.tip_table.proofs.Standing.{found-first}
use Rattle.tip_table.proofs.table.Table.find.Goals as goal

pub returns-in_err-at-clause-none : goal.returns-in_err-at-clause-none
unfolding of
returns-in_err-at-clause-none g c =
    let slots = c.self.inside.slots in
    let keys = c.self.inside.order.items in
    let own = own_keys slots keys c.args.realm in
    let some = c.aimed-some.result.now in
    let test = g.Q.Test.passes c.args.query.now in
    let link = g.T.Linked in
    let enough : AreEnough link slots own c.aim.result some = subst (λ ks. AreEnough link slots (own_keys slots ks c.args.realm) c.aim.result some) c.deref.ensures.value c.aimed-some.ensures in
    let none : position (passes_at slots test) some ≡ None = sym c.first_passing.ensures ∙ c.in_err-at.was in
    let missing : find test (items_at slots some) ≡ None = none-passing slots test some 0 (sym (position_from-zero (passes_at slots test) some) ∙ none) in
    let all : find test (items_in (placed_at slots keys) c.args.realm) ≡ None = ap (find test) (sym (items-own slots keys c.args.realm)) ∙ enough-none link slots c.aim.result test c.aim.ensures own some enough missing in
    rw (← c.self.view_is) (λ _. all, λ _. c.from_residual.ensures)

pub returns-clause-none : goal.returns-clause-none
unfolding of
returns-clause-none g c =
    let slots = c.self.inside.slots in
    let keys = c.self.inside.order.items in
    let own = own_keys slots keys c.args.realm in
    let some = c.aimed-some.result.now in
    let test = g.Q.Test.passes c.args.query.now in
    let link = g.T.Linked in
    let enough : AreEnough link slots own c.aim.result some = subst (λ ks. AreEnough link slots (own_keys slots ks c.args.realm) c.aim.result some) c.deref.ensures.value c.aimed-some.ensures in
    let there : AreThere slots own = there-own slots keys c.args.realm c.self.invariant.0.there in
    let is : position (passes_at slots test) some ≡ Some c.in_ok-at.at = sym c.first_passing.ensures ∙ c.in_ok-at.was in
    let found = position-Some (passes_at slots test) some c.in_ok-at.at 0 is in
    let first = first-passing slots test some c.in_ok-at.at 0 (enough-there link slots c.aim.result test c.aim.ensures own some enough there) found.0 found.1 found.2 in
    let one : IsFirstAt slots test own (get_or some c.in_ok-at.at 0) = enough-first link slots c.aim.result test c.aim.ensures own some enough there c.in_ok-at.at (get_or some c.in_ok-at.at 0) (slice_get-get_or some c.in_ok-at.at 0 found.0) first in
    rw (← c.self.view_is) (λ none. absurd (cc), λ none. absurd (found-first test (items_in (placed_at slots keys) c.args.realm) one.at (subst (λ items. IsFirst test items one.at) (items-own slots keys c.args.realm) one.first) none))

pub returns-clause-some : goal.returns-clause-some
unfolding of places
returns-clause-some g c =
    let slots = c.self.inside.slots in
    let keys = c.self.inside.order.items in
    let own = own_keys slots keys c.args.realm in
    let some = c.aimed-some.result.now in
    let test = g.Q.Test.passes c.args.query.now in
    let link = g.T.Linked in
    let enough : AreEnough link slots own c.aim.result some = subst (λ ks. AreEnough link slots (own_keys slots ks c.args.realm) c.aim.result some) c.deref.ensures.value c.aimed-some.ensures in
    let there : AreThere slots own = there-own slots keys c.args.realm c.self.invariant.0.there in
    let is : position (passes_at slots test) some ≡ Some c.in_ok-at.at = sym c.first_passing.ensures ∙ c.in_ok-at.was in
    let found = position-Some (passes_at slots test) some c.in_ok-at.at 0 is in
    let key = get_or some c.in_ok-at.at 0 in
    let first = first-passing slots test some c.in_ok-at.at 0 (enough-there link slots c.aim.result test c.aim.ensures own some enough there) found.0 found.1 found.2 in
    let one : IsFirstAt slots test own key = enough-first link slots c.aim.result test c.aim.ensures own some enough there c.in_ok-at.at key (slice_get-get_or some c.in_ok-at.at 0 found.0) first in
    rw (← c.self.view_is) (record {
      at = one.at;
      there = (standing-own slots keys c.args.realm one.at key c.self.invariant.0.there c.self.invariant.0.apart one.here).0;
      first = subst (λ items. IsFirst test items one.at) (items-own slots keys c.args.realm) one.first;
    })
