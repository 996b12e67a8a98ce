use Rattle.std.proofs.Common.{◌≡◌, None, refl, subst, sym, ◌∙◌, ◌↔◌}
use Rattle.std.specs.Prelude.{find}
use Rattle.std.proofs.lemmas.Option.{none-some}
use Rattle.tip_table.specs.Kept.{StandsAt, of}
use Rattle.tip_machine.specs.States.{identified_by}
use Rattle.tip_outlook.specs.Searches.{is_named}
use Rattle.tip_rules.specs.Works.{work_of}
use Rattle.tip_rules.proofs.Identifying.{named_key, named_same, sought_here, sought_none}
use Rattle.tip_rules.proofs.finding.Work+Connection+Transaction+Making.identified.Goals as goal

pub returns-in-Some-clause-none : goal.returns-in-Some-clause-none
returns-in-Some-clause-none g c =
    let held = c.args.self.now in
    let none : (find (is_named c.of-query.result.realm c.of-query.result.id) (of held.transactions held.realm) ≡ None) ↔ (identified_by c.args.id.now (work_of held).state ≡ None) = subst (λ q. (find (is_named q.realm q.id) (of held.transactions held.realm) ≡ None) ↔ (identified_by c.args.id.now (work_of held).state ≡ None)) (sym c.of-query.ensures) (sought_none held c.name.result.now c.args.id.now c.name.ensures) in (
      λ is. absurd (none-some _ (sym is)),
      λ missing. absurd (none-some c.in-Some.place (sym (c.find.ensures.none.1 (none.1 missing)) ∙ c.in-Some.is)),
    )

pub returns-in-Some-clause-some : goal.returns-in-Some-clause-some
returns-in-Some-clause-some g c =
    let held = c.args.self.now in
    let here : StandsAt held.transactions held.realm (is_named c.name.result.now c.args.id.now) c.in-Some.place = subst (λ q. StandsAt held.transactions held.realm (is_named q.realm q.id) c.in-Some.place) c.of-query.ensures c.in-Some.ensures.some in
    named_key held c.args.id.now c.in-Some.place c.item.result.now (sought_here held c.name.result.now c.args.id.now c.in-Some.place c.name.ensures here) c.item.ensures

pub returns-in-Some-clause-same : goal.returns-in-Some-clause-same
returns-in-Some-clause-same g c =
    let held = c.args.self.now in
    let here : StandsAt held.transactions held.realm (is_named c.name.result.now c.args.id.now) c.in-Some.place = subst (λ q. StandsAt held.transactions held.realm (is_named q.realm q.id) c.in-Some.place) c.of-query.ensures c.in-Some.ensures.some in
    named_same held c.args.id.now c.in-Some.place c.item.result.now (sought_here held c.name.result.now c.args.id.now c.in-Some.place c.name.ensures here) c.item.ensures

pub returns-in-None-clause-none : goal.returns-in-None-clause-none
returns-in-None-clause-none g c =
    let held = c.args.self.now in
    let none : (find (is_named c.of-query.result.realm c.of-query.result.id) (of held.transactions held.realm) ≡ None) ↔ (identified_by c.args.id.now (work_of held).state ≡ None) = subst (λ q. (find (is_named q.realm q.id) (of held.transactions held.realm) ≡ None) ↔ (identified_by c.args.id.now (work_of held).state ≡ None)) (sym c.of-query.ensures) (sought_none held c.name.result.now c.args.id.now c.name.ensures) in
    (λ is. none.0 (c.find.ensures.none.0 c.in-None.is), λ missing. refl)

pub returns-in-Some-clause-named : goal.returns-in-Some-clause-named
returns-in-Some-clause-named g c =
    let held = c.args.self.now in
    let here : StandsAt held.transactions held.realm (is_named c.name.result.now c.args.id.now) c.in-Some.place = subst (λ q. StandsAt held.transactions held.realm (is_named q.realm q.id) c.in-Some.place) c.of-query.ensures c.in-Some.ensures.some in
    sought_here held c.name.result.now c.args.id.now c.in-Some.place c.name.ensures here
