-- The realms begin with the rows that were loaded, and these boxes.
use Rattle.std.proofs.Common.{◌≡◌, ◌∙◌, true, ap, map, refl, rules, subst, sym}
use Rattle.std.proofs.lemmas.Bool.{true≢false}
use Rattle.tip_host.specs.Openings.{IsOpened}
use Rattle.tip_stored.specs.Recovering.{Recovering, adopted_each, all_adopted, are_for_each}
use Rattle.tip_run.proofs.Begun.{given_to_each, none_waits}
use Rattle.tip_run.proofs.starting.begin.Goals as goal

pub returns-then-not-adopt_all-clause-why : goal.returns-then-not-adopt_all-clause-why
returns-then-not-adopt_all-clause-why g c = (c.in-Ok.recovering, c.in-Ok.ensures, search rules, search rules)

pub returns-in-Ok-open-clause-begun : goal.returns-in-Ok-open-clause-begun
returns-in-Ok-open-clause-begun g c =
    let boxes = map (λ lots. lots.items) c.args.boxes.items in
    let loaded = c.in-Ok.recovering in
    let fits : are_for_each boxes loaded.realms ≡ true = search rules in
    let adopted : c.adopt_all.new.self ≡ record loaded { realms = adopted_each boxes loaded.realms } = search rules in (
      record {
        loaded = loaded;
        loads = c.in-Ok.ensures;
        realms = adopted_each boxes loaded.realms;
        given = given_to_each boxes loaded.realms fits;
        opened = subst (λ (r : Recovering g.row.S.Denot). IsOpened r c.in-Ok-open.host) adopted c.in-Ok-open.ensures.opened;
      },
      (refl, fits),
    )

pub unreachable-requires : goal.unreachable-requires
unreachable-requires g c =
    let boxes = map (λ lots. lots.items) c.args.boxes.items in
    let loaded = c.in-Ok.recovering in
    let fits : are_for_each boxes loaded.realms ≡ true = search rules in
    let adopted : c.adopt_all.new.self ≡ record loaded { realms = adopted_each boxes loaded.realms } = search rules in
    true≢false (sym (none_waits boxes loaded.realms fits) ∙ ap (λ (r : Recovering g.row.S.Denot). all_adopted r.realms) (sym adopted) ∙ c.in-Err-Unadopted-default.ensures.unadopted c.in-Err-Unadopted-default.field-0-0-is)
