-- Realms at their start.
use Rattle.std.proofs.Common.{◌≡◌, ◌∙◌, ap, arith, map}
use Rattle.std.proofs.lemmas.Grind.{common_steps}
use Rattle.tip_machine.specs.Heads.{starting}
use Rattle.tip_rules.specs.Works.{Realms}
use Rattle.tip_core.proofs.Naming.{heads_named}
use Rattle.tip_core.proofs.Stepping.{new_counts, new_realm}
use Rattle.tip_core.proofs.machine.Core.start.Goals as goal

pub invariant_of-result : goal.invariant_of-result
invariant_of-result g c =
    let heads : c.in_ok-heads.heads.items ≡ map starting c.args.starts = c.in_ok-heads.ensures ∙ ap (map starting) c.into_vec.ensures.same in
    let realms : Realms = record { heads = c.in_ok-heads.heads; tables = c.in_ok-tables.tables; alloc = c.args.alloc } in (
      new_counts c.args.starts realms heads c.in_ok-tables.ensures.empty c.into_vec.ensures.epochs,
      heads_named c.args.starts realms c.new.result.capacity c.into_vec.ensures.named heads c.in_ok-tables.ensures.empty,
      (let said = c.in_ok-tables.ensures.count ∙ c.len.ensures in grind (arith, common_steps, said)),
    )

pub returns-clause-realms : goal.returns-clause-realms
returns-clause-realms g c =
    let heads : c.in_ok-heads.heads.items ≡ map starting c.args.starts = c.in_ok-heads.ensures ∙ ap (map starting) c.into_vec.ensures.same in
    let realms : Realms = record { heads = c.in_ok-heads.heads; tables = c.in_ok-tables.tables; alloc = c.args.alloc } in
    λ place. new_realm c.args.starts realms heads c.in_ok-tables.ensures.empty c.new.result.capacity place

pub returns-clause-named : goal.returns-clause-named
returns-clause-named g c =
    let heads : c.in_ok-heads.heads.items ≡ map starting c.args.starts = c.in_ok-heads.ensures ∙ ap (map starting) c.into_vec.ensures.same in
    let realms : Realms = record { heads = c.in_ok-heads.heads; tables = c.in_ok-tables.tables; alloc = c.args.alloc } in
    heads_named c.args.starts realms c.new.result.capacity c.into_vec.ensures.named heads c.in_ok-tables.ensures.empty
