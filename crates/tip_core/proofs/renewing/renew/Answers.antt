-- A realm starts again by its rows.
use Rattle.std.proofs.Common.{◌≡◌, ◌∙◌, ◌≤◌, ◌++◌, List, ap, length, subst, sym}
use Rattle.tip_machine.specs.Moves.{risen}
use Rattle.tip_recovery.specs.Adopting.{AreOf, Unfinished}
use Rattle.tip_core.specs.Recovering.{reopened_all}
use Rattle.tip_rules.specs.Works.{state_in, tables_in}
use Rattle.tip_core.proofs.Renewals.{rows_taken}
use Rattle.tip_core.proofs.renewing.renew.Goals as goal

pub reopen_in-requires-clause-room : goal.reopen_in-requires-clause-room
reopen_in-requires-clause-room g c = subst (λ (rows : List Unfinished). length rows ≤ (tables_in c.args.realm c.clear-left.new.realms).transactions.free) (sym c.into_rows.ensures.same) (c.clear-left.ensures.room (length c.args.recovery.rows) c.requires.room)

pub returns-clause-own : goal.returns-clause-own
returns-clause-own g c = λ is_of.
    let head = risen (state_in c.args.realm c.args.realms.now).head in
    let rows : c.into_rows.result.items ≡ c.args.recovery.rows = c.into_rows.ensures.same in
    let theirs : AreOf head.name c.into_rows.result.items = subst (AreOf head.name) (sym rows) (subst (λ realm. AreOf realm c.args.recovery.rows) (sym is_of.name) c.into_rows.ensures.own) in
    let joined = c.reopen_in.ensures.own head theirs (is_of.epoch ∙ sym c.epoch-epoch.ensures) in
    rows_taken c.clear-left.new.realms c.reopen_in.new.realms c.args.realm head c.args.recovery.rows c.clear-left.ensures.own c.reopen_in.ensures.heads c.reopen_in.ensures.connections (joined ∙ ap (λ (l : List Unfinished). (state_in c.args.realm c.clear-left.new.realms).transactions ++ reopened_all head l) rows)
