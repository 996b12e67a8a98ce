use Rattle.std.proofs.Common.{◌≡◌, length, ◌<◌, ap, sym, subst, ◌∙◌, arith}
use Rattle.tip_rows.specs.Logs.{name_before}
use Rattle.tip_rows.proofs.PartsLemmas.{pushed}
use Rattle.tip_sql.specs.Reading.{name_in, realm_in, may_follow, last_of}
use Rattle.tip_sql.proofs.Readings.{has_at, read_more, bad_item}
use Rattle.tip_sql.proofs.Risings.{names_push}
use Rattle.tip_sql.proofs.reading.realms_in.Goals as goal
use Rattle.sqlite_rules.specs.Lists.{Has}

pub returns-in_err-name-clause-bad : goal.returns-in_err-name-clause-bad
returns-in_err-name-clause-bad c bad =
    let rows = c.args.rows.now in
    let i = c.loop-row.row-index in
    let inside : i < length rows = omega arith in
    let none : realm_in c.row-item.result ≡ _ = ap name_in (sym c.column.ensures) ∙ bad_item c.from_residual.result c.in_err-name.field-0.0 _ c.from_residual.ensures c.in_err-name.ensures bad in
    (c.row-item.result, subst (Has rows) (sym c.row-item.is) (has_at rows i c.row-item.result inside), none)

pub loop-row-preserved : goal.loop-row-preserved
loop-row-preserved c =
    let rows = c.args.rows.now in
    let i = c.loop-row.row-index in
    let inside : i < length rows = omega arith in
    let items = pushed _ _ _ _ _ c.push.ensures.items c.is_err.ensures.negation c.if-is_err.false in
    record {
      read = rw items (read_more realm_in c.loop-row.names.items rows i c.row-item.result c.in_ok-name.name inside c.row-item.is (ap name_in (sym c.column.ensures) ∙ c.in_ok-name.ensures) c.loop-row.invariant.read);
      rising = rw items (names_push c.loop-row.names.items c.in_ok-name.name c.loop-row.invariant.rising (ap (λ l. may_follow name_before (last_of l) c.in_ok-name.name) (sym c.deref.ensures.value) ∙ sym c.is_after.ensures ∙ c.if-not-is_after.false));
    }
