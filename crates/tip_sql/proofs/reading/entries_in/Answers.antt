use Rattle.std.proofs.Common.{[], ◌∷◌, length, map, ◌<◌, ap, sym, subst, ◌∙◌, arith}
use Rattle.std.proofs.lemmas.List.{map-append}
use Rattle.tip_rows.specs.Keys.{Key}
use Rattle.tip_rows.specs.declared.row.Row.{Row}
use Rattle.tip_rows.proofs.PartsLemmas.{pushed}
use Rattle.tip_sql.specs.Reading.{entry_in, last_of}
use Rattle.tip_sql.proofs.Readings.{has_at, read_more, bad_item}
use Rattle.tip_sql.proofs.Risings.{entries_push, last_push}
use Rattle.tip_sql.proofs.reading.entries_in.Goals as goal
use Rattle.sqlite_rules.specs.Lists.{Has}

pub returns-in_err-key-clause-bad : goal.returns-in_err-key-clause-bad
returns-in_err-key-clause-bad c bad =
    let rows = c.args.rows.now in
    let i = c.loop-row.row-index in
    let inside : i < length rows = omega arith in
    (c.row-item.result, subst (Has rows) (sym c.row-item.is) (has_at rows i c.row-item.result inside), bad_item c.from_residual.result c.in_err-key.field-0.0 _ c.from_residual.ensures c.in_err-key.ensures bad)

pub loop-row-preserved : goal.loop-row-preserved
loop-row-preserved c =
    let rows = c.args.rows.now in
    let i = c.loop-row.row-index in
    let inside : i < length rows = omega arith in
    let entry : Key × Row = (c.in_ok-key.key, c.in_ok-key.kept) in
    let items = pushed _ _ _ _ _ c.push.ensures.items c.is_err.ensures.negation c.if-is_err.false in
    record {
      read = rw items (read_more entry_in c.loop-row.entries.items rows i c.row-item.result entry inside c.row-item.is c.in_ok-key.ensures c.loop-row.invariant.read);
      rising = rw items (entries_push c.loop-row.entries.items c.loop-row.last entry c.loop-row.invariant.last c.loop-row.invariant.rising (sym c.may_follow.ensures ∙ c.if-not-may_follow.false));
      last = rw items (sym (ap last_of (map-append (λ (e : Key × Row). e.0) c.loop-row.entries.items (entry ∷ [])) ∙ last_push (map (λ (e : Key × Row). e.0) c.loop-row.entries.items) c.in_ok-key.key));
    }
