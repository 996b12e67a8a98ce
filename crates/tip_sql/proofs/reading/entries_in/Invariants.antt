use Rattle.std.proofs.Common.{◌≡◌, true, map, take, Some}
use Rattle.tip_rows.specs.Logs.{is_rising}
use Rattle.tip_sql.specs.Reading.{entry_in, last_of}
use Rattle.tip_sql.proofs.reading.entries_in.Given as goal

abbrev pub invariant-loop-row : goal.invariant-loop-row
invariant-loop-row l = record {
  read : map Some l.entries.items ≡ map entry_in (take l.row-index l.rows);
  rising : is_rising l.entries.items ≡ true;
  last : l.last ≡ last_of (map (λ e. e.0) l.entries.items);
}
