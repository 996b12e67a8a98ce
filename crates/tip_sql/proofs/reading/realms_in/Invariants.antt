use Rattle.std.proofs.Common.{◌≡◌, true, map, take, Some}
use Rattle.tip_rows.specs.Logs.{are_rising_names}
use Rattle.tip_sql.specs.Reading.{realm_in}
use Rattle.tip_sql.proofs.reading.realms_in.Given as goal

abbrev pub invariant-loop-row : goal.invariant-loop-row
invariant-loop-row l = record { read : map Some l.names.items ≡ map realm_in (take l.row-index l.rows); rising : are_rising_names l.names.items ≡ true }
