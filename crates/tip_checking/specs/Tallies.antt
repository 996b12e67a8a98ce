-- What a store has of one realm, counted (ours): how many of its transactions are in doubt, and how many committed and still owed.
use Rattle.std.specs.Prelude.{pos, ℕ, Bool, true, false, List, Option, Some, None, count_by, string_bytes, unwrap_or, if◌then◌else◌}
use Rattle.std.specs.Str.{bytes_eq}
use Rattle.tip_rows.specs.declared.row.Row.{Row}
use Rattle.tip_rows.specs.declared.row.Row.TheVariants.{Prepared, Committed}
use Rattle.tip_sql.specs.Standing.{row_of}
use Rattle.tip_checking.specs.Findings.{epoch_in}
use Rattle.tip_checking.specs.declared.contents.Contents.{Contents}
use Rattle.tip_checking.specs.declared.contents.Stored.{Stored}
use Rattle.tip_checking.specs.declared.tally.Tally.{Tally}

-- the row that stands there, if it is one, and of the realm of this name
abbrev pub own_row : List ℕ → Stored → Option Row
own_row name row = if bytes_eq (string_bytes row.realm) name then row_of (string_bytes row.text) else None

abbrev pub is_in_doubt : Option Row → Bool
is_in_doubt None = false
is_in_doubt (Some (Prepared address superior branches subordinates)) = true
is_in_doubt (Some (Committed branches subordinates)) = false

abbrev pub is_committed : Option Row → Bool
is_committed None = false
is_committed (Some (Prepared address superior branches subordinates)) = false
is_committed (Some (Committed branches subordinates)) = true

-- WHAT IS STORED OF A REALM: its epoch, 0 where it is not known, and its rows of each kind
abbrev pub tally_of : List ℕ → Contents → Tally
tally_of name contents = record {
  epoch = unwrap_or (epoch_in contents.realms.items name) (pos 0);
  in_doubt = count_by (λ row. is_in_doubt (own_row name row)) contents.rows.items;
  committed = count_by (λ row. is_committed (own_row name row)) contents.rows.items;
}
