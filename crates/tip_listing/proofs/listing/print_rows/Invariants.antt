use Rattle.std.proofs.Common.{◌≡◌, ◌++◌, string_bytes, drop}
use Rattle.std.specs.List.{flat_map}
use Rattle.tip_listing.specs.Listing.{row_text}
use Rattle.tip_listing.proofs.listing.print_rows.Given as goal

-- what was printed, and then the text of what is left, is what all print
abbrev pub invariant-loop-entry : goal.invariant-loop-entry
invariant-loop-entry l = string_bytes l.text ++ flat_map (row_text l.name) (drop l.entry-index l.rows) ≡ string_bytes l.fn.text ++ flat_map (row_text l.name) l.rows
