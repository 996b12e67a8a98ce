use Rattle.std.proofs.Common.{◌≡◌, ◌++◌, drop, string_bytes}
use Rattle.std.specs.List.{flat_map}
use Rattle.tip_scene.proofs.Begun.{row_text}
use Rattle.tip_scene.proofs.rising.print_adoptions.Given as goal

-- what was printed, and then the text of the rows that are left, is that of all
abbrev pub invariant-loop-row : goal.invariant-loop-row
invariant-loop-row g l = string_bytes l.printed ++ flat_map (row_text l.fn.name) (drop l.row-index l.rows) ≡ string_bytes l.fn.printed ++ flat_map (row_text l.fn.name) l.rows
