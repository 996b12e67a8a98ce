use Rattle.std.proofs.Common.{◌≡◌, ◌++◌, string_bytes, drop}
use Rattle.std.specs.List.{flat_map}
use Rattle.tip_transcript.specs.Printing.{number_text}
use Rattle.tip_transcript.proofs.starting.print_more.Given as goal

-- what was printed, and then the text of what is left, is what all print
abbrev pub invariant-loop-number : goal.invariant-loop-number
invariant-loop-number l = string_bytes l.printed ++ flat_map number_text (drop l.number-index l.branches) ≡ string_bytes l.fn.printed ++ flat_map number_text l.branches
