use Rattle.std.proofs.Common.{◌≡◌, ◌++◌, string_bytes, drop}
use Rattle.std.specs.List.{flat_map}
use Rattle.tip_transcript.specs.Printing.{member_text}
use Rattle.tip_transcript.proofs.parties.print_calls.Given as goal

-- what was printed, and then the text of the members that are left, is what all print
abbrev pub invariant-loop-member : goal.invariant-loop-member
invariant-loop-member g l = string_bytes l.printed ++ flat_map (member_text l.realm l.id) (drop l.member-index l.member-items) ≡ string_bytes l.fn.printed ++ flat_map (member_text l.realm l.id) l.member-items
