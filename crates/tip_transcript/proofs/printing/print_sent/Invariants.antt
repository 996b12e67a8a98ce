use Rattle.std.proofs.Common.{◌≡◌, ◌++◌, string_bytes, drop}
use Rattle.std.specs.List.{flat_map}
use Rattle.tip_transcript.specs.Printing.{sent_text}
use Rattle.tip_transcript.proofs.printing.print_sent.Given as goal

-- what was printed, and then the text of what is left, is what all print
abbrev pub invariant-loop-sent : goal.invariant-loop-sent
invariant-loop-sent l = string_bytes l.printed ++ flat_map (sent_text l.realm) (drop l.sent-index l.all) ≡ string_bytes l.fn.printed ++ flat_map (sent_text l.realm) l.all
