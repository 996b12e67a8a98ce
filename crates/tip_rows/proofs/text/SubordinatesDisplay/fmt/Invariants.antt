use Rattle.std.proofs.Common.{take}
use Rattle.std.specs.Fmt.{HasWritten, IsPlainFormatter}
use Rattle.tip_rows.specs.Rows.{subordinates_text}
use Rattle.tip_rows.proofs.text.SubordinatesDisplay.fmt.Given as goal

abbrev pub invariant-loop-address : goal.invariant-loop-address
invariant-loop-address g l =
    IsPlainFormatter l.initial.f → HasWritten g.W.Write.write_str_gives l.initial.f (subordinates_text (take l.address-index l.address-items)) l.f
