use Rattle.std.proofs.Common.{◌≡◌, ◌++◌, take}
use Rattle.tip_outlook.specs.Wanting.{pairs_of}
use Rattle.tip_outlook.proofs.others.add_pairs.Given as goal

abbrev pub invariant-loop-part : goal.invariant-loop-part
invariant-loop-part l = l.pairs.items ≡ l.fn.pairs.items ++ pairs_of (take l.part-index l.parts)
