use Rattle.std.proofs.Common.{◌≡◌, ◌++◌, ℕ, List}
use Rattle.std.specs.Io.KnownBytes.{Appends}
use Rattle.tip_writing.proofs.writing.write_front.Given as goal

-- a front was written, and the rest is left
abbrev pub invariant-loop : goal.invariant-loop
invariant-loop g l = (front : List ℕ) × (l.text ≡ front ++ l.rest) × Appends (g.W.Write.contents l.fn.output) (g.W.Write.contents l.output) front
