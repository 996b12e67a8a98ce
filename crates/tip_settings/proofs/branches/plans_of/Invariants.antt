use Rattle.std.proofs.Common.{◌≡◌, take}
use Rattle.tip_script.specs.Scripts.{plans_of}
use Rattle.tip_settings.proofs.branches.plans_of.Given as goal

-- the plans of the letters so far
abbrev pub invariant-loop-letter : goal.invariant-loop-letter
invariant-loop-letter l = l.plans.items ≡ plans_of (take l.letter-index l.letters)
