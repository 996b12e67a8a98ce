use Rattle.std.proofs.Common.{◌≡◌, map, take}
use Rattle.tip_duties.specs.Declarations.{declared}
use Rattle.tip_duties.proofs.declaring.declarations.Given as goal

abbrev pub invariant-loop-realm : goal.invariant-loop-realm
invariant-loop-realm l = l.specs.items ≡ map declared (take l.realm-index l.realms)
