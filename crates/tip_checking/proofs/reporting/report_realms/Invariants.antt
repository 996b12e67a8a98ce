use Rattle.std.proofs.Common.{◌≡◌, take}
use Rattle.tip_checking.specs.Findings.{are_right_realms}
use Rattle.tip_checking.proofs.reporting.report_realms.Given as goal

abbrev pub invariant-loop-realm : goal.invariant-loop-realm
invariant-loop-realm l = l.right ≡ are_right_realms (take l.realm-index l.realms)
