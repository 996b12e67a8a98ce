use Rattle.std.proofs.Common.{◌≡◌, List, drop}
use Rattle.tip_actor.specs.Acting.{Reading, after_sent}
use Rattle.tip_actor.specs.Standing.{AreReadings}
use Rattle.tip_actor.proofs.actor.Actor+PartyOut.forget_closed.Given as goal

-- what was read on the connections closed so far is gone
abbrev pub invariant-loop-sent : goal.invariant-loop-sent
invariant-loop-sent g l =
    ((l.self.name ≡ l.fn.self.name) × (l.self.errands ≡ l.fn.self.errands) × (l.self.is_due ≡ l.fn.self.is_due))
    × ((readings : List Reading) → AreReadings l.fn.self.readers.items readings → (now : List Reading) × AreReadings l.self.readers.items now × (after_sent (drop l.sent-index l.all) now ≡ after_sent l.all readings))
