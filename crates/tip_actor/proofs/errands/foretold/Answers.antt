-- What a party will answer was promised.
use Rattle.std.proofs.Common.{sym}
use Rattle.tip_actor.proofs.Promised.{foretells}
use Rattle.tip_actor.proofs.errands.foretold.Goals as goal

pub returns-then-is_foretold : goal.returns-then-is_foretold
returns-then-is_foretold g c = foretells c.args.party c.done.result (sym c.if-is_foretold.ensures) c.done.ensures
