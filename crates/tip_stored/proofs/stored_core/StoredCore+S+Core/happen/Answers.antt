use Rattle.tip_stored.proofs.Happening.{went_uncalled}
use Rattle.tip_stored.proofs.stored_core.StoredCore+S+Core.happen.Goals as goal

pub returns-clause-uncalled : goal.returns-clause-uncalled
returns-clause-uncalled g c = went_uncalled _ _ _ _ _ _ c.apply.ensures.steps
