-- A line was done whose text was not written.
use Rattle.std.proofs.Common.{inr, subst}
use Rattle.tip_play.proofs.player.act.Goals as goal

pub returns-in-Err-clause-faults : goal.returns-in-Err-clause-faults
returns-in-Err-clause-faults g c = λ basis now may is boxes covers truth.
    let sure = subst g.S.RowLog.keeping.is_true c.shut.ensures truth in
    let does = c.in-Ok.ensures.acts basis now may is boxes covers sure in
    inr (record { stage = c.in-Ok.stage; now = does.0; does = does.1; stands = does.2; leaves = c.in-Ok.ensures.leaves basis now may is boxes sure; store = c.shut.ensures })
