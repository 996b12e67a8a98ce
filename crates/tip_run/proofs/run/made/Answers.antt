-- All realms start again as the restart says, and one that was not renewed has the reason of the renewal.
use Rattle.std.proofs.Common.{inr, refl, subst, sym}
use Rattle.tip_run.specs.Halts.{IsWhyNotMade}
use Rattle.tip_run.specs.Moves.{IsMade, at_work}
use Rattle.tip_run.specs.declared.moves.Move.TheVariants as move
use Rattle.tip_run.specs.declared.shown.Shown.TheVariants.{Started}
use Rattle.tip_run.proofs.run.made.Goals as goal

pub returns-in_ok-host-in-Restart-clause-made : goal.returns-in_ok-host-in-Restart-clause-made
returns-in_ok-host-in-Restart-clause-made g c =
    let noted = c.args.pass.now.noted in
    let old = at_work c.args.host noted c.args.earlier.now.items in
    let new = at_work c.in_ok-host-in-Restart.host noted c.restart.new.earlier.items in
    subst (λ next. IsMade g.S.RowLog.keeping old next Started new) (sym c.in-Restart.is)
    (record { is = c.in_ok-host-in-Restart.ensures.restarted.0; boxes_are = c.in_ok-host-in-Restart.ensures.restarted.1; noted = refl; earlier = c.in_ok-host-in-Restart.ensures.earlier })

pub returns-in-Err-renew-clause-why : goal.returns-in-Err-renew-clause-why
returns-in-Err-renew-clause-why g c =
    let kept = g.S.RowLog.keeping in
    let old = at_work c.args.host c.args.pass.now.noted c.args.earlier.now.items in
    let stuck = c.at-in-Err-renew.result in
    let renewal = move.Renew c.in-Renew.realm c.in-Renew.boxes in
    subst (λ next. IsWhyNotMade kept old next stuck.store stuck.fault) (sym c.in-Renew.is)
    (subst (λ store. IsWhyNotMade kept old renewal store stuck.fault) (sym c.at-in-Err-renew.ensures.store)
    (subst (λ fault. IsWhyNotMade kept old renewal c.renew.new.host.stored.store fault) (sym c.at-in-Err-renew.ensures.fault)
    (inr c.in-Err-renew.ensures.why)))
