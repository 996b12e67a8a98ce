use Rattle.std.proofs.Common.{List, subst, sym}
use Rattle.tip_recovery.specs.Adopting.{IsWhole, Unfinished}
use Rattle.tip_recovery.proofs.Looking.{unadopted_whole}
use Rattle.tip_recovery.proofs.recovery.Recovery.of.Goals as goal

pub invariant_of-result : goal.invariant_of-result
invariant_of-result g c = subst (λ (rows : List Unfinished). IsWhole c.args.realm rows) (sym c.in_ok-rows.ensures) (unadopted_whole c.args.realm c.args.loaded.rows.items c.requires.rising)
