-- The realms start again over the store that the host leaves.
use Rattle.std.proofs.Common.{map}
use Rattle.tip_run.proofs.Begun.{begun_again, hands_back, not_again}
use Rattle.tip_run.proofs.starting.restart.Goals as goal

pub returns-clause-restarted : goal.returns-clause-restarted
returns-clause-restarted g c = begun_again g.S.RowLog.keeping c.args.host c.in-Ok.specs.items c.shut-store.result.store (map (λ lots. lots.items) c.args.boxes.items) c.in-Ok.ensures c.shut-store.ensures.store c.begin.result c.begin.ensures.begun

pub returns-clause-why : goal.returns-clause-why
returns-clause-why g c = not_again g.S.RowLog.keeping c.args.host c.in-Ok.specs.items c.shut-store.result.store (map (λ lots. lots.items) c.args.boxes.items) c.in-Ok.ensures c.shut-store.ensures.store c.begin.result c.begin.ensures.why

pub returns-clause-back : goal.returns-clause-back
returns-clause-back g c = hands_back g.S.RowLog.keeping c.args.host c.in-Ok.specs.items c.shut-store.result.store (map (λ lots. lots.items) c.args.boxes.items) c.in-Ok.ensures c.shut-store.ensures.store c.begin.result c.begin.ensures.truth c.begin.ensures.rows c.begin.ensures.counts
