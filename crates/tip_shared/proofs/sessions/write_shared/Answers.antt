use Rattle.tip_shared.proofs.Writings.{has_written}
use Rattle.tip_shared.proofs.sessions.write_shared.Goals as goal

pub returns : goal.returns
returns g c = has_written _ _ c.args.realm.now _ _ _ _ c.write_out.result c.write_out.ensures
