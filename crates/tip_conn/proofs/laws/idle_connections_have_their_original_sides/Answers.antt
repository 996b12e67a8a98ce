use Rattle.tip_conn.proofs.TableLemmas.{rows-original}
use Rattle.tip_conn.proofs.laws.idle_connections_have_their_original_sides.Goals as goal

pub returns : goal.returns
returns c = rows-original
