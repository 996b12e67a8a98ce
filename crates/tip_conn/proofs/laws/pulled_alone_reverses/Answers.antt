use Rattle.tip_conn.proofs.TableLemmas.{rows-reversed}
use Rattle.tip_conn.proofs.laws.pulled_alone_reverses.Goals as goal

pub returns : goal.returns
returns c = rows-reversed
