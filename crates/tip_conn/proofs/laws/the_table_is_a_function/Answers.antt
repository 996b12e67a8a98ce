use Rattle.tip_conn.proofs.TableLemmas.{rows-function}
use Rattle.tip_conn.proofs.laws.the_table_is_a_function.Goals as goal

pub returns : goal.returns
returns c = rows-function
