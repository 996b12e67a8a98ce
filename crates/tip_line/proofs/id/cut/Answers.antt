use Rattle.std.proofs.Common.{lit<}
use Rattle.tip_line.proofs.IdLemmas.{cut_only}
use Rattle.tip_line.proofs.id.cut.Goals as goal

pub returns-clause-only : goal.returns-clause-only
returns-clause-only c = λ front back h e. cut_only c.split_once.result c.args.text.now front back (c.split_once.ensures.byte (lit< tt) (λ w o found. found)) h e
