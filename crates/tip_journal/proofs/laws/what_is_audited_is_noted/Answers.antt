use Rattle.tip_journal.proofs.Counting.{audited-count}
use Rattle.tip_journal.proofs.LawLemmas.{audited-noted}
use Rattle.tip_journal.proofs.laws.what_is_audited_is_noted.Goals as goal

pub returns-clause-count : goal.returns-clause-count
returns-clause-count g c = audited-count

pub returns-clause-each : goal.returns-clause-each
returns-clause-each g c = audited-noted
