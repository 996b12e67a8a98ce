use Rattle.tip_journal.specs.Audit.{IsAudited}
use Rattle.tip_journal.specs.Retiring.{ended_at}
use Rattle.tip_shared.proofs.Closings.{some_journal}
use Rattle.tip_shared.proofs.shared.Shared.retire.Goals as goal

pub returns-clause-mismatch : goal.returns-clause-mismatch
returns-clause-mismatch g c =
    some_journal (ended_at c.deref_mut.result.now.books.journals c.args.realm c.args.epoch) (λ journal. IsAudited c.args.realm c.args.epoch journal.entries c.args.passes.now → ⊥) c.retire.result c.retire.ensures.absent c.retire.ensures.mismatch
