use Rattle.std.proofs.Common.{subst}
use Rattle.tip_stored.specs.Loading.{names_of, opened}
use Rattle.tip_stored.proofs.Opening.{not_started}
use Rattle.tip_stored.proofs.loading.open_and_read.Goals as goal

pub returns-in-Ok-clause-reason : goal.returns-in-Ok-clause-reason
returns-in-Ok-clause-reason g c = λ log stood is.
    let there = c.in-Ok.ensures.ok.rows log stood in
    not_started c.args.specs.now log c.read_all.result (c.read_all.ensures.reason (opened (names_of c.args.specs.now) log) (subst (g.S.RowLog.keeping.stands c.open.new.store) there.1 there.2) is)
