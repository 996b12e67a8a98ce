use Rattle.std.proofs.Common.{◌∙◌, ap}
use Rattle.tip_journal.specs.Journals.{room}
use Rattle.tip_host.proofs.Journals.{bare_room}
use Rattle.tip_host.specs.Entries.{bare}
use Rattle.tip_host.proofs.noting.reserve.Goals as goal

pub returns-clause-same : goal.returns-clause-same
returns-clause-same c = ap bare c.reserve.ensures.same ∙ bare_room c.args.journals.now c.args.realm (room c.reserve.new.self c.args.realm)
