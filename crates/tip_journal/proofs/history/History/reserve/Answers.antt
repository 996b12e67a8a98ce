use Rattle.std.proofs.Common.{◌≡◌, ◌+◌, ◌-◌, ap, arith, length}
use Rattle.tip_journal.specs.Journal.{with_room}
use Rattle.tip_journal.proofs.HistoryLemmas.{last_of-set, with_last-read}
use Rattle.tip_journal.proofs.history.History.reserve.Goals as goal

pub returns-clause-same : goal.returns-clause-same
returns-clause-same g c =
    let end : c.len-place.result - 1 + 1 ≡ length c.args.self.now = omega (arith, ap length c.self.view_is) in
    rw (c.self.view_is, last_of-set c.args.self.now (c.len-place.result - 1) c.reserve.new.self end) (with_last-read c.args.self.now (c.len-place.result - 1) (with_room c.reserve.new.self.free) c.index_mut-journal.result.now c.reserve.new.self end (rw (← c.self.view_is) c.index_mut-journal.ensures.value) c.reserve.ensures.same)
