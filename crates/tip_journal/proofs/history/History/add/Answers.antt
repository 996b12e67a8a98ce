use Rattle.std.proofs.Common.{◌≡◌, ◌+◌, ◌-◌, ◌∷◌, [], ap, arith, length, length-append}
use Rattle.tip_journal.specs.Journal.{with_entry}
use Rattle.tip_journal.proofs.HistoryLemmas.{last_of-read, with_last-read, length-room}
use Rattle.tip_journal.proofs.history.History.add.Goals as goal

pub returns-clause-new : goal.returns-clause-new
returns-clause-new g c =
    let there = length-room c.args.self.now c.requires.room in
    let end : c.len-last.result - 1 + 1 ≡ length c.args.self.now = omega (arith, ap length c.self.view_is) in
    rw c.self.view_is (with_last-read c.args.self.now (c.len-last.result - 1) (with_entry c.args.entry) c.index_mut-journal.result.now c.add.new.self end (rw (← c.self.view_is) c.index_mut-journal.ensures.value) c.add.ensures)

pub returns-clause-number : goal.returns-clause-number
returns-clause-number g c =
    let there = length-room c.args.self.now c.requires.room in
    let end : c.len-last.result - 1 + 1 ≡ length c.args.self.now = omega (arith, ap length c.self.view_is) in
    let last = last_of-read c.args.self.now (c.len-last.result - 1) c.index_mut-journal.result.now end (rw (← c.self.view_is) c.index_mut-journal.ensures.value) in
    rw (last, c.entries.ensures, c.add.ensures) (length-append c.index_mut-journal.result.now.entries (c.args.entry ∷ []))
