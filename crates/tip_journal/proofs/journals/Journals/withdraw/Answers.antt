use Rattle.std.proofs.Common.{◌<◌, ap, sym, subst, length}
use Rattle.std.proofs.lemmas.List.Elements.{All-get_or, All-set}
use Rattle.tip_journal.specs.Journals.{IsHistory, IsWithdrawable, without_last}
use Rattle.tip_journal.proofs.HistoryLemmas.{changed_at-read, is_history-withdrawn, some_at, within_some}
use Rattle.tip_journal.proofs.journals.Journals.withdraw.Goals as goal

pub invariant_of-self : goal.invariant_of-self
invariant_of-self g c =
    let old = c.index_mut-history.result.now in
    let within : c.args.realm < length c.self.inside.realms.items = rw c.self.view_is (within_some IsWithdrawable c.args.self.now c.args.realm c.requires) in
    let is : IsHistory old = subst IsHistory (sym c.index_mut-history.ensures.value) (All-get_or IsHistory c.self.inside.realms.items c.args.realm old within c.self.invariant) in
    let may : IsWithdrawable old = some_at IsWithdrawable c.args.self.now c.args.realm old (rw (← c.self.view_is) c.index_mut-history.ensures.value) c.requires in
    All-set IsHistory c.self.inside.realms.items c.args.realm c.withdraw.new.self (subst IsHistory (sym c.withdraw.ensures) (is_history-withdrawn old is may.earlier)) c.self.invariant

pub returns : goal.returns
returns g c = rw c.self.view_is (changed_at-read c.args.self.now c.args.realm without_last c.index_mut-history.result.now c.withdraw.new.self (rw (← c.self.view_is) c.index_mut-history.ensures.value) c.withdraw.ensures)
