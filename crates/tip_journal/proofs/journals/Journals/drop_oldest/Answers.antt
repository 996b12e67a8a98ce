use Rattle.std.proofs.Common.{◌<◌, sym, subst, length}
use Rattle.std.specs.Prelude.{drop}
use Rattle.std.proofs.lemmas.List.Elements.{All-get_or, All-set}
use Rattle.tip_journal.specs.Journals.{IsHistory}
use Rattle.tip_journal.proofs.HistoryLemmas.{changed_at-read, is_history-rest, some_at, within_some}
use Rattle.tip_journal.proofs.journals.Journals.drop_oldest.Goals as goal

pub invariant_of-self : goal.invariant_of-self
invariant_of-self g c =
    let old = c.index_mut-history.result.now in
    let within : c.args.realm < length c.self.inside.realms.items = rw c.self.view_is (within_some (λ history. 1 < length history) c.args.self.now c.args.realm c.requires) in
    let is : IsHistory old = subst IsHistory (sym c.index_mut-history.ensures.value) (All-get_or IsHistory c.self.inside.realms.items c.args.realm old within c.self.invariant) in
    let later : 1 < length old = some_at (λ history. 1 < length history) c.args.self.now c.args.realm old (rw (← c.self.view_is) c.index_mut-history.ensures.value) c.requires in
    All-set IsHistory c.self.inside.realms.items c.args.realm c.drop_oldest.new.self (subst IsHistory (sym c.drop_oldest.ensures) (is_history-rest old is later)) c.self.invariant

pub returns : goal.returns
returns g c = rw c.self.view_is (changed_at-read c.args.self.now c.args.realm (drop 1) c.index_mut-history.result.now c.drop_oldest.new.self (rw (← c.self.view_is) c.index_mut-history.ensures.value) c.drop_oldest.ensures)
