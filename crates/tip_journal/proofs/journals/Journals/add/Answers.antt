use Rattle.std.proofs.Common.{◌∷◌, [], ap, sym, subst, arith, length, length-append, refl}
use Rattle.std.proofs.lemmas.List.Elements.{All-get_or, All-set}
use Rattle.tip_journal.specs.Journal.{with_entry}
use Rattle.tip_journal.specs.Journals.{IsHistory, entries_of, with_last}
use Rattle.tip_journal.proofs.HistoryLemmas.{within-room, changed_at-read, current-read, is_history-with_last}
use Rattle.tip_journal.proofs.journals.Journals.add.Goals as goal

pub invariant_of-self : goal.invariant_of-self
invariant_of-self g c =
    let old = c.index_mut-history.result.now in
    let is : IsHistory old = subst IsHistory (sym c.index_mut-history.ensures.value) (All-get_or IsHistory c.self.inside.realms.items c.args.realm old (omega (arith, ap length c.self.view_is, within-room c.args.self.now c.args.realm c.requires.room)) c.self.invariant) in
    All-set IsHistory c.self.inside.realms.items c.args.realm c.add.new.self
    (subst IsHistory (sym c.add.ensures.new) (is_history-with_last old (with_entry c.args.entry) is (λ _. refl) (λ x at. omega (arith, length-append x.entries (c.args.entry ∷ []), ap entries_of at))))
    c.self.invariant

pub returns-clause-new : goal.returns-clause-new
returns-clause-new g c = rw c.self.view_is (changed_at-read c.args.self.now c.args.realm (with_last (with_entry c.args.entry)) c.index_mut-history.result.now c.add.new.self (rw (← c.self.view_is) c.index_mut-history.ensures.value) c.add.ensures.new)

pub returns-clause-number : goal.returns-clause-number
returns-clause-number g c = rw (current-read c.args.self.now c.args.realm c.index_mut-history.result.now (within-room c.args.self.now c.args.realm c.requires.room) (rw (← c.self.view_is) c.index_mut-history.ensures.value)) c.add.ensures.number
