use Rattle.std.proofs.Common.{◌<◌, ◌++◌, ◌∷◌, [], ap, sym, subst, ◌∙◌, arith, length}
use Rattle.std.proofs.lemmas.List.Elements.{All-get_or, All-set}
use Rattle.std.proofs.lemmas.Result.{on_ok_weaker}
use Rattle.tip_journal.specs.Journal.{begun}
use Rattle.tip_journal.specs.Journals.{IsHistory}
use Rattle.tip_journal.proofs.HistoryLemmas.{within-current, changed_at-read, current-read, is_history-renewed}
use Rattle.tip_journal.proofs.journals.Journals.renew.Goals as goal

pub invariant_of-self : goal.invariant_of-self
invariant_of-self g c =
    let old = c.index_mut-history.result.now in
    let is : IsHistory old = subst IsHistory (sym c.index_mut-history.ensures.value) (All-get_or IsHistory c.self.inside.realms.items c.args.realm old (omega (arith, ap length c.self.view_is, within-current (λ journal. journal.epoch < c.args.epoch) c.args.self.now c.args.realm c.requires)) c.self.invariant) in
    let later = rw (current-read c.args.self.now c.args.realm old (within-current (λ journal. journal.epoch < c.args.epoch) c.args.self.now c.args.realm c.requires) (rw (← c.self.view_is) c.index_mut-history.ensures.value)) at c.requires in
    All-set IsHistory c.self.inside.realms.items c.args.realm c.renew.new.self
    (is_history-renewed old c.renew.new.self c.new.result c.renew.result is (rw c.new.ensures later) (ap (λ j. j.entries) c.new.ensures) c.renew.ensures.ok c.renew.ensures.err)
    c.self.invariant

pub returns-clause-ok : goal.returns-clause-ok
returns-clause-ok g c =
    on_ok_weaker c.renew.result
    (λ is. rw c.self.view_is (changed_at-read c.args.self.now c.args.realm (λ history. history ++ begun c.args.epoch c.args.start ∷ []) c.index_mut-history.result.now c.renew.new.self (rw (← c.self.view_is) c.index_mut-history.ensures.value) (is ∙ ap (λ j. c.index_mut-history.result.now ++ j ∷ []) c.new.ensures)))
    c.renew.ensures.ok
