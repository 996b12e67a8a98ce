use Rattle.std.proofs.Common.{◌++◌, take, map, sym, ap, ◌∙◌}
use Rattle.std.proofs.lemmas.List.{take_all}
use Rattle.tip_journal.specs.Audit.{report_of, reported}
use Rattle.tip_journal.proofs.ReportLemmas.{report-more}
use Rattle.tip_journal.proofs.auditing.report.Goals as goal

pub loop-realm-preserved : goal.loop-realm-preserved
loop-realm-preserved g c =
    let history = c.journals-journal-items.result.now in
    c.loop-journal.invariant.reported_so_far
    ∙ ap (λ journals. report_of (take c.loop-realm.realm c.args.journals.now) ++ map (reported c.loop-realm.realm) journals) (take_all c.loop-journal.journal-index history c.loop-journal-test.false)
    ∙ sym (report-more c.args.journals.now c.loop-realm.realm history c.loop-journal.invariant.there c.loop-journal.invariant.history)
