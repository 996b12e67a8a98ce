use Rattle.std.proofs.Common.{ap, ◌∙◌}
use Rattle.tip_journal.specs.Journals.{changed_at}
use Rattle.tip_journal.specs.Sheets.{marked, marked_at}
use Rattle.tip_journal.proofs.HistoryLemmas.{changed_at-read}
use Rattle.tip_journal.proofs.Walk.{mark-can, names-once}
use Rattle.tip_journal.proofs.auditing.mark.Goals as goal

pub returns-clause-can : goal.returns-clause-can
returns-clause-can g c = mark-can c.args.journals.now c.args.pass c.args.noted.now c.args.sheets.now.items c.in-Some.place c.at-journal.result.now c.index_mut-realm.result.now c.mark.result c.in-Some.ensures.histories c.requires c.in-Some.ensures.named c.at-journal.ensures c.index_mut-realm.ensures.value c.mark.ensures.can

pub returns-clause-new : goal.returns-clause-new
returns-clause-new g c = λ done place named.
    let once = names-once c.args.journals.now c.args.noted.now c.in-Some.place place c.in-Some.ensures.histories c.in-Some.ensures.named named in
    changed_at-read c.args.sheets.now.items c.args.noted.now.realm (changed_at c.in-Some.place (marked c.args.pass c.args.noted.now)) c.index_mut-realm.result.now c.mark.new.self c.index_mut-realm.ensures.value (c.mark.ensures.new done)
    ∙ ap (λ p. marked_at p c.args.pass c.args.noted.now c.args.sheets.now.items) once
