use Rattle.std.proofs.Common.{ap, length, subst, sym}
use Rattle.tip_journal.specs.Audit.{IsAudited}
use Rattle.tip_journal.proofs.Retirings.{ended-is}
use Rattle.tip_journal.proofs.journals.Journals.retire.Goals as goal

pub returns-clause-retired : goal.returns-clause-retired
returns-clause-retired g c =
    let journal = c.in-Some.journal.now in
    let ended = ended-is c.args.self.now c.args.realm c.args.epoch journal (sym c.in-Some.ensures.ended) in
    record {
      journal = journal;
      was = sym c.in-Some.ensures.ended;
      audited = subst (λ e. IsAudited c.args.realm e journal.entries c.args.passes.now) ended.epoch_is c.in_ok-audit_journal.ensures.audited;
      gone = c.drop_oldest.ensures;
      left = c.let_go.ensures;
      count = ap length c.entries.ensures;
    }
