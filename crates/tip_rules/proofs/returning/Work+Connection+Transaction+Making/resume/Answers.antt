use Rattle.std.proofs.Common.{ap, sym, ◌∙◌}
use Rattle.tip_machine.specs.Transactions.{is_committed}
use Rattle.tip_machine.specs.Types.{seen}
use Rattle.tip_rules.proofs.Coming.{resumes_committed, resumes_never}
use Rattle.tip_rules.proofs.returning.Work+Connection+Transaction+Making.resume.Goals as goal

pub returns-then-is_committed : goal.returns-then-is_committed
returns-then-is_committed g c =
    resumes_committed c.args.self.now c.resume_committed.new.self c.args.id.now _ c.in-Some.ensures.same (seen c.at.result.now) c.at.ensures.found (ap is_committed (sym c.phase.ensures) ∙ sym c.is_committed.ensures ∙ c.if-is_committed.true) c.resume_committed.ensures

pub returns-else-is_committed : goal.returns-else-is_committed
returns-else-is_committed g c =
    resumes_never c.args.self.now c.refuse-else-is_committed.new.self c.args.id.now _ c.in-Some.ensures.same (seen c.at.result.now) c.at.ensures.found (ap is_committed (sym c.phase.ensures) ∙ sym c.is_committed.ensures ∙ c.if-is_committed.false) c.refuse-else-is_committed.ensures
