use Rattle.std.proofs.Common.{ap, sym, ◌∙◌}
use Rattle.tip_machine.specs.Transactions.{is_committed}
use Rattle.tip_machine.specs.Types.{seen}
use Rattle.tip_rules.proofs.Aims.{owes_nothing, owes_there}
use Rattle.tip_rules.proofs.reaching.Work+Connection+Transaction+Making.owed_part.Goals as goal

pub returns-then-is_owed_commit : goal.returns-then-is_owed_commit
returns-then-is_owed_commit g c =
    owes_there c.args.self.now c.args.number c.connection.result.now c.connection.ensures c.args.key (seen c.at-transaction.result.now) c.at-transaction.ensures.found c.args.subordinate
    (sym (c.if-not-is_committed.ensures ∙ ap is_committed c.phase.ensures)) _ _ c.in-Some.ensures c.if-is_owed_commit.ensures

pub returns-else-is_owed_commit : goal.returns-else-is_owed_commit
returns-else-is_owed_commit g c =
    owes_nothing c.args.self.now c.args.number c.connection.result.now c.connection.ensures c.args.key (seen c.at-transaction.result.now) c.at-transaction.ensures.found c.args.subordinate
    (sym (c.if-not-is_committed.ensures ∙ ap is_committed c.phase.ensures)) _ _ c.in-Some.ensures c.if-is_owed_commit.ensures
