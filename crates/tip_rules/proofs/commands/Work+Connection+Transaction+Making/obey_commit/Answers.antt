use Rattle.std.proofs.Common.{ap, sym, ◌∙◌}
use Rattle.std.proofs.lemmas.Option.{same_Some}
use Rattle.tip_line.specs.declared.command.CommandName.TheVariants.{Commit}
use Rattle.tip_machine.specs.Commands.{decide_commit, superior_role}
use Rattle.tip_machine.specs.Connections.{owing}
use Rattle.tip_machine.specs.Transactions.{row_committed}
use Rattle.tip_machine.specs.Types.{Connection, Transaction, seen}
use Rattle.tip_machine.specs.declared.event.Change.TheVariants.{Put}
use Rattle.tip_rules.proofs.Commanding.{commit_next, commits_aborted, commits_active, commits_never, commits_prepared, obeys_nobody, obeys_none, obeys_some, owed_at, owed_for, owing_there}
use Rattle.tip_rules.proofs.commands.Work+Connection+Transaction+Making.obey_commit.Goals as goal

pub returns-in_default : goal.returns-in_default
returns-in_default g c = λ connection found.
    let is = c.superior_role.ensures ∙ ap (λ (d : Connection). superior_role d.role) (same_Some c.connection.result.now connection (sym c.connection.ensures ∙ found)) in
    obeys_nobody c.args.self.now c.owe.new.self c.args.number Commit connection found c.owe.ensures.does (λ (t : Transaction). decide_commit t.phase connection t) c.superior_role.result is c.in_default.is

pub returns-in_default-transaction : goal.returns-in_default-transaction
returns-in_default-transaction g c = λ connection found.
    let is = c.superior_role.ensures ∙ ap (λ (d : Connection). superior_role d.role) (same_Some c.connection.result.now connection (sym c.connection.ensures ∙ found)) in
    obeys_none c.args.self.now c.owe.new.self c.args.number Commit connection found c.owe.ensures.does (λ (t : Transaction). decide_commit t.phase connection t) c.superior_role.result is c.in-Some.key c.in-Some.is (c.transaction.ensures.none.0 c.in_default-transaction.is)

pub returns-in-Active : goal.returns-in-Active
returns-in-Active g c = λ connection found.
    let is = c.superior_role.ensures ∙ ap (λ (d : Connection). superior_role d.role) (same_Some c.connection.result.now connection (sym c.connection.ensures ∙ found)) in
    let there = owing_there c.args.self.now c.owe.new.self c.args.number Commit connection found c.owe.ensures.does in
    obeys_some c.args.self.now c.owe.new.self c.args.number Commit connection found c.owe.ensures.does (λ (t : Transaction). decide_commit t.phase connection t) c.superior_role.result is c.in-Some.key (seen c.at.result.now) c.ask.new.self c.in-Some.is c.at.ensures.found
    (commits_active c.owe.new.self c.ask.new.self Commit connection c.owe.new.self.outcome c.in-Some.key (seen c.at.result.now) c.at.ensures.found (sym c.phase.ensures ∙ c.in-Active.is) c.ask.ensures)

pub returns-in-Prepared : goal.returns-in-Prepared
returns-in-Prepared g c = λ connection found.
    let is = c.superior_role.ensures ∙ ap (λ (d : Connection). superior_role d.role) (same_Some c.connection.result.now connection (sym c.connection.ensures ∙ found)) in
    let there = owing_there c.args.self.now c.owe.new.self c.args.number Commit connection found c.owe.ensures.does in
    obeys_some c.args.self.now c.owe.new.self c.args.number Commit connection found c.owe.ensures.does (λ (t : Transaction). decide_commit t.phase connection t) c.superior_role.result is c.in-Some.key (seen c.at.result.now) c.end_doubt_by_commit.new.self c.in-Some.is c.at.ensures.found
    (commits_prepared c.owe.new.self c.end_doubt_by_commit.new.self Commit connection c.owe.new.self.outcome c.in-Some.key (seen c.at.result.now) c.at.ensures.found (sym c.phase.ensures ∙ c.in-Prepared.is) (c.end_doubt_by_commit.ensures (owing Commit connection) (Put c.in-Some.key (row_committed (seen c.at.result.now))) there))

pub returns-in-Aborted : goal.returns-in-Aborted
returns-in-Aborted g c = λ connection found.
    let is = c.superior_role.ensures ∙ ap (λ (d : Connection). superior_role d.role) (same_Some c.connection.result.now connection (sym c.connection.ensures ∙ found)) in
    let there = owing_there c.args.self.now c.owe.new.self c.args.number Commit connection found c.owe.ensures.does in
    obeys_some c.args.self.now c.owe.new.self c.args.number Commit connection found c.owe.ensures.does (λ (t : Transaction). decide_commit t.phase connection t) c.superior_role.result is c.in-Some.key (seen c.at.result.now) c.abort.new.self c.in-Some.is c.at.ensures.found
    (commits_aborted c.owe.new.self c.abort.new.self Commit connection c.owe.new.self.outcome c.in-Some.key (seen c.at.result.now) c.at.ensures.found (sym c.phase.ensures ∙ c.in-Aborted.is) c.abort.ensures)

pub returns-in-Asking : goal.returns-in-Asking
returns-in-Asking g c = λ connection found.
    let is = c.superior_role.ensures ∙ ap (λ (d : Connection). superior_role d.role) (same_Some c.connection.result.now connection (sym c.connection.ensures ∙ found)) in
    let there = owing_there c.args.self.now c.owe.new.self c.args.number Commit connection found c.owe.ensures.does in
    obeys_some c.args.self.now c.owe.new.self c.args.number Commit connection found c.owe.ensures.does (λ (t : Transaction). decide_commit t.phase connection t) c.superior_role.result is c.in-Some.key (seen c.at.result.now) c.owe.new.self c.in-Some.is c.at.ensures.found
    (commits_never c.owe.new.self connection c.owe.new.self.outcome (seen c.at.result.now) c.phase.result c.phase.ensures c.in-Asking.is)

pub ask-requires-clause-lines : goal.ask-requires-clause-lines
ask-requires-clause-lines g c = owed_for c.args.self.now c.owe.new.self c.args.number Commit c.connection.result.now c.connection.ensures c.owe.ensures.does c.in-Some.key (sym c.superior_role.ensures ∙ c.in-Some.is) c.requires.lines

pub abort-requires-clause-lines : goal.abort-requires-clause-lines
abort-requires-clause-lines g c = owed_for c.args.self.now c.owe.new.self c.args.number Commit c.connection.result.now c.connection.ensures c.owe.ensures.does c.in-Some.key (sym c.superior_role.ensures ∙ c.in-Some.is) c.requires.lines

pub end_doubt_by_commit-requires-clause-key : goal.end_doubt_by_commit-requires-clause-key
end_doubt_by_commit-requires-clause-key g c = owed_for c.args.self.now c.owe.new.self c.args.number Commit c.connection.result.now c.connection.ensures c.owe.ensures.does c.in-Some.key (sym c.superior_role.ensures ∙ c.in-Some.is) c.requires.lines

pub end_doubt_by_commit-requires-clause-lines : goal.end_doubt_by_commit-requires-clause-lines
end_doubt_by_commit-requires-clause-lines g c = owed_at c.args.self.now c.owe.new.self c.args.number Commit c.connection.result.now c.connection.ensures c.owe.ensures.does c.in-Some.key (sym c.superior_role.ensures ∙ c.in-Some.is) c.requires.lines

pub ask-requires-clause-next : goal.ask-requires-clause-next
ask-requires-clause-next g c = commit_next c.args.self.now c.owe.new.self c.args.number c.connection.result.now c.connection.ensures c.owe.ensures.does (c.requires.next c.connection.result.now c.connection.ensures) c.in-Some.key (sym c.superior_role.ensures ∙ c.in-Some.is) (seen c.at.result.now) c.at.ensures.found (sym c.phase.ensures ∙ c.in-Active.is)
