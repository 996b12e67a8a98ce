use Rattle.std.proofs.Common.{ap, sym, ◌∙◌}
use Rattle.std.specs.Prelude.{is_some}
use Rattle.std.proofs.lemmas.Option.{same_Some}
use Rattle.tip_line.specs.declared.command.CommandName.TheVariants.{Prepare}
use Rattle.tip_machine.specs.Commands.{prepare, superior_role}
use Rattle.tip_machine.specs.Types.{Connection, Transaction, seen}
use Rattle.tip_rules.proofs.Commanding.{obeys_nobody, obeys_none, obeys_some, owed_for, prepare_next, prepares_aborted, prepares_never, prepares_nobody, prepares_reachable}
use Rattle.tip_rules.proofs.commands.Work+Connection+Transaction+Making.obey_prepare.Goals as goal

pub returns-in_default : goal.returns-in_default
returns-in_default g c = λ connection found.
    let is = c.superior_role.ensures ∙ ap (λ (d : Connection). superior_role d.role) (same_Some c.connection-connection.result.now connection (sym c.connection-connection.ensures ∙ found)) in
    obeys_nobody c.args.self.now c.owe.new.self c.args.number Prepare connection found c.owe.ensures.does (λ (t : Transaction). prepare t.phase connection.peer connection t) c.superior_role.result is c.in_default.is

pub returns-in_default-transaction : goal.returns-in_default-transaction
returns-in_default-transaction g c = λ connection found.
    let is = c.superior_role.ensures ∙ ap (λ (d : Connection). superior_role d.role) (same_Some c.connection-connection.result.now connection (sym c.connection-connection.ensures ∙ found)) in
    obeys_none c.args.self.now c.owe.new.self c.args.number Prepare connection found c.owe.ensures.does (λ (t : Transaction). prepare t.phase connection.peer connection t) c.superior_role.result is c.in-Some.key c.in-Some.is (c.transaction.ensures.none.0 c.in_default-transaction.is)

pub returns-in-Active : goal.returns-in-Active
returns-in-Active g c = λ connection found.
    let is = c.superior_role.ensures ∙ ap (λ (d : Connection). superior_role d.role) (same_Some c.connection-connection.result.now connection (sym c.connection-connection.ensures ∙ found)) in
    let reachable = ap (λ (d : Connection). is_some d.peer) (same_Some c.connection-connection.result.now connection (sym c.connection-connection.ensures ∙ found)) in
    obeys_some c.args.self.now c.owe.new.self c.args.number Prepare connection found c.owe.ensures.does (λ (t : Transaction). prepare t.phase connection.peer connection t) c.superior_role.result is c.in-Some.key (seen c.at.result.now) c.ask.new.self c.in-Some.is c.at.ensures.found
    (prepares_reachable c.owe.new.self c.ask.new.self connection c.owe.new.self.outcome c.in-Some.key (seen c.at.result.now) c.at.ensures.found (sym c.phase.ensures ∙ c.in-Active.is) (sym reachable ∙ sym c.is_some-is_reachable.ensures ∙ c.if-is_reachable.true) c.ask.ensures)

pub returns-in-Active-2 : goal.returns-in-Active-2
returns-in-Active-2 g c = λ connection found.
    let is = c.superior_role.ensures ∙ ap (λ (d : Connection). superior_role d.role) (same_Some c.connection-connection.result.now connection (sym c.connection-connection.ensures ∙ found)) in
    let reachable = ap (λ (d : Connection). is_some d.peer) (same_Some c.connection-connection.result.now connection (sym c.connection-connection.ensures ∙ found)) in
    obeys_some c.args.self.now c.owe.new.self c.args.number Prepare connection found c.owe.ensures.does (λ (t : Transaction). prepare t.phase connection.peer connection t) c.superior_role.result is c.in-Some.key (seen c.at.result.now) c.abort.new.self c.in-Some.is c.at.ensures.found
    (prepares_nobody c.owe.new.self c.abort.new.self connection c.owe.new.self.outcome c.in-Some.key (seen c.at.result.now) c.at.ensures.found (sym c.phase.ensures ∙ c.in-Active-2.is) (sym reachable ∙ sym c.is_some-is_reachable.ensures ∙ c.if-is_reachable.false) c.abort.ensures)

pub returns-in-Aborted : goal.returns-in-Aborted
returns-in-Aborted g c = λ connection found.
    let is = c.superior_role.ensures ∙ ap (λ (d : Connection). superior_role d.role) (same_Some c.connection-connection.result.now connection (sym c.connection-connection.ensures ∙ found)) in
    obeys_some c.args.self.now c.owe.new.self c.args.number Prepare connection found c.owe.ensures.does (λ (t : Transaction). prepare t.phase connection.peer connection t) c.superior_role.result is c.in-Some.key (seen c.at.result.now) c.abort-in-Aborted.new.self c.in-Some.is c.at.ensures.found
    (prepares_aborted c.owe.new.self c.abort-in-Aborted.new.self connection c.owe.new.self.outcome c.in-Some.key (seen c.at.result.now) c.at.ensures.found (sym c.phase.ensures ∙ c.in-Aborted.is) c.abort-in-Aborted.ensures)

pub returns-in-Asking : goal.returns-in-Asking
returns-in-Asking g c = λ connection found.
    let is = c.superior_role.ensures ∙ ap (λ (d : Connection). superior_role d.role) (same_Some c.connection-connection.result.now connection (sym c.connection-connection.ensures ∙ found)) in
    obeys_some c.args.self.now c.owe.new.self c.args.number Prepare connection found c.owe.ensures.does (λ (t : Transaction). prepare t.phase connection.peer connection t) c.superior_role.result is c.in-Some.key (seen c.at.result.now) c.owe.new.self c.in-Some.is c.at.ensures.found
    (prepares_never c.owe.new.self connection c.owe.new.self.outcome (seen c.at.result.now) c.phase.result c.phase.ensures c.in-Asking.is)

pub ask-requires-clause-lines : goal.ask-requires-clause-lines
ask-requires-clause-lines g c = owed_for c.args.self.now c.owe.new.self c.args.number Prepare c.connection-connection.result.now c.connection-connection.ensures c.owe.ensures.does c.in-Some.key (sym c.superior_role.ensures ∙ c.in-Some.is) c.requires.lines

pub abort-requires-clause-lines : goal.abort-requires-clause-lines
abort-requires-clause-lines g c = owed_for c.args.self.now c.owe.new.self c.args.number Prepare c.connection-connection.result.now c.connection-connection.ensures c.owe.ensures.does c.in-Some.key (sym c.superior_role.ensures ∙ c.in-Some.is) c.requires.lines

pub abort-requires-in-Aborted-clause-lines : goal.abort-requires-in-Aborted-clause-lines
abort-requires-in-Aborted-clause-lines g c = owed_for c.args.self.now c.owe.new.self c.args.number Prepare c.connection-connection.result.now c.connection-connection.ensures c.owe.ensures.does c.in-Some.key (sym c.superior_role.ensures ∙ c.in-Some.is) c.requires.lines

pub ask-requires-clause-next : goal.ask-requires-clause-next
ask-requires-clause-next g c = prepare_next c.args.self.now c.owe.new.self c.args.number c.connection-connection.result.now c.connection-connection.ensures c.owe.ensures.does (c.requires.next c.connection-connection.result.now c.connection-connection.ensures) c.in-Some.key (sym c.superior_role.ensures ∙ c.in-Some.is) (seen c.at.result.now) c.at.ensures.found (sym c.phase.ensures ∙ c.in-Active.is) (sym c.is_some-is_reachable.ensures ∙ c.if-is_reachable.true)
