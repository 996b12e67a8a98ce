use Rattle.std.proofs.Common.{◌≡◌, ap, refl, sym, ◌∙◌}
use Rattle.std.specs.Option.{option_and_then}
use Rattle.std.proofs.lemmas.Option.{same_Some}
use Rattle.tip_line.specs.declared.command.CommandName.TheVariants.{Identify}
use Rattle.tip_line.specs.declared.response.ResponseName.TheVariants.{Identified}
use Rattle.tip_machine.specs.Types.{Connection}
use Rattle.tip_rules.proofs.Aims.{reaches_nobody, reaches_one, word_aimed}
use Rattle.tip_rules.proofs.Responses.{gone_lines_as}
use Rattle.tip_rules.specs.Pursuing.{aim_in, aimed_at}
use Rattle.tip_rules.specs.Works.{Held, work_of}
use Rattle.tip_rules.proofs.reaching.Work+Connection+Transaction+Making.pursue_reconnect.Goals as goal

pub reach_again-requires-clause-lines : goal.reach_again-requires-clause-lines
reach_again-requires-clause-lines g c = gone_lines_as c.args.self.now c.go.new.self c.args.number Identify Identified c.go.ensures.does c.connection-connection.result.now c.connection-connection.result.now.role c.connection-connection.ensures refl c.requires.lines

pub reach_again-requires-clause-word : goal.reach_again-requires-clause-word
reach_again-requires-clause-word g c = ap (λ (h : Held). h.making.word) c.go.ensures.rest
    ∙ word_aimed c.args.self.now c.go.new.self c.args.number c.connection-connection.result.now c.in-Some.aim c.args.self.now.making.word c.connection-connection.ensures (sym c.in-Some.is ∙ c.aim_of-aim.ensures) c.go.ensures.does c.requires.word

pub close_as-requires-clause-lines : goal.close_as-requires-clause-lines
close_as-requires-clause-lines g c = gone_lines_as c.args.self.now c.go.new.self c.args.number Identify Identified c.go.ensures.does c.connection-connection.result.now c.connection-connection.result.now.role c.connection-connection.ensures refl c.requires.lines

pub returns-in-Some : goal.returns-in-Some
returns-in-Some g c = λ connection id subordinate found aims.
    let same : c.connection-connection.result.now ≡ connection = same_Some c.connection-connection.result.now connection (sym c.connection-connection.ensures ∙ found) in
    reaches_one c.args.self.now c.go.new.self c.reach_again.new.self c.args.number connection id subordinate found c.go.ensures.does c.connection-connection.result.now.role c.in-Some.aim (ap (λ (d : Connection). d.role) same)
    (sym c.in-Some.is ∙ c.aim_of-aim.ensures ∙ ap (λ (d : Connection). option_and_then (aim_in (work_of c.args.self.now).state) (aimed_at d.awaited)) same ∙ ap (option_and_then (aim_in (work_of c.args.self.now).state)) aims) c.reach_again.ensures

pub returns-in-None : goal.returns-in-None
returns-in-None g c = λ connection id subordinate found aims.
    let same : c.connection-connection.result.now ≡ connection = same_Some c.connection-connection.result.now connection (sym c.connection-connection.ensures ∙ found) in
    reaches_nobody c.args.self.now c.go.new.self c.close_as.new.self c.args.number connection id subordinate found c.go.ensures.does c.connection-connection.result.now.role (ap (λ (d : Connection). d.role) same)
    (sym c.in-None.is ∙ c.aim_of-aim.ensures ∙ ap (λ (d : Connection). option_and_then (aim_in (work_of c.args.self.now).state) (aimed_at d.awaited)) same ∙ ap (option_and_then (aim_in (work_of c.args.self.now).state)) aims) c.close_as.ensures
