use Rattle.std.proofs.Common.{◌≡◌, ap, refl, sym, ◌∙◌}
use Rattle.std.specs.Option.{option_and_then}
use Rattle.std.proofs.lemmas.Option.{same_Some}
use Rattle.tip_line.specs.declared.command.CommandName.TheVariants.{Identify}
use Rattle.tip_line.specs.declared.response.ResponseName.TheVariants.{Identified}
use Rattle.tip_machine.specs.Types.{Connection}
use Rattle.tip_rules.proofs.Purposes.{asks_nobody, asks_one, word_keyed}
use Rattle.tip_rules.proofs.Responses.{gone_lines_as}
use Rattle.tip_rules.specs.Pursuing.{asked_for, key_of}
use Rattle.tip_rules.specs.Works.{Held, work_of}
use Rattle.tip_rules.proofs.pursuing.Work+Connection+Transaction+Making.pursue_query.Goals as goal

pub query_about-requires-clause-lines : goal.query_about-requires-clause-lines
query_about-requires-clause-lines g c = gone_lines_as c.args.self.now c.go.new.self c.args.number Identify Identified c.go.ensures.does c.connection-connection.result.now c.connection-connection.result.now.role c.connection-connection.ensures refl c.requires.lines

pub query_about-requires-clause-word : goal.query_about-requires-clause-word
query_about-requires-clause-word g c = ap (λ (h : Held). h.making.word) c.go.ensures.rest
    ∙ word_keyed c.args.self.now c.go.new.self c.args.number c.connection-connection.result.now c.in-Some.key c.args.self.now.making.word c.connection-connection.ensures (sym c.in-Some.is ∙ c.key_asked-key.ensures) c.go.ensures.does c.requires.word

pub close_as-requires-clause-lines : goal.close_as-requires-clause-lines
close_as-requires-clause-lines g c = gone_lines_as c.args.self.now c.go.new.self c.args.number Identify Identified c.go.ensures.does c.connection-connection.result.now c.connection-connection.result.now.role c.connection-connection.ensures refl c.requires.lines

pub returns-in-Some : goal.returns-in-Some
returns-in-Some g c = λ connection id found asks.
    let same : c.connection-connection.result.now ≡ connection = same_Some c.connection-connection.result.now connection (sym c.connection-connection.ensures ∙ found) in
    asks_one c.args.self.now c.go.new.self c.query_about.new.self c.args.number connection id found c.go.ensures.does c.connection-connection.result.now.role c.in-Some.key (ap (λ (d : Connection). d.role) same)
    (sym c.in-Some.is ∙ c.key_asked-key.ensures ∙ ap (λ (d : Connection). option_and_then (key_of (work_of c.args.self.now).state) (asked_for d.awaited)) same ∙ ap (option_and_then (key_of (work_of c.args.self.now).state)) asks) c.query_about.ensures

pub returns-in-None : goal.returns-in-None
returns-in-None g c = λ connection id found asks.
    let same : c.connection-connection.result.now ≡ connection = same_Some c.connection-connection.result.now connection (sym c.connection-connection.ensures ∙ found) in
    asks_nobody c.args.self.now c.go.new.self c.close_as.new.self c.args.number connection id found c.go.ensures.does c.connection-connection.result.now.role (ap (λ (d : Connection). d.role) same)
    (sym c.in-None.is ∙ c.key_asked-key.ensures ∙ ap (λ (d : Connection). option_and_then (key_of (work_of c.args.self.now).state) (asked_for d.awaited)) same ∙ ap (option_and_then (key_of (work_of c.args.self.now).state)) asks) c.close_as.ensures
