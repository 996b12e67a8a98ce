use Rattle.std.proofs.Common.{◌≡◌, ap, sym, ◌∙◌}
use Rattle.std.proofs.lemmas.Option.{same_Some}
use Rattle.tip_machine.specs.Types.{Connection}
use Rattle.tip_rules.proofs.Responses.{answered_identified, answered_nothing, answered_part, answered_pull, answered_query, answered_to_ask, answered_to_reach, part_next}
use Rattle.tip_outlook.specs.Noting.{awaits_of}
use Rattle.tip_rules.proofs.responding.Work+Connection+Transaction+Making.respond.Goals as goal

pub returns-in-OfPart : goal.returns-in-OfPart
returns-in-OfPart g c = λ connection found.
    let is : c.connection.result.now ≡ connection = same_Some c.connection.result.now connection (sym c.connection.ensures ∙ found) in
    answered_part c.args.self.now c.respond_as_part.new.self c.args.response connection c.args.self.now.outcome c.in-OfPart.command (sym (c.of.ensures ∙ ap (λ (d : Connection). awaits_of d.awaited) is) ∙ c.in-OfPart.is) (c.respond_as_part.ensures connection found)

pub returns-in-Pulled : goal.returns-in-Pulled
returns-in-Pulled g c = λ connection found.
    let is : c.connection.result.now ≡ connection = same_Some c.connection.result.now connection (sym c.connection.ensures ∙ found) in
    answered_pull c.args.self.now c.respond_to_pull.new.self c.args.response connection c.args.self.now.outcome (sym (c.of.ensures ∙ ap (λ (d : Connection). awaits_of d.awaited) is) ∙ c.in-Pulled.is) (c.respond_to_pull.ensures connection found)

pub returns-in-Queried : goal.returns-in-Queried
returns-in-Queried g c = λ connection found.
    let is : c.connection.result.now ≡ connection = same_Some c.connection.result.now connection (sym c.connection.ensures ∙ found) in
    answered_query c.args.self.now c.respond_to_query.new.self c.args.response connection c.args.self.now.outcome c.in-Queried.key (sym (c.of.ensures ∙ ap (λ (d : Connection). awaits_of d.awaited) is) ∙ c.in-Queried.is) (c.respond_to_query.ensures connection found)

pub returns-in-Identified : goal.returns-in-Identified
returns-in-Identified g c = λ connection found.
    let is : c.connection.result.now ≡ connection = same_Some c.connection.result.now connection (sym c.connection.ensures ∙ found) in
    answered_identified c.args.self.now c.respond_to_identify.new.self c.args.response connection c.args.self.now.outcome (sym (c.of.ensures ∙ ap (λ (d : Connection). awaits_of d.awaited) is) ∙ c.in-Identified.is) (c.respond_to_identify.ensures connection found)

pub returns-in-ToAsk : goal.returns-in-ToAsk
returns-in-ToAsk g c = λ connection found.
    let is : c.connection.result.now ≡ connection = same_Some c.connection.result.now connection (sym c.connection.ensures ∙ found) in
    answered_to_ask c.args.self.now c.respond_to_ask.new.self c.args.response connection c.args.self.now.outcome (sym (c.of.ensures ∙ ap (λ (d : Connection). awaits_of d.awaited) is) ∙ c.in-ToAsk.is) (λ id. c.respond_to_ask.ensures connection id found)

pub returns-in-ToReach : goal.returns-in-ToReach
returns-in-ToReach g c = λ connection found.
    let is : c.connection.result.now ≡ connection = same_Some c.connection.result.now connection (sym c.connection.ensures ∙ found) in
    answered_to_reach c.args.self.now c.respond_to_reach.new.self c.args.response connection c.args.self.now.outcome (sym (c.of.ensures ∙ ap (λ (d : Connection). awaits_of d.awaited) is) ∙ c.in-ToReach.is) (λ id place. c.respond_to_reach.ensures connection id place found)

pub returns-in-Nothing : goal.returns-in-Nothing
returns-in-Nothing g c = λ connection found.
    let is : c.connection.result.now ≡ connection = same_Some c.connection.result.now connection (sym c.connection.ensures ∙ found) in
    answered_nothing c.args.self.now c.args.response connection (sym (c.of.ensures ∙ ap (λ (d : Connection). awaits_of d.awaited) is) ∙ c.in-Nothing.is)

pub respond_as_part-requires-clause-next : goal.respond_as_part-requires-clause-next
respond_as_part-requires-clause-next g c = λ connection found. part_next c.args.self.now c.args.number c.args.response c.connection.result.now connection c.in-OfPart.command c.connection.ensures (sym c.of.ensures ∙ c.in-OfPart.is) found (c.requires.next connection found)
