use Rattle.std.proofs.Common.{ap, subst, sym, ◌∙◌}
use Rattle.std.specs.Option.{option_and_then}
use Rattle.tip_machine.specs.Proceeding.{errand_in, give_out}
use Rattle.tip_rules.specs.Works.{Does, party_at, work_of}
use Rattle.tip_rules.proofs.Proceeding.{dispatched_done, dispatched_ready}
use Rattle.tip_rules.proofs.work.Work+Connection+Transaction+Making.dispatch.Goals as goal

pub returns-in-Here-clause-does : goal.returns-in-Here-clause-does
returns-in-Here-clause-does g c =
    let party = c.in-Here.party in
    let t = c.at-transaction.result.now in
    let here = ap (option_and_then (λ held. party_at held.place)) c.at-transaction.ensures.item ∙ ap party_at c.in-Here.is in
    dispatched_ready c.args.self.now c.give_out.new.self c.args.key t c.at-transaction.ensures.found party c.in-Here.is (sym c.has_ready.ensures ∙ c.if-has_ready.true)
    (subst (λ errand. Does c.args.self.now c.give_out.new.self (give_out errand party c.args.key (work_of c.args.self.now))) (c.errand_in-errand.ensures ∙ ap errand_in c.phase.ensures) (c.give_out.ensures.does party here))

pub returns-in-Here-2-clause-does : goal.returns-in-Here-2-clause-does
returns-in-Here-2-clause-does g c =
    let party = c.in-Here.party in
    let t = c.at-transaction.result.now in
    let here = ap (option_and_then (λ held. party_at held.place)) c.at-transaction.ensures.item ∙ ap party_at c.in-Here.is in
    dispatched_done c.args.self.now c.let_go.new.self c.args.key t c.at-transaction.ensures.found party c.in-Here.is (sym c.has_ready.ensures ∙ c.if-has_ready.false) (c.let_go.ensures.does party here)
