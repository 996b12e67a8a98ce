use Rattle.std.proofs.Common.{None, sym, ◌∙◌}
use Rattle.std.proofs.lemmas.Option.{same_Some}
use Rattle.tip_machine.specs.declared.transaction.Origin.TheVariants.{Subordinate}
use Rattle.tip_rules.proofs.Dials.{took_words}
use Rattle.tip_rules.proofs.Requests.{pulls_full, pulls_made, still_able}
use Rattle.tip_rules.specs.Works.{make_where_room}
use Rattle.tip_rules.proofs.requesting.Work+Connection+Transaction+Making.pull_new.Goals as goal

pub make_where_room-requires-clause-able : goal.make_where_room-requires-clause-able
make_where_room-requires-clause-able g c = still_able c.args.self.now c.take_question-address.new.self None c.args.self.now.making.ours None c.take_question-address.ensures.left c.args.number c.requires.able

pub returns-in-Some : goal.returns-in-Some
returns-in-Some g c = λ connection found.
    let from = Subordinate c.take_question-address.result.0 c.args.superior in
    let first = took_words c.args.self.now c.take_question-address.new.self None c.args.self.now.making.ours None c.take_question-address.ensures.left c.make_where_room.new.self (make_where_room from connection) (c.make_where_room.ensures.does connection found) in
    pulls_made c.args.self.now c.make_where_room.new.self c.send.new.self c.args.number connection found c.take_question-address.result.0 c.args.superior (c.take_question-address.ensures.peer ∙ c.requires.peer) first c.take_question-address.result.1 c.in-Some.subordinate
    (same_Some _ _ (sym c.take_question-address.ensures.word ∙ c.requires.word)) (sym c.in-Some.is ∙ c.make_where_room.ensures.key connection found) c.send.ensures.does

pub returns-in-None : goal.returns-in-None
returns-in-None g c = λ connection found.
    let from = Subordinate c.take_question-address.result.0 c.args.superior in
    let first = took_words c.args.self.now c.take_question-address.new.self None c.args.self.now.making.ours None c.take_question-address.ensures.left c.make_where_room.new.self (make_where_room from connection) (c.make_where_room.ensures.does connection found) in
    pulls_full c.args.self.now c.make_where_room.new.self c.refuse.new.self c.args.number connection found c.take_question-address.result.0 c.args.superior (c.take_question-address.ensures.peer ∙ c.requires.peer) first (sym c.in-None.is ∙ c.make_where_room.ensures.key connection found) c.refuse.ensures
