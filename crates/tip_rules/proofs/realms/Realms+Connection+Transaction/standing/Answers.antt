use Rattle.std.proofs.Common.{◌≡◌, subst, sym, true}
use Rattle.tip_table.specs.Kept.{Kept, of}
use Rattle.tip_table.specs.Lists.{are_rising}
use Rattle.tip_machine.proofs.Rising.{numbers_rise}
use Rattle.tip_machine.specs.Types.{Connection}
use Rattle.tip_machine.specs.Given.{numbers_of}
use Rattle.tip_rules.specs.Works.{state_in}
use Rattle.tip_rules.proofs.Lending.{stands_there}
use Rattle.tip_rules.proofs.realms.Realms+Connection+Transaction.standing.Goals as goal

pub seat_place-requires : goal.seat_place-requires
seat_place-requires g c = subst (λ (connections : Kept Connection). are_rising (numbers_of (of connections c.args.realm)) ≡ true) (sym c.connections-connections.ensures) (numbers_rise (state_in c.args.realm c.args.self.now) c.requires.counts.numbered)

pub returns-in-Some : goal.returns-in-Some
returns-in-Some g c = stands_there c.args.self.now c.args.realm c.index.result.now c.requires.here c.index.ensures c.connections-connections.result.now c.connections-connections.ensures c.args.seat c.in-Some.place c.item.result.now c.in-Some.ensures.some c.item.ensures c.in-Some.ensures.same c.standing_of.result c.standing_of.ensures
