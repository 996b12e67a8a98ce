use Rattle.std.proofs.Common.{◌≡◌, subst, sym, true}
use Rattle.tip_table.specs.Kept.{Kept, of}
use Rattle.tip_table.specs.Lists.{are_rising}
use Rattle.tip_machine.proofs.Rising.{numbers_rise}
use Rattle.tip_machine.specs.Types.{Connection}
use Rattle.tip_machine.specs.Given.{numbers_of}
use Rattle.tip_rules.specs.Works.{state_in}
use Rattle.tip_rules.proofs.realms.Realms+Connection+Transaction.may_take.Goals as goal

pub seat_place-requires : goal.seat_place-requires
seat_place-requires g c = subst (λ (connections : Kept Connection). are_rising (numbers_of (of connections c.args.realm)) ≡ true) (sym c.connections-connections.ensures) (numbers_rise (state_in c.args.realm c.args.self.now) c.requires.counts.numbered)
