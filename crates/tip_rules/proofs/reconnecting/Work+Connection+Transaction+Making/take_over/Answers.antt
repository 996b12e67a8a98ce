use Rattle.std.proofs.Common.{sym, ◌∙◌}
use Rattle.tip_line.specs.declared.command.CommandName.TheVariants.{Reconnect}
use Rattle.tip_machine.specs.declared.answer.Said.TheVariants.{Reconnected}
use Rattle.tip_machine.specs.declared.connection.Role.TheVariants.{Superior}
use Rattle.tip_rules.proofs.Superiors.{room_replied, somebody_before}
use Rattle.tip_rules.proofs.reconnecting.Work+Connection+Transaction+Making.take_over.Goals as goal

pub hang_up-requires : goal.hang_up-requires
hang_up-requires g c = room_replied c.args.self.now c.reply_as.new.self c.args.number 1 Reconnect Reconnected (Superior c.args.key) c.reply_as.ensures c.requires.lines

pub returns-in-Some : goal.returns-in-Some
returns-in-Some g c = somebody_before c.args.self.now c.reply_as.new.self c.args.key c.args.number c.requires.numbered c.requires.in_doubt c.reply_as.ensures c.hang_up.new.self c.in-Some.earlier (sym c.in-Some.is ∙ c.superior_number-earlier.ensures) c.hang_up.ensures
