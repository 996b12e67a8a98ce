use Rattle.std.proofs.Common.{subst}
use Rattle.tip_line.specs.declared.command.Command.{Command}
use Rattle.tip_outlook.specs.Endings.{EndsBy}
use Rattle.tip_outlook.specs.Wanting.{command_wanted}
use Rattle.tip_rules.specs.Works.{work_of}
use Rattle.tip_rules.proofs.commands.Work+Connection+Transaction+Making.serve.Goals as goal

pub obey_prepare-requires-clause-next : goal.obey_prepare-requires-clause-next
obey_prepare-requires-clause-next g c = λ connection found. subst (λ (line : Command). EndsBy (command_wanted line connection (work_of c.args.self.now).state) c.args.self.now.endings) c.in-Prepare.is (c.requires.next connection found)

pub obey_commit-requires-clause-next : goal.obey_commit-requires-clause-next
obey_commit-requires-clause-next g c = λ connection found. subst (λ (line : Command). EndsBy (command_wanted line connection (work_of c.args.self.now).state) c.args.self.now.endings) c.in-Commit.is (c.requires.next connection found)
