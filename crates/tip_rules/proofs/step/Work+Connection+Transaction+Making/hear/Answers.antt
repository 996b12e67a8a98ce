use Rattle.std.proofs.Common.{subst}
use Rattle.tip_conn.specs.declared.state.Side.TheVariants.{Secondary}
use Rattle.tip_machine.specs.declared.event.Heard.{Heard}
use Rattle.tip_outlook.specs.Endings.{EndsBy}
use Rattle.tip_outlook.specs.Wanting.{taken_wanted}
use Rattle.tip_rules.specs.Works.{work_of}
use Rattle.tip_rules.proofs.step.Work+Connection+Transaction+Making.hear.Goals as goal

pub command-requires-clause-next : goal.command-requires-clause-next
command-requires-clause-next g c = λ connection found. subst (λ (heard : Heard). EndsBy (taken_wanted Secondary heard connection (work_of c.args.self.now).state) c.args.self.now.endings) c.in-Command.is (c.requires.next connection found)
