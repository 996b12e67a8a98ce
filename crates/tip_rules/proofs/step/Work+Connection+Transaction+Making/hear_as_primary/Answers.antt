use Rattle.std.proofs.Common.{subst}
use Rattle.tip_conn.specs.declared.state.Side.TheVariants.{Primary}
use Rattle.tip_machine.specs.declared.event.Heard.{Heard}
use Rattle.tip_outlook.specs.Endings.{EndsBy}
use Rattle.tip_outlook.specs.Wanting.{taken_wanted}
use Rattle.tip_rules.specs.Works.{work_of}
use Rattle.tip_rules.proofs.step.Work+Connection+Transaction+Making.hear_as_primary.Goals as goal

pub respond-requires-clause-next : goal.respond-requires-clause-next
respond-requires-clause-next g c = λ connection found. subst (λ (heard : Heard). EndsBy (taken_wanted Primary heard connection (work_of c.args.self.now).state) c.args.self.now.endings) c.in-Response.is (c.requires.next connection found)
