-- The first of the lines that have come.
use Rattle.std.proofs.Common.{subst, sym, ◌∙◌}
use Rattle.tip_actor.specs.Listening.{Says}
use Rattle.tip_actor.proofs.Taking.{same_reading, says_one}
use Rattle.tip_actor.proofs.reader.Reader.ask.Goals as goal

pub returns-in-Some-clause-next : goal.returns-in-Some-clause-next
returns-in-Some-clause-next g c = λ state reading here is. says_one c.args.core.now c.args.place state c.has_next.new.self c.next.new.self reading c.in-Some.heard here (same_reading c.args.self.now c.has_next.new.self reading c.has_next.ensures.seat c.has_next.ensures.gives is) (sym c.if-must_wait.false ∙ c.must_wait.ensures) c.next.ensures.seat (subst (λ said. Says c.has_next.new.self said c.next.new.self) c.in-Some.is c.in_ok-heard.ensures.says)
