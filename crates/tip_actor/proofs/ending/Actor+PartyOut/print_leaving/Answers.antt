-- The parties that are out, and then those that are here.
use Rattle.std.proofs.Common.{◌∙◌, string_bytes}
use Rattle.std.proofs.lemmas.Result.{on_ok_weaker}
use Rattle.tip_actor.proofs.Leaving.{has_left}
use Rattle.tip_actor.proofs.ending.Actor+PartyOut.print_leaving.Goals as goal

pub returns : goal.returns
returns g c = λ acting is. on_ok_weaker c.print_here.result (λ text. has_left acting c.as_str-name.result.now c.args.self.now.errands.items (string_bytes c.args.printed.now) (string_bytes c.print_out.new.printed) (string_bytes c.print_here.new.printed) (c.as_str-name.ensures.same ∙ is.own.name) is.own.errands c.in_ok-print_out.ensures text) (c.print_here.ensures acting.world.state is.served.state_is)
