-- The oldest errand is lost.
use Rattle.std.proofs.Common.{◌++◌, ◌∙◌, ap, refl, string_bytes}
use Rattle.std.proofs.lemmas.Result.{on_ok_weaker}
use Rattle.tip_machine.specs.Outputs.{drops_of}
use Rattle.tip_transcript.specs.Printing.{shown_text}
use Rattle.tip_actor.proofs.Doing.{has_dropped}
use Rattle.tip_actor.proofs.errands.Actor+PartyOut.lose.Goals as goal

pub returns-in-Some : goal.returns-in-Some
returns-in-Some g c = λ acting is. on_ok_weaker c.print_drops.result (λ text. has_dropped g.S.RowLog.keeping c.args.stored_core.now c.args.place c.args.self.now _ (string_bytes c.args.printed.now) (string_bytes c.print_drops.new.printed) acting c.in-Some.party c.pop_front.new.self.items is c.in-Some.ensures.items refl refl refl refl (text ∙ ap (λ p. string_bytes c.args.printed.now ++ shown_text c.as_str.result.now (drops_of p)) c.party-in-Some.ensures ∙ ap (λ n. string_bytes c.args.printed.now ++ shown_text n (drops_of c.in-Some.party)) c.as_str.ensures.same)) c.print_drops.ensures
