use Rattle.std.proofs.Common.{◌++◌, ◌∙◌, ap, string_bytes}
use Rattle.std.specs.Prelude.{codes}
use Rattle.std.proofs.lemmas.Result.{on_ok_weaker}
use Rattle.tip_transcript.proofs.Showing.{spelled}
use Rattle.tip_transcript.proofs.printing.print_unstored.Goals as goal

pub returns : goal.returns
returns c = on_ok_weaker c.writeln.result (λ e. e ∙ ap (λ t. string_bytes c.args.printed.now ++ t) (spelled c.as_str-name.result.now c.in_ok-id.id ∙ ap (λ n. n ++ codes " store refused " ++ c.in_ok-id.id ++ codes "\n") c.as_str-name.ensures.same ∙ ap (λ i. c.args.realm.now ++ codes " store refused " ++ i ++ codes "\n") c.in_ok-id.ensures)) c.writeln.ensures.bytes
