use Rattle.std.proofs.lemmas.Result.{IfOk-weaker}
use Rattle.tip_words.specs.Commands.{tipd}
use Rattle.tip_words.proofs.Joining.{joined}
use Rattle.tip_words.proofs.commands.tipd.Goals as goal

pub returns : goal.returns
unfolding tipd
returns c =
    let first = joined c.in_ok-subcommand.ensures c.alone.ensures c.in_ok-play.ensures in
    let second = joined c.in_ok-subcommand-2.ensures first c.in_ok-serve.ensures in
    let third = joined c.in_ok-subcommand-3.ensures second c.in_ok-rows.ensures in
    let fourth = joined c.in_ok-subcommand-4.ensures third c.in_ok-check.ensures in
    let fifth = joined c.in_ok-subcommand-5.ensures fourth c.in_ok-ping.ensures in
    let sixth = joined c.in_ok-subcommand-6.ensures fifth c.in_ok-query.ensures in
    let seventh = joined c.in_ok-subcommand-7.ensures sixth c.in_ok-settle.ensures in
    let eighth = joined c.in_ok-subcommand-8.ensures seventh c.in_ok-send.ensures in
    IfOk-weaker c.subcommand-9.result _ _ (λ command last. joined last eighth c.in_ok-ask.ensures) c.subcommand-9.ensures
