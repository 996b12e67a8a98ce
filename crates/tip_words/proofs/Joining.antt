-- A command with one subcommand more.
use Rattle.std.proofs.Common.{◌∙◌, ◌||◌, ap, ap₂}
use Rattle.clap.specs.Words.{AddsSubcommand, App, with_subcommand}
use Rattle.clap.specs.declared.builder.Command.{Command}
use Rattle.tip_words.specs.Commands.{IsCommand}

pub joined : {app sub : App} {before own after : Command} → AddsSubcommand before own after → IsCommand app before → IsCommand sub own → IsCommand (with_subcommand app sub.top) after
joined adds is its = (
  adds.shape its.1 ∙ ap₂ with_subcommand is.0 (ap (λ (app : App). app.top) its.0),
  adds.globals ∙ ap₂ (λ a b. a || b) is.1 its.1,
)
