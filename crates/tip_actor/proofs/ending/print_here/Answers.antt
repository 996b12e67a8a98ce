use Rattle.std.proofs.Common.{◌∙◌, List, None, Some, ap, sym, ℕ}
use Rattle.std.specs.Prelude.{option_map}
use Rattle.std.proofs.lemmas.Option.{none-some}
use Rattle.tip_machine.specs.States.{State}
use Rattle.tip_actor.proofs.ending.print_here.Goals as goal

-- it is there, since it has a name
pub transactions-transaction-items-requires-clause-here : goal.transactions-transaction-items-requires-clause-here
transactions-transaction-items-requires-clause-here g c = λ none.
    none-some _ (sym (c.name.ensures ∙ ap (option_map (λ (state : State). state.head.name)) none) ∙ ap (option_map (λ name. name.now)) c.in-Some.is)
