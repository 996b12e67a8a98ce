-- What is told of an identifier (ours).
use Rattle.std.specs.Prelude.{ℕ, Bool, true, List}
use Rattle.std.specs.List.{list_any}
use Rattle.tip_machine.specs.Agreement.Traces.{shown_in, traced}
use Rattle.tip_machine.specs.Agreement.Verdicts.{told}
use Rattle.tip_machine.specs.Moves.{Move, World}
use Rattle.tip_machine.specs.Outputs.{Output}

-- a branch of the transaction of this identifier, local or remote, is told to commit or to abort
abbrev pub is_told : List ℕ → List ℕ → List Output → Bool
is_told realm id shown = list_any (λ verdict. true) (told realm id shown)

-- so it is in a run
abbrev pub is_told_of : List ℕ → World → List Move → Bool
is_told_of id start moves = is_told start.state.head.name id (shown_in (traced start moves))
