-- The worked examples are honest runs from starts, by computing.
use Rattle.std.proofs.Common.{◌≡◌, Bool, true, refl}
use Rattle.std.specs.Prelude.{◌&&◌}
use Rattle.std.proofs.lemmas.Bool.{and_parts}
use Rattle.std.specs.Fmt.{digits}
use Rattle.tip_conn.specs.Table.{is_valid, next_of}
use Rattle.tip_machine.specs.Changes.{reply, send}
use Rattle.tip_machine.specs.Reactions.{react}
use Rattle.tip_machine.specs.Proceeding.{dispatch, release, abort, commit, promise, leave, finish, proceed, ask}
use Rattle.tip_machine.specs.Failing.{gone, fail, closed, wrong}
use Rattle.tip_machine.specs.Commands.{make, identify, begin, push, pull, query, reconnect, commanded}
use Rattle.tip_machine.specs.Requests.{added, opened, dial, lost, line, ask_push, ask_pull, resume, voted, settled}
use Rattle.tip_machine.specs.Order.{ordered}
use Rattle.tip_machine.specs.Honest.{is_run}
use Rattle.tip_machine.specs.Moves.{fresh, stepped}
use Rattle.tip_machine.specs.Examples.Scripts.{Each, Example, IsHonestRun, moves_of}
use Rattle.tip_machine.specs.Starting.{is_starting}
use Rattle.tip_machine.specs.Examples.{worked}
use Rattle.tip_machine.proofs.Begun.{fresh_starts}
use Rattle.tip_machine.proofs.Each.{each}

is_honest_run : Example → Bool
is_honest_run example = is_starting example.head && is_run (fresh example.head) (moves_of (fresh example.head) example.lines)

honest_run : (example : Example) → is_honest_run example ≡ true → IsHonestRun example
unfolding is_honest_run
honest_run example is = let both = and_parts (is_starting example.head) _ is in (fresh_starts example.head both.0, both.1)

pub honest : Each IsHonestRun worked
unfolding is_honest_run reply send react dispatch release abort commit promise leave finish proceed ask gone fail closed wrong make identify begin push pull query reconnect commanded added opened dial lost line ask_push ask_pull resume voted settled ordered stepped is_valid next_of digits
honest = each is_honest_run IsHonestRun honest_run worked refl
