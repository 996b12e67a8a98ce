-- What each worked example shows, by computing.
use Rattle.std.proofs.Common.{◌≡◌, map, refl}
use Rattle.std.specs.Fmt.{digits}
use Rattle.tip_conn.specs.Table.{is_valid, next_of}
use Rattle.tip_machine.specs.Changes.{reply, send}
use Rattle.tip_machine.specs.Reactions.{react}
use Rattle.tip_machine.specs.Proceeding.{dispatch, release, abort, commit, promise, leave, finish, proceed, ask}
use Rattle.tip_machine.specs.Failing.{gone, fail, closed, wrong}
use Rattle.tip_machine.specs.Commands.{make, identify, begin, push, pull, query, reconnect, commanded}
use Rattle.tip_machine.specs.Requests.{added, opened, dial, lost, line, ask_push, ask_pull, resume, voted, settled}
use Rattle.tip_machine.specs.Order.{ordered}
use Rattle.tip_machine.specs.Moves.{stepped}
use Rattle.tip_machine.specs.Examples.Scripts.{Example, play}
use Rattle.tip_machine.specs.Examples.{worked}

pub shown : map play worked ≡ map (λ (example : Example). example.shown) worked
unfolding reply send react dispatch release abort commit promise leave finish proceed ask gone fail closed wrong make identify begin push pull query reconnect commanded added opened dial lost line ask_push ask_pull resume voted settled ordered stepped is_valid next_of digits
shown = refl
