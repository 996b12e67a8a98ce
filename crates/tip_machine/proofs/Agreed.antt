-- No worked example half commits its first transaction, by computing.
use Rattle.std.proofs.Common.{◌≡◌, Bool, true, List, ℕ, refl}
use Rattle.std.specs.Prelude.{◌&&◌}
use Rattle.std.specs.Fmt.{digits}
use Rattle.std.proofs.lemmas.Bool.{and_parts}
use Rattle.tip_conn.specs.Table.{is_valid, next_of}
use Rattle.tip_machine.specs.Agreement.{IsAgreed, is_asked, is_backed, is_kept, is_one}
use Rattle.tip_machine.specs.Changes.{reply, send}
use Rattle.tip_machine.specs.Reactions.{react}
use Rattle.tip_machine.specs.Proceeding.{dispatch, release, abort, commit, promise, leave, finish, proceed, ask}
use Rattle.tip_machine.specs.Failing.{gone, fail, closed, wrong}
use Rattle.tip_machine.specs.Commands.{make, identify, begin, push, pull, query, reconnect, commanded}
use Rattle.tip_machine.specs.Requests.{added, opened, dial, lost, line, ask_push, ask_pull, resume, voted, settled}
use Rattle.tip_machine.specs.Order.{ordered}
use Rattle.tip_machine.specs.Moves.{World, fresh, stepped}
use Rattle.tip_machine.specs.Examples.Scripts.{IsNeverHalf, Each, Example, id, trace_of}
use Rattle.tip_machine.specs.Agreement.Traces.{Moment, at_each}
use Rattle.tip_machine.specs.Examples.{worked}
use Rattle.tip_machine.proofs.Each.{each}

-- the four sentences as one test
is_agreed : List ℕ → World → List Moment → Bool
is_agreed realm start moments = is_one realm id moments && (at_each (is_backed realm id start) moments && (at_each (is_kept realm id start) moments && at_each (is_asked realm id start) moments))

agrees : (start : World) (moments : List Moment) → is_agreed start.state.head.name start moments ≡ true → IsAgreed start moments id
unfolding is_agreed
agrees start moments is =
    let a = and_parts _ _ is in
    let b = and_parts _ _ a.1 in
    let c = and_parts _ _ b.1 in
    record { one = a.0; backed = b.0; kept = c.0; asked = c.1 }

agrees_on : Example → Bool
agrees_on example = is_agreed example.head.name (fresh example.head) (trace_of example)

agrees_so : (example : Example) → agrees_on example ≡ true → IsNeverHalf example
unfolding agrees_on
agrees_so example is = agrees (fresh example.head) (trace_of example) is

pub agreed : Each IsNeverHalf worked
unfolding is_agreed agrees_on reply send react dispatch release abort commit promise leave finish proceed ask gone fail closed wrong make identify begin push pull query reconnect commanded added opened dial lost line ask_push ask_pull resume voted settled ordered stepped is_valid next_of digits
agreed = each agrees_on IsNeverHalf agrees_so worked refl
