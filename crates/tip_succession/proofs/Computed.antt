-- The example and its false twins, by computing.
use Rattle.std.proofs.Common.{◌≡◌, false, true, [], ◌∷◌, codes, arith, refl}
use Rattle.std.specs.Fmt.{digits}
use Rattle.tip_conn.specs.Table.{is_valid, next_of}
use Rattle.tip_machine.specs.Agreement.{is_backed, is_kept}
use Rattle.tip_machine.specs.Changes.{reply, send}
use Rattle.tip_machine.specs.Reactions.{react}
use Rattle.tip_machine.specs.Proceeding.{dispatch, release, abort, commit, promise, leave, finish, proceed, ask}
use Rattle.tip_machine.specs.Failing.{gone, fail, closed, wrong}
use Rattle.tip_machine.specs.Commands.{make, identify, begin, push, pull, query, reconnect, commanded}
use Rattle.tip_machine.specs.Requests.{added, opened, dial, lost, line, ask_push, ask_pull, resume, voted, settled}
use Rattle.tip_machine.specs.Order.{ordered}
use Rattle.tip_machine.specs.Honest.{is_run}
use Rattle.tip_machine.specs.Moves.{fresh, led_to, stepped}
use Rattle.tip_machine.specs.Starting.{IsStart}
use Rattle.tip_machine.proofs.Begun.{fresh_starts}
use Rattle.tip_machine.specs.Examples.Scripts.{id, north}
use Rattle.tip_machine.specs.Examples.Twins.{forged, never_done, never_stored, never_voted}
use Rattle.tip_machine.specs.Agreement.Traces.{at_each}
use Rattle.tip_succession.specs.Agreement.{IsAgreedByAll, is_asked_then}
use Rattle.tip_succession.specs.Examples.{moments, moves, next}
use Rattle.tip_succession.specs.Processes.{Follow}

pub start : IsStart (fresh north)
start = fresh_starts north refl

pub run : is_run (fresh north) moves ≡ true
unfolding reply send react dispatch release abort commit promise leave finish proceed ask gone fail closed wrong make identify begin push pull query reconnect commanded added opened dial lost line ask_push ask_pull resume voted settled ordered stepped is_valid next_of digits
run = refl

pub follows : Follow (led_to (fresh north) moves) (next ∷ [])
unfolding reply send react dispatch release abort commit promise leave finish proceed ask gone fail closed wrong make identify begin push pull query reconnect commanded added opened dial lost line ask_push ask_pull resume voted settled ordered stepped is_valid next_of digits
follows = (record { starting = refl; named = refl; later = omega arith; adopted = refl }, refl, tt)

pub agreed : IsAgreedByAll (fresh north) moves (next ∷ []) id
unfolding reply send react dispatch release abort commit promise leave finish proceed ask gone fail closed wrong make identify begin push pull query reconnect commanded added opened dial lost line ask_push ask_pull resume voted settled ordered stepped is_valid next_of digits
agreed = record { one = refl; backed = refl; kept = refl; asked = refl }

pub backed : at_each (is_backed (codes "north") id (fresh north)) (forged never_stored moments) ≡ false
unfolding reply send react dispatch release abort commit promise leave finish proceed ask gone fail closed wrong make identify begin push pull query reconnect commanded added opened dial lost line ask_push ask_pull resume voted settled ordered stepped is_valid next_of digits
backed = refl

pub asked : at_each (is_asked_then (codes "north") id (fresh north)) (forged never_voted moments) ≡ false
unfolding reply send react dispatch release abort commit promise leave finish proceed ask gone fail closed wrong make identify begin push pull query reconnect commanded added opened dial lost line ask_push ask_pull resume voted settled ordered stepped is_valid next_of digits
asked = refl

pub kept : at_each (is_kept (codes "north") id (fresh north)) (forged never_done moments) ≡ false
unfolding reply send react dispatch release abort commit promise leave finish proceed ask gone fail closed wrong make identify begin push pull query reconnect commanded added opened dial lost line ask_push ask_pull resume voted settled ordered stepped is_valid next_of digits
kept = refl
