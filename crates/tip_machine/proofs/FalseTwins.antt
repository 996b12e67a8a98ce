-- Each false twin is refused, by computing.
use Rattle.std.proofs.Common.{◌≡◌, false, codes, refl}
use Rattle.std.specs.Fmt.{digits}
use Rattle.tip_conn.specs.Table.{is_valid, next_of}
use Rattle.tip_machine.specs.Agreement.{is_asked, is_backed, is_kept, is_one}
use Rattle.tip_machine.specs.Changes.{reply, send}
use Rattle.tip_machine.specs.Reactions.{react}
use Rattle.tip_machine.specs.Proceeding.{dispatch, release, abort, commit, promise, leave, finish, proceed, ask}
use Rattle.tip_machine.specs.Failing.{gone, fail, closed, wrong}
use Rattle.tip_machine.specs.Commands.{make, identify, begin, push, pull, query, reconnect, commanded}
use Rattle.tip_machine.specs.Requests.{added, opened, dial, lost, line, ask_push, ask_pull, resume, voted, settled}
use Rattle.tip_machine.specs.Order.{ordered}
use Rattle.tip_machine.specs.Moves.{fresh, stepped}
use Rattle.tip_machine.specs.Examples.Commits.{late, one_part_says_no, two_parts}
use Rattle.tip_machine.specs.Examples.Failures.{part_lost}
use Rattle.tip_machine.specs.Examples.Scripts.{id, trace_of}
use Rattle.tip_machine.specs.Agreement.Traces.{at_each}
use Rattle.tip_machine.specs.Examples.Twins.{denied, forged, never_done, never_stored, never_voted, told_both, told_to_commit, unheard_at}

pub one : is_one (codes "north") id (forged told_both (trace_of late)) ≡ false
unfolding reply send react dispatch release abort commit promise leave finish proceed ask gone fail closed wrong make identify begin push pull query reconnect commanded added opened dial lost line ask_push ask_pull resume voted settled ordered stepped is_valid next_of digits
one = refl

pub backed : at_each (is_backed (codes "north") id (fresh late.head)) (forged never_stored (trace_of late)) ≡ false
unfolding reply send react dispatch release abort commit promise leave finish proceed ask gone fail closed wrong make identify begin push pull query reconnect commanded added opened dial lost line ask_push ask_pull resume voted settled ordered stepped is_valid next_of digits
backed = refl

pub kept_to_branches : at_each (is_kept (codes "north") id (fresh late.head)) (forged never_done (trace_of late)) ≡ false
unfolding reply send react dispatch release abort commit promise leave finish proceed ask gone fail closed wrong make identify begin push pull query reconnect commanded added opened dial lost line ask_push ask_pull resume voted settled ordered stepped is_valid next_of digits
kept_to_branches = refl

pub kept_to_subordinates : at_each (is_kept (codes "north") id (fresh two_parts.head)) (unheard_at 13 (trace_of two_parts)) ≡ false
unfolding reply send react dispatch release abort commit promise leave finish proceed ask gone fail closed wrong make identify begin push pull query reconnect commanded added opened dial lost line ask_push ask_pull resume voted settled ordered stepped is_valid next_of digits
kept_to_subordinates = refl

pub kept_to_who_asks : at_each (is_kept (codes "north") id (fresh two_parts.head)) (forged denied (trace_of two_parts)) ≡ false
unfolding reply send react dispatch release abort commit promise leave finish proceed ask gone fail closed wrong make identify begin push pull query reconnect commanded added opened dial lost line ask_push ask_pull resume voted settled ordered stepped is_valid next_of digits
kept_to_who_asks = refl

pub asked_of_branches : at_each (is_asked (codes "north") id (fresh late.head)) (forged never_voted (trace_of late)) ≡ false
unfolding reply send react dispatch release abort commit promise leave finish proceed ask gone fail closed wrong make identify begin push pull query reconnect commanded added opened dial lost line ask_push ask_pull resume voted settled ordered stepped is_valid next_of digits
asked_of_branches = refl

pub asked_of_parts : at_each (is_asked (codes "north") id (fresh two_parts.head)) (unheard_at 11 (trace_of two_parts)) ≡ false
unfolding reply send react dispatch release abort commit promise leave finish proceed ask gone fail closed wrong make identify begin push pull query reconnect commanded added opened dial lost line ask_push ask_pull resume voted settled ordered stepped is_valid next_of digits
asked_of_parts = refl

pub asked_without_a_no : at_each (is_asked (codes "north") id (fresh one_part_says_no.head)) (forged told_to_commit (trace_of one_part_says_no)) ≡ false
unfolding reply send react dispatch release abort commit promise leave finish proceed ask gone fail closed wrong make identify begin push pull query reconnect commanded added opened dial lost line ask_push ask_pull resume voted settled ordered stepped is_valid next_of digits
asked_without_a_no = refl

pub asked_without_a_loss : at_each (is_asked (codes "north") id (fresh part_lost.head)) (forged told_to_commit (trace_of part_lost)) ≡ false
unfolding reply send react dispatch release abort commit promise leave finish proceed ask gone fail closed wrong make identify begin push pull query reconnect commanded added opened dial lost line ask_push ask_pull resume voted settled ordered stepped is_valid next_of digits
asked_without_a_loss = refl
