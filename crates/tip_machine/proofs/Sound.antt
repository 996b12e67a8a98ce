-- The invariants in each state of the worked examples, by computing.
use Rattle.std.proofs.Common.{◌≡◌, Bool, true, List, [], ◌∷◌, refl}
use Rattle.std.specs.Prelude.{◌&&◌}
use Rattle.std.specs.List.{list_all}
use Rattle.std.specs.Fmt.{digits}
use Rattle.std.proofs.lemmas.Bool.{and_parts}
use Rattle.tip_conn.specs.Table.{is_valid, next_of}
use Rattle.tip_machine.specs.Changes.{reply, send}
use Rattle.tip_machine.specs.Reactions.{react}
use Rattle.tip_machine.specs.Proceeding.{dispatch, release, abort, commit, promise, leave, finish, proceed, ask}
use Rattle.tip_machine.specs.Failing.{gone, fail, closed, wrong}
use Rattle.tip_machine.specs.Commands.{make, identify, begin, push, pull, query, reconnect, commanded}
use Rattle.tip_machine.specs.Requests.{added, opened, dial, lost, line, ask_push, ask_pull, resume, voted, settled}
use Rattle.tip_machine.specs.Order.{ordered}
use Rattle.tip_machine.specs.Given.{are_numbered}
use Rattle.tip_machine.specs.Invariants.{IsSound, are_keyed, are_known_once}
use Rattle.tip_machine.specs.Invariants.Bounds.{are_bounded}
use Rattle.tip_machine.specs.Invariants.Links.{have_roles, is_connected}
use Rattle.tip_machine.specs.Invariants.Parties.{are_out}
use Rattle.tip_machine.specs.Invariants.Phases.{is_transaction}
use Rattle.tip_machine.specs.Invariants.Stored.{are_stored}
use Rattle.tip_machine.specs.Moves.{World, fresh, moved, stepped}
use Rattle.tip_machine.specs.Examples.Scripts.{Each, Example, Line, Reaches, StaysSound, move_of}
use Rattle.tip_machine.specs.Examples.{worked}
use Rattle.tip_machine.proofs.Each.{each}

-- the invariants as one test
is_sound : World → Bool
is_sound world =
    are_numbered world.state && (are_bounded world.state && (are_keyed world.state && (have_roles world.state && (list_all is_connected world.state.connections && (list_all (is_transaction world.state) world.state.transactions
    && (are_out world.state world.errands && (are_known_once world.state && are_stored world.state world.rows)))))))

sound_world : (world : World) → is_sound world ≡ true → IsSound world
unfolding is_sound
sound_world world is =
    let a = and_parts _ _ is in
    let b = and_parts _ _ a.1 in
    let c = and_parts _ _ b.1 in
    let d = and_parts _ _ c.1 in
    let e = and_parts _ _ d.1 in
    let f = and_parts _ _ e.1 in
    let g = and_parts _ _ f.1 in
    let h = and_parts _ _ g.1 in
    record { numbered = a.0; bounded = b.0; keyed = c.0; roles = d.0; connections = e.0; transactions = f.0; out = g.0; known_once = h.0; stored = h.1 }

stays_sound : World → List Line → Bool
stays_sound world [] = is_sound world
stays_sound world (line ∷ lines) = is_sound world && stays_sound (moved (move_of line world) world).world lines

reaches : (world : World) (lines : List Line) → stays_sound world lines ≡ true → Reaches world lines
unfolding stays_sound
reaches world [] is = sound_world world is
reaches world (line ∷ lines) is = let both = and_parts _ _ is in (sound_world world both.0, reaches (moved (move_of line world) world).world lines both.1)

stays : Example → Bool
stays example = stays_sound (fresh example.head) example.lines

stays_so : (example : Example) → stays example ≡ true → StaysSound example
unfolding stays
stays_so example is = reaches (fresh example.head) example.lines is

pub sound : Each StaysSound worked
unfolding stays is_sound stays_sound reply send react dispatch release abort commit promise leave finish proceed ask gone fail closed wrong make identify begin push pull query reconnect commanded added opened dial lost line ask_push ask_pull resume voted settled ordered stepped is_valid next_of digits
sound = each stays StaysSound stays_so worked refl
