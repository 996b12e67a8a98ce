-- The realms of a script at work, and what one line of the script makes of them.
use Rattle.std.specs.Prelude.{ℕ, List, [], ◌++◌, map, Bool, true, ◌&&◌, Option, Some, None, slice_get, slice_set, if◌then◌else◌}
use Rattle.std.specs.List.{flat_map, list_any, position_or_len}
use Rattle.std.specs.Str.{bytes_eq}
use Rattle.tip_line.specs.Words.{is_address, is_word}
use Rattle.tip_machine.specs.declared.connection.Purpose.{Purpose}
use Rattle.tip_machine.specs.declared.connection.Purpose.TheVariants as purpose
use Rattle.tip_machine.specs.declared.event.Event.TheVariants as event
use Rattle.tip_actor.specs.Acting.{Acting, Done, boxes_of, drops_from, feeds, goes_for, happens, is_at_end, loses, on_connection, opening_text, pulls, pushes, refuses, renews, restarts, settles}
use Rattle.tip_script.specs.Scripts.{Move, Declare, Label, Open, Dial, Feed, Lose, Push, Pull, Go, Drop, Resume, Refuse, Renew, Restart, realm_of}
use Rattle.tip_transcript.specs.Printing.{idle_text, nowhere_text}

-- all realms, in the order of their declarations
abbrev pub Scene : Type 0
Scene = List Acting

-- what a line has printed, and the scene then; there is none where the line may not stand here
pub record Moved : Type 0 where
  pub printed : List ℕ
  pub scene : Option Scene

abbrev pub fault : Moved
fault = record { printed = []; scene = None }

-- what a purpose names is an identifier
abbrev pub is_purpose : Purpose → Bool
is_purpose purpose.Plain = true
is_purpose (purpose.Query id) = is_word id
is_purpose (purpose.Reconnect id place) = is_word id

-- what a line does to the realm that it is of; none where it may not stand here
abbrev pub does : Move → Acting → Option Done
does (Declare name address branches limits) acting = None
does (Label realm labels) acting = None
does (Open realm plans) acting = Some (happens (event.Open (boxes_of plans)) acting)
does (Dial realm address plans purpose) acting = if is_address address && is_purpose purpose then Some (happens (event.Dial address purpose (boxes_of plans)) acting) else None
does (Feed realm connection octets) acting = on_connection (feeds octets) connection acting
does (Lose realm connection) acting = on_connection loses connection acting
does (Push realm connection id) acting = if is_word id then on_connection (pushes id) connection acting else None
does (Pull realm connection superior) acting = if is_word superior then on_connection (pulls superior) connection acting else None
does (Go realm) acting = goes_for acting.world.errands acting
does (Drop realm) acting = Some (drops_from acting.world.errands acting)
does (Resume realm id) acting = if is_word id then Some (happens (event.Resume id) acting) else None
does (Refuse realm) acting = Some (refuses acting)
does (Renew realm) acting = Some (renews acting)
does Restart acting = None

-- what it prints of a realm that is not declared
abbrev pub elsewhere : Move → Option (List ℕ)
elsewhere (Declare name address branches limits) = None
elsewhere (Label realm labels) = None
elsewhere (Open realm plans) = Some (nowhere_text realm)
elsewhere (Dial realm address plans purpose) = Some (nowhere_text realm)
elsewhere (Feed realm connection octets) = None
elsewhere (Lose realm connection) = None
elsewhere (Push realm connection id) = None
elsewhere (Pull realm connection superior) = None
elsewhere (Go realm) = Some (idle_text realm)
elsewhere (Drop realm) = Some (idle_text realm)
elsewhere (Resume realm id) = Some (nowhere_text realm)
elsewhere (Refuse realm) = Some []
elsewhere (Renew realm) = Some (nowhere_text realm)
elsewhere Restart = None

abbrev pub is_named : List ℕ → Acting → Bool
is_named name acting = bytes_eq acting.name name

-- where a realm stands; behind all others where it is not declared
abbrev pub place_of : List ℕ → Scene → ℕ
place_of name scene = position_or_len (is_named name) scene

-- a realm has done something, and then all its lines that may be taken are taken
abbrev pub with_done : ℕ → Option Done → Scene → Moved
with_done place None scene = fault
with_done place (Some done) scene = record { printed = (settles done).printed; scene = Some (slice_set scene place (settles done).acting) }

abbrev pub with_text : Option (List ℕ) → Scene → Moved
with_text None scene = fault
with_text (Some text) scene = record { printed = text; scene = Some scene }

abbrev pub moved_at : Move → ℕ → Option Acting → Scene → Moved
moved_at move place None scene = with_text (elsewhere move) scene
moved_at move place (Some acting) scene = with_done place (does move acting) scene

-- Restarts

-- what realms say that have started, one after another
abbrev pub openings_text : Scene → List ℕ
openings_text scene = flat_map opening_text scene

-- the process starts again: first all that is let go, and then each realm with its epoch; not where an epoch is the last one
abbrev pub restarted : Scene → Moved
restarted scene =
    if list_any is_at_end scene then fault
    else record {
      printed = flat_map (λ acting. (restarts acting).printed) scene ++ openings_text (map (λ acting. (restarts acting).acting) scene);
      scene = Some (map (λ acting. (restarts acting).acting) scene);
    }

-- a line is of one realm, or of all
abbrev pub moved_in : Move → Option (List ℕ) → Scene → Moved
moved_in move None scene = restarted scene
moved_in move (Some realm) scene = moved_at move (place_of realm scene) (slice_get scene (place_of realm scene)) scene

-- WHAT A LINE DOES once the realms have started
abbrev pub moved : Move → Scene → Moved
moved move scene = moved_in move (realm_of move) scene
