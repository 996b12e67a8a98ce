-- A script as far as it was played, and what each of its lines prints.
use Rattle.std.specs.Prelude.{ℕ, zero, suc, ◌+◌, ◌==◌, ◌&&◌, List, [], ◌∷◌, ◌++◌, length, map, Bool, false, true, not, nat_le, nat_lt, Option, Some, None, option_map, slice_get, slice_set, if◌then◌else◌}
use Rattle.std.specs.List.{list_all, position_or_len}
use Rattle.std.specs.Str.{bytes_eq}
use Rattle.tip_line.specs.Words.{is_address, is_realm}
use Rattle.tip_rows.specs.Branches.{are_branches}
use Rattle.tip_rows.specs.Keys.{Key}
use Rattle.tip_rows.specs.Labels.{is_label}
use Rattle.tip_rows.specs.Rows.{first_label}
use Rattle.tip_rows.specs.declared.row.Row.{Row}
use Rattle.tip_machine.specs.declared.head.Head.{Head}
use Rattle.tip_machine.specs.Heads.{are_allowed, starting}
use Rattle.tip_machine.specs.Moves.{World, loaded}
use Rattle.tip_machine.specs.Recovery as Recovery
use Rattle.tip_machine.specs.declared.head.Limits.{Limits}
use Rattle.tip_machine.specs.declared.head.Start.{Start}
use Rattle.tip_actor.specs.Acting.{Acting, boxes_in}
use Rattle.tip_scene.specs.Scenes.{Scene, Moved, moved, openings_text}
use Rattle.tip_scene.specs.declared.declared.Declaration.{Declaration}
use Rattle.tip_script.specs.Scripts.{Move, Declare, Label, Open, Dial, Feed, Lose, Push, Pull, Go, Drop, Resume, Refuse, Renew, Restart, move_of}

-- the realms are declared, and the first other line starts them
pub data Stage : Type 0 where
  Declaring : List Declaration → Stage
  Playing : Scene → Stage

-- what a line has printed, and the stage then; there is none where the script ends in a fault of this line
pub record Acted : Type 0 where
  pub printed : List ℕ
  pub stage : Option Stage

-- Declarations

-- the branches of each transaction of a realm that names none: b1, b2 and so on, by number
abbrev pub first_branches : ℕ → List (ℕ × List ℕ)
first_branches zero = []
first_branches (suc number) = first_branches number ++ (suc number, first_label (suc number)) ∷ []

abbrev pub declaration_of : List ℕ → List ℕ → ℕ → Limits → Declaration
declaration_of name address branches limits = record { name = name; address = address; limits = limits; branches = first_branches branches; is_labelled = false }

-- how many branches a transaction may have
abbrev pub is_count : ℕ → Bool
is_count branches = nat_le 1 branches && nat_le branches 8

abbrev pub is_other : List ℕ → Declaration → Bool
is_other name declaration = not (bytes_eq declaration.name name)

-- at most 64 realms, each with a name of its own, an address, and branches and limits that it may have
abbrev pub may_be_declared : List ℕ → List ℕ → ℕ → Limits → List Declaration → Bool
may_be_declared name address branches limits declarations = list_all (is_other name) declarations && nat_lt (length declarations) 64 && is_count branches && are_allowed limits && is_realm name && is_address address

abbrev pub declared : List ℕ → List ℕ → ℕ → Limits → List Declaration → Option (List Declaration)
declared name address branches limits declarations =
    if may_be_declared name address branches limits declarations
    then Some (declarations ++ declaration_of name address branches limits ∷ [])
    else None

-- Labels

-- branches with these labels, numbered from here on
abbrev pub numbered : ℕ → List (List ℕ) → List (ℕ × List ℕ)
numbered number [] = []
numbered number (label ∷ labels) = (number, label) ∷ numbered (number + 1) labels

-- at most eight, each a label, and no two the same
abbrev pub are_labels : List (List ℕ) → Bool
are_labels labels = nat_le (length labels) 8 && list_all is_label labels && are_branches (numbered 1 labels)

-- one for each branch, where none were named before
abbrev pub may_be_labelled : List (List ℕ) → Declaration → Bool
may_be_labelled labels declaration = not declaration.is_labelled && length labels == length declaration.branches && are_labels labels

abbrev pub with_labels : List (List ℕ) → Declaration → Option Declaration
with_labels labels declaration = if may_be_labelled labels declaration then Some (record declaration { branches = numbered 1 labels; is_labelled = true }) else None

abbrev pub is_declared : List ℕ → Declaration → Bool
is_declared name declaration = bytes_eq declaration.name name

-- the first realm of this name
abbrev pub labelled_at : List (List ℕ) → ℕ → Option Declaration → List Declaration → Option (List Declaration)
labelled_at labels place None declarations = None
labelled_at labels place (Some declaration) declarations = option_map (λ now. slice_set declarations place now) (with_labels labels declaration)

abbrev pub labelled : List ℕ → List (List ℕ) → List Declaration → Option (List Declaration)
labelled name labels declarations =
    let place = position_or_len (is_declared name) declarations in
    labelled_at labels place (slice_get declarations place) declarations

-- The start

-- what is stored of a realm before a script is played: its last epoch, which is 0 where it has not started yet, and its rows by key
pub record Before : Type 0 where
  pub epoch : ℕ
  pub rows : List (Key × Row)

-- WHAT A SCRIPT IS PLAYED ON: whether its store can be asked to refuse, and what it has of each realm that this covers
pub record Basis : Type 0 where
  pub may_refuse : Bool
  pub covers : List ℕ → Bool
  pub before : List ℕ → Before

-- it covers the realm that a line declares
abbrev pub is_covered : Basis → Option Move → Bool
is_covered basis (Some (Declare name address branches limits)) = basis.covers name
is_covered basis other = true

abbrev pub are_covered : Basis → List Declaration → Bool
are_covered basis declarations = list_all (λ declaration. basis.covers declaration.name) declarations

-- a realm starts in the epoch after its last one
abbrev pub start_of : Before → Declaration → Start
start_of before declaration = record { name = declaration.name; address = declaration.address; limits = declaration.limits; branches = declaration.branches; epoch = before.epoch + 1 }

-- from its rows, whose branches have their boxes again
abbrev pub world_of : Head → List (Key × Row) → World
world_of head rows = record { state = Recovery.restarted head (loaded (boxes_in rows) rows); rows = rows; errands = [] }

abbrev pub acting_of : Basis → Declaration → Acting
acting_of basis declaration = record {
  name = declaration.name;
  world = world_of (starting (start_of (basis.before declaration.name) declaration)) (basis.before declaration.name).rows;
  due = false;
  readings = [];
}

abbrev pub scene_of : Basis → List Declaration → Scene
scene_of basis declarations = map (acting_of basis) declarations

abbrev pub starts_text : Basis → List Declaration → List ℕ
starts_text basis declarations = openings_text (scene_of basis declarations)

-- One line

abbrev pub acted_by : List ℕ → Moved → Acted
acted_by before moved = record { printed = before ++ moved.printed; stage = option_map Playing moved.scene }

abbrev pub first_acts : Basis → List Declaration → Move → Acted
first_acts basis declarations move = acted_by (starts_text basis declarations) (moved move (scene_of basis declarations))

abbrev pub acts : Basis → Stage → Move → Acted
acts basis (Declaring declarations) (Declare name address branches limits) = record { printed = []; stage = option_map Declaring (declared name address branches limits declarations) }
acts basis (Declaring declarations) (Label realm labels) = record { printed = []; stage = option_map Declaring (labelled realm labels declarations) }
acts basis (Declaring declarations) (Open realm plans) = first_acts basis declarations (Open realm plans)
acts basis (Declaring declarations) (Dial realm address plans purpose) = first_acts basis declarations (Dial realm address plans purpose)
acts basis (Declaring declarations) (Feed realm connection octets) = first_acts basis declarations (Feed realm connection octets)
acts basis (Declaring declarations) (Lose realm connection) = first_acts basis declarations (Lose realm connection)
acts basis (Declaring declarations) (Push realm connection id) = first_acts basis declarations (Push realm connection id)
acts basis (Declaring declarations) (Pull realm connection superior) = first_acts basis declarations (Pull realm connection superior)
acts basis (Declaring declarations) (Go realm) = first_acts basis declarations (Go realm)
acts basis (Declaring declarations) (Drop realm) = first_acts basis declarations (Drop realm)
acts basis (Declaring declarations) (Resume realm id) = first_acts basis declarations (Resume realm id)
acts basis (Declaring declarations) (Refuse realm) = first_acts basis declarations (Refuse realm)
acts basis (Declaring declarations) (Renew realm) = first_acts basis declarations (Renew realm)
acts basis (Declaring declarations) Restart = first_acts basis declarations Restart
acts basis (Playing scene) move = acted_by [] (moved move scene)

-- a refusal is asked for only where it can be
abbrev pub may_say : Bool → Move → Bool
may_say may (Refuse realm) = may
may_say may other = true

abbrev pub not_understood : Acted
not_understood = record { printed = []; stage = None }

abbrev pub acts_if : Basis → Stage → Option Move → Acted
acts_if basis stage None = not_understood
acts_if basis stage (Some move) = if may_say basis.may_refuse move then acts basis stage move else not_understood

-- WHAT A LINE DOES to a stage; an empty one says nothing
abbrev pub acted : Basis → Stage → List ℕ → Acted
acted basis stage [] = record { printed = []; stage = Some stage }
acted basis stage (octet ∷ line) = acts_if basis stage (move_of (octet ∷ line))

-- at the end of a script the realms start, if they have not
abbrev pub closing_of : Basis → Stage → List ℕ
closing_of basis (Declaring declarations) = starts_text basis declarations
closing_of basis (Playing scene) = []
