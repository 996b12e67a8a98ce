-- JOURNALS OF A REALM'S RUN (ours): which entries an honest run leaves, start by start; and that journals are what one leaves that
-- leads to the realm as it stands, to its stored rows, and to the parties that are out.
use Rattle.std.specs.Prelude.{◌≡◌, ℕ, ◌+◌, ◌==◌, Bool, true, List, [], ◌∷◌, ◌++◌, Option, Some, None, IsSomeAnd, length, map, if◌then◌else◌}
use Rattle.std.specs.List.{list_all}
use Rattle.tip_branch.specs.Notes.{PartyNotes}
use Rattle.tip_branch.specs.declared.branch.Badge.{Badge}
use Rattle.tip_journal.specs.Journal.{Written, begun, with_entry}
use Rattle.tip_journal.specs.Journals.{last_of, with_last}
use Rattle.tip_rows.specs.Keys.{Key, is_same}
use Rattle.tip_rows.specs.Rows.{branches_of}
use Rattle.tip_rows.specs.declared.row.Row.{Row}
use Rattle.tip_machine.specs.Honest.{is_run}
use Rattle.tip_machine.specs.Moves.{Move, World, led_to, loaded, moved, picked}
use Rattle.tip_machine.specs.Recovery.{Loaded, restarted}
use Rattle.tip_machine.specs.Returns.{Back, event_of}
use Rattle.tip_machine.specs.Starting.{are_adopted}
use Rattle.tip_machine.specs.States.{State}
use Rattle.tip_machine.specs.Steps.{is_open, step}
use Rattle.tip_machine.specs.declared.event.Outcome.{Outcome}
use Rattle.tip_machine.specs.declared.event.Outcome.TheVariants.{Stored}
use Rattle.tip_machine.specs.declared.head.Head.{Head}
use Rattle.tip_honest.specs.declared.entry.Entry.{Entry}

-- a realm's journal of one start: its epoch, the rows and boxes with which it began, and its entries
abbrev pub Journal : Type 0
Journal = Written (List Loaded) Entry

-- What a move leaves

abbrev pub came_back : List PartyNotes → Back → Outcome → Option Entry
came_back [] back outcome = None
came_back (party ∷ errands) back outcome = Some (record { event = event_of party back; outcome = outcome })

-- the event of a move, if it is one
abbrev pub entry_of : Move → World → Option Entry
entry_of (Move.Step event outcome) world = Some (record { event = event; outcome = outcome })
entry_of (Move.Go place back outcome) world = came_back (picked place world.errands) back outcome
entry_of (Move.Lose place) world = None
entry_of (Move.Restart boxes) world = None
entry_of (Move.Renew boxes outcome) world = None

abbrev pub entered_in : Option Entry → List Journal → List Journal
entered_in None journals = journals
entered_in (Some entry) journals = with_last (with_entry entry) journals

-- a start begins a journal, with the rows that the one before has left
abbrev pub next_of : (Key → List Badge) → World → Journal
next_of boxes world = begun (world.state.head.epoch + 1) (loaded boxes world.rows)

-- THE JOURNALS AFTER A MOVE: an event is an entry more, where the journal is not full, and a start a journal more
abbrev pub noted : Move → World → List Journal → List Journal
noted (Move.Restart boxes) world journals = journals ++ next_of boxes world ∷ []
noted (Move.Renew boxes Stored) world journals = journals ++ next_of boxes world ∷ []
noted move world journals = if is_open world.state then entered_in (entry_of move world) journals else journals

-- after a list of moves
abbrev pub journals_after : World → List Move → List Journal → List Journal
journals_after world [] journals = journals
journals_after world (move ∷ moves) journals = journals_after (moved move world).world moves (noted move world journals)

-- Rows with their boxes

-- the stored rows themselves
abbrev pub rows_of : List Loaded → List (Key × Row)
rows_of start = map (λ l. (l.key, l.row)) start

-- a box for each branch of each row
abbrev pub are_boxed : List Loaded → Bool
are_boxed start = list_all (λ l. length l.boxes == length (branches_of l.row)) start

-- the boxes of the row of a key
abbrev pub boxes_of : List Loaded → Key → List Badge
boxes_of [] key = []
boxes_of (l ∷ ls) key = if is_same l.key key then l.boxes else boxes_of ls key

-- Honest journals

-- where journals begin: the realm as recovery makes it of rows and boxes, with nobody out
pub record IsFirst (world : World) : Type 0 where
  pub boxes : Key → List Badge
  pub adopted : are_adopted boxes world.rows ≡ true
  pub state : world.state ≡ restarted world.state.head (loaded boxes world.rows)
  pub given : world.state.head.given ≡ 0
  pub entries : world.state.head.entries ≡ 0
  pub errands : world.errands ≡ []

-- A REALM'S JOURNALS ARE HONEST: an honest run of its own machine leaves them, each of which begins with the rows that the one
-- before has left; and that run leads to the realm as it is, with its rows and the parties that are out
pub record AreHonest (world : World) (journals : List Journal) : Type 0 where
  pub start : World
  pub first : IsFirst start
  pub moves : List Move
  pub run : is_run start moves ≡ true
  pub led : led_to start moves ≡ world
  pub kept : journals_after start moves (begun start.state.head.epoch (loaded first.boxes start.rows) ∷ []) ≡ journals

-- What follows

-- the state behind entries
abbrev pub replayed : State → List Entry → State
replayed state [] = state
replayed state (entry ∷ entries) = replayed (step state entry.event entry.outcome).state entries

-- a realm as it begins a journal
abbrev pub began : Head → Journal → State
began head journal = restarted (record head { epoch = journal.epoch; given = 0; entries = 0 }) journal.start

-- the realm stands where the journal leads, from where it began
pub record StandsFor (state : State) (journal : Journal) : Type 0 where
  pub epoch : journal.epoch ≡ state.head.epoch
  pub count : length journal.entries ≡ state.head.entries
  pub leads : state ≡ replayed (began state.head journal) journal.entries

-- the last journal of a realm leads to it
abbrev pub StandsForLast : State → List Journal → Type 0
StandsForLast state journals = IsSomeAnd (last_of journals) (StandsFor state)

-- AN ERRAND THAT IS OUT may be over at any time, as its branches can answer: where that leads journals are honest too
pub record MayBeOver (world : World) (journals : List Journal) (place : ℕ) (back : Back) : Type 0 where
  pub outcome : Outcome
  pub honest : AreHonest (moved (Move.Go place back outcome) world).world (noted (Move.Go place back outcome) world journals)
