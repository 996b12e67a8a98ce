-- Scripts of one realm in short, by which the definitions are tried out (`Commits`, `Failures`). Branches do as their plans
-- promise.
use Rattle.std.specs.Prelude.{◌≡◌, ℕ, true, List, [], ◌∷◌, ◌++◌, length, map, filter, take, codes, Option, Some, None, unwrap_or, if◌then◌else◌}
use Rattle.tip_branch.specs.Members.{is_active, is_no, is_ready, promised_answer}
use Rattle.tip_branch.specs.Notes.{PartyNotes}
use Rattle.tip_branch.specs.Plans.{planned_vote}
use Rattle.tip_branch.specs.declared.branch.Badge.{Badge}
use Rattle.tip_branch.specs.declared.branch.Plan.TheVariants as plan
use Rattle.tip_branch.specs.declared.branch.Settled.{Settled}
use Rattle.tip_branch.specs.declared.branch.Settled.TheVariants.{Done}
use Rattle.tip_branch.specs.declared.branch.Vote.{Vote}
use Rattle.tip_branch.specs.declared.branch.Vote.TheVariants as vote
use Rattle.tip_branch.specs.declared.member.Errand.{Errand}
use Rattle.tip_branch.specs.declared.member.Errand.TheVariants as errand
use Rattle.tip_branch.specs.declared.member.Member.{Member}
use Rattle.tip_line.specs.declared.command.Command.{Command}
use Rattle.tip_line.specs.declared.command.Command.TheVariants as command
use Rattle.tip_line.specs.declared.response.Response.{Response}
use Rattle.tip_rows.specs.Keys.{Key, is_same}
use Rattle.tip_rows.specs.Rows.{branches_of}
use Rattle.tip_rows.specs.declared.row.Row.{Row}
use Rattle.tip_machine.specs.Types.{Event}
use Rattle.tip_machine.specs.Agreement.{IsAgreed}
use Rattle.tip_machine.specs.Answers.{identifier}
use Rattle.tip_machine.specs.Honest.{is_run}
use Rattle.tip_machine.specs.Invariants.{IsSound}
use Rattle.tip_machine.specs.Moves.{Move, World, fresh, moved, picked}
use Rattle.tip_machine.specs.Outputs.{Output}
use Rattle.tip_machine.specs.Returns.{Back, event_of}
use Rattle.tip_machine.specs.Starting.{IsStart}
use Rattle.tip_machine.specs.Steps.{wants}
use Rattle.tip_machine.specs.Agreement.Traces.{Moment, traced}
use Rattle.tip_machine.specs.declared.answer.Asked.{Asked}
use Rattle.tip_machine.specs.declared.answer.Item.TheVariants.{Say, Ask, Close}
use Rattle.tip_machine.specs.declared.answer.Said.{Said}
use Rattle.tip_machine.specs.declared.answer.Said.TheVariants as said
use Rattle.tip_machine.specs.declared.connection.Purpose.{Purpose}
use Rattle.tip_machine.specs.declared.event.Change.{Change}
use Rattle.tip_machine.specs.declared.event.Change.TheVariants.{Put, Remove}
use Rattle.tip_machine.specs.declared.event.Event.TheVariants as event
use Rattle.tip_machine.specs.declared.event.Heard.TheVariants as heard
use Rattle.tip_machine.specs.declared.event.Outcome.{Outcome}
use Rattle.tip_machine.specs.declared.event.Outcome.TheVariants.{NoChange, Stored, Refused}
use Rattle.tip_machine.specs.declared.event.Seat.{Seat}
use Rattle.tip_machine.specs.declared.head.Head.{Head}
use Rattle.tip_machine.specs.declared.head.Limits.{Limits}

-- Transactions of the realm north

abbrev pub key : ℕ → ℕ → ℕ → Key
key epoch connection number = record { epoch = epoch; connection = connection; number = number }

abbrev pub name : Key → List ℕ
name key = identifier (codes "north") key

-- its first transaction
abbrev pub t : Key
t = key 1 1 1

abbrev pub id : List ℕ
id = name t

-- what the branches of a party answer that do as their plans promise

abbrev pub vote_of : Member → Vote
vote_of member = unwrap_or (planned_vote member.standing.badge.plan) vote.Yes

abbrev pub votes_of : List Member → List Vote
votes_of [] = []
votes_of (member ∷ members) =
    if is_active member then vote_of member ∷ (if is_no (vote_of member) then [] else votes_of members)
    else votes_of members

abbrev pub settlements_of : List Member → List Settled
settlements_of members = map (λ member. unwrap_or (promised_answer member) Done) (filter is_ready members)

abbrev pub answered_by : Errand → List Member → Back
answered_by errand.Idle members = Back.Undone
answered_by errand.Vote members = Back.Votes (votes_of members)
answered_by errand.Commit members = Back.Settlements (settlements_of members)
answered_by errand.Abort members = Back.Aborted

pub data Line : Type 0 where
  Happens : Event → Line
  -- the store refuses the change that the event wants
  HappensRefused : Event → Line
  -- the oldest errand is done, or the one at a place
  Goes : Line
  GoesAt : ℕ → Line
  GoesRefused : Line
  Loses : Line
  Restarts : Line
  Renews : Line

-- boxes, by what they promise and their marks
abbrev pub yes : ℕ → Badge
yes mark = record { plan = plan.Yes; mark = mark }

abbrev pub no : ℕ → Badge
no mark = record { plan = plan.No; mark = mark }

abbrev pub read_only : ℕ → Badge
read_only mark = record { plan = plan.ReadOnly; mark = mark }

abbrev pub late_box : ℕ → Badge
late_box mark = record { plan = plan.Late; mark = mark }

-- one box of kind yes is adopted for each branch of a row
abbrev pub adopted : List (Key × Row) → Key → List Badge
adopted [] key = []
adopted (row ∷ rows) key = if is_same key row.0 then take (length (branches_of row.1)) (yes 91 ∷ yes 92 ∷ yes 93 ∷ []) else adopted rows key

-- the outcome of a change, where one is wanted
abbrev pub of_change : Outcome → Option Change → Outcome
of_change outcome None = NoChange
of_change outcome (Some change) = outcome

abbrev pub happens : Outcome → Event → World → Move
happens outcome event world = Move.Step event (of_change outcome (wants world.state event))

abbrev pub goes : Outcome → ℕ → List PartyNotes → World → Move
goes outcome place [] world = Move.Lose place
goes outcome place (party ∷ errands) world =
    let back = answered_by party.errand party.members in
    Move.Go place back (of_change outcome (wants world.state (event_of party back)))

abbrev pub move_of : Line → World → Move
move_of (Happens event) world = happens Stored event world
move_of (HappensRefused event) world = happens Refused event world
move_of Goes world = goes Stored 0 world.errands world
move_of (GoesAt place) world = goes Stored place (picked place world.errands) world
move_of GoesRefused world = goes Refused 0 world.errands world
move_of Loses world = Move.Lose 0
move_of Restarts world = Move.Restart (adopted world.rows)
move_of Renews world = Move.Renew (adopted world.rows) Stored

-- ALL THAT A SCRIPT SHOWS, by the whole machine
abbrev pub played : World → List Line → List Output
played world [] = []
played world (line ∷ lines) =
    let went = moved (move_of line world) world in
    went.shown ++ played went.world lines

-- an example: the realm as it starts, what happens, and what it shows
pub record Example : Type 0 where
  pub head : Head
  pub lines : List Line
  pub shown : List Output

-- what holds of each example
abbrev pub Each : (Example → Type 0) → List Example → Type 0
Each P [] = Unit {0}
Each P (example ∷ examples) = P example × Each P examples

-- what the definitions make it show
abbrev pub play : Example → List Output
play example = played (fresh example.head) example.lines

-- the moves of a script
abbrev pub moves_of : World → List Line → List Move
moves_of world [] = []
moves_of world (line ∷ lines) = move_of line world ∷ moves_of (moved (move_of line world) world).world lines

abbrev pub trace_of : Example → List Moment
trace_of example = traced (fresh example.head) (moves_of (fresh example.head) example.lines)

-- its first transaction is not half committed
abbrev pub IsNeverHalf : Example → Type 0
IsNeverHalf example = IsAgreed (fresh example.head) (trace_of example) id

-- it is an honest run from a start
abbrev pub IsHonestRun : Example → Type 0
IsHonestRun example = IsStart (fresh example.head) × (is_run (fresh example.head) (moves_of (fresh example.head) example.lines) ≡ true)

-- the invariants hold at first, and in each state that is reached
abbrev pub Reaches : World → List Line → Type 0
Reaches world [] = IsSound world
Reaches world (line ∷ lines) = IsSound world × Reaches (moved (move_of line world) world).world lines

abbrev pub StaysSound : Example → Type 0
StaysSound example = Reaches (fresh example.head) example.lines

-- Words for lines

abbrev pub at : ℕ → ℕ → Seat
at epoch number = record { epoch = epoch; number = number }

abbrev pub opens : List Badge → Line
opens boxes = Line.Happens (event.Open boxes)

abbrev pub dials : List ℕ → Purpose → List Badge → Line
dials address purpose boxes = Line.Happens (event.Dial address purpose boxes)

abbrev pub hears : Seat → Command → Line
hears seat command = Line.Happens (event.Line seat (heard.Command command))

abbrev pub hears_back : Seat → Response → Line
hears_back seat response = Line.Happens (event.Line seat (heard.Response response))

abbrev pub hears_nothing : Seat → Line
hears_nothing seat = Line.Happens (event.Line seat heard.Malformed)

abbrev pub loses : Seat → Line
loses seat = Line.Happens (event.Lost seat)

abbrev pub pushes : Seat → List ℕ → Line
pushes seat id = Line.Happens (event.AskPush seat id)

abbrev pub pulls : Seat → List ℕ → Line
pulls seat superior = Line.Happens (event.AskPull seat superior)

abbrev pub resumes : List ℕ → Line
resumes id = Line.Happens (event.Resume id)

-- a manager opens a connection and identifies itself
abbrev pub connects : Seat → Option (List ℕ) → List Badge → List Line
connects seat peer boxes = opens boxes ∷ hears seat (command.Identify 3 3 peer (codes "-")) ∷ []

-- Words for what is shown

abbrev pub say : ℕ → Said → Output
say number said = Output.Sent (record { connection = number; item = Say said })

abbrev pub ask : ℕ → Asked → Output
ask number asked = Output.Sent (record { connection = number; item = Ask asked })

abbrev pub close : ℕ → Output
close number = Output.Sent (record { connection = number; item = Close })

abbrev pub connected : Seat → List Output
connected seat = Output.Opened seat ∷ say seat.number said.Identified ∷ []

abbrev pub put : Key → Row → Output
put key row = Output.Changed (Put key row) Stored

abbrev pub remove : Key → Output
remove key = Output.Changed (Remove key) Stored

abbrev pub not_removed : Key → Output
not_removed key = Output.Changed (Remove key) Refused

-- The realm north

abbrev pub north_with : Limits → List (ℕ × List ℕ) → Head
north_with limits branches = record { name = codes "north"; address = codes "n.x"; limits = limits; branches = branches; epoch = 1; given = 0; entries = 0 }

abbrev pub north : Head
north = north_with (record { connections = 8; transactions = 8; boxes = 8; entries = 100 }) ((1, codes "b1") ∷ [])
