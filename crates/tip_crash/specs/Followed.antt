-- THE PROCESS THAT FOLLOWS (ours): a host begins over what a process has left of a realm.
use Rattle.std.specs.Prelude.{◌≡◌, ℕ, ◌+◌, Bool, true, List, [], ◌∷◌, ◌++◌, Some, slice_get}
use Rattle.tip_agreement.specs.Successors.{GoesOver}
use Rattle.tip_branch.specs.declared.branch.Badge.{Badge}
use Rattle.tip_core.specs.Hosted.{realm}
use Rattle.tip_honest.specs.Honesty.{AreHonest}
use Rattle.tip_host.specs.Books.{out_of}
use Rattle.tip_host.specs.Entries.{bare}
use Rattle.tip_host.specs.Hosts.{Host}
use Rattle.tip_journal.specs.Journal.{begun}
use Rattle.tip_kept.specs.Keeping.{rows_at}
use Rattle.tip_machine.specs.Agreement.{IsAgreed}
use Rattle.tip_machine.specs.Agreement.Traces.{traced}
use Rattle.tip_machine.specs.Heads.{starting}
use Rattle.tip_machine.specs.Honest.{is_run}
use Rattle.tip_machine.specs.Moves.{Move, World, led_to, loaded}
use Rattle.tip_machine.specs.Starting.{IsStart}
use Rattle.tip_rows.specs.Keys.{Key}
use Rattle.tip_rows.specs.Logs.{IsPart, Keeping, Log}
use Rattle.tip_rows.specs.declared.row.Row.{Row}
use Rattle.tip_run.specs.Starts.{HasStarted, IsBegun, first_of}
use Rattle.tip_stored.specs.Loading.{start_of}
use Rattle.tip_stored.specs.declared.realm_spec.RealmSpec.{RealmSpec}
use Rattle.tip_succession.specs.Processes.{MayFollow, Process}

-- A HOST BEGINS over a store that may be relied on, and that has this epoch and these rows of a realm, declared so at its place
pub record BeginsOver {S : Type 0} (kept : Keeping S) (epoch : ℕ) (rows : List (Key × Row)) (spec : RealmSpec) (new : Host S) (place : ℕ) : Type 0 where
  pub specs : List RealmSpec
  pub store : S
  pub begun : IsBegun kept specs store new
  pub true_to : kept.is_true new.stored.store
  pub log : Log
  pub stood : kept.stands store log
  pub declared : slice_get specs place ≡ Some spec
  pub part : IsPart log spec.name epoch rows

-- it begins over what a run has left
abbrev pub BeginsBehind : {S : Type 0} → Keeping S → World → List Move → RealmSpec → Host S → ℕ → Type 0
BeginsBehind kept start moves spec new place = let world = led_to start moves in BeginsOver kept world.state.head.epoch world.rows spec new place

-- THE RUN GOES ON: with a restart more it leads to the realm as the host has it, with its rows, and nobody out; the journal begins
-- there; and whatever comes behind it, no transaction is half committed, in all that either process has told
pub record HasGoneOn {S : Type 0} (start : World) (moves : List Move) (new : Host S) (place : ℕ) : Type 0 where
  pub boxes : Key → List Badge
  pub over : GoesOver start moves boxes
  pub world : World
  pub led : led_to start (moves ++ Move.Restart boxes ∷ []) ≡ world
  pub state : realm new.stored.core place ≡ Some world.state
  pub rows : rows_at new.books.rows place ≡ world.rows
  pub out : out_of new.books place ≡ world.errands
  pub journal : slice_get (bare new.books.journals) place ≡ Some (begun world.state.head.epoch (loaded boxes world.rows) ∷ [])
  pub honest : AreHonest world (begun world.state.head.epoch (loaded boxes world.rows) ∷ [])
  pub from : honest.start ≡ world
  pub agreed : (later : List Move) → is_run world later ≡ true → (id : List ℕ) → IsAgreed start (traced start ((moves ++ Move.Restart boxes ∷ []) ++ later)) id

-- the process that a host is which begins behind a run: it declares the realm so, and makes these moves
abbrev pub next_process : RealmSpec → World → (Key → List Badge) → List Move → Bool → Process
next_process spec world boxes moves in_peace = record { head = starting (start_of spec (world.state.head.epoch + 1)); boxes = boxes; moves = moves; in_peace = in_peace }

-- A RUN MAY BEGIN where the host has the realm, whose declaration may be another than the run's; and under the realm's name it is a
-- process that may follow, whatever moves it makes, and whether the one before it has ended in peace or not
abbrev pub MayBegin : {S : Type 0} → Keeping S → World → List Move → RealmSpec → Host S → ℕ → Type 0
MayBegin kept start moves spec new place =
    let world = led_to start moves in (started : HasStarted kept spec world.state.head.epoch world.rows new place) × IsStart (first_of spec world.state.head.epoch started.boxes world.rows) × (spec.name ≡ start.state.head.name → (next : List Move) (in_peace : Bool) → MayFollow world (next_process spec world started.boxes next in_peace))
