-- WHAT BECOMES OF EACH REALM in a run (ours): its own honest run goes on, and the pass has noted its entries.
use Rattle.std.specs.Prelude.{◌≡◌, ◌==◌, ℕ, Bool, true, false, List, [], ◌++◌, map, filter, Option, Some}
use Rattle.std.specs.List.{enumerate_from, flat_map, list_any}
use Rattle.std.specs.Option.{option_map_or}
use Rattle.tip_agreement.specs.Telling.{is_told_of}
use Rattle.tip_core.specs.Hosted.{realm}
use Rattle.tip_honest.specs.Honesty.{AreHonest, Journal}
use Rattle.tip_honest.specs.Hosts as Honest
use Rattle.tip_host.specs.Entries.{Noted}
use Rattle.tip_machine.specs.Moves as Machine
use Rattle.tip_machine.specs.Starting.{IsStart}
use Rattle.tip_machine.specs.States.{State}
use Rattle.tip_rows.specs.Logs.{Keeping}
use Rattle.tip_run.specs.Moves.{AreMade, Move}
use Rattle.tip_run.specs.Refined.{AreTo}
use Rattle.tip_run.specs.Running.{Running, journals_of, world_at}
use Rattle.tip_run.specs.Starts.{StoresAt}
use Rattle.tip_run.specs.declared.moves.Move.TheVariants as move
use Rattle.tip_run.specs.declared.shown.Shown.{Shown}

-- The store

-- the store has the rows of the realm at a place, if it is there
abbrev pub Stores : {S : Type 0} → Keeping S → Running S → ℕ → Type 0
Stores kept running place = (state : State) → realm running.host.stored.core place ≡ Some state → StoresAt kept running.host place state

abbrev pub is_restart : Move → Bool
is_restart (move.Restart boxes) = true
is_restart other = false

-- THE STORE MAY BE RELIED ON, where a restart is among the moves: what is read then is what it has answered
abbrev pub IsRelied : {S : Type 0} → Keeping S → Running S → List Move → Running S → ℕ → Type 0
IsRelied kept old moves new place = list_any is_restart moves ≡ true → kept.is_true new.host.stored.store × Stores kept old place

-- Honest runs

-- THE HONEST RUN OF THE REALM AT A PLACE GOES ON, by moves of which this holds, to where the realm is now, and leaves all its journals
pub record GoesOn {S : Type 0} (new : Running S) (place : ℕ) {world : _} {journals : List Journal} (before : AreHonest world journals) (by : List Machine.Move → Type 0) : Type 0 where
  pub state : State
  pub here : realm new.host.stored.core place ≡ Some state
  pub all : List Journal
  pub journals_are : journals_of new place ≡ Some all
  pub goes : Honest.GoesBy before (world_at new place state) all by

-- ISOLATION AND AGREEMENT: so it is with each realm, by its own moves alone, whatever moves of others are between them
abbrev pub AreHonestRuns : {S : Type 0} → Keeping S → Running S → List Move → List Shown → Running S → Type 0
AreHonestRuns kept old moves shown new =
    (place : ℕ) (state : State) (journals : List Journal) → realm old.host.stored.core place ≡ Some state → journals_of old place ≡ Some journals → (before : AreHonest (world_at old place state) journals) → IsRelied kept old moves new place → GoesOn new place before (AreTo place moves shown)

-- OF AN IDENTIFIER ONE REALM ALONE TELLS its branches: two whose runs both do are one
abbrev pub AreApart : {S : Type 0} → Running S → Type 0
AreApart running =
    (id : List ℕ) (one other : ℕ) (this that : State) (journals others : List Journal) (is : AreHonest (world_at running one this) journals) (are : AreHonest (world_at running other that) others) →
    realm running.host.stored.core one ≡ Some this → realm running.host.stored.core other ≡ Some that → IsStart is.start → IsStart are.start →
    is_told_of id is.start is.moves ≡ true → is_told_of id are.start are.moves ≡ true → one ≡ other

-- Entries

-- what a pass notes of a journal's entries, each with its number
abbrev pub notes_in : ℕ → Journal → List Noted
notes_in place journal = map (λ numbered. record { realm = place; epoch = journal.epoch; number = numbered.0; entry = numbered.1 }) (enumerate_from 1 journal.entries)

-- and of those of all journals of the realm at a place
abbrev pub notes_of : ℕ → Option (List Journal) → List Noted
notes_of place journals = option_map_or (flat_map (notes_in place)) journals []

-- THE PASS HAS GAINED the entries that the journals have more, in order, each realm's own, and no others
pub record HasNoted {S : Type 0} (old new : Running S) : Type 0 where
  pub gained : List Noted
  pub pass : new.noted ≡ old.noted ++ gained
  pub own : (place : ℕ) → notes_of place (journals_of new place) ≡ notes_of place (journals_of old place) ++ filter (λ noted. noted.realm == place) gained

-- A RUN: its moves were made, in order, and of what has become of each realm this holds
pub record HasRun {S : Type 0} (kept : Keeping S) (old : Running S) (moves : List Move) (shown : List Shown) (new : Running S) : Type 0 where
  pub made : AreMade kept old moves shown new
  pub honest : AreHonestRuns kept old moves shown new
  pub noted : HasNoted old new
  pub stored : (place : ℕ) → kept.is_true new.host.stored.store → Stores kept old place → Stores kept new place
  pub apart : AreApart new
