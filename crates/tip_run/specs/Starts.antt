-- WHERE A HOST BEGINS (ours): its realms are loaded from a store, have boxes for each row, and start; and where they start again.
use Rattle.std.specs.Prelude.{◌≡◌, ◌<◌, ◌+◌, ℕ, true, List, [], ◌∷◌, Some, Ok, is_some, option_map, slice_get}
use Rattle.tip_branch.specs.declared.branch.Badge.{Badge}
use Rattle.tip_core.specs.Hosted.{realm}
use Rattle.tip_honest.specs.Honesty.{AreHonest}
use Rattle.tip_host.specs.Books.{out_of}
use Rattle.tip_host.specs.Entries.{bare}
use Rattle.tip_host.specs.Hosts.{Host}
use Rattle.tip_host.specs.Openings.{IsOpened}
use Rattle.tip_journal.specs.Journal.{begun}
use Rattle.tip_kept.specs.Keeping.{rows_at}
use Rattle.tip_machine.specs.Heads.{starting}
use Rattle.tip_machine.specs.Invariants.{are_known_once}
use Rattle.tip_machine.specs.Moves.{World, loaded}
use Rattle.tip_machine.specs.Recovery.{restarted}
use Rattle.tip_machine.specs.Starting.{AreRowsBefore, IsStart, are_adopted, is_starting}
use Rattle.tip_machine.specs.States.{State}
use Rattle.tip_recovery.specs.Adopting.{Recovery}
use Rattle.tip_rows.specs.Keys.{Key}
use Rattle.tip_rows.specs.Logs.{IsPart, Keeping, Log, last_epoch}
use Rattle.tip_rows.specs.declared.row.Row.{Row}
use Rattle.tip_stored.specs.Loading.{Loads, spec_of, start_of}
use Rattle.tip_stored.specs.Recovering.{Recovering, adopted_each, are_for_each}
use Rattle.tip_stored.specs.declared.realm_spec.RealmSpec.{RealmSpec}
use Rattle.tip_run.specs.Giving.{AreEachGiven}

-- A HOST BEGINS over a store with these realms: StoredCore::load, boxes for the rows, and Host::open
pub record IsBegun {S : Type 0} (kept : Keeping S) (specs : List RealmSpec) (store : S) (new : Host S) : Type 0 where
  pub loaded : Recovering S
  pub loads : Loads kept specs store (Ok loaded)
  pub realms : List Recovery
  pub given : AreEachGiven loaded.realms realms
  pub opened : IsOpened (record loaded { realms = realms }) new

-- these are its boxes, for each row of each realm at its place: one for each branch, and no more
abbrev pub HasBoxes : {S : Type 0} {kept : Keeping S} {specs : List RealmSpec} {store : S} {new : Host S} → IsBegun kept specs store new → List (List (List Badge)) → Type 0
HasBoxes is boxes = (is.realms ≡ adopted_each boxes is.loaded.realms) × (are_for_each boxes is.loaded.realms ≡ true)

-- all its realms, as they were declared
abbrev pub AreDeclared : {S : Type 0} → Host S → List RealmSpec → Type 0
AreDeclared host specs = (place : ℕ) → slice_get specs place ≡ option_map (λ (state : State). spec_of state.head) (realm host.stored.core place)

-- ITS REALMS START AGAIN, as they were declared, over the store that it leaves
pub record IsRestarted {S : Type 0} (kept : Keeping S) (old new : Host S) : Type 0 where
  pub specs : List RealmSpec
  pub declared : AreDeclared old specs
  pub begins : IsBegun kept specs old.stored.store new

-- THE STORE HAS A REALM'S ROWS as it has answered: they are its part of a log for which it stands, and in which the realm is known
pub record StoresAt {S : Type 0} (kept : Keeping S) (host : Host S) (place : ℕ) (state : State) : Type 0 where
  pub log : Log
  pub stood : kept.stands host.stored.store log
  pub rows : IsPart log state.head.name state.head.epoch (rows_at host.books.rows place)
  pub known : is_some (log.epochs state.head.name) ≡ true

-- what a realm is once it has started from its rows, in the epoch after theirs
abbrev pub first_of : RealmSpec → ℕ → (Key → List Badge) → List (Key × Row) → World
first_of spec epoch boxes rows = record { state = restarted (starting (start_of spec (epoch + 1))) (loaded boxes rows); rows = rows; errands = [] }

-- A REALM HAS STARTED from the rows and the epoch that were stored of it, and its journal begins with them: it is where a run may
-- begin, where tipd alone wrote them
pub record HasStarted {S : Type 0} (kept : Keeping S) (spec : RealmSpec) (epoch : ℕ) (rows : List (Key × Row)) (new : Host S) (place : ℕ) : Type 0 where
  pub boxes : Key → List Badge
  pub adopted : are_adopted boxes rows ≡ true
  pub rises : epoch < last_epoch
  pub state : realm new.stored.core place ≡ Some (first_of spec epoch boxes rows).state
  pub rows_are : rows_at new.books.rows place ≡ rows
  pub out : out_of new.books place ≡ []
  pub journal : slice_get (bare new.books.journals) place ≡ Some (begun (epoch + 1) (loaded boxes rows) ∷ [])
  pub stored : StoresAt kept new place (first_of spec epoch boxes rows).state
  pub honest : AreHonest (first_of spec epoch boxes rows) (begun (epoch + 1) (loaded boxes rows) ∷ [])
  pub from : honest.start ≡ first_of spec epoch boxes rows
  pub begins : is_starting (starting (start_of spec (epoch + 1))) ≡ true → AreRowsBefore (epoch + 1) rows → are_known_once (first_of spec epoch boxes rows).state ≡ true → IsStart (first_of spec epoch boxes rows)
