-- A HOST THAT IS RUN by a list of moves (ours): what a run has at hand, and where each realm of it stands.
use Rattle.std.specs.Prelude.{◌≡◌, ◌<◌, ℕ, false, List, [], ◌++◌, Option, Some, None, length, option_map, slice_get, unwrap_or}
use Rattle.std.specs.List.{flat_map}
use Rattle.tip_core.specs.Hosted.{HaveNames, realm}
use Rattle.tip_honest.specs.Honesty.{Journal}
use Rattle.tip_host.specs.Books.{out_of}
use Rattle.tip_host.specs.Entries.{Noted, bare}
use Rattle.tip_host.specs.Hosts.{Host}
use Rattle.tip_kept.specs.Keeping.{rows_at}
use Rattle.tip_machine.specs.Moves.{World}
use Rattle.tip_machine.specs.States.{State}
use Rattle.tip_table.specs.Kept.{of}

-- a host, what the pass of the run has noted, and the journals of the processes before, the oldest first
pub record Running (S : Type 0) : Type 0 where
  pub host : Host S
  pub noted : List Noted
  pub earlier : List (List (List Journal))

-- a realm that is there has a journal, and no other has
abbrev pub HasJournal : Option State → Option (List Journal) → Type 0
HasJournal None None = Unit {0}
HasJournal None (Some own) = ⊥
HasJournal (Some state) None = ⊥
HasJournal (Some state) (Some own) = 0 < length own

-- BETWEEN TWO MOVES nobody is taken out of a host, it is not stopped, and its realms have names of their own, and journals
pub record IsAtRest {S : Type 0} (host : Host S) : Type 0 where
  pub taken : (place : ℕ) → of host.books.out place ≡ []
  pub running : host.stored.is_stopped ≡ false
  pub names : HaveNames host.stored.core
  pub begun : (place : ℕ) → HasJournal (realm host.stored.core place) (slice_get (bare host.books.journals) place)

-- A REALM'S JOURNALS over all processes of a run, the oldest first
abbrev pub earlier_of : List (List (List Journal)) → ℕ → List Journal
earlier_of earlier place = flat_map (λ journals. unwrap_or (slice_get (bare journals) place) []) earlier

abbrev pub journals_of : {S : Type 0} → Running S → ℕ → Option (List Journal)
journals_of running place = option_map (λ own. earlier_of running.earlier place ++ own) (slice_get (bare running.host.books.journals) place)

-- A REALM in this state, with its stored rows, as the store has answered, and its parties that are out
abbrev pub world_at : {S : Type 0} → Running S → ℕ → State → World
world_at running place state = record { state = state; rows = rows_at running.host.books.rows place; errands = out_of running.host.books place }
