-- What realms begin with (ours).
use Rattle.std.specs.Prelude.{◌≡◌, ◌<◌, ℕ, List, [], ◌∷◌, map, true, false, IfSome, slice_get}
use Rattle.std.specs.Option.{option_map_or}
use Rattle.tip_core.specs.Hosted.{HaveNames, realm}
use Rattle.tip_honest.specs.Honesty.{Journal, are_boxed}
use Rattle.tip_honest.specs.Hosts.{HasHonestRun}
use Rattle.tip_journal.specs.Journal.{begun}
use Rattle.tip_journal.specs.Retiring.{none_retired}
use Rattle.tip_kept.specs.Keeping.{RealmRows, rows_at}
use Rattle.tip_recovery.specs.Adopting.{Recovery, are_adopted, loaded, stored_of}
use Rattle.tip_outbox.specs.Waiting.{waiting}
use Rattle.tip_rows.specs.Logs.{is_rising}
use Rattle.tip_stored.specs.Recovering.{Recovering, all_adopted, recovered}
use Rattle.tip_host.specs.Books.{out_of}
use Rattle.tip_host.specs.Entries.{bare}
use Rattle.tip_host.specs.Hosts.{Host}

-- the journals of a realm that takes up its rows: one, of its epoch, without an entry
abbrev pub opened : Recovery → List Journal
opened recovery = begun recovery.epoch (map loaded recovery.rows) ∷ []

-- its rows are kept, they rise, and where none waits for boxes any more each has one for each of its branches
pub record IsTaken (rows : List RealmRows) (place : ℕ) (recovery : Recovery) : Type 0 where
  pub kept : rows_at rows place ≡ stored_of recovery.rows
  pub rising : is_rising (stored_of recovery.rows) ≡ true
  pub boxed : are_adopted recovery.rows ≡ true → are_boxed (map loaded recovery.rows) ≡ true

-- so it is with each of the first realms
abbrev pub AreTaken : ℕ → List RealmRows → List Recovery → Type 0
AreTaken count rows realms = (place : ℕ) → place < count → IfSome (slice_get realms place) (IsTaken rows place)

-- A HOST BEGINS: each realm is as recovery makes it of its rows and boxes, with a journal that begins with them, and none was let go;
-- nothing waits, and nobody is out. So each realm's journal is that of an honest run, which has just begun
pub record IsOpened {S : Type 0} (recovering : Recovering S) (host : Host S) : Type 0 where
  pub store : host.stored.store ≡ recovering.store
  pub realms : (place : ℕ) → realm host.stored.core place ≡ recovered (slice_get recovering.realms place) (realm recovering.core place)
  pub names : HaveNames host.stored.core
  pub running : host.stored.is_stopped ≡ false
  pub adopted : all_adopted recovering.realms ≡ true
  pub journals : host.books.journals ≡ map opened recovering.realms
  pub retired : host.books.retired ≡ map (λ recovery. none_retired) recovering.realms
  pub rows : (place : ℕ) → rows_at host.books.rows place ≡ option_map_or (λ recovery. stored_of recovery.rows) (slice_get recovering.realms place) []
  pub out : (place : ℕ) → out_of host.books place ≡ []
  pub lines : (place number : ℕ) → waiting host.books.outboxes place number ≡ []
  pub honest : (place : ℕ) → HasHonestRun (realm host.stored.core place) (out_of host.books place) (rows_at host.books.rows place) (slice_get (bare host.books.journals) place)
