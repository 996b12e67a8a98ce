-- WHAT A HOST KEEPS beside its stored core (ours), and what it knows of its realms by it.
use Rattle.std.specs.Prelude.{◌≡◌, ◌≢◌, ◌<◌, ◌+◌, ◌^◌, ◌++◌, ◌∷◌, [], ℕ, suc, List, length, Option, Some, None, IfSome, option_map, slice_get, sum_by, unwrap_or}
use Rattle.std.specs.Option.{option_to_list}
use Rattle.tip_branch.specs.Notes.{PartyNotes}
use Rattle.tip_core.specs.Hosted.{Hosted, realm}
use Rattle.tip_honest.specs.Honesty.{Journal}
use Rattle.tip_honest.specs.Hosts.{AreAllHonest, HasHonestRun, Known}
use Rattle.tip_journal.specs.Journals.{changed_at}
use Rattle.tip_journal.specs.Pass.{Held}
use Rattle.tip_journal.specs.Retiring.{IsRetired, Retired, none_retired, with_retired}
use Rattle.tip_kept.specs.Keeping.{RealmRows, room_at, rows_at}
use Rattle.tip_machine.specs.Moves.{rows_after}
use Rattle.tip_machine.specs.States.{State}
use Rattle.tip_machine.specs.Types.{Answer}
use Rattle.tip_machine.specs.declared.event.Change.{Change}
use Rattle.tip_machine.specs.declared.event.Outcome.{Outcome}
use Rattle.tip_outbox.specs.Waiting.{IsSettled, sent_to, waiting}
use Rattle.tip_outbox.specs.declared.outboxes.Outboxes.{Outboxes}
use Rattle.tip_table.specs.Kept.{Kept, of, places, taken_out}
use Rattle.tip_honest.specs.declared.entry.Entry.{Entry}
use Rattle.tip_rows.specs.Keys.{Key}
use Rattle.tip_rows.specs.declared.row.Row.{Row}
use Rattle.tip_host.specs.Entries.{bare}

-- journals, what is kept of those that were let go, lines that wait to go out, stored rows as the store has answered, parties that wait
-- to be taken out for their errand, and how those were sent that were taken
pub record Books : Type 0 where
  pub journals : List (List Journal)
  pub retired : List Retired
  pub outboxes : Outboxes
  pub rows : List RealmRows
  pub work : Kept PartyNotes
  pub out : Kept PartyNotes

-- the parties that are out of a realm, those first that were taken
abbrev pub out_of : Books → ℕ → List PartyNotes
out_of books place = of books.out place ++ of books.work place

abbrev pub known_by : Hosted → Books → Known
known_by core books = record {
  realm = realm core;
  out = out_of books;
  rows = rows_at books.rows;
  journals = bare books.journals;
}

-- Journals that were let go

-- how many of a realm's journals were let go, and how many entries they had
abbrev pub retired_at : List Retired → ℕ → Retired
retired_at retired place = unwrap_or (slice_get retired place) none_retired

-- one more of a realm's journals can be counted
abbrev pub CanCount : List Retired → ℕ → Type 0
CanCount retired place = (place < length retired) × ((retired_at retired place).starts + 1 < 2 ^ 32)

-- these are as many journals, with as many entries
pub record AreCounted (retired : Retired) (journals : List Journal) : Type 0 where
  pub starts : retired.starts ≡ length journals
  pub entries : retired.entries ≡ sum_by (λ journal. length journal.entries) journals

-- each realm's journals, behind those of it that were let go
abbrev pub behind : (ℕ → List Journal) → List (List Journal) → List (List Journal)
behind gone [] = []
behind gone (own ∷ others) = (gone 0 ++ own) ∷ behind (λ place. gone (suc place)) others

-- what is known by all journals, those that were let go and those that are kept
abbrev pub known_over : (ℕ → List Journal) → Hosted → Books → Known
known_over gone core books = record {
  realm = realm core;
  out = out_of books;
  rows = rows_at books.rows;
  journals = behind gone (bare books.journals);
}

-- A REALM'S OLDEST JOURNAL IS LET GO, and is counted among those that were
pub record LetsGo (old new : Books) (realm epoch : ℕ) (before after : List (Held Entry)) : Type 0 where
  pub entries : ℕ
  pub retires : IsRetired old.journals new.journals before after realm epoch entries
  pub counted : new.retired ≡ changed_at realm (with_retired entries) old.retired

-- SO MANY JOURNALS OF A REALM WERE LET GO, and they and those that are kept are of one honest run: there are as many journals, with as
-- many entries, which together with the kept ones are what it leaves
pub record HasRunBehind (retired : Retired) (state : Option State) (out : List PartyNotes) (rows : List (Key × Row)) (kept : Option (List Journal)) : Type 0 where
  pub gone : List Journal
  pub counted : AreCounted retired gone
  pub run : HasHonestRun state out rows (option_map (λ own. gone ++ own) kept)

-- EACH REALM'S JOURNALS, those that were let go and those that are kept, ARE THOSE OF ONE HONEST RUN of its own machine, which leads to
-- its state, to its stored rows and to its parties that are out
pub record IsHonest (core : Hosted) (books : Books) : Type 0 where
  -- those that were let go of each realm, as many as are counted
  pub gone : ℕ → List Journal
  pub all : AreAllHonest (known_over gone core books)
  pub counted : (place : ℕ) → AreCounted (retired_at books.retired place) (gone place)
  -- the current one is kept
  pub some : (place : ℕ) → IfSome (slice_get (bare books.journals) place) (λ own. 0 < length own)
  pub each : length books.rows ≡ length books.journals
  pub counts : length books.retired ≡ length books.journals

-- What an event takes away

-- those that are left of a realm once who stands at this place has come back
abbrev pub left_in : Option ℕ → Kept PartyNotes → ℕ → List PartyNotes
left_in None out realm = of out realm
left_in (Some place) out realm = taken_out (places out place) realm (of out realm)

-- What an event writes

-- all is as it was, as far as it is seen
pub record IsSeen (old new : Books) : Type 0 where
  pub lines : (place number : ℕ) → waiting new.outboxes place number ≡ waiting old.outboxes place number
  pub journals : bare new.journals ≡ bare old.journals
  pub retired : new.retired ≡ old.retired
  pub rows : (place : ℕ) → rows_at new.rows place ≡ rows_at old.rows place
  pub count : length new.rows ≡ length old.rows
  pub work : (place : ℕ) → of new.work place ≡ of old.work place
  pub out : new.out ≡ old.out

-- an event of a realm can be written down without memory
pub record HasSpace (books : Books) (realm : ℕ) : Type 0 where
  pub lines : IsSettled books.outboxes
  pub work : 0 < books.work.free
  pub rows : realm < length books.rows → 0 < room_at books.rows realm

-- AN EVENT IS WRITTEN DOWN, but for its entry: its lines wait behind those that waited, its change is kept where the store has made
-- it, who goes out waits to be taken, and who came back is out no more
pub record Writes (old new : Books) (place : ℕ) (change : Option Change) (outcome : Outcome) (back : Option ℕ) (answer : Answer) : Type 0 where
  pub lines : (number : ℕ) → waiting new.outboxes place number ≡ waiting old.outboxes place number ++ sent_to number answer.sent
  pub other_lines : (other number : ℕ) → other ≢ place → waiting new.outboxes other number ≡ waiting old.outboxes other number
  pub retired : new.retired ≡ old.retired
  pub rows : rows_at new.rows place ≡ rows_after change outcome (rows_at old.rows place)
  pub other_rows : (other : ℕ) → other ≢ place → rows_at new.rows other ≡ rows_at old.rows other
  pub count : length new.rows ≡ length old.rows
  pub work : of new.work place ≡ of old.work place ++ option_to_list answer.work
  pub other_work : (other : ℕ) → other ≢ place → of new.work other ≡ of old.work other
  pub out : (realm : ℕ) → of new.out realm ≡ left_in back old.out realm
