-- Rows in memory, seen as a log.
use Rattle.std.specs.Prelude.{◌≡◌, ℕ, ℤ, pos, List, [], ◌∷◌, map, Bool, true, false, ◌&&◌, ◌==◌, not, if◌then◌else◌, Option, option_map, unwrap_or, find, is_some, slice_get}
use Rattle.std.specs.List.{list_all}
use Rattle.std.specs.Option.{option_map_or}
use Rattle.std.specs.Str.{bytes_eq}
use Rattle.tip_line.specs.Words.{is_realm}
use Rattle.tip_rows.specs.Keys.{Key, comes_before}
use Rattle.tip_rows.specs.Logs.{Log, row_at, is_here, name_before, are_rising_names, last_epoch, raised_number}
use Rattle.tip_rows.specs.declared.row.Row.{Row}
use Rattle.tip_rows.specs.declared.memory.Known.{Known}

-- a row where it stands
pub record Stored : Type 0 where
  pub realm : List ℕ
  pub key : Key
  pub row : Row

abbrev pub is_named : List ℕ → Known → Bool
is_named realm known = bytes_eq known.realm realm

abbrev pub epoch_in : List Known → List ℕ → Option ℤ
epoch_in known realm = option_map (λ k. pos k.epoch) (find (is_named realm) known)

abbrev pub due_in : List Known → List ℕ → Bool
due_in known realm = unwrap_or (option_map (λ k. k.is_refusing) (find (is_named realm) known)) false

-- the rows of one realm, in order
abbrev pub part : List ℕ → List Stored → List (Key × Row)
part realm [] = []
part realm (s ∷ rows) = if bytes_eq s.realm realm then (s.key, s.row) ∷ part realm rows else part realm rows

abbrev pub log_in : List Known → List Stored → Log
log_in known rows = record { epochs = epoch_in known; rows = λ realm key. row_at key (part realm rows); unreadable = λ realm key. false; strays = λ realm. false }

-- the place of a key of a realm is before that of another: by the names of the realms, and within one by key
abbrev pub place_before : List ℕ → Key → List ℕ → Key → Bool
place_before realm key r k = if bytes_eq realm r then comes_before key k else name_before realm r

-- each row stands before those behind it
abbrev pub are_placed : List Stored → Bool
are_placed [] = true
are_placed (s ∷ rows) = list_all (λ t. place_before s.realm s.key t.realm t.key) rows && are_placed rows

-- the realms are in the order of their names
abbrev pub are_by_name : List Known → Bool
are_by_name known = are_rising_names (map (λ k. k.realm) known)

-- so they are, and the rows are in that of their places
pub record IsKept (known : List Known) (rows : List Stored) : Type 0 where
  pub names : are_by_name known ≡ true
  pub realms : list_all is_realm (map (λ k. k.realm) known) ≡ true
  pub placed : are_placed rows ≡ true

-- what is seen of rows in memory: the known realms, the rows, and how many calls were refused
pub record Memory : Type 0 where
  pub known : List Known
  pub rows : List Stored
  pub faults : ℕ

-- the log that they stand for
abbrev pub log_of : Memory → Log
log_of memory = log_in memory.known memory.rows

-- whether the next change of a realm is to be refused
abbrev pub is_due_in : Memory → List ℕ → Bool
is_due_in memory realm = due_in memory.known realm

abbrev pub raised_known : Known → Known
raised_known k = record k { epoch = raised_number k.epoch }

abbrev pub raised_named : List ℕ → Known → Known
raised_named realm k = if is_named realm k then raised_known k else k

abbrev pub epoch_named : List ℕ → ℕ → Known → Known
epoch_named realm n k = if is_named realm k then record k { epoch = n } else k

abbrev pub refusing_named : List ℕ → Bool → Known → Known
refusing_named realm is_refusing k = if is_named realm k then record k { is_refusing = is_refusing } else k

abbrev pub is_at_end : Known → Bool
is_at_end k = k.epoch == last_epoch

-- a row stands before the place of a key of a realm
abbrev pub is_before : List ℕ → Key → Stored → Bool
is_before realm key s = place_before s.realm s.key realm key

-- a row stands at that place
abbrev pub is_at : List ℕ → Key → Stored → Bool
is_at realm key s = is_here s.realm s.key realm key

-- the row at this index stands at that place
abbrev pub stands_at : List ℕ → Key → List Stored → ℕ → Bool
stands_at realm key rows index = option_map_or (is_at realm key) (slice_get rows index) false

-- the rows with one added, or replaced, where it belongs
abbrev pub put_in : Stored → List Stored → List Stored
put_in s [] = s ∷ []
put_in s (x ∷ rows) = if is_before s.realm s.key x then x ∷ put_in s rows else if is_at s.realm s.key x then s ∷ rows else s ∷ x ∷ rows

-- a row stands at another place
abbrev pub is_other : List ℕ → Key → Stored → Bool
is_other realm key s = not (is_at realm key s)

-- a row is one of this realm
abbrev pub is_of : List ℕ → Stored → Bool
is_of realm s = bytes_eq s.realm realm

-- the name of a row's realm comes before this one
abbrev pub is_of_earlier : List ℕ → Stored → Bool
is_of_earlier realm s = name_before s.realm realm

-- a known realm whose name does not come before this one
abbrev pub is_from : List ℕ → Known → Bool
is_from realm x = not (name_before x.realm realm)

-- the known realms with one more, where it was not known
abbrev pub known_in : Known → List Known → List Known
known_in k [] = k ∷ []
known_in k (x ∷ known) = if is_from k.realm x then (if bytes_eq x.realm k.realm then x ∷ known else k ∷ x ∷ known) else x ∷ known_in k known

-- a refusal is due for this realm, where it is known, and for the others as before
abbrev pub IsDemanded : Memory → Memory → List ℕ → Type 0
IsDemanded old new realm = (r : List ℕ) → is_due_in new r ≡ (if bytes_eq realm r then is_some ((log_of old).epochs r) else is_due_in old r)
