-- The rows of the two tables, and what stands where (ours).
use Rattle.std.specs.Prelude.{◌≡◌, List, [], ◌∷◌, ℕ, ℤ, pos, negsuc, Bool, true, false, not, ◌&&◌, nat_lt, nat_le, Option, option_map, find}
use Rattle.std.specs.Str.{bytes_eq}
use Rattle.std.specs.Ordering.{is_eq, int_cmp}
use Rattle.tip_rows.specs.Logs.{last_epoch}
use Rattle.sqlite.specs.Order.{Row, column, bytes}
use Rattle.sqlite.specs.Tree.{rowid}
use Rattle.sqlite.specs.Edit.{id_in}
use Rattle.sqlite_rules.specs.Lists.{Has}
use Rattle.tip_sql.specs.Tables.{realm_row, txn_row}

-- ---- known realms

abbrev pub name_in : Row → List ℕ
name_in r = bytes (column r 1)

abbrev pub epoch_in : Row → ℤ
epoch_in r = id_in (column r 2)

abbrev pub is_named : List ℕ → Row → Bool
is_named realm r = bytes_eq (name_in r) realm

-- the number that is stored as a realm's epoch
abbrev pub epoch_at : List Row → List ℕ → Option ℤ
epoch_at rows realm = option_map epoch_in (find (is_named realm) rows)

pub record IsRealmRow (r : Row) : Type 0 where
  pub id : ℤ
  pub name : List ℕ
  pub epoch : ℤ
  pub is : r ≡ realm_row id name epoch

-- rows of `realm`, no two with one rowid or of one name
pub record AreRealms (rows : List Row) : Type 0 where
  pub shaped : (r : Row) → Has rows r → IsRealmRow r
  pub apart : (a b : Row) → Has rows a → Has rows b → rowid a ≡ rowid b → a ≡ b
  pub named : (a b : Row) → Has rows a → Has rows b → name_in a ≡ name_in b → a ≡ b

-- the epoch is at its end
abbrev pub is_last : Row → Bool
is_last r = is_eq (int_cmp (epoch_in r) (pos last_epoch))

-- ---- rows of transactions

-- where a row stands: its realm and the three numbers of its key
abbrev pub Place : Type 0
Place = List ℕ × ℤ × ℤ × ℤ

abbrev pub place_in : Row → Place
place_in r = (bytes (column r 1), id_in (column r 2), id_in (column r 3), id_in (column r 4))

abbrev pub same_place : Place → Place → Bool
same_place p q = bytes_eq p.0 q.0 && (is_eq (int_cmp p.1 q.1) && (is_eq (int_cmp p.2 q.2) && is_eq (int_cmp p.3 q.3)))

abbrev pub is_at : Place → Row → Bool
is_at q r = same_place (place_in r) q

abbrev pub text_in : Row → List ℕ
text_in r = bytes (column r 5)

-- the text that stands at a place
abbrev pub text_at : List Row → Place → Option (List ℕ)
text_at rows q = option_map text_in (find (is_at q) rows)

-- a number of a key: 1 or more, within 32 bits
abbrev pub is_key_number : ℤ → Bool
is_key_number (pos n) = nat_lt 0 n && nat_le n last_epoch
is_key_number (negsuc n) = false

-- the numbers at a place are a key
abbrev pub has_key : Place → Bool
has_key p = is_key_number p.1 && (is_key_number p.2 && is_key_number p.3)

-- a row of the realm at numbers that are no key
abbrev pub is_stray : List ℕ → Row → Bool
is_stray realm r = bytes_eq (name_in r) realm && not (has_key (place_in r))

pub record IsTxnRow (r : Row) : Type 0 where
  pub id : ℤ
  pub place : Place
  pub text : List ℕ
  pub is : r ≡ txn_row id place.0 place.1 place.2 place.3 text

-- rows of `txn`, no two with one rowid or at one place
pub record AreRows (rows : List Row) : Type 0 where
  pub shaped : (r : Row) → Has rows r → IsTxnRow r
  pub apart : (a b : Row) → Has rows a → Has rows b → rowid a ≡ rowid b → a ≡ b
  pub keyed : (a b : Row) → Has rows a → Has rows b → place_in a ≡ place_in b → a ≡ b

-- ---- what the queries show of a row

abbrev pub all_rows : Row → Bool
all_rows r = true

abbrev pub id_shown : Row → Row
id_shown r = column r 0 ∷ []

abbrev pub name_shown : Row → Row
name_shown r = column r 1 ∷ []

abbrev pub epoch_shown : Row → Row
epoch_shown r = column r 2 ∷ []

abbrev pub row_shown : Row → Row
row_shown r = column r 2 ∷ column r 3 ∷ column r 4 ∷ column r 5 ∷ []

-- the number that is shown first
abbrev pub number_at : Row → ℤ
number_at r = id_in (column r 0)
