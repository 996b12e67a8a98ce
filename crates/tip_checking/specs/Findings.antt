-- What is wrong in a store (ours): what keeps it from starting, is never looked at, or lets an identifier be given twice.
use Rattle.std.specs.Prelude.{ℕ, ℤ, ◌==◌, ◌&&◌, Bool, false, List, Option, Some, None, find, is_none, is_some, nat_lt, option_map, string_bytes, if◌then◌else◌}
use Rattle.std.specs.List.{list_all}
use Rattle.std.specs.Str.{bytes_eq}
use Rattle.sqlite.specs.declared.types.Value.TheVariants.{Int}
use Rattle.tip_line.specs.Words.{is_realm}
use Rattle.tip_rows.specs.Keys.{Key}
use Rattle.tip_rows.specs.Logs.{last_epoch}
use Rattle.tip_sql.specs.Reading.{key_of as key_of_numbers, number_in}
use Rattle.tip_sql.specs.Standing.{row_of}
use Rattle.tip_checking.specs.declared.contents.Contents.{Contents}
use Rattle.tip_checking.specs.declared.contents.Known.{Known}
use Rattle.tip_checking.specs.declared.contents.Stored.{Stored}
use Rattle.tip_checking.specs.declared.realms.WrongRealm.{WrongRealm}
use Rattle.tip_checking.specs.declared.realms.WrongRealm.TheVariants as realms
use Rattle.tip_checking.specs.declared.rows.WrongRow.{WrongRow}
use Rattle.tip_checking.specs.declared.rows.WrongRow.TheVariants as rows

-- Realms

-- an epoch that can rise
abbrev pub wrong_epoch : Option ℕ → Option WrongRealm
wrong_epoch None = Some realms.Epoch
wrong_epoch (Some epoch) = if epoch == last_epoch then Some realms.LastEpoch else None

abbrev pub wrong_realm : Known → Option WrongRealm
wrong_realm realm = if is_realm (string_bytes realm.name) then wrong_epoch (number_in (Int realm.epoch)) else Some realms.Name

-- Rows

abbrev pub is_named : List ℕ → Known → Bool
is_named name realm = bytes_eq (string_bytes realm.name) name

-- the stored epoch of a realm
abbrev pub epoch_in : List Known → List ℕ → Option ℤ
epoch_in known name = option_map (λ realm. realm.epoch) (find (is_named name) known)

-- the key that its three numbers are
abbrev pub key_of : Stored → Option Key
key_of row = key_of_numbers (number_in (Int row.epoch)) (number_in (Int row.connection)) (number_in (Int row.number))

-- an epoch that its realm has not had
abbrev pub is_above : ℕ → Option ℕ → Bool
is_above epoch None = false
is_above epoch (Some known) = nat_lt known epoch

abbrev pub is_ahead : Key → ℤ → Bool
is_ahead key epoch = is_above key.epoch (number_in (Int epoch))

abbrev pub wrong_text : List ℕ → Option WrongRow
wrong_text text = if is_some (row_of text) then None else Some rows.Text

abbrev pub wrong_at : Option Key → ℤ → List ℕ → Option WrongRow
wrong_at None epoch text = Some rows.Key
wrong_at (Some key) epoch text = if is_ahead key epoch then Some rows.Ahead else wrong_text text

abbrev pub wrong_beside : Option ℤ → Stored → Option WrongRow
wrong_beside None row = Some rows.Unknown
wrong_beside (Some epoch) row = wrong_at (key_of row) epoch (string_bytes row.text)

-- WHAT IS WRONG WITH A ROW beside these realms
abbrev pub wrong_row : List Known → Stored → Option WrongRow
wrong_row known row = wrong_beside (epoch_in known (string_bytes row.realm)) row

-- The whole

abbrev pub are_right_realms : List Known → Bool
are_right_realms known = list_all (λ realm. is_none (wrong_realm realm)) known

abbrev pub are_right_rows : List Known → List Stored → Bool
are_right_rows known stored = list_all (λ row. is_none (wrong_row known row)) stored

-- NOTHING IS WRONG with what a store has
abbrev pub is_right : Contents → Bool
is_right contents = are_right_realms contents.realms.items && are_right_rows contents.realms.items contents.rows.items
