-- A text is read as a row exactly where it spells the row.
use Rattle.std.proofs.Common.{◌≡◌, inl, inr, ℕ, zero, suc, ◌+◌, ◌<◌, List, [], ◌∷◌, ◌++◌, length, map, take, get_or, Option, Some, None, Ok, Err, Result, IsErr, IsErrAnd, refl, sym, ap, ◌∙◌, arith}
use Rattle.std.proofs.lemmas.List.{take_more, map-append}
use Rattle.sqlite_rules.specs.Lists.{Has}
use Rattle.tip_rows.specs.Rows.{written, IsRow, Spells}
use Rattle.tip_rows.specs.declared.row.Row.{Row}
use Rattle.tip_rows.specs.declared.text.RowFault.TheVariants.{BadRow}
use Rattle.tip_rows.proofs.Spellings.{parsed, parsed_only, parsed_bad}
use Rattle.tip_rows.specs.declared.log.LoadFault.{LoadFault}
use Rattle.tip_rows.specs.declared.log.LoadFault.TheVariants as load_fault
use Rattle.tip_sql.specs.Reading.{Reads}
use Rattle.tip_sql.specs.Standing.{row_of}

pub read_row : (text : List ℕ) (row : Row) → Spells row text → row_of text ≡ Some row
read_row text row spells = go (row_of text) refl
  where
    go : (read : Option Row) → row_of text ≡ read → row_of text ≡ Some row
    go None e = absurd (parsed_bad text (Err BadRow) e refl row spells)
    go (Some other) e = elim (parsed_only text (Ok other) e row spells) [
      | inl same ↦ let is : other ≡ row = cc in e ∙ ap Some is
      | inr memory ↦ absurd (let clash = memory in cc)
    ]

pub row_read : (text : List ℕ) (row : Row) → row_of text ≡ Some row → Spells row text
row_read text row is = parsed text (Ok row) is

-- what is written is read again
pub read_written : (row : Row) → IsRow row → row_of (written row) ≡ Some row
read_written row whole = read_row (written row) row (record { whole = whole; spelled = inl refl })

pub no_row : (text : List ℕ) → ((row : Row) → ¬ Spells row text) → row_of text ≡ None
no_row text none = go (row_of text) refl
  where
    go : (read : Option Row) → row_of text ≡ read → row_of text ≡ None
    go None e = e
    go (Some row) e = absurd (none row (row_read text row e))

-- ---- lists that are read one by one

pub has_at : {X : Type 0} (xs : List X) (i : ℕ) (d : X) → i < length xs → Has xs (get_or xs i d)
has_at [] i d inside = absurd (omega arith)
has_at (x ∷ xs) zero d inside = inl refl
has_at (x ∷ xs) (suc i) d inside = inr (has_at xs i d (omega arith))

pub read_more : {X Y : Type 0} (f : X → Option Y) (read : List Y) (xs : List X) (i : ℕ) (d : X) (y : Y) → i < length xs → d ≡ get_or xs i d → f d ≡ Some y → map Some read ≡ map f (take i xs)
    → map Some (read ++ y ∷ []) ≡ map f (take (i + 1) xs)
read_more f read xs i d y inside is reads before =
    map-append Some read (y ∷ []) ∙ ap (λ l. l ++ Some y ∷ []) before ∙ ap (λ o. map f (take i xs) ++ o ∷ []) (sym reads) ∙ sym (map-append f (take i xs) (d ∷ []))
    ∙ ap (λ x. map f (take i xs ++ x ∷ [])) is ∙ ap (map f) (sym (take_more xs i d inside))

bad_fault : {B : Type 0} (fault : LoadFault) (read : Option B) → Reads {A = B} (Err fault) read → fault ≡ load_fault.BadRow → read ≡ None
bad_fault load_fault.Refused read h e = absurd h
bad_fault load_fault.BadRow read h e = h
bad_fault load_fault.Memory read h e = absurd (let clash = e in cc)

-- where one of a list was read as nothing, it is there
pub bad_item : {A B : Type 0} (result : Result A LoadFault) (fault : LoadFault) (read : Option B) → IsErr result × IsErrAnd result (λ e. e ≡ fault) → Reads {A = B} (Err fault) read → result ≡ Err load_fault.BadRow → read ≡ None
bad_item (Ok x) fault read h reads bad = absurd cc
bad_item (Err e) fault read h reads bad = let same : e ≡ load_fault.BadRow = cc in bad_fault fault read reads (sym h.1 ∙ same)
