-- What a statement makes of the rows of a table.
use Rattle.std.specs.Prelude.{◌≡◌, ◌⊎◌, List, ℕ, ℤ, pos, ◌+ℤ◌, Bool, true, false, ◌&&◌}
use Rattle.std.specs.Ordering.{is_ge, is_lt, int_cmp}
use Rattle.sqlite.specs.Edit.{id_in}
use Rattle.sqlite.specs.Order.{Row, column, bytes}
use Rattle.sqlite.specs.Tree.{rowid}
use Rattle.sqlite.specs.declared.types.Value.TheVariants.{Int}
use Rattle.sqlite_rules.specs.Lists.{Has}
use Rattle.tip_sql.specs.Tables.{realm_row, txn_row}
use Rattle.tip_sql.specs.Places.{Place, is_at, is_named}

-- one row stands at the place, and the others are as they were
pub record Sets (old new : List Row) (q : Place) (text : List ℕ) : Type 0 where
  pub id : ℤ
  pub here : Has new (txn_row id q.0 q.1 q.2 q.3 text)
  pub others : (r : Row) → Has new r → (r ≡ txn_row id q.0 q.1 q.2 q.3 text) ⊎ (Has old r × (is_at q r ≡ false))
  pub kept : (r : Row) → Has old r → is_at q r ≡ false → Has new r
  pub apart : (r : Row) → Has old r → is_at q r ≡ false → (Int id ≡ rowid r) → ⊥

-- none stands at the place, and the others are as they were
pub record Clears (old new : List Row) (q : Place) : Type 0 where
  pub others : (r : Row) → Has new r → Has old r × (is_at q r ≡ false)
  pub kept : (r : Row) → Has old r → is_at q r ≡ false → Has new r

-- one more realm is known, at epoch 0, and the others are as they were
pub record Adds (old new : List Row) (realm : List ℕ) : Type 0 where
  pub id : ℤ
  pub here : Has new (realm_row id realm (pos 0))
  pub others : (r : Row) → Has new r → (r ≡ realm_row id realm (pos 0)) ⊎ Has old r
  pub kept : (r : Row) → Has old r → Has new r
  pub apart : (r : Row) → Has old r → (Int id ≡ rowid r) → ⊥

-- the realm was known, and nothing changed, or it is added
abbrev pub Knows : List Row → List Row → List ℕ → Type 0
Knows old new realm = ((r : Row) × Has old r × (is_named realm r ≡ true) × (new ≡ old)) ⊎ (((r : Row) → Has old r → is_named realm r ≡ false) × Adds old new realm)

-- whether an epoch can rise
abbrev pub can_rise : Row → Bool
can_rise r = is_ge (int_cmp (id_in (column r 2)) (pos 0)) && is_lt (int_cmp (id_in (column r 2)) (pos 4294967295))

abbrev pub one_can_rise : List ℕ → Row → Bool
one_can_rise realm r = is_named realm r && can_rise r

abbrev pub risen : Row → Row
risen r = realm_row (id_in (column r 0)) (bytes (column r 1)) (id_in (column r 2) +ℤ pos 1)

-- each epoch that is to rise has risen by one, and the others are as they were
pub record Raises (up : Row → Bool) (old new : List Row) : Type 0 where
  pub raised : (r : Row) → Has old r → up r ≡ true → Has new (risen r)
  pub kept : (r : Row) → Has old r → up r ≡ false → Has new r
  pub from : (y : Row) → Has new y → (r : Row) × Has old r × (((up r ≡ true) × (y ≡ risen r)) ⊎ ((up r ≡ false) × (y ≡ r)))
