-- What stands at the keys of a TOML table.
use Rattle.std.specs.Prelude.{ℕ, ℤ, List, [], ◌∷◌, Option, Some}
use Rattle.tip_rows.specs.Reading.{◌>>=◌}
use Rattle.toml.specs.Data.{Data, Items, no_items, item, Members, as_array, as_integer, as_str, get_member}

-- the text, the whole number and the array at a key
abbrev pub text_at : List ℕ → Members → Option (List ℕ)
text_at key table = get_member key table >>= as_str

abbrev pub integer_at : List ℕ → Members → Option ℤ
integer_at key table = get_member key table >>= as_integer

abbrev pub array_at : List ℕ → Members → Option Items
array_at key table = get_member key table >>= as_array

-- what each item of an array is read as, where each is read
unfoldable pub each_of : {A : Type 0} → (Data → Option A) → Items → Option (List A)
each_of read no_items = Some []
each_of read (item first rest) = do
  x ← read first
  xs ← each_of read rest
  Some (x ∷ xs)
