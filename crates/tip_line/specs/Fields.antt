-- The fields of a text, which stand between single marks.
use Rattle.std.specs.Prelude.{ℕ, List, [], Option, Some, None, eqb}
use Rattle.std.specs.Borrow.{Bor}
use Rattle.std.specs.List.{slice_split}

-- a text without a mark is one field, be it of no octets
abbrev pub fields_of : ℕ → List ℕ → List (List ℕ)
fields_of mark text = slice_split (λ octet. eqb octet mark) text

-- those that were not taken: None behind the last
abbrev pub left_in : ℕ → Option (Bor (List ℕ)) → List (List ℕ)
left_in mark None = []
left_in mark (Some rest) = fields_of mark rest.now
