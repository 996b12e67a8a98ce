-- Where the first field of a text ends.
use Rattle.std.proofs.Common.{◌≡◌, ℕ, ◌+◌, ◌-◌, ◌<◌, ◌≤◌, List, [], ◌∷◌, length, take, drop, Some, None, Bool, true, false, eqb, cond, nat_lt, refl, ap, sym, ◌∙◌, arith}
use Rattle.std.specs.List.{slice_split, position, position_or_len}
use Rattle.std.proofs.lemmas.Bool.Decides.{nat_tests}
use Rattle.std.proofs.lemmas.List.{take_all, length-drop}
use Rattle.std.proofs.lemmas.List.Sums.{fails_before_first}
use Rattle.std.proofs.lemmas.List.Splits.{join_with_byte-slice_split, length-slice_split, slice_split_first, slice_split_none}
use Rattle.std.specs.List.{join_with_byte}
use Rattle.tip_line.specs.Fields.{fields_of}

found : (n len end : ℕ) (within : Bool) → nat_lt n len ≡ within → cond within (Some n) None ≡ Some end → (n < len) × (n ≡ end)
found n len end true h e = (grind (arith, nat_tests), cc)
found n len end false h e = absurd (cc)

not_found : (n len : ℕ) (within : Bool) → nat_lt n len ≡ within → cond within (Some n) None ≡ None → len ≤ n
not_found n len true h e = absurd (cc)
not_found n len false h e = grind (arith, nat_tests)

-- what stands from an index on
pub rest_from : (text : List ℕ) (from : ℕ) → take (length text - from) (drop from text) ≡ drop from text
rest_from text from = take_all (length text - from) (drop from text) (rw length-drop (omega arith))

-- a field ends at the first mark, or with the text
pub field_cut : (mark : ℕ) (rest more : List ℕ) (end : ℕ) → position (λ octet. eqb octet mark) rest ≡ Some end → more ≡ drop (end + 1) rest → fields_of mark rest ≡ take end rest ∷ fields_of mark more
field_cut mark rest more end e m =
    let at = found (position_or_len (λ octet. eqb octet mark) rest) (length rest) end (nat_lt (position_or_len (λ octet. eqb octet mark) rest) (length rest)) refl e in
    slice_split_first (λ octet. eqb octet mark) rest 0 at.0 ∙ ap (λ n. take n rest ∷ slice_split (λ octet. eqb octet mark) (drop (n + 1) rest)) at.1 ∙ ap (λ t. take end rest ∷ slice_split (λ octet. eqb octet mark) t) (sym m)

pub field_last : (mark : ℕ) (rest : List ℕ) → position (λ octet. eqb octet mark) rest ≡ None → fields_of mark rest ≡ rest ∷ []
field_last mark rest e =
    let none = not_found (position_or_len (λ octet. eqb octet mark) rest) (length rest) (nat_lt (position_or_len (λ octet. eqb octet mark) rest) (length rest)) refl e in
    slice_split_none (λ octet. eqb octet mark) rest (λ k d h. fails_before_first (λ octet. eqb octet mark) rest k d (omega (arith, none, h)))

-- fields with the marks between them are the text
pub joined : (mark : ℕ) (text : List ℕ) → join_with_byte mark (fields_of mark text) ≡ text
joined mark text = join_with_byte-slice_split mark text

-- a text has a field, be it one of no octets
pub some_field : (mark : ℕ) (text : List ℕ) → fields_of mark text ≡ [] → ⊥
some_field mark text is = let none = ap length is in let some = length-slice_split (λ octet. eqb octet mark) text in omega (arith, none, some)
