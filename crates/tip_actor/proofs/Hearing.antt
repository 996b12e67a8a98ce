-- The items of a stream, as more of it comes.
use Rattle.std.proofs.Common.{◌≡◌, ℕ, List, [], ◌∷◌, ◌++◌, length, drop, Bool, true, false, Option, Some, None, refl, sym, ap, ◌∙◌}
use Rattle.std.proofs.lemmas.List.{append_assoc, drop_at}
use Rattle.tip_line.specs.Octets.{is_end}
use Rattle.tip_line.specs.Reading.{Item, said, items_from, items_of, cause_of}
use Rattle.tip_line.specs.declared.lines.Cause.{Cause}
use Rattle.tip_actor.specs.Acting.{lines_of}

-- what was given stays, whatever comes
record Grows (before all : List Item) : Type 0 where
  later : List Item
  whole : all ≡ before ++ later

grows_at : (line rest more : List ℕ) (octet : ℕ) (end : Bool) (cause : Option Cause) → is_end octet ≡ end → cause_of (length line) octet ≡ cause → Grows (items_from [] rest) (items_from [] (rest ++ more)) → Grows (items_from (line ++ octet ∷ []) rest) (items_from (line ++ octet ∷ []) (rest ++ more)) → Grows (items_from line (octet ∷ rest)) (items_from line (octet ∷ rest ++ more))
grows_at line rest more octet true cause e c behind open_ = rw e (record { later = behind.later; whole = ap (λ items. said line ++ items) behind.whole ∙ sym (append_assoc (said line) (items_from [] rest) behind.later) })
grows_at line rest more octet false (Some cause) e c behind open_ = rw (e, c) (record { later = []; whole = refl })
grows_at line rest more octet false None e c behind open_ = rw (e, c) open_

grows_from : (line octets more : List ℕ) → Grows (items_from line octets) (items_from line (octets ++ more))
grows_from line [] more = record { later = items_from line more; whole = refl }
grows_from line (octet ∷ rest) more = grows_at line rest more octet (is_end octet) (cause_of (length line) octet) refl refl (grows_from [] rest more) (grows_from (line ++ octet ∷ []) rest more)

-- the items of a stream, and then those of what comes behind it
pub items_behind : (heard more : List ℕ) → items_of (heard ++ more) ≡ items_of heard ++ lines_of heard more
items_behind heard more =
    let g = grows_from [] heard more in
    g.whole ∙ ap (λ later. items_of heard ++ later) (sym (ap (drop (length (items_of heard))) g.whole ∙ drop_at (items_of heard) g.later (length (items_of heard)) refl))

-- lines that end behind both pieces, or behind one after the other
pub lines_behind : (heard octets more : List ℕ) → lines_of heard (octets ++ more) ≡ lines_of heard octets ++ lines_of (heard ++ octets) more
lines_behind heard octets more =
    let whole = items_behind (heard ++ octets) more ∙ ap (λ items. items ++ lines_of (heard ++ octets) more) (items_behind heard octets) ∙ append_assoc (items_of heard) (lines_of heard octets) (lines_of (heard ++ octets) more) in
    ap (λ o. drop (length (items_of heard)) (items_of o)) (sym (append_assoc heard octets more)) ∙ ap (drop (length (items_of heard))) whole ∙ drop_at (items_of heard) (lines_of heard octets ++ lines_of (heard ++ octets) more) (length (items_of heard)) refl
