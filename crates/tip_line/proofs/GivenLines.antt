-- What a reader of lines gives, by what its stream gives.
use Rattle.std.proofs.Common.{◌≡◌, ℕ, List, [], ◌∷◌, ◌++◌, Option, Some, None, option_map, subst, sym, ap, ◌∙◌}
use Rattle.std.proofs.lemmas.List.{append-nil}
use Rattle.std.specs.Borrow.{Bor}
use Rattle.tip_line.specs.Reading.{Item, Text, Bad, Leaves, Gives, Reads, item_of, items_of}
use Rattle.tip_line.specs.declared.lines.Cause.{Cause}
use Rattle.tip_line.specs.declared.lines.Line.{Line}
use Rattle.tip_line.specs.declared.lines.Line.TheVariants as line
use Rattle.tip_line.proofs.ReadingLaws.{reads_items, reads_one}

-- a stream gives what its reader gave, and then what the reader still has, whatever comes
pub given_behind : (old : List ℕ) (items : List Item) (new : List ℕ) → Leaves old items new → (more : List ℕ) → items_of (old ++ more) ≡ items ++ items_of (new ++ more)
given_behind old items new leaves more = reads_one (old ++ more) (items_of (old ++ more)) (items ++ items_of (new ++ more)) (reads_items (old ++ more)) ((leaves.same more (items_of (new ++ more))).0 (reads_items (new ++ more)))

pub text_given : (old new : List ℕ) (r : Option Line) (text : Bor (List ℕ)) → Gives old (option_map item_of r) new → r ≡ Some (line.Text text) → (more : List ℕ) → items_of (old ++ more) ≡ Text text.now ∷ items_of (new ++ more)
text_given old new r text given is more = given_behind old (Text text.now ∷ []) new (subst (λ s. Gives old (option_map item_of s) new) is given).0 more

pub fault_given : (old new : List ℕ) (r : Option Line) (cause : Cause) → Gives old (option_map item_of r) new → r ≡ Some (line.Bad cause) → (more : List ℕ) → items_of (old ++ more) ≡ Bad cause ∷ []
fault_given old new r cause given is more = reads_one (old ++ more) (items_of (old ++ more)) (Bad cause ∷ []) (reads_items (old ++ more)) ((subst (λ s. Gives old (option_map item_of s) new) is given).0 more)

pub nothing_given : (old new : List ℕ) (r : Option Line) → Gives old (option_map item_of r) new → r ≡ None → (items_of (old ++ []) ≡ []) × ((more : List ℕ) → items_of (new ++ more) ≡ items_of (old ++ more))
nothing_given old new r given is =
    let g = subst (λ s. Gives old (option_map item_of s) new) is given in
    (ap items_of (append-nil old) ∙ reads_one old (items_of old) [] (reads_items old) g.0, λ more. sym (given_behind old [] new g.1 more))

-- where it gives nothing, nothing is read
pub nothing_read : (octets : List ℕ) → items_of (octets ++ []) ≡ [] → Reads octets []
nothing_read octets none = subst (Reads octets) (sym (ap items_of (append-nil octets)) ∙ none) (reads_items octets)
