-- The texts that are printed piece by piece are the words that are written.
use Rattle.std.proofs.Common.{◌≡◌, ℕ, ◌-◌, ◌<◌, ◌≤◌, length, get_or, take, drop, List, [], ◌∷◌, ◌++◌, map, true, ◌&&◌, nat_le, sym, ap, ◌∙◌, arith, append_assoc, append-nil, codes}
use Rattle.std.specs.Fmt.{decimal}
use Rattle.std.specs.List.{list_all, join_with_byte}
use Rattle.std.proofs.lemmas.Bool.Decides.{nat_tests}
use Rattle.std.proofs.lemmas.Fmt.{decimal_digit}
use Rattle.std.proofs.lemmas.Grind.{common_steps}
use Rattle.tip_line.proofs.StopLemmas.{and_left, and_right}
use Rattle.tip_rows.specs.Branches.{are_branches, is_behind}
use Rattle.tip_rows.specs.Rows.{item, branches_word, subordinate_words, others_text, subordinates_text, written}
use Rattle.tip_rows.specs.declared.row.Row.TheVariants.{Prepared, Committed}

-- the first of branches has a number from 1 to 8, and the others are branches
pub first_range : (b : ℕ × List ℕ) (branches : List (ℕ × List ℕ)) → are_branches (b ∷ branches) ≡ true → (nat_le 1 b.0 && nat_le b.0 8) ≡ true
first_range b branches h =
    and_left (nat_le 1 b.0 && nat_le b.0 8) (list_all (is_behind b.0 b.1) branches) (and_left (nat_le 1 b.0 && nat_le b.0 8 && list_all (is_behind b.0 b.1) branches) (are_branches branches) h)

first_number : (b : ℕ × List ℕ) (branches : List (ℕ × List ℕ)) → are_branches (b ∷ branches) ≡ true → b.0 < 10
first_number b branches h = let most = and_right (nat_le 1 b.0) (nat_le b.0 8) (first_range b branches h) in grind (arith, nat_tests)

pub other_branches : (b : ℕ × List ℕ) (branches : List (ℕ × List ℕ)) → are_branches (b ∷ branches) ≡ true → are_branches branches ≡ true
other_branches b branches h = and_right (nat_le 1 b.0 && nat_le b.0 8 && list_all (is_behind b.0 b.1) branches) (are_branches branches) h

item_written : (b : ℕ × List ℕ) → b.0 < 10 → decimal b.0 ++ 58 ∷ b.1 ≡ item b
item_written b h = ap (λ d. d ++ 58 ∷ b.1) (decimal_digit b.0 h)

items_written : (b : ℕ × List ℕ) (others : List (ℕ × List ℕ)) → are_branches (b ∷ others) ≡ true → item b ++ others_text others ≡ join_with_byte 44 (map item (b ∷ others))
items_written b [] h = append-nil (item b)
items_written b (next ∷ others) h =
    let rest = other_branches b (next ∷ others) h in
    ap (λ t. item b ++ 44 ∷ t) (ap (λ i. i ++ others_text others) (item_written next (first_number next others rest)) ∙ items_written next others rest)

-- all that is printed of branches is their word
pub branches_written : (branches : List (ℕ × List ℕ)) (d e : ℕ × List ℕ) → 1 ≤ length branches → are_branches branches ≡ true →
    decimal (get_or branches 0 d).0 ++ (58 ∷ ((get_or branches 0 e).1 ++ others_text (take (length branches - 1) (drop 1 branches)))) ≡ branches_word branches
branches_written [] d e some h = absurd (omega arith)
branches_written (b ∷ others) d e some h =
    let all : take (length (b ∷ others) - 1) others ≡ others = grind (arith, common_steps) in
    ap (λ os. decimal b.0 ++ (58 ∷ (b.1 ++ others_text os))) all ∙ ap (λ d. d ++ (58 ∷ (b.1 ++ others_text others))) (decimal_digit b.0 (first_number b others h)) ∙ items_written b others h

pub words_written : (word : List ℕ) (subordinates : List (List ℕ × List ℕ)) → join_with_byte 32 (word ∷ subordinate_words subordinates) ≡ word ++ subordinates_text subordinates
words_written word [] = sym (append-nil word)
words_written word (s ∷ subordinates) =
    ap (λ t. word ++ 32 ∷ (s.0 ++ 32 ∷ t)) (words_written s.1 subordinates) ∙ ap (λ t. word ++ 32 ∷ t) (sym (append_assoc s.0 (32 ∷ s.1) (subordinates_text subordinates)))

pub committed_written : (branches : List (ℕ × List ℕ)) (subordinates : List (List ℕ × List ℕ)) → codes "2 C " ++ branches_word branches ++ subordinates_text subordinates ≡ written (Committed branches subordinates)
committed_written branches subordinates = ap (λ t. codes "2 C " ++ t) (sym (words_written (branches_word branches) subordinates))

pub prepared_written : (address superior : List ℕ) (branches : List (ℕ × List ℕ)) (subordinates : List (List ℕ × List ℕ)) → codes "2 P " ++ (address ++ (32 ∷ (superior ++ (32 ∷ (branches_word branches ++ subordinates_text subordinates))))) ≡ written (Prepared address superior branches subordinates)
prepared_written address superior branches subordinates = ap (λ t. codes "2 P " ++ (address ++ (32 ∷ (superior ++ (32 ∷ t))))) (sym (words_written (branches_word branches) subordinates))
