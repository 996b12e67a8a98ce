-- What outlooks come to, and the rows that are made of them.
use Rattle.std.proofs.Common.{◌≡◌, ◌<◌, ◌++◌, suc, take, length, get_or, append_assoc, Bool, true, false, cond, ℕ, List, [], ◌∷◌, map, refl, ap, sym, ◌∙◌, arith}
use Rattle.std.specs.Prelude.{drop, filter}
use Rattle.std.specs.List.{flat_map, list_all}
use Rattle.std.proofs.Math.Seq.{take-suc}
use Rattle.tip_rows.specs.Branches.{are_branches, is_behind}
use Rattle.tip_txn.specs.Decisions.{Decides}
use Rattle.tip_txn.specs.Parts.{answers_of, changed_at, is_yes}
use Rattle.tip_txn.specs.declared.answer.Decision.{Decision}
use Rattle.tip_txn.specs.declared.part.Participant.{Participant}
use Rattle.tip_txn.proofs.DecisionLemmas.{decides_one}
use Rattle.tip_machine.proofs.Deciding.{decides}
use Rattle.tip_machine.specs.Transactions.{decision, is_spent, members_at}
use Rattle.tip_machine.specs.Types.{PartyPlace}
use Rattle.tip_machine.specs.declared.transaction.PartyPlace.TheVariants.{Here, Out, Spent}
use Rattle.tip_outlook.specs.Wanting.{away, pair_at, pairs_of}

-- Outlooks

pub decided : (parts : List Participant) (d : Decision) → Decides (answers_of parts) d → d ≡ decision (map (λ part. part.answer) parts)
decided parts d is = decides_one (answers_of parts) d (decision (map (λ part. part.answer) parts)) is (decides parts)

pub others_stay : (f : Participant → Participant) (parts : List Participant) → drop 1 (changed_at 0 f parts) ≡ drop 1 parts
others_stay f [] = refl
others_stay f (p ∷ parts) = refl

pub nobody_away : (place : PartyPlace) → members_at (away place) ≡ []
nobody_away (Here party) = refl
nobody_away (Out errand) = refl
nobody_away Spent = refl

pub spent_away : (place : PartyPlace) → is_spent (away place) ≡ is_spent place
spent_away (Here party) = refl
spent_away (Out errand) = refl
spent_away Spent = refl

pub ruleset deciding = (decided, others_stay)

pub ruleset going_away = (decided, nobody_away, spent_away)

-- Rows

-- fewer branches are branches
all_filtered : {T : Type 0} (test keep : T → Bool) (items : List T) → list_all test items ≡ true → list_all test (filter keep items) ≡ true
all_filtered test keep [] all = refl
all_filtered test keep (x ∷ xs) all = grind (arith, all, all_filtered test keep xs)

pub branches_kept : (keep : ℕ × List ℕ → Bool) (branches : List (ℕ × List ℕ)) → are_branches branches ≡ true → are_branches (filter keep branches) ≡ true
branches_kept keep [] is = refl
branches_kept keep (b ∷ branches) is = grind (arith, is, branches_kept keep branches, all_filtered (is_behind b.0 b.1) keep branches)

pub ruleset still_branches = (branches_kept)

-- one item more

filter_more : {T : Type 0} (keep : T → Bool) (items : List T) (item : T) → filter keep (items ++ item ∷ []) ≡ filter keep items ++ filter keep (item ∷ [])
filter_more keep [] item = refl
filter_more keep (x ∷ xs) item = grind (arith, filter_more keep xs item)

pairs_more : (items : List Participant) (item : Participant) → pairs_of (items ++ item ∷ []) ≡ pairs_of items ++ pairs_of (item ∷ [])
pairs_more [] item = refl
pairs_more (x ∷ xs) item = step (is_yes x.answer) (pairs_more xs item) where
  step : (yes : Bool) → pairs_of (xs ++ item ∷ []) ≡ pairs_of xs ++ pairs_of (item ∷ []) →
      flat_map pair_at (cond yes (x ∷ filter (λ part. is_yes part.answer) (xs ++ item ∷ [])) (filter (λ part. is_yes part.answer) (xs ++ item ∷ []))) ≡ flat_map pair_at (cond yes (x ∷ filter (λ part. is_yes part.answer) xs) (filter (λ part. is_yes part.answer) xs)) ++ pairs_of (item ∷ [])
  step true rest = ap (λ pairs. pair_at x ++ pairs) rest ∙ sym (append_assoc (pair_at x) (pairs_of xs) (pairs_of (item ∷ [])))
  step false rest = rest

pub kept_next : {T : Type 0} (keep : T → Bool) (items : List T) (at : ℕ) (other : T) → at < length items → filter keep (take at items) ++ filter keep (get_or items at other ∷ []) ≡ filter keep (take (suc at) items)
kept_next keep items at other lt = sym (filter_more keep (take at items) (get_or items at other)) ∙ ap (filter keep) (sym (take-suc items at other lt))

pub pairs_next : (items : List Participant) (at : ℕ) (other : Participant) → at < length items → pairs_of (take at items) ++ pairs_of (get_or items at other ∷ []) ≡ pairs_of (take (suc at) items)
pairs_next items at other lt = sym (pairs_more (take at items) (get_or items at other)) ∙ ap pairs_of (sym (take-suc items at other lt))

pub ruleset filtering = (kept_next, pairs_next)
