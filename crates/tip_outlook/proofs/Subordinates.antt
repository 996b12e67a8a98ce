-- The parts of a transaction once something is noted of one of them.
use Rattle.std.proofs.Common.{◌≡◌, ◌≤◌, ◌<◌, ◌+◌, ◌-◌, ◌++◌, ◌==◌, Bool, true, false, cond, ℕ, zero, suc, List, [], ◌∷◌, Option, Some, None, length, map, take, get_or, refl, ap, arith, sym, ◌∙◌, append-nil, append_assoc}
use Rattle.std.specs.Prelude.{◌||◌, drop, filter, is_none, slice_get, if◌then◌else◌}
use Rattle.std.specs.List.{flat_map, list_any}
use Rattle.std.proofs.lemmas.Bool.Decides.{nat_tests}
use Rattle.std.proofs.lemmas.List.Folds.{list_all-append, list_any-append}
use Rattle.std.proofs.lemmas.Option.{same_Some, none-some, slice_get_within}
use Rattle.tip_txn.specs.Parts.{changed_at, is_yes}
use Rattle.tip_txn.specs.declared.answer.Ballot.{Ballot}
use Rattle.tip_txn.specs.declared.answer.Decision.{Decision}
use Rattle.tip_txn.specs.declared.answer.Decision.TheVariants as decisions
use Rattle.tip_txn.specs.declared.part.Participant.{Participant}
use Rattle.tip_machine.specs.Transactions.{decision, refuses}
use Rattle.tip_outlook.proofs.Outlooks.{others_stay, pairs_next}
use Rattle.tip_outlook.specs.Deciding.{is_sought, says}
use Rattle.tip_outlook.specs.Noting.{noted}
use Rattle.tip_outlook.specs.Wanting.{pair_at, pairs_of}
use Rattle.tip_outlook.specs.declared.noting.Note.{Note}
use Rattle.tip_outlook.specs.declared.noting.Note.TheVariants as note
use Rattle.tip_outlook.specs.declared.others.Sought.TheVariants as sought

-- Which they are

pub ruleset as_they_are = (append-nil)

split_at : (f : Participant → Participant) (place : ℕ) (others : List Participant) (p : Participant) → slice_get others place ≡ Some p → take place others ++ (f p ∷ drop (suc place) others) ≡ changed_at place f others
split_at f place [] p is = absurd (none-some p is)
split_at f zero (x ∷ others) p is = ap (λ (q : Participant). f q ∷ others) (sym (same_Some x p is))
split_at f (suc place) (x ∷ others) p is = ap (λ rest. x ∷ rest) (split_at f place others p is)

-- where there is no such part, none is changed
pub no_part : (part : ℕ) (change : Participant → Participant) (parts : List Participant) → slice_get parts part ≡ None → changed_at part change parts ≡ parts
no_part part change [] none = refl
no_part zero change (p ∷ parts) none = absurd (cc)
no_part (suc part) change (p ∷ parts) none = ap (λ ps. p ∷ ps) (no_part part change parts none)

module _ (f : Participant → Participant) (parts : List Participant) where
  pub noted_none : (place : ℕ) → slice_get parts place ≡ None → drop 1 parts ≡ drop 1 (changed_at place f parts)
  noted_none place none = ap (drop 1) (sym (no_part place f parts none))

  pub noted_local : drop 1 parts ≡ drop 1 (changed_at 0 f parts)
  noted_local = sym (others_stay f parts)

pub noted_other : (f : Participant → Participant) (parts : List Participant) (place : ℕ) (p : Participant) → 0 < place → slice_get parts place ≡ Some p → take (place - 1) (drop 1 parts) ++ (f p ∷ drop place (drop 1 parts)) ≡ drop 1 (changed_at place f parts)
noted_other f [] place p some is = absurd (none-some p is)
noted_other f (x ∷ others) zero p some is = absurd (omega (arith, some))
noted_other f (x ∷ others) (suc place) p some is =
    let less : suc place - 1 ≡ place = omega arith in
    ap (λ n. take n others ++ (f p ∷ drop (suc place) others)) less ∙ split_at f place others p is

length_behind : (parts : List Participant) (place : ℕ) → place < length parts → place ≤ length (drop 1 parts)
length_behind [] place lt = absurd (omega (arith, lt))
length_behind (x ∷ others) place lt = omega (arith, lt)

pub is_within : (parts : List Participant) (place : ℕ) (p : Participant) → slice_get parts place ≡ Some p → place ≤ length (drop 1 parts)
is_within parts place p is = length_behind parts place (slice_get_within parts place p is)

pub ruleset noting = (noted_none, noted_local, noted_other, is_within)

-- What they say

pub ruleset each = (list_all-append)

pub ruleset some = (list_any-append)

any_mapped : {T U : Type 0} (test : U → Bool) (f : T → U) (items : List T) → list_any test (map f items) ≡ list_any (λ item. test (f item)) items
any_mapped test f [] = refl
any_mapped test f (x ∷ xs) = ap (λ b. test (f x) || b) (any_mapped test f xs)

pub decides_by : (local : Option Ballot) (others : List Participant) → decision (local ∷ map (λ p. p.answer) others)
    ≡ cond (is_sought sought.Refusal local || list_any (says sought.Refusal) others) decisions.Abort
    (cond (is_sought sought.Nothing local || list_any (says sought.Nothing) others) decisions.Wait
    (cond (is_sought sought.Yes local || list_any (says sought.Yes) others) decisions.Commit decisions.ReadOnly))
decides_by local others =
    ap (λ r. cond (refuses local || r) decisions.Abort (cond (is_none local || list_any is_none (map (λ p. p.answer) others)) decisions.Wait (cond (is_yes local || list_any is_yes (map (λ p. p.answer) others)) decisions.Commit decisions.ReadOnly))) (any_mapped refuses (λ (p : Participant). p.answer) others)
    ∙ ap (λ n. cond (refuses local || list_any (says sought.Refusal) others) decisions.Abort (cond (is_none local || n) decisions.Wait (cond (is_yes local || list_any is_yes (map (λ p. p.answer) others)) decisions.Commit decisions.ReadOnly))) (any_mapped is_none (λ (p : Participant). p.answer) others)
    ∙ ap (λ y. cond (refuses local || list_any (says sought.Refusal) others) decisions.Abort (cond (is_none local || list_any (says sought.Nothing) others) decisions.Wait (cond (is_yes local || y) decisions.Commit decisions.ReadOnly))) (any_mapped is_yes (λ (p : Participant). p.answer) others)

pub ruleset deciding = (decides_by)

pub with_local : (f : Participant → Participant) (parts : List Participant) (part : ℕ) (local : Participant) → slice_get parts 0 ≡ Some local → map (λ p. p.answer) (changed_at part f parts) ≡ (if part == 0 then f local else local).answer ∷ map (λ p. p.answer) (drop 1 (changed_at part f parts))
with_local f [] part local is = absurd (none-some local is)
with_local f (x ∷ others) zero local is = ap (λ (p : Participant). (f p).answer ∷ map (λ q. q.answer) others) (same_Some x local is)
with_local f (x ∷ others) (suc part) local is =
    let no : (suc part == 0) ≡ false = grind (arith, nat_tests) in
    ap (λ (p : Participant). p.answer ∷ map (λ q. q.answer) (changed_at part f others)) (same_Some x local is) ∙ sym (ap (λ b. (cond b (f local) local).answer ∷ map (λ q. q.answer) (changed_at part f others)) no)

pub decided_with : (f : Participant → Participant) (parts : List Participant) (part : ℕ) (local : Participant) (said : Option Ballot) (others : List Participant) (d : Decision) → slice_get parts 0 ≡ Some local → said ≡ (if part == 0 then f local else local).answer → others ≡ drop 1 (changed_at part f parts) → d ≡ decision (said ∷ map (λ p. p.answer) others) → d ≡ decision (map (λ p. p.answer) (changed_at part f parts))
decided_with f parts part local said others d is says_so rest so =
    so ∙ ap (λ s. decision (s ∷ map (λ (p : Participant). p.answer) others)) says_so ∙ ap (λ (os : List Participant). decision ((if part == 0 then f local else local).answer ∷ map (λ p. p.answer) os)) rest ∙ ap decision (sym (with_local f parts part local is))

pub without_local : (f : Participant → Participant) (parts : List Participant) (part : ℕ) → slice_get parts 0 ≡ None → decisions.ReadOnly ≡ decision (map (λ p. p.answer) (changed_at part f parts))
without_local f [] part none = refl
without_local f (x ∷ others) part none = absurd (cc)

pub ruleset deciding_noted = (decided_with, without_local)

-- Their pairs

pairs_append : (these those : List Participant) → pairs_of (these ++ those) ≡ pairs_of these ++ pairs_of those
pairs_append [] those = refl
pairs_append (x ∷ these) those = step (is_yes x.answer) (pairs_append these those) where
  step : (yes : Bool) → pairs_of (these ++ those) ≡ pairs_of these ++ pairs_of those →
      flat_map pair_at (cond yes (x ∷ filter (λ part. is_yes part.answer) (these ++ those)) (filter (λ part. is_yes part.answer) (these ++ those))) ≡ flat_map pair_at (cond yes (x ∷ filter (λ part. is_yes part.answer) these) (filter (λ part. is_yes part.answer) these)) ++ pairs_of those
  step true rest = ap (λ pairs. pair_at x ++ pairs) rest ∙ sym (append_assoc (pair_at x) (pairs_of these) (pairs_of those))
  step false rest = rest

pub pairs_joined : (front one back : List Participant) → (pairs_of front ++ pairs_of one) ++ pairs_of back ≡ pairs_of (front ++ (one ++ back))
pairs_joined front one back = append_assoc (pairs_of front) (pairs_of one) (pairs_of back) ∙ ap (λ pairs. pairs_of front ++ pairs) (sym (pairs_append one back)) ∙ sym (pairs_append front (one ++ back))

pub ruleset pairing = (pairs_joined)

pub pairs_grown : (old : List (List ℕ × List ℕ)) (items : List Participant) (at : ℕ) (other : Participant) → at < length items → (old ++ pairs_of (take at items)) ++ pairs_of (get_or items at other ∷ []) ≡ old ++ pairs_of (take (suc at) items)
pairs_grown old items at other lt = append_assoc old (pairs_of (take at items)) (pairs_of (get_or items at other ∷ [])) ∙ ap (λ pairs. old ++ pairs) (pairs_next items at other lt)

pub ruleset adding = (pairs_grown, append-nil)

pub noted_address : (n : Note) (p : Participant) → (noted n p).address ≡ p.address
noted_address note.Nothing p = refl
noted_address (note.Answered said) p = refl
noted_address (note.Named id) p = refl
noted_address note.Acknowledged p = refl

pub ruleset adding_one = (noted_address, append-nil)
