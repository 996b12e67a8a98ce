-- The counts of what the parts of a transaction have answered.
use Rattle.std.proofs.Common.{◌≡◌, ℕ, zero, suc, ◌+◌, ◌<◌, ◌≤◌, ◌^◌, ◌⊎◌, List, [], ◌∷◌, ◌++◌, length, map, Option, Some, None, Bool, true, false, cond, ap, sym, ◌∙◌, arith, refl, inl, inr}
use Rattle.std.proofs.lemmas.List.Sums.{sum_by-cons, sum_by_push}
use Rattle.tip_txn.specs.Decisions.{Decides, Says, Refuses}
use Rattle.tip_txn.specs.Parts.{changed_at, answers_of}
use Rattle.tip_txn.specs.Tallies.{IsTally, IsTallyWith, count_of, is_said}
use Rattle.tip_txn.specs.Transactions.{local_party, promised_parts, willing}
use Rattle.tip_txn.specs.declared.answer.Ballot.{Ballot}
use Rattle.tip_txn.specs.declared.answer.Ballot.TheVariants as answer
use Rattle.tip_txn.specs.declared.answer.Decision.TheVariants.{Wait, Commit, Abort, ReadOnly}
use Rattle.tip_txn.specs.declared.part.Participant.{Participant}
use Rattle.tip_txn.specs.declared.tally.Tally.{Tally}

-- how much a part adds to the count of an answer
abbrev once : Option Ballot → Participant → ℕ
once said p = cond (is_said said p.answer) 1 0

-- the count with a part more in front
count_of-cons : (said : Option Ballot) (p : Participant) (parts : List Participant) → count_of said (p ∷ parts) ≡ once said p + count_of said parts
count_of-cons said p parts = sum_by-cons (once said) p parts

-- an answer is the same as itself
is_said-same : (said : Option Ballot) → is_said said said ≡ true
is_said-same None = refl
is_said-same (Some answer.Yes) = refl
is_said-same (Some answer.No) = refl
is_said-same (Some answer.ReadOnly) = refl
is_said-same (Some answer.Lost) = refl

-- answers that pass for the same are the same
is_said-is : (this that : Option Ballot) → is_said this that ≡ true → that ≡ this
is_said-is None None h = refl
is_said-is (Some answer.Yes) (Some answer.Yes) h = refl
is_said-is (Some answer.No) (Some answer.No) h = refl
is_said-is (Some answer.ReadOnly) (Some answer.ReadOnly) h = refl
is_said-is (Some answer.Lost) (Some answer.Lost) h = refl
is_said-is this that h = absurd cc

-- an answer that some party has is counted
pub counted : (said : Option Ballot) (parts : List Participant) → Says (answers_of parts) said → 0 < count_of said parts
counted said [] (part, h) = absurd cc
counted said (p ∷ parts) (zero, h) =
    let is : p.answer ≡ said = cc in
    let same : is_said said p.answer ≡ true = rw is (is_said-same said) in
    let here : once said p ≡ 1 = ap (λ seen. cond seen 1 0) same in
    omega (arith, count_of-cons said p parts, here)
counted said (p ∷ parts) (suc part, h) = omega (arith, count_of-cons said p parts, counted said parts (part, h))

-- an answer that is counted some party has
pub said-counted : (said : Option Ballot) (parts : List Participant) → 0 < count_of said parts → Says (answers_of parts) said
said-counted said [] h = absurd (omega (arith, h))
said-counted said (p ∷ parts) h = first (is_said said p.answer) refl (said-counted said parts) where
  first : (seen : Bool) → is_said said p.answer ≡ seen → (0 < count_of said parts → Says (answers_of parts) said) → Says (answers_of (p ∷ parts)) said
  first true is behind = (0, ap Some (is_said-is said p.answer is))
  first false is behind =
      let none : once said p ≡ 0 = ap (λ seen. cond seen 1 0) is in
      let (part, there) = behind (omega (arith, h, count_of-cons said p parts, none)) in
      (suc part, there)

-- a part of this answer among others, as the counts see it
pub record Taken (parts : List Participant) (part : ℕ) (said : Option Ballot) : Type 0 where
  pub one : Participant
  pub others : List Participant
  pub has_it : one.answer ≡ said
  pub counts : (other : Option Ballot) → count_of other (one ∷ others) ≡ count_of other parts
  pub changed : (change : Participant → Participant) (other : Option Ballot) → count_of other (change one ∷ others) ≡ count_of other (changed_at part change parts)
  pub few : length parts ≡ suc (length others)

-- for the counts a part may as well stand first
pub taken : (parts : List Participant) (part : ℕ) (said : Option Ballot) → answers_of parts part said → Taken parts part said
taken [] part said h = absurd cc
taken (p ∷ parts) zero said h = record { one = p; others = parts; has_it = cc; counts = λ _. refl; changed = λ _ _. refl; few = refl }
taken (p ∷ parts) (suc part) said h =
    let t = taken parts part said h in
    record {
      one = t.one;
      others = p ∷ t.others;
      has_it = t.has_it;
      counts = λ other. swapped other t.one p t.others parts (t.counts other);
      changed = λ change other. swapped other (change t.one) p t.others (changed_at part change parts) (t.changed change other);
      few = ap suc t.few;
    } where
      -- so may one behind it
      swapped : (other : Option Ballot) (x y : Participant) (xs ys : List Participant) → count_of other (x ∷ xs) ≡ count_of other ys → count_of other (x ∷ y ∷ xs) ≡ count_of other (y ∷ ys)
      swapped other x y xs ys e = omega (arith, e, count_of-cons other x xs, count_of-cons other x (y ∷ xs), count_of-cons other y xs, count_of-cons other y ys)

-- parts of the same counts have the same tally
pub tally-same : (tally : Tally) (xs ys : List Participant) → ((said : Option Ballot) → count_of said xs ≡ count_of said ys) → IsTally tally xs → IsTally tally ys
tally-same tally xs ys same is = record {
  missing = is.missing ∙ same None;
  yes = is.yes ∙ same (Some answer.Yes);
  no = is.no ∙ same (Some answer.No);
  lost = is.lost ∙ same (Some answer.Lost);
}

-- a tally of parts of which one has this answer
pub tally-with : (tally : Tally) (parts : List Participant) (part : ℕ) (said : Option Ballot) → answers_of parts part said → length parts < 2 ^ 64 → IsTally tally parts → IsTallyWith tally said
tally-with tally parts part said h few is =
    let t = taken parts part said h in
    record { one = t.one; others = t.others; has_it = t.has_it; is = tally-same tally parts (t.one ∷ t.others) (λ other. sym (t.counts other)) is; few = omega (arith, few, t.few) }

-- a part counts the same in front of the others as behind them
pub count_of-behind : (said : Option Ballot) (p : Participant) (parts : List Participant) → count_of said (p ∷ parts) ≡ count_of said (parts ++ p ∷ [])
count_of-behind said p parts = omega (arith, count_of-cons said p parts, sum_by_push (once said) parts p)

-- each subordinate of a stored row is counted under yes
willing-yes : (subordinates : List (List ℕ × List ℕ)) → count_of (Some answer.Yes) (map willing subordinates) ≡ length (map willing subordinates)
willing-yes [] = refl
willing-yes (s ∷ subordinates) = omega (arith, count_of-cons (Some answer.Yes) (willing s) (map willing subordinates), willing-yes subordinates)

-- and under nothing else
willing-no : (said : Option Ballot) → is_said said (Some answer.Yes) ≡ false → (subordinates : List (List ℕ × List ℕ)) → count_of said (map willing subordinates) ≡ 0
willing-no said other [] = refl
willing-no said other (s ∷ subordinates) =
    let none : once said (willing s) ≡ 0 = ap (λ seen. cond seen 1 0) other in
    omega (arith, count_of-cons said (willing s) (map willing subordinates), none, willing-no said other subordinates)

-- so are all its parts
pub promised-yes : (subordinates : List (List ℕ × List ℕ)) → count_of (Some answer.Yes) (promised_parts subordinates) ≡ length (promised_parts subordinates)
promised-yes subordinates = omega (arith, count_of-cons (Some answer.Yes) (record local_party { answer = Some answer.Yes }) (map willing subordinates), willing-yes subordinates)

-- and none of them under anything else
pub promised-no : (said : Option Ballot) → is_said said (Some answer.Yes) ≡ false → (subordinates : List (List ℕ × List ℕ)) → count_of said (promised_parts subordinates) ≡ 0
promised-no said other subordinates =
    let none : once said (record local_party { answer = Some answer.Yes }) ≡ 0 = ap (λ seen. cond seen 1 0) other in
    omega (arith, count_of-cons said (record local_party { answer = Some answer.Yes }) (map willing subordinates), none, willing-no said other subordinates)

-- an answer that is not counted nobody has
pub not-said : (said : Option Ballot) (parts : List Participant) → count_of said parts ≤ 0 → Says (answers_of parts) said → ⊥
not-said said parts none says = omega (arith, none, counted said parts says)

-- what a tally decides
module _ (tally : Tally) (parts : List Participant) (is : IsTally tally parts) where
  -- where no refusal is counted, no party refuses
  not-refused : (tally.no ≤ 0) × (tally.lost ≤ 0) → Refuses (answers_of parts) → ⊥
  not-refused none (inl says) = not-said (Some answer.No) parts (rw is.no at none.0) says
  not-refused none (inr says) = not-said (Some answer.Lost) parts (rw is.lost at none.1) says

  -- where a refusal is counted
  pub decides-abort : (0 < tally.no) ⊎ ((tally.no ≤ 0) × (0 < tally.lost)) → Decides (answers_of parts) Abort
  decides-abort (inl some) = inl (said-counted (Some answer.No) parts (rw is.no at some))
  decides-abort (inr some) = inr (said-counted (Some answer.Lost) parts (rw is.lost at some.1))

  -- where none is, and an answer is missing
  pub decides-wait : (tally.no ≤ 0) × (tally.lost ≤ 0) → 0 < tally.missing → Decides (answers_of parts) Wait
  decides-wait none some = (not-refused none, said-counted None parts (rw is.missing at some))

  -- where all have answered, and one is prepared
  pub decides-commit : (tally.no ≤ 0) × (tally.lost ≤ 0) → tally.missing ≤ 0 → 0 < tally.yes → Decides (answers_of parts) Commit
  decides-commit none all some = (not-refused none, not-said None parts (rw is.missing at all), said-counted (Some answer.Yes) parts (rw is.yes at some))

  -- where nobody is
  pub decides-read_only : (tally.no ≤ 0) × (tally.lost ≤ 0) → tally.missing ≤ 0 → tally.yes ≤ 0 → Decides (answers_of parts) ReadOnly
  decides-read_only none all nobody = (not-refused none, not-said None parts (rw is.missing at all), not-said (Some answer.Yes) parts (rw is.yes at nobody))
