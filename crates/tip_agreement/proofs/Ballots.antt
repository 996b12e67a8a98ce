-- A party that answers yes or read-only: each of its branches was asked, and voted so.
use Rattle.std.proofs.Common.{◌≡◌, Bool, true, false, ℕ, List, [], ◌∷◌, Option, Some, None, cond, refl, ap, subst, sym, ◌∙◌, inl, inr}
use Rattle.std.specs.Prelude.{◌&&◌, ◌||◌, ◌==◌, filter, is_none, is_some, map, not, option_map}
use Rattle.std.specs.List.{list_all, list_any}
use Rattle.std.specs.Option.{option_map_or}
use Rattle.std.proofs.lemmas.Bool.{and_from, and_parts, or_cases, or_left, or_parts, or_right}
use Rattle.tip_branch.specs.Members.{aborting, committing, forgetting, is_active, is_no, is_ready, voting}
use Rattle.tip_branch.specs.Notes.{PartyNotes}
use Rattle.tip_branch.specs.Votes.{answer_of, ballot}
use Rattle.tip_branch.specs.declared.branch.Settled.{Settled}
use Rattle.tip_branch.specs.declared.branch.Vote.{Vote}
use Rattle.tip_branch.specs.declared.branch.Vote.TheVariants as vote
use Rattle.tip_branch.specs.declared.member.Errand.{Errand}
use Rattle.tip_branch.specs.declared.member.Errand.TheVariants as errand
use Rattle.tip_branch.specs.declared.member.Member.{Member}
use Rattle.tip_txn.specs.Parts.{is_yes}
use Rattle.tip_txn.specs.declared.answer.Ballot.{Ballot}
use Rattle.tip_txn.specs.declared.answer.Ballot.TheVariants.{No}
use Rattle.tip_txn.specs.declared.answer.Decision.TheVariants as decisions
use Rattle.tip_machine.specs.Agreement.{is_willing, is_willing_vote}
use Rattle.tip_machine.specs.Invariants.Parties.{are_unasked, is_unasked}
use Rattle.tip_machine.specs.Returns.{Back, aborted_if_ready, back_of, called, settled_by, voted_by}
use Rattle.tip_machine.specs.Transactions.{as_answer, party_answer, refuses}
use Rattle.tip_agreement.proofs.Apart.{all_more}
use Rattle.tip_agreement.proofs.Coming.{called_among, is_called_so}

-- VOTES

-- it voted yes or read-only
abbrev pub has_agreed : Member → Bool
has_agreed m = option_map_or is_willing_vote m.call false

-- it is left active, or refused, or agreed
abbrev has_voted : Member → Bool
has_voted m = is_active m || (refuses (ballot m) || has_agreed m)

left_active : (ms : List Member) → list_all is_unasked ms ≡ true → list_all has_voted ms ≡ true
left_active ms = all_more is_unasked has_voted ms (λ m is. or_left (is_active m) _ (and_parts (is_active m) (is_none m.vote) is).0)

votes_agree : (votes : List Vote) (ms : List Member) → list_all is_unasked ms ≡ true → list_all has_voted (voted_by votes ms) ≡ true
votes_agree votes [] all = refl
votes_agree [] (m ∷ ms) all = left_active (m ∷ ms) all
votes_agree (v ∷ votes) (m ∷ ms) all = let parts = and_parts (is_unasked m) (list_all is_unasked ms) all in step (is_active m) (is_no v) (and_parts (is_active m) (is_none m.vote) parts.0).0 (votes_agree votes ms parts.1) (left_active ms parts.1) where
  one : (v : Vote) → has_voted (voting m v) ≡ true
  one vote.Yes = refl
  one vote.No = refl
  one vote.ReadOnly = refl

  step : (a b : Bool) → a ≡ true → list_all has_voted (voted_by votes ms) ≡ true → list_all has_voted ms ≡ true → list_all has_voted (cond a (voting m v ∷ cond b ms (voted_by votes ms)) (m ∷ voted_by (v ∷ votes) ms)) ≡ true
  step true true is rest left = and_from _ _ (one v) left
  step true false is rest left = and_from _ _ (one v) rest
  step false b is rest left = absurd (cc)

back_voted : (back : Back) (ms : List Member) → list_all is_unasked ms ≡ true → list_all has_voted (called errand.Vote back ms) ≡ true
back_voted (Back.Votes votes) ms all = votes_agree votes ms all
back_voted (Back.Settlements answers) ms all = left_active ms all
back_voted Back.Aborted ms all = left_active ms all
back_voted Back.Undone ms all = left_active ms all

-- the answer of a party
none_refuses : (p : PartyNotes) → is_willing (party_answer p) ≡ true → list_any refuses (filter is_some (map ballot p.members)) ≡ false
none_refuses p is = step (list_any refuses (filter is_some (map ballot p.members))) refl where
  step : (b : Bool) → list_any refuses (filter is_some (map ballot p.members)) ≡ b → list_any refuses (filter is_some (map ballot p.members)) ≡ false
  step false none = none
  step true refused = absurd (let answers = filter is_some (map ballot p.members) in let wrong : false ≡ true = sym (ap (λ b. is_willing (as_answer (cond b decisions.Abort (cond (list_any is_none answers) decisions.Wait (cond (list_any is_yes answers) decisions.Commit decisions.ReadOnly))))) refused) ∙ is in cc)

each_stands : (ms : List Member) → list_any refuses (filter is_some (map ballot ms)) ≡ false → list_all (λ m. not (refuses (ballot m))) ms ≡ true
each_stands [] none = refl
each_stands (m ∷ ms) none = step (ballot m) none (each_stands ms) where
  step : (b : Option Ballot) → list_any refuses (filter is_some (b ∷ map ballot ms)) ≡ false → (list_any refuses (filter is_some (map ballot ms)) ≡ false → list_all (λ m. not (refuses (ballot m))) ms ≡ true) → not (refuses b) && list_all (λ m. not (refuses (ballot m))) ms ≡ true
  step None none rest = rest none
  step (Some answer) none rest = let parts = or_parts (refuses (Some answer)) (list_any refuses (filter is_some (map ballot ms))) none in and_from _ _ (ap not parts.0) (rest parts.1)

one_agrees : (m : Member) → not (refuses (ballot m)) ≡ true → has_voted m ≡ true → has_agreed m ≡ true
one_agrees m stands voted = step (is_active m) (refuses (ballot m)) refl refl stands voted where
  active_no : is_active m ≡ true → refuses (ballot m) ≡ true
  active_no active = ap (λ b. refuses (cond b (Some No) (option_map answer_of m.vote))) active

  step : (a b : Bool) → is_active m ≡ a → refuses (ballot m) ≡ b → not (refuses (ballot m)) ≡ true → is_active m || (refuses (ballot m) || has_agreed m) ≡ true → has_agreed m ≡ true
  step true b active refused stands voted = absurd (let wrong : false ≡ true = sym (ap not (active_no active)) ∙ stands in cc)
  step false true idle refused stands voted = absurd (let wrong : false ≡ true = sym (ap not refused) ∙ stands in cc)
  step false false idle fine stands voted = sym (λ i. idle i || (fine i || has_agreed m)) ∙ voted

both_all : (ms : List Member) → list_all (λ m. not (refuses (ballot m))) ms ≡ true → list_all has_voted ms ≡ true → list_all has_agreed ms ≡ true
both_all [] stands voted = refl
both_all (m ∷ ms) stands voted =
    let a = and_parts (not (refuses (ballot m))) (list_all (λ m. not (refuses (ballot m))) ms) stands in
    let b = and_parts (has_voted m) (list_all has_voted ms) voted in
    and_from _ _ (one_agrees m a.0 b.0) (both_all ms a.1 b.1)

-- ALL HAVE AGREED where the party answers yes or read-only
pub all_agreed : (party : PartyNotes) (back : Back) → party.errand ≡ errand.Vote → are_unasked party ≡ true → is_willing (party_answer (back_of party back)) ≡ true → list_all has_agreed (back_of party back).members ≡ true
all_agreed party back vote unasked is = both_all (back_of party back).members (each_stands (back_of party back).members (none_refuses (back_of party back) is)) (subst (λ e. list_all has_voted (called e back party.members) ≡ true) (sym vote) (back_voted back party.members unasked))

-- THE BRANCHES OF A REALM are members of its parties

abbrev pub covers : List Member → List (ℕ × List ℕ) → Bool
covers members branches = list_all (λ branch. list_any (λ m. m.number == branch.0) members) branches

-- calls leave numbers
abbrev Same : List Member → List Member → Type 0
Same ms ns = (number : ℕ) → list_any (λ m. m.number == number) ms ≡ list_any (λ m. m.number == number) ns

votes_same : (votes : List Vote) (ms : List Member) → Same (voted_by votes ms) ms
votes_same votes [] number = refl
votes_same [] (m ∷ ms) number = refl
votes_same (v ∷ votes) (m ∷ ms) number = step (is_active m) (is_no v) (votes_same votes ms number) (votes_same (v ∷ votes) ms number) where
  step : (a b : Bool) → list_any (λ m. m.number == number) (voted_by votes ms) ≡ list_any (λ m. m.number == number) ms → list_any (λ m. m.number == number) (voted_by (v ∷ votes) ms) ≡ list_any (λ m. m.number == number) ms → list_any (λ m. m.number == number) (cond a (voting m v ∷ cond b ms (voted_by votes ms)) (m ∷ voted_by (v ∷ votes) ms)) ≡ list_any (λ m. m.number == number) (m ∷ ms)
  step true true rest later = refl
  step true false rest later = ap (λ b. (m.number == number) || b) rest
  step false b rest later = ap (λ b. (m.number == number) || b) later

settled_same : (answers : List Settled) (ms : List Member) → Same (settled_by answers ms) ms
settled_same answers [] number = refl
settled_same [] (m ∷ ms) number = refl
settled_same (s ∷ answers) (m ∷ ms) number = step (is_ready m) (settled_same answers ms number) (settled_same (s ∷ answers) ms number) where
  step : (a : Bool) → list_any (λ m. m.number == number) (settled_by answers ms) ≡ list_any (λ m. m.number == number) ms → list_any (λ m. m.number == number) (settled_by (s ∷ answers) ms) ≡ list_any (λ m. m.number == number) ms → list_any (λ m. m.number == number) (cond a (committing m s ∷ settled_by answers ms) (m ∷ settled_by (s ∷ answers) ms)) ≡ list_any (λ m. m.number == number) (m ∷ ms)
  step true rest later = ap (λ b. (m.number == number) || b) rest
  step false rest later = ap (λ b. (m.number == number) || b) later

aborted_same : (ms : List Member) → Same (map aborted_if_ready ms) ms
aborted_same [] number = refl
aborted_same (m ∷ ms) number = step (is_ready m) (aborted_same ms number) where
  step : (a : Bool) → list_any (λ m. m.number == number) (map aborted_if_ready ms) ≡ list_any (λ m. m.number == number) ms → (cond a (aborting m) m).number == number || list_any (λ m. m.number == number) (map aborted_if_ready ms) ≡ (m.number == number) || list_any (λ m. m.number == number) ms
  step true rest = ap (λ b. (m.number == number) || b) rest
  step false rest = ap (λ b. (m.number == number) || b) rest

called_same : (e : Errand) (back : Back) (ms : List Member) → Same (called e back ms) ms
called_same errand.Vote (Back.Votes votes) ms number = votes_same votes ms number
called_same errand.Commit (Back.Settlements answers) ms number = settled_same answers ms number
called_same errand.Abort Back.Aborted ms number = aborted_same ms number
called_same e back ms number = refl

pub forgotten_same : (ms : List Member) → Same (map forgetting ms) ms
forgotten_same [] number = refl
forgotten_same (m ∷ ms) number = ap (λ b. (m.number == number) || b) (forgotten_same ms number)

pub covers_same : (ms ns : List Member) (branches : List (ℕ × List ℕ)) → Same ns ms → covers ms branches ≡ true → covers ns branches ≡ true
covers_same ms ns branches same = all_more (λ branch. list_any (λ m. m.number == branch.0) ms) (λ branch. list_any (λ m. m.number == branch.0) ns) branches (λ b is. same b.0 ∙ is)

pub covers_back : (party : PartyNotes) (back : Back) (branches : List (ℕ × List ℕ)) → covers party.members branches ≡ true → covers (back_of party back).members branches ≡ true
covers_back party back branches = covers_same party.members (back_of party back).members branches (called_same party.errand back party.members)

-- each branch that is a member has agreed
agreed_there : (ms : List Member) (branch : ℕ × List ℕ) → list_all has_agreed ms ≡ true → list_any (λ m. m.number == branch.0) ms ≡ true → called_among is_willing_vote ms branch ≡ true
agreed_there [] branch all is = is
agreed_there (m ∷ ms) branch all is =
    let parts = and_parts (has_agreed m) (list_all has_agreed ms) all in
    elim (or_cases (m.number == branch.0) (list_any (λ m. m.number == branch.0) ms) is) [
      | inl here ↦ or_left (is_called_so is_willing_vote branch.0 m) _ (and_from _ _ here parts.0)
      | inr later ↦ or_right (is_called_so is_willing_vote branch.0 m) _ (agreed_there ms branch parts.1 later)
    ]

pub each_called : (ms : List Member) (branches : List (ℕ × List ℕ)) → list_all has_agreed ms ≡ true → covers ms branches ≡ true → list_all (called_among is_willing_vote ms) branches ≡ true
each_called ms branches agreed = all_more (λ branch. list_any (λ m. m.number == branch.0) ms) (called_among is_willing_vote ms) branches (λ b is. agreed_there ms b agreed is)
