-- What an errand leaves as it is, and what follows of member numbers.
use Rattle.std.proofs.Common.{◌≡◌, ℕ, ◌+◌, ◌<◌, ◌≤◌, Bool, true, false, List, [], ◌∷◌, None, Some, zero, suc, length, nat_lt, nat_le, ◌&&◌, map, arith, refl, ap, sym, ◌∙◌}
use Rattle.std.specs.Prelude.{IsTrue}
use Rattle.std.specs.List.{All}
use Rattle.std.proofs.lemmas.List.{length-map}
use Rattle.std.proofs.lemmas.Bool.{ltb-true, leb-true}
use Rattle.tip_line.proofs.StopLemmas.{and_left, and_right}
use Rattle.tip_branch.specs.declared.branch.Phase.{Phase}
use Rattle.tip_branch.specs.declared.branch.Phase.TheVariants.{Active, Ready, Ended}
use Rattle.tip_branch.specs.declared.branch.Standing.{Standing}
use Rattle.tip_branch.specs.declared.member.Errand.{Errand}
use Rattle.tip_branch.specs.declared.member.Errand.TheVariants as errands
use Rattle.tip_branch.specs.declared.member.Member.{Member}
use Rattle.tip_branch.specs.Members.{numbers_of, forgetting, rise_above, are_numbers, new_members}
use Rattle.tip_branch.specs.Accounts.{Agrees}
use Rattle.tip_branch.specs.Errands.{IsTold, IsAsked, IsToldCommit, IsToldAbort, IsCarriedOut, is_vote_of_no}
use Rattle.std.specs.Bool.{MatchBool}

-- what the calls of errands leave of a member
abbrev pub Keeps : {B : Type 0} → (Member → B) → Type 0
Keeps f = (e : Errand) (m n : Member) → IsTold e m n → f n ≡ f m

pub kept-IsCarriedOut : {B : Type 0} (f : Member → B) → Keeps f → (e : Errand) (ms ns : List Member) → IsCarriedOut e ms ns → map f ns ≡ map f ms
kept-IsCarriedOut f keeps e [] ns h = ap (map f) h
kept-IsCarriedOut f keeps e (m ∷ ms) [] h = absurd h
kept-IsCarriedOut {B} f keeps e (m ∷ ms) (n ∷ ns) h =
    let rest : (b : Bool) → MatchBool b (ns ≡ ms) (IsCarriedOut e ms ns) → map f ns ≡ map f ms = λ b. elim b as (λ v. MatchBool v (ns ≡ ms) (IsCarriedOut e ms ns) → map f ns ≡ map f ms) [ true ↦ λ same. ap (map f) same | false ↦ λ more. kept-IsCarriedOut f keeps e ms ns more ] in
    let here : f n ≡ f m = keeps e m n h.0 in
    let later : map f ns ≡ map f ms = rest (is_vote_of_no n.call) h.1 in
    cc

number-IsAsked : (f : Phase) (m n : Member) → IsAsked f m n → n.number ≡ m.number
number-IsAsked Active m n h = ap (λ k. k.number) h.2
number-IsAsked Ready m n h = ap (λ k. k.number) h
number-IsAsked Ended m n h = ap (λ k. k.number) h

number-IsToldCommit : (f : Phase) (m n : Member) → IsToldCommit f m n → n.number ≡ m.number
number-IsToldCommit Active m n h = ap (λ k. k.number) h
number-IsToldCommit Ready m n h = ap (λ k. k.number) h.2
number-IsToldCommit Ended m n h = ap (λ k. k.number) h

number-IsToldAbort : (f : Phase) (m n : Member) → IsToldAbort f m n → n.number ≡ m.number
number-IsToldAbort Active m n h = ap (λ k. k.number) h
number-IsToldAbort Ready m n h = ap (λ k. k.number) h
number-IsToldAbort Ended m n h = ap (λ k. k.number) h

number-IsTold : (e : Errand) (m n : Member) → IsTold e m n → n.number ≡ m.number
number-IsTold errands.Idle m n h = ap (λ k. k.number) h
number-IsTold errands.Vote m n h = number-IsAsked m.standing.phase m n h
number-IsTold errands.Commit m n h = number-IsToldCommit m.standing.phase m n h
number-IsTold errands.Abort m n h = number-IsToldAbort m.standing.phase m n h

-- no errand changes a member's number
pub numbers_of-IsCarriedOut : (e : Errand) (ms ns : List Member) → IsCarriedOut e ms ns → numbers_of ns ≡ numbers_of ms
numbers_of-IsCarriedOut e ms ns h = kept-IsCarriedOut (λ m. m.number) number-IsTold e ms ns h

pub length-IsCarriedOut : (e : Errand) (ms ns : List Member) → IsCarriedOut e ms ns → length ns ≡ length ms
length-IsCarriedOut e ms ns h = sym (length-map ns (λ m. m.number)) ∙ ap length (numbers_of-IsCarriedOut e ms ns h) ∙ length-map ms (λ m. m.number)

pub numbers_of-forgetting : (ms : List Member) → numbers_of (map forgetting ms) ≡ numbers_of ms
numbers_of-forgetting [] = refl
numbers_of-forgetting (m ∷ ms) = ap (λ ns. m.number ∷ ns) (numbers_of-forgetting ms)

pub Agrees-forgetting : (ms : List Member) (ss : List Standing) → Agrees ms ss → Agrees (map forgetting ms) ss
Agrees-forgetting [] [] h = tt
Agrees-forgetting [] (s ∷ ss) h = absurd h
Agrees-forgetting (m ∷ ms) [] h = absurd h
Agrees-forgetting (m ∷ ms) (s ∷ ss) h = (record { badge = h.0.badge; phase = h.0.phase; untold = h.0.untold; voted = h.0.voted; commits = h.0.commits }, Agrees-forgetting ms ss h.1)

pub All-forgetting : (ms : List Member) → All (λ m. m.call ≡ None) (map forgetting ms)
All-forgetting [] k d lt = absurd (omega arith)
All-forgetting (m ∷ ms) zero d lt = refl
All-forgetting (m ∷ ms) (suc k) d lt = All-forgetting ms k d (omega arith)

-- branches that are enrolled stand as noted
pub Agrees-new_members : (ns : List ℕ) (ss : List Standing) → length ns ≡ length ss → Agrees (new_members ns ss) ss
Agrees-new_members [] [] e = tt
Agrees-new_members [] (s ∷ ss) e = absurd (omega arith)
Agrees-new_members (n ∷ ns) [] e = absurd (omega arith)
Agrees-new_members (n ∷ ns) (s ∷ ss) e = (record { badge = refl; phase = refl; untold = λ h. refl; voted = λ v h. absurd (let z : None ≡ Some v = h in cc); commits = omega arith }, Agrees-new_members ns ss (omega arith))

pub numbers_of-new_members : (ns : List ℕ) (ss : List Standing) → length ns ≡ length ss → numbers_of (new_members ns ss) ≡ ns
numbers_of-new_members [] ss e = refl
numbers_of-new_members (n ∷ ns) [] e = absurd (omega arith)
numbers_of-new_members (n ∷ ns) (s ∷ ss) e = ap (λ l. n ∷ l) (numbers_of-new_members ns ss (omega arith))

-- of rising numbers above low and up to 8 there are at most 8 - low
rising_few : (low : ℕ) (ns : List ℕ) → low ≤ 8 → IsTrue (rise_above low ns) → length ns + low ≤ 8
rising_few low [] le h = omega arith
rising_few low (n ∷ ns) le h =
    let bounds = and_left (nat_lt low n && nat_le n 8) (rise_above n ns) h in
    let above : low < n = ltb-true low n (and_left (nat_lt low n) (nat_le n 8) bounds) in
    let within : n ≤ 8 = leb-true n 8 (and_right (nat_lt low n) (nat_le n 8) bounds) in
    let few = rising_few n ns within (and_right (nat_lt low n && nat_le n 8) (rise_above n ns) h) in
    omega arith

pub length-are_numbers : (ns : List ℕ) → IsTrue (are_numbers ns) → length ns ≤ 8
length-are_numbers ns h = let few = rising_few 0 ns (omega arith) h in omega arith

-- a new party's members have no new call
pub All-new_members : (ns : List ℕ) (ss : List Standing) → All (λ m. m.call ≡ None) (new_members ns ss)
All-new_members [] ss k d lt = absurd (omega arith)
All-new_members (n ∷ ns) [] k d lt = absurd (omega arith)
All-new_members (n ∷ ns) (s ∷ ss) zero d lt = refl
All-new_members (n ∷ ns) (s ∷ ss) (suc k) d lt = All-new_members ns ss k d (omega arith)
