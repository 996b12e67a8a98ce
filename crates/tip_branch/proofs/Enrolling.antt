-- Boxes that become the members of a party.
use Rattle.std.proofs.Common.{◌≡◌, ℕ, ◌+◌, ◌≤◌, List, [], ◌∷◌, ◌++◌, None, Some, zero, suc, length, map, reverse, take, drop, add-one, arith, refl, ap, sym, subst, ◌∙◌}
use Rattle.std.specs.Prelude.{IsTrue}
use Rattle.std.specs.List.{All}
use Rattle.std.specs.Cmp.Derive.{both_true}
use Rattle.std.proofs.lemmas.List.{reverse-append, take-map}
use Rattle.std.proofs.lemmas.List.Elements.{All-take}
use Rattle.std.proofs.lemmas.Bool.{lt-ltb, le-leb}
use Rattle.tip_branch.specs.declared.branch.Badge.{Badge}
use Rattle.tip_branch.specs.declared.branch.Phase.{Phase}
use Rattle.tip_branch.specs.declared.branch.Phase.TheVariants.{Active, Ready}
use Rattle.tip_branch.specs.declared.branch.Standing.{Standing}
use Rattle.tip_branch.specs.Accounts.{StandsAs, Agrees}
use Rattle.tip_branch.specs.Lots.{badges_of, AreIn}
use Rattle.tip_branch.specs.declared.member.Member.{Member}
use Rattle.tip_branch.specs.Members.{numbers_of, rise_above, are_numbers, new_member, fresh_members, ready_members}

untold-StandsAs : (n : ℕ) (f : Phase) (s : Standing) → s.phase ≡ f → StandsAs (new_member n s.badge f) s
untold-StandsAs n f s e = record { badge = refl; phase = e; untold = λ h. refl; voted = λ v h. absurd (let z : None ≡ Some v = h in cc); commits = omega arith }

pub length-fresh_members : (n : ℕ) (ps : List Badge) → length (fresh_members n ps) ≡ length ps
length-fresh_members n [] = refl
length-fresh_members n (p ∷ ps) = ap suc (length-fresh_members (n + 1) ps)

pub All-fresh_members : (n : ℕ) (ps : List Badge) → All (λ m. m.call ≡ None) (fresh_members n ps)
All-fresh_members n [] k d lt = absurd (omega arith)
All-fresh_members n (p ∷ ps) zero d lt = refl
All-fresh_members n (p ∷ ps) (suc k) d lt = All-fresh_members (n + 1) ps k d (omega arith)

rising-fresh_members : (low : ℕ) (ps : List Badge) → low + length ps ≤ 8 → IsTrue (rise_above low (numbers_of (fresh_members (low + 1) ps)))
rising-fresh_members low [] le = refl
rising-fresh_members low (p ∷ ps) le = both_true (both_true (lt-ltb low (low + 1) (omega arith)) (le-leb (low + 1) 8 (omega arith))) (rising-fresh_members (low + 1) ps (omega arith))

pub are_numbers-fresh_members : (ps : List Badge) → length ps ≤ 8 → IsTrue (are_numbers (numbers_of (fresh_members 1 ps)))
are_numbers-fresh_members ps le = rising-fresh_members 0 ps (omega arith)

fresh_members-snoc : (n : ℕ) (ps : List Badge) (p : Badge) → fresh_members n (ps ++ p ∷ []) ≡ fresh_members n ps ++ new_member (n + length ps) p Active ∷ []
fresh_members-snoc n [] p = let z : n + 0 ≡ n = omega arith in ap (λ k. new_member k p Active ∷ []) (sym z)
fresh_members-snoc n (q ∷ ps) p =
    let z : (n + 1) + length ps ≡ n + suc (length ps) = omega arith in
    ap (λ ms. new_member n q Active ∷ ms) (fresh_members-snoc (n + 1) ps p ∙ ap (λ k. fresh_members (n + 1) ps ++ new_member k p Active ∷ []) z)

-- where all branches are active and known so, they stand as noted
pub Agrees-fresh_members : (n : ℕ) (ss : List Standing) → AreIn Active ss → Agrees (fresh_members n (badges_of ss)) ss
Agrees-fresh_members n [] h = tt
Agrees-fresh_members n (s ∷ ss) h = (untold-StandsAs n Active s (h 0 s (omega arith)), Agrees-fresh_members (n + 1) ss (λ k d lt. h (suc k) d (omega arith)))

pub Agrees-ready_members : (ns : List ℕ) (ss : List Standing) → length ns ≡ length ss → AreIn Ready ss → Agrees (ready_members ns (badges_of ss)) ss
Agrees-ready_members [] [] e h = tt
Agrees-ready_members [] (s ∷ ss) e h = absurd (omega arith)
Agrees-ready_members (n ∷ ns) [] e h = absurd (omega arith)
Agrees-ready_members (n ∷ ns) (s ∷ ss) e h = (untold-StandsAs n Ready s (h 0 s (omega arith)), Agrees-ready_members ns ss (omega arith) (λ k d lt. h (suc k) d (omega arith)))

-- what stands at the head of the rest is the next to be taken
next_taken : {A : Type 0} (all rest : List A) (i : ℕ) (x : A) → drop i all ≡ x ∷ rest → take (suc i) all ≡ take i all ++ x ∷ []
next_taken [] rest zero x h = absurd (let e : [] ≡ x ∷ rest = h in cc)
next_taken [] rest (suc i) x h = absurd (let e : [] ≡ x ∷ rest = h in cc)
next_taken (y ∷ all) rest zero x h = let e : y ∷ all ≡ x ∷ rest = h in cc
next_taken (y ∷ all) rest (suc i) x h = ap (λ l. y ∷ l) (next_taken all rest i x h)

next_left : {A : Type 0} (all rest : List A) (i : ℕ) (x : A) → drop i all ≡ x ∷ rest → drop (suc i) all ≡ rest
next_left [] rest zero x h = absurd (let e : [] ≡ x ∷ rest = h in cc)
next_left [] rest (suc i) x h = absurd (let e : [] ≡ x ∷ rest = h in cc)
next_left (y ∷ all) rest zero x h = let e : y ∷ all ≡ x ∷ rest = h in cc
next_left (y ∷ all) rest (suc i) x h = next_left all rest i x h

last_first : {A : Type 0} (all xs left : List A) (i : ℕ) (x : A) → reverse xs ≡ drop i all → xs ≡ left ++ x ∷ [] → drop i all ≡ x ∷ reverse left
last_first all xs left i x h e = sym h ∙ ap reverse e ∙ reverse-append left (x ∷ [])

-- the last of a reversed list is taken
pub popped_taken : {A : Type 0} (all xs left : List A) (i : ℕ) (x : A) → reverse xs ≡ drop i all → xs ≡ left ++ x ∷ [] → take (i + 1) all ≡ take i all ++ x ∷ []
popped_taken all xs left i x h e = ap (λ n. take n all) (add-one i) ∙ next_taken all (reverse left) i x (last_first all xs left i x h e)

pub popped_left : {A : Type 0} (all xs left : List A) (i : ℕ) (x : A) → reverse xs ≡ drop i all → xs ≡ left ++ x ∷ [] → reverse left ≡ drop (i + 1) all
popped_left all xs left i x h e = sym (ap (λ n. drop n all) (add-one i) ∙ next_left all (reverse left) i x (last_first all xs left i x h e))

-- and noted as the next member
pub popped_noted : (all xs left : List Badge) (i : ℕ) (p : Badge) (ms : List Member) → reverse xs ≡ drop i all → xs ≡ left ++ p ∷ [] → ms ≡ fresh_members 1 (take i all) → length ms ≡ i → ms ++ new_member (i + 1) p Active ∷ [] ≡ fresh_members 1 (take (i + 1) all)
popped_noted all xs left i p ms h e done counted =
    let size : length (take i all) ≡ i = sym (length-fresh_members 1 (take i all)) ∙ sym (ap length done) ∙ counted in
    let number : 1 + length (take i all) ≡ i + 1 = omega arith in
    let next : fresh_members 1 (take i all ++ p ∷ []) ≡ fresh_members 1 (take i all) ++ new_member (i + 1) p Active ∷ [] = fresh_members-snoc 1 (take i all) p ∙ ap (λ k. fresh_members 1 (take i all) ++ new_member k p Active ∷ []) number in
    ap (λ l. l ++ new_member (i + 1) p Active ∷ []) done ∙ sym next ∙ ap (fresh_members 1) (sym (popped_taken all xs left i p h e))

-- the first branches of a lot that is true stand as its party notes them
pub Agrees-first : {A : Type 0} (st : A → Standing) (bs : List A) (known : List Badge) (n : ℕ) → badges_of (map st bs) ≡ known → AreIn Active (map st bs) → Agrees (fresh_members 1 (take n known)) (map st (take n bs))
Agrees-first st bs known n e h =
    let ahead : take n (map st bs) ≡ map st (take n bs) = take-map st n bs in
    let known_ahead : take n (badges_of (map st bs)) ≡ badges_of (take n (map st bs)) = take-map (λ s. s.badge) n (map st bs) in
    let there : badges_of (map st (take n bs)) ≡ take n known = ap badges_of (sym ahead) ∙ sym known_ahead ∙ ap (take n) e in
    let active : AreIn Active (map st (take n bs)) = subst (AreIn Active) ahead (All-take (λ s. s.phase ≡ Active) n (map st bs) h) in
    subst (λ ks. Agrees (fresh_members 1 ks) (map st (take n bs))) there (Agrees-fresh_members 1 (map st (take n bs)) active)
