-- One place more of a list that a loop goes along.
use Rattle.std.proofs.Common.{◌≡◌, ℕ, ◌+◌, ◌<◌, List, [], ◌∷◌, ◌++◌, zero, suc, length, get_or, take, map, arith, refl, ap, sym, subst, ◌∙◌}
use Rattle.std.specs.Prelude.{slice_set}
use Rattle.std.specs.List.{All}
use Rattle.std.proofs.lemmas.List.{take_more, take_more_set, get_or-map, length-map}
use Rattle.std.proofs.lemmas.List.Elements.{All-more, All-get_or}
use Rattle.tip_branch.specs.declared.branch.Standing.{Standing}
use Rattle.tip_branch.specs.declared.member.Member.{Member}
use Rattle.tip_branch.specs.Members.{new_member, new_members}

pub map-append : {A B : Type 0} (f : A → B) (xs ys : List A) → map f (xs ++ ys) ≡ map f xs ++ map f ys
map-append f [] ys = refl
map-append f (x ∷ xs) ys = ap (λ zs. f x ∷ zs) (map-append f xs ys)

-- the loop writes b, seen as f of what is seen there
pub seen_more : {A B : Type 0} (s : A → B) (f : B → B) (xs zs : List A) (i : ℕ) (b d : A) → i < length xs → i < length zs → map s (take i xs) ≡ map f (map s (take i zs)) → s b ≡ f (s (get_or zs i d)) → map s (take (i + 1) (slice_set xs i b)) ≡ map f (map s (take (i + 1) zs))
seen_more s f xs zs i b d lt lt' done at =
    rw (take_more_set xs i b lt, take_more zs i d lt', map-append s (take i xs) (b ∷ []), map-append s (take i zs) (get_or zs i d ∷ []), map-append f (map s (take i zs)) (s (get_or zs i d) ∷ []), done, at) refl

-- the loop writes f of what was there
pub mapped_more : {A : Type 0} (f : A → A) (xs zs : List A) (i : ℕ) (b d : A) → i < length xs → i < length zs → take i xs ≡ map f (take i zs) → b ≡ f (get_or zs i d) → take (i + 1) (slice_set xs i b) ≡ map f (take (i + 1) zs)
mapped_more f xs zs i b d lt lt' done at =
    rw (take_more_set xs i b lt, take_more zs i d lt', map-append f (take i zs) (get_or zs i d ∷ []), done, at) refl

-- the loop saw that P holds there too
pub All-seen_more : {A B : Type 0} (P : B → Type 0) (s : A → B) (xs : List A) (i : ℕ) (d : A) → i < length xs → All (λ x. P (s x)) (take i xs) → P (s (get_or xs i d)) → All (λ x. P (s x)) (take (i + 1) xs)
All-seen_more P s xs i d lt h p = All-more (λ x. P (s x)) xs i d lt h p

pub All-seen_not : {A B : Type 0} (P : B → Type 0) (s : A → B) (xs : List A) (i : ℕ) (d : A) → i < length xs → ¬ (P (s (get_or xs i d))) → ¬ (All P (map s xs))
All-seen_not P s xs i d lt n h =
    let lt' : i < length (map s xs) = rw (length-map xs s) lt in
    n (subst P (get_or-map s xs i d (s d) lt) (All-get_or P (map s xs) i (s d) lt' h))

pub length-new_members : (ns : List ℕ) (ss : List Standing) → length ns ≡ length ss → length (new_members ns ss) ≡ length ss
length-new_members [] [] e = refl
length-new_members [] (s ∷ ss) e = absurd (omega arith)
length-new_members (n ∷ ns) [] e = refl
length-new_members (n ∷ ns) (s ∷ ss) e = let less : length ns ≡ length ss = omega arith in let h = length-new_members ns ss less in omega arith

pub get_or-new_members : (ns : List ℕ) (ss : List Standing) (i : ℕ) (d : Member) (n : ℕ) (s : Standing) → i < length ns → i < length ss → get_or (new_members ns ss) i d ≡ new_member (get_or ns i n) (get_or ss i s).badge (get_or ss i s).phase
get_or-new_members [] ss i d n s lt lt' = absurd (omega arith)
get_or-new_members (m ∷ ns) [] i d n s lt lt' = absurd (omega arith)
get_or-new_members (m ∷ ns) (t ∷ ss) zero d n s lt lt' = refl
get_or-new_members (m ∷ ns) (t ∷ ss) (suc i) d n s lt lt' = get_or-new_members ns ss i d n s (omega arith) (omega arith)

-- the loop enrols the branch there
pub enrolled_more : {A : Type 0} (s : A → Standing) (ns : List ℕ) (bs : List A) (ms : List Member) (i : ℕ) (m : Member) (n : ℕ) (d : A) → i < length ns → i < length bs → length ns ≡ length bs → ms ≡ take i (new_members ns (map s bs)) → m ≡ new_member (get_or ns i n) (s (get_or bs i d)).badge (s (get_or bs i d)).phase → ms ++ m ∷ [] ≡ take (i + 1) (new_members ns (map s bs))
enrolled_more s ns bs ms i m n d lt lt' e done at =
    let long : i < length (map s bs) = rw (length-map bs s) lt' in
    let all : length (new_members ns (map s bs)) ≡ length (map s bs) = length-new_members ns (map s bs) (e ∙ sym (length-map bs s)) in
    let within : i < length (new_members ns (map s bs)) = rw all long in
    let there : get_or (new_members ns (map s bs)) i m ≡ m = get_or-new_members ns (map s bs) i m n (s d) lt long ∙ ap (λ t. new_member (get_or ns i n) t.badge t.phase) (get_or-map s bs i d (s d) lt') ∙ sym at in
    sym (rw (take_more (new_members ns (map s bs)) i m within, there, ← done) refl)

-- what is written within the first ones
pub taken_set : {A : Type 0} (xs : List A) (k i : ℕ) (y : A) → take k (slice_set xs i y) ≡ slice_set (take k xs) i y
taken_set [] zero i y = refl
taken_set [] (suc k) i y = refl
taken_set (x ∷ xs) zero zero y = refl
taken_set (x ∷ xs) zero (suc i) y = refl
taken_set (x ∷ xs) (suc k) zero y = refl
taken_set (x ∷ xs) (suc k) (suc i) y = ap (λ l. x ∷ l) (taken_set xs k i y)
