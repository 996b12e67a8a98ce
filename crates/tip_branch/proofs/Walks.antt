-- One member more of those that an errand has reached.
use Rattle.std.proofs.Common.{◌≡◌, ℕ, ◌+◌, ◌<◌, ◌≤◌, true, false, List, [], ◌∷◌, ◌++◌, None, append-nil, length, get_or, take, drop, arith, refl, ap, sym, subst, ◌∙◌, append_assoc}
use Rattle.std.specs.Prelude.{slice_set}
use Rattle.std.specs.List.{All}
use Rattle.std.proofs.lemmas.Grind.{common_steps}
use Rattle.std.proofs.lemmas.List.{take_more_set, drop_more, take_all, take-append-drop, get_or-drop}
use Rattle.std.proofs.lemmas.List.Elements.{All-get_or}
use Rattle.tip_branch.specs.declared.member.Errand.{Errand}
use Rattle.tip_branch.specs.declared.member.Member.{Member}
use Rattle.tip_branch.specs.Errands.{IsTold, IsCarriedOut, is_vote_of_no}

-- two lists with the same rest have the same element there
pub same_at : {A : Type 0} (xs ys : List A) (i : ℕ) (d : A) → drop i xs ≡ drop i ys → get_or xs i d ≡ get_or ys i d
same_at xs ys i d left =
    let z : i + 0 ≡ i = omega arith in
    ap (λ n. get_or xs n d) (sym z) ∙ sym (get_or-drop i xs 0 d) ∙ ap (λ l. get_or l 0 d) left ∙ get_or-drop i ys 0 d ∙ ap (λ n. get_or ys n d) z

-- how the list that is left begins
rest_at : (ys : List Member) (i : ℕ) (y : Member) → i < length ys → y ≡ get_or ys i y → drop i ys ≡ y ∷ drop (i + 1) ys
rest_at ys i y lt at = drop_more ys i y lt ∙ ap (λ m. m ∷ drop (i + 1) ys) (sym at)

-- the next member got its call, and did not say no
pub carried_more : (e : Errand) (xs ys : List Member) (i : ℕ) (y n : Member) → i < length xs → i < length ys → y ≡ get_or ys i y → IsTold e y n → is_vote_of_no n.call ≡ false → ((rest : List Member) → IsCarriedOut e (drop i ys) rest → IsCarriedOut e ys (take i xs ++ rest)) → (rest : List Member) → IsCarriedOut e (drop (i + 1) ys) rest → IsCarriedOut e ys (take (i + 1) (slice_set xs i n) ++ rest)
carried_more e xs ys i y n lt lt' at told quiet done rest v =
    let w : IsCarriedOut e (y ∷ drop (i + 1) ys) (n ∷ rest) = (told, rw quiet v) in
    rw (take_more_set xs i n lt, append_assoc) (done (n ∷ rest) (subst (λ l. IsCarriedOut e l (n ∷ rest)) (sym (rest_at ys i y lt' at)) w))

-- the next member said no, so that the rest is left
pub carried_stop : (e : Errand) (xs ys : List Member) (i : ℕ) (y n : Member) → i < length xs → i < length ys → y ≡ get_or ys i y → IsTold e y n → is_vote_of_no n.call ≡ true → drop i xs ≡ drop i ys → ((rest : List Member) → IsCarriedOut e (drop i ys) rest → IsCarriedOut e ys (take i xs ++ rest)) → IsCarriedOut e ys (slice_set xs i n)
carried_stop e xs ys i y n lt lt' at told loud left done =
    let here = rest_at ys i y lt' at in
    let more : get_or xs i y ∷ drop (i + 1) xs ≡ y ∷ drop (i + 1) ys = sym (drop_more xs i y lt) ∙ left ∙ here in
    let rest : drop (i + 1) xs ≡ drop (i + 1) ys = cc in
    let w : IsCarriedOut e (y ∷ drop (i + 1) ys) (n ∷ drop (i + 1) xs) = (told, rw loud rest) in
    let after : drop (i + 1) (slice_set xs i n) ≡ drop (i + 1) xs = grind (arith, common_steps) in
    let split : slice_set xs i n ≡ take i xs ++ n ∷ drop (i + 1) xs = sym (take-append-drop (i + 1) (slice_set xs i n)) ∙ rw (after, take_more_set xs i n lt, append_assoc) refl in
    rw split (done (n ∷ drop (i + 1) xs) (subst (λ l. IsCarriedOut e l (n ∷ drop (i + 1) xs)) (sym here) w))

-- no member is left
pub carried_end : (e : Errand) (xs ys : List Member) (i : ℕ) → length xs ≤ i → length ys ≤ i → ((rest : List Member) → IsCarriedOut e (drop i ys) rest → IsCarriedOut e ys (take i xs ++ rest)) → IsCarriedOut e ys xs
carried_end e xs ys i le le' done =
    let none : drop i ys ≡ [] = grind (arith, common_steps) in
    let v : IsCarriedOut e (drop i ys) [] = rw none refl in
    let all : take i xs ++ [] ≡ xs = rw (take_all i xs le) (append-nil xs) in
    subst (λ l. IsCarriedOut e ys l) all (done [] v)

-- a member that is not reached yet has no new call
pub forgotten_at : (xs ys : List Member) (i : ℕ) (m : Member) → i < length ys → drop i xs ≡ drop i ys → m ≡ get_or xs i m → All (λ k. k.call ≡ None) ys → m.call ≡ None
forgotten_at xs ys i m lt left at h =
    let there : get_or ys i m ≡ m = sym (same_at xs ys i m left) ∙ sym at in
    subst (λ k. k.call ≡ None) there (All-get_or (λ k. k.call ≡ None) ys i m lt h)
