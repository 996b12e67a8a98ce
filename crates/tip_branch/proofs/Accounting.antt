-- Notes and the branches' own account, at one place.
use Rattle.std.proofs.Common.{◌≡◌, ℕ, ◌<◌, List, [], ◌∷◌, None, zero, suc, length, map, get_or, arith, refl, ap, sym, subst, ◌∙◌}
use Rattle.std.specs.Prelude.{slice_set}
use Rattle.std.specs.List.{All}
use Rattle.std.proofs.lemmas.List.{get_or-map, map-set}
use Rattle.tip_branch.specs.declared.branch.Standing.{Standing}
use Rattle.tip_branch.specs.declared.member.Member.{Member}
use Rattle.tip_branch.specs.Accounts.{StandsAs, Agrees, IsCalled, AreCalled}

pub Agrees-get_or : (ms : List Member) (ss : List Standing) (i : ℕ) (m : Member) (s : Standing) → i < length ms → Agrees ms ss → StandsAs (get_or ms i m) (get_or ss i s)
Agrees-get_or [] ss i m s lt h = absurd (omega arith)
Agrees-get_or (x ∷ ms) [] i m s lt h = absurd h
Agrees-get_or (x ∷ ms) (y ∷ ss) zero m s lt h = h.0
Agrees-get_or (x ∷ ms) (y ∷ ss) (suc i) m s lt h = Agrees-get_or ms ss i m s (omega arith) h.1

pub Agrees-set : (ms : List Member) (ss : List Standing) (i : ℕ) (n : Member) (t : Standing) → StandsAs n t → Agrees ms ss → Agrees (slice_set ms i n) (slice_set ss i t)
Agrees-set [] [] i n t there h = tt
Agrees-set [] (y ∷ ss) i n t there h = absurd h
Agrees-set (x ∷ ms) [] i n t there h = absurd h
Agrees-set (x ∷ ms) (y ∷ ss) zero n t there h = (there, h.1)
Agrees-set (x ∷ ms) (y ∷ ss) (suc i) n t there h = (h.0, Agrees-set ms ss i n t there h.1)

-- where no member has a new call, no branch was called
pub AreCalled-none : (ms : List Member) (ss : List Standing) → All (λ m. m.call ≡ None) ms → length ss ≡ length ms → AreCalled ms ss ss
AreCalled-none [] [] h e = tt
AreCalled-none [] (y ∷ ss) h e = absurd (omega arith)
AreCalled-none (x ∷ ms) [] h e = absurd (omega arith)
AreCalled-none (x ∷ ms) (y ∷ ss) h e =
    let less : length ss ≡ length ms = omega arith in
    let here : x.call ≡ None = h 0 x (omega arith) in
    (subst (λ c. IsCalled c y y) (sym here) refl, AreCalled-none ms ss (λ k d lt. h (suc k) d (omega arith)) less)

pub AreCalled-get_or : (ms : List Member) (ss ts : List Standing) (i : ℕ) (m : Member) (s t : Standing) → i < length ms → AreCalled ms ss ts → IsCalled (get_or ms i m).call (get_or ss i s) (get_or ts i t)
AreCalled-get_or [] ss ts i m s t lt h = absurd (omega arith)
AreCalled-get_or (x ∷ ms) [] ts i m s t lt h = absurd h
AreCalled-get_or (x ∷ ms) (y ∷ ss) [] i m s t lt h = absurd h
AreCalled-get_or (x ∷ ms) (y ∷ ss) (z ∷ ts) zero m s t lt h = h.0
AreCalled-get_or (x ∷ ms) (y ∷ ss) (z ∷ ts) (suc i) m s t lt h = AreCalled-get_or ms ss ts i m s t (omega arith) h.1

pub AreCalled-set : (ms : List Member) (ss ts : List Standing) (i : ℕ) (n : Member) (s t : Standing) → IsCalled n.call (get_or ss i s) t → AreCalled ms ss ts → AreCalled (slice_set ms i n) ss (slice_set ts i t)
AreCalled-set [] [] [] i n s t called h = tt
AreCalled-set [] [] (z ∷ ts) i n s t called h = absurd h
AreCalled-set [] (y ∷ ss) ts i n s t called h = absurd h
AreCalled-set (x ∷ ms) [] ts i n s t called h = absurd h
AreCalled-set (x ∷ ms) (y ∷ ss) [] i n s t called h = absurd h
AreCalled-set (x ∷ ms) (y ∷ ss) (z ∷ ts) zero n s t called h = (called, h.1)
AreCalled-set (x ∷ ms) (y ∷ ss) (z ∷ ts) (suc i) n s t called h = (h.0, AreCalled-set ms ss ts i n s t called h.1)

-- the note m at the index is the account of the box there
stands_at : {A : Type 0} (st : A → Standing) (ms : List Member) (bs : List A) (i : ℕ) (m : Member) (d : A) → i < length ms → i < length bs → m ≡ get_or ms i m → Agrees ms (map st bs) → StandsAs m (st (get_or bs i d))
stands_at st ms bs i m d lt lt' at h =
    let both : StandsAs (get_or ms i m) (get_or (map st bs) i (st d)) = Agrees-get_or ms (map st bs) i m (st d) lt h in
    subst (λ s. StandsAs m s) (get_or-map st bs i d (st d) lt') (subst (λ k. StandsAs k (get_or (map st bs) i (st d))) (sym at) both)

-- the box at the index became b, and its note n
pub agrees_more : {A : Type 0} (st : A → Standing) (ms : List Member) (bs : List A) (i : ℕ) (m n : Member) (d b : A) → i < length ms → i < length bs → m ≡ get_or ms i m → (StandsAs m (st (get_or bs i d)) → StandsAs n (st b)) → Agrees ms (map st bs) → Agrees (slice_set ms i n) (map st (slice_set bs i b))
agrees_more st ms bs i m n d b lt lt' at kept h =
    rw (map-set st bs i b) (Agrees-set ms (map st bs) i n (st b) (kept (stands_at st ms bs i m d lt lt' at h)) h)

-- and it got the call of that note, as its first since the walk began at zs
pub called_more : {A : Type 0} (st : A → Standing) (ms : List Member) (bs zs : List A) (i : ℕ) (m n : Member) (d b : A) → i < length ms → i < length bs → m ≡ get_or ms i m → m.call ≡ None → (StandsAs m (st (get_or bs i d)) → IsCalled n.call (st (get_or bs i d)) (st b)) → Agrees ms (map st bs) → AreCalled ms (map st zs) (map st bs) → AreCalled (slice_set ms i n) (map st zs) (map st (slice_set bs i b))
called_more st ms bs zs i m n d b lt lt' at untold called agrees h =
    let there : get_or (map st bs) i (st d) ≡ st (get_or bs i d) = get_or-map st bs i d (st d) lt' in
    let call : (get_or ms i m).call ≡ None = ap (λ k. k.call) (sym at) ∙ untold in
    let same : get_or (map st bs) i (st d) ≡ get_or (map st zs) i (st d) = subst (λ c. IsCalled c (get_or (map st zs) i (st d)) (get_or (map st bs) i (st d))) call (AreCalled-get_or ms (map st zs) (map st bs) i m (st d) (st d) lt h) in
    let since : IsCalled n.call (get_or (map st zs) i (st d)) (st b) = subst (λ s. IsCalled n.call s (st b)) (sym there ∙ same) (called (stands_at st ms bs i m d lt lt' at agrees)) in
    rw (map-set st bs i b) (AreCalled-set ms (map st zs) (map st bs) i n (st d) (st b) since h)
