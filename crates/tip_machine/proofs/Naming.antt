-- An identifier is of one transaction of one realm.
use Rattle.std.proofs.Common.{◌≡◌, ℕ, true, List, [], ◌∷◌, ◌++◌, refl, ap, sym, ◌∙◌, subst, arith}
use Rattle.std.specs.Prelude.{◌==◌, not}
use Rattle.std.specs.Fmt.{decimal}
use Rattle.std.proofs.lemmas.Bool.{and_parts}
use Rattle.std.proofs.lemmas.Fmt.{decimal_injective}
use Rattle.tip_line.specs.Ids.{dash, has_no_dash, IsGiven}
use Rattle.tip_line.proofs.IdLemmas.{taken_apart}

a_dash : (octet : ℕ) → octet ≡ dash → not (octet == dash) ≡ true → ⊥
a_dash octet same is = let e : not (dash == dash) ≡ true = subst (λ o. not (o == dash) ≡ true) same is in cc

-- what stands before the first dash, and behind it
split : (a b x y : List ℕ) → has_no_dash a ≡ true → has_no_dash b ≡ true → a ++ dash ∷ x ≡ b ++ dash ∷ y → (a ≡ b) × (x ≡ y)
split [] [] x y ha hb same = (refl, let e : dash ∷ x ≡ dash ∷ y = same in cc)
split [] (b ∷ bs) x y ha hb same = absurd (let e : dash ∷ x ≡ b ∷ (bs ++ dash ∷ y) = same in let head : b ≡ dash = cc in a_dash b head (and_parts (not (b == dash)) (has_no_dash bs) hb).0)
split (a ∷ more) [] x y ha hb same = absurd (let e : a ∷ (more ++ dash ∷ x) ≡ dash ∷ y = same in let head : a ≡ dash = cc in a_dash a head (and_parts (not (a == dash)) (has_no_dash more) ha).0)
split (a ∷ more) (b ∷ bs) x y ha hb same =
    let e : a ∷ (more ++ dash ∷ x) ≡ b ∷ (bs ++ dash ∷ y) = same in
    let head : a ≡ b = cc in
    let tail : more ++ dash ∷ x ≡ bs ++ dash ∷ y = cc in
    let others = split more bs x y (and_parts (not (a == dash)) (has_no_dash more) ha).1 (and_parts (not (b == dash)) (has_no_dash bs) hb).1 tail in
    (ap (λ h. h ∷ more) head ∙ ap (λ t. b ∷ t) others.0, others.1)

pub told_apart : (text this that : List ℕ) (e c n e' c' n' : ℕ) → IsGiven text this e c n → IsGiven text that e' c' n' → (this ≡ that) × (e ≡ e') × (c ≡ c') × (n ≡ n')
told_apart text this that e c n e' c' n' g h =
    let t = taken_apart text this e c n g in
    let u = taken_apart text that e' c' n' h in
    let names = split this that _ _ t.realm_whole u.realm_whole (sym t.first ∙ u.first) in
    let epochs = split (decimal e) (decimal e') _ _ t.epoch_whole u.epoch_whole names.1 in
    let connections = split (decimal c) (decimal c') _ _ t.connection_whole u.connection_whole epochs.1 in
    let ef = g.epoch_fits in
    let ef' = h.epoch_fits in
    let cf = g.connection_fits in
    let cf' = h.connection_fits in
    let nf = g.number_fits in
    let nf' = h.number_fits in
    (names.0, decimal_injective e e' (omega arith) (omega arith) epochs.0, decimal_injective c c' (omega arith) (omega arith) connections.0, decimal_injective n n' (omega arith) (omega arith) connections.1)
