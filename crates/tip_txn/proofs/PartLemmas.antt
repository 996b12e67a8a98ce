-- The parts of a transaction, seen as the local party and the others behind it.
use Rattle.std.proofs.Common.{◌≡◌, ℕ, zero, suc, ◌-◌, ◌<◌, List, [], ◌∷◌, length, get_or, slice_set, ap, arith}
use Rattle.tip_txn.specs.Parts.{changed_at}
use Rattle.tip_txn.specs.declared.part.Participant.{Participant}

changed_at-set : (others : List Participant) (place : ℕ) (change : Participant → Participant) (p : Participant) → place < length others → p ≡ get_or others place p → slice_set others place (change p) ≡ changed_at place change others
changed_at-set [] place change p inside is = absurd (omega arith)
changed_at-set (x ∷ others) zero change p inside is = ap (λ (y : Participant). change y ∷ others) is
changed_at-set (x ∷ others) (suc place) change p inside is = ap (λ (ys : List Participant). x ∷ ys) (changed_at-set others place change p (omega arith) is)

-- a change to one of the others
pub changed_at-behind : (local : Participant) (others : List Participant) (place : ℕ) (change : Participant → Participant) (p : Participant) → 0 < place → place - 1 < length others → p ≡ get_or others (place - 1) p
    → local ∷ slice_set others (place - 1) (change p) ≡ changed_at place change (local ∷ others)
changed_at-behind local others zero change p there inside is = absurd (omega arith)
changed_at-behind local others (suc place) change p there inside is =
    let e : suc place - 1 ≡ place = omega arith in
    let here : p ≡ get_or others place p = rw e at is in
    rw e (ap (λ (ys : List Participant). local ∷ ys) (changed_at-set others place change p (omega arith) here))
