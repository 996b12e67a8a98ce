-- Where the first line of a stream stops is one place.
use Rattle.std.proofs.Common.{◌≡◌, ℕ, ◌+◌, ◌<◌, ◌≤◌, List, [], ◌∷◌, ◌++◌, length, take, drop, slice_index, Bool, true, false, ◌&&◌, ◌⊎◌, inl, inr, refl, sym, ap, ◌∙◌, arith, take-append-drop}
use Rattle.std.specs.List.{list_all}
use Rattle.std.proofs.lemmas.Bool.{false≢true}
use Rattle.std.proofs.lemmas.Bool.Decides.{nat_tests}
use Rattle.std.proofs.lemmas.List.{drop_more, length-append}
use Rattle.std.proofs.lemmas.List.Folds.{list_all-append}
use Rattle.tip_line.specs.Octets.{is_end, is_printable, IsWithin}
use Rattle.tip_line.specs.Stops.{IsCause}
use Rattle.tip_line.specs.declared.lines.Cause.{Cause}
use Rattle.tip_line.specs.declared.lines.Cause.TheVariants.{TooLong, Octet}

-- what stops a line that has so many octets
abbrev pub StopsLine : ℕ → ℕ → Type 0
StopsLine len octet = (is_printable octet ≡ false) ⊎ (len ≡ 1024)

pub and_left : (a b : Bool) → (a && b) ≡ true → a ≡ true
and_left true b h = refl
and_left false b h = h

pub and_right : (a b : Bool) → (a && b) ≡ true → b ≡ true
and_right true b h = h
and_right false b h = absurd (false≢true h)

pub end_stops : (octet : ℕ) → is_end octet ≡ true → is_printable octet ≡ false
end_stops octet h = grind (arith, nat_tests)

pub cause_stops : (len octet : ℕ) (cause : Cause) → IsCause len octet cause → StopsLine len octet
cause_stops len octet TooLong h = inr h
cause_stops len octet Octet h = inl h.1

stops_later : (k x z : ℕ) (a : List ℕ) → StopsLine (k + length (z ∷ a)) x → StopsLine (k + 1 + length a) x
stops_later k x z a (inl h) = inl h
stops_later k x z a (inr h) = inr (omega arith)

not_in : (x z : ℕ) (b : List ℕ) → list_all is_printable (z ∷ b) ≡ true → x ≡ z → is_printable x ≡ false → ⊥
not_in x z b all e h = false≢true (sym h ∙ ap is_printable e ∙ and_left (is_printable z) (list_all is_printable b) all)

-- a line is stopped at one place
same_stop : (k : ℕ) (a b : List ℕ) (x y : ℕ) (c d : List ℕ) → list_all is_printable a ≡ true → list_all is_printable b ≡ true → k + length a ≤ 1024 → k + length b ≤ 1024 → StopsLine (k + length a) x → StopsLine (k + length b) y → a ++ x ∷ c ≡ b ++ y ∷ d → (a ≡ b) × (x ≡ y) × (c ≡ d)
same_stop k [] [] x y c d pa pb la lb sx sy e = (refl, cc, cc)
same_stop k [] (z ∷ b) x y c d pa pb la lb (inl h) sy e = absurd (not_in x z b pb (cc) h)
same_stop k [] (z ∷ b) x y c d pa pb la lb (inr h) sy e = absurd (omega arith)
same_stop k (z ∷ a) [] x y c d pa pb la lb sx (inl h) e = absurd (not_in y z a pa (cc) h)
same_stop k (z ∷ a) [] x y c d pa pb la lb sx (inr h) e = absurd (omega arith)
same_stop k (z ∷ a) (w ∷ b) x y c d pa pb la lb sx sy e =
    let heads : z ≡ w = cc in
    let tails : a ++ x ∷ c ≡ b ++ y ∷ d = cc in
    let more = same_stop (k + 1) a b x y c d (and_right (is_printable z) (list_all is_printable a) pa) (and_right (is_printable w) (list_all is_printable b) pb) (omega arith) (omega arith) (stops_later k x z a sx) (stops_later k y w b sy) tails in
    let e0 = more.0 in
    (cc, more.1, more.2)

from_zero : (n x : ℕ) → StopsLine n x → StopsLine (0 + n) x
from_zero n x (inl h) = inl h
from_zero n x (inr h) = inr (omega arith)

-- the same from the front of a line on
pub one_stop : (a b : List ℕ) (x y : ℕ) (c d : List ℕ) → IsWithin a → IsWithin b → StopsLine (length a) x → StopsLine (length b) y → a ++ x ∷ c ≡ b ++ y ∷ d → (a ≡ b) × (x ≡ y) × (c ≡ d)
one_stop a b x y c d wa wb sa sb e =
    let la = wa.short in
    let lb = wb.short in
    same_stop 0 a b x y c d wa.printable wb.printable (omega arith) (omega arith) (from_zero (length a) x sa) (from_zero (length b) y sb) e

-- what is within a line has no stop
pub no_stop : (a : List ℕ) (x : ℕ) (c : List ℕ) → IsWithin (a ++ x ∷ c) → StopsLine (length a) x → ⊥
no_stop a x c w (inl h) = not_in x x c (and_right (list_all is_printable a) (list_all is_printable (x ∷ c)) (sym (list_all-append is_printable a (x ∷ c)) ∙ w.printable)) refl h
no_stop a x c w (inr h) = let short = w.short in omega (arith, length-append a (x ∷ c))

-- the octets in three parts at a place
pub parts_at : (octets : List ℕ) (at : ℕ) → at < length octets → octets ≡ take at octets ++ slice_index octets at ∷ drop (at + 1) octets
parts_at octets at h = sym (take-append-drop at octets) ∙ ap (λ rest. take at octets ++ rest) (drop_more octets at 0 h)
