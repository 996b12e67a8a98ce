-- What is written, piece after piece.
use Rattle.std.proofs.Common.{◌≡◌, ◌++◌, ◌-◌, ◌∙◌, ℕ, List, [], length, take, drop, arith, Option, sym, ap}
use Rattle.std.specs.Io.KnownBytes.{Appends, Keeps}
use Rattle.std.proofs.KnownBytes.{Appends-nil, Appends-kept, Appends-trans}
use Rattle.std.proofs.lemmas.List.{append_assoc, take_all, length-drop, take-append-drop}

-- what was kept is as if nothing was written
pub appends_nothing : (a b : Option (List ℕ)) → Keeps a b → Appends a b []
appends_nothing a b kept = Appends-kept a a b [] (Appends-nil a) kept

-- so much of a text was written, and then some of the rest
pub writes_on : (text rest : List ℕ) (n : ℕ) (a b c : Option (List ℕ)) → ((front : List ℕ) × (text ≡ front ++ rest) × Appends a b front) → Appends b c (take n rest) → (front : List ℕ) × (text ≡ front ++ take (length rest - n) (drop n rest)) × Appends a c front
writes_on text rest n a b c so more =
    let whole : take (length rest - n) (drop n rest) ≡ drop n rest = take_all (length rest - n) (drop n rest) (simp length-drop (omega arith)) in
    (so.0 ++ take n rest, so.1 ∙ ap (λ l. so.0 ++ l) (sym (take-append-drop n rest)) ∙ sym (append_assoc so.0 (take n rest) (drop n rest)) ∙ ap (λ l. (so.0 ++ take n rest) ++ l) (sym whole), Appends-trans a b c so.0 (take n rest) so.2 more)
