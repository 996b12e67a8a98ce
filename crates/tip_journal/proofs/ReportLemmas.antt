-- The report, realm by realm.
use Rattle.std.proofs.Common.{◌≡◌, ℕ, ◌+◌, ◌<◌, List, [], ◌∷◌, ◌++◌, length, get_or, take, sym, ap, ◌∙◌, arith}
use Rattle.std.specs.Prelude.{map}
use Rattle.std.specs.List.{flat_map, enumerate_from}
use Rattle.std.proofs.lemmas.List.{take_more, length-take, append-nil}
use Rattle.std.proofs.lemmas.List.Concat.{flat_map-append}
use Rattle.tip_journal.specs.Journal.{Written}
use Rattle.tip_journal.specs.Audit.{report_of, reported}

enumerate_from-push : {A : Type 0} (n : ℕ) (xs : List A) (x : A) → enumerate_from n (xs ++ x ∷ []) ≡ enumerate_from n xs ++ (n + length xs, x) ∷ []
enumerate_from-push n [] x = let same : n ≡ n + 0 = omega arith in ap (λ m. (m, x) ∷ []) same
enumerate_from-push n (y ∷ xs) x =
    let same : n + 1 + length xs ≡ n + length (y ∷ xs) = omega arith in
    ap (λ ps. (n, y) ∷ ps) (enumerate_from-push (n + 1) xs x ∙ ap (λ m. enumerate_from (n + 1) xs ++ (m, x) ∷ []) same)

-- one realm more
pub report-more : {S E : Type 0} (journals : List (List (Written S E))) (realm : ℕ) (history : List (Written S E)) → realm < length journals → history ≡ get_or journals realm history → report_of (take (realm + 1) journals) ≡ report_of (take realm journals) ++ map (reported realm) history
report-more {S} {E} journals realm history within is =
    let of : ℕ × List (Written S E) → List _ = λ h. map (reported h.0) h.1 in
    let more = take_more journals realm history within ∙ ap (λ h. take realm journals ++ h ∷ []) (sym is) in
    let long : 0 + length (take realm journals) ≡ realm = omega (arith, length-take realm journals) in
    ap report_of more
    ∙ ap (flat_map of) (enumerate_from-push 0 (take realm journals) history)
    ∙ flat_map-append of (enumerate_from 0 (take realm journals)) ((0 + length (take realm journals), history) ∷ [])
    ∙ ap (λ ys. report_of (take realm journals) ++ ys) (append-nil (map (reported (0 + length (take realm journals))) history) ∙ ap (λ n. map (reported n) history) long)
