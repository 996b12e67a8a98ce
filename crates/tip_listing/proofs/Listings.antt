-- A listing that has come to its last name, and the names that it lists.
use Rattle.std.proofs.Common.{◌≡◌, ◌++◌, ◌≤◌, ◌∙◌, ℕ, List, [], length, drop, All, IsSome, get_or, refl, sym, subst, append-nil}
use Rattle.std.proofs.lemmas.List.{drop_all}
use Rattle.std.proofs.lemmas.List.Folds.{list_any_at}
use Rattle.std.specs.Str.{bytes_eq}
use Rattle.tip_rows.proofs.MemoryLemmas.{bytes_eq-self}
use Rattle.tip_rows.specs.Logs.{Log, AreNames}
use Rattle.tip_listing.specs.Listing.{ListsAll}

-- nothing is left to be listed, so what was printed lists all
pub lists_all : (now : Log) (names : List (List ℕ)) (n : ℕ) (text : List ℕ) → length names ≤ n → ((later : List ℕ) → ListsAll now (drop n names) later → ListsAll now names (text ++ later)) → ListsAll now names text
lists_all now names n text past so =
    let none : drop n names ≡ [] = drop_all n names past in
    subst (ListsAll now names) (append-nil text) (so [] (subst (λ left. ListsAll now left []) (sym none) refl))

-- the names of the known realms are those of known realms
pub names_are_known : (now : Log) (names : List (List ℕ)) → AreNames now names → All (λ name. IsSome (now.epochs name)) names
names_are_known now names so k d past =
    let name = get_or names k d in
    so.known name ∙ list_any_at (λ other. bytes_eq other name) names k d past (bytes_eq-self name)
