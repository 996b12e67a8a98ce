-- The branches of a realm's transactions, by the keys that name them.
use Rattle.std.specs.Prelude.{ℕ, zero, suc, ◌+◌, ◌==◌, List, [], ◌∷◌, ◌++◌, length, Bool, ◌&&◌, nat_le, Option, Some, None, codes}
use Rattle.tip_branch.specs.declared.branch.Plan.{Plan}
use Rattle.tip_rows.specs.Branches.{are_branches}
use Rattle.tip_rows.specs.Labels.{is_label}
use Rattle.tip_rows.specs.Reading.{◌>>=◌, checked}
use Rattle.tip_rows.specs.Rows.{first_label}
use Rattle.tip_script.specs.Scripts.{are_kinds, plans_of}
use Rattle.tip_settings.specs.Documents.{each_of, text_at}
use Rattle.toml.specs.Data.{Data, Members, as_array, as_str, get_member}

-- a letter for each branch, 1 to 8
abbrev pub are_votes : List ℕ → Bool
are_votes letters = are_kinds letters && nat_le (length letters) 8

-- what the boxes of these letters promise
unfoldable pub plans_in : Members → Option (List Plan)
plans_in table = do
  letters ← text_at (codes "votes") table >>= checked are_votes
  Some (plans_of letters)

unfoldable pub label_in : Data → Option (List ℕ)
label_in value = as_str value >>= checked is_label

-- b1, b2 and so on, so many
abbrev pub first_labels : ℕ → List (List ℕ)
first_labels zero = []
first_labels (suc before) = first_labels before ++ first_label (suc before) ∷ []

-- the labels that are named, else the first ones
unfoldable pub labels_of : ℕ → Option Data → Option (List (List ℕ))
labels_of count None = Some (first_labels count)
labels_of count (Some value) = as_array value >>= each_of label_in

-- branches with these labels, numbered from here on
abbrev pub numbered : ℕ → List (List ℕ) → List (ℕ × List ℕ)
numbered number [] = []
numbered number (label ∷ labels) = (number, label) ∷ numbered (number + 1) labels

-- one label for each branch, no two the same
abbrev pub are_labels : ℕ → List (List ℕ) → Bool
are_labels count labels = (length labels == count) && are_branches (numbered 1 labels)

unfoldable pub branches_in : ℕ → Members → Option (List (ℕ × List ℕ))
branches_in count table = do
  labels ← labels_of count (get_member (codes "labels") table) >>= checked (are_labels count)
  Some (numbered 1 labels)
