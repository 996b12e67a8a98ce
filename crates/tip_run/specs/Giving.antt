-- Boxes that are given to rows (ours).
use Rattle.std.specs.Prelude.{◌≡◌, List, [], ◌∷◌, length, MatchOption}
use Rattle.tip_recovery.specs.Adopting.{Recovery, Unfinished}
use Rattle.tip_rows.specs.Rows.{branches_of}

-- a row as it was read, with no boxes or one for each of its branches
pub record IsGiven (before after : Unfinished) : Type 0 where
  pub key : after.key ≡ before.key
  pub row : after.row ≡ before.row
  pub fits : MatchOption after.boxes (Unit {0}) (λ boxes. length boxes ≡ length (branches_of after.row))

abbrev pub AreGiven : List Unfinished → List Unfinished → Type 0
AreGiven [] [] = Unit {0}
AreGiven [] (row ∷ after) = ⊥
AreGiven (row ∷ before) [] = ⊥
AreGiven (row ∷ before) (given ∷ after) = IsGiven row given × AreGiven before after

-- so are those of each realm, in its epoch
abbrev pub AreEachGiven : List Recovery → List Recovery → Type 0
AreEachGiven [] [] = Unit {0}
AreEachGiven [] (recovery ∷ after) = ⊥
AreEachGiven (recovery ∷ before) [] = ⊥
AreEachGiven (recovery ∷ before) (given ∷ after) = ((given.epoch ≡ recovery.epoch) × AreGiven recovery.rows given.rows) × AreEachGiven before after
