-- Boxes that are all in one phase, beside what each is known by.
use Rattle.std.specs.Prelude.{◌≡◌, List, map, reverse}
use Rattle.std.specs.declared.alloc.Global.{Global}
use Rattle.std.specs.declared.dyn_box.DynBox.{DynBox}
use Rattle.std.specs.List.{All}
use Rattle.tip_branch.specs.declared.branch.Badge.{Badge}
use Rattle.tip_branch.specs.declared.branch.Phase.{Phase}
use Rattle.tip_branch.specs.declared.branch.Standing.{Standing}
use Rattle.tip_branch.specs.declared.lot.Lot.{Lot}

-- what these branches are known by
abbrev pub badges_of : List Standing → List Badge
badges_of ss = map (λ s. s.badge) ss

-- they are all in that phase
abbrev pub AreIn : Phase → List Standing → Type 0
AreIn phase ss = All (λ s. s.phase ≡ phase) ss

-- what is noted of a lot: what its branches are known by, in order
abbrev pub badges : {X : Type 0} {F : X → Type 0} → Lot X F → List Badge
badges lot = reverse lot.known.items

-- its boxes, in order
abbrev pub boxes_in : {X : Type 0} {F : X → Type 0} → Lot X F → List (DynBox X Global F)
boxes_in lot = reverse lot.boxes.items

-- what is noted is the branches' own account, where standing is what is seen of a box
pub record IsTrueLot {X : Type 0} {F : X → Type 0} (standing : DynBox X Global F → Standing) (lot : Lot X F) : Type 0 where
  pub known : badges_of (map standing (boxes_in lot)) ≡ badges lot
  pub phase : AreIn lot.phase (map standing (boxes_in lot))
