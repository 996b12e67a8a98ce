-- A party as its notes, and its branches' own account.
use Rattle.std.specs.Prelude.{List, map}
use Rattle.std.specs.declared.alloc.Global.{Global}
use Rattle.std.specs.declared.dyn_box.DynBox.{DynBox}
use Rattle.tip_branch.specs.declared.branch.Standing.{Standing}
use Rattle.tip_branch.specs.declared.party.Party.{Party}
use Rattle.tip_branch.specs.Notes.{PartyNotes}
use Rattle.tip_branch.specs.Accounts.{Agrees, AreCalled}

-- what is noted of a party
abbrev pub noted : {X : Type 0} {F : X → Type 0} → Party X F → PartyNotes
noted p = record { realm = p.realm; epoch = p.epoch; id = p.id; errand = p.errand; members = p.roll }

-- its boxes, in order of its members
abbrev pub boxes_of : {X : Type 0} {F : X → Type 0} → Party X F → List (DynBox X Global F)
boxes_of p = p.boxes.items

-- what its branches stand for, where standing is what is seen of a box
abbrev pub accounts : {X : Type 0} {F : X → Type 0} → (DynBox X Global F → Standing) → Party X F → List Standing
accounts standing p = map standing (boxes_of p)

-- the notes are the branches' own account
abbrev pub IsTrueToBoxes : {X : Type 0} {F : X → Type 0} → (DynBox X Global F → Standing) → Party X F → Type 0
IsTrueToBoxes standing p = Agrees (noted p).members (accounts standing p)

-- each branch got its member's new call and no other
abbrev pub AreCalledAsNoted : {X : Type 0} {F : X → Type 0} → (DynBox X Global F → Standing) → Party X F → Party X F → Type 0
AreCalledAsNoted standing p q = AreCalled (noted q).members (accounts standing p) (accounts standing q)
