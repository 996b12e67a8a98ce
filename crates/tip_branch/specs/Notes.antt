-- The notes of a party: what is seen of it where its boxes are not.
use Rattle.std.specs.Prelude.{◌≡◌, ℕ, List, map}
use Rattle.tip_branch.specs.declared.branch.Standing.{Standing}
use Rattle.tip_branch.specs.declared.member.Errand.{Errand}
use Rattle.tip_branch.specs.declared.member.Errand.TheVariants.{Idle}
use Rattle.tip_branch.specs.declared.member.Member.{Member}
use Rattle.tip_branch.specs.Members.{new_members, forgetting}
use Rattle.tip_branch.specs.Errands.{IsCarriedOut}

pub record PartyNotes : Type 0 where
  pub realm : List ℕ
  pub epoch : ℕ
  pub id : List ℕ
  pub errand : Errand
  pub members : List Member

-- a party with nothing to do, of these members
abbrev pub idle_party : List ℕ → ℕ → List ℕ → List Member → PartyNotes
idle_party r e i ms = record { realm = r; epoch = e; id = i; errand = Idle; members = ms }

-- a new party of these branches
abbrev pub new_party : List ℕ → ℕ → List ℕ → List ℕ → List Standing → PartyNotes
new_party r e i ns ss = idle_party r e i (new_members ns ss)

-- a party that is given an errand, and forgets the calls of the one before
abbrev pub given : PartyNotes → Errand → PartyNotes
given p e = record p { errand = e; members = map forgetting p.members }

-- a party that has carried out its errand
pub record ComesBack (p q : PartyNotes) : Type 0 where
  pub carried_out : IsCarriedOut p.errand p.members q.members
  pub rest : q ≡ record p { errand = Idle; members = q.members }
