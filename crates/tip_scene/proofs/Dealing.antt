-- Willing boxes, which are dealt one by one.
use Rattle.std.proofs.Common.{◌≡◌, ◌++◌, ◌∷◌, ◌∙◌, [], List, length, map, refl, sym, ap, subst}
use Rattle.std.proofs.lemmas.List.Elements.{All-cons, All-nil}
use Rattle.std.proofs.lemmas.List.{map_push}
use Rattle.tip_branch.specs.Lots.{AreIn, badges_of}
use Rattle.tip_branch.specs.declared.branch.Badge.{Badge}
use Rattle.tip_branch.specs.declared.branch.Phase.TheVariants.{Ready}
use Rattle.tip_branch.specs.declared.branch.Plan.TheVariants.{Yes}
use Rattle.tip_branch.specs.declared.branch.Standing.{Standing}
use Rattle.tip_actor.specs.Acting.{willing}
use Rattle.tip_scene.specs.Boxes.{AreWilling, willing_branch}

pub are_ready : (boxes : List Standing) → AreWilling boxes → AreIn Ready boxes
are_ready [] are = All-nil (λ (s : Standing). s.phase ≡ Ready)
are_ready (box ∷ boxes) are = All-cons (λ (s : Standing). s.phase ≡ Ready) box boxes (ap (λ (s : Standing). s.phase) are.0) (are_ready boxes are.1)

-- they are known as so many willing ones
pub are_known : {X : Type 0} (seen : X → Standing) (boxes : List X) → AreWilling (map seen boxes) → badges_of (map seen boxes) ≡ willing (length boxes)
are_known seen [] are = refl
are_known seen (box ∷ boxes) are = ap (λ (s : Standing). s.badge ∷ badges_of (map seen boxes)) are.0 ∙ ap (λ (l : List Badge). record { plan = Yes; mark = 0 } ∷ l) (are_known seen boxes are.1)

split : (boxes : List Standing) (last : Standing) → AreWilling (boxes ++ last ∷ []) → AreWilling boxes × (last ≡ willing_branch)
split [] last are = (tt, are.0)
split (box ∷ boxes) last are = let more = split boxes last are.1 in ((are.0, more.0), more.1)

pub join : (boxes : List Standing) (last : Standing) → AreWilling boxes → last ≡ willing_branch → AreWilling (boxes ++ last ∷ [])
join [] last are is = (is, tt)
join (box ∷ boxes) last are is = (are.0, join boxes last are.1 is)

-- the last of a pool goes to those that were dealt
pub deals : {X : Type 0} (seen : X → Standing) (pool left dealt more : List X) (box : X) → pool ≡ left ++ box ∷ [] → more ≡ dealt ++ box ∷ [] → AreWilling (map seen pool) → AreWilling (map seen dealt) → AreWilling (map seen left) × AreWilling (map seen more)
deals seen pool left dealt more box was now pooled given =
    let parts = split (map seen left) (seen box) (subst AreWilling (ap (map seen) was ∙ map_push seen left box) pooled) in
    (parts.0, subst AreWilling (sym (ap (map seen) now ∙ map_push seen dealt box)) (join (map seen dealt) (seen box) given parts.1))
