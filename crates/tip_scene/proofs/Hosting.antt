-- What is declared may be hosted.
use Rattle.std.proofs.Common.{◌≡◌, ◌+◌, ◌≤◌, ◌++◌, ◌∷◌, ◌∙◌, [], ℕ, zero, suc, List, Bool, true, false, None, Some, length, arith, refl, sym, ap, subst}
use Rattle.std.specs.Prelude.{◌&&◌, ◌==◌, if◌then◌else◌, Err, Ok, OnErr, OnOk, Result, not, slice_get, slice_set}
use Rattle.std.specs.List.{list_all}
use Rattle.std.specs.Cmp.{unsigned_Decides}
use Rattle.std.proofs.lemmas.Bool.{and_from}
use Rattle.std.proofs.lemmas.List.Folds.{list_all-append}
use Rattle.std.proofs.lemmas.Option.{none-some, same_Some}
use Rattle.tip_stored.specs.Loading.{are_declared}
use Rattle.tip_machine.specs.Heads.{are_allowed, is_within}
use Rattle.tip_machine.specs.Starting.{are_counted_from}
use Rattle.tip_machine.specs.declared.head.Limits.{Limits}
use Rattle.tip_scene.specs.Acts.{are_labels, declaration_of, first_branches, is_count, may_be_labelled, numbered, with_labels}
use Rattle.tip_scene.specs.Hosting.{may_be_hosted}
use Rattle.tip_scene.specs.declared.declared.Declaration.{Declaration}
use Rattle.tip_scene.specs.declared.fault.LineFault.{LineFault}
use Rattle.tip_scene.proofs.Adopted.{both}

-- The first branches

first_declared : (count : ℕ) → count ≤ 8 → is_count count ≡ true → are_declared (first_branches count) ≡ true
first_declared zero few some = absurd (cc)
first_declared (suc zero) few some = refl
first_declared (suc (suc zero)) few some = refl
first_declared (suc (suc (suc zero))) few some = refl
first_declared (suc (suc (suc (suc zero)))) few some = refl
first_declared (suc (suc (suc (suc (suc zero))))) few some = refl
first_declared (suc (suc (suc (suc (suc (suc zero)))))) few some = refl
first_declared (suc (suc (suc (suc (suc (suc (suc zero))))))) few some = refl
first_declared (suc (suc (suc (suc (suc (suc (suc (suc zero)))))))) few some = refl
first_declared (suc (suc (suc (suc (suc (suc (suc (suc (suc n))))))))) few some = absurd (omega (arith, few))

-- one realm more
pub more_hostable : (declarations : List Declaration) (name address : List ℕ) (branches : ℕ) (limits : Limits) → list_all may_be_hosted declarations ≡ true → branches ≤ 8 → is_count branches ≡ true → are_allowed limits ≡ true → list_all may_be_hosted (declarations ++ declaration_of name address branches limits ∷ []) ≡ true
more_hostable declarations name address branches limits all few some allowed =
    list_all-append may_be_hosted declarations (declaration_of name address branches limits ∷ [])
    ∙ and_from (list_all may_be_hosted declarations) (may_be_hosted (declaration_of name address branches limits) && true) all
    (and_from (may_be_hosted (declaration_of name address branches limits)) true (and_from (are_allowed limits) (are_declared (first_branches branches)) allowed (first_declared branches few some)) refl)

-- Labels

counted : (number : ℕ) (labels : List (List ℕ)) → are_counted_from number (numbered number labels) ≡ true
counted number [] = refl
counted number (label ∷ labels) = and_from (number == number) (are_counted_from (number + 1) (numbered (number + 1) labels)) ((unsigned_Decides number number).1 refl) (counted (number + 1) labels)

length_numbered : (number : ℕ) (labels : List (List ℕ)) → length (numbered number labels) ≡ length labels
length_numbered number [] = refl
length_numbered number (label ∷ labels) = ap suc (length_numbered (number + 1) labels)

labelled_hostable : (labels : List (List ℕ)) (old new : Declaration) (may : Bool) → may_be_labelled labels old ≡ may → (if may then Some (record old { branches = numbered 1 labels; is_labelled = true }) else None) ≡ Some new → may_be_hosted old ≡ true → may_be_hosted new ≡ true
labelled_hostable labels old new false may some hosted = absurd (none-some new some)
labelled_hostable labels old new true may some hosted =
    let parts = both (are_allowed old.limits) (are_declared old.branches) hosted in
    let same = (both (not old.is_labelled) (length labels == length old.branches) (both (not old.is_labelled && length labels == length old.branches) (are_labels labels) may).0).1 in
    let count : length (numbered 1 labels) ≡ length old.branches = length_numbered 1 labels ∙ (unsigned_Decides (length labels) (length old.branches)).0 same in
    let within : is_within 1 8 (length (numbered 1 labels)) ≡ true = ap (is_within 1 8) count ∙ (both (is_within 1 8 (length old.branches)) (are_counted_from 1 old.branches) parts.1).0 in
    subst (λ d. may_be_hosted d ≡ true) (same_Some (record old { branches = numbered 1 labels; is_labelled = true }) new some)
    (and_from (are_allowed old.limits) (are_declared (numbered 1 labels)) parts.0 (and_from (is_within 1 8 (length (numbered 1 labels))) (are_counted_from 1 (numbered 1 labels)) within (counted 1 labels)))

-- Realms

hosted_at : (declarations : List Declaration) (place : ℕ) (declaration : Declaration) → slice_get declarations place ≡ Some declaration → list_all may_be_hosted declarations ≡ true → may_be_hosted declaration ≡ true
hosted_at [] place declaration here all = absurd (none-some declaration here)
hosted_at (d ∷ declarations) zero declaration here all = subst (λ x. may_be_hosted x ≡ true) (same_Some d declaration here) (both (may_be_hosted d) (list_all may_be_hosted declarations) all).0
hosted_at (d ∷ declarations) (suc place) declaration here all = hosted_at declarations place declaration here (both (may_be_hosted d) (list_all may_be_hosted declarations) all).1

hosted_set : (declarations : List Declaration) (place : ℕ) (now : Declaration) → list_all may_be_hosted declarations ≡ true → may_be_hosted now ≡ true → list_all may_be_hosted (slice_set declarations place now) ≡ true
hosted_set [] place now all is = refl
hosted_set (d ∷ declarations) zero now all is = and_from (may_be_hosted now) (list_all may_be_hosted declarations) is (both (may_be_hosted d) (list_all may_be_hosted declarations) all).1
hosted_set (d ∷ declarations) (suc place) now all is =
    let parts = both (may_be_hosted d) (list_all may_be_hosted declarations) all in
    and_from (may_be_hosted d) (list_all may_be_hosted (slice_set declarations place now)) parts.0 (hosted_set declarations place now parts.1 is)

-- one of them was labelled, or may not be
pub set_hostable : (declarations : List Declaration) (place : ℕ) (old now : Declaration) (labels : List (List ℕ)) (result : Result (Unit {0}) LineFault) → slice_get declarations place ≡ Some old → OnOk result (with_labels labels old ≡ Some now) → OnErr result (now ≡ old) → list_all may_be_hosted declarations ≡ true → list_all may_be_hosted (slice_set declarations place now) ≡ true
set_hostable declarations place old now labels (Ok done) here ok same all = hosted_set declarations place now all (labelled_hostable labels old now (may_be_labelled labels old) refl ok (hosted_at declarations place old here all))
set_hostable declarations place old now labels (Err why) here ok same all = hosted_set declarations place now all (subst (λ d. may_be_hosted d ≡ true) (sym same) (hosted_at declarations place old here all))

-- any of them may be hosted
pub one_hostable : (before after all : List Declaration) (one : Declaration) → list_all may_be_hosted all ≡ true → before ++ one ∷ after ≡ all → may_be_hosted one ≡ true
one_hostable before after all one hosted whole =
    let parts = both (list_all may_be_hosted before) (may_be_hosted one && list_all may_be_hosted after) (sym (list_all-append may_be_hosted before (one ∷ after)) ∙ ap (list_all may_be_hosted) whole ∙ hosted) in
    (both (may_be_hosted one) (list_all may_be_hosted after) parts.1).0
