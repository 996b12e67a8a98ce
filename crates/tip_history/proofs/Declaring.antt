-- Realms that are declared can start, and no two have one name.
use Rattle.std.proofs.Common.{◌≡◌, arith, ◌++◌, ◌∷◌, ◌+◌, ◌≤◌, ◌==◌, ℕ, zero, suc, Bool, true, false, cond, List, [], Option, Some, None, map, length, refl, ap, sym, subst, ◌∙◌}
use Rattle.std.specs.Prelude.{◌&&◌, nat_le, nat_lt, not, option_map, slice_get, slice_set}
use Rattle.std.specs.List.{list_all, list_any, position_or_len}
use Rattle.std.specs.Str.{bytes_eq}
use Rattle.std.proofs.lemmas.Bool.{and_from, and_parts, not-true, not_from_false, or_from, or_parts}
use Rattle.std.proofs.lemmas.Bool.Decides.{nat_tests}
use Rattle.std.proofs.lemmas.List.Folds.{list_all-append, list_any-append}
use Rattle.std.proofs.lemmas.Option.{none-some, same_Some}
use Rattle.tip_line.specs.Words.{is_address, is_realm}
use Rattle.tip_rows.specs.Branches.{are_branches}
use Rattle.tip_rows.specs.Labels.{is_label}
use Rattle.tip_rows.specs.Logs.{last_epoch}
use Rattle.tip_machine.specs.Heads.{are_allowed, is_within, starting}
use Rattle.tip_machine.specs.Invariants.Links.{are_distinct}
use Rattle.tip_machine.specs.Starting.{IsStart, are_counted_from, are_declared, is_starting}
use Rattle.tip_machine.specs.declared.head.Limits.{Limits}
use Rattle.tip_actor.specs.Acting.{boxes_in}
use Rattle.tip_scene.specs.Acts.{Basis, Before, acting_of, are_labels, declaration_of, declared, first_branches, is_count, is_declared, is_other, labelled, labelled_at, may_be_declared, may_be_labelled, numbered, start_of, with_labels}
use Rattle.tip_scene.specs.declared.declared.Declaration.{Declaration}
use Rattle.tip_history.specs.Histories.{AreWritten}
use Rattle.tip_history.proofs.Doing.{boxes_are_adopted}

-- a name, an address, limits and branches that a realm may have
abbrev pub can_be : Declaration → Bool
can_be declaration = is_realm declaration.name && is_address declaration.address && are_allowed declaration.limits && are_declared declaration.branches

abbrev pub names : List Declaration → List (List ℕ)
names declarations = map (λ declaration. declaration.name) declarations

pub record AreDeclared (declarations : List Declaration) : Type 0 where
  pub each : list_all can_be declarations ≡ true
  pub named : are_distinct bytes_eq (names declarations) ≡ true

-- Branches

first_are : (n : ℕ) → is_count n ≡ true → are_declared (first_branches n) ≡ true
first_are zero few = absurd (cc)
first_are (suc zero) few = refl
first_are (suc (suc zero)) few = refl
first_are (suc (suc (suc zero))) few = refl
first_are (suc (suc (suc (suc zero)))) few = refl
first_are (suc (suc (suc (suc (suc zero))))) few = refl
first_are (suc (suc (suc (suc (suc (suc zero)))))) few = refl
first_are (suc (suc (suc (suc (suc (suc (suc zero))))))) few = refl
first_are (suc (suc (suc (suc (suc (suc (suc (suc zero)))))))) few = refl
first_are (suc (suc (suc (suc (suc (suc (suc (suc (suc n))))))))) few =
    let most : nat_le (suc (suc (suc (suc (suc (suc (suc (suc (suc n))))))))) 8 ≡ true = (and_parts (nat_le 1 (suc (suc (suc (suc (suc (suc (suc (suc (suc n)))))))))) (nat_le (suc (suc (suc (suc (suc (suc (suc (suc (suc n))))))))) 8) few).1 in
    let fewer : (suc (suc (suc (suc (suc (suc (suc (suc (suc n))))))))) ≤ 8 = grind (arith, nat_tests, most) in
    absurd (omega (arith, fewer))

counted : (number : ℕ) (labels : List (List ℕ)) → are_counted_from number (numbered number labels) ≡ true
counted number [] = refl
counted number (label ∷ labels) = and_from (number == number) _ (let same : number ≡ number = refl in grind (arith, nat_tests)) (counted (number + 1) labels)

labels_stay : (number : ℕ) (labels : List (List ℕ)) → list_all (λ (branch : ℕ × List ℕ). is_label branch.1) (numbered number labels) ≡ list_all is_label labels
labels_stay number [] = refl
labels_stay number (label ∷ labels) = ap (λ b. is_label label && b) (labels_stay (number + 1) labels)

as_many : (number : ℕ) (labels : List (List ℕ)) → length (numbered number labels) ≡ length labels
as_many number [] = refl
as_many number (label ∷ labels) = ap suc (as_many (number + 1) labels)

-- labels, as many as there were branches
labels_are : (labels : List (List ℕ)) (branches : List (ℕ × List ℕ)) → are_declared branches ≡ true → (length labels == length branches) ≡ true → are_labels labels ≡ true → are_declared (numbered 1 labels) ≡ true
labels_are labels branches were same are =
    let few : is_within 1 8 (length branches) ≡ true = (and_parts _ (are_counted_from 1 branches) (and_parts _ (are_branches branches) (and_parts _ (list_all (λ (branch : ℕ × List ℕ). is_label branch.1) branches) were).0).0).0 in
    let equal : length labels ≡ length branches = grind (arith, nat_tests, same) in
    let short : is_within 1 8 (length (numbered 1 labels)) ≡ true = ap (is_within 1 8) (as_many 1 labels ∙ equal) ∙ few in
    let all = and_parts _ (are_branches (numbered 1 labels)) are in
    let each = and_parts (nat_le (length labels) 8) (list_all is_label labels) all.0 in
    and_from _ _ (and_from _ _ (and_from (is_within 1 8 (length (numbered 1 labels))) _ short (counted 1 labels)) all.1) (labels_stay 1 labels ∙ each.1)

-- Names

-- none of them has this name
unlike_all : (name : List ℕ) (declarations : List Declaration) → list_all (is_other name) declarations ≡ true → list_any (λ other. bytes_eq other name) (names declarations) ≡ false
unlike_all name [] others = refl
unlike_all name (d ∷ declarations) others =
    let parts = and_parts (is_other name d) (list_all (is_other name) declarations) others in
    or_from (bytes_eq d.name name) _ (not-true (bytes_eq d.name name) parts.0) (unlike_all name declarations parts.1)

-- a name more, that none of them is
distinct_more : (ns : List (List ℕ)) (name : List ℕ) → are_distinct bytes_eq ns ≡ true → list_any (λ other. bytes_eq other name) ns ≡ false → are_distinct bytes_eq (ns ++ name ∷ []) ≡ true
distinct_more [] name distinct unlike = refl
distinct_more (n ∷ ns) name distinct unlike =
    let parts = and_parts (not (list_any (bytes_eq n) ns)) (are_distinct bytes_eq ns) distinct in
    let apart = or_parts (bytes_eq n name) (list_any (λ other. bytes_eq other name) ns) unlike in
    and_from (not (list_any (bytes_eq n) (ns ++ name ∷ []))) _
    (not_from_false _ (list_any-append (bytes_eq n) ns (name ∷ []) ∙ or_from (list_any (bytes_eq n) ns) _ (not-true _ parts.0) (or_from (bytes_eq n name) false apart.0 refl)))
    (distinct_more ns name parts.1 apart.1)

-- Declarations

declared_can : (name address : List ℕ) (branches : ℕ) (limits : Limits) (declarations : List Declaration) → may_be_declared name address branches limits declarations ≡ true → can_be (declaration_of name address branches limits) ≡ true
declared_can name address branches limits declarations may =
    let at = and_parts _ (is_address address) may in
    let realm = and_parts _ (is_realm name) at.0 in
    let allowed = and_parts _ (are_allowed limits) realm.0 in
    let count = and_parts _ (is_count branches) allowed.0 in
    and_from _ _ (and_from _ _ (and_from (is_realm name) (is_address address) realm.1 at.1) allowed.1) (first_are branches count.1)

-- no realm has its name
none_named : (name address : List ℕ) (branches : ℕ) (limits : Limits) (declarations : List Declaration) → may_be_declared name address branches limits declarations ≡ true → list_all (is_other name) declarations ≡ true
none_named name address branches limits declarations may =
    let at = and_parts _ (is_address address) may in
    let realm = and_parts _ (is_realm name) at.0 in
    let allowed = and_parts _ (are_allowed limits) realm.0 in
    let count = and_parts _ (is_count branches) allowed.0 in
    (and_parts (list_all (is_other name) declarations) (nat_lt (length declarations) 64) count.0).0

all_more : (declarations : List Declaration) (d : Declaration) → list_all can_be declarations ≡ true → can_be d ≡ true → list_all can_be (declarations ++ d ∷ []) ≡ true
all_more declarations d all can = list_all-append can_be declarations (d ∷ []) ∙ and_from (list_all can_be declarations) _ all (and_from (can_be d) true can refl)

names_more : (declarations : List Declaration) (d : Declaration) → names (declarations ++ d ∷ []) ≡ names declarations ++ d.name ∷ []
names_more [] d = refl
names_more (x ∷ declarations) d = ap (λ l. x.name ∷ l) (names_more declarations d)

pub one_more : (name address : List ℕ) (branches : ℕ) (limits : Limits) (declarations next : List Declaration) → AreDeclared declarations → declared name address branches limits declarations ≡ Some next → AreDeclared next
one_more name address branches limits declarations next are is = at (may_be_declared name address branches limits declarations) refl is where
  d : Declaration
  d = declaration_of name address branches limits

  at : (may : Bool) → may_be_declared name address branches limits declarations ≡ may → cond may (Some (declarations ++ d ∷ [])) None ≡ Some next → AreDeclared next
  at true may is = subst AreDeclared (same_Some (declarations ++ d ∷ []) next is) (record {
    each = all_more declarations d are.each (declared_can name address branches limits declarations may);
    named = ap (are_distinct bytes_eq) (names_more declarations d) ∙ distinct_more (names declarations) name are.named (unlike_all name declarations (none_named name address branches limits declarations may));
  })
  at false may is = absurd (none-some next is)

-- Labels

labelled_can : (labels : List (List ℕ)) (d now : Declaration) → can_be d ≡ true → with_labels labels d ≡ Some now → (can_be now ≡ true) × (now.name ≡ d.name)
labelled_can labels d now can is = at (may_be_labelled labels d) refl is where
  then_ : Declaration
  then_ = record d { branches = numbered 1 labels; is_labelled = true }

  at : (may : Bool) → may_be_labelled labels d ≡ may → cond may (Some then_) None ≡ Some now → (can_be now ≡ true) × (now.name ≡ d.name)
  at true may is =
      let fits = and_parts _ (are_labels labels) may in
      let count = and_parts (not d.is_labelled) (length labels == length d.branches) fits.0 in
      let starts = and_parts _ (are_declared d.branches) can in
      subst (λ (x : Declaration). (can_be x ≡ true) × (x.name ≡ d.name)) (same_Some then_ now is)
      (and_from _ _ starts.0 (labels_are labels d.branches starts.1 count.1 fits.1), refl)
  at false may is = absurd (none-some now is)

all_set : (declarations : List Declaration) (place : ℕ) (d : Declaration) → list_all can_be declarations ≡ true → can_be d ≡ true → list_all can_be (slice_set declarations place d) ≡ true
all_set [] place d all can = refl
all_set (x ∷ declarations) zero d all can = and_from (can_be d) _ can (and_parts (can_be x) _ all).1
all_set (x ∷ declarations) (suc place) d all can = and_from (can_be x) _ (and_parts (can_be x) (list_all can_be declarations) all).0 (all_set declarations place d (and_parts (can_be x) (list_all can_be declarations) all).1 can)

names_set : (declarations : List Declaration) (place : ℕ) (old d : Declaration) → slice_get declarations place ≡ Some old → d.name ≡ old.name → names (slice_set declarations place d) ≡ names declarations
names_set [] place old d here same = refl
names_set (x ∷ declarations) zero old d here same = ap (λ n. n ∷ names declarations) (same ∙ ap (λ (y : Declaration). y.name) (sym (same_Some x old here)))
names_set (x ∷ declarations) (suc place) old d here same = ap (λ l. x.name ∷ l) (names_set declarations place old d here same)

each_at : (declarations : List Declaration) (place : ℕ) (d : Declaration) → list_all can_be declarations ≡ true → slice_get declarations place ≡ Some d → can_be d ≡ true
each_at [] place d all here = absurd (none-some d here)
each_at (x ∷ declarations) zero d all here = ap can_be (sym (same_Some x d here)) ∙ (and_parts (can_be x) _ all).0
each_at (x ∷ declarations) (suc place) d all here = each_at declarations place d (and_parts (can_be x) (list_all can_be declarations) all).1 here

labelled_from : (labels : List (List ℕ)) (place : ℕ) (declarations next : List Declaration) → AreDeclared declarations → (found : Option Declaration) → slice_get declarations place ≡ found → labelled_at labels place found declarations ≡ Some next → AreDeclared next
labelled_from labels place declarations next are None here is = absurd (none-some next is)
labelled_from labels place declarations next are (Some d) here is = at (with_labels labels d) refl is where
  at : (now : Option Declaration) → with_labels labels d ≡ now → option_map (λ x. slice_set declarations place x) now ≡ Some next → AreDeclared next
  at None was is = absurd (none-some next is)
  at (Some now) was is =
      let can = labelled_can labels d now (each_at declarations place d are.each here) was in
      subst AreDeclared (same_Some (slice_set declarations place now) next is) (record {
        each = all_set declarations place now are.each can.0;
        named = ap (are_distinct bytes_eq) (names_set declarations place d now here can.1) ∙ are.named;
      })

pub with_names : (realm : List ℕ) (labels : List (List ℕ)) (declarations next : List Declaration) → AreDeclared declarations → labelled realm labels declarations ≡ Some next → AreDeclared next
with_names realm labels declarations next are is = labelled_from labels (position_or_len (is_declared realm) declarations) declarations next are (slice_get declarations (position_or_len (is_declared realm) declarations)) refl is

-- The start

-- what can be declared can start where tipd alone wrote what is stored of it
pub within : (epoch : ℕ) → nat_lt epoch last_epoch ≡ true → is_within 1 last_epoch (epoch + 1) ≡ true
within epoch rises =
    let least : nat_le 1 (epoch + 1) ≡ true = grind (arith, nat_tests) in
    let most : nat_le (epoch + 1) last_epoch ≡ true = grind (arith, nat_tests, rises) in
    and_from (nat_le 1 (epoch + 1)) (nat_le (epoch + 1) last_epoch) least most

pub can_start : (d : Declaration) (before : Before) → can_be d ≡ true → nat_lt before.epoch last_epoch ≡ true → is_starting (starting (start_of before d)) ≡ true
can_start d before can rises = and_from _ _ (and_from _ _ (and_from _ _ can (within before.epoch rises)) refl) refl

pub first_starts : (basis : Basis) (d : Declaration) → AreWritten basis → can_be d ≡ true → IsStart (acting_of basis d).world
first_starts basis d are can =
    let written = are d in
    let rows = (basis.before d.name).rows in
    record {
      head = can_start d (basis.before d.name) can written.rises;
      rows = written.rows;
      boxes = boxes_in rows;
      adopted = boxes_are_adopted rows written.rows.rising;
      state = refl;
      known_once = written.known_once;
      errands = refl;
    }
