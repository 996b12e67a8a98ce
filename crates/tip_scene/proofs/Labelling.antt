-- Labels that are read one after another.
use Rattle.std.proofs.Common.{◌≡◌, ◌+◌, ◌<◌, ◌≤◌, ◌++◌, ◌∷◌, [], ℕ, suc, List, Bool, true, false, length, nat_le, None, Some, append-nil, append_assoc, arith, option_map, refl, sym, ap, subst, ◌∙◌}
use Rattle.std.specs.Prelude.{◌&&◌, ◌==◌, Err, IsErrOf, Ok, OnOk, Result, slice_get, slice_set}
use Rattle.std.specs.List.{list_all, position_or_len}
use Rattle.std.proofs.lemmas.Bool.{and_from}
use Rattle.std.proofs.lemmas.Bool.Decides.{nat_tests}
use Rattle.tip_rows.specs.Branches.{are_branches}
use Rattle.tip_rows.specs.Labels.{is_label}
use Rattle.tip_scene.specs.Acts.{are_labels, is_declared, labelled, labelled_at, numbered, with_labels}
use Rattle.tip_scene.specs.Stages.{Declares}
use Rattle.tip_scene.specs.declared.declared.Declaration.{Declaration}
use Rattle.tip_scene.specs.declared.fault.LineFault.{LineFault}
use Rattle.tip_scene.specs.declared.fault.LineFault.TheVariants.{NotUnderstood, Memory, Store}

-- so many labels were read, and each is one
pub record AreRead (all left : List (List ℕ)) (items : List (ℕ × List ℕ)) (number : ℕ) : Type 0 where
  pub done : List (List ℕ)
  pub whole : done ++ left ≡ all
  pub items_are : items ≡ numbered 1 done
  pub labels : list_all is_label done ≡ true
  pub next : number ≡ length done + 1
  pub few : length done ≤ 8

pub none_read : (all : List (List ℕ)) → AreRead all all [] 1
none_read all = record { done = []; whole = refl; items_are = refl; labels = refl; next = omega arith; few = omega arith }

numbered_more : (number : ℕ) (labels : List (List ℕ)) (label : List ℕ) → numbered number (labels ++ label ∷ []) ≡ numbered number labels ++ (number + length labels, label) ∷ []
numbered_more number [] label = let same : number ≡ number + 0 = omega arith in ap (λ n. (n, label) ∷ []) same
numbered_more number (l ∷ labels) label = let same : number + 1 + length labels ≡ number + suc (length labels) = omega arith in ap (λ rest. (number, l) ∷ rest) (numbered_more (number + 1) labels label ∙ ap (λ n. numbered (number + 1) labels ++ (n, label) ∷ []) same)

all_more : (labels : List (List ℕ)) (label : List ℕ) (rest : List (List ℕ)) → list_all is_label (labels ++ label ∷ rest) ≡ (list_all is_label labels && (is_label label && list_all is_label rest))
all_more [] label rest = refl
all_more (l ∷ labels) label rest = by (is_label l) (all_more labels label rest) where
  by : (b : Bool) → list_all is_label (labels ++ label ∷ rest) ≡ (list_all is_label labels && (is_label label && list_all is_label rest)) → (b && list_all is_label (labels ++ label ∷ rest)) ≡ (b && list_all is_label labels && (is_label label && list_all is_label rest))
  by true same = same
  by false same = refl

length_behind : {T : Type 0} (xs ys : List T) → length (xs ++ ys) ≡ length xs + length ys
length_behind [] ys = grind (arith)
length_behind (x ∷ xs) ys = grind (arith, length_behind xs ys)

module _ (all left rest : List (List ℕ)) (items : List (ℕ × List ℕ)) (number : ℕ) (label : List ℕ) (read : AreRead all left items number) (next : left ≡ label ∷ rest) where
  whole_now : read.done ++ label ∷ rest ≡ all
  whole_now = ap (λ l. read.done ++ l) (sym next) ∙ read.whole

  pub one_more_read : (more : List (ℕ × List ℕ)) → more ≡ items ++ (number, label) ∷ [] → is_label label ≡ true → number ≤ 8 → AreRead all rest more (number + 1)
  one_more_read more pushed is few = record {
    done = read.done ++ label ∷ [];
    whole = append_assoc read.done (label ∷ []) rest ∙ whole_now;
    items_are =
        let same : number ≡ 1 + length read.done = let n = read.next in omega arith in
        pushed ∙ ap (λ l. l ++ (number, label) ∷ []) read.items_are ∙ ap (λ n. numbered 1 read.done ++ (n, label) ∷ []) same ∙ sym (numbered_more 1 read.done label);
    labels = all_more read.done label [] ∙ and_from (list_all is_label read.done) (is_label label && true) read.labels (and_from (is_label label) true is refl);
    next = let n = read.next in omega (arith, length_behind read.done (label ∷ []));
    few = let n = read.next in omega (arith, length_behind read.done (label ∷ []));
  }

  -- a ninth
  pub too_many : 8 < number → are_labels all ≡ false
  too_many past =
      let count : length read.done + length (label ∷ rest) ≡ length all = sym (length_behind read.done (label ∷ rest)) ∙ ap length whole_now in
      let n = read.next in
      let not : nat_le (length all) 8 ≡ false = grind (arith, nat_tests) in
      rw not refl

  -- one that is none
  pub no_label : is_label label ≡ false → are_labels all ≡ false
  no_label not = by (nat_le (length all) 8) (list_all is_label all) (ap (list_all is_label) (sym whole_now) ∙ all_more read.done label rest ∙ ap (λ b. list_all is_label read.done && (b && list_all is_label rest)) not ∙ and_no (list_all is_label read.done)) where
    and_no : (b : Bool) → (b && false) ≡ false
    and_no true = refl
    and_no false = refl

    by : (few labels : Bool) → labels ≡ false → (few && labels && are_branches (numbered 1 all)) ≡ false
    by few true is = absurd (cc)
    by true false is = refl
    by false false is = refl

module _ (all left : List (List ℕ)) (items : List (ℕ × List ℕ)) (number : ℕ) (read : AreRead all left items number) (none : left ≡ []) where
  all_done : read.done ≡ all
  all_done = sym (append-nil read.done) ∙ ap (λ l. read.done ++ l) (sym none) ∙ read.whole

  pub items_all : items ≡ numbered 1 all
  items_all = read.items_are ∙ ap (numbered 1) all_done

  pub labels_all : are_branches items ≡ true → are_labels all ≡ true
  labels_all are =
      let few : nat_le (length all) 8 ≡ true = let n = read.few in let same = ap length all_done in grind (arith, nat_tests) in
      and_from (nat_le (length all) 8 && list_all is_label all) (are_branches (numbered 1 all)) (and_from (nat_le (length all) 8) (list_all is_label all) few (ap (list_all is_label) (sym all_done) ∙ read.labels)) (ap are_branches (sym items_all) ∙ are)

  pub labels_not : are_branches items ≡ false → are_labels all ≡ false
  labels_not not = by (nat_le (length all) 8 && list_all is_label all) (ap are_branches (sym items_all) ∙ not) where
    by : (b : Bool) → are_branches (numbered 1 all) ≡ false → (b && are_branches (numbered 1 all)) ≡ false
    by true is = is
    by false is = refl

-- A realm's branches have labels

length-numbered : (number : ℕ) (labels : List (List ℕ)) → length (numbered number labels) ≡ length labels
length-numbered number [] = refl
length-numbered number (label ∷ labels) = ap suc (length-numbered (number + 1) labels)

module _ (labels : List (List ℕ)) (declaration : Declaration) (branches : List (ℕ × List ℕ)) (unlabelled : declaration.is_labelled ≡ false) (are : branches ≡ numbered 1 labels) (good : are_labels labels ≡ true) where
  count : length branches ≡ length labels
  count = ap length are ∙ length-numbered 1 labels

  pub labels_fit : (length branches == length declaration.branches) ≡ true → with_labels labels declaration ≡ Some (record declaration { branches = branches; is_labelled = true })
  labels_fit same =
      let fits : (length labels == length declaration.branches) ≡ true = subst (λ n. (n == length declaration.branches) ≡ true) count same in
      rw (unlabelled, fits, good, are) refl

  pub labels_misfit : (length branches == length declaration.branches) ≡ false → with_labels labels declaration ≡ None
  labels_misfit differ =
      let misfit : (length labels == length declaration.branches) ≡ false = subst (λ n. (n == length declaration.branches) ≡ false) count differ in
      rw (unlabelled, misfit) refl

-- One realm of those that are declared

module _ (declarations : List Declaration) (name : List ℕ) (labels : List (List ℕ)) (place : ℕ) (declaration : Declaration) (here : place ≡ position_or_len (is_declared name) declarations) (there : slice_get declarations place ≡ Some declaration) where
  labelled_is : labelled name labels declarations ≡ option_map (λ now. slice_set declarations place now) (with_labels labels declaration)
  labelled_is =
      ap (λ p. labelled_at labels p (slice_get declarations p) declarations) (sym here)
      ∙ ap (λ found. labelled_at labels place found declarations) there

  labels_one : (now : Declaration) → with_labels labels declaration ≡ Some now → labelled name labels declarations ≡ Some (slice_set declarations place now)
  labels_one now fits = labelled_is ∙ ap (option_map (λ d. slice_set declarations place d)) fits

  labels_none : with_labels labels declaration ≡ None → labelled name labels declarations ≡ None
  labels_none none = labelled_is ∙ ap (option_map (λ d. slice_set declarations place d)) none

  pub labelled_so : (now : Declaration) (result : Result (Unit {0}) LineFault) → OnOk result (with_labels labels declaration ≡ Some now) → (IsErrOf result NotUnderstood → with_labels labels declaration ≡ None) → (IsErrOf result Store → ⊥) → Declares (labelled name labels declarations) (slice_set declarations place now) result
  labelled_so now (Ok done) ok bad unasked = labels_one now ok
  labelled_so now (Err NotUnderstood) ok bad unasked = labels_none (bad refl)
  labelled_so now (Err Memory) ok bad unasked = tt
  labelled_so now (Err Store) ok bad unasked = unasked refl
