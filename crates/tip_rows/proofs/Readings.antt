-- What is read of words is a row that they spell.
use Rattle.std.proofs.Common.{◌≡◌, ℕ, ◌+◌, ◌-◌, ◌≤◌, List, [], ◌∷◌, ◌++◌, length, map, Option, Some, None, Bool, true, false, ◌&&◌, eqb, if◌then◌else◌, refl, ap, sym, ◌∙◌, subst, arith, append_assoc, append-nil, codes}
use Rattle.std.specs.List.{list_all, slice_split, join_with_byte}
use Rattle.std.specs.Str.{bytes_eq}
use Rattle.std.proofs.lemmas.Bool.Decides.{nat_tests}
use Rattle.std.proofs.lemmas.List.Splits.{join_with_byte-slice_split, length-slice_split}
use Rattle.std.proofs.lemmas.Slice.Eq.{bytes_eq-Decides}
use Rattle.tip_line.specs.Words.{is_word, is_address}
use Rattle.tip_line.proofs.StopLemmas.{and_left, and_right}
use Rattle.tip_rows.specs.Branches.{are_branches}
use Rattle.tip_rows.specs.Labels.{is_label}
use Rattle.tip_rows.specs.Reading.{◌>>=◌, checked, is_member, version_in, first_branch, second_branch, branch_in, branches_onto, items_in, branches_in, subordinate_in, subordinates_onto, prepared_in, committed_in, kind_in, row_in}
use Rattle.tip_rows.specs.Rows.{AreSubordinates, IsRow, item, digit, first_label, list_word, subordinate_words, row_words, branches_of}
use Rattle.tip_rows.specs.declared.reading.Version.{Version}
use Rattle.tip_rows.specs.declared.reading.Version.TheVariants.{First, Second}
use Rattle.tip_rows.specs.declared.row.Row.{Row}
use Rattle.tip_rows.specs.declared.row.Row.TheVariants.{Prepared, Committed}
use Rattle.tip_rows.proofs.PartsLemmas.{first_is_label}

-- how a version spells a branch, and whether a branch has the label that a version gives it
abbrev pub word_of : Version → ℕ × List ℕ → List ℕ
word_of First b = digit b.0
word_of Second b = item b

abbrev pub is_named : Version → ℕ × List ℕ → Bool
is_named First b = bytes_eq b.1 (first_label b.0)
is_named Second b = true

abbrev pub has_label : ℕ × List ℕ → Bool
has_label b = is_label b.1

abbrev pub is_subordinate : List ℕ × List ℕ → Bool
is_subordinate s = is_address s.0 && is_word s.1

abbrev pub word_by : Version → List (ℕ × List ℕ) → List ℕ
word_by version branches = list_word (map (word_of version) branches)

-- what is given of a step that may give nothing

bound : {A B : Type 0} (o : Option A) (f : A → Option B) (y : B) → (o >>= f) ≡ Some y → (x : A) × (o ≡ Some x) × (f x ≡ Some y)
bound None f y h = absurd (cc)
bound (Some x) f y h = (x, refl, h)

chosen : {A : Type 0} (is : Bool) (o : Option A) (y : A) → (if is then o else None) ≡ Some y → (is ≡ true) × (o ≡ Some y)
chosen true o y h = (refl, h)
chosen false o y h = absurd (cc)

same_some : {A : Type 0} (x y : A) → Some x ≡ Some y → x ≡ y
same_some x y h = cc

-- one branch

member_octet : (octet : ℕ) → is_member octet ≡ true → octet ≡ 48 + (octet - 48)
member_octet octet h = let least : 49 ≤ octet = grind (arith, nat_tests) in omega arith

colon_octet : (octet : ℕ) → eqb octet 58 ≡ true → octet ≡ 58
colon_octet octet h = grind (arith, nat_tests)

record Branch (version : Version) (part : List ℕ) (b : ℕ × List ℕ) : Type 0 where
  spelled : part ≡ word_of version b
  label : has_label b ≡ true
  named : is_named version b ≡ true

own_label : (n octet : ℕ) → octet ≡ 48 + n → bytes_eq (98 ∷ octet ∷ []) (first_label n) ≡ true
own_label n octet e = (bytes_eq-Decides (98 ∷ octet ∷ []) (first_label n)).1 (ap (λ o. 98 ∷ o ∷ []) e)

first_some : (part : List ℕ) (b : ℕ × List ℕ) → first_branch part ≡ Some b → Branch First part b
unfolding first_branch
first_some [] b h = absurd (cc)
first_some (octet ∷ next ∷ rest) b h = absurd (cc)
first_some (octet ∷ []) b h =
    let c = chosen (is_member octet) (Some (octet - 48, 98 ∷ octet ∷ [])) b h in
    let e = member_octet octet c.0 in
    subst (Branch First (octet ∷ [])) (same_some (octet - 48, 98 ∷ octet ∷ []) b c.1) (record {
      spelled = ap (λ o. o ∷ []) e;
      label = first_is_label octet c.0;
      named = own_label (octet - 48) octet e;
    })

second_some : (part : List ℕ) (b : ℕ × List ℕ) → second_branch part ≡ Some b → Branch Second part b
unfolding second_branch
second_some [] b h = absurd (cc)
second_some (octet ∷ []) b h = absurd (cc)
second_some (octet ∷ colon ∷ rest) b h =
    let c = chosen (is_member octet && eqb colon 58) (checked is_label rest >>= (λ label. Some (octet - 48, label))) b h in
    let l = bound (checked is_label rest) (λ label. Some (octet - 48, label)) b c.1 in
    let k = chosen (is_label rest) (Some rest) l.0 l.1 in
    let same : (octet - 48, rest) ≡ b = ap (λ r. (octet - 48, r)) (same_some rest l.0 k.1) ∙ same_some (octet - 48, l.0) b l.2 in
    let e = member_octet octet (and_left (is_member octet) (eqb colon 58) c.0) in
    let f = colon_octet colon (and_right (is_member octet) (eqb colon 58) c.0) in
    subst (Branch Second (octet ∷ colon ∷ rest)) same (record {
      spelled = ap (λ o. o ∷ colon ∷ rest) e ∙ ap (λ o. (48 + (octet - 48)) ∷ o ∷ rest) f;
      label = k.0;
      named = refl;
    })

branch_some : (version : Version) (part : List ℕ) (b : ℕ × List ℕ) → branch_in version part ≡ Some b → Branch version part b
unfolding branch_in
branch_some First part b h = first_some part b h
branch_some Second part b h = second_some part b h

-- all branches

record Items (version : Version) (parts : List (List ℕ)) (before all : List (ℕ × List ℕ)) : Type 0 where
  more : List (ℕ × List ℕ)
  all_are : all ≡ before ++ more
  spelled : parts ≡ map (word_of version) more
  labels : list_all has_label more ≡ true
  named : list_all (is_named version) more ≡ true

items_some : (version : Version) (before : List (ℕ × List ℕ)) (parts : List (List ℕ)) (all : List (ℕ × List ℕ)) → branches_onto version before parts ≡ Some all → Items version parts before all
unfolding branches_onto
items_some version before [] all h = record { more = []; all_are = sym (same_some before all h) ∙ sym (append-nil before); spelled = refl; labels = refl; named = refl }
items_some version before (part ∷ parts) all h =
    let o = bound (branch_in version part) (λ b. branches_onto version (before ++ b ∷ []) parts) all h in
    let b = branch_some version part o.0 o.1 in
    let i = items_some version (before ++ o.0 ∷ []) parts all o.2 in
    record {
      more = o.0 ∷ i.more;
      all_are = i.all_are ∙ append_assoc before (o.0 ∷ []) i.more;
      spelled = ap (λ p. p ∷ parts) b.spelled ∙ ap (λ ps. word_of version o.0 ∷ ps) i.spelled;
      labels = cc (b.label, i.labels);
      named = cc (b.named, i.named);
    }

record Word (version : Version) (word : List ℕ) (all : List (ℕ × List ℕ)) : Type 0 where
  spelled : word ≡ word_by version all
  labels : list_all has_label all ≡ true
  named : list_all (is_named version) all ≡ true

joined : (version : Version) (word : List ℕ) (all : List (ℕ × List ℕ)) → slice_split (λ octet. eqb octet 44) word ≡ map (word_of version) all → word ≡ word_by version all
joined version word [] h =
    let some = length-slice_split (λ octet. eqb octet 44) word in
    let none : length (slice_split (λ octet. eqb octet 44) word) ≡ 0 = ap length h in
    absurd (omega arith)
joined version word (b ∷ all) h = sym (join_with_byte-slice_split 44 word) ∙ ap (join_with_byte 44) h

word_items : (version : Version) (word : List ℕ) (all : List (ℕ × List ℕ)) (dash : Bool) → bytes_eq word (codes "-") ≡ dash → items_in version word ≡ Some all → Word version word all
unfolding items_in
word_items version word all true e h =
    let none : [] ≡ all = same_some [] all (rw e at h) in
    subst (Word version word) none (record { spelled = (bytes_eq-Decides word (codes "-")).0 e; labels = refl; named = refl })
word_items version word all false e h =
    let i = items_some version [] (slice_split (λ octet. eqb octet 44) word) all (rw e at h) in
    subst (Word version word) (sym i.all_are) (record { spelled = joined version word i.more i.spelled; labels = i.labels; named = i.named })

word_some : (version : Version) (word : List ℕ) (all : List (ℕ × List ℕ)) → branches_in version word ≡ Some all → (are_branches all ≡ true) × Word version word all
unfolding branches_in
word_some version word all h =
    let o = bound (items_in version word) (checked are_branches) all h in
    let k = chosen (are_branches o.0) (Some o.0) all o.2 in
    let w = word_items version word o.0 (bytes_eq word (codes "-")) refl o.1 in
    subst (λ bs. (are_branches bs ≡ true) × Word version word bs) (same_some o.0 all k.1) (k.0, w)

-- all subordinates

record Pairs (words : List (List ℕ)) (before all : List (List ℕ × List ℕ)) : Type 0 where
  more : List (List ℕ × List ℕ)
  all_are : all ≡ before ++ more
  spelled : words ≡ subordinate_words more
  are : list_all is_subordinate more ≡ true

subordinate_some : (word next : List ℕ) (s : List ℕ × List ℕ) → subordinate_in word next ≡ Some s → ((word, next) ≡ s) × (is_address word ≡ true) × (is_word next ≡ true)
unfolding subordinate_in
subordinate_some word next s h =
    let a = bound (checked is_address word) (λ address. checked is_word next >>= (λ id. Some (address, id))) s h in
    let i = bound (checked is_word next) (λ id. Some (a.0, id)) s a.2 in
    let k = chosen (is_address word) (Some word) a.0 a.1 in
    let l = chosen (is_word next) (Some next) i.0 i.1 in
    (ap (λ x. (x, next)) (same_some word a.0 k.1) ∙ ap (λ x. (a.0, x)) (same_some next i.0 l.1) ∙ same_some (a.0, i.0) s i.2, k.0, l.0)

pairs_some : (before : List (List ℕ × List ℕ)) (words : List (List ℕ)) (all : List (List ℕ × List ℕ)) → subordinates_onto before words ≡ Some all → Pairs words before all
unfolding subordinates_onto
pairs_some before [] all h = record { more = []; all_are = sym (same_some before all h) ∙ sym (append-nil before); spelled = refl; are = refl }
pairs_some before (word ∷ []) all h = absurd (cc)
pairs_some before (word ∷ next ∷ words) all h =
    let o = bound (subordinate_in word next) (λ s. subordinates_onto (before ++ s ∷ []) words) all h in
    let s = subordinate_some word next o.0 o.1 in
    let i = pairs_some (before ++ o.0 ∷ []) words all o.2 in
    record {
      more = (word, next) ∷ i.more;
      all_are = i.all_are ∙ append_assoc before (o.0 ∷ []) i.more ∙ ap (λ p. before ++ p ∷ i.more) (sym s.0);
      spelled = ap (λ ws. word ∷ next ∷ ws) i.spelled;
      are = cc (s.1, s.2, i.are);
    }

-- a row

pub record Whole (version : Version) (words : List (List ℕ)) (row : Row) : Type 0 where
  pub whole : IsRow row
  pub named : list_all (is_named version) (branches_of row) ≡ true
  pub spelled : words ≡ row_words (word_by version) row

all_pairs : (words : List (List ℕ)) (all : List (List ℕ × List ℕ)) → subordinates_onto [] words ≡ Some all → (words ≡ subordinate_words all) × AreSubordinates all
all_pairs words all h =
    let p = pairs_some [] words all h in
    subst (λ ss. (words ≡ subordinate_words ss) × AreSubordinates ss) (sym p.all_are) (p.spelled, p.are)

committed_some : (version : Version) (words : List (List ℕ)) (row : Row) → committed_in version words ≡ Some row → Whole version (codes "C" ∷ words) row
unfolding committed_in
committed_some version [] row h = absurd (cc)
committed_some version (first ∷ words) row h =
    let b = bound (branches_in version first) (λ branches. subordinates_onto [] words >>= (λ subordinates. Some (Committed branches subordinates))) row h in
    let s = bound (subordinates_onto [] words) (λ subordinates. Some (Committed b.0 subordinates)) row b.2 in
    let w = word_some version first b.0 b.1 in
    let p = all_pairs words s.0 s.1 in
    subst (Whole version (codes "C" ∷ first ∷ words)) (same_some (Committed b.0 s.0) row s.2) (record {
      whole = ((w.0, w.1.labels), p.1);
      named = w.1.named;
      spelled = ap (λ f. codes "C" ∷ f ∷ words) w.1.spelled ∙ ap (λ ws. codes "C" ∷ word_by version b.0 ∷ ws) p.0;
    })

prepared_some : (version : Version) (words : List (List ℕ)) (row : Row) → prepared_in version words ≡ Some row → Whole version (codes "P" ∷ words) row
unfolding prepared_in
prepared_some version [] row h = absurd (cc)
prepared_some version (first ∷ []) row h = absurd (cc)
prepared_some version (first ∷ second ∷ []) row h = absurd (cc)
prepared_some version (first ∷ second ∷ third ∷ words) row h =
    let a = bound (checked is_address first) (λ address. checked is_word second >>= (λ superior. branches_in version third >>= (λ branches. subordinates_onto [] words >>= (λ subordinates. Some (Prepared address superior branches subordinates))))) row h in
    let i = bound (checked is_word second) (λ superior. branches_in version third >>= (λ branches. subordinates_onto [] words >>= (λ subordinates. Some (Prepared a.0 superior branches subordinates)))) row a.2 in
    let b = bound (branches_in version third) (λ branches. subordinates_onto [] words >>= (λ subordinates. Some (Prepared a.0 i.0 branches subordinates))) row i.2 in
    let s = bound (subordinates_onto [] words) (λ subordinates. Some (Prepared a.0 i.0 b.0 subordinates)) row b.2 in
    let k = chosen (is_address first) (Some first) a.0 a.1 in
    let l = chosen (is_word second) (Some second) i.0 i.1 in
    let w = word_some version third b.0 b.1 in
    let p = all_pairs words s.0 s.1 in
    let same : Prepared first second b.0 s.0 ≡ row = ap (λ x. Prepared x second b.0 s.0) (same_some first a.0 k.1) ∙ ap (λ x. Prepared a.0 x b.0 s.0) (same_some second i.0 l.1) ∙ same_some (Prepared a.0 i.0 b.0 s.0) row s.2 in
    subst (Whole version (codes "P" ∷ first ∷ second ∷ third ∷ words)) same (record {
      whole = (k.0, l.0, (w.0, w.1.labels), p.1);
      named = w.1.named;
      spelled = ap (λ f. codes "P" ∷ first ∷ second ∷ f ∷ words) w.1.spelled ∙ ap (λ ws. codes "P" ∷ first ∷ second ∷ word_by version b.0 ∷ ws) p.0;
    })

kind_some : (version : Version) (kind : List ℕ) (words : List (List ℕ)) (row : Row) (prepared committed : Bool) → bytes_eq kind (codes "P") ≡ prepared → bytes_eq kind (codes "C") ≡ committed → kind_in version kind words ≡ Some row → Whole version (kind ∷ words) row
unfolding kind_in
kind_some version kind words row true committed p c h =
    subst (λ k. Whole version (k ∷ words) row) (sym ((bytes_eq-Decides kind (codes "P")).0 p)) (prepared_some version words row (rw p at h))
kind_some version kind words row false true p c h =
    subst (λ k. Whole version (k ∷ words) row) (sym ((bytes_eq-Decides kind (codes "C")).0 c)) (committed_some version words row (rw (p, c) at h))
kind_some version kind words row false false p c h = let none : None ≡ Some row = rw (p, c) at h in absurd (cc)

-- how a version is written
abbrev pub version_word : Version → List ℕ
version_word First = codes "1"
version_word Second = codes "2"

version_some : (word : List ℕ) (version : Version) (first second : Bool) → bytes_eq word (codes "1") ≡ first → bytes_eq word (codes "2") ≡ second → version_in word ≡ Some version → word ≡ version_word version
unfolding version_in
version_some word version true second f s h = subst (λ v. word ≡ version_word v) (same_some First version (rw f at h)) ((bytes_eq-Decides word (codes "1")).0 f)
version_some word version false true f s h = subst (λ v. word ≡ version_word v) (same_some Second version (rw (f, s) at h)) ((bytes_eq-Decides word (codes "2")).0 s)
version_some word version false false f s h = let none : None ≡ Some version = rw (f, s) at h in absurd (cc)

pub row_some : (words : List (List ℕ)) (row : Row) → row_in words ≡ Some row → (version : Version) × (others : List (List ℕ)) × (words ≡ version_word version ∷ others) × Whole version others row
unfolding row_in
row_some [] row h = absurd (cc)
row_some (first ∷ []) row h = absurd (cc)
row_some (first ∷ kind ∷ words) row h =
    let v = bound (version_in first) (λ version. kind_in version kind words) row h in
    (v.0, kind ∷ words, ap (λ f. f ∷ kind ∷ words) (version_some first v.0 (bytes_eq first (codes "1")) (bytes_eq first (codes "2")) refl refl v.1), kind_some v.0 kind words row (bytes_eq kind (codes "P")) (bytes_eq kind (codes "C")) refl refl v.2)
