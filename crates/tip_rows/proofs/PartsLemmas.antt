-- The parts of a text, as they are taken and read one by one.
use Rattle.std.proofs.Common.{◌≡◌, ℕ, List, [], ◌∷◌, ◌++◌, Option, Some, None, Result, Ok, Err, IsErr, IsErrAnd, MatchResult, codes, subst, Bool, true, false, eqb, not, if◌then◌else◌, refl, ap, sym, ◌∙◌, arith}
use Rattle.std.specs.List.{slice_split}
use Rattle.std.specs.Str.{bytes_eq}
use Rattle.std.proofs.lemmas.Bool.Decides.{nat_tests}
use Rattle.tip_rows.specs.Labels.{is_label}
use Rattle.tip_rows.specs.Reading.{is_member, branch_in, branches_onto, items_in, Fails, Gives, subordinate_in, subordinates_onto}
use Rattle.tip_rows.specs.declared.reading.Version.{Version}
use Rattle.tip_rows.specs.declared.text.RowFault.{RowFault}
use Rattle.tip_rows.specs.declared.text.RowFault.TheVariants.{BadRow, Memory}

-- what a push leaves where it is no fault
pub pushed : {X : Type 0} (ok err : Bool) (items old new : List X) → items ≡ (if ok then new else old) → ok ≡ not err → err ≡ false → items ≡ new
pushed true err items old new e n h = e
pushed false err items old new e n h = absurd (let t : false ≡ true = n ∙ ap not h in cc)

fails_more : {A B : Type 0} (fault : RowFault) (here : Option B) (read : Option A) → Fails fault here → (here ≡ None → read ≡ None) → Fails fault read
fails_more BadRow here read f none = none f
fails_more Memory here read f none = tt

-- a fault of one step is that of the whole
pub refused_by : {A B : Type 0} (result : Result A RowFault) (fault : RowFault) (here : Option B) (read : Option A) → IsErr result × IsErrAnd result (λ e. e ≡ fault) → Fails fault here → (here ≡ None → read ≡ None) → Gives result read
refused_by (Ok x) fault here read h f none = absurd (cc)
refused_by (Err e) fault here read h f none = subst (λ v. Fails v read) (sym h.1) (fails_more fault here read f none)

pub items_failed : {X B A : Type 0} (view : X → A) (result : Result X RowFault) (fault : RowFault) (here : Option B) (read : Option A) → IsErr result × IsErrAnd result (λ e. e ≡ fault) → Fails fault here → (here ≡ None → read ≡ None) → MatchResult result (λ x. read ≡ Some (view x)) (λ e. Fails e read)
items_failed view (Ok x) fault here read h f none = absurd (cc)
items_failed view (Err e) fault here read h f none = subst (λ v. Fails v read) (sym h.1) (fails_more fault here read f none)

-- the branches of a word that is no dash are those of its parts
pub items_marked : (version : Version) (word : List ℕ) → bytes_eq word (codes "-") ≡ false → items_in version word ≡ branches_onto version [] (slice_split (λ octet. eqb octet 44) word)
unfolding items_in
items_marked version word h = rw h refl

pub branches_taken : (version : Version) (items : List (ℕ × List ℕ)) (left : List (List ℕ)) → left ≡ [] → branches_onto version items left ≡ Some items
unfolding branches_onto
branches_taken version items left e = rw e refl

pub branch_taken : (version : Version) (items : List (ℕ × List ℕ)) (part : List ℕ) (left more : List (List ℕ)) (branch : ℕ × List ℕ) → left ≡ part ∷ more → branch_in version part ≡ Some branch → branches_onto version items left ≡ branches_onto version (items ++ branch ∷ []) more
unfolding branches_onto
branch_taken version items part left more branch e h = rw e (rw h refl)

pub branch_refused : (version : Version) (items : List (ℕ × List ℕ)) (part : List ℕ) (left more : List (List ℕ)) → left ≡ part ∷ more → branch_in version part ≡ None → branches_onto version items left ≡ None
unfolding branches_onto
branch_refused version items part left more e h = rw e (rw h refl)

pub subordinates_taken : (items : List (List ℕ × List ℕ)) (left : List (List ℕ)) → left ≡ [] → subordinates_onto items left ≡ Some items
unfolding subordinates_onto
subordinates_taken items left e = rw e refl

pub subordinate_taken : (items : List (List ℕ × List ℕ)) (word next : List ℕ) (subordinate : List ℕ × List ℕ) (left middle more : List (List ℕ)) → left ≡ word ∷ middle → middle ≡ next ∷ more → subordinate_in word next ≡ Some subordinate → subordinates_onto items left ≡ subordinates_onto (items ++ subordinate ∷ []) more
unfolding subordinates_onto
subordinate_taken items word next subordinate left middle more e f h = rw (e, f) (rw h refl)

pub subordinate_alone : (items : List (List ℕ × List ℕ)) (word : List ℕ) (left middle : List (List ℕ)) → left ≡ word ∷ middle → middle ≡ [] → subordinates_onto items left ≡ None
unfolding subordinates_onto
subordinate_alone items word left middle e f = rw (e, f) refl

pub subordinate_refused : (items : List (List ℕ × List ℕ)) (word next : List ℕ) (left middle more : List (List ℕ)) → left ≡ word ∷ middle → middle ≡ next ∷ more → subordinate_in word next ≡ None → subordinates_onto items left ≡ None
unfolding subordinates_onto
subordinate_refused items word next left middle more e f h = rw (e, f) (rw h refl)

pub first_is_label : (octet : ℕ) → is_member octet ≡ true → is_label (98 ∷ octet ∷ []) ≡ true
first_is_label octet h = grind (arith, nat_tests)
