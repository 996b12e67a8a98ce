-- A text that spells a row is read as that row, and as no other.
use Rattle.std.proofs.Common.{◌≡◌, ◌⊎◌, inl, inr, ℕ, ◌+◌, ◌-◌, ◌<◌, List, [], ◌∷◌, ◌++◌, map, Option, Some, None, Result, Ok, Err, IfOk, Bool, true, false, ◌&&◌, not, nat_le, eqb, if◌then◌else◌, lit<, refl, ap, sym, ◌∙◌, arith, append_assoc, append-nil, codes}
use Rattle.std.specs.List.{list_all, slice_split, join_with_byte}
use Rattle.std.specs.Str.{bytes_eq}
use Rattle.std.proofs.lemmas.Bool.Decides.{nat_tests}
use Rattle.std.proofs.lemmas.List.Splits.{join_with_byte-slice_split}
use Rattle.std.proofs.lemmas.Slice.Eq.{bytes_eq-Decides}
use Rattle.tip_line.specs.Words.{is_word, is_address}
use Rattle.tip_line.proofs.StopLemmas.{and_left, and_right}
use Rattle.tip_rows.specs.Branches.{are_branches}
use Rattle.tip_rows.specs.Labels.{is_label}
use Rattle.tip_rows.specs.Reading.{◌>>=◌, Gives, checked, is_member, version_in, first_branch, second_branch, branch_in, branches_onto, items_in, branches_in, subordinate_in, subordinates_onto, prepared_in, committed_in, kind_in, row_in}
use Rattle.tip_rows.specs.Rows.{IsRow, Spells, IsFirstText, first_label, subordinate_words, row_words, branches_of, written}
use Rattle.tip_rows.specs.declared.reading.Version.{Version}
use Rattle.tip_rows.specs.declared.reading.Version.TheVariants.{First, Second}
use Rattle.tip_rows.specs.declared.row.Row.{Row}
use Rattle.tip_rows.specs.declared.row.Row.TheVariants.{Prepared, Committed}
use Rattle.tip_rows.specs.declared.text.RowFault.{RowFault}
use Rattle.tip_rows.specs.declared.text.RowFault.TheVariants.{BadRow, Memory}
use Rattle.tip_rows.proofs.Joins.{is_free, split_joined, joined_free, word_free, label_free, number_free, colon_free}
use Rattle.tip_rows.proofs.PartsLemmas.{items_marked}
use Rattle.tip_rows.proofs.Readings.{word_of, is_named, has_label, is_subordinate, word_by, version_word, Whole, row_some}
use Rattle.tip_rows.proofs.WrittenLemmas.{first_range, other_branches}

address_word : (word : List ℕ) → is_address word ≡ true → is_word word ≡ true
address_word word h = and_right (not (bytes_eq word (codes "-"))) (is_word word) h

version_free : (version : Version) → is_free 32 (version_word version) ≡ true
version_free First = refl
version_free Second = refl

-- from words to text

text_of : (text word : List ℕ) (others : List (List ℕ)) → slice_split (λ octet. eqb octet 32) text ≡ word ∷ others → text ≡ join_with_byte 32 (word ∷ others)
text_of text word others h = sym (join_with_byte-slice_split 32 text) ∙ ap (join_with_byte 32) h

spelled_by : (text : List ℕ) (row : Row) (version : Version) (others : List (List ℕ)) → slice_split (λ octet. eqb octet 32) text ≡ version_word version ∷ others → Whole version others row → Spells row text
spelled_by text row First others h w = record {
  whole = w.whole;
  spelled = inr (record { labels = w.named; spelled = text_of text (codes "1") others h ∙ ap (λ ws. join_with_byte 32 (codes "1" ∷ ws)) w.spelled });
}
spelled_by text row Second others h w = record {
  whole = w.whole;
  spelled = inl (text_of text (codes "2") others h ∙ ap (λ ws. join_with_byte 32 (codes "2" ∷ ws)) w.spelled);
}

row_spelled : (text : List ℕ) (row : Row) → row_in (slice_split (λ octet. eqb octet 32) text) ≡ Some row → Spells row text
row_spelled text row h = let s = row_some (slice_split (λ octet. eqb octet 32) text) row h in spelled_by text row s.0 s.1 s.2 s.3

-- from text to words

taken : {A : Type 0} (is : Bool) (o : Option A) → is ≡ true → (if is then o else None) ≡ o
taken true o h = refl
taken false o h = absurd (cc)

branch_free : (mark : ℕ) → mark < 48 → (version : Version) (b : ℕ × List ℕ) → has_label b ≡ true → is_free mark (word_of version b) ≡ true
branch_free mark low First b h = cc (number_free mark b.0 low)
branch_free mark low Second b h = cc (number_free mark b.0 low, colon_free mark low, label_free mark low b.1 h)

branches_free : (mark : ℕ) → mark < 48 → (version : Version) (branches : List (ℕ × List ℕ)) → list_all has_label branches ≡ true → list_all (is_free mark) (map (word_of version) branches) ≡ true
branches_free mark low version [] h = refl
branches_free mark low version (b ∷ branches) h =
    cc (branch_free mark low version b (and_left (has_label b) (list_all has_label branches) h), branches_free mark low version branches (and_right (has_label b) (list_all has_label branches) h))

word_by_free : (version : Version) (branches : List (ℕ × List ℕ)) → list_all has_label branches ≡ true → is_free 32 (word_by version branches) ≡ true
word_by_free version [] h = refl
word_by_free version (b ∷ branches) h = joined_free (map (word_of version) (b ∷ branches)) (branches_free 32 (lit< tt) version (b ∷ branches) h)

pairs_free : (subordinates : List (List ℕ × List ℕ)) → list_all is_subordinate subordinates ≡ true → list_all (is_free 32) (subordinate_words subordinates) ≡ true
pairs_free [] h = refl
pairs_free (s ∷ subordinates) h =
    let one = and_left (is_subordinate s) (list_all is_subordinate subordinates) h in
    let address = word_free s.0 (address_word s.0 (and_left (is_address s.0) (is_word s.1) one)) in
    let id = word_free s.1 (and_right (is_address s.0) (is_word s.1) one) in
    cc (address, id, pairs_free subordinates (and_right (is_subordinate s) (list_all is_subordinate subordinates) h))

words_free : (version : Version) (row : Row) → IsRow row → list_all (is_free 32) (version_word version ∷ row_words (word_by version) row) ≡ true
words_free version (Prepared address superior branches subordinates) h =
    cc (version_free version, word_free address (address_word address h.0), word_free superior h.1, word_by_free version branches h.2.1, pairs_free subordinates h.3)
words_free version (Committed branches subordinates) h =
    cc (version_free version, word_by_free version branches h.0.1, pairs_free subordinates h.1)

member : (n : ℕ) → (nat_le 1 n && nat_le n 8) ≡ true → is_member (48 + n) ≡ true
member n h = grind (arith, nat_tests)

number_is : (n : ℕ) → (48 + n) - 48 ≡ n
number_is n = omega arith

branch_read : (version : Version) (b : ℕ × List ℕ) → (nat_le 1 b.0 && nat_le b.0 8) ≡ true → has_label b ≡ true → is_named version b ≡ true → branch_in version (word_of version b) ≡ Some b
unfolding branch_in first_branch second_branch
branch_read First b range label named =
    taken (is_member (48 + b.0)) (Some ((48 + b.0) - 48, 98 ∷ (48 + b.0) ∷ [])) (member b.0 range) ∙ ap (λ n. Some (n, first_label b.0)) (number_is b.0) ∙ ap (λ l. Some (b.0, l)) (sym ((bytes_eq-Decides b.1 (first_label b.0)).0 named))
branch_read Second b range label named =
    taken (is_member (48 + b.0) && true) (checked is_label b.1 >>= (λ l. Some ((48 + b.0) - 48, l))) (ap (λ is. is && true) (member b.0 range)) ∙ ap (λ o. o >>= (λ l. Some ((48 + b.0) - 48, l))) (taken (is_label b.1) (Some b.1) label) ∙ ap (λ n. Some (n, b.1)) (number_is b.0)

items_read : (version : Version) (before branches : List (ℕ × List ℕ)) → are_branches branches ≡ true → list_all has_label branches ≡ true → list_all (is_named version) branches ≡ true → branches_onto version before (map (word_of version) branches) ≡ Some (before ++ branches)
unfolding branches_onto
items_read version before [] are labels named = ap Some (sym (append-nil before))
items_read version before (b ∷ branches) are labels named =
    let one = branch_read version b (first_range b branches are) (and_left (has_label b) (list_all has_label branches) labels) (and_left (is_named version b) (list_all (is_named version) branches) named) in
    let more = items_read version (before ++ b ∷ []) branches (other_branches b branches are) (and_right (has_label b) (list_all has_label branches) labels) (and_right (is_named version b) (list_all (is_named version) branches) named) in
    ap (λ o. o >>= (λ c. branches_onto version (before ++ c ∷ []) (map (word_of version) branches))) one ∙ more ∙ ap Some (append_assoc before (b ∷ []) branches)

no_dash : (n : ℕ) → eqb (48 + n) 45 ≡ false
no_dash n = grind (arith, nat_tests)

marked : (version : Version) (b : ℕ × List ℕ) (branches : List (ℕ × List ℕ)) → bytes_eq (word_by version (b ∷ branches)) (codes "-") ≡ false
marked First b [] = rw (no_dash b.0) refl
marked First b (next ∷ branches) = rw (no_dash b.0) refl
marked Second b [] = rw (no_dash b.0) refl
marked Second b (next ∷ branches) = rw (no_dash b.0) refl

word_read : (version : Version) (branches : List (ℕ × List ℕ)) → are_branches branches ≡ true → list_all has_label branches ≡ true → list_all (is_named version) branches ≡ true → branches_in version (word_by version branches) ≡ Some branches
unfolding branches_in items_in
word_read version [] are labels named = refl
word_read version (b ∷ branches) are labels named =
    let parts = split_joined 44 (word_of version b) (map (word_of version) branches) (branches_free 44 (lit< tt) version (b ∷ branches) labels) in
    let items = items_marked version (word_by version (b ∷ branches)) (marked version b branches) ∙ ap (branches_onto version []) parts ∙ items_read version [] (b ∷ branches) are labels named in
    ap (λ o. o >>= checked are_branches) items ∙ taken (are_branches (b ∷ branches)) (Some (b ∷ branches)) are

subordinate_read : (word next : List ℕ) → is_address word ≡ true → is_word next ≡ true → subordinate_in word next ≡ Some (word, next)
unfolding subordinate_in
subordinate_read word next a i =
    ap (λ o. o >>= (λ address. checked is_word next >>= (λ id. Some (address, id)))) (taken (is_address word) (Some word) a) ∙ ap (λ o. o >>= (λ id. Some (word, id))) (taken (is_word next) (Some next) i)

pairs_read : (before subordinates : List (List ℕ × List ℕ)) → list_all is_subordinate subordinates ≡ true → subordinates_onto before (subordinate_words subordinates) ≡ Some (before ++ subordinates)
unfolding subordinates_onto
pairs_read before [] h = ap Some (sym (append-nil before))
pairs_read before (s ∷ subordinates) h =
    let is = and_left (is_subordinate s) (list_all is_subordinate subordinates) h in
    let one = subordinate_read s.0 s.1 (and_left (is_address s.0) (is_word s.1) is) (and_right (is_address s.0) (is_word s.1) is) in
    let more = pairs_read (before ++ s ∷ []) subordinates (and_right (is_subordinate s) (list_all is_subordinate subordinates) h) in
    ap (λ o. o >>= (λ c. subordinates_onto (before ++ c ∷ []) (subordinate_words subordinates))) one ∙ more ∙ ap Some (append_assoc before (s ∷ []) subordinates)

version_read : (version : Version) → version_in (version_word version) ≡ Some version
unfolding version_in
version_read First = refl
version_read Second = refl

whole_read : (version : Version) (row : Row) → IsRow row → list_all (is_named version) (branches_of row) ≡ true → row_in (version_word version ∷ row_words (word_by version) row) ≡ Some row
unfolding row_in kind_in prepared_in committed_in
whole_read version (Prepared address superior branches subordinates) h named =
    let words = subordinate_words subordinates in
    ap (λ o. o >>= (λ v. kind_in v (codes "P") (address ∷ superior ∷ word_by version branches ∷ words))) (version_read version)
    ∙ ap (λ o. o >>= (λ a. checked is_word superior >>= (λ i. branches_in version (word_by version branches) >>= (λ bs. subordinates_onto [] words >>= (λ ss. Some (Prepared a i bs ss)))))) (taken (is_address address) (Some address) h.0)
    ∙ ap (λ o. o >>= (λ i. branches_in version (word_by version branches) >>= (λ bs. subordinates_onto [] words >>= (λ ss. Some (Prepared address i bs ss))))) (taken (is_word superior) (Some superior) h.1)
    ∙ ap (λ o. o >>= (λ bs. subordinates_onto [] words >>= (λ ss. Some (Prepared address superior bs ss)))) (word_read version branches h.2.0 h.2.1 named)
    ∙ ap (λ o. o >>= (λ ss. Some (Prepared address superior branches ss))) (pairs_read [] subordinates h.3)
whole_read version (Committed branches subordinates) h named =
    let words = subordinate_words subordinates in
    ap (λ o. o >>= (λ v. kind_in v (codes "C") (word_by version branches ∷ words))) (version_read version)
    ∙ ap (λ o. o >>= (λ bs. subordinates_onto [] words >>= (λ ss. Some (Committed bs ss)))) (word_read version branches h.0.0 h.0.1 named)
    ∙ ap (λ o. o >>= (λ ss. Some (Committed branches ss))) (pairs_read [] subordinates h.1)

second_named : (branches : List (ℕ × List ℕ)) → list_all (is_named Second) branches ≡ true
second_named [] = refl
second_named (b ∷ branches) = second_named branches

text_read : (version : Version) (text : List ℕ) (row : Row) → IsRow row → list_all (is_named version) (branches_of row) ≡ true → text ≡ join_with_byte 32 (version_word version ∷ row_words (word_by version) row) → row_in (slice_split (λ octet. eqb octet 32) text) ≡ Some row
text_read version text row is named spelled =
    ap (λ t. row_in (slice_split (λ octet. eqb octet 32) t)) spelled ∙ ap row_in (split_joined 32 (version_word version) (row_words (word_by version) row) (words_free version row is)) ∙ whole_read version row is named

spelled_read : (text : List ℕ) (row : Row) → IsRow row → (text ≡ written row) ⊎ IsFirstText row text → row_in (slice_split (λ octet. eqb octet 32) text) ≡ Some row
spelled_read text row is (inl second) = text_read Second text row is (second_named (branches_of row)) second
spelled_read text row is (inr first) = text_read First text row is first.labels first.spelled

row_read : (text : List ℕ) (row : Row) → Spells row text → row_in (slice_split (λ octet. eqb octet 32) text) ≡ Some row
row_read text row h = spelled_read text row h.whole h.spelled

-- what parsing answers, by what is read

pub parsed : (text : List ℕ) (result : Result Row RowFault) → Gives result (row_in (slice_split (λ octet. eqb octet 32) text)) → IfOk result (λ row. Spells row text)
parsed text (Ok row) g = row_spelled text row g
parsed text (Err fault) g = tt

pub parsed_only : (text : List ℕ) (result : Result Row RowFault) → Gives result (row_in (slice_split (λ octet. eqb octet 32) text)) → (row : Row) → Spells row text → (result ≡ Ok row) ⊎ (result ≡ Err Memory)
parsed_only text (Ok other) g row h = let same : Some other ≡ Some row = sym g ∙ row_read text row h in let e : other ≡ row = cc in inl (ap Ok e)
parsed_only text (Err BadRow) g row h = let none : None ≡ Some row = sym g ∙ row_read text row h in absurd (cc)
parsed_only text (Err Memory) g row h = inr refl

bad_other : (result : Result Row RowFault) (row : Row) → result ≡ Err BadRow → (result ≡ Ok row) ⊎ (result ≡ Err Memory) → ⊥
bad_other result row e (inl h) = cc
bad_other result row e (inr h) = cc

pub parsed_bad : (text : List ℕ) (result : Result Row RowFault) → Gives result (row_in (slice_split (λ octet. eqb octet 32) text)) → result ≡ Err BadRow → (row : Row) → ¬ Spells row text
parsed_bad text result g e row h = bad_other result row e (parsed_only text result g row h)
