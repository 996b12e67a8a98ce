-- Known realms in the order of their names.
use Rattle.std.proofs.Common.{◌≡◌, ℕ, zero, suc, ◌<◌, pos, List, [], ◌∷◌, ◌++◌, length, get_or, insert, map, Bool, true, false, not, if◌then◌else◌, Option, Some, None, option_map, unwrap_or, find, is_some, IsSome, refl, sym, ap, subst, ◌∙◌, arith, inl, inr}
use Rattle.std.specs.List.{list_all, list_any}
use Rattle.std.specs.Str.{bytes_eq}
use Rattle.std.proofs.lemmas.Bool.{cases_Bool}
use Rattle.std.specs.Ordering.{is_lt, is_eq, nat_cmp, ordering_reverse}
use Rattle.std.specs.declared.cmp.Ordering.{Ordering}
use Rattle.std.specs.declared.cmp.Ordering.TheVariants.{Less, Equal, Greater}
use Rattle.std.specs.Cmp.Lexicographic.{slice_cmp, nat_list_cmp_total}
use Rattle.std.proofs.lemmas.Map.Text.{is_eq-slice_cmp}
use Rattle.tip_line.specs.Words.{is_realm}
use Rattle.tip_line.proofs.StopLemmas.{and_left, and_right}
use Rattle.tip_rows.specs.Logs.{Log, name_before, are_rising_names, AreNames, with_known}
use Rattle.tip_rows.specs.Logs as logs
use Rattle.tip_rows.specs.Memory.{Stored, is_named, epoch_in, due_in, log_in, is_from, known_in}
use Rattle.tip_rows.specs.declared.memory.Known.{Known}
use Rattle.tip_rows.proofs.MemoryLemmas.{Shows, same_text, bytes_eq-self, name_before-self}

known-names : (known : List Known) (name : List ℕ) → is_some (epoch_in known name) ≡ list_any (λ other. bytes_eq other name) (map (λ (k : Known). k.realm) known)
known-names [] name = refl
known-names (k ∷ known) name = elim (cases_Bool (bytes_eq k.realm name)) [ inl own ↦ simp own | inr other ↦ simp other (known-names known name) ]

no_bad_name : (known : List Known) (name : List ℕ) → list_all is_realm (map (λ (k : Known). k.realm) known) ≡ true → IsSome (epoch_in known name) → is_realm name ≡ true
no_bad_name [] name realms some = cc
no_bad_name (k ∷ known) name realms some = elim (cases_Bool (bytes_eq k.realm name)) [
  | inl own ↦ ap is_realm (sym (same_text k.realm name own)) ∙ and_left (is_realm k.realm) (list_all is_realm (map (λ (k : Known). k.realm) known)) realms
  | inr other ↦
      let there : IsSome (epoch_in known name) = rw other at some in
      no_bad_name known name (and_right (is_realm k.realm) (list_all is_realm (map (λ (k : Known). k.realm) known)) realms) there
]

-- the names that rows in memory have are those of their log
pub AreNames-known : (known : List Known) (rows : List Stored) (log : Log) → Shows known rows log → AreNames log (map (λ (k : Known). k.realm) known)
AreNames-known known rows log shown = subst (λ (l : Log). AreNames l (map (λ (k : Known). k.realm) known)) shown.same (record {
  rising = shown.kept.names;
  known = known-names known;
  sound = λ bad. (let good : is_realm bad.0 ≡ true = no_bad_name known bad.0 shown.kept.realms bad.1 in let wrong : is_realm bad.0 ≡ false = bad.2 in cc);
})

-- where a realm becomes known
pub known_at_end : (k d : Known) (known : List Known) → ((i : ℕ) → i < length known → is_from k.realm (get_or known i d) ≡ false) → known ++ k ∷ [] ≡ known_in k known
known_at_end k d [] before = refl
known_at_end k d (x ∷ known) before =
    let first : is_from k.realm x ≡ false = before 0 (omega arith) in
    rw first (ap (λ (ks : List Known). x ∷ ks) (known_at_end k d known (λ i inside. before (suc i) (omega arith))))

pub known_already : (k d : Known) (known : List Known) (i : ℕ) → i < length known → is_from k.realm (get_or known i d) ≡ true → ((j : ℕ) → j < i → is_from k.realm (get_or known j d) ≡ false) → bytes_eq (get_or known i d).realm k.realm ≡ true → known ≡ known_in k known
known_already k d [] i inside past before same = absurd (omega arith)
known_already k d (x ∷ known) zero inside past before same = simp (past, same)
known_already k d (x ∷ known) (suc i) inside past before same =
    let first : is_from k.realm x ≡ false = before 0 (omega arith) in
    simp first (ap (λ (ks : List Known). x ∷ ks) (known_already k d known i (omega arith) past (λ j less. before (suc j) (omega arith)) same))

pub known_before : (k d : Known) (known : List Known) (i : ℕ) → i < length known → is_from k.realm (get_or known i d) ≡ true → ((j : ℕ) → j < i → is_from k.realm (get_or known j d) ≡ false) → bytes_eq (get_or known i d).realm k.realm ≡ false → insert known i k ≡ known_in k known
known_before k d [] i inside past before same = absurd (omega arith)
known_before k d (x ∷ known) zero inside past before same = rw (past, same) refl
known_before k d (x ∷ known) (suc i) inside past before same =
    let first : is_from k.realm x ≡ false = before 0 (omega arith) in
    rw first (ap (λ (ks : List Known). x ∷ ks) (known_before k d known i (omega arith) past (λ j less. before (suc j) (omega arith)) same))

-- the order of names
less : (o : Ordering) → is_lt o ≡ true → o ≡ Less
less Less h = refl
less Equal h = cc
less Greater h = cc

-- a name that comes before one that comes before a third comes before that
pub name-trans : (a b c : List ℕ) → name_before a b ≡ true → name_before b c ≡ true → name_before a c ≡ true
name-trans a b c h k = rw (nat_list_cmp_total.trans a b c (less (slice_cmp nat_cmp a b) h) (less (slice_cmp nat_cmp b c) k)) refl

turned : (o : Ordering) → not (is_lt o) ≡ true → is_eq o ≡ false → is_lt (ordering_reverse o) ≡ true
turned Less h k = cc
turned Equal h k = cc
turned Greater h k = refl

-- of two names that are not the same, where the one does not come before the other, the other comes before it
pub name-other : (a b : List ℕ) → not (name_before a b) ≡ true → bytes_eq a b ≡ false → name_before b a ≡ true
name-other a b past apart = rw (nat_list_cmp_total.antisymm b a) (turned (slice_cmp nat_cmp a b) past (is_eq-slice_cmp a b ∙ apart))

-- a name that comes before another is not the same
pub name-apart : (a b : List ℕ) → name_before a b ≡ true → bytes_eq a b ≡ false
name-apart a b h = elim (cases_Bool (bytes_eq a b)) [
  | inl same ↦ cc (ap (λ (n : List ℕ). name_before n b) (same_text a b same), name_before-self b, h)
  | inr apart ↦ apart
]

pub not_true : (b : Bool) → not b ≡ false → b ≡ true
not_true true h = refl
not_true false h = cc

abbrev names : List Known → List (List ℕ)
names known = map (λ (k : Known). k.realm) known

leads-less : (a b : List ℕ) (ns : List (List ℕ)) → name_before a b ≡ true → list_all (name_before b) ns ≡ true → list_all (name_before a) ns ≡ true
leads-less a b [] first all = refl
leads-less a b (n ∷ ns) first all = cc (name-trans a b n first (and_left (name_before b n) (list_all (name_before b) ns) all), leads-less a b ns first (and_right (name_before b n) (list_all (name_before b) ns) all))

leads-known : (a : List ℕ) (k : Known) (known : List Known) → name_before a k.realm ≡ true → list_all (name_before a) (names known) ≡ true → list_all (name_before a) (names (known_in k known)) ≡ true
leads-known a k [] first all = simp first
leads-known a k (x ∷ known) first all =
    let here = and_left (name_before a x.realm) (list_all (name_before a) (names known)) all in
    let rest = and_right (name_before a x.realm) (list_all (name_before a) (names known)) all in
    elim (cases_Bool (is_from k.realm x)) [
      | inl past ↦ elim (cases_Bool (bytes_eq x.realm k.realm)) [ inl same ↦ simp (past, same, here) rest | inr apart ↦ simp (past, apart, first, here) rest ]
      | inr before ↦ simp (before, here) (leads-known a k known first rest)
    ]

rising-known : (k : Known) (known : List Known) → are_rising_names (names known) ≡ true → are_rising_names (names (known_in k known)) ≡ true
rising-known k [] rising = refl
rising-known k (x ∷ known) rising =
    let first = and_left (list_all (name_before x.realm) (names known)) (are_rising_names (names known)) rising in
    let rest = and_right (list_all (name_before x.realm) (names known)) (are_rising_names (names known)) rising in
    elim (cases_Bool (is_from k.realm x)) [
      | inl past ↦ elim (cases_Bool (bytes_eq x.realm k.realm)) [
        | inl same ↦ simp (past, same, first) rest
        | inr apart ↦ let over = name-other x.realm k.realm past apart in simp (past, apart, over, leads-less k.realm x.realm (names known) over first, first) rest
      ]
      | inr before ↦ simp (before, leads-known x.realm k known (not_true (name_before x.realm k.realm) before) first) (rising-known k known rest)
    ]

unknown-behind : (name : List ℕ) (known : List Known) → list_all (name_before name) (names known) ≡ true → find (is_named name) known ≡ None
unknown-behind name [] all = refl
unknown-behind name (x ∷ known) all =
    let here = and_left (name_before name x.realm) (list_all (name_before name) (names known)) all in
    let rest = and_right (name_before name x.realm) (list_all (name_before name) (names known)) all in
    elim (cases_Bool (bytes_eq x.realm name)) [
      | inl same ↦ cc (ap (name_before name) (same_text x.realm name same), here, name_before-self name)
      | inr apart ↦ simp apart (unknown-behind name known rest)
    ]

find-known_own : (k : Known) (known : List Known) → are_rising_names (names known) ≡ true → find (is_named k.realm) (known_in k known) ≡ Some (unwrap_or (find (is_named k.realm) known) k)
find-known_own k [] rising = simp (bytes_eq-self k.realm)
find-known_own k (x ∷ known) rising =
    let first = and_left (list_all (name_before x.realm) (names known)) (are_rising_names (names known)) rising in
    let rest = and_right (list_all (name_before x.realm) (names known)) (are_rising_names (names known)) rising in
    elim (cases_Bool (is_from k.realm x)) [
      | inl past ↦ elim (cases_Bool (bytes_eq x.realm k.realm)) [
        | inl same ↦ simp (past, same)
        | inr apart ↦ simp (past, apart, bytes_eq-self k.realm, unknown-behind k.realm known (leads-less k.realm x.realm (names known) (name-other x.realm k.realm past apart) first))
      ]
      | inr before ↦ elim (cases_Bool (bytes_eq x.realm k.realm)) [
        | inl same ↦ cc (ap (λ (n : List ℕ). name_before n k.realm) (same_text x.realm k.realm same), not_true (name_before x.realm k.realm) before, name_before-self k.realm)
        | inr apart ↦ simp (before, apart) (find-known_own k known rest)
      ]
    ]

find-known_other : (k : Known) (known : List Known) (r : List ℕ) → bytes_eq k.realm r ≡ false → find (is_named r) (known_in k known) ≡ find (is_named r) known
find-known_other k [] r apart = simp apart
find-known_other k (x ∷ known) r apart = elim (cases_Bool (is_from k.realm x)) [
  | inl past ↦ elim (cases_Bool (bytes_eq x.realm k.realm)) [ inl same ↦ simp (past, same) | inr other ↦ simp (past, other, apart) ]
  | inr before ↦ elim (cases_Bool (bytes_eq x.realm r)) [ inl here ↦ simp (before, here) | inr elsewhere ↦ simp (before, elsewhere) (find-known_other k known r apart) ]
]

abbrev pub newly : List ℕ → Known
newly realm = record { realm = realm; epoch = 0; is_refusing = false }

epoch-known : (realm : List ℕ) (known : List Known) (r : List ℕ) → are_rising_names (names known) ≡ true → epoch_in (known_in (newly realm) known) r ≡ (if bytes_eq realm r then logs.known (epoch_in known r) else epoch_in known r)
epoch-known realm known r rising = elim (cases_Bool (bytes_eq realm r)) [
  | inl own ↦ let e : realm ≡ r = same_text realm r own in simp own (subst (λ (n : List ℕ). epoch_in (known_in (newly realm) known) n ≡ logs.known (epoch_in known n)) e (ap (option_map (λ (k : Known). pos k.epoch)) (find-known_own (newly realm) known rising) ∙ over (find (is_named realm) known)))
  | inr other ↦ simp other (ap (option_map (λ (k : Known). pos k.epoch)) (find-known_other (newly realm) known r other))
] where
  over : (o : Option Known) → Some (pos (unwrap_or o (newly realm)).epoch) ≡ logs.known (option_map (λ (k : Known). pos k.epoch) o)
  over None = refl
  over (Some k) = refl

pub due-known : (realm : List ℕ) (known : List Known) (r : List ℕ) → are_rising_names (names known) ≡ true → due_in (known_in (newly realm) known) r ≡ due_in known r
due-known realm known r rising = elim (cases_Bool (bytes_eq realm r)) [
  | inl own ↦ let e : realm ≡ r = same_text realm r own in subst (λ (n : List ℕ). due_in (known_in (newly realm) known) n ≡ due_in known n) e (ap (λ (o : Option Known). unwrap_or (option_map (λ (k : Known). k.is_refusing) o) false) (find-known_own (newly realm) known rising) ∙ over (find (is_named realm) known))
  | inr other ↦ ap (λ (o : Option Known). unwrap_or (option_map (λ (k : Known). k.is_refusing) o) false) (find-known_other (newly realm) known r other)
] where
  over : (o : Option Known) → (unwrap_or o (newly realm)).is_refusing ≡ unwrap_or (option_map (λ (k : Known). k.is_refusing) o) false
  over None = refl
  over (Some k) = refl

realms-known : (k : Known) (known : List Known) → is_realm k.realm ≡ true → list_all is_realm (names known) ≡ true → list_all is_realm (names (known_in k known)) ≡ true
realms-known k [] good all = simp good
realms-known k (x ∷ known) good all =
    let here = and_left (is_realm x.realm) (list_all is_realm (names known)) all in
    let rest = and_right (is_realm x.realm) (list_all is_realm (names known)) all in
    elim (cases_Bool (is_from k.realm x)) [
      | inl past ↦ elim (cases_Bool (bytes_eq x.realm k.realm)) [ inl same ↦ simp (past, same) all | inr apart ↦ simp (past, apart, good) all ]
      | inr before ↦ simp before (cc (here, realms-known k known good rest))
    ]

pub Shows-known : (realm : List ℕ) (known : List Known) (rows : List Stored) (log : Log) → is_realm realm ≡ true → Shows known rows log → Shows (known_in (newly realm) known) rows (with_known realm log)
Shows-known realm known rows log good shown =
    let same : log_in (known_in (newly realm) known) rows ≡ with_known realm (log_in known rows) = λ i. record (log_in known rows) { epochs = λ r. epoch-known realm known r shown.kept.names i } in
    record {
      kept = record { names = rising-known (newly realm) known shown.kept.names; realms = realms-known (newly realm) known good shown.kept.realms; placed = shown.kept.placed };
      same = same ∙ ap (with_known realm) shown.same;
    }
