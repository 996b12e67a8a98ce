-- The walk over all passes: what was marked so far, entry by entry and pass by pass.
use Rattle.std.proofs.Common.{◌≡◌, ◌≢◌, ℕ, zero, suc, ◌+◌, ◌<◌, List, [], ◌∷◌, ◌++◌, length, get_or, Option, Some, None, Bool, true, false, refl, sym, ap, ◌∙◌, subst, arith, inl, inr}
use Rattle.std.specs.Prelude.{◌==◌, ◌↔◌, IsTrue, slice_get, map, All, Any, IfSome, IsSomeAnd}
use Rattle.std.specs.Option.{option_map}
use Rattle.std.proofs.lemmas.Bool.{cases_Bool, cases_lt}
use Rattle.std.proofs.lemmas.Bool.Decides.{nat_tests}
use Rattle.std.proofs.lemmas.List.{length-map}
use Rattle.std.proofs.lemmas.List.Elements.{All-nil, All-push}
use Rattle.std.proofs.lemmas.List.Kept.{AllPairs-from_increasing}
use Rattle.std.proofs.lemmas.Option.{slice_get_read, slice_get_within, slice_get-map, get_or_from_slice_get}
use Rattle.tip_journal.specs.Journal.{Written}
use Rattle.tip_journal.specs.Journals.{IsHistory, Names, at, changed_at}
use Rattle.tip_journal.specs.Pass.{Held, is_of}
use Rattle.tip_journal.specs.Audit.{IsAudited, IsHosted, AreAudited}
use Rattle.tip_journal.specs.Sheets.{AreBoth, CanMark, CanMarkIn, HaveSheets, Marked, blank, marked, marked_at}
use Rattle.tip_journal.specs.declared.pass.Noted.{Noted}
use Rattle.tip_journal.proofs.HistoryLemmas.{slice_get-changed_at, slice_get-changed_other}
use Rattle.tip_journal.proofs.Lists.{All-at, All-from_at, All-middle, All-at_all, All-from_at_all, at-join, at-map, at-parts, some-of}
use Rattle.tip_journal.proofs.Marks.{Stands, stands-blank, stands-next, stands-own, stands-other, can-mark, audited-full, full-audited}

pub is_of-yes : {E : Type 0} (realm epoch : ℕ) (x : Noted E) → is_of realm epoch x ≡ true → (x.realm ≡ realm) × (x.epoch ≡ epoch)
is_of-yes realm epoch x mine = (grind (arith, nat_tests, mine), grind (arith, nat_tests, mine))

is_of-no : {E : Type 0} (realm epoch : ℕ) (x : Noted E) → is_of realm epoch x ≡ false → x.realm ≡ realm → x.epoch ≡ epoch → ⊥
is_of-no realm epoch x theirs same epochs = grind (arith, nat_tests, theirs, same, epochs)

-- no two journals of a realm are of one epoch
pub place-before : {S E : Type 0} (history : List (Written S E)) (k m : ℕ) (a b : Written S E) → IsHistory history → slice_get history k ≡ Some a → slice_get history m ≡ Some b → k < m → a.epoch < b.epoch
place-before history k m a b is here there less =
    let epoch : Written _ _ → ℕ = λ x. x.epoch in
    let within : m < length (map epoch history) = omega (arith, length-map history epoch, slice_get_within history m b there) in
    let pairs = AllPairs-from_increasing (map epoch history) is.rises k m 0 less within in
    let first : get_or (map epoch history) k 0 ≡ a.epoch = get_or_from_slice_get (map epoch history) k a.epoch 0 (slice_get-map epoch history k ∙ ap (option_map epoch) here) in
    let second : get_or (map epoch history) m 0 ≡ b.epoch = get_or_from_slice_get (map epoch history) m b.epoch 0 (slice_get-map epoch history m ∙ ap (option_map epoch) there) in
    omega (arith, pairs, first, second)

place-once : {S E : Type 0} (history : List (Written S E)) (k m : ℕ) (a b : Written S E) → IsHistory history → slice_get history k ≡ Some a → slice_get history m ≡ Some b → a.epoch ≡ b.epoch → k ≡ m
place-once history k m a b is here there same =
    elim (cases_lt k m) [
      | inl less ↦ absurd (let below = place-before history k m a b is here there less in omega arith)
      | inr past ↦
          elim (cases_lt m k) [
            | inl less ↦ absurd (let below = place-before history m k b a is there here less in omega arith)
            | inr other ↦ omega arith
          ]
    ]

-- an entry names one journal
pub names-once : {S E : Type 0} (journals : List (List (Written S E))) (x : Noted E) (k m : ℕ) → All IsHistory journals → Names journals x k → Names journals x m → k ≡ m
names-once journals x k m are here there =
    let first = some-of (λ j. j.epoch ≡ x.epoch) (at journals x.realm k) here in
    let second = some-of (λ j. j.epoch ≡ x.epoch) (at journals x.realm m) there in
    let one = at-parts journals x.realm k first.0 first.1 in
    let two = at-parts journals x.realm m second.0 second.1 in
    let same : one.0 ≡ two.0 = let both : Some one.0 ≡ Some two.0 = sym one.1 ∙ two.1 in cc in
    place-once one.0 k m first.0 second.0 (All-at IsHistory journals x.realm one.0 are one.1) one.2 (ap (λ list. slice_get list m) same ∙ two.2) (first.2 ∙ sym second.2)

at-changed : {A : Type 0} (lists : List (List A)) (realm place : ℕ) (change : A → A) → at (changed_at realm (changed_at place change) lists) realm place ≡ option_map change (at lists realm place)
at-changed [] realm place change = refl
at-changed (list ∷ lists) zero place change = slice_get-changed_at list place change
at-changed (list ∷ lists) (suc realm) place change = at-changed lists realm place change

at-changed_place : {A : Type 0} (lists : List (List A)) (realm place other : ℕ) (change : A → A) → other ≢ place → at (changed_at realm (changed_at place change) lists) realm other ≡ at lists realm other
at-changed_place [] realm place other change differ = refl
at-changed_place (list ∷ lists) zero place other change differ = slice_get-changed_other list place other change differ
at-changed_place (list ∷ lists) (suc realm) place other change differ = at-changed_place lists realm place other change differ

at-changed_realm : {A : Type 0} (lists : List (List A)) (realm other place : ℕ) (change : List A → List A) → other ≢ realm → at (changed_at realm change lists) other place ≡ at lists other place
at-changed_realm lists realm other place change differ = rw (slice_get-changed_other lists realm other change differ) refl

-- all are there, and what is known of them grows
both-weaker : {A B : Type 0} (P Q : A → B → Type 0) (x : Option A) (y : Option B) → ((a : A) (b : B) → x ≡ Some a → y ≡ Some b → P a b → Q a b) → AreBoth P x y → AreBoth Q x y
both-weaker P Q None None gives is = tt
both-weaker P Q None (Some b) gives is = is
both-weaker P Q (Some a) None gives is = is
both-weaker P Q (Some a) (Some b) gives is = gives a b refl refl is

both-changed : {A B : Type 0} (P Q : A → B → Type 0) (change : B → B) (x : Option A) (y : Option B) → ((a : A) (b : B) → x ≡ Some a → y ≡ Some b → P a b → Q a (change b)) → AreBoth P x y → AreBoth Q x (option_map change y)
both-changed P Q change None None gives is = tt
both-changed P Q change None (Some b) gives is = is
both-changed P Q change (Some a) None gives is = is
both-changed P Q change (Some a) (Some b) gives is = gives a b refl refl is

pub both-left : {A B : Type 0} (P : A → B → Type 0) (x : Option A) (y : Option B) (a : A) → AreBoth P x y → x ≡ Some a → (b : B) × (y ≡ Some b) × P a b
both-left P None y a is at = absurd (cc)
both-left P (Some z) None a is at = absurd is
both-left P (Some z) (Some b) a is at = let same : z ≡ a = cc in (b, refl, subst (λ w. P w b) same is)

both-right : {A B : Type 0} (P : A → B → Type 0) (x : Option A) (y : Option B) (b : B) → AreBoth P x y → y ≡ Some b → (a : A) × (x ≡ Some a) × P a b
both-right P x None b is at = absurd (cc)
both-right P None (Some z) b is at = absurd is
both-right P (Some a) (Some z) b is at = let same : z ≡ b = cc in (a, refl, subst (P a) same is)

-- The sheets stand for the entries of these passes, and of those noted, which are of the pass of this place.
pub record Walked {S E : Type 0} (journals : List (List (Written S E))) (passes : List (Held E)) (pass : ℕ) (noted : List (Noted E)) (sheets : List (List Marked)) : Type 0 where
  pub each : (realm place : ℕ) → AreBoth (λ journal. Stands realm journal.epoch journal.entries passes pass noted) (at journals realm place) (at sheets realm place)
  pub hosted : All (λ p. All (IsHosted journals) p.noted) passes
  pub here : All (IsHosted journals) noted

pub walked-fits : {S E : Type 0} (journals : List (List (Written S E))) (passes : List (Held E)) (pass : ℕ) (noted : List (Noted E)) (sheets : List (List Marked)) → Walked journals passes pass noted sheets → HaveSheets journals sheets
walked-fits journals passes pass noted sheets is realm place =
    both-weaker (λ journal. Stands realm journal.epoch journal.entries passes pass noted) (λ journal sheet. length sheet.marks ≡ length journal.entries) (at journals realm place) (at sheets realm place) (λ journal sheet _ _ stands. stands.long) (is.each realm place)

pub walked-start : {S E : Type 0} (journals : List (List (Written S E))) → Walked journals [] 0 [] (map (map blank) journals)
walked-start {S} {E} journals = record {
  each = λ realm place. rw (at-map blank journals realm place) (go realm (at journals realm place));
  hosted = All-nil (λ p. All (IsHosted journals) p.noted);
  here = All-nil (IsHosted journals);
}
  where
    go : (realm : ℕ) (journal : Option (Written S E)) → AreBoth (λ (j : Written S E). Stands {E = E} realm j.epoch j.entries [] 0 []) journal (option_map blank journal)
    go realm None = tt
    go realm (Some journal) = stands-blank realm journal.epoch journal.entries

pub walked-next : {S E : Type 0} (journals : List (List (Written S E))) (passes : List (Held E)) (pass : ℕ) (held : Held E) (sheets : List (List Marked)) → Walked journals passes pass held.noted sheets → Walked journals (passes ++ held ∷ []) (pass + 1) [] sheets
walked-next journals passes pass held sheets is = record {
  each = λ realm place.
      both-weaker (λ journal. Stands realm journal.epoch journal.entries passes pass held.noted) (λ journal. Stands realm journal.epoch journal.entries (passes ++ held ∷ []) (pass + 1) []) (at journals realm place) (at sheets realm place)
      (λ journal sheet _ _ stands. stands-next realm journal.epoch journal.entries passes pass held sheet stands) (is.each realm place);
  hosted = All-push (λ p. All (IsHosted journals) p.noted) passes held is.hosted is.here;
  here = All-nil (IsHosted journals);
}

-- what an entry names has a journal
pub hosted-named : {S E : Type 0} (journals : List (List (Written S E))) (x : Noted E) (place : ℕ) → Names journals x place → IsHosted journals x
hosted-named journals x place named =
    let first = some-of (λ j. j.epoch ≡ x.epoch) (at journals x.realm place) named in
    let parts = at-parts journals x.realm place first.0 first.1 in
    rw parts.1 (place, first.0, slice_get_within parts.0 place first.0 parts.2, get_or_from_slice_get parts.0 place first.0 first.0 parts.2, first.2)

pub named-hosted : {S E : Type 0} (journals : List (List (Written S E))) (x : Noted E) → IsHosted journals x → (place : ℕ) × Names journals x place
named-hosted journals x hosted =
    let history = some-of (Any (λ j. j.epoch ≡ x.epoch)) (slice_get journals x.realm) hosted in
    let found = history.2 in
    let there : slice_get history.0 found.0 ≡ Some found.1 = slice_get_read history.0 (length history.0) found.0 found.1 refl found.2 (sym found.3) in
    (found.0, subst (λ o. IsSomeAnd o (λ j. j.epoch ≡ x.epoch)) (sym (at-join journals x.realm found.0 history.0 found.1 history.1 there)) found.4)

-- what is said realm by realm, said place by place
pub each-at : {S E : Type 0} (journals : List (List (Written S E))) (passes : List (Held E)) (realm place : ℕ) (journal : Written S E) → AreAudited journals passes → at journals realm place ≡ Some journal → IsAudited realm journal.epoch journal.entries passes
each-at journals passes realm place journal is there =
    let parts = at-parts journals realm place journal there in
    All-at (λ j. IsAudited realm j.epoch j.entries passes) parts.0 place journal (rw parts.1 at (is.each realm)) parts.2

pub each-from : {S E : Type 0} (journals : List (List (Written S E))) (passes : List (Held E)) (realm : ℕ) → ((place : ℕ) (journal : Written S E) → at journals realm place ≡ Some journal → IsAudited realm journal.epoch journal.entries passes) → IfSome (slice_get journals realm) (All (λ journal. IsAudited realm journal.epoch journal.entries passes))
each-from {S} {E} journals passes realm each = go (slice_get journals realm) refl
  where
    go : (history : Option (List (Written S E))) → slice_get journals realm ≡ history → IfSome history (All (λ journal. IsAudited realm journal.epoch journal.entries passes))
    go None none = tt
    go (Some history) here = All-from_at (λ journal. IsAudited realm journal.epoch journal.entries passes) history (λ place journal there. each place journal (rw here there))

-- a sheet at another place, or of another realm, stays
at-marked_other : {E : Type 0} (pass : ℕ) (x : Noted E) (sheets : List (List Marked)) (named realm place : ℕ) → (x.realm ≡ realm → place ≡ named → ⊥) → at (marked_at named pass x sheets) realm place ≡ at sheets realm place
at-marked_other pass x sheets named realm place differ =
    elim (cases_Bool (x.realm == realm)) [
      | inl mine ↦
          let same : x.realm ≡ realm = grind (arith, nat_tests, mine) in
          subst (λ r. at (marked_at named pass x sheets) r place ≡ at sheets r place) same (at-changed_place sheets x.realm named place (marked pass x) (differ same))
      | inr theirs ↦
          let apart : realm ≢ x.realm = grind (arith, nat_tests, theirs) in
          at-changed_realm sheets x.realm realm place (changed_at named (marked pass x)) apart
    ]

pub walked-step : {S E : Type 0} (journals : List (List (Written S E))) (passes : List (Held E)) (pass : ℕ) (noted : List (Noted E)) (x : Noted E) (old new : List (List Marked)) → All IsHistory journals → Walked journals passes pass noted old → CanMarkIn journals pass x old → ((place : ℕ) → Names journals x place → new ≡ marked_at place pass x old) → Walked journals passes pass (noted ++ x ∷ []) new
walked-step {S} {E} journals passes pass noted x old new are is can writes = record {
  each = step;
  hosted = is.hosted;
  here = All-push (IsHosted journals) noted x is.here (hosted-named journals x can.place named);
}
  where
    named : Names journals x can.place
    named = rw can.named can.epoch

    Before : (realm : ℕ) → Written S E → Marked → Type 0
    Before realm journal = Stands realm journal.epoch journal.entries passes pass noted

    After : (realm : ℕ) → Written S E → Marked → Type 0
    After realm journal = Stands realm journal.epoch journal.entries passes pass (noted ++ x ∷ [])

    own : (realm place : ℕ) (journal : Written S E) → at journals realm place ≡ Some journal → is_of realm journal.epoch x ≡ true → AreBoth (After realm) (at journals realm place) (at new realm place)
    own realm place journal there mine =
        let both = is_of-yes realm journal.epoch x mine in
        let local : at journals x.realm place ≡ Some journal = subst (λ r. at journals r place ≡ Some journal) (sym both.0) there in
        let here : place ≡ can.place = names-once journals x place can.place are (rw local (sym both.1)) named in
        let same : can.journal ≡ journal = let two : Some can.journal ≡ Some journal = sym can.named ∙ ap (at journals x.realm) (sym here) ∙ local in cc in
        let now : at new realm place ≡ option_map (marked pass x) (at old realm place) = rw (writes can.place named, sym here, sym both.0) (at-changed old x.realm place (marked pass x)) in
        rw now
        (both-changed (Before realm) (After realm) (marked pass x) (at journals realm place) (at old realm place)
        (λ j sheet j-is sheet-is stands.
        let j-same : journal ≡ j = let two : Some journal ≡ Some j = sym there ∙ j-is in cc in
        let s-same : can.sheet ≡ sheet = let two : Some can.sheet ≡ Some sheet = sym can.kept ∙ ap (at old x.realm) (sym here) ∙ ap (λ r. at old r place) both.0 ∙ sheet-is in cc in
        stands-own realm j.epoch j.entries passes pass noted x sheet stands (subst (λ (w : Written S E). is_of realm w.epoch x ≡ true) j-same mine) (subst (λ (w : Written S E). CanMark w.entries pass x sheet) (same ∙ j-same) (subst (CanMark can.journal.entries pass x) s-same can.can)))
        (is.each realm place))

    other : (realm place : ℕ) (journal : Written S E) → at journals realm place ≡ Some journal → is_of realm journal.epoch x ≡ false → AreBoth (After realm) (at journals realm place) (at new realm place)
    other realm place journal there theirs =
        let apart : x.realm ≡ realm → place ≡ can.place → ⊥ = λ same here.
        let two : Some journal ≡ Some can.journal = sym there ∙ ap (λ r. at journals r place) (sym same) ∙ ap (at journals x.realm) here ∙ can.named in
        let one : journal ≡ can.journal = cc in
        is_of-no realm journal.epoch x theirs same (sym can.epoch ∙ ap (λ (j : Written S E). j.epoch) (sym one)) in
        let now : at new realm place ≡ at old realm place = rw (writes can.place named) (at-marked_other pass x old can.place realm place apart) in
        rw now
        (both-weaker (Before realm) (After realm) (at journals realm place) (at old realm place)
        (λ j sheet j-is _ stands.
        let j-same : journal ≡ j = let two : Some journal ≡ Some j = sym there ∙ j-is in cc in
        stands-other realm j.epoch j.entries passes pass noted x sheet stands (subst (λ (w : Written S E). is_of realm w.epoch x ≡ false) j-same theirs))
        (is.each realm place))

    none : (realm place : ℕ) → at journals realm place ≡ None → AreBoth (After realm) (at journals realm place) (at new realm place)
    none realm place nothing =
        let apart : x.realm ≡ realm → place ≡ can.place → ⊥ = λ same here.
        let two : None ≡ Some can.journal = sym nothing ∙ ap (λ r. at journals r place) (sym same) ∙ ap (at journals x.realm) here ∙ can.named in
        cc in
        let now : at new realm place ≡ at old realm place = rw (writes can.place named) (at-marked_other pass x old can.place realm place apart) in
        rw now
        (both-weaker (Before realm) (After realm) (at journals realm place) (at old realm place) (λ j sheet j-is _ _. absurd (let two : None ≡ Some j = sym nothing ∙ j-is in cc)) (is.each realm place))

    step : (realm place : ℕ) → AreBoth (After realm) (at journals realm place) (at new realm place)
    step realm place = go (at journals realm place) refl
      where
        go : (journal : Option (Written S E)) → at journals realm place ≡ journal → AreBoth (After realm) (at journals realm place) (at new realm place)
        go None nothing = none realm place nothing
        go (Some journal) there =
            elim (cases_Bool (is_of realm journal.epoch x)) [
              | inl mine ↦ own realm place journal there mine
              | inr theirs ↦ other realm place journal there theirs
            ]

-- where all is right, the next entry of a pass can be marked
pub walked-goes : {S E : Type 0} (journals : List (List (Written S E))) (passes : List (Held E)) (pass : ℕ) (noted : List (Noted E)) (x : Noted E) (sheets : List (List Marked)) (held : Held E) (after : List (Noted E)) (rest : List (Held E)) → Walked journals passes pass noted sheets → held.noted ≡ noted ++ x ∷ after → AreAudited journals (passes ++ held ∷ rest) → CanMarkIn journals pass x sheets
walked-goes journals passes pass noted x sheets held after rest is cut audited =
    let hosted = All-middle (IsHosted journals) noted x after (subst (All (IsHosted journals)) cut (All-middle (λ p. All (IsHosted journals) p.noted) passes held rest audited.hosted)) in
    let named = named-hosted journals x hosted in
    let journal = some-of (λ j. j.epoch ≡ x.epoch) (at journals x.realm named.0) named.1 in
    let sheet = both-left (λ journal. Stands x.realm journal.epoch journal.entries passes pass noted) (at journals x.realm named.0) (at sheets x.realm named.0) journal.0 (is.each x.realm named.0) journal.1 in
    let mine : is_of x.realm journal.0.epoch x ≡ true = grind (arith, nat_tests, journal.2) in
    record {
      place = named.0;
      journal = journal.0;
      sheet = sheet.0;
      named = journal.1;
      epoch = journal.2;
      kept = sheet.1;
      can = can-mark x.realm journal.0.epoch journal.0.entries passes pass noted x sheet.0 held after rest sheet.2 mine cut (each-at journals (passes ++ held ∷ rest) x.realm named.0 journal.0 audited journal.1);
    }

-- at the end all is right where all is marked
pub walked-audited : {S E : Type 0} (journals : List (List (Written S E))) (passes : List (Held E)) (pass : ℕ) (sheets : List (List Marked)) → Walked journals passes pass [] sheets → All (All (λ sheet. All (λ mark. mark ≡ true) sheet.marks)) sheets → AreAudited journals passes
walked-audited journals passes pass sheets is full = record {
  each = λ realm. each-from journals passes realm (λ place journal there.
      let sheet = both-left (λ journal. Stands realm journal.epoch journal.entries passes pass []) (at journals realm place) (at sheets realm place) journal (is.each realm place) there in
      audited-full realm journal.epoch journal.entries passes pass sheet.0 sheet.2 (All-at_all (λ sheet. All (λ mark. mark ≡ true) sheet.marks) sheets realm place sheet.0 full sheet.1));
  hosted = is.hosted;
}

pub audited-walked : {S E : Type 0} (journals : List (List (Written S E))) (passes : List (Held E)) (pass : ℕ) (sheets : List (List Marked)) → Walked journals passes pass [] sheets → AreAudited journals passes → All (All (λ sheet. All (λ mark. mark ≡ true) sheet.marks)) sheets
audited-walked journals passes pass sheets is audited =
    All-from_at_all (λ sheet. All (λ mark. mark ≡ true) sheet.marks) sheets (λ realm place sheet there.
    let journal = both-right (λ journal. Stands realm journal.epoch journal.entries passes pass []) (at journals realm place) (at sheets realm place) sheet (is.each realm place) there in
    full-audited realm journal.0.epoch journal.0.entries passes pass sheet journal.2 (each-at journals passes realm place journal.0 audited journal.1))

-- what marks an entry at a place of its realm marks it in the journal that it names
pub mark-can : {S E : Type 0} (journals : List (List (Written S E))) (pass : ℕ) (x : Noted E) (sheets : List (List Marked)) (place : ℕ) (journal : Written S E) (list : List Marked) (result : Bool) → All IsHistory journals → HaveSheets journals sheets → Names journals x place → at journals x.realm place ≡ Some journal → list ≡ get_or sheets x.realm list → IsTrue result ↔ IsSomeAnd (slice_get list place) (CanMark journal.entries pass x) → IsTrue result ↔ CanMarkIn journals pass x sheets
mark-can {S} {E} journals pass x sheets place journal list result are fits named there read exact =
    let epoch : journal.epoch ≡ x.epoch = rw there at named in
    let sheet = both-left (λ (j : Written S E) (s : Marked). length s.marks ≡ length j.entries) (at journals x.realm place) (at sheets x.realm place) journal (fits x.realm place) there in
    let parts = at-parts sheets x.realm place sheet.0 sheet.1 in
    let mine : list ≡ parts.0 = read ∙ get_or_from_slice_get sheets x.realm parts.0 list parts.1 in
    let here : slice_get list place ≡ Some sheet.0 = ap (λ l. slice_get l place) mine ∙ parts.2 in (
      λ yes.
          let can : CanMark journal.entries pass x sheet.0 = rw here at (exact.0 yes) in
          record { place = place; journal = journal; sheet = sheet.0; named = there; epoch = epoch; kept = sheet.1; can = can },
      λ can.
          let once : can.place ≡ place = names-once journals x can.place place are (rw can.named can.epoch) named in
          let two-journals : Some can.journal ≡ Some journal = sym can.named ∙ ap (at journals x.realm) once ∙ there in
          let journals-same : can.journal ≡ journal = cc in
          let two-sheets : Some can.sheet ≡ Some sheet.0 = sym can.kept ∙ ap (at sheets x.realm) once ∙ sheet.1 in
          let sheets-same : can.sheet ≡ sheet.0 = cc in
          let moved : CanMark journal.entries pass x sheet.0 = subst (λ (j : Written S E). CanMark j.entries pass x sheet.0) journals-same (subst (CanMark can.journal.entries pass x) sheets-same can.can) in
          exact.1 (subst (λ o. IsSomeAnd o (CanMark journal.entries pass x)) (sym here) moved),
    )
