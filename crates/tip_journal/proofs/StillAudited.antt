-- An audit of what is left once a journal was retired, and of all that was there before.
use Rattle.std.proofs.Common.{◌≡◌, ◌≢◌, ◌⊎◌, ℕ, zero, suc, List, [], ◌∷◌, Some, Bool, true, false, cond, refl, sym, ap, ◌∙◌, subst, arith, inl, inr}
use Rattle.std.specs.Prelude.{◌↔◌, IsSomeAnd, All, drop, map, not, slice_get, sum_by}
use Rattle.std.specs.Option.{option_and_then, option_map}
use Rattle.std.proofs.lemmas.Bool.{cases_eq, false≢true}
use Rattle.std.proofs.lemmas.Bool.Decides.{nat_tests}
use Rattle.std.proofs.lemmas.List.Elements.{All-cons, All-head, All-nil, All-tail}
use Rattle.std.proofs.lemmas.List.Sums.{sum_by-cons}
use Rattle.std.proofs.lemmas.Option.{same_Some}
use Rattle.tip_journal.specs.Audit.{AreAudited, Follows, IsAudited, IsHosted, times}
use Rattle.tip_journal.specs.Journal.{Written}
use Rattle.tip_journal.specs.Journals.{IsHistory, Names, at}
use Rattle.tip_journal.specs.Pass.{Held, is_of, others, own}
use Rattle.tip_journal.specs.Retiring.{IsRetired}
use Rattle.tip_journal.specs.declared.pass.Noted.{Noted}
use Rattle.tip_journal.proofs.HistoryLemmas.{slice_get-changed_at, slice_get-changed_other}
use Rattle.tip_journal.proofs.Lists.{All-at}
use Rattle.tip_journal.proofs.Retirings.{Ended, ended-is}
use Rattle.tip_journal.proofs.Walk.{each-at, each-from, hosted-named, is_of-yes, named-hosted, place-before}

-- Entries of another realm or epoch are as they were

module _ {E : Type 0} (realm epoch r e : ℕ) (differ : r ≡ realm → e ≡ epoch → ⊥) where
  not-both : (x : Noted E) → is_of realm epoch x ≡ true → is_of r e x ≡ false
  not-both x mine = by (is_of r e x) refl where
    by : (b : Bool) → is_of r e x ≡ b → is_of r e x ≡ false
    by true theirs = let one = is_of-yes realm epoch x mine in let other = is_of-yes r e x theirs in absurd (differ (sym other.0 ∙ one.0) (sym other.1 ∙ one.1))
    by false none = none

  own-left : (noted : List (Noted E)) → own r e (others realm epoch noted) ≡ own r e noted
  own-left [] = refl
  own-left (x ∷ noted) = by (own-left noted) (is_of realm epoch x) refl where
    by : own r e (others realm epoch noted) ≡ own r e noted → (b : Bool) → is_of realm epoch x ≡ b → own r e (cond (not b) (x ∷ others realm epoch noted) (others realm epoch noted)) ≡ own r e (x ∷ noted)
    by rest true mine = rest ∙ sym (ap (λ c. cond c (x ∷ own r e noted) (own r e noted)) (not-both x mine))
    by rest false other = ap (λ ys. cond (is_of r e x) (x ∷ ys) ys) rest

  owns-left : (before after : List (Held E)) → map (λ pass. pass.noted) after ≡ map (λ pass. others realm epoch pass.noted) before → map (λ pass. own r e pass.noted) after ≡ map (λ pass. own r e pass.noted) before
  owns-left [] [] are = refl
  owns-left [] (a ∷ after) are = absurd (cc)
  owns-left (b ∷ before) [] are = absurd (cc)
  owns-left (b ∷ before) (a ∷ after) are =
      let first : a.noted ≡ others realm epoch b.noted = cc in
      let rest : map (λ pass. pass.noted) after ≡ map (λ pass. others realm epoch pass.noted) before = cc in
      (λ i. (ap (own r e) first ∙ own-left b.noted) i ∷ owns-left before after rest i)

-- A journal is audited by its own entries alone

module _ {E : Type 0} (r e : ℕ) where
  all-same : (P : List (Noted E) → Type 0) (passes passes' : List (Held E)) → map (λ pass. own r e pass.noted) passes ≡ map (λ pass. own r e pass.noted) passes' → All (λ pass. P (own r e pass.noted)) passes → All (λ pass. P (own r e pass.noted)) passes'
  all-same P [] [] same all = all
  all-same P [] (b ∷ passes') same all = absurd (cc)
  all-same P (a ∷ passes) [] same all = absurd (cc)
  all-same P (a ∷ passes) (b ∷ passes') same all =
      let first : own r e a.noted ≡ own r e b.noted = cc in
      let rest : map (λ pass. own r e pass.noted) passes ≡ map (λ pass. own r e pass.noted) passes' = cc in
      All-cons (λ pass. P (own r e pass.noted)) b passes' (subst P first (All-head (λ pass. P (own r e pass.noted)) a passes all)) (all-same P passes passes' rest (All-tail (λ pass. P (own r e pass.noted)) a passes all))

  sum-same : (f : List (Noted E) → ℕ) (passes passes' : List (Held E)) → map (λ pass. own r e pass.noted) passes ≡ map (λ pass. own r e pass.noted) passes' → sum_by (λ pass. f (own r e pass.noted)) passes ≡ sum_by (λ pass. f (own r e pass.noted)) passes'
  sum-same f [] [] same = refl
  sum-same f [] (b ∷ passes') same = absurd (cc)
  sum-same f (a ∷ passes) [] same = absurd (cc)
  sum-same f (a ∷ passes) (b ∷ passes') same =
      let first : own r e a.noted ≡ own r e b.noted = cc in
      let rest : map (λ pass. own r e pass.noted) passes ≡ map (λ pass. own r e pass.noted) passes' = cc in
      omega (arith, sum_by-cons (λ (p : Held _). f (own r e p.noted)) a passes, sum_by-cons (λ (p : Held _). f (own r e p.noted)) b passes', ap f first, sum-same f passes passes' rest)

  audited-as : (entries : List E) (passes passes' : List (Held E)) → map (λ pass. own r e pass.noted) passes ≡ map (λ pass. own r e pass.noted) passes' → IsAudited r e entries passes → IsAudited r e entries passes'
  audited-as entries passes passes' same is = record {
    follow = all-same (Follows entries 0) passes passes' same is.follow;
    once = λ number above within. sym (sum-same (times number) passes passes' same) ∙ is.once number above within;
  }

-- WHAT IS LEFT, AND WHAT WAS THERE

module _ {S E : Type 0} (old new : List (List (Written S E))) (before after : List (Held E)) (realm epoch entries : ℕ) (are : All IsHistory old) (is : IsRetired old new before after realm epoch entries) where
  ended : Ended old realm epoch is.journal
  ended = ended-is old realm epoch is.journal is.was

  history : IsHistory (is.journal ∷ ended.next ∷ ended.later)
  history = All-at IsHistory old realm (is.journal ∷ ended.next ∷ ended.later) are ended.are

  -- a later journal is of another epoch
  later-epoch : (place : ℕ) (j : Written S E) → slice_get (ended.next ∷ ended.later) place ≡ Some j → j.epoch ≢ epoch
  later-epoch place j there same =
      let less = place-before (is.journal ∷ ended.next ∷ ended.later) 0 (suc place) is.journal j history refl there (omega arith) in
      omega (arith, less, same, ended.epoch_is)

  at-later : (place : ℕ) → at new realm place ≡ slice_get (ended.next ∷ ended.later) place
  at-later place = ap (option_and_then (λ list. slice_get list place)) (ap (λ js. slice_get js realm) is.gone ∙ slice_get-changed_at old realm (drop 1) ∙ ap (option_map (drop 1)) ended.are)

  at-was : (place : ℕ) → at old realm place ≡ slice_get (is.journal ∷ ended.next ∷ ended.later) place
  at-was place = ap (option_and_then (λ list. slice_get list place)) ended.are

  at-other : (r place : ℕ) → r ≢ realm → at new r place ≡ at old r place
  at-other r place differ = ap (option_and_then (λ list. slice_get list place)) (ap (λ js. slice_get js r) is.gone ∙ slice_get-changed_other old realm r (drop 1) differ)

  owns-other : (r e : ℕ) → (r ≡ realm → e ≡ epoch → ⊥) → map (λ pass. own r e pass.noted) after ≡ map (λ pass. own r e pass.noted) before
  owns-other r e differ = owns-left realm epoch r e differ before after is.left

  -- each journal
  each-was : AreAudited new after → (r place : ℕ) (j : Written S E) → at old r place ≡ Some j → IsAudited r j.epoch j.entries before
  each-was audited r place j there = by (cases_eq r realm) where
    here : (p : ℕ) → slice_get (is.journal ∷ ended.next ∷ ended.later) p ≡ Some j → IsAudited realm j.epoch j.entries before
    here zero at-j =
        let same = same_Some is.journal j at-j in
        subst (λ (w : Written S E). IsAudited realm w.epoch w.entries before) same (subst (λ n. IsAudited realm n is.journal.entries before) (sym ended.epoch_is) is.audited)
    here (suc p) at-j = audited-as realm j.epoch j.entries after before (owns-other realm j.epoch (λ _ same. later-epoch p j at-j same)) (each-at new after realm p j audited (at-later p ∙ at-j))

    by : (r ≡ realm) ⊎ (r ≢ realm) → IsAudited r j.epoch j.entries before
    by (inl same) = subst (λ n. IsAudited n j.epoch j.entries before) (sym same) (here place (sym (at-was place) ∙ subst (λ n. at old n place ≡ Some j) same there))
    by (inr differ) = audited-as r j.epoch j.entries after before (owns-other r j.epoch (λ same _. differ same)) (each-at new after r place j audited (at-other r place differ ∙ there))

  each-is : AreAudited old before → (r place : ℕ) (j : Written S E) → at new r place ≡ Some j → IsAudited r j.epoch j.entries after
  each-is audited r place j there = by (cases_eq r realm) where
    by : (r ≡ realm) ⊎ (r ≢ realm) → IsAudited r j.epoch j.entries after
    by (inl same) =
        let at-j = sym (at-later place) ∙ subst (λ n. at new n place ≡ Some j) same there in
        subst (λ n. IsAudited n j.epoch j.entries after) (sym same) (audited-as realm j.epoch j.entries before after (sym (owns-other realm j.epoch (λ _ e. later-epoch place j at-j e))) (each-at old before realm (suc place) j audited (at-was (suc place) ∙ at-j)))
    by (inr differ) = audited-as r j.epoch j.entries before after (sym (owns-other r j.epoch (λ same _. differ same))) (each-at old before r place j audited (sym (at-other r place differ) ∙ there))

  -- each entry
  hosted-mine : (x : Noted E) → is_of realm epoch x ≡ true → IsHosted old x
  hosted-mine x mine =
      let own-x = is_of-yes realm epoch x mine in
      let there : at old x.realm 0 ≡ Some is.journal = ap (λ n. at old n 0) own-x.0 ∙ at-was 0 in
      hosted-named old x 0 (subst (λ o. IsSomeAnd o (λ j. j.epoch ≡ x.epoch)) (sym there) (ended.epoch_is ∙ sym own-x.1))

  hosted-was : (x : Noted E) → IsHosted new x → IsHosted old x
  hosted-was x hosted = by (cases_eq x.realm realm) where
    named : (place : ℕ) × Names new x place
    named = named-hosted new x hosted

    by : (x.realm ≡ realm) ⊎ (x.realm ≢ realm) → IsHosted old x
    by (inl same) =
        let there : at new x.realm named.0 ≡ at old x.realm (suc named.0) = subst (λ n. at new n named.0 ≡ at old n (suc named.0)) (sym same) (at-later named.0 ∙ sym (at-was (suc named.0))) in
        hosted-named old x (suc named.0) (subst (λ o. IsSomeAnd o (λ j. j.epoch ≡ x.epoch)) there named.1)
    by (inr differ) = hosted-named old x named.0 (subst (λ o. IsSomeAnd o (λ j. j.epoch ≡ x.epoch)) (at-other x.realm named.0 differ) named.1)

  hosted-is : (x : Noted E) → is_of realm epoch x ≡ false → IsHosted old x → IsHosted new x
  hosted-is x other hosted = by (cases_eq x.realm realm) where
    named : (place : ℕ) × Names old x place
    named = named-hosted old x hosted

    later : x.realm ≡ realm → (place : ℕ) → Names old x place → IsHosted new x
    later same zero names =
        let there : at old x.realm 0 ≡ Some is.journal = ap (λ n. at old n 0) same ∙ at-was 0 in
        let epochs : is.journal.epoch ≡ x.epoch = subst (λ o. IsSomeAnd o (λ j. j.epoch ≡ x.epoch)) there names in
        let mine : is_of realm epoch x ≡ true = (let e : x.epoch ≡ epoch = sym epochs ∙ ended.epoch_is in grind (arith, nat_tests, same, e)) in
        absurd (false≢true (sym other ∙ mine))
    later same (suc place) names =
        let there : at old x.realm (suc place) ≡ at new x.realm place = subst (λ n. at old n (suc place) ≡ at new n place) (sym same) (at-was (suc place) ∙ sym (at-later place)) in
        hosted-named new x place (subst (λ o. IsSomeAnd o (λ j. j.epoch ≡ x.epoch)) there names)

    by : (x.realm ≡ realm) ⊎ (x.realm ≢ realm) → IsHosted new x
    by (inl same) = later same named.0 named.1
    by (inr differ) = hosted-named new x named.0 (subst (λ o. IsSomeAnd o (λ j. j.epoch ≡ x.epoch)) (sym (at-other x.realm named.0 differ)) named.1)

  all-were : (noted : List (Noted E)) → All (IsHosted new) (others realm epoch noted) → All (IsHosted old) noted
  all-were [] all = All-nil (IsHosted old)
  all-were (x ∷ noted) all = by (all-were noted) (is_of realm epoch x) refl all where
    by : (All (IsHosted new) (others realm epoch noted) → All (IsHosted old) noted) → (b : Bool) → is_of realm epoch x ≡ b → All (IsHosted new) (cond (not b) (x ∷ others realm epoch noted) (others realm epoch noted)) → All (IsHosted old) (x ∷ noted)
    by behind true mine rest = All-cons (IsHosted old) x noted (hosted-mine x mine) (behind rest)
    by behind false other rest = All-cons (IsHosted old) x noted (hosted-was x (All-head (IsHosted new) x (others realm epoch noted) rest)) (behind (All-tail (IsHosted new) x (others realm epoch noted) rest))

  all-are : (noted : List (Noted E)) → All (IsHosted old) noted → All (IsHosted new) (others realm epoch noted)
  all-are [] all = All-nil (IsHosted new)
  all-are (x ∷ noted) all = by (all-are noted (All-tail (IsHosted old) x noted all)) (is_of realm epoch x) refl where
    by : All (IsHosted new) (others realm epoch noted) → (b : Bool) → is_of realm epoch x ≡ b → All (IsHosted new) (cond (not b) (x ∷ others realm epoch noted) (others realm epoch noted))
    by rest true mine = rest
    by rest false other = All-cons (IsHosted new) x (others realm epoch noted) (hosted-is x other (All-head (IsHosted old) x noted all)) rest

  -- each pass
  passes-were : (b a : List (Held E)) → map (λ pass. pass.noted) a ≡ map (λ pass. others realm epoch pass.noted) b → All (λ pass. All (IsHosted new) pass.noted) a → All (λ pass. All (IsHosted old) pass.noted) b
  passes-were [] a same all = All-nil (λ pass. All (IsHosted old) pass.noted)
  passes-were (p ∷ b) [] same all = absurd (cc)
  passes-were (p ∷ b) (q ∷ a) same all =
      let first : q.noted ≡ others realm epoch p.noted = cc in
      let rest : map (λ pass. pass.noted) a ≡ map (λ pass. others realm epoch pass.noted) b = cc in
      All-cons (λ pass. All (IsHosted old) pass.noted) p b (all-were p.noted (subst (All (IsHosted new)) first (All-head (λ pass. All (IsHosted new) pass.noted) q a all))) (passes-were b a rest (All-tail (λ pass. All (IsHosted new) pass.noted) q a all))

  passes-are : (b a : List (Held E)) → map (λ pass. pass.noted) a ≡ map (λ pass. others realm epoch pass.noted) b → All (λ pass. All (IsHosted old) pass.noted) b → All (λ pass. All (IsHosted new) pass.noted) a
  passes-are b [] same all = All-nil (λ pass. All (IsHosted new) pass.noted)
  passes-are [] (q ∷ a) same all = absurd (cc)
  passes-are (p ∷ b) (q ∷ a) same all =
      let first : q.noted ≡ others realm epoch p.noted = cc in
      let rest : map (λ pass. pass.noted) a ≡ map (λ pass. others realm epoch pass.noted) b = cc in
      All-cons (λ pass. All (IsHosted new) pass.noted) q a (subst (All (IsHosted new)) (sym first) (all-are p.noted (All-head (λ pass. All (IsHosted old) pass.noted) p b all))) (passes-are b a rest (All-tail (λ pass. All (IsHosted old) pass.noted) p b all))

  pub audited-still : AreAudited new after ↔ AreAudited old before
  audited-still = (
    λ audited. record {
      each = λ r. each-from old before r (λ place j there. each-was audited r place j there);
      hosted = passes-were before after is.left audited.hosted;
    },
    λ audited. record {
      each = λ r. each-from new after r (λ place j there. each-is audited r place j there);
      hosted = passes-are before after is.left audited.hosted;
    },
  )
