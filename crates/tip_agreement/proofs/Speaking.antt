-- What is said while a rule is done fits: each single step of it.
use Rattle.std.proofs.Common.{◌≡◌, Bool, true, false, ℕ, List, Option, Some, None, cond, refl, ap, subst, sym, ◌∙◌, ◌⊎◌, inl, inr}
use Rattle.std.specs.Prelude.{◌&&◌, ◌||◌, ◌==◌, not}
use Rattle.std.specs.List.{list_any}
use Rattle.std.specs.Option.{option_map_or}
use Rattle.std.specs.Str.{bytes_eq}
use Rattle.std.proofs.lemmas.Bool.{and_from, and_left, and_parts, and_right, both_ways, cases_Bool, or_left}
use Rattle.tip_branch.specs.Members.{is_active}
use Rattle.tip_branch.specs.Notes.{PartyNotes, given}
use Rattle.tip_branch.specs.declared.member.Errand.{Errand}
use Rattle.tip_branch.specs.declared.member.Errand.TheVariants as errand
use Rattle.tip_rows.specs.Keys.{Key, is_same}
use Rattle.tip_rows.proofs.MemoryLemmas.{same_text}
use Rattle.tip_rows.proofs.OrderLemmas.{same_key}
use Rattle.tip_txn.specs.declared.answer.Phase.{Phase}
use Rattle.tip_txn.specs.declared.answer.Phase.TheVariants.{Active, Asking, Prepared, Committed, Aborted}
use Rattle.tip_machine.specs.Agreement.Verdicts.{Verdict, is_abort, is_commit}
use Rattle.tip_machine.specs.Answers.{identifier}
use Rattle.tip_machine.specs.Changes.{alter}
use Rattle.tip_machine.specs.Invariants.Bounds.{is_spelled}
use Rattle.tip_machine.specs.Proceeding.{give_out, let_go}
use Rattle.tip_machine.specs.Reactions.{Reaction, aborts, asks, commits, needs_nothing, promises, react}
use Rattle.tip_machine.specs.States.{Work, transaction_of}
use Rattle.tip_machine.specs.Transactions.{entering, standing_at}
use Rattle.tip_machine.specs.Types.{Answer, PartyPlace, Transaction}
use Rattle.tip_machine.specs.declared.transaction.PartyPlace.TheVariants.{Here, Out, Spent}
use Rattle.tip_agreement.specs.Truth.{Word, fits, fits_in, is_lost, will_tell, will_vote}
use Rattle.tip_agreement.proofs.Around.{found_altered, other_found}
use Rattle.tip_agreement.proofs.Closing.{is_stoppable}
use Rattle.tip_agreement.proofs.Keys.{key_self}
use Rattle.tip_agreement.proofs.Spelling.{keys_told}
use Rattle.tip_agreement.proofs.Wording.{Fits, IsMute, Less, are_said, fits_less, fits_so, fits_still, mute_said, no_fourth, no_second, no_third, no_third_of_four, not_less, rolls_back, word_at, word_in, is_of, speaks_of, or_none}

-- a commit of the transaction of this key is said, or a party goes out to tell it
abbrev pub is_told_commit : List ℕ → ℕ → Key → Answer → Bool
is_told_commit realm now key answer = let id = identifier realm key in are_said is_commit realm id answer.sent || option_map_or (will_tell is_commit now id) answer.work false

-- Identifiers of other keys are others

pub ids_differ : (realm : List ℕ) (key k : Key) → is_spelled key ≡ true → is_spelled k ≡ true → is_same key k ≡ false → bytes_eq (identifier realm k) (identifier realm key) ≡ false
ids_differ realm key k first second differ = elim (cases_Bool (bytes_eq (identifier realm k) (identifier realm key))) [
  | inr not ↦ not
  | inl is ↦
      let same = keys_told realm k key second first (same_text (identifier realm k) (identifier realm key) is) in
      absurd (both_ways (is_same key k) differ (subst (λ x. is_same key x ≡ true) (sym same) (key_self key)))
]

-- ONE TRANSACTION IS ALTERED

-- what fits it fits what it becomes
abbrev pub StillFits : Transaction → Transaction → Type 0
StillFits t u = (word : Word) → fits (Some t) word ≡ true → fits (Some u) word ≡ true

pub altered_fits : (key : Key) (w : Work) (f : Transaction → Transaction) (t : Transaction) → ((t : Transaction) → (f t).key ≡ t.key) → transaction_of key w.state ≡ Some t → StillFits t (f t) → (k : Key) (before : Word) → Fits before k w → Fits before k (alter key f w)
altered_fits key w f t same found may k before is = elim (cases_Bool (is_same key k)) [
  | inl here ↦
      let at = same_key key k here in
      let old = subst (λ o. fits o (word_at before key w) ≡ true) found (subst (λ x. Fits before x w) (sym at) is) in
      subst (λ x. Fits before x (alter key f w)) at (subst (λ o. fits o (word_at before key w) ≡ true) (sym (found_altered key w.state f same t found)) (may (word_at before key w) old))
  | inr differ ↦ subst (λ o. fits o (word_at before k w) ≡ true) (sym (other_found key w.state f same k differ)) is
]

-- what was found leaves the party that was here
pub leaves_here : (phase : Phase) (party : PartyNotes) (place : PartyPlace) (word : Word) → fits_in phase (Here party) word ≡ true → fits_in phase place word ≡ true
leaves_here Active party place word is = is
leaves_here Prepared party place word is = is
leaves_here Committed party place word is = is
leaves_here Aborted party place word is = is
leaves_here Asking party place word is = let parts = and_parts (not word.commit) (not word.abort || false) is in and_from _ _ parts.0 (or_left _ _ (sym (or_none (not word.abort)) ∙ parts.1))

pub placed_fits : (t : Transaction) (party : PartyNotes) (place : PartyPlace) → t.place ≡ Here party → StillFits t (standing_at place t)
placed_fits t party place here word is = leaves_here t.phase party place word (subst (λ p. fits_in t.phase p word ≡ true) here is)

-- it enters a phase: an abort, where no branch was told to commit
pub stopped_fits : (t : Transaction) → is_stoppable t.phase ≡ true → StillFits t (entering Aborted t)
stopped_fits t can word is = step t.phase can is where
  step : (phase : Phase) → is_stoppable phase ≡ true → fits_in phase t.place word ≡ true → not word.commit ≡ true
  step Active can is = (and_parts (not word.commit) _ is).0
  step Asking can is = (and_parts (not word.commit) (not word.abort || is_lost t.place word.awaited) is).0
  step Aborted can is = is
  step Prepared can is = absurd (cc)
  step Committed can is = absurd (cc)

-- in doubt, nobody was told anything
doubt_word : (t : Transaction) (word : Word) → t.phase ≡ Prepared → fits (Some t) word ≡ true → (not word.commit ≡ true) × (not word.abort ≡ true)
doubt_word t word doubt is = and_parts (not word.commit) (not word.abort) (subst (λ f. fits_in f t.place word ≡ true) doubt is)

pub doubt_aborts : (t : Transaction) → t.phase ≡ Prepared → StillFits t (entering Aborted t)
doubt_aborts t doubt word is = (doubt_word t word doubt is).0

pub doubt_commits : (t : Transaction) → t.phase ≡ Prepared → StillFits t (entering Committed t)
doubt_commits t doubt word is = (doubt_word t word doubt is).1

-- one that was not decided, and whose party is not out: nobody was told anything
open_word : (t : Transaction) (word : Word) → (t.phase ≡ Active) ⊎ (t.phase ≡ Asking) → ((e : Errand) → t.place ≡ Out e → ⊥) → fits (Some t) word ≡ true → (not word.commit ≡ true) × (not word.abort ≡ true)
open_word t word which within is = elim which [
  | inl active ↦ and_parts (not word.commit) (not word.abort) (subst (λ f. fits_in f t.place word ≡ true) active is)
  | inr asking ↦
      let parts = and_parts (not word.commit) (not word.abort || is_lost t.place word.awaited) (subst (λ f. fits_in f t.place word ≡ true) asking is) in
      (parts.0, never_lost (not word.abort) t.place within parts.1)
] where
  never_lost : (b : Bool) (place : PartyPlace) → ((e : Errand) → place ≡ Out e → ⊥) → b || is_lost place word.awaited ≡ true → b ≡ true
  never_lost true place within is = refl
  never_lost false (Out e) within is = absurd (within e refl)
  never_lost false (Here party) within is = is
  never_lost false Spent within is = is

pub agreed_commits : (t : Transaction) → (t.phase ≡ Active) ⊎ (t.phase ≡ Asking) → ((e : Errand) → t.place ≡ Out e → ⊥) → StillFits t (entering Committed t)
agreed_commits t which within word is = (open_word t word which within is).1

pub agreed_promises : (t : Transaction) → (t.phase ≡ Active) ⊎ (t.phase ≡ Asking) → ((e : Errand) → t.place ≡ Out e → ⊥) → StillFits t (entering Prepared t)
agreed_promises t which within word is = let none = open_word t word which within is in and_from _ _ none.0 none.1

pub active_asks : (t : Transaction) → t.phase ≡ Active → StillFits t (entering Asking t)
active_asks t active word is = let parts = and_parts (not word.commit) (not word.abort) (subst (λ f. fits_in f t.place word ≡ true) active is) in and_from _ _ parts.0 (or_left _ _ parts.1)

-- it is over: not both
pub over_fits : (t : Transaction) (word : Word) → fits (Some t) word ≡ true → fits None word ≡ true
over_fits t word is = step t.phase is where
  no_commit : (c a : Bool) → not c ≡ true → not (c && a) ≡ true
  no_commit true a is = absurd (cc)
  no_commit false a is = refl

  no_abort : (c a : Bool) → not a ≡ true → not (c && a) ≡ true
  no_abort c true is = absurd (cc)
  no_abort true false is = refl
  no_abort false false is = refl

  step : (phase : Phase) → fits_in phase t.place word ≡ true → not (word.commit && word.abort) ≡ true
  step Active is = no_commit word.commit word.abort (and_parts (not word.commit) (not word.abort) is).0
  step Asking is = no_commit word.commit word.abort (and_parts (not word.commit) (not word.abort || is_lost t.place word.awaited) is).0
  step Prepared is = no_commit word.commit word.abort (and_parts (not word.commit) (not word.abort) is).0
  step Committed is = no_abort word.commit word.abort is
  step Aborted is = no_commit word.commit word.abort is

-- A PARTY IS LET GO

-- with nothing to roll back, less is said
let_less : (before : Word) (now : ℕ) (id : List ℕ) (c a : Bool) (work spent : Option PartyNotes) (party : PartyNotes) → rolls_back id (Some party) ≡ false → Less (word_in before now id c a work (Some party)) (word_in before now id c a work spent)
let_less before now id c a work spent party none = record {
  commit = λ is. is;
  abort = no_fourth before.abort a (option_map_or (will_tell is_abort now id) work false) (rolls_back id (Some party)) (rolls_back id spent) none;
  awaited = λ is. is;
}

-- an aborted transaction may roll back, and any other has no branch that is active
abbrev pub MayLet : Transaction → PartyNotes → Type 0
MayLet t party = (t.phase ≡ Aborted) ⊎ (list_any is_active party.members ≡ false)

module _ (key : Key) (w : Work) (t : Transaction) (party : PartyNotes) (found : transaction_of key w.state ≡ Some t) (here : t.place ≡ Here party) (id : bytes_eq party.id (identifier w.state.head.name key) ≡ true) (spelled : is_spelled key ≡ true) where
  -- of another transaction it is not
  other_party : (k : Key) → is_spelled k ≡ true → is_same key k ≡ false → bytes_eq (identifier w.state.head.name k) party.id ≡ false
  other_party k fine differ = subst (λ x. bytes_eq (identifier w.state.head.name k) x ≡ false) (sym (same_text party.id (identifier w.state.head.name key) id)) (ids_differ w.state.head.name key k spelled fine differ)

  stood : (place : PartyPlace) (k : Key) (before : Word) → Fits before k w → Fits before k (alter key (standing_at place) w)
  stood place = altered_fits key w (standing_at place) t (λ t. refl) found (placed_fits t party place here)

  pub let_fits : MayLet t party → (k : Key) → is_spelled k ≡ true → (before : Word) → Fits before k w → Fits before k (let_go party key w)
  let_fits may k fine before is = elim (cases_Bool (is_same key k)) [
    | inr differ ↦ less k (and_left _ _ (other_party k fine differ)) (stood Spent k before is)
    | inl same ↦ elim may [
      | inr none ↦ less k (and_right _ _ none) (stood Spent k before is)
      | inl aborted ↦ let at = same_key key k same in subst (λ x. Fits before x (let_go party key w)) at (rolled aborted (subst (λ x. Fits before x (alter key (standing_at Spent) w)) (sym at) (stood Spent k before is)))
    ]
  ] where
    less : (k : Key) → rolls_back (identifier w.state.head.name k) (Some party) ≡ false → Fits before k (alter key (standing_at Spent) w) → Fits before k (let_go party key w)
    less k none = fits_less (transaction_of k (alter key (standing_at Spent) w).state) (word_at before k (let_go party key w)) (word_at before k w) (let_less before w.state.head.epoch (identifier w.state.head.name k) _ _ w.answer.work w.answer.spent party none)

    rolled : t.phase ≡ Aborted → Fits before key (alter key (standing_at Spent) w) → Fits before key (let_go party key w)
    rolled aborted fit =
        let now = found_altered key w.state (standing_at Spent) (λ t. refl) t found in
        let old : fits_in t.phase Spent (word_at before key w) ≡ true = subst (λ o. fits o (word_at before key w) ≡ true) now fit in
        let new : fits_in Aborted Spent (word_at before key (let_go party key w)) ≡ true = subst (λ f. fits_in f Spent (word_at before key w) ≡ true) aborted old in
        subst (λ o. fits o (word_at before key (let_go party key w)) ≡ true) (sym now) (subst (λ f. fits_in f Spent (word_at before key (let_go party key w)) ≡ true) (sym aborted) new)

-- A PARTY GOES OUT

-- where it will tell nothing, less is said
give_less : (before : Word) (now : ℕ) (id : List ℕ) (c a : Bool) (work spent : Option PartyNotes) (party : PartyNotes) → will_tell is_commit now id party ≡ false → will_tell is_abort now id party ≡ false → will_vote now id party ≡ false → Less (word_in before now id c a (Some party) spent) (word_in before now id c a work spent)
give_less before now id c a work spent party committing aborting voting = record {
  commit = no_third before.commit c (will_tell is_commit now id party) (option_map_or (will_tell is_commit now id) work false) committing;
  abort = no_third_of_four before.abort a (will_tell is_abort now id party) (option_map_or (will_tell is_abort now id) work false) (rolls_back id spent) aborting;
  awaited = no_second before.awaited (will_vote now id party) (option_map_or (will_vote now id) work false) voting;
}

-- the errand of each phase
abbrev pub may_go : Phase → Errand → Bool
may_go Asking errand.Vote = true
may_go Committed errand.Commit = true
may_go Aborted errand.Abort = true
may_go phase e = false

module _ (key : Key) (w : Work) (t : Transaction) (party : PartyNotes) (found : transaction_of key w.state ≡ Some t) (here : t.place ≡ Here party) (id : bytes_eq party.id (identifier w.state.head.name key) ≡ true) (epoch : (party.epoch == w.state.head.epoch) ≡ true) (spelled : is_spelled key ≡ true) where
  abbrev id_here : List ℕ
  id_here = identifier w.state.head.name key

  fresh_vote : (test : Verdict → Bool) → will_tell test w.state.head.epoch id_here (given party errand.Vote) ≡ false
  fresh_vote test = and_right _ _ (ap (λ b. option_map_or test (cond b None (Some Verdict.Abort)) false) epoch)

  -- by the phase and the errand
  sent_in : (before : Word) (c a : Bool) (work spent : Option PartyNotes) (phase : Phase) (e : Errand) → may_go phase e ≡ true → fits_in phase (Here party) (word_in before w.state.head.epoch id_here c a work spent) ≡ true → fits_in phase (Out e) (word_in before w.state.head.epoch id_here c a (Some (given party e)) spent) ≡ true
  sent_in before c a work spent phase e may is = step phase e may is where
    no_commit : (e : Errand) → will_tell is_commit w.state.head.epoch id_here (given party e) ≡ false → not (before.commit || (c || option_map_or (will_tell is_commit w.state.head.epoch id_here) work false)) ≡ true → not (before.commit || (c || will_tell is_commit w.state.head.epoch id_here (given party e))) ≡ true
    no_commit e none = not_less (before.commit || (c || will_tell is_commit w.state.head.epoch id_here (given party e))) (before.commit || (c || option_map_or (will_tell is_commit w.state.head.epoch id_here) work false)) (no_third before.commit c (will_tell is_commit w.state.head.epoch id_here (given party e)) (option_map_or (will_tell is_commit w.state.head.epoch id_here) work false) none)

    no_abort : (e : Errand) → will_tell is_abort w.state.head.epoch id_here (given party e) ≡ false → not (before.abort || (a || (option_map_or (will_tell is_abort w.state.head.epoch id_here) work false || rolls_back id_here spent))) ≡ true → not (before.abort || (a || (will_tell is_abort w.state.head.epoch id_here (given party e) || rolls_back id_here spent))) ≡ true
    no_abort e none = not_less (before.abort || (a || (will_tell is_abort w.state.head.epoch id_here (given party e) || rolls_back id_here spent))) (before.abort || (a || (option_map_or (will_tell is_abort w.state.head.epoch id_here) work false || rolls_back id_here spent))) (no_third_of_four before.abort a (will_tell is_abort w.state.head.epoch id_here (given party e)) (option_map_or (will_tell is_abort w.state.head.epoch id_here) work false) (rolls_back id_here spent) none)

    step : (phase : Phase) (e : Errand) → may_go phase e ≡ true → fits_in phase (Here party) (word_in before w.state.head.epoch id_here c a work spent) ≡ true → fits_in phase (Out e) (word_in before w.state.head.epoch id_here c a (Some (given party e)) spent) ≡ true
    step Committed errand.Commit may is = no_abort errand.Commit (and_right (bytes_eq id_here party.id) false refl) is
    step Aborted errand.Abort may is = no_commit errand.Abort (and_right (bytes_eq id_here party.id) false refl) is
    step Asking errand.Vote may is =
        let parts = and_parts (not (word_in before w.state.head.epoch id_here c a work spent).commit) (not (word_in before w.state.head.epoch id_here c a work spent).abort || false) is in
        and_from _ _ (no_commit errand.Vote (fresh_vote is_commit) parts.0) (or_left _ _ (no_abort errand.Vote (fresh_vote is_abort) (sym (or_none (not (word_in before w.state.head.epoch id_here c a work spent).abort)) ∙ parts.1)))
    step phase e may is = absurd (cc)

  pub give_fits : (e : Errand) → may_go t.phase e ≡ true → (k : Key) → is_spelled k ≡ true → (before : Word) → Fits before k w → Fits before k (give_out e party key w)
  give_fits e may k fine before is = elim (cases_Bool (is_same key k)) [
    | inl same ↦ let at = same_key key k same in subst (λ x. Fits before x (give_out e party key w)) at (sent_now (subst (λ x. Fits before x w) (sym at) is))
    | inr differ ↦
        let other = other_party key w t party found here id spelled k fine differ in
        fits_less (transaction_of k (alter key (standing_at (Out e)) w).state) (word_at before k (give_out e party key w)) (word_at before k w) (give_less before w.state.head.epoch (identifier w.state.head.name k) _ _ w.answer.work w.answer.spent (given party e) (and_left _ _ other) (and_left _ _ other) (and_left _ _ other)) (altered_other k differ is)
  ] where
    altered_other : (k : Key) → is_same key k ≡ false → Fits before k w → Fits before k (alter key (standing_at (Out e)) w)
    altered_other k differ is = subst (λ o. fits o (word_at before k w) ≡ true) (sym (other_found key w.state (standing_at (Out e)) (λ t. refl) k differ)) is

    sent_now : Fits before key w → Fits before key (give_out e party key w)
    sent_now fit =
        let old : fits_in t.phase (Here party) (word_at before key w) ≡ true = subst (λ p. fits_in t.phase p (word_at before key w) ≡ true) here (subst (λ o. fits o (word_at before key w) ≡ true) found fit) in
        subst (λ o. fits o (word_at before key (give_out e party key w)) ≡ true) (sym (found_altered key w.state (standing_at (Out e)) (λ t. refl) t found)) (sent_in before _ _ w.answer.work w.answer.spent t.phase e may old)

-- REACTIONS

-- one that tells nothing
abbrev pub IsSilent : Reaction → Type 0
IsSilent reaction = (test : Verdict → Bool) (realm id : List ℕ) (key : Key) → IsMute test realm id reaction key

pub asks_silent : IsSilent asks
asks_silent test realm id key = record { enlisted = refl; prepared = tt }

pub promises_silent : IsSilent promises
promises_silent test realm id key = record { enlisted = tt; prepared = tt }

pub needs_nothing_silent : IsSilent needs_nothing
needs_nothing_silent test realm id key = record { enlisted = tt; prepared = tt }

-- of another transaction it tells nothing
commits_mute : (test : Verdict → Bool) (realm id : List ℕ) (key : Key) → bytes_eq id (identifier realm key) ≡ false → IsMute test realm id commits key
commits_mute test realm id key differ = record { enlisted = tt; prepared = ap (λ b. option_map_or test (cond b (Some Verdict.Commit) None) false) differ }

aborts_mute : (test : Verdict → Bool) (realm id : List ℕ) (key : Key) → bytes_eq id (identifier realm key) ≡ false → IsMute test realm id aborts key
aborts_mute test realm id key differ =
    let off = ap (λ b. option_map_or test (cond b (Some Verdict.Abort) None) false) differ in
    record { enlisted = off; prepared = off }

-- none tells the other verdict
never : (test : Verdict → Bool) (verdict : Verdict) → test verdict ≡ false → (b : Bool) → option_map_or test (cond b (Some verdict) None) false ≡ false
never test verdict not true = not
never test verdict not false = refl

commits_only : (realm id : List ℕ) (key : Key) → IsMute is_abort realm id commits key
commits_only realm id key = record { enlisted = tt; prepared = never is_abort Verdict.Commit refl (bytes_eq id (identifier realm key)) }

pub aborts_only : (realm id : List ℕ) (key : Key) → IsMute is_commit realm id aborts key
aborts_only realm id key =
    let off = never is_commit Verdict.Abort refl (bytes_eq id (identifier realm key)) in
    record { enlisted = off; prepared = off }

pub silent_fits : (reaction : Reaction) → IsSilent reaction → (key : Key) (w : Work) (k : Key) (before : Word) → Fits before k w → Fits before k (react reaction key w)
unfolding react
silent_fits reaction silent key w k before = fits_still before k w (react reaction key w) refl refl refl refl refl (λ test realm id. mute_said test realm id reaction key (silent test realm id key) w.answer.sent w.state.connections)

module _ (key : Key) (w : Work) (t : Transaction) (found : transaction_of key w.state ≡ Some t) (spelled : is_spelled key ≡ true) where
  abbrev id_of_key : Key → List ℕ
  id_of_key k = identifier w.state.head.name k

  -- where neither verdict is said
  both_mute : (reaction : Reaction) (k : Key) (before : Word) → ((test : Verdict → Bool) → IsMute test w.state.head.name (id_of_key k) reaction key) → Fits before k w → Fits before k (react reaction key w)
  unfolding react
  both_mute reaction k before mute is =
      (λ i. fits_so before k w.state.head.name w.state.head.epoch w.state.transactions (mute_said is_commit w.state.head.name (id_of_key k) reaction key (mute is_commit) w.answer.sent w.state.connections i) (mute_said is_abort w.state.head.name (id_of_key k) reaction key (mute is_abort) w.answer.sent w.state.connections i) w.answer.work w.answer.spent) ∙ is

  pub commits_fits : t.phase ≡ Committed → (k : Key) → is_spelled k ≡ true → (before : Word) → Fits before k w → Fits before k (react commits key w)
  unfolding react
  commits_fits committed k fine before is = elim (cases_Bool (is_same key k)) [
    | inr differ ↦ both_mute commits k before (λ test. commits_mute test w.state.head.name (id_of_key k) key (ids_differ w.state.head.name key k spelled fine differ)) is
    | inl same ↦ let at = same_key key k same in subst (λ x. Fits before x (react commits key w)) at (mine (subst (λ x. Fits before x w) (sym at) is))
  ] where
    mine : Fits before key w → Fits before key (react commits key w)
    mine fit =
        let said = mute_said is_abort w.state.head.name (id_of_key key) commits key (commits_only w.state.head.name (id_of_key key) key) w.answer.sent w.state.connections in
        let old : fits_in Committed t.place (word_at before key w) ≡ true = subst (λ f. fits_in f t.place (word_at before key w) ≡ true) committed (subst (λ o. fits o (word_at before key w) ≡ true) found fit) in
        let new : fits_in Committed t.place (word_at before key (react commits key w)) ≡ true = (λ i. not (before.abort || (said i || (option_map_or (will_tell is_abort w.state.head.epoch (id_of_key key)) w.answer.work false || rolls_back (id_of_key key) w.answer.spent)))) ∙ old in
        subst (λ o. fits o (word_at before key (react commits key w)) ≡ true) (sym found) (subst (λ f. fits_in f t.place (word_at before key (react commits key w)) ≡ true) (sym committed) new)

  pub aborts_fits : t.phase ≡ Aborted → (k : Key) → is_spelled k ≡ true → (before : Word) → Fits before k w → Fits before k (react aborts key w)
  unfolding react
  aborts_fits aborted k fine before is = elim (cases_Bool (is_same key k)) [
    | inr differ ↦ both_mute aborts k before (λ test. aborts_mute test w.state.head.name (id_of_key k) key (ids_differ w.state.head.name key k spelled fine differ)) is
    | inl same ↦ let at = same_key key k same in subst (λ x. Fits before x (react aborts key w)) at (mine (subst (λ x. Fits before x w) (sym at) is))
  ] where
    mine : Fits before key w → Fits before key (react aborts key w)
    mine fit =
        let said = mute_said is_commit w.state.head.name (id_of_key key) aborts key (aborts_only w.state.head.name (id_of_key key) key) w.answer.sent w.state.connections in
        let old : fits_in Aborted t.place (word_at before key w) ≡ true = subst (λ f. fits_in f t.place (word_at before key w) ≡ true) aborted (subst (λ o. fits o (word_at before key w) ≡ true) found fit) in
        let new : fits_in Aborted t.place (word_at before key (react aborts key w)) ≡ true = (λ i. not (before.commit || (said i || option_map_or (will_tell is_commit w.state.head.epoch (id_of_key key)) w.answer.work false))) ∙ old in
        subst (λ o. fits o (word_at before key (react aborts key w)) ≡ true) (sym found) (subst (λ f. fits_in f t.place (word_at before key (react aborts key w)) ≡ true) (sym aborted) new)

-- a reaction speaks of its transaction alone

silent_said : (reaction : Reaction) → IsSilent reaction → (key : Key) (w : Work) (test : Verdict → Bool) (realm id : List ℕ) → speaks_of test realm id (react reaction key w).answer ≡ speaks_of test realm id w.answer
unfolding react
silent_said reaction silent key w test realm id = ap (λ b. b || is_of id w.answer.spent) (mute_said test realm id reaction key (silent test realm id key) w.answer.sent w.state.connections)

pub silent_ours : (reaction : Reaction) → IsSilent reaction → (key : Key) (w : Work) (test : Verdict → Bool) (realm id : List ℕ) → speaks_of test realm id (react reaction key w).answer ≡ true → speaks_of test realm id w.answer ≡ true
silent_ours reaction silent key w test realm id is = sym (silent_said reaction silent key w test realm id) ∙ is

mute_ours : (reaction : Reaction) (key : Key) (w : Work) (test : Verdict → Bool) (realm id : List ℕ) → IsMute test realm id reaction key → speaks_of test realm id (react reaction key w).answer ≡ true → speaks_of test realm id w.answer ≡ true
unfolding react
mute_ours reaction key w test realm id mute is = sym (ap (λ b. b || is_of id w.answer.spent) (mute_said test realm id reaction key mute w.answer.sent w.state.connections)) ∙ is

pub commits_ours : (key : Key) (w : Work) (test : Verdict → Bool) (realm id : List ℕ) → speaks_of test realm id (react commits key w).answer ≡ true → (speaks_of test realm id w.answer ≡ true) ⊎ (bytes_eq id (identifier realm key) ≡ true)
commits_ours key w test realm id is = elim (cases_Bool (bytes_eq id (identifier realm key))) [
  | inl same ↦ inr same
  | inr differ ↦ inl (mute_ours commits key w test realm id (commits_mute test realm id key differ) is)
]

pub aborts_ours : (key : Key) (w : Work) (test : Verdict → Bool) (realm id : List ℕ) → speaks_of test realm id (react aborts key w).answer ≡ true → (speaks_of test realm id w.answer ≡ true) ⊎ (bytes_eq id (identifier realm key) ≡ true)
aborts_ours key w test realm id is = elim (cases_Bool (bytes_eq id (identifier realm key))) [
  | inl same ↦ inr same
  | inr differ ↦ inl (mute_ours aborts key w test realm id (aborts_mute test realm id key differ) is)
]

-- no commit more is said, or it is one of the transaction that is committed

pub mute_commits : (reaction : Reaction) (key : Key) (w : Work) (k : Key) → IsMute is_commit w.state.head.name (identifier w.state.head.name k) reaction key → is_told_commit w.state.head.name w.state.head.epoch k (react reaction key w).answer ≡ true → is_told_commit w.state.head.name w.state.head.epoch k w.answer ≡ true
unfolding react
mute_commits reaction key w k mute is = sym (ap (λ b. b || option_map_or (will_tell is_commit w.state.head.epoch (identifier w.state.head.name k)) w.answer.work false) (mute_said is_commit w.state.head.name (identifier w.state.head.name k) reaction key mute w.answer.sent w.state.connections)) ∙ is

pub commits_backed : (key : Key) (w : Work) (k : Key) → (is_same key k ≡ false → bytes_eq (identifier w.state.head.name k) (identifier w.state.head.name key) ≡ false) → is_told_commit w.state.head.name w.state.head.epoch k (react commits key w).answer ≡ true → (is_told_commit w.state.head.name w.state.head.epoch k w.answer ≡ true) ⊎ (is_same key k ≡ true)
commits_backed key w k apart is = elim (cases_Bool (is_same key k)) [
  | inl same ↦ inr same
  | inr differ ↦ inl (mute_commits commits key w k (commits_mute is_commit w.state.head.name (identifier w.state.head.name k) key (apart differ)) is)
]
