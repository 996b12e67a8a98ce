-- A realm that was true to its word before an event is so after it.
use Rattle.std.proofs.Common.{◌≡◌, Bool, true, false, ℕ, List, ◌++◌, Option, Some, None, refl, ap, subst, sym, ◌∙◌, ◌⊎◌, inl, inr}
use Rattle.std.specs.Prelude.{◌&&◌, ◌||◌, not, is_some}
use Rattle.std.specs.List.{list_all, list_any}
use Rattle.std.specs.Option.{option_map_or, option_to_list}
use Rattle.std.proofs.lemmas.Bool.{and_from, both_ways, or_cases, or_left, or_right, and_parts, not-true}
use Rattle.std.proofs.lemmas.List.Folds.{list_all-append, list_any-append}
use Rattle.tip_branch.specs.Notes.{PartyNotes}
use Rattle.tip_rows.specs.Keys.{Key}
use Rattle.tip_rows.specs.declared.row.Row.{Row}
use Rattle.tip_machine.specs.Agreement.Verdicts.{Verdict, is_abort, is_commit, told}
use Rattle.tip_machine.specs.Answers.{identifier}
use Rattle.tip_machine.specs.Given.{was_given}
use Rattle.tip_machine.specs.Invariants.Bounds.{is_spelled}
use Rattle.tip_machine.specs.Outputs.{Output}
use Rattle.tip_machine.specs.States.{Work, transaction_of}
use Rattle.tip_machine.specs.Types.{Transaction}
use Rattle.std.specs.Str.{bytes_eq}
use Rattle.tip_agreement.specs.Truth.{IsTrueTo, Word, fits, is_uncalled, will_tell, will_vote, IsOurs}
use Rattle.tip_agreement.proofs.Spoken.{IsQuiet, Spoke, has_word}
use Rattle.tip_agreement.proofs.Telling.{any_told, are_told, drops_told, let_go_told}
use Rattle.tip_agreement.proofs.Wording.{Fits, Less, are_said, fits_less, rolls_back, word_at, word_in, is_of}

-- the word by what was shown, and by the parties that are out
abbrev pub word_by : List ℕ → ℕ → List PartyNotes → List Output → List ℕ → Word
word_by realm now errands shown id = record {
  commit = list_any is_commit (told realm id shown) || list_any (will_tell is_commit now id) errands;
  abort = list_any is_abort (told realm id shown) || list_any (will_tell is_abort now id) errands;
  awaited = list_any (will_vote now id) errands;
}

-- the same of what is spoken of
abbrev pub any_verdict : Verdict → Bool
any_verdict verdict = true

abbrev pub is_named : List ℕ → List PartyNotes → List Output → List ℕ → Bool
is_named realm errands shown id = list_any any_verdict (told realm id shown) || list_any (λ party. bytes_eq id party.id) errands

pub any_listed : (p : PartyNotes → Bool) (o : Option PartyNotes) → list_any p (option_to_list o) ≡ true → option_map_or p o false ≡ true
any_listed p None is = absurd (cc)
any_listed p (Some party) is = elim (or_cases (p party) false is) [ inl first ↦ first | inr none ↦ absurd (cc) ]

-- one of the parties, or the one that goes out
pub any_behind : (p : PartyNotes → Bool) (errands : List PartyNotes) (o : Option PartyNotes) → list_any p (errands ++ option_to_list o) ≡ true → (list_any p errands ≡ true) ⊎ (option_map_or p o false ≡ true)
any_behind p errands o is = elim (or_cases (list_any p errands) (list_any p (option_to_list o)) (sym (list_any-append p errands (option_to_list o)) ∙ is)) [
  | inl old ↦ inl old
  | inr new ↦ inr (any_listed p o new)
]

-- what is let go is rolled back
pub let_go_rolls : (test : Verdict → Bool) (realm id : List ℕ) (spent : Option PartyNotes) → let_go_told test realm id spent ≡ true → (test Verdict.Abort ≡ true) × (rolls_back id spent ≡ true)
let_go_rolls test realm id None is = absurd (cc)
let_go_rolls test realm id (Some party) is = let rolled = drops_told test realm id party is in (rolled.aborts, and_from _ _ rolled.id_is rolled.active)

-- AN EVENT

pub record Went (rows : List (Key × Row)) (errands : List PartyNotes) (shown later : List Output) (w v : Work) : Type 0 where
  pub quiet : IsQuiet w
  pub spoke : Spoke w v
  -- what is shown now was shown before, is said by the rule, or is rolled back
  pub heard : (test : Verdict → Bool) (id : List ℕ) → are_told test w.state.head.name id later ≡ true → (are_told test w.state.head.name id shown ≡ true) ⊎ ((are_said test w.state.head.name id v.answer.sent ≡ true) ⊎ (let_go_told test w.state.head.name id v.answer.spent ≡ true))
  -- keys
  pub given_old : (k : Key) → is_some (transaction_of k w.state) ≡ true → was_given w.state k ≡ true
  pub given_new : (k : Key) → is_some (transaction_of k v.state) ≡ true → was_given v.state k ≡ true
  pub stays : (k : Key) → was_given w.state k ≡ true → was_given v.state k ≡ true
  pub fresh : (k : Key) → transaction_of k w.state ≡ None → is_some (transaction_of k v.state) ≡ true → was_given w.state k ≡ false
  -- before
  pub fits : (k : Key) → is_spelled k ≡ true → fits (transaction_of k w.state) (word_by w.state.head.name w.state.head.epoch errands shown (identifier w.state.head.name k)) ≡ true
  pub given : (k : Key) → is_spelled k ≡ true → has_word (word_by w.state.head.name w.state.head.epoch errands shown (identifier w.state.head.name k)) ≡ true → was_given w.state k ≡ true
  pub uncalled : list_all is_uncalled errands ≡ true
  pub ours : (id : List ℕ) → is_named w.state.head.name errands shown id ≡ true → IsOurs w.state.head.name id

module _ (rows : List (Key × Row)) (errands : List PartyNotes) (shown later : List Output) (w v : Work) (went : Went rows errands shown later w v) where
  abbrev id_of : Key → List ℕ
  id_of k = identifier w.state.head.name k

  abbrev old_word : Key → Word
  old_word k = word_by w.state.head.name w.state.head.epoch errands shown (id_of k)

  abbrev new_word : Key → Word
  new_word k = word_by w.state.head.name w.state.head.epoch (errands ++ option_to_list v.answer.work) later (id_of k)

  -- the word on the work, by the names of the state before
  abbrev work_word : Word → Key → Word
  work_word before k = word_in before w.state.head.epoch (id_of k) (are_said is_commit w.state.head.name (id_of k) v.answer.sent) (are_said is_abort w.state.head.name (id_of k) v.answer.sent) v.answer.work v.answer.spent

  no_commit_rolled : (realm id : List ℕ) (spent : Option PartyNotes) → let_go_told is_commit realm id spent ≡ true → ⊥
  no_commit_rolled realm id spent is = let wrong : false ≡ true = (let_go_rolls is_commit realm id spent is).0 in cc

  -- all that was shown, and that is to come, is in it
  new_less : (k : Key) → Less (new_word k) (work_word (old_word k) k)
  new_less k = record {
    commit = λ is. elim (or_cases (list_any is_commit (told w.state.head.name (id_of k) later)) (list_any (will_tell is_commit w.state.head.epoch (id_of k)) (errands ++ option_to_list v.answer.work)) is) [
      | inl now ↦ elim (went.heard is_commit (id_of k) (sym (any_told is_commit w.state.head.name (id_of k) later) ∙ now)) [
        | inl before ↦ or_left (old_word k).commit _ (or_left (list_any is_commit (told w.state.head.name (id_of k) shown)) _ (any_told is_commit w.state.head.name (id_of k) shown ∙ before))
        | inr here ↦ elim here [
          | inl said ↦ or_right (old_word k).commit _ (or_left (are_said is_commit w.state.head.name (id_of k) v.answer.sent) _ said)
          | inr rolled ↦ absurd (no_commit_rolled w.state.head.name (id_of k) v.answer.spent rolled)
        ]
      ]
      | inr will ↦ elim (any_behind (will_tell is_commit w.state.head.epoch (id_of k)) errands v.answer.work will) [
        | inl old ↦ or_left (old_word k).commit _ (or_right (list_any is_commit (told w.state.head.name (id_of k) shown)) _ old)
        | inr new ↦ or_right (old_word k).commit _ (or_right (are_said is_commit w.state.head.name (id_of k) v.answer.sent) _ new)
      ]
    ];
    abort = λ is. elim (or_cases (list_any is_abort (told w.state.head.name (id_of k) later)) (list_any (will_tell is_abort w.state.head.epoch (id_of k)) (errands ++ option_to_list v.answer.work)) is) [
      | inl now ↦ elim (went.heard is_abort (id_of k) (sym (any_told is_abort w.state.head.name (id_of k) later) ∙ now)) [
        | inl before ↦ or_left (old_word k).abort _ (or_left (list_any is_abort (told w.state.head.name (id_of k) shown)) _ (any_told is_abort w.state.head.name (id_of k) shown ∙ before))
        | inr here ↦ elim here [
          | inl said ↦ or_right (old_word k).abort _ (or_left (are_said is_abort w.state.head.name (id_of k) v.answer.sent) _ said)
          | inr rolled ↦ or_right (old_word k).abort _ (or_right (are_said is_abort w.state.head.name (id_of k) v.answer.sent) _ (or_right (option_map_or (will_tell is_abort w.state.head.epoch (id_of k)) v.answer.work false) _ (let_go_rolls is_abort w.state.head.name (id_of k) v.answer.spent rolled).1))
        ]
      ]
      | inr will ↦ elim (any_behind (will_tell is_abort w.state.head.epoch (id_of k)) errands v.answer.work will) [
        | inl old ↦ or_left (old_word k).abort _ (or_right (list_any is_abort (told w.state.head.name (id_of k) shown)) _ old)
        | inr new ↦ or_right (old_word k).abort _ (or_right (are_said is_abort w.state.head.name (id_of k) v.answer.sent) _ (or_left (option_map_or (will_tell is_abort w.state.head.epoch (id_of k)) v.answer.work false) _ new))
      ]
    ];
    awaited = λ is. elim (any_behind (will_vote w.state.head.epoch (id_of k)) errands v.answer.work is) [
      | inl old ↦ or_left (old_word k).awaited _ old
      | inr new ↦ or_right (old_word k).awaited _ new
    ];
  }

  -- nothing was said at first
  quiet_said : (test : Verdict → Bool) (realm id : List ℕ) → are_said test realm id w.answer.sent ≡ true → ⊥
  quiet_said test realm id is = let no : false ≡ true = sym (ap (are_said test realm id) went.quiet.sent) ∙ is in cc

  quiet_work : (p : PartyNotes → Bool) → option_map_or p w.answer.work false ≡ true → ⊥
  quiet_work p is = let no : false ≡ true = sym (ap (λ o. option_map_or p o false) went.quiet.work) ∙ is in cc

  quiet_spent : (id : List ℕ) → rolls_back id w.answer.spent ≡ true → ⊥
  quiet_spent id is = let no : false ≡ true = sym (ap (rolls_back id) went.quiet.spent) ∙ is in cc

  first_less : (before : Word) (k : Key) → Less (word_at before k w) before
  first_less before k = record {
    commit = λ is. elim (or_cases before.commit _ is) [
      | inl old ↦ old
      | inr new ↦ elim (or_cases (are_said is_commit w.state.head.name (id_of k) w.answer.sent) (option_map_or (will_tell is_commit w.state.head.epoch (id_of k)) w.answer.work false) new) [
        | inl said ↦ absurd (quiet_said is_commit w.state.head.name (id_of k) said)
        | inr work ↦ absurd (quiet_work (will_tell is_commit w.state.head.epoch (id_of k)) work)
      ]
    ];
    abort = λ is. elim (or_cases before.abort _ is) [
      | inl old ↦ old
      | inr new ↦ elim (or_cases (are_said is_abort w.state.head.name (id_of k) w.answer.sent) (option_map_or (will_tell is_abort w.state.head.epoch (id_of k)) w.answer.work false || rolls_back (id_of k) w.answer.spent) new) [
        | inl said ↦ absurd (quiet_said is_abort w.state.head.name (id_of k) said)
        | inr rest ↦ elim (or_cases (option_map_or (will_tell is_abort w.state.head.epoch (id_of k)) w.answer.work false) (rolls_back (id_of k) w.answer.spent) rest) [
          | inl work ↦ absurd (quiet_work (will_tell is_abort w.state.head.epoch (id_of k)) work)
          | inr spent ↦ absurd (quiet_spent (id_of k) spent)
        ]
      ]
    ];
    awaited = λ is. elim (or_cases before.awaited _ is) [
      | inl old ↦ old
      | inr work ↦ absurd (quiet_work (will_vote w.state.head.epoch (id_of k)) work)
    ];
  }

  first_fits : (before : Word) (k : Key) → fits (transaction_of k w.state) before ≡ true → Fits before k w
  first_fits before k is = fits_less (transaction_of k w.state) (word_at before k w) before (first_less before k) is

  -- by the names of the state before
  renamed : (before : Word) (k : Key) → Fits before k v → fits (transaction_of k v.state) (work_word before k) ≡ true
  renamed before k is =
      let name = sym went.spoke.name in
      let epoch = sym went.spoke.epoch in
      (λ i. fits (transaction_of k v.state) (word_in before (epoch i) (identifier (name i) k) (are_said is_commit (name i) (identifier (name i) k) v.answer.sent) (are_said is_abort (name i) (identifier (name i) k) v.answer.sent) v.answer.work v.answer.spent)) ∙ is

  -- a new transaction had no word
  unspoken : (k : Key) → is_spelled k ≡ true → transaction_of k w.state ≡ None → is_some (transaction_of k v.state) ≡ true → has_word (old_word k) ≡ false
  unspoken k fine none there = step (has_word (old_word k)) refl where
    step : (b : Bool) → has_word (old_word k) ≡ b → b ≡ false
    step false is = refl
    step true is = absurd (both_ways (was_given w.state k) (went.fresh k none there) (went.given k fine is))

  fits_then : (k : Key) → is_spelled k ≡ true → fits (transaction_of k v.state) (work_word (old_word k) k) ≡ true
  fits_then k fine = renamed (old_word k) k (went.spoke.fits k fine (old_word k) (unspoken k fine) (first_fits (old_word k) k (went.fits k fine)))

  pub fits_after : (k : Key) → is_spelled k ≡ true → fits (transaction_of k v.state) (new_word k) ≡ true
  fits_after k fine = fits_less (transaction_of k v.state) (new_word k) (work_word (old_word k) k) (new_less k) (fits_then k fine)

  -- of a transaction that is not there, nothing is said
  abbrev committed_once : Word
  committed_once = record { commit = true; abort = false; awaited = false }

  abbrev aborted_once : Word
  aborted_once = record { commit = false; abort = true; awaited = false }

  gone_fits : (before : Word) (k : Key) → is_spelled k ≡ true → fits None before ≡ true → transaction_of k w.state ≡ None → transaction_of k v.state ≡ None → fits None (work_word before k) ≡ true
  gone_fits before k fine is none still = subst (λ o. fits o (work_word before k) ≡ true) still (renamed before k (went.spoke.fits k fine before (λ same there. absurd (let wrong : false ≡ true = sym (ap is_some still) ∙ there in cc)) (first_fits before k (subst (λ o. fits o before ≡ true) (sym none) is))))

  old_word_then : (k : Key) → is_spelled k ≡ true → transaction_of k w.state ≡ None → transaction_of k v.state ≡ None → has_word (new_word k) ≡ true → has_word (old_word k) ≡ true
  old_word_then k fine none still is = elim (or_cases (new_word k).commit (new_word k).abort is) [
    | inl commit ↦ elim (or_cases (old_word k).commit _ ((new_less k).commit commit)) [
      | inl old ↦ or_left (old_word k).commit _ old
      | inr new ↦ absurd (both_ways (work_word aborted_once k).commit (not-true _ (alone (work_word aborted_once k).commit (gone_fits aborted_once k fine refl none still))) new)
    ]
    | inr abort ↦ elim (or_cases (old_word k).abort _ ((new_less k).abort abort)) [
      | inl old ↦ or_right (old_word k).commit _ old
      | inr new ↦ absurd (both_ways (work_word committed_once k).abort (not-true _ (gone_fits committed_once k fine refl none still)) new)
    ]
  ] where
    alone : (b : Bool) → not (b && true) ≡ true → not b ≡ true
    alone true is = is
    alone false is = refl

  pub given_after : (k : Key) → is_spelled k ≡ true → has_word (new_word k) ≡ true → was_given v.state k ≡ true
  given_after k fine is = step (transaction_of k v.state) (transaction_of k w.state) refl refl where
    step : (now before : Option Transaction) → transaction_of k v.state ≡ now → transaction_of k w.state ≡ before → was_given v.state k ≡ true
    step (Some t) before there was = went.given_new k (ap is_some there)
    step None (Some t) there was = went.stays k (went.given_old k (ap is_some was))
    step None None there was = went.stays k (went.given k fine (old_word_then k fine was there is))

  pub uncalled_after : list_all is_uncalled (errands ++ option_to_list v.answer.work) ≡ true
  uncalled_after = list_all-append is_uncalled errands (option_to_list v.answer.work) ∙ and_from _ _ went.uncalled (one v.answer.work went.spoke.uncalled) where
    one : (o : Option PartyNotes) → option_map_or is_uncalled o true ≡ true → list_all is_uncalled (option_to_list o) ≡ true
    one None is = refl
    one (Some party) is = and_from _ _ is refl

  -- no identifier is spoken of but ours
  rolled_named : (id : List ℕ) (spent : Option PartyNotes) → rolls_back id spent ≡ true → is_of id spent ≡ true
  rolled_named id None is = is
  rolled_named id (Some party) is = (and_parts (bytes_eq id party.id) _ is).0

  ours_after : (id : List ℕ) → is_named w.state.head.name (errands ++ option_to_list v.answer.work) later id ≡ true → IsOurs w.state.head.name id
  ours_after id is = elim (or_cases (list_any any_verdict (told w.state.head.name id later)) (list_any (λ (party : PartyNotes). bytes_eq id party.id) (errands ++ option_to_list v.answer.work)) is) [
    | inl now ↦ elim (went.heard any_verdict id (sym (any_told any_verdict w.state.head.name id later) ∙ now)) [
      | inl before ↦ went.ours id (or_left (list_any any_verdict (told w.state.head.name id shown)) _ (any_told any_verdict w.state.head.name id shown ∙ before))
      | inr here ↦ elim here [
        | inl said ↦ went.spoke.ours any_verdict id (or_left (are_said any_verdict w.state.head.name id v.answer.sent) _ said)
        | inr rolled ↦ went.spoke.ours any_verdict id (or_right (are_said any_verdict w.state.head.name id v.answer.sent) _ (rolled_named id v.answer.spent (let_go_rolls any_verdict w.state.head.name id v.answer.spent rolled).1))
      ]
    ]
    | inr out ↦ elim (any_behind (λ (party : PartyNotes). bytes_eq id party.id) errands v.answer.work out) [
      | inl old ↦ went.ours id (or_right (list_any any_verdict (told w.state.head.name id shown)) _ old)
      | inr new ↦ went.spoke.works id new
    ]
  ]

  -- IT IS TRUE TO ITS WORD AFTER IT
  pub true_after : IsTrueTo later (record { state = v.state; rows = rows; errands = errands ++ option_to_list v.answer.work })
  true_after =
      let name = went.spoke.name in
      let epoch = went.spoke.epoch in
      record {
        fits = λ k fine. (λ i. fits (transaction_of k v.state) (word_by (name i) (epoch i) (errands ++ option_to_list v.answer.work) later (identifier (name i) k))) ∙ fits_after k fine;
        given = λ k fine is. given_after k fine ((λ i. has_word (word_by (sym name i) (sym epoch i) (errands ++ option_to_list v.answer.work) later (identifier (sym name i) k))) ∙ is);
        uncalled = uncalled_after;
        ours = λ id is. subst (λ n. IsOurs n id) (sym name) (ours_after id ((λ i. is_named (sym name i) (errands ++ option_to_list v.answer.work) later id) ∙ is));
      }
