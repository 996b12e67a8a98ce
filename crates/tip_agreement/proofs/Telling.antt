-- What lists of outputs tell the branches of a transaction.
use Rattle.std.proofs.Common.{◌≡◌, Bool, true, false, ℕ, List, [], ◌∷◌, ◌++◌, Option, Some, None, cond, refl, ap, sym, ◌∙◌, ◌⊎◌, inl, inr}
use Rattle.std.specs.Prelude.{◌||◌, filter, map, nat_le, option_map}
use Rattle.std.specs.List.{cons_option, list_any}
use Rattle.std.specs.Option.{option_map_or, option_to_list}
use Rattle.std.specs.Str.{bytes_eq}
use Rattle.std.proofs.lemmas.Bool.{both_ways, or_cases}
use Rattle.std.proofs.lemmas.List.Folds.{list_any-append}
use Rattle.tip_branch.specs.Members.{is_active}
use Rattle.tip_branch.specs.Notes.{PartyNotes}
use Rattle.tip_branch.specs.declared.member.Member.{Member}
use Rattle.tip_line.specs.declared.refusal.Refusal.{Refusal}
use Rattle.tip_machine.specs.Agreement.Verdicts.{Verdict, told, told_by}
use Rattle.tip_machine.specs.Order.{in_turn, put_in}
use Rattle.tip_machine.specs.Outputs.{Output, brought, drops_of, outputs}
use Rattle.tip_machine.specs.Types.{Answer, Event}
use Rattle.tip_machine.specs.declared.answer.Sent.{Sent}
use Rattle.tip_machine.specs.declared.event.Change.{Change}
use Rattle.tip_machine.specs.declared.event.Outcome.{Outcome}
use Rattle.tip_machine.specs.declared.event.Seat.{Seat}
use Rattle.tip_agreement.proofs.Wording.{Quiet, are_said, says}

module _ (test : Verdict → Bool) (realm id : List ℕ) where
  -- such a verdict is told
  abbrev pub tells : Output → Bool
  tells output = option_map_or test (told_by realm id output) false

  abbrev pub are_told : List Output → Bool
  are_told outputs = list_any tells outputs

  -- the same, by the list of verdicts
  pub any_told : (xs : List Output) → list_any test (told realm id xs) ≡ are_told xs
  any_told [] = refl
  any_told (x ∷ xs) = step (told_by realm id x) (any_told xs) where
    step : (o : Option Verdict) → list_any test (told realm id xs) ≡ are_told xs → list_any test (cons_option o (told realm id xs)) ≡ option_map_or test o false || are_told xs
    step None rest = rest
    step (Some verdict) rest = ap (λ b. test verdict || b) rest

  pub told_more : (xs ys : List Output) → are_told (xs ++ ys) ≡ are_told xs || are_told ys
  told_more xs ys = list_any-append tells xs ys

  -- either list tells it
  pub told_either : (xs ys : List Output) → are_told (xs ++ ys) ≡ true → (are_told xs ≡ true) ⊎ (are_told ys ≡ true)
  told_either xs ys is = or_cases (are_told xs) (are_told ys) (sym (told_more xs ys) ∙ is)

  -- lines
  sent_told : (sent : List Sent) → are_told (map Output.Sent sent) ≡ are_said test realm id sent
  sent_told [] = refl
  sent_told (s ∷ sent) = ap (λ b. says test realm id s || b) (sent_told sent)

  -- what tells nothing
  none_refused : (why : Option Refusal) → are_told (option_to_list (option_map Output.Refused why)) ≡ false
  none_refused None = refl
  none_refused (Some why) = refl

  none_opened : (seat : Option Seat) → are_told (option_to_list (option_map Output.Opened seat)) ≡ false
  none_opened None = refl
  none_opened (Some seat) = refl

  none_changed : (change : Option Change) (outcome : Outcome) → are_told (option_to_list (option_map (λ c. Output.Changed c outcome) change)) ≡ false
  none_changed None outcome = refl
  none_changed (Some change) outcome = refl

  none_worked : (work : Option PartyNotes) → are_told (option_to_list (option_map (λ (party : PartyNotes). Output.Works party.id party.errand) work)) ≡ false
  none_worked None = refl
  none_worked (Some party) = refl

  behind : (xs ys : List Output) → are_told xs ≡ false → are_told (xs ++ ys) ≡ true → are_told ys ≡ true
  behind xs ys none is = elim (told_either xs ys is) [
    | inl first ↦ absurd (both_ways (are_told xs) none first)
    | inr rest ↦ rest
  ]

  abbrev pub let_go_told : Option PartyNotes → Bool
  let_go_told spent = are_told (option_map_or drops_of spent [])

  -- AN EVENT: what its party was told, what it says, and what it rolls back
  pub event_told : (event : Event) (change : Option Change) (outcome : Outcome) (answer : Answer) → are_told (outputs event change outcome answer) ≡ true → (are_told (brought event) ≡ true) ⊎ ((are_said test realm id answer.sent ≡ true) ⊎ (let_go_told answer.spent ≡ true))
  event_told event change outcome answer is =
      let lines = map Output.Sent answer.sent in
      let works = option_to_list (option_map (λ (party : PartyNotes). Output.Works party.id party.errand) answer.work) in
      let drops = option_map_or drops_of answer.spent [] in
      let changed = option_to_list (option_map (λ c. Output.Changed c outcome) change) in
      let opened = option_to_list (option_map Output.Opened answer.opened) in
      let a = behind (option_to_list (option_map Output.Refused answer.refusal)) (opened ++ (brought event ++ (changed ++ (lines ++ (works ++ drops))))) (none_refused answer.refusal) is in
      let b = behind opened (brought event ++ (changed ++ (lines ++ (works ++ drops)))) (none_opened answer.opened) a in
      elim (told_either (brought event) (changed ++ (lines ++ (works ++ drops))) b) [
        | inl called ↦ inl called
        | inr later ↦
            let c = behind changed (lines ++ (works ++ drops)) (none_changed change outcome) later in
            elim (told_either lines (works ++ drops) c) [
              | inl said ↦ inr (inl (sym (sent_told answer.sent) ∙ said))
              | inr rest ↦ inr (inr (behind works drops (none_worked answer.work) rest))
            ]
      ]

  -- ROLLED BACK: a branch that is active, to abort
  pub record IsRolledBack (party : PartyNotes) : Type 0 where
    pub aborts : test Verdict.Abort ≡ true
    pub id_is : bytes_eq id party.id ≡ true
    pub active : list_any is_active party.members ≡ true

  drops_from : (party : PartyNotes) (ms : List Member) → are_told (map (λ (m : Member). Output.Dropped party.id m.number m.standing.badge) (filter is_active ms)) ≡ true → (test Verdict.Abort ≡ true) × (bytes_eq id party.id ≡ true) × (list_any is_active ms ≡ true)
  drops_from party [] is = absurd (cc)
  drops_from party (m ∷ ms) is = step (is_active m) is (drops_from party ms) where
    by_id : (b : Bool) → option_map_or test (cond b (Some Verdict.Abort) None) false ≡ true → (test Verdict.Abort ≡ true) × (b ≡ true)
    by_id true is = (is, refl)
    by_id false is = absurd (cc)

    step : (b : Bool) → are_told (map (λ (m : Member). Output.Dropped party.id m.number m.standing.badge) (cond b (m ∷ filter is_active ms) (filter is_active ms))) ≡ true → (are_told (map (λ (m : Member). Output.Dropped party.id m.number m.standing.badge) (filter is_active ms)) ≡ true → (test Verdict.Abort ≡ true) × (bytes_eq id party.id ≡ true) × (list_any is_active ms ≡ true)) → (test Verdict.Abort ≡ true) × (bytes_eq id party.id ≡ true) × (b || list_any is_active ms ≡ true)
    step true is later = elim (or_cases (option_map_or test (cond (bytes_eq id party.id) (Some Verdict.Abort) None) false) (are_told (map (λ (m : Member). Output.Dropped party.id m.number m.standing.badge) (filter is_active ms))) is) [
      | inl first ↦ let told = by_id (bytes_eq id party.id) first in (told.0, told.1, refl)
      | inr rest ↦ let told = later rest in (told.0, told.1, refl)
    ]
    step false is later = later is

  pub drops_told : (party : PartyNotes) → are_told (drops_of party) ≡ true → IsRolledBack party
  drops_told party is = let told = drops_from party party.members is in record { aborts = told.0; id_is = told.1; active = told.2 }

-- lines in order say the same
or_swap : (a b c : Bool) → b || (a || c) ≡ a || (b || c)
or_swap true true c = refl
or_swap true false c = refl
or_swap false b c = refl

put_same : (test : Sent → Bool) (turn : Sent → ℕ) (s : Sent) (xs : List Sent) → list_any test (put_in turn s xs) ≡ test s || list_any test xs
put_same test turn s [] = refl
put_same test turn s (x ∷ xs) = step (nat_le (turn s) (turn x)) (put_same test turn s xs) where
  step : (b : Bool) → list_any test (put_in turn s xs) ≡ test s || list_any test xs → list_any test (cond b (s ∷ x ∷ xs) (x ∷ put_in turn s xs)) ≡ test s || (test x || list_any test xs)
  step true rest = refl
  step false rest = ap (λ b. test x || b) rest ∙ or_swap (test s) (test x) (list_any test xs)

pub turn_same : (test : Sent → Bool) (turn : Sent → ℕ) (xs : List Sent) → list_any test (in_turn turn xs) ≡ list_any test xs
turn_same test turn [] = refl
turn_same test turn (x ∷ xs) = put_same test turn x (in_turn turn xs) ∙ ap (λ b. test x || b) (turn_same test turn xs)

pub ordered_quiet : (turn : Sent → ℕ) (xs : List Sent) → Quiet xs (in_turn turn xs)
ordered_quiet turn xs test realm id = turn_same (says test realm id) turn xs
