-- What an event shows, by what it is of.
use Rattle.std.proofs.Common.{◌≡◌, Bool, true, false, ℕ, List, [], ◌∷◌, ◌++◌, Option, Some, None, refl, ap, sym, ◌∙◌, ◌⊎◌, inl, inr}
use Rattle.std.specs.Prelude.{filter, filter_map, flat_map, map, option_map}
use Rattle.std.specs.List.{cons_option, list_any}
use Rattle.std.specs.Option.{option_map_or, option_to_list}
use Rattle.std.specs.Str.{bytes_eq}
use Rattle.std.proofs.lemmas.Bool.{both_ways, or_cases, or_from, or_left, or_right}
use Rattle.std.proofs.lemmas.List.Folds.{list_any-append}
use Rattle.tip_branch.specs.Members.{is_active}
use Rattle.tip_branch.specs.Notes.{PartyNotes}
use Rattle.tip_branch.specs.declared.branch.Badge.{Badge}
use Rattle.tip_branch.specs.declared.member.Call.{Call}
use Rattle.tip_branch.specs.declared.member.Errand.{Errand}
use Rattle.tip_branch.specs.declared.member.Member.{Member}
use Rattle.tip_line.specs.declared.refusal.Refusal.{Refusal}
use Rattle.tip_rows.specs.Keys.{Key}
use Rattle.tip_machine.specs.Agreement.{removes}
use Rattle.tip_machine.specs.Agreement.Traces.{is_refusal}
use Rattle.tip_machine.specs.Answers.{identifier}
use Rattle.tip_machine.specs.Moves.{drops_at}
use Rattle.tip_machine.specs.Outputs.{Output, brought, drops_of, outputs}
use Rattle.tip_machine.specs.Types.{Answer, Event, PartyPlace, Transaction}
use Rattle.tip_machine.specs.declared.answer.Sent.{Sent}
use Rattle.tip_machine.specs.declared.event.Change.{Change}
use Rattle.tip_machine.specs.declared.event.Change.TheVariants.{Put, Remove}
use Rattle.tip_machine.specs.declared.event.Event.TheVariants.{Settled, Voted}
use Rattle.tip_machine.specs.declared.event.Outcome.{Outcome}
use Rattle.tip_machine.specs.declared.event.Outcome.TheVariants.{NoChange, Refused, Stored}
use Rattle.tip_machine.specs.declared.event.Seat.{Seat}
use Rattle.tip_machine.specs.declared.transaction.PartyPlace.TheVariants.{Here, Out, Spent}

-- A TEST that only a change, or a refusal, may pass
module _ (test : Output → Bool)
    (not_opened : (seat : Seat) → test (Output.Opened seat) ≡ false) (not_called : (id : List ℕ) (number : ℕ) (badge : Badge) (call : Call) → test (Output.Called id number badge call) ≡ false)
    (not_sent : (sent : Sent) → test (Output.Sent sent) ≡ false) (not_work : (id : List ℕ) (e : Errand) → test (Output.Works id e) ≡ false) (not_dropped : (id : List ℕ) (number : ℕ) (badge : Badge) → test (Output.Dropped id number badge) ≡ false) where
  abbrev any : List Output → Bool
  any shown = list_any test shown

  either : (xs ys : List Output) → any (xs ++ ys) ≡ true → (any xs ≡ true) ⊎ (any ys ≡ true)
  either xs ys is = or_cases (any xs) (any ys) (sym (list_any-append test xs ys) ∙ is)

  behind : (xs ys : List Output) → any xs ≡ false → any (xs ++ ys) ≡ true → any ys ≡ true
  behind xs ys none is = elim (either xs ys is) [ inl first ↦ absurd (both_ways (any xs) none first) | inr rest ↦ rest ]

  none_opened : (seat : Option Seat) → any (option_to_list (option_map Output.Opened seat)) ≡ false
  none_opened None = refl
  none_opened (Some seat) = or_from _ _ (not_opened seat) refl

  none_called : (party : PartyNotes) (members : List Member) → any (filter_map (λ (m : Member). option_map (Output.Called party.id m.number m.standing.badge) m.call) members) ≡ false
  none_called party [] = refl
  none_called party (m ∷ members) = step m.call (none_called party members) where
    step : (c : Option Call) → any (filter_map (λ (m : Member). option_map (Output.Called party.id m.number m.standing.badge) m.call) members) ≡ false → any (cons_option (option_map (Output.Called party.id m.number m.standing.badge) c) (filter_map (λ (m : Member). option_map (Output.Called party.id m.number m.standing.badge) m.call) members)) ≡ false
    step None rest = rest
    step (Some call) rest = or_from _ _ (not_called party.id m.number m.standing.badge call) rest

  none_brought : (event : Event) → any (brought event) ≡ false
  none_brought (Voted party) = none_called party party.members
  none_brought (Settled party) = none_called party party.members
  none_brought event = refl

  none_sent : (sent : List Sent) → any (map Output.Sent sent) ≡ false
  none_sent [] = refl
  none_sent (s ∷ sent) = or_from _ _ (not_sent s) (none_sent sent)

  none_worked : (work : Option PartyNotes) → any (option_to_list (option_map (λ (party : PartyNotes). Output.Works party.id party.errand) work)) ≡ false
  none_worked None = refl
  none_worked (Some party) = or_from _ _ (not_work party.id party.errand) refl

  pub none_dropped : (party : PartyNotes) → any (drops_of party) ≡ false
  none_dropped party = step (filter is_active party.members) where
    step : (ms : List Member) → any (map (λ (m : Member). Output.Dropped party.id m.number m.standing.badge) ms) ≡ false
    step [] = refl
    step (m ∷ ms) = or_from _ _ (not_dropped party.id m.number m.standing.badge) (step ms)

  none_let_go : (spent : Option PartyNotes) → any (option_map_or drops_of spent []) ≡ false
  none_let_go None = refl
  none_let_go (Some party) = none_dropped party

  pub none_lost : (errands : List PartyNotes) → any (flat_map drops_of errands) ≡ false
  none_lost [] = refl
  none_lost (party ∷ errands) = list_any-append test (drops_of party) (flat_map drops_of errands) ∙ or_from _ _ (none_dropped party) (none_lost errands)

  none_at : (place : PartyPlace) → any (drops_at place) ≡ false
  none_at (Here party) = none_dropped party
  none_at (Out e) = refl
  none_at Spent = refl

  pub none_here : (ts : List Transaction) → any (flat_map (λ (t : Transaction). drops_at t.place) ts) ≡ false
  none_here [] = refl
  none_here (t ∷ ts) = list_any-append test (drops_at t.place) (flat_map (λ (t : Transaction). drops_at t.place) ts) ∙ or_from _ _ (none_at t.place) (none_here ts)

  -- an event
  pub of_outputs : (event : Event) (change : Option Change) (outcome : Outcome) (answer : Answer) → any (outputs event change outcome answer) ≡ true → (any (option_to_list (option_map Output.Refused answer.refusal)) ≡ true) ⊎ (any (option_to_list (option_map (λ c. Output.Changed c outcome) change)) ≡ true)
  of_outputs event change outcome answer is =
      let lines = map Output.Sent answer.sent in
      let works = option_to_list (option_map (λ (party : PartyNotes). Output.Works party.id party.errand) answer.work) in
      let drops = option_map_or drops_of answer.spent [] in
      let changed = option_to_list (option_map (λ c. Output.Changed c outcome) change) in
      let opened = option_to_list (option_map Output.Opened answer.opened) in
      elim (either (option_to_list (option_map Output.Refused answer.refusal)) (opened ++ (brought event ++ (changed ++ (lines ++ (works ++ drops))))) is) [
        | inl refused ↦ inl refused
        | inr a ↦
            let b = behind opened (brought event ++ (changed ++ (lines ++ (works ++ drops)))) (none_opened answer.opened) a in
            let c = behind (brought event) (changed ++ (lines ++ (works ++ drops))) (none_brought event) b in
            elim (either changed (lines ++ (works ++ drops)) c) [
              | inl now ↦ inr now
              | inr d ↦ absurd (both_ways (any drops) (none_let_go answer.spent) (behind works drops (none_worked answer.work) (behind lines (works ++ drops) (none_sent answer.sent) d)))
            ]
      ]

-- A ROW IS REMOVED by the change alone

pub record Removed (realm id : List ℕ) (change : Option Change) (outcome : Outcome) : Type 0 where
  pub key : Key
  pub is : change ≡ Some (Remove key)
  pub stored : outcome ≡ Stored
  pub spells : bytes_eq id (identifier realm key) ≡ true

changed_so : (realm id : List ℕ) (change : Option Change) (outcome : Outcome) → list_any (removes realm id) (option_to_list (option_map (λ c. Output.Changed c outcome) change)) ≡ true → Removed realm id change outcome
changed_so realm id None outcome is = absurd (let wrong : false ≡ true = is in cc)
changed_so realm id (Some (Put key row)) outcome is = absurd (let wrong : false ≡ true = is in cc)
changed_so realm id (Some (Remove key)) Stored is = elim (or_cases (bytes_eq id (identifier realm key)) false is) [ inl spells ↦ record { key = key; is = refl; stored = refl; spells = spells } | inr none ↦ absurd (let wrong : false ≡ true = none in cc) ]
changed_so realm id (Some (Remove key)) Refused is = absurd (let wrong : false ≡ true = is in cc)
changed_so realm id (Some (Remove key)) NoChange is = absurd (let wrong : false ≡ true = is in cc)

refused_so : (realm id : List ℕ) (why : Option Refusal) → list_any (removes realm id) (option_to_list (option_map Output.Refused why)) ≡ true → ⊥
refused_so realm id None is = let wrong : false ≡ true = is in cc
refused_so realm id (Some why) is = let wrong : false ≡ true = is in cc

pub removed_so : (realm id : List ℕ) (event : Event) (change : Option Change) (outcome : Outcome) (answer : Answer) → list_any (removes realm id) (outputs event change outcome answer) ≡ true → Removed realm id change outcome
removed_so realm id event change outcome answer is = elim (of_outputs (removes realm id) (λ seat. refl) (λ id number badge call. refl) (λ sent. refl) (λ id e. refl) (λ id number badge. refl) event change outcome answer is) [
  | inl refused ↦ absurd (refused_so realm id answer.refusal refused)
  | inr changed ↦ changed_so realm id change outcome changed
]

pub none_removed_lost : (realm id : List ℕ) (errands : List PartyNotes) → list_any (removes realm id) (flat_map drops_of errands) ≡ false
none_removed_lost realm id = none_lost (removes realm id) (λ seat. refl) (λ id number badge call. refl) (λ sent. refl) (λ id e. refl) (λ id number badge. refl)

pub none_removed_dropped : (realm id : List ℕ) (party : PartyNotes) → list_any (removes realm id) (drops_of party) ≡ false
none_removed_dropped realm id = none_dropped (removes realm id) (λ seat. refl) (λ id number badge call. refl) (λ sent. refl) (λ id e. refl) (λ id number badge. refl)

pub none_removed_here : (realm id : List ℕ) (ts : List Transaction) → list_any (removes realm id) (flat_map (λ (t : Transaction). drops_at t.place) ts) ≡ false
none_removed_here realm id = none_here (removes realm id) (λ seat. refl) (λ id number badge call. refl) (λ sent. refl) (λ id e. refl) (λ id number badge. refl)

-- WHAT IS NOT REFUSED is heard

false_unless : (b : Bool) → (b ≡ true → ⊥) → b ≡ false
false_unless true never = absurd (never refl)
false_unless false never = refl

pub none_refused : (event : Event) (change : Option Change) (outcome : Outcome) (answer : Answer) → answer.refusal ≡ None → list_any is_refusal (outputs event change outcome answer) ≡ false
none_refused event change outcome answer none = false_unless _ (λ is. elim (of_outputs is_refusal (λ seat. refl) (λ id number badge call. refl) (λ sent. refl) (λ id e. refl) (λ id number badge. refl) event change outcome answer is) [
  | inl refused ↦ let wrong : false ≡ true = sym (ap (λ o. list_any is_refusal (option_to_list (option_map Output.Refused o))) none) ∙ refused in cc
  | inr changed ↦ never change changed
]) where
  never : (change : Option Change) → list_any is_refusal (option_to_list (option_map (λ c. Output.Changed c outcome) change)) ≡ true → ⊥
  never None is = let wrong : false ≡ true = is in cc
  never (Some change) is = let wrong : false ≡ true = is in cc

-- what an event brings is shown
pub brings_so : (test : Output → Bool) (event : Event) (change : Option Change) (outcome : Outcome) (answer : Answer) → list_any test (brought event) ≡ true → list_any test (outputs event change outcome answer) ≡ true
brings_so test event change outcome answer is =
    let rest = option_to_list (option_map (λ c. Output.Changed c outcome) change) ++ (map Output.Sent answer.sent ++ (option_to_list (option_map (λ (party : PartyNotes). Output.Works party.id party.errand) answer.work) ++ option_map_or drops_of answer.spent [])) in
    let opened = option_to_list (option_map Output.Opened answer.opened) in
    let refused = option_to_list (option_map Output.Refused answer.refusal) in
    let a = list_any-append test (brought event) rest ∙ or_left (list_any test (brought event)) _ is in
    let b = list_any-append test opened (brought event ++ rest) ∙ or_right (list_any test opened) _ a in
    list_any-append test refused (opened ++ (brought event ++ rest)) ∙ or_right (list_any test refused) _ b
