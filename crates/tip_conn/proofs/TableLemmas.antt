-- The laws of the table. Each is a test that its rows pass.
use Rattle.std.proofs.Common.{◌≡◌, ℕ, List, [], ◌∷◌, ◌++◌, Bool, true, false, ◌&&◌, not, Option, Some, None, ◌↔◌, refl}
use Rattle.std.proofs.lemmas.Bool.{and_parts}
use Rattle.std.proofs.lemmas.Bool.Decides.{not_from_Decides}
use Rattle.std.specs.List.{All, list_all}
use Rattle.std.specs.Str.{bytes_eq}
use Rattle.std.proofs.lemmas.List.Elements.{All-nil, All-cons}
use Rattle.std.proofs.lemmas.Slice.Eq.{bytes_eq-Decides}
use Rattle.tip_line.specs.Command as commands
use Rattle.tip_line.specs.Response as responses
use Rattle.tip_line.specs.declared.response.ResponseName.{ResponseName}
use Rattle.tip_line.specs.declared.response.ResponseName.TheVariants as response
use Rattle.tip_conn.specs.declared.state.State.{State}
use Rattle.tip_conn.specs.declared.state.State.TheVariants as state
use Rattle.tip_conn.specs.declared.state.Turn.{Turn}
use Rattle.tip_conn.specs.declared.state.Turn.TheVariants.{Reverse, Original}
use Rattle.tip_conn.specs.Table.{Row, rows, IsAlike, IsFunction, IsOriginalWhereIdle, IsReversedByPulled}

-- what each element is by a test, all are
all_pass : {X : Type 0} (P : X → Type 0) (test : X → Bool) → ((x : X) → test x ≡ true → P x) → (xs : List X) → list_all test xs ≡ true → All P xs
all_pass P test holds [] passed = All-nil P
all_pass P test holds (x ∷ xs) passed =
    let both = and_parts (test x) (list_all test xs) passed in
    All-cons P x xs (holds x both.0) (all_pass P test holds xs both.1)

-- a row's command, state and response as one text
abbrev state_text : State → List ℕ
state_text state.Initial = 0 ∷ []
state_text state.Idle = 1 ∷ []
state_text state.Begun = 2 ∷ []
state_text state.Enlisted = 3 ∷ []
state_text state.Prepared = 4 ∷ []
state_text state.Error = 5 ∷ []

abbrev response_text : Option ResponseName → List ℕ
response_text None = []
response_text (Some said) = responses.spelled said

abbrev text_of : Row → List ℕ
text_of row = commands.spelled row.command ++ state_text row.valid ++ response_text row.response

not-true : (b : Bool) → not b ≡ true → b ≡ false
not-true true h = cc
not-true false h = refl

abbrev apart : Row → Row → Bool
apart row other = not (bytes_eq (text_of row) (text_of other))

apart-alike : (row other : Row) → apart row other ≡ true → IsAlike row other → ⊥
apart-alike row other differ alike =
    let same : text_of row ≡ text_of other = cc in
    not_from_Decides (bytes_eq (text_of row) (text_of other)) (bytes_eq-Decides (text_of row) (text_of other)) (not-true (bytes_eq (text_of row) (text_of other)) differ) same

abbrev all_apart : List Row → Bool
all_apart [] = true
all_apart (row ∷ others) = list_all (apart row) others && all_apart others

function : (table : List Row) → all_apart table ≡ true → IsFunction table
function [] passed = tt
function (row ∷ others) passed =
    let both = and_parts (list_all (apart row) others) (all_apart others) passed in
    (all_pass (λ other. ¬ IsAlike row other) (apart row) (apart-alike row) others both.0, function others both.1)

pub rows-function : IsFunction rows
rows-function = function rows refl

-- the turn is Original exactly where the next state is Idle
abbrev is_original_where_idle : Turn → State → Bool
is_original_where_idle Original state.Idle = true
is_original_where_idle Original next = false
is_original_where_idle turn state.Idle = false
is_original_where_idle turn next = true

original-idle : (turn : Turn) (next : State) → is_original_where_idle turn next ≡ true → (turn ≡ Original) ↔ (next ≡ state.Idle)
original-idle Original state.Idle passed = (λ same. refl, λ same. refl)
original-idle Original next passed = cc
original-idle turn state.Idle passed = cc
original-idle turn next passed = (λ same. cc, λ same. cc)

pub rows-original : IsOriginalWhereIdle rows
rows-original = all_pass (λ row. (row.turn ≡ Original) ↔ (row.next ≡ state.Idle)) (λ row. is_original_where_idle row.turn row.next) (λ row. original-idle row.turn row.next) rows refl

-- the turn is Reverse exactly where the response is PULLED
abbrev is_reversed_by_pulled : Turn → Option ResponseName → Bool
is_reversed_by_pulled Reverse (Some response.Pulled) = true
is_reversed_by_pulled Reverse said = false
is_reversed_by_pulled turn (Some response.Pulled) = false
is_reversed_by_pulled turn said = true

reversed-pulled : (turn : Turn) (said : Option ResponseName) → is_reversed_by_pulled turn said ≡ true → (turn ≡ Reverse) ↔ (said ≡ Some response.Pulled)
reversed-pulled Reverse (Some response.Pulled) passed = (λ same. refl, λ same. refl)
reversed-pulled Reverse said passed = cc
reversed-pulled turn (Some response.Pulled) passed = cc
reversed-pulled turn said passed = (λ same. cc, λ same. cc)

pub rows-reversed : IsReversedByPulled rows
rows-reversed = all_pass (λ row. (row.turn ≡ Reverse) ↔ (row.response ≡ Some response.Pulled)) (λ row. is_reversed_by_pulled row.turn row.response) (λ row. reversed-pulled row.turn row.response) rows refl
