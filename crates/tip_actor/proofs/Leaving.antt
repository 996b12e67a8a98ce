-- What is let go where the process ends.
use Rattle.std.proofs.Common.{◌≡◌, ◌≢◌, ◌++◌, ◌∷◌, [], ℕ, List, map, refl, sym, ap, ◌∙◌, append_assoc, append-nil}
use Rattle.std.specs.List.{flat_map}
use Rattle.std.proofs.lemmas.Grind.{flat_map-append}
use Rattle.std.proofs.lemmas.List.Concat.{flat_map-cons}
use Rattle.tip_branch.specs.Notes.{PartyNotes}
use Rattle.tip_outlook.specs.Searches.{HeldTransaction}
use Rattle.tip_machine.specs.Moves.{drops_at, drops_here}
use Rattle.tip_machine.specs.Outputs.{Output, drops_of}
use Rattle.tip_machine.specs.Types.{PartyPlace, Transaction, seen}
use Rattle.tip_machine.specs.declared.transaction.PartyPlace.TheVariants.{Here, Out, Spent}
use Rattle.tip_transcript.specs.Printing.{output_text, shown_text}
use Rattle.tip_actor.specs.Acting.{Acting, restarts}

-- what is shown of each, one after another, is shown of all
pub shown_each : {T : Type 0} (name : List ℕ) (f : T → List Output) (xs : List T) → flat_map (λ x. shown_text name (f x)) xs ≡ shown_text name (flat_map f xs)
shown_each name f [] = refl
shown_each name f (x ∷ xs) = flat_map-cons (λ x. shown_text name (f x)) x xs ∙ ap (λ rest. shown_text name (f x) ++ rest) (shown_each name f xs) ∙ sym (flat_map-append (output_text name) (f x) (flat_map f xs)) ∙ ap (shown_text name) (sym (flat_map-cons f x xs))

-- the text of what is let go of parties that are out, and of those that are here
abbrev pub left_out : List ℕ → List PartyNotes → List ℕ
left_out name errands = flat_map (λ party. shown_text name (drops_of party)) errands

abbrev pub left_here : List ℕ → List Transaction → List ℕ
left_here name transactions = flat_map (λ transaction. shown_text name (drops_at transaction.place)) transactions

leaving : (acting : Acting) → (restarts acting).printed ≡ left_out acting.name acting.world.errands ++ left_here acting.name acting.world.state.transactions
leaving acting =
    flat_map-append (output_text acting.name) (flat_map drops_of acting.world.errands) (drops_here acting.world.state)
    ∙ ap (λ text. text ++ shown_text acting.name (drops_here acting.world.state)) (sym (shown_each acting.name drops_of acting.world.errands))
    ∙ ap (λ text. left_out acting.name acting.world.errands ++ text) (sym (shown_each acting.name (λ (transaction : Transaction). drops_at transaction.place) acting.world.state.transactions))

pub has_left : (acting : Acting) (name : List ℕ) (errands : List PartyNotes) (printed out printed' : List ℕ) → name ≡ acting.name → errands ≡ acting.world.errands → out ≡ printed ++ left_out name errands → printed' ≡ out ++ left_here name acting.world.state.transactions → printed' ≡ printed ++ (restarts acting).printed
has_left acting name errands printed out printed' named are first second =
    second ∙ ap (λ t. t ++ left_here name acting.world.state.transactions) first ∙ append_assoc printed (left_out name errands) (left_here name acting.world.state.transactions)
    ∙ ap (λ n. printed ++ (left_out n errands ++ left_here n acting.world.state.transactions)) named ∙ ap (λ l. printed ++ (left_out acting.name l ++ left_here acting.name acting.world.state.transactions)) are ∙ ap (λ t. printed ++ t) (sym (leaving acting))

-- One transaction more

one_left : (name : List ℕ) (transaction : Transaction) (rest : List Transaction) → left_here name (transaction ∷ rest) ≡ shown_text name (drops_at transaction.place) ++ left_here name rest
one_left name transaction rest = flat_map-cons (λ (t : Transaction). shown_text name (drops_at t.place)) transaction rest

pub drops_party : (name printed before after : List ℕ) (transaction : HeldTransaction) (party : PartyNotes) (left rest : List HeldTransaction) (all : List ℕ) → left ≡ transaction ∷ rest → transaction.place ≡ Here party → after ≡ before ++ shown_text name (drops_of party) → before ++ left_here name (map seen left) ≡ all → after ++ left_here name (map seen rest) ≡ all
drops_party name printed before after transaction party left rest all next here text so_far =
    ap (λ t. t ++ left_here name (map seen rest)) text ∙ append_assoc before (shown_text name (drops_of party)) (left_here name (map seen rest))
    ∙ ap (λ p. before ++ (shown_text name (drops_at p) ++ left_here name (map seen rest))) (sym here)
    ∙ ap (λ t. before ++ t) (sym (one_left name (seen transaction) (map seen rest))) ∙ ap (λ l. before ++ left_here name (map seen l)) (sym next) ∙ so_far

no_drops : (place : PartyPlace) → ((party : PartyNotes) → place ≢ Here party) → drops_at place ≡ []
no_drops (Here party) other = absurd (other party refl)
no_drops (Out errand) other = refl
no_drops Spent other = refl

pub drops_nobody : (name before : List ℕ) (transaction : HeldTransaction) (left rest : List HeldTransaction) (all : List ℕ) → left ≡ transaction ∷ rest → ((party : PartyNotes) → transaction.place ≢ Here party) → before ++ left_here name (map seen left) ≡ all → before ++ left_here name (map seen rest) ≡ all
drops_nobody name before transaction left rest all next other so_far =
    ap (λ shown. before ++ (shown_text name shown ++ left_here name (map seen rest))) (sym (no_drops transaction.place other))
    ∙ ap (λ t. before ++ t) (sym (one_left name (seen transaction) (map seen rest))) ∙ ap (λ l. before ++ left_here name (map seen l)) (sym next) ∙ so_far

pub all_left : (name before : List ℕ) (left : List HeldTransaction) (all : List ℕ) → left ≡ [] → before ++ left_here name (map seen left) ≡ all → before ≡ all
all_left name before left all none so_far = sym (append-nil before) ∙ ap (λ l. before ++ left_here name (map seen l)) (sym none) ∙ so_far
