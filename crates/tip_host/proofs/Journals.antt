-- Journals as they are seen, without their room.
use Rattle.std.proofs.Common.{◌≡◌, ◌∙◌, ◌-◌, ℕ, zero, suc, List, [], ◌∷◌, ◌++◌, Option, Some, None, length, map, refl, ap, sym}
use Rattle.std.specs.Prelude.{slice_get}
use Rattle.std.specs.Option.{option_map}
use Rattle.std.proofs.lemmas.List.{length-map, map-append}
use Rattle.std.proofs.lemmas.Option.{slice_get-map}
use Rattle.tip_journal.specs.Journal.{with_entry, with_room}
use Rattle.tip_journal.specs.Journals.{changed_at, current, entries_of, epoch_at, epoch_of, last_number, last_of, renewed, with_current, with_last}
use Rattle.tip_honest.specs.Honesty.{Journal}
use Rattle.tip_host.specs.Entries.{bare}
use Rattle.tip_honest.specs.declared.entry.Entry.{Entry}

-- a change that is not seen
same_changed : {A B : Type 0} (f : A → B) (g : A → A) → ((x : A) → f (g x) ≡ f x) → (i : ℕ) (xs : List A) → map f (changed_at i g xs) ≡ map f xs
same_changed f g same i [] = refl
same_changed f g same zero (x ∷ xs) = ap (λ y. y ∷ map f xs) (same x)
same_changed f g same (suc i) (x ∷ xs) = ap (λ l. f x ∷ l) (same_changed f g same i xs)

-- a change that is seen as another
seen_changed : {A B : Type 0} (f : A → B) (g : A → A) (h : B → B) → ((x : A) → f (g x) ≡ h (f x)) → (i : ℕ) (xs : List A) → map f (changed_at i g xs) ≡ changed_at i h (map f xs)
seen_changed f g h so i [] = refl
seen_changed f g h so zero (x ∷ xs) = ap (λ y. y ∷ map f xs) (so x)
seen_changed f g h so (suc i) (x ∷ xs) = ap (λ l. f x ∷ l) (seen_changed f g h so i xs)

-- room is not seen
pub bare_room : (journals : List (List Journal)) (place room : ℕ) → bare (with_current place (with_room room) journals) ≡ bare journals
bare_room journals place room = same_changed (map (with_room 0)) (with_last (with_room room)) (λ history. same_changed (with_room 0) (with_room room) (λ journal. refl) (length history - 1) history) place journals

-- an entry is
pub bare_entry : (journals : List (List Journal)) (place : ℕ) (entry : Entry) → bare (with_current place (with_entry entry) journals) ≡ with_current place (with_entry entry) (bare journals)
bare_entry journals place entry = seen_changed (map (with_room 0)) (with_last (with_entry entry)) (with_last (with_entry entry)) (λ history. seen_changed (with_room 0) (with_entry entry) (with_entry entry) (λ journal. refl) (length history - 1) history ∙ ap (λ n. changed_at (n - 1) (with_entry entry) (map (with_room 0) history)) (sym (length-map history (with_room 0)))) place journals

seen_last : (history : List Journal) → last_of (map (with_room 0) history) ≡ option_map (with_room 0) (last_of history)
seen_last history = ap (λ n. slice_get (map (with_room 0) history) (n - 1)) (length-map history (with_room 0)) ∙ slice_get-map (with_room 0) history (length history - 1)

pub current_bare : (journals : List (List Journal)) (place : ℕ) → current (bare journals) place ≡ option_map (with_room 0) (current journals place)
current_bare [] place = refl
current_bare (history ∷ journals) zero = seen_last history
current_bare (history ∷ journals) (suc place) = current_bare journals place

seen_entries : (journal : Option Journal) → entries_of (option_map (with_room 0) journal) ≡ entries_of journal
seen_entries None = refl
seen_entries (Some journal) = refl

seen_epoch : (journal : Option Journal) → epoch_of (option_map (with_room 0) journal) ≡ epoch_of journal
seen_epoch None = refl
seen_epoch (Some journal) = refl

pub number_bare : (journals : List (List Journal)) (place : ℕ) → last_number (bare journals) place ≡ last_number journals place
number_bare journals place = ap entries_of (current_bare journals place) ∙ seen_entries (current journals place)

pub epoch_bare : (journals : List (List Journal)) (place : ℕ) → epoch_at (bare journals) place ≡ epoch_at journals place
epoch_bare journals place = ap epoch_of (current_bare journals place) ∙ seen_epoch (current journals place)

pub length_bare : (journals : List (List Journal)) → length (bare journals) ≡ length journals
length_bare journals = length-map journals (map (with_room 0))

-- a journal more
pub bare_renewed : (journals : List (List Journal)) (place : ℕ) (journal : Journal) → bare (renewed place journal journals) ≡ renewed place (with_room 0 journal) (bare journals)
bare_renewed journals place journal = seen_changed (map (with_room 0)) (λ history. history ++ journal ∷ []) (λ history. history ++ with_room 0 journal ∷ []) (λ history. map-append (with_room 0) history (journal ∷ [])) place journals
