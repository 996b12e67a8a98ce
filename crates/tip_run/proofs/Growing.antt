-- What a pass notes of a realm's journals, as they grow.
use Rattle.std.proofs.Common.{◌≡◌, ◌≢◌, ◌<◌, ◌+◌, ◌-◌, ◌++◌, ◌∷◌, ◌∙◌, ℕ, suc, Bool, true, false, cond, List, [], Option, Some, None, length, length-append, map, append-nil, append_assoc, arith, inl, inr, refl, ap, subst, sym}
use Rattle.std.specs.Prelude.{◌==◌, IsSomeAnd, filter, option_map, slice_get, unwrap_or}
use Rattle.std.specs.Cmp.{unsigned_Decides}
use Rattle.std.specs.List.{enumerate_from, flat_map}
use Rattle.std.specs.Option.{option_and_then}
use Rattle.std.proofs.lemmas.Bool.{cases_eq}
use Rattle.std.proofs.lemmas.List.{map-append}
use Rattle.std.proofs.lemmas.List.Elements.{filter-append}
use Rattle.std.proofs.lemmas.Option.{none-some, same_Some}
use Rattle.std.proofs.lemmas.List.Concat.{flat_map-append, flat_map-cons}
use Rattle.tip_honest.proofs.Chained.{last_behind}
use Rattle.tip_honest.specs.Honesty.{Journal}
use Rattle.tip_honest.specs.declared.entry.Entry.{Entry}
use Rattle.tip_host.specs.Entries.{Enters, Noted, bare}
use Rattle.tip_journal.proofs.HistoryLemmas.{length-changed_at, slice_get-changed_at, slice_get-changed_other}
use Rattle.tip_journal.specs.Journal.{begun, with_entry}
use Rattle.tip_journal.specs.Journals.{current, entries_of, epoch_at, epoch_of, last_number, last_of, renewed, with_last}
use Rattle.tip_machine.specs.Recovery.{Loaded}
use Rattle.tip_run.specs.Running.{Running, earlier_of, journals_of}
use Rattle.tip_run.specs.Runs.{HasNoted, notes_in, notes_of}

-- of all journals of a realm that is there
abbrev pub all_notes : ℕ → List Journal → List Noted
all_notes place journals = flat_map (notes_in place) journals

-- the entry with the next number of a realm's last journal
abbrev pub next_note : ℕ → List Journal → Entry → Noted
next_note place own entry = record { realm = place; epoch = epoch_of (last_of own); number = entries_of (last_of own) + 1; entry = entry }

numbered : (n : ℕ) (entries : List Entry) (entry : Entry) → enumerate_from n (entries ++ entry ∷ []) ≡ enumerate_from n entries ++ (n + length entries, entry) ∷ []
numbered n [] entry = let e : n ≡ n + 0 = omega arith in ap (λ k. (k, entry) ∷ []) e
numbered n (first ∷ entries) entry =
    let e : n + 1 + length entries ≡ n + suc (length entries) = omega arith in
    ap (λ l. (n, first) ∷ l) (numbered (n + 1) entries entry ∙ ap (λ k. enumerate_from (n + 1) entries ++ (k, entry) ∷ []) e)

entry_noted : (place : ℕ) (journal : Journal) (entry : Entry) → notes_in place (with_entry entry journal) ≡ notes_in place journal ++ record { realm = place; epoch = journal.epoch; number = length journal.entries + 1; entry = entry } ∷ []
entry_noted place journal entry =
    let e : 1 + length journal.entries ≡ length journal.entries + 1 = omega arith in
    ap (map (λ (n : ℕ × Entry). record { realm = place; epoch = journal.epoch; number = n.0; entry = n.1 })) (numbered 1 journal.entries entry)
    ∙ map-append _ (enumerate_from 1 journal.entries) ((1 + length journal.entries, entry) ∷ [])
    ∙ ap (λ k. notes_in place journal ++ record { realm = place; epoch = journal.epoch; number = k; entry = entry } ∷ []) e

alone : (place : ℕ) (journal : Journal) → all_notes place (journal ∷ []) ≡ notes_in place journal
alone place journal = flat_map-cons (notes_in place) journal [] ∙ append-nil (notes_in place journal)

last_behind_one : (first next : Journal) (rest : List Journal) → last_of (first ∷ next ∷ rest) ≡ last_of (next ∷ rest)
last_behind_one first next rest =
    let place : length (first ∷ next ∷ rest) - 1 ≡ suc (length (next ∷ rest) - 1) = omega arith in
    ap (slice_get (first ∷ next ∷ rest)) place

-- an entry more is a note more
pub last_noted : (place : ℕ) (own : List Journal) (entry : Entry) → 0 < length own → all_notes place (with_last (with_entry entry) own) ≡ all_notes place own ++ next_note place own entry ∷ []
last_noted place [] entry some = absurd (omega (arith, some))
last_noted place (journal ∷ []) entry some =
    alone place (with_entry entry journal) ∙ entry_noted place journal entry
    ∙ ap (λ l. l ++ next_note place (journal ∷ []) entry ∷ []) (sym (alone place journal))
last_noted place (first ∷ next ∷ rest) entry some =
    ap (all_notes place) (last_behind (with_entry entry) (first ∷ []) (next ∷ rest) (omega arith))
    ∙ flat_map-cons (notes_in place) first (with_last (with_entry entry) (next ∷ rest))
    ∙ ap (λ l. notes_in place first ++ l) (last_noted place (next ∷ rest) entry (omega arith))
    ∙ sym (append_assoc (notes_in place first) (all_notes place (next ∷ rest)) _)
    ∙ ap (λ l. l ++ next_note place (next ∷ rest) entry ∷ []) (sym (flat_map-cons (notes_in place) first (next ∷ rest)))
    ∙ ap (λ last. all_notes place (first ∷ next ∷ rest) ++ record { realm = place; epoch = epoch_of last; number = entries_of last + 1; entry = entry } ∷ []) (sym (last_behind_one first next rest))

-- a journal that begins has none
pub begun_noted : (place : ℕ) (journals : List Journal) (epoch : ℕ) (start : List Loaded) → all_notes place (journals ++ begun epoch start ∷ []) ≡ all_notes place journals
begun_noted place journals epoch start =
    flat_map-append (notes_in place) journals (begun epoch start ∷ []) ∙ ap (λ l. all_notes place journals ++ l) (alone place (begun epoch start)) ∙ append-nil (all_notes place journals)

-- Growing

-- is it of the realm at this place?
abbrev pub own_in : ℕ → List Noted → List Noted
own_in place gained = filter (λ (noted : Noted). noted.realm == place) gained

-- the journals of the realm at a place have these entries more
abbrev pub GrowsAt : ℕ → List Noted → Option (List Journal) → Option (List Journal) → Type 0
GrowsAt place gained None None = own_in place gained ≡ []
GrowsAt place gained None (Some own') = ⊥
GrowsAt place gained (Some own) None = ⊥
GrowsAt place gained (Some own) (Some own') = (0 < length own → 0 < length own') × (all_notes place own' ≡ all_notes place own ++ own_in place gained)

pub record Grow (old new : List (List Journal)) (noted noted' : List Noted) : Type 0 where
  pub gained : List Noted
  pub pass : noted' ≡ noted ++ gained
  pub at : (place : ℕ) → GrowsAt place gained (slice_get old place) (slice_get new place)

-- as they are
still_at : (place : ℕ) (gained : List Noted) (found : Option (List Journal)) → own_in place gained ≡ [] → GrowsAt place gained found found
still_at place gained None none = none
still_at place gained (Some own) none = (λ some. some, sym (append-nil (all_notes place own)) ∙ ap (λ l. all_notes place own ++ l) (sym none))

pub grow_still : (journals : List (List Journal)) (noted : List Noted) → Grow journals journals noted noted
grow_still journals noted = record { gained = []; pass = sym (append-nil noted); at = λ place. still_at place [] (slice_get journals place) refl }

itself : (place : ℕ) → (place == place) ≡ true
itself place = (unsigned_Decides place place).1 refl

another : (place other : ℕ) → other ≢ place → (place == other) ≡ false
another place other differ = by (place == other) refl where
  by : (b : Bool) → (place == other) ≡ b → b ≡ false
  by true same = absurd (differ (sym ((unsigned_Decides place other).0 same)))
  by false same = refl

some_still : (own : List Journal) (entry : Entry) → 0 < length own → 0 < length (with_last (with_entry entry) own)
some_still own entry some = omega (arith, length-changed_at own (length own - 1) (with_entry entry), some)

-- an entry more of the realm at a place
grown_own : (place : ℕ) (entry : Entry) (epoch number : ℕ) (found : Option (List Journal)) → found ≢ None → ((own : List Journal) → found ≡ Some own → (0 < length own) × (epoch ≡ epoch_of (last_of own)) × (number ≡ entries_of (last_of own) + 1)) →
    GrowsAt place (record { realm = place; epoch = epoch; number = number; entry = entry } ∷ []) found (option_map (with_last (with_entry entry)) found)
grown_own place entry epoch number None there is = absurd (there refl)
grown_own place entry epoch number (Some own) there is =
    let parts = is own refl in (
      some_still own entry,
      last_noted place own entry parts.0
          ∙ (λ i. all_notes place own ++ record { realm = place; epoch = sym parts.1 i; number = sym parts.2 i; entry = entry } ∷ [])
          ∙ ap (λ b. all_notes place own ++ cond b (record { realm = place; epoch = epoch; number = number; entry = entry } ∷ []) []) (sym (itself place)),
    )

module _ (old new : List (List Journal)) (noted noted' : List Noted) (place : ℕ) where
  -- AN EVENT of a realm that is there and is not frozen
  pub grow_event : (took : Bool) (entry : Entry) (number : Option ℕ) → Enters took old new noted noted' place entry number → (took ≡ true → IsSomeAnd (slice_get old place) (λ own. 0 < length own)) → Grow old new noted noted'
  grow_event false entry number enters some = record {
    gained = [];
    pass = enters.1 ∙ sym (append-nil noted);
    at = λ other. subst (λ js. GrowsAt other [] (slice_get old other) (slice_get js other)) (sym enters.0) (still_at other [] (slice_get old other) refl);
  }
  grow_event true entry number enters some = record {
    gained = note ∷ [];
    pass = enters.1;
    at = λ other. elim (cases_eq other place) [
      | inl same ↦ subst (λ p. GrowsAt p (note ∷ []) (slice_get old p) (slice_get new p)) (sym same) here
      | inr differ ↦ subst (GrowsAt other (note ∷ []) (slice_get old other)) (sym (ap (λ js. slice_get js other) enters.0 ∙ slice_get-changed_other old place other (with_last (with_entry entry)) differ))
          (still_at other (note ∷ []) (slice_get old other) (ap (λ b. cond b (note ∷ []) []) (another place other differ)))
    ];
  } where
    note : Noted
    note = record { realm = place; epoch = epoch_at old place; number = last_number old place + 1; entry = entry }

    there : (found : Option (List Journal)) → IsSomeAnd found (λ own. 0 < length own) → found ≢ None
    there None is = absurd is
    there (Some own) is = λ none. none-some own (sym none)

    has : (found : Option (List Journal)) → slice_get old place ≡ found → IsSomeAnd found (λ own. 0 < length own) → (own : List Journal) → found ≡ Some own → (0 < length own) × (note.epoch ≡ epoch_of (last_of own)) × (note.number ≡ entries_of (last_of own) + 1)
    has None at is own same = absurd is
    has (Some found) at is own same =
        let last : current old place ≡ last_of own = ap (λ f. option_and_then last_of f) (at ∙ same) in
        (subst (λ (f : List Journal). 0 < length f) (same_Some found own same) is, ap epoch_of last, ap (λ j. entries_of j + 1) last)

    here : GrowsAt place (note ∷ []) (slice_get old place) (slice_get new place)
    here =
        let is = some refl in
        subst (GrowsAt place (note ∷ []) (slice_get old place)) (sym (ap (λ js. slice_get js place) enters.0 ∙ slice_get-changed_at old place (with_last (with_entry entry))))
        (grown_own place entry note.epoch note.number (slice_get old place) (there (slice_get old place) is) (has (slice_get old place) refl is))

  -- A RENEWAL begins a journal, which has no entry
  pub grow_renewal : (epoch : ℕ) (start : List Loaded) → new ≡ renewed place (begun epoch start) old → noted' ≡ noted → Grow old new noted noted'
  grow_renewal epoch start is same = record {
    gained = [];
    pass = same ∙ sym (append-nil noted);
    at = λ other. elim (cases_eq other place) [
      | inl here ↦ subst (λ p. GrowsAt p [] (slice_get old p) (slice_get new p)) (sym here) (subst (GrowsAt place [] (slice_get old place)) (sym (ap (λ js. slice_get js place) is ∙ slice_get-changed_at old place begins)) (own (slice_get old place)))
      | inr differ ↦ subst (GrowsAt other [] (slice_get old other)) (sym (ap (λ js. slice_get js other) is ∙ slice_get-changed_other old place other begins differ)) (still_at other [] (slice_get old other) refl)
    ];
  } where
    begins : List Journal → List Journal
    begins history = history ++ begun epoch start ∷ []

    own : (found : Option (List Journal)) → GrowsAt place [] found (option_map begins found)
    own None = refl
    own (Some history) = (λ some. omega (arith, length-append history (begun epoch start ∷ []), some), begun_noted place history epoch start ∙ sym (append-nil (all_notes place history)))

-- other realms' journals stay at an event
pub others_stay : (took : Bool) (old new : List (List Journal)) (noted noted' : List Noted) (place : ℕ) (entry : Entry) (number : Option ℕ) → Enters took old new noted noted' place entry number → (other : ℕ) → other ≢ place → slice_get new other ≡ slice_get old other
others_stay false old new noted noted' place entry number enters other differ = ap (λ js. slice_get js other) enters.0
others_stay true old new noted noted' place entry number enters other differ = ap (λ js. slice_get js other) enters.0 ∙ slice_get-changed_other old place other (with_last (with_entry entry)) differ

-- With earlier journals in front

behind : (place : ℕ) (gained : List Noted) (earlier : List Journal) (found found' : Option (List Journal)) → GrowsAt place gained found found' →
    notes_of place (option_map (λ own. earlier ++ own) found') ≡ notes_of place (option_map (λ own. earlier ++ own) found) ++ own_in place gained
behind place gained earlier None None none = sym none
behind place gained earlier None (Some own') is = absurd is
behind place gained earlier (Some own) None is = absurd is
behind place gained earlier (Some own) (Some own') is =
    flat_map-append (notes_in place) earlier own'
    ∙ ap (λ l. all_notes place earlier ++ l) is.1
    ∙ sym (append_assoc (all_notes place earlier) (all_notes place own) (own_in place gained))
    ∙ ap (λ l. l ++ own_in place gained) (sym (flat_map-append (notes_in place) earlier own))

pub has_noted : {S : Type 0} (old new : Running S) → Grow (bare old.host.books.journals) (bare new.host.books.journals) old.noted new.noted → new.earlier ≡ old.earlier → HasNoted old new
has_noted old new grow same = record {
  gained = grow.gained;
  pass = grow.pass;
  own = λ place.
      ap (λ e. notes_of place (option_map (λ own. earlier_of e place ++ own) (slice_get (bare new.host.books.journals) place))) same
      ∙ behind place grow.gained (earlier_of old.earlier place) (slice_get (bare old.host.books.journals) place) (slice_get (bare new.host.books.journals) place) (grow.at place);
}

-- a process more is behind the earlier ones
pub earlier_more : (earlier : List (List (List Journal))) (last : List (List Journal)) (place : ℕ) → earlier_of (earlier ++ last ∷ []) place ≡ earlier_of earlier place ++ unwrap_or (slice_get (bare last) place) []
earlier_more earlier last place =
    flat_map-append (λ js. unwrap_or (slice_get (bare js) place) []) earlier (last ∷ [])
    ∙ ap (λ l. earlier_of earlier place ++ l) (flat_map-cons (λ js. unwrap_or (slice_get (bare js) place) []) last [] ∙ append-nil (unwrap_or (slice_get (bare last) place) []))

-- where nothing is entered
pub noted_still : {S : Type 0} (old new : Running S) → bare new.host.books.journals ≡ bare old.host.books.journals → new.noted ≡ old.noted → new.earlier ≡ old.earlier → HasNoted old new
noted_still old new journals noted earlier = has_noted old new (subst (λ js. Grow (bare old.host.books.journals) js old.noted new.noted) (sym journals) (subst (Grow (bare old.host.books.journals) (bare old.host.books.journals) old.noted) (sym noted) (grow_still (bare old.host.books.journals) old.noted))) earlier

-- one after another
pub noted_on : {S : Type 0} (old between new : Running S) → HasNoted old between → HasNoted between new → HasNoted old new
noted_on old between new first later = record {
  gained = first.gained ++ later.gained;
  pass = later.pass ∙ ap (λ l. l ++ later.gained) first.pass ∙ append_assoc old.noted first.gained later.gained;
  own = λ place.
      later.own place ∙ ap (λ l. l ++ own_in place later.gained) (first.own place)
      ∙ append_assoc (notes_of place (journals_of old place)) (own_in place first.gained) (own_in place later.gained)
      ∙ ap (λ l. notes_of place (journals_of old place) ++ l) (sym (filter-append (λ (noted : Noted). noted.realm == place) first.gained later.gained));
}

pub noted_none : {S : Type 0} (running : Running S) → HasNoted running running
noted_none running = record { gained = []; pass = sym (append-nil running.noted); own = λ place. sym (append-nil (notes_of place (journals_of running place))) }
