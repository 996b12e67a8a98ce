-- What a stream gives is one list, and how it goes on behind a line.
use Rattle.std.proofs.Common.{◌≡◌, ℕ, ◌+◌, ◌<◌, ◌≤◌, List, [], ◌∷◌, ◌++◌, length, take, drop, slice_index, true, false, inl, Some, None, refl, sym, ap, ◌∙◌, subst, arith}
use Rattle.std.specs.List.{list_all}
use Rattle.std.proofs.lemmas.Bool.{false≢true}
use Rattle.std.proofs.lemmas.List.{append-nil, append_assoc, append_cancel_left, length-take-le, length-drop}
use Rattle.tip_line.specs.Octets.{is_end, is_space, IsWithin, text_of}
use Rattle.tip_line.specs.Stops.{IsCause, StopsAt}
use Rattle.tip_line.specs.Reading.{Item, Text, Bad, said, Reads, unended, ended, faulty, Leaves, Gives}
use Rattle.tip_line.specs.Buffered.{FoundAt}
use Rattle.tip_line.specs.declared.lines.Cause.{Cause}
use Rattle.tip_line.specs.declared.buffer.Found.{Found}
use Rattle.tip_line.specs.declared.buffer.Found.TheVariants.{Nothing, Line, Fault}
use Rattle.tip_line.specs.declared.buffer.Stop.TheVariants as stop
use Rattle.tip_line.proofs.StopLemmas.{end_stops, cause_stops, one_stop, no_stop, parts_at}

-- behind a line that has ended
pub record GoesOn (line rest : List ℕ) (items : List Item) : Type 0 where
  pub later : List Item
  pub items_are : items ≡ said line ++ later
  pub reads : Reads rest later

pub goes_on : {octets : List ℕ} {items : List Item} → Reads octets items → (line rest : List ℕ) (octet : ℕ) → IsWithin line → is_end octet ≡ true → octets ≡ line ++ octet ∷ rest → GoesOn line rest items
goes_on (unended line' w') line rest octet w end e = absurd (no_stop line octet rest (subst IsWithin e w') (inl (end_stops octet end)))
goes_on (ended line' rest' octet' items' w' end' r) line rest octet w end e =
    let s = one_stop line' line octet' octet rest' rest w' w (inl (end_stops octet' end')) (inl (end_stops octet end)) e in
    record { later = items'; items_are = ap (λ l. said l ++ items') s.0; reads = subst (λ r. Reads r items') s.2 r }
goes_on (faulty line' rest' octet' cause w' no_end is_cause) line rest octet w end e =
    let s = one_stop line' line octet' octet rest' rest w' w (cause_stops (length line') octet' cause is_cause) (inl (end_stops octet end)) e in
    absurd (false≢true (sym no_end ∙ ap is_end s.1 ∙ end))

-- a stream whose first line is stopped by no end gives something
never_nothing : {octets : List ℕ} {items : List Item} → Reads octets items → items ≡ [] → (line rest : List ℕ) (octet : ℕ) (cause : Cause) → IsWithin line → is_end octet ≡ false → IsCause (length line) octet cause → octets ≡ line ++ octet ∷ rest → ⊥
never_nothing (unended line' w') none line rest octet cause w no_end is_cause e = no_stop line octet rest (subst IsWithin e w') (cause_stops (length line) octet cause is_cause)
never_nothing (ended line' rest' octet' items' w' end' r) none line rest octet cause w no_end is_cause e =
    let s = one_stop line' line octet' octet rest' rest w' w (inl (end_stops octet' end')) (cause_stops (length line) octet cause is_cause) e in
    false≢true (sym no_end ∙ ap is_end (sym s.1) ∙ end')
never_nothing (faulty line' rest' octet' cause' w' no_end' is_cause') none line rest octet cause w no_end is_cause e = cc

pub leaves_same : (octets : List ℕ) → Leaves octets [] octets
leaves_same octets = record { same = λ more later. (λ r. r, λ r. r) }

pub leaves_after : (a b : List ℕ) (items : List Item) (c : List ℕ) → Leaves a [] b → Leaves b items c → Leaves a items c
leaves_after a b items c ab bc = record { same = λ more later. (λ r. (ab.same more (items ++ later)).0 ((bc.same more later).0 r), λ r. (bc.same more later).1 ((ab.same more (items ++ later)).1 r)) }

pub leaves_more : (a b piece : List ℕ) → Leaves a [] b → Leaves (a ++ piece) [] (b ++ piece)
leaves_more a b piece ab = record {
  same = λ more later. (
    λ r. subst (λ s. Reads s later) (sym (append_assoc a piece more)) ((ab.same (piece ++ more) later).0 (subst (λ s. Reads s later) (append_assoc b piece more) r)),
    λ r. subst (λ s. Reads s later) (sym (append_assoc b piece more)) ((ab.same (piece ++ more) later).1 (subst (λ s. Reads s later) (append_assoc a piece more) r)),
  );
}

leaves_behind : (line rest : List ℕ) (octet : ℕ) → IsWithin line → is_end octet ≡ true → Leaves (line ++ octet ∷ rest) (said line) rest
leaves_behind line rest octet w end = record {
  same = λ more later.
      let regroup = append_assoc line (octet ∷ rest) more in (
        λ r. subst (λ s. Reads s (said line ++ later)) (sym regroup) (ended line (rest ++ more) octet later w end r),
        λ r. let g = goes_on (subst (λ s. Reads s (said line ++ later)) regroup r) line (rest ++ more) octet w end refl in
            subst (λ items. Reads (rest ++ more) items) (sym (append_cancel_left (said line) later g.later g.items_are)) g.reads,
      );
}

-- behind the line that ends at a place
pub leaves_line : (octets : List ℕ) (at : ℕ) → StopsAt octets (stop.Ended at) → Leaves octets (said (take at octets)) (drop (at + 1) octets)
leaves_line octets at s = subst (λ o. Leaves o (said (take at octets)) (drop (at + 1) octets)) (sym (parts_at octets at s.0)) (leaves_behind (take at octets) (drop (at + 1) octets) (slice_index octets at) s.1 s.2)

said_blank : (line : List ℕ) → list_all is_space line ≡ true → said line ≡ []
said_blank line h = rw h

said_text : (line : List ℕ) → list_all is_space line ≡ false → said line ≡ Text (text_of line) ∷ []
said_text line h = rw h

pub leaves_blank : (octets : List ℕ) (at : ℕ) → StopsAt octets (stop.Ended at) → list_all is_space (take at octets) ≡ true → Leaves octets [] (drop (at + 1) octets)
leaves_blank octets at s h = subst (λ items. Leaves octets items (drop (at + 1) octets)) (said_blank (take at octets) h) (leaves_line octets at s)

pub leaves_text : (octets : List ℕ) (at : ℕ) → StopsAt octets (stop.Ended at) → list_all is_space (take at octets) ≡ false → Leaves octets (Text (text_of (take at octets)) ∷ []) (drop (at + 1) octets)
leaves_text octets at s h = subst (λ items. Leaves octets items (drop (at + 1) octets)) (said_text (take at octets) h) (leaves_line octets at s)

-- a fault is read whatever follows
pub reads_fault : (octets : List ℕ) (cause : Cause) → StopsAt octets (stop.Fault cause) → (more : List ℕ) → Reads (octets ++ more) (Bad cause ∷ [])
reads_fault octets cause s more =
    let at = s.0 in
    let regroup : octets ++ more ≡ take at octets ++ slice_index octets at ∷ (drop (at + 1) octets ++ more) = ap (λ o. o ++ more) (parts_at octets at s.1) ∙ append_assoc (take at octets) (slice_index octets at ∷ drop (at + 1) octets) more in
    subst (λ o. Reads o (Bad cause ∷ [])) (sym regroup)
    (faulty (take at octets) (drop (at + 1) octets ++ more) (slice_index octets at) cause s.2 s.3 (subst (λ n. IsCause n (slice_index octets at) cause) (sym (length-take-le at octets (omega (arith, s.1)))) s.4))

-- where a line has come whole, or a fault, something is read
pub line_is_read : (octets : List ℕ) (len : ℕ) → FoundAt octets (Line len) → ¬ Reads octets []
line_is_read octets len f r =
    let g = goes_on r (take len octets) (drop (len + 1) octets) (slice_index octets len) f.0.1 f.0.2 (parts_at octets len f.0.0) in
    let said_is = said_text (take len octets) f.1 in
    let nothing : [] ≡ Text (text_of (take len octets)) ∷ g.later = g.items_are ∙ ap (λ items. items ++ g.later) said_is in
    cc

pub fault_is_read : (octets : List ℕ) (cause : Cause) → FoundAt octets (Fault cause) → ¬ Reads octets []
fault_is_read octets cause f r =
    never_nothing r refl (take f.0 octets) (drop (f.0 + 1) octets) (slice_index octets f.0) cause f.2 f.3 (subst (λ n. IsCause n (slice_index octets f.0) cause) (sym (length-take-le f.0 octets (omega (arith, f.1)))) f.4) (parts_at octets f.0 f.1)

-- where nothing is read, no line has come whole
pub open_where_nothing : (octets : List ℕ) (found : Found) → FoundAt octets found → Reads octets [] → IsWithin octets
open_where_nothing octets Nothing f r = f
open_where_nothing octets (Line len) f r = absurd (line_is_read octets len f r)
open_where_nothing octets (Fault cause) f r = absurd (fault_is_read octets cause f r)

-- nothing is read of either, where one leaves the other
pub nothing_left : (old new : List ℕ) → Leaves old [] new → Reads old [] → Reads new []
nothing_left old new leaves r = subst (λ o. Reads o []) (append-nil new) ((leaves.same [] []).1 (subst (λ o. Reads o []) (sym (append-nil old)) r))

-- what a reader gives, by what it finds behind the blank lines
pub gives_nothing : (old new : List ℕ) → Leaves old [] new → IsWithin new → Gives old None new
gives_nothing old new leaves w = (subst (λ o. Reads o []) (append-nil old) ((leaves.same [] []).0 (subst (λ o. Reads o []) (sym (append-nil new)) (unended new w))), leaves)

pub gives_fault : (old new : List ℕ) (cause : Cause) → Leaves old [] new → StopsAt new (stop.Fault cause) → Gives old (Some (Bad cause)) new
gives_fault old new cause leaves s = (λ more. (leaves.same more (Bad cause ∷ [])).0 (reads_fault new cause s more), leaves)

pub gives_line : (old new : List ℕ) (len : ℕ) → Leaves old [] new → length new ≤ length old → StopsAt new (stop.Ended len) → list_all is_space (take len new) ≡ false → Gives old (Some (Text (text_of (take len new)))) (drop (len + 1) new)
gives_line old new len leaves fewer s h =
    let more : len < length new = s.0 in
    (leaves_after old new (Text (text_of (take len new)) ∷ []) (drop (len + 1) new) leaves (leaves_text new len s h), rw length-drop (omega arith))
