-- A line as far as it was read, and what of a buffer is more of it.
use Rattle.std.proofs.Common.{◌≡◌, ◌≤◌, ◌<◌, ◌+◌, ◌-◌, ◌++◌, ◌∷◌, [], ℕ, zero, suc, List, length, take, true, cond, None, Some, OnSome, Option, Ok, IfSome, arith, refl, ap, sym, subst, ◌∙◌, append_assoc, length-append, length-take-le, inl, inr}
use Rattle.std.proofs.lemmas.Bool.{cases_Bool}
use Rattle.std.specs.Prelude.{◌==◌, not, slice_index, is_some}
use Rattle.std.specs.List.{list_all}
use Rattle.std.specs.Io.KnownBytes.{Consumes, IsAtEnd, Keeps}
use Rattle.std.proofs.KnownBytes.{Consumes-kept, Consumes-trans, Consumes-whole}
use Rattle.std.proofs.lemmas.List.{take_more}
use Rattle.std.proofs.lemmas.List.Folds.{list_all-append, list_all_more}
use Rattle.memchr.specs.Find.{Nowhere, Passes, is_byte}
use Rattle.script_lines.specs.Lines.{AreOfLine, IsFront, Reads, ReadsOn, HasRead, is_inner, longest_line}
use Rattle.script_lines.specs.declared.line.LineEnd.{LineEnd}
use Rattle.script_lines.specs.declared.line.LineEnd.TheVariants.{LineFeed, EndOfInput, TooLong}

-- Before the first line feed

module _ (buffer : List ℕ) (end : ℕ) (none : Nowhere (Passes (is_byte 10) buffer) 0 end) where
  pub inner_at : (k : ℕ) → k < end → is_inner (slice_index buffer k) ≡ true
  inner_at k before = elim (cases_Bool (slice_index buffer k == 10)) [
    | inl feed ↦ absurd (none k (omega arith) before feed)
    | inr other ↦ ap not other
  ]

  pub inner_front : (k : ℕ) → k ≤ end → end ≤ length buffer → list_all is_inner (take k buffer) ≡ true
  inner_front zero before within = refl
  inner_front (suc k) before within = let more : suc k ≡ k + 1 = omega arith in
      ap (λ n. list_all is_inner (take n buffer)) more ∙ list_all_more is_inner buffer k 0 (omega arith) ∙ rw (inner_front k (omega arith) within, inner_at k (omega arith)) refl

-- A whole input

-- what is left of a known input is known, so its end is
pub known_end : (whole left left' : Option (List ℕ)) (read : List ℕ) → Consumes whole left read → OnSome left (IsAtEnd left') → OnSome whole (IsAtEnd left')
known_end None left left' read taken end = tt
known_end (Some xs) None left' read taken end = absurd taken
known_end (Some xs) (Some ys) left' read taken end = end

-- it was read whole
pub whole_read : (whole left : Option (List ℕ)) (read : List ℕ) (P : List ℕ → Type 0) → Consumes whole left read → OnSome whole (IsAtEnd left) → P read → IfSome whole P
whole_read None left read P taken end is = tt
whole_read (Some xs) left read P taken end is = Consumes-whole (Some xs) left read P taken end is

-- The end of the input

at_end : (old new : Option (List ℕ)) (shown : List ℕ) → Keeps old new → IfSome old (λ xs. length shown ≡ 0 → xs ≡ []) → length shown ≡ 0 → OnSome old (IsAtEnd new)
at_end None new shown kept end none = tt
at_end (Some xs) None shown kept end none = absurd kept
at_end (Some xs) (Some ys) shown kept end none = kept ∙ end none

pub ends : (start old new : Option (List ℕ)) (line shown : List ℕ) → Keeps old new → IfSome old (λ xs. length shown ≡ 0 → xs ≡ []) → length shown ≡ 0 → HasRead start old line → Reads start new line (Ok EndOfInput)
ends start old new line shown kept end none so = (so.0, Consumes-kept start old new line so.1 kept, known_end start old new line so.1 (at_end old new shown kept end none))

-- What a buffer has of it

module _ (start mid new : Option (List ℕ)) (line buffer : List ℕ) (count room : ℕ) (short : length line ≤ longest_line) (left : room ≡ longest_line - length line) where
  abbrev pub more : List ℕ
  more = take count buffer

  grown : (end : Option LineEnd) → IsFront buffer room count end → HasRead start mid line → AreOfLine (line ++ more)
  grown end front so = record {
    inner = list_all-append is_inner line more ∙ rw (so.0.inner, front.2) refl;
    short = let few = front.1 in let long = length-take-le count buffer front.0 in omega (arith, length-append line more, long, few, left, short);
  }

  -- with the octet behind it
  taken_with : HasRead start mid line → count < length buffer → Consumes mid new (take (count + 1) buffer) → Consumes start new ((line ++ more) ++ slice_index buffer count ∷ [])
  taken_with so at taken =
      subst (Consumes start new) (sym (append_assoc line more (slice_index buffer count ∷ [])))
      (Consumes-trans start mid new line (more ++ slice_index buffer count ∷ []) so.1 (subst (Consumes mid new) (take_more buffer count 0 at) taken))

  -- so much of the buffer was taken
  pub is_within : (end : Option LineEnd) → IsFront buffer room count end → cond (is_some end) (count + 1) count ≤ length buffer
  is_within None front = front.0
  is_within (Some LineFeed) front = let at = front.3.0 in omega (arith, at)
  is_within (Some TooLong) front = let at = front.3.0 in omega (arith, at)
  is_within (Some EndOfInput) front = absurd front.3

  -- what was read on
  pub reads_on : (end : Option LineEnd) → IsFront buffer room count end → 0 < length buffer → HasRead start mid line → Consumes mid new (take (cond (is_some end) (count + 1) count) buffer) → ReadsOn start new line (line ++ more) (Ok end)
  reads_on None front some so taken = ((grown None front so, Consumes-trans start mid new line more so.1 taken), let long = length-take-le count buffer front.0 in omega (arith, length-append line more, long, front.3, some))
  reads_on (Some LineFeed) front some so taken = (grown (Some LineFeed) front so, subst (λ o. Consumes start new ((line ++ more) ++ o ∷ [])) front.3.1 (taken_with so front.3.0 taken))
  reads_on (Some TooLong) front some so taken = (
    grown (Some TooLong) front so,
    record {
      octet = slice_index buffer count;
      inner = front.3.2;
      full = let long = length-take-le count buffer front.0 in omega (arith, length-append line more, long, front.3.1, left, short);
      taken = taken_with so front.3.0 taken;
    },
  )
  reads_on (Some EndOfInput) front some so taken = absurd front.3
