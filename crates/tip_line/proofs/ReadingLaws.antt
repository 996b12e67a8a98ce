-- A stream of octets gives one list of lines.
use Rattle.std.proofs.Common.{◌≡◌, ℕ, ◌<◌, ◌≤◌, List, [], ◌∷◌, ◌++◌, length, Bool, true, false, ◌==◌, inl, refl, sym, ap, ◌∙◌, subst, arith}
use Rattle.std.proofs.lemmas.Bool.{false≢true}
use Rattle.std.proofs.lemmas.Bool.Decides.{nat_tests}
use Rattle.std.proofs.lemmas.List.{length-append, append_assoc, append-nil}
use Rattle.std.proofs.lemmas.List.Folds.{list_all-append}
use Rattle.tip_line.specs.Octets.{is_end, is_printable, IsWithin}
use Rattle.tip_line.specs.Stops.{IsCause}
use Rattle.tip_line.specs.Reading.{Item, Bad, said, items_from, items_of, Reads, unended, ended, faulty}
use Rattle.tip_line.specs.declared.lines.Cause.{Cause}
use Rattle.tip_line.specs.declared.lines.Cause.TheVariants.{TooLong, Octet}
use Rattle.tip_line.proofs.StopLemmas.{end_stops, cause_stops, one_stop, no_stop}
use Rattle.tip_line.proofs.ReadingLemmas.{goes_on}

not_full : (before : ℕ) → (before == 1024) ≡ false → before ≤ 1024 → before < 1024
not_full before h le = grind (arith, nat_tests)

full : (before : ℕ) → (before == 1024) ≡ true → before ≡ 1024
full before h = grind (arith, nat_tests)

one_more : (line : List ℕ) (octet : ℕ) → IsWithin line → (length line == 1024) ≡ false → is_printable octet ≡ true → IsWithin (line ++ octet ∷ [])
one_more line octet w l p =
    let less = not_full (length line) l w.short in
    record {
      printable = simp (list_all-append, w.printable, p);
      short = simp length-append (omega (arith, less));
    }

reads_at : (line : List ℕ) (octet : ℕ) (rest : List ℕ) → IsWithin line → (end long printable : Bool) → is_end octet ≡ end → (length line == 1024) ≡ long → is_printable octet ≡ printable → Reads rest (items_from [] rest) → (IsWithin (line ++ octet ∷ []) → Reads ((line ++ octet ∷ []) ++ rest) (items_from (line ++ octet ∷ []) rest)) → Reads (line ++ octet ∷ rest) (items_from line (octet ∷ rest))
reads_at line octet rest w true long printable e l p behind more = rw e (ended line rest octet (items_from [] rest) w e behind)
reads_at line octet rest w false true printable e l p behind more = rw (e, l) (faulty line rest octet TooLong w e (full (length line) l))
reads_at line octet rest w false false false e l p behind more = rw (e, l, p) (faulty line rest octet Octet w e ((λ same. let less = not_full (length line) l w.short in omega arith), p))
reads_at line octet rest w false false true e l p behind more = rw (e, l, p) (subst (λ o. Reads o (items_from (line ++ octet ∷ []) rest)) (append_assoc line (octet ∷ []) rest) (more (one_more line octet w l p)))

reads_from : (line octets : List ℕ) → IsWithin line → Reads (line ++ octets) (items_from line octets)
reads_from line [] w = rw append-nil (unended line w)
reads_from line (octet ∷ rest) w = reads_at line octet rest w (is_end octet) (length line == 1024) (is_printable octet) refl refl refl (reads_from [] rest (record { printable = refl; short = omega arith })) (λ within. reads_from (line ++ octet ∷ []) rest within)

-- each stream gives the items that are read from it octet by octet
pub reads_items : (octets : List ℕ) → Reads octets (items_of octets)
reads_items octets = reads_from [] octets (record { printable = refl; short = omega arith })

nothing_open : {octets : List ℕ} {items : List Item} → Reads octets items → IsWithin octets → items ≡ []
nothing_open (unended line w) within = refl
nothing_open (ended line rest octet items w end r) within = absurd (no_stop line octet rest within (inl (end_stops octet end)))
nothing_open (faulty line rest octet cause w no_end is) within = absurd (no_stop line octet rest within (cause_stops (length line) octet cause is))

one_cause : (len octet : ℕ) (this that : Cause) → IsCause len octet this → IsCause len octet that → this ≡ that
one_cause len octet TooLong TooLong a b = refl
one_cause len octet Octet Octet a b = refl
one_cause len octet TooLong Octet a b = absurd (b.0 a)
one_cause len octet Octet TooLong a b = absurd (a.0 b)

fault_only : {octets : List ℕ} {items : List Item} → Reads octets items → (line rest : List ℕ) (octet : ℕ) (cause : Cause) → IsWithin line → is_end octet ≡ false → IsCause (length line) octet cause → octets ≡ line ++ octet ∷ rest → items ≡ Bad cause ∷ []
fault_only (unended line' w') line rest octet cause w no_end is e = absurd (no_stop line octet rest (subst IsWithin e w') (cause_stops (length line) octet cause is))
fault_only (ended line' rest' octet' items w' end r) line rest octet cause w no_end is e =
    let s = one_stop line' line octet' octet rest' rest w' w (inl (end_stops octet' end)) (cause_stops (length line) octet cause is) e in
    absurd (false≢true (sym no_end ∙ ap is_end (sym s.1) ∙ end))
fault_only (faulty line' rest' octet' cause' w' no_end' is') line rest octet cause w no_end is e =
    let s = one_stop line' line octet' octet rest' rest w' w (cause_stops (length line') octet' cause' is') (cause_stops (length line) octet cause is) e in
    let here : IsCause (length line) octet cause' = subst (λ l. IsCause (length l) octet cause') s.0 (subst (λ o. IsCause (length line') o cause') s.1 is') in
    ap (λ c. Bad c ∷ []) (one_cause (length line) octet cause' cause here is)

-- and no other
pub reads_one : (octets : List ℕ) (these those : List Item) → Reads octets these → Reads octets those → these ≡ those
reads_one octets these those (unended line w) b = sym (nothing_open b w)
reads_one octets these those (ended line rest octet items w end r) b =
    let g = goes_on b line rest octet w end refl in
    ap (λ later. said line ++ later) (reads_one rest items g.later r g.reads) ∙ sym g.items_are
reads_one octets these those (faulty line rest octet cause w no_end is) b = sym (fault_only b line rest octet cause w no_end is refl)
