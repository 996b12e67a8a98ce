-- An errand that is picked from those that are out: it and the rest are as true as all of them were.
use Rattle.std.proofs.Common.{◌≡◌, ℕ, zero, suc, Bool, true, false, List, [], ◌∷◌, cond, refl, ap, subst, sym, ◌∙◌}
use Rattle.std.specs.Prelude.{◌&&◌, ◌||◌, not, filter}
use Rattle.std.specs.List.{list_all, list_any}
use Rattle.std.specs.List.Sorted.{IsPermutation}
use Rattle.std.specs.Str.{bytes_eq}
use Rattle.std.proofs.lemmas.Bool.{and_from, and_parts}
use Rattle.std.proofs.lemmas.List.Sorted.{IsPermutation-cons, IsPermutation-middle, IsPermutation-refl, IsPermutation-trans, list_any-IsPermutation}
use Rattle.tip_branch.specs.Notes.{PartyNotes}
use Rattle.tip_rows.proofs.MemoryLemmas.{bytes_eq-sym}
use Rattle.tip_machine.specs.Agreement.Verdicts.{Verdict, is_abort, is_commit, told}
use Rattle.tip_machine.specs.Answers.{identifier}
use Rattle.tip_machine.specs.Invariants.Links.{are_distinct}
use Rattle.tip_machine.specs.Invariants.Parties.{are_out, is_due, is_of_this_start}
use Rattle.tip_machine.specs.Moves.{World, behind_first, picked}
use Rattle.tip_machine.specs.Outputs.{Output}
use Rattle.tip_machine.specs.States.{State, transaction_of}
use Rattle.tip_agreement.specs.Truth.{IsTrueTo, Word, fits, is_uncalled, will_tell, will_vote, word_of}

-- the same errands in another order
picked_moves : (place : ℕ) (errands : List PartyNotes) (party : PartyNotes) (rest : List PartyNotes) → picked place errands ≡ party ∷ rest → IsPermutation errands (party ∷ rest)
picked_moves place [] party rest at = absurd (cc)
picked_moves zero (p ∷ ps) party rest at = subst (IsPermutation (p ∷ ps)) at (IsPermutation-refl (p ∷ ps))
picked_moves (suc place) (p ∷ ps) party rest at = behind (picked place ps) (picked_moves place ps) at where
  behind : (found : List PartyNotes) → ((q : PartyNotes) (others : List PartyNotes) → found ≡ q ∷ others → IsPermutation ps (q ∷ others)) → behind_first p found ≡ party ∷ rest → IsPermutation (p ∷ ps) (party ∷ rest)
  behind [] moves at = absurd (cc)
  behind (q ∷ others) moves at = subst (IsPermutation (p ∷ ps)) at
      (IsPermutation-trans _ _ _ (IsPermutation-cons p ps (q ∷ others) (moves q others refl)) (IsPermutation-middle (p ∷ []) q others))

-- what one of them passes
pub any_picked : (test : PartyNotes → Bool) (place : ℕ) (errands : List PartyNotes) (party : PartyNotes) (rest : List PartyNotes) → picked place errands ≡ party ∷ rest → list_any test (party ∷ rest) ≡ list_any test errands
any_picked test place errands party rest at = sym (list_any-IsPermutation test errands (party ∷ rest) (picked_moves place errands party rest at))

-- what all of them pass
pub all_picked : (test : PartyNotes → Bool) (place : ℕ) (errands : List PartyNotes) → list_all test errands ≡ true → list_all test (picked place errands) ≡ true
all_picked test place [] all = refl
all_picked test zero (p ∷ ps) all = all
all_picked test (suc place) (p ∷ ps) all = let parts = and_parts (test p) (list_all test ps) all in behind (picked place ps) (all_picked test place ps parts.1) parts.0 where
  behind : (found : List PartyNotes) → list_all test found ≡ true → test p ≡ true → list_all test (behind_first p found) ≡ true
  behind [] others first = refl
  behind (q ∷ found) others first = let parts = and_parts (test q) (list_all test found) others in and_from _ _ parts.0 (and_from _ _ first parts.1)

-- of those that are kept no two are the same
module _ (same : PartyNotes → PartyNotes → Bool) (flips : (p q : PartyNotes) → same p q ≡ same q p) (keep : PartyNotes → Bool) where
  abbrev are_apart : List PartyNotes → Bool
  are_apart errands = are_distinct same (filter keep errands)

  any_kept : (test : PartyNotes → Bool) (errands : List PartyNotes) → list_any test (filter keep errands) ≡ list_any (λ p. keep p && test p) errands
  any_kept test [] = refl
  any_kept test (p ∷ ps) = step (keep p) (any_kept test ps) where
    step : (kept : Bool) → list_any test (filter keep ps) ≡ list_any (λ q. keep q && test q) ps → list_any test (cond kept (p ∷ filter keep ps) (filter keep ps)) ≡ ((kept && test p) || list_any (λ q. keep q && test q) ps)
    step true others = ap (λ found. test p || found) others
    step false others = others

  -- by how the others are apart, and whether the first is among them
  apart_more : (p : PartyNotes) (ps qs : List PartyNotes) → IsPermutation ps qs → are_apart qs ≡ are_apart ps → are_apart (p ∷ qs) ≡ are_apart (p ∷ ps)
  apart_more p ps qs moves apart = step (keep p) where
    found : list_any (same p) (filter keep qs) ≡ list_any (same p) (filter keep ps)
    found = any_kept (same p) qs ∙ (sym (list_any-IsPermutation _ ps qs moves) ∙ sym (any_kept (same p) ps))

    step : (kept : Bool) → are_distinct same (cond kept (p ∷ filter keep qs) (filter keep qs)) ≡ are_distinct same (cond kept (p ∷ filter keep ps) (filter keep ps))
    step true = ap (λ b. not b && are_apart qs) found ∙ ap (λ b. not (list_any (same p) (filter keep ps)) && b) apart
    step false = apart

  -- two at the front, the other way round
  apart_swapped : (p q : PartyNotes) (ps : List PartyNotes) → are_apart (q ∷ p ∷ ps) ≡ are_apart (p ∷ q ∷ ps)
  apart_swapped p q ps = step (keep p) (keep q) where
    either : (s a b c : Bool) → (not (s || a) && (not b && c)) ≡ (not (s || b) && (not a && c))
    either true a b c = refl
    either false true true c = refl
    either false true false c = refl
    either false false true c = refl
    either false false false c = refl

    step : (a b : Bool) → are_distinct same (cond b (q ∷ cond a (p ∷ filter keep ps) (filter keep ps)) (cond a (p ∷ filter keep ps) (filter keep ps))) ≡ are_distinct same (cond a (p ∷ cond b (q ∷ filter keep ps) (filter keep ps)) (cond b (q ∷ filter keep ps) (filter keep ps)))
    step true true = ap (λ s. not (s || list_any (same q) (filter keep ps)) && (not (list_any (same p) (filter keep ps)) && are_apart ps)) (flips q p) ∙ either (same p q) (list_any (same q) (filter keep ps)) (list_any (same p) (filter keep ps)) (are_apart ps)
    step true false = refl
    step false true = refl
    step false false = refl

  apart_still : (place : ℕ) (errands : List PartyNotes) (party : PartyNotes) (rest : List PartyNotes) → picked place errands ≡ party ∷ rest → are_apart (party ∷ rest) ≡ are_apart errands
  apart_still place [] party rest at = absurd (cc)
  apart_still zero (p ∷ ps) party rest at = ap are_apart (sym at)
  apart_still (suc place) (p ∷ ps) party rest at = behind (picked place ps) refl (apart_still place ps) at where
    behind : (found : List PartyNotes) → picked place ps ≡ found → ((q : PartyNotes) (others : List PartyNotes) → picked place ps ≡ q ∷ others → are_apart (q ∷ others) ≡ are_apart ps) → behind_first p found ≡ party ∷ rest → are_apart (party ∷ rest) ≡ are_apart (p ∷ ps)
    behind [] is apart at = absurd (cc)
    behind (q ∷ others) is apart at = ap are_apart (sym at) ∙ (apart_swapped p q others ∙ apart_more p ps (q ∷ others) (picked_moves place ps q others is) (apart q others is))

  apart_picked : (place : ℕ) (errands : List PartyNotes) → are_apart errands ≡ true → are_apart (picked place errands) ≡ true
  apart_picked place errands apart = step (picked place errands) refl where
    step : (found : List PartyNotes) → picked place errands ≡ found → are_apart found ≡ true
    step [] at = refl
    step (party ∷ rest) at = apart_still place errands party rest at ∙ apart

-- who is picked is out with the rest
pub picked_out : (place : ℕ) (state : State) (errands : List PartyNotes) → are_out state errands ≡ true → are_out state (picked place errands) ≡ true
picked_out place state errands out =
    let parts = and_parts (are_distinct (λ (this that : PartyNotes). bytes_eq this.id that.id) (filter (is_of_this_start state) errands)) (list_all (is_due state) errands) out in
    and_from _ _ (apart_picked (λ this that. bytes_eq this.id that.id) (λ this that. bytes_eq-sym this.id that.id) (is_of_this_start state) place errands parts.0) (all_picked (is_due state) place errands parts.1)

-- THE WORD STAYS: what they will tell is the same
pub picked_true : (place : ℕ) (world : World) (shown : List Output) → IsTrueTo shown world → (party : PartyNotes) (rest : List PartyNotes) → picked place world.errands ≡ party ∷ rest → IsTrueTo shown (record { state = world.state; rows = world.rows; errands = party ∷ rest })
picked_true place world shown true_to party rest at = record {
  fits = λ key spelled. subst (λ w. fits (transaction_of key world.state) w ≡ true) (sym (same_word (identifier world.state.head.name key))) (true_to.fits key spelled);
  given = λ key spelled has. true_to.given key spelled (ap (λ (w : Word). w.commit || w.abort) (sym (same_word (identifier world.state.head.name key))) ∙ has);
  uncalled = subst (λ ps. list_all is_uncalled ps ≡ true) at (all_picked is_uncalled place world.errands true_to.uncalled);
  ours = λ id spoken. true_to.ours id (ap (λ out. list_any (λ (verdict : Verdict). true) (told world.state.head.name id shown) || out) (sym (any (λ p. bytes_eq id p.id))) ∙ spoken);
} where
  any : (test : PartyNotes → Bool) → list_any test (party ∷ rest) ≡ list_any test world.errands
  any test = any_picked test place world.errands party rest at

  same_word : (id : List ℕ) → word_of (record { state = world.state; rows = world.rows; errands = party ∷ rest }) shown id ≡ word_of world shown id
  same_word id = rw (any (will_tell is_commit world.state.head.epoch id), any (will_tell is_abort world.state.head.epoch id), any (will_vote world.state.head.epoch id)) refl
