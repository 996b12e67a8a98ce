-- AGREEMENT OF A RUN: a realm stays true to its word, so no branch is told to commit where one is told to abort.
use Rattle.std.proofs.Common.{◌≡◌, true, false, List, [], ◌∷◌, ◌++◌, Option, Some, None, refl, subst, sym, ◌∙◌, inl, inr, ℕ, Bool}
use Rattle.std.specs.Prelude.{◌&&◌, flat_map, not}
use Rattle.std.specs.List.{list_any}
use Rattle.std.proofs.lemmas.Bool.{and_parts, or_left}
use Rattle.std.proofs.lemmas.List.{append-nil, append_assoc}
use Rattle.tip_branch.specs.Notes.{PartyNotes}
use Rattle.tip_branch.specs.declared.branch.Badge.{Badge}
use Rattle.tip_line.specs.declared.refusal.Refusal.TheVariants as refusal
use Rattle.tip_rows.specs.Keys.{Key}
use Rattle.tip_txn.specs.declared.answer.Phase.{Phase}
use Rattle.tip_txn.specs.declared.answer.Phase.TheVariants.{Active, Asking, Prepared, Committed, Aborted}
use Rattle.tip_machine.specs.Agreement.{is_one}
use Rattle.tip_machine.specs.Agreement.Traces.{shown_in, traced}
use Rattle.tip_machine.specs.Agreement.Verdicts.{is_abort, is_commit, is_unanimous, told, Verdict}
use Rattle.tip_machine.specs.Answers.{identifier}
use Rattle.tip_machine.specs.Honest.{brings_no_party, is_honest, is_run}
use Rattle.tip_machine.specs.Invariants.{IsSound}
use Rattle.tip_machine.specs.Invariants.Bounds.{is_spelled}
use Rattle.tip_machine.specs.Invariants.Parties.{are_out}
use Rattle.tip_machine.specs.Moves.{Move, World, drops_here, gone_for, led_to, lost_from, moved, picked, renewed, restarted_from}
use Rattle.tip_machine.specs.Outputs.{Output, drops_of}
use Rattle.tip_machine.specs.Returns.{Back}
use Rattle.tip_machine.specs.Starting.{IsStart}
use Rattle.tip_machine.specs.States.{transaction_of}
use Rattle.tip_machine.specs.Types.{Transaction}
use Rattle.tip_machine.specs.declared.event.Outcome.{Outcome}
use Rattle.tip_machine.specs.declared.event.Outcome.TheVariants.{NoChange, Refused, Stored}
use Rattle.tip_agreement.proofs.Truthful.{any_verdict}
use Rattle.tip_agreement.specs.Truth.{IsTrueTo, Word, fits, word_of}
use Rattle.tip_agreement.proofs.Declared.{name_led}
use Rattle.tip_agreement.proofs.Errands.{out_behind, first_due}
use Rattle.tip_agreement.proofs.Holding.{back_true, event_true, lost_true, still_true}
use Rattle.tip_agreement.proofs.Kept.{moved_sound}
use Rattle.tip_agreement.proofs.Picking.{picked_out, picked_true}
use Rattle.tip_agreement.proofs.Renewing.{renewed_true}
use Rattle.tip_agreement.proofs.Restarts.{start_sound}
use Rattle.tip_agreement.proofs.Speaking.{over_fits}
use Rattle.tip_agreement.proofs.Telling.{told_either}
use Rattle.tip_agreement.proofs.Wording.{and_less, not_less}

-- AT A START nothing was told, and nobody is out

no_word : Word
no_word = record { commit = false; abort = false; awaited = false }

nothing_fits : (found : Option Transaction) → fits found no_word ≡ true
unfolding no_word
nothing_fits None = refl
nothing_fits (Some t) = step t.phase where
  step : (phase : Phase) → fits (Some (record t { phase = phase })) no_word ≡ true
  step Active = refl
  step Asking = refl
  step Prepared = refl
  step Committed = refl
  step Aborted = refl

pub start_true : (world : World) → IsStart world → IsTrueTo [] world
unfolding no_word
start_true world start = subst (λ ps. IsTrueTo [] (record { state = world.state; rows = world.rows; errands = ps })) (sym start.errands) (record {
  fits = λ k fine. nothing_fits (transaction_of k world.state);
  given = λ k fine is. absurd (let wrong : false ≡ true = is in cc);
  uncalled = refl;
  ours = λ id is. absurd (let wrong : false ≡ true = is in cc);
})

-- EACH MOVE

gone_true : (back : Back) (outcome : Outcome) (world : World) (errands : List PartyNotes) (shown : List Output) → IsSound world → are_out world.state errands ≡ true → IsTrueTo shown world → ((party : PartyNotes) (rest : List PartyNotes) → errands ≡ party ∷ rest → IsTrueTo shown (record { state = world.state; rows = world.rows; errands = party ∷ rest })) → IsTrueTo (shown ++ (gone_for errands back outcome world).shown) (gone_for errands back outcome world).world
gone_true back outcome world [] shown sound out true_to among = subst (λ xs. IsTrueTo xs world) (sym (append-nil shown)) true_to
gone_true back outcome world (party ∷ errands) shown sound out true_to among = back_true world sound party errands out (first_due world.state party errands out) shown (among party errands refl) back outcome

lose_true : (world : World) (errands : List PartyNotes) (shown : List Output) → IsSound world → are_out world.state errands ≡ true → IsTrueTo shown world → ((party : PartyNotes) (rest : List PartyNotes) → errands ≡ party ∷ rest → IsTrueTo shown (record { state = world.state; rows = world.rows; errands = party ∷ rest })) → IsTrueTo (shown ++ (lost_from errands world).shown) (lost_from errands world).world
lose_true world [] shown sound out true_to among = subst (λ xs. IsTrueTo xs world) (sym (append-nil shown)) true_to
lose_true world (party ∷ errands) shown sound out true_to among = lost_true world sound party errands out (first_due world.state party errands out) shown (among party errands refl)

-- all that are out are lost
pub all_lost_true : (world : World) (errands : List PartyNotes) (shown : List Output) → IsSound world → are_out world.state errands ≡ true → IsTrueTo shown (record { state = world.state; rows = world.rows; errands = errands }) → IsTrueTo (shown ++ flat_map drops_of errands) (record { state = world.state; rows = world.rows; errands = [] })
all_lost_true world [] shown sound out true_to = subst (λ xs. IsTrueTo xs (record { state = world.state; rows = world.rows; errands = [] })) (sym (append-nil shown)) true_to
all_lost_true world (party ∷ errands) shown sound out true_to = subst (λ xs. IsTrueTo xs (record { state = world.state; rows = world.rows; errands = [] })) (append_assoc shown (drops_of party) (flat_map drops_of errands)) (all_lost_true world errands (shown ++ drops_of party) sound (out_behind world.state party errands out) (lost_true world sound party errands out (first_due world.state party errands out) shown true_to))

-- nobody is out
pub alone_sound : (world : World) → IsSound world → IsSound (record world { errands = [] })
alone_sound world sound = record {
  numbered = sound.numbered;
  bounded = sound.bounded;
  keyed = sound.keyed;
  roles = sound.roles;
  connections = sound.connections;
  transactions = sound.transactions;
  out = refl;
  known_once = sound.known_once;
  stored = sound.stored;
}

renew_true : (boxes : Key → List Badge) (outcome : Outcome) (world : World) (shown : List Output) → IsSound world → IsTrueTo shown world → is_honest (Move.Renew boxes outcome) world ≡ true → IsTrueTo (shown ++ (renewed boxes outcome world).shown) (renewed boxes outcome world).world
renew_true boxes Stored world shown sound true_to can = renewed_true boxes world sound can shown true_to
renew_true boxes Refused world shown sound true_to can = still_true world.state world.rows world.rows world.errands shown (shown ++ Output.Refused refusal.Refused ∷ []) true_to (λ test id is. elim (told_either test world.state.head.name id shown (Output.Refused refusal.Refused ∷ []) is) [ inl before ↦ before | inr now ↦ absurd (let wrong : false ≡ true = now in cc) ])
renew_true boxes NoChange world shown sound true_to can = absurd (cc)

pub moved_true : (move : Move) (world : World) (shown : List Output) → IsSound world → IsTrueTo shown world → is_honest move world ≡ true → IsTrueTo (shown ++ (moved move world).shown) (moved move world).world
moved_true (Move.Step event outcome) world shown sound true_to honest = event_true world sound event outcome shown true_to (and_parts (brings_no_party event) _ honest).0
moved_true (Move.Go place back outcome) world shown sound true_to honest = gone_true back outcome world (picked place world.errands) shown sound (picked_out place world.state world.errands sound.out) true_to (picked_true place world shown true_to)
moved_true (Move.Lose place) world shown sound true_to honest = lose_true world (picked place world.errands) shown sound (picked_out place world.state world.errands sound.out) true_to (picked_true place world shown true_to)
moved_true (Move.Restart boxes) world shown sound true_to honest =
    let lost = all_lost_true world world.errands shown sound sound.out true_to in
    subst (λ xs. IsTrueTo xs (record { state = restarted_from boxes world; rows = world.rows; errands = [] })) (append_assoc shown (flat_map drops_of world.errands) (drops_here world.state))
    (renewed_true boxes (record world { errands = [] }) (alone_sound world sound) honest (shown ++ flat_map drops_of world.errands) lost)
moved_true (Move.Renew boxes outcome) world shown sound true_to honest = renew_true boxes outcome world shown sound true_to honest

-- A RUN
pub run_true : (world : World) (moves : List Move) (shown : List Output) → IsSound world → IsTrueTo shown world → is_run world moves ≡ true → IsTrueTo (shown ++ shown_in (traced world moves)) (led_to world moves)
run_true world [] shown sound true_to honest = subst (λ xs. IsTrueTo xs world) (sym (append-nil shown)) true_to
run_true world (move ∷ moves) shown sound true_to honest =
    let parts = and_parts (is_honest move world) (is_run (moved move world).world moves) honest in
    let next = (moved move world).world in
    subst (λ xs. IsTrueTo xs (led_to next moves)) (append_assoc shown (moved move world).shown (shown_in (traced next moves)))
    (run_true next moves (shown ++ (moved move world).shown) (moved_sound move world sound parts.0) (moved_true move world shown sound true_to parts.0) parts.1)

-- TRUE TO ITS WORD, it tells none to commit where it tells one to abort
pub one_word : (shown : List Output) (world : World) (key : Key) → is_spelled key ≡ true → IsTrueTo shown world → is_unanimous (told world.state.head.name (identifier world.state.head.name key) shown) ≡ true
one_word shown world key fine true_to =
    let id = identifier world.state.head.name key in
    let word = word_of world shown id in
    let said = told world.state.head.name id shown in
    not_less (list_any is_commit said && list_any is_abort said) (word.commit && word.abort) (and_less (list_any is_commit said) (list_any is_abort said) word.commit word.abort (λ is. or_left (list_any is_commit said) _ is) (λ is. or_left (list_any is_abort said) _ is)) (either_way word (transaction_of key world.state) (true_to.fits key fine)) where
      either_way : (word : Word) (found : Option Transaction) → fits found word ≡ true → not (word.commit && word.abort) ≡ true
      either_way word None is = is
      either_way word (Some t) is = over_fits t word is

-- where nothing is told, neither is
pub any_of : (test : Verdict → Bool) (xs : List Verdict) → list_any test xs ≡ true → list_any any_verdict xs ≡ true
any_of test [] is = is
any_of test (x ∷ xs) is = refl

-- the same of any identifier
pub one_told : (shown : List Output) (world : World) (id : List ℕ) → IsTrueTo shown world → is_unanimous (told world.state.head.name id shown) ≡ true
one_told shown world id true_to = step (list_any any_verdict said) refl where
  said : List Verdict
  said = told world.state.head.name id shown

  step : (b : Bool) → list_any any_verdict said ≡ b → is_unanimous said ≡ true
  step true is = let ours = true_to.ours id (or_left (list_any any_verdict said) _ is) in subst (λ x. is_unanimous (told world.state.head.name x shown) ≡ true) (sym ours.2) (one_word shown world ours.0 ours.1 true_to)
  step false is = not_less (list_any is_commit said && list_any is_abort said) false (λ both. sym is ∙ any_of is_commit said (and_parts (list_any is_commit said) (list_any is_abort said) both).0) refl

pub run_agrees : (world : World) (moves : List Move) (id : List ℕ) → IsStart world → is_run world moves ≡ true → is_one world.state.head.name id (traced world moves) ≡ true
run_agrees world moves id start honest =
    subst (λ name. is_unanimous (told name id (shown_in (traced world moves))) ≡ true) (name_led world moves)
    (one_told (shown_in (traced world moves)) (led_to world moves) id (run_true world moves [] (start_sound world start) (start_true world start) honest))
