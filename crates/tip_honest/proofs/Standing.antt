-- A realm stands where its last journal leads.
use Rattle.std.proofs.Common.{◌≡◌, ◌+◌, ◌-◌, ◌++◌, ◌∷◌, Bool, true, false, cond, List, [], Option, Some, None, length, length-append, arith, refl, ap, sym, subst, ◌∙◌, inl, inr}
use Rattle.std.specs.Prelude.{IsSomeAnd, option_map, slice_get}
use Rattle.tip_branch.specs.Notes.{PartyNotes}
use Rattle.tip_branch.specs.declared.branch.Badge.{Badge}
use Rattle.tip_journal.proofs.HistoryLemmas.{last_of-with_last}
use Rattle.tip_journal.specs.Journal.{begun, with_entry}
use Rattle.tip_journal.specs.Journals.{last_of, with_last}
use Rattle.tip_machine.proofs.Stepping.{Went, step-epoch, step-went}
use Rattle.tip_machine.proofs.Walks.{either}
use Rattle.tip_machine.specs.Moves.{Move, World, gone_for, led_to, loaded, lost_from, moved, picked, restarted_from, stepped}
use Rattle.tip_machine.specs.Recovery.{restarted}
use Rattle.tip_machine.specs.Returns.{event_of}
use Rattle.tip_machine.specs.States.{State, Work}
use Rattle.tip_machine.specs.Steps.{entered, frozen, is_open, step}
use Rattle.tip_machine.specs.Types.{Event}
use Rattle.tip_machine.specs.declared.event.Outcome.{Outcome}
use Rattle.tip_machine.specs.declared.event.Outcome.TheVariants.{NoChange, Refused, Stored}
use Rattle.tip_machine.specs.declared.head.Head.{Head}
use Rattle.tip_rows.specs.Keys.{Key}
use Rattle.tip_honest.specs.Honesty.{AreHonest, IsFirst, Journal, StandsFor, StandsForLast, began, came_back, entered_in, journals_after, next_of, noted, replayed}
use Rattle.tip_honest.specs.declared.entry.Entry.{Entry}

-- One step

went_entries : (state : State) (v : Work) → Went (entered state) v → v.state.head.entries ≡ state.head.entries + 1
went_entries state v (inl goes) = ap (λ (h : Head). h.entries) goes.head
went_entries state v (inr opens) = ap (λ (h : Head). h.entries) opens.head

open_entries : (state : State) (event : Event) (outcome : Outcome) → is_open state ≡ true → (step state event outcome).state.head.entries ≡ state.head.entries + 1
open_entries state event outcome may = rw may (went_entries state _ (step-went state event outcome))

closed_state : (state : State) (event : Event) (outcome : Outcome) → is_open state ≡ false → (step state event outcome).state ≡ state
closed_state state event outcome closed = rw closed refl

-- a realm stays what it was declared as
began_same : (state : State) (event : Event) (outcome : Outcome) (journal : Journal) → began (step state event outcome).state.head journal ≡ began state.head journal
began_same state event outcome journal = either (λ (w : Work). began w.state.head journal ≡ began state.head journal) (is_open state) _ (frozen event state) (elim (step-went state event outcome) [ inl goes ↦ ap (λ (h : Head). began h journal) goes.head | inr opens ↦ ap (λ (h : Head). began h journal) opens.head ]) refl

replayed_one : (first : State) (entries : List Entry) (entry : Entry) → replayed first (entries ++ entry ∷ []) ≡ (step (replayed first entries) entry.event entry.outcome).state
replayed_one first [] entry = refl
replayed_one first (e ∷ entries) entry = replayed_one (step first e.event e.outcome).state entries entry

entry_by : Event → Outcome → Entry
entry_by event outcome = record { event = event; outcome = outcome }

stands_open : (state : State) (event : Event) (outcome : Outcome) (journal : Journal) → is_open state ≡ true → StandsFor state journal → StandsFor (step state event outcome).state (with_entry (entry_by event outcome) journal)
unfolding entry_by
stands_open state event outcome journal may is = record {
  epoch = is.epoch ∙ sym (step-epoch state event outcome);
  count = length-append journal.entries (entry_by event outcome ∷ []) ∙ ap (λ n. n + 1) is.count ∙ sym (open_entries state event outcome may);
  leads = ap (λ s. (step s event outcome).state) is.leads ∙ (sym (replayed_one (began state.head journal) journal.entries (entry_by event outcome)) ∙ ap (λ s. replayed s (journal.entries ++ entry_by event outcome ∷ [])) (sym (began_same state event outcome journal)));
}

stands_event : (state : State) (event : Event) (outcome : Outcome) (journals : List Journal) → StandsForLast state journals → StandsForLast (step state event outcome).state (cond (is_open state) (with_last (with_entry (record { event = event; outcome = outcome })) journals) journals)
unfolding entry_by
stands_event state event outcome journals is = by (is_open state) refl where
  own : is_open state ≡ true → (found : Option Journal) → last_of journals ≡ found → IsSomeAnd found (StandsFor state) → StandsForLast (step state event outcome).state (with_last (with_entry (entry_by event outcome)) journals)
  own may None there stood = absurd stood
  own may (Some journal) there stood =
      subst (λ o. IsSomeAnd o (StandsFor (step state event outcome).state)) (sym (last_of-with_last journals (with_entry (entry_by event outcome)) ∙ ap (option_map (with_entry (entry_by event outcome))) there)) (stands_open state event outcome journal may stood)

  by : (b : Bool) → is_open state ≡ b → StandsForLast (step state event outcome).state (cond b (with_last (with_entry (record { event = event; outcome = outcome })) journals) journals)
  by true may = own may (last_of journals) refl is
  by false full = subst (λ s. StandsForLast s journals) (sym (closed_state state event outcome full)) is

-- Each move

unchanged : (b : Bool) (state : State) (journals : List Journal) → StandsForLast state journals → StandsForLast state (cond b journals journals)
unchanged true state journals is = is
unchanged false state journals is = is

push-get : {A : Type 0} (xs : List A) (x : A) → slice_get (xs ++ x ∷ []) (length xs) ≡ Some x
push-get [] x = refl
push-get (y ∷ xs) x = push-get xs x

last-push : (journals : List Journal) (journal : Journal) → last_of (journals ++ journal ∷ []) ≡ Some journal
last-push journals journal =
    let place : length (journals ++ journal ∷ []) - 1 ≡ length journals = omega (arith, length-append journals (journal ∷ [])) in
    ap (slice_get (journals ++ journal ∷ [])) place ∙ push-get journals journal

-- a start
stands_anew : (boxes : Key → List Badge) (world : World) (journals : List Journal) → StandsForLast (restarted_from boxes world) (journals ++ next_of boxes world ∷ [])
stands_anew boxes world journals = subst (λ o. IsSomeAnd o (StandsFor (restarted_from boxes world))) (sym (last-push journals (next_of boxes world))) (record { epoch = refl; count = refl; leads = refl })

stands_moved : (move : Move) (world : World) (journals : List Journal) → StandsForLast world.state journals → StandsForLast (moved move world).world.state (noted move world journals)
unfolding stepped
stands_moved (Move.Step event outcome) world journals is = stands_event world.state event outcome journals is
stands_moved (Move.Go place back outcome) world journals is = gone (picked place world.errands) where
  gone : (errands : List PartyNotes) → StandsForLast (gone_for errands back outcome world).world.state (cond (is_open world.state) (entered_in (came_back errands back outcome) journals) journals)
  gone [] = unchanged (is_open world.state) world.state journals is
  gone (party ∷ errands) = stands_event world.state (event_of party back) outcome journals is
stands_moved (Move.Lose place) world journals is = lost (picked place world.errands) where
  lost : (errands : List PartyNotes) → StandsForLast (lost_from errands world).world.state (cond (is_open world.state) journals journals)
  lost [] = unchanged (is_open world.state) world.state journals is
  lost (party ∷ errands) = unchanged (is_open world.state) world.state journals is
stands_moved (Move.Restart boxes) world journals is = stands_anew boxes world journals
stands_moved (Move.Renew boxes Stored) world journals is = stands_anew boxes world journals
stands_moved (Move.Renew boxes Refused) world journals is = unchanged (is_open world.state) world.state journals is
stands_moved (Move.Renew boxes NoChange) world journals is = unchanged (is_open world.state) world.state journals is

stands_led : (world : World) (moves : List Move) (journals : List Journal) → StandsForLast world.state journals → StandsForLast (led_to world moves).state (journals_after world moves journals)
stands_led world [] journals is = is
stands_led world (move ∷ moves) journals is = stands_led (moved move world).world moves (noted move world journals) (stands_moved move world journals is)

stands_first : (world : World) (first : IsFirst world) → StandsForLast world.state (begun world.state.head.epoch (loaded first.boxes world.rows) ∷ [])
stands_first world first = record {
  epoch = refl;
  count = sym first.entries;
  leads = first.state ∙ (λ i. restarted (record world.state.head { given = first.given i; entries = first.entries i }) (loaded first.boxes world.rows));
}

pub stands_for_last : (world : World) (journals : List Journal) → AreHonest world journals → StandsForLast world.state journals
stands_for_last world journals is =
    subst (λ (w : World). StandsForLast w.state journals) is.led
    (subst (StandsForLast (led_to is.start is.moves).state) is.kept (stands_led is.start is.moves _ (stands_first is.start is.first)))
