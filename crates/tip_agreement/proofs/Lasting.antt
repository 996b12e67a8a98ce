-- The invariants last over each step of a realm.
use Rattle.std.proofs.Common.{◌≡◌, Bool, true, false, ℕ, ◌+◌, List, ◌∷◌, ◌++◌, Option, Some, None, cond, refl, ap, subst, sym, arith, ◌∙◌, ◌⊎◌, inl, inr}
use Rattle.std.specs.Prelude.{find, nat_le, nat_lt}
use Rattle.std.specs.List.{list_all}
use Rattle.std.specs.Option.{option_to_list}
use Rattle.std.proofs.lemmas.Bool.Decides.{nat_tests}
use Rattle.tip_branch.specs.Notes.{PartyNotes}
use Rattle.tip_rows.specs.Keys.{Key, is_same}
use Rattle.tip_rows.specs.Logs.{is_rising, last_epoch, row_at}
use Rattle.tip_rows.specs.declared.row.Row.{Row}
use Rattle.tip_machine.specs.Changes.{alter}
use Rattle.tip_machine.specs.Counts.{HasCounts}
use Rattle.tip_machine.specs.Given.{are_numbered}
use Rattle.tip_machine.specs.Heads.{are_allowed, is_within}
use Rattle.tip_machine.specs.Honest.{brings_no_party}
use Rattle.tip_machine.specs.Invariants.{IsSound, are_keyed, are_known_once}
use Rattle.tip_machine.specs.Invariants.Bounds.{are_bounded, is_spelled}
use Rattle.tip_machine.specs.Invariants.Links.{are_distinct, have_roles, is_connected}
use Rattle.tip_machine.specs.Invariants.Parties.{are_out, is_due}
use Rattle.tip_machine.specs.Invariants.Phases.{is_transaction}
use Rattle.tip_machine.specs.Invariants.Stored.{are_stored, is_stored_as}
use Rattle.tip_machine.specs.Moves.{World, rows_after, stepped}
use Rattle.tip_machine.specs.Order.{ordered}
use Rattle.tip_machine.specs.Requests.{strange}
use Rattle.tip_machine.specs.Returns.{Back, back_of, event_of}
use Rattle.tip_machine.specs.States.{Attempt, State, Work, transaction_of}
use Rattle.tip_machine.specs.Steps.{attempt, chosen, entered, frozen, is_open, step, wanted}
use Rattle.tip_machine.specs.Transactions.{has_key, standing_at}
use Rattle.tip_machine.specs.Types.{Event, Transaction}
use Rattle.tip_machine.specs.declared.event.Change.{Change}
use Rattle.tip_machine.specs.declared.event.Outcome.{Outcome}
use Rattle.tip_machine.specs.declared.event.Outcome.TheVariants.{NoChange, Stored, Refused}
use Rattle.tip_machine.specs.declared.head.Head.{Head}
use Rattle.tip_line.specs.declared.refusal.Refusal.TheVariants.{Frozen}
use Rattle.tip_machine.specs.declared.transaction.PartyPlace.TheVariants.{Here}
use Rattle.tip_machine.proofs.Counting.{counts_stay}
use Rattle.tip_machine.proofs.Identifiers.{still_rising}
use Rattle.tip_machine.proofs.Stepping.{Went, returned-silent, step-went}
use Rattle.tip_machine.proofs.Walks.{Ends, more_ends}
use Rattle.tip_agreement.proofs.Apart.{all_changed}
use Rattle.tip_agreement.proofs.Around.{Whole}
use Rattle.tip_agreement.proofs.Bounded.{AreSpelled, InBounds, bounds_from, counts_of, in_bounds, next_spelled, spelled_grown, spelled_onward}
use Rattle.tip_agreement.proofs.Commanded.{EndsGo, Grown}
use Rattle.tip_agreement.proofs.Concluding.{Goes}
use Rattle.tip_agreement.proofs.Errands.{out_behind}
use Rattle.tip_agreement.proofs.Events.{WholeFrom, entered_whole, steps_whole}
use Rattle.tip_agreement.proofs.Homecoming.{BackGoes, CameHome, placed, placed_known, placed_says}
use Rattle.tip_agreement.proofs.Keys.{keys_changed, keys_kept, keys_of}
use Rattle.tip_agreement.proofs.Known.{from_known, known_grown, known_onward, to_known}
use Rattle.tip_agreement.proofs.Lines.{event_whole}
use Rattle.tip_agreement.proofs.Making.{found_before, found_new}
use Rattle.tip_agreement.proofs.Moving.{back_whole, due_awaited, sound_given, sound_whole}
use Rattle.tip_agreement.proofs.Occurring.{IsNextSpelled, back_goes, event_goes}
use Rattle.tip_agreement.proofs.Onward.{says}
use Rattle.tip_agreement.proofs.Proceeding.{AllWhole}
use Rattle.tip_agreement.proofs.Rows.{Says, from_says, rising_stored, stored_at, stored_by, to_says}
use Rattle.tip_agreement.proofs.Sound.{whole_to}
use Rattle.tip_agreement.proofs.Waiting.{out_grown, out_here, out_onward}
use Rattle.std.proofs.lemmas.List.{append-nil}

-- THE INVARIANTS, as they go on

-- what is known of the work that an event begins with, its own party's return included
record Base (rows : List (Key × Row)) (errands : List PartyNotes) (w : Work) : Type 0 where
  apart : are_distinct is_same (keys_of w.state.transactions) ≡ true
  spelled : AreSpelled w.state
  known : are_known_once w.state ≡ true
  out : are_out w.state errands ≡ true
  rising : is_rising rows ≡ true
  fits : Says w.state rows
  quiet : w.answer.work ≡ None

-- what is known of the work that it ends with
record Comes (rows : List (Key × Row)) (errands : List PartyNotes) (v : Work) : Type 0 where
  spelled : AreSpelled v.state
  known : are_known_once v.state ≡ true
  out : are_out v.state (errands ++ option_to_list v.answer.work) ≡ true
  stored : are_stored v.state rows ≡ true

went : (rows : List (Key × Row)) (errands : List PartyNotes) (change : Option Change) (w v : Work) → Base rows errands w → Goes change w v → Comes (stored_by change rows) errands v
went rows errands change w v base goes =
    let onward = goes.1 in
    let spelled = spelled_onward change goes.0 w v onward base.apart base.spelled in
    record {
      spelled = spelled;
      known = known_onward change goes.0 w v onward base.apart base.known;
      out = out_onward change goes.0 w v onward base.apart spelled errands base.out base.quiet;
      stored = from_says v.state (stored_by change rows) (onward.keys base.apart) (rising_stored change rows base.rising) (λ k. ap (says (transaction_of k v.state)) (stored_at change k rows base.rising) ∙ (onward.turns k).rows (row_at k rows) (base.fits k));
    }

grew : (rows : List (Key × Row)) (errands : List PartyNotes) (w v : Work) → Base rows errands w → are_distinct is_same (keys_of v.state.transactions) ≡ true → Grown w v → Comes rows errands v
grew rows errands w v base apart grown =
    let spelled = spelled_grown w v grown base.spelled in
    record {
      spelled = spelled;
      known = known_grown w v grown base.known;
      out = out_grown w v grown base.apart spelled errands base.out base.quiet;
      stored = from_says v.state rows apart base.rising (λ k. fits k (transaction_of k w.state) refl);
    } where
      new_fits : (k : Key) (found : Option Transaction) → found ≡ None → (b : Bool) → says None (row_at k rows) ≡ true → says (cond b (Some grown.new) None) (row_at k rows) ≡ true
      new_fits k found none true is = subst (λ f. is_stored_as f grown.new (row_at k rows) ≡ true) (sym grown.active) is
      new_fits k found none false is = is

      fits : (k : Key) (found : Option Transaction) → transaction_of k w.state ≡ found → says (transaction_of k v.state) (row_at k rows) ≡ true
      fits k None none = subst (λ ts. says (find (has_key k) ts) (row_at k rows) ≡ true) (sym grown.transactions) (subst (λ o. says o (row_at k rows) ≡ true) (sym (found_new (has_key k) w.state.transactions grown.new none)) (new_fits k None refl (has_key k grown.new) (subst (λ o. says o (row_at k rows) ≡ true) none (base.fits k))))
      fits k (Some t) found = subst (λ ts. says (find (has_key k) ts) (row_at k rows) ≡ true) (sym grown.transactions) (subst (λ o. says o (row_at k rows) ≡ true) (sym (found_before (has_key k) w.state.transactions grown.new t found)) (subst (λ o. says o (row_at k rows) ≡ true) found (base.fits k)))

-- nothing became of it
stayed : (rows : List (Key × Row)) (errands : List PartyNotes) (w v : Work) → Base rows errands w → v.state ≡ w.state → v.answer.work ≡ None → Comes rows errands v
stayed rows errands w v base same none = record {
  spelled = subst AreSpelled (sym same) base.spelled;
  known = subst (λ s. are_known_once s ≡ true) (sym same) base.known;
  out = subst (λ o. are_out v.state (errands ++ option_to_list o) ≡ true) (sym none) (subst (λ ps. are_out v.state ps ≡ true) (sym (append-nil errands)) (subst (λ s. are_out s errands ≡ true) (sym same) base.out));
  stored = subst (λ s. are_stored s rows ≡ true) (sym same) (from_says w.state rows base.apart base.rising base.fits);
}

-- by what became of the change
comes : (rows : List (Key × Row)) (errands : List PartyNotes) (w : Work) (a : Attempt) (outcome : Outcome) → Base rows errands w → Ends (λ v. Whole v.state) a → EndsGo w a → Comes (rows_after (wanted a) outcome rows) errands (chosen a outcome)
comes rows errands w (Attempt.Done v) outcome base whole (inl goes) = went rows errands None w v base goes
comes rows errands w (Attempt.Done v) outcome base whole (inr grown) = grew rows errands w v base whole.keys grown
comes rows errands w (Attempt.Asks change stored refused) Stored base whole goes = went rows errands (Some change) w stored base goes.0
comes rows errands w (Attempt.Asks change stored refused) Refused base whole goes = went rows errands None w refused base goes.1
comes rows errands w (Attempt.Asks change stored refused) NoChange base whole goes = went rows errands None w refused base goes.1

-- A STEP

module _ (world : World) (errands : List PartyNotes) (event : Event) (outcome : Outcome) (sound : IsSound world) (whole : AllWhole (attempt event (entered world.state))) (out : are_out world.state errands ≡ true) where
  abbrev tried : Attempt
  tried = attempt event (entered world.state)

  bounds : InBounds world.state
  bounds = in_bounds world.state sound.bounded

  -- the counts of the entry's state
  counted : (v : State) → (v.head ≡ (entered world.state).state.head) ⊎ (v.head ≡ record (entered world.state).state.head { given = world.state.head.given + 1 }) → nat_lt world.state.head.entries world.state.head.limits.entries ≡ true → HasCounts v → AreSpelled v → are_bounded v ≡ true
  counted v head room counts spelled = bounds_from v counts
      (elim head [ inl is ↦ ap (λ (h : Head). is_within 1 last_epoch h.epoch) is ∙ bounds.epoch | inr is ↦ ap (λ (h : Head). is_within 1 last_epoch h.epoch) is ∙ bounds.epoch ])
      (elim head [ inl is ↦ ap (λ (h : Head). are_allowed h.limits) is ∙ bounds.limits | inr is ↦ ap (λ (h : Head). are_allowed h.limits) is ∙ bounds.limits ])
      (elim head [ inl is ↦ ap (λ (h : Head). nat_le h.entries h.limits.entries) is ∙ one_more world.state.head.entries world.state.head.limits.entries room | inr is ↦ ap (λ (h : Head). nat_le h.entries h.limits.entries) is ∙ one_more world.state.head.entries world.state.head.limits.entries room ])
      spelled where
        one_more : (n m : ℕ) → nat_lt n m ≡ true → nat_le (n + 1) m ≡ true
        one_more n m less = grind (arith, nat_tests, less)

  head_then : (Went (entered world.state) (ordered world.state (chosen tried outcome))) → ((ordered world.state (chosen tried outcome)).state.head ≡ (entered world.state).state.head) ⊎ ((ordered world.state (chosen tried outcome)).state.head ≡ record (entered world.state).state.head { given = world.state.head.given + 1 })
  head_then (inl goes) = inl goes.head
  head_then (inr opens) = inr opens.head

  abbrev after : State
  after = (step world.state event outcome).state

  numbered_after : are_numbered after ≡ true
  numbered_after = still_rising world.state event outcome sound.numbered

  keyed_after : are_keyed after ≡ true
  keyed_after = keys_kept world.state event outcome sound.numbered sound.keyed

  whole_after : Whole after
  whole_after = steps_whole world.state event outcome (more_ends (λ v. Whole v.state) (WholeFrom world.state) (λ v is always. is) tried whole) (sound_whole world sound)

  counts_after : HasCounts after
  counts_after = counts_stay world.state event outcome (counts_of world.state sound.numbered bounds)

  sound_with : (next : World) → next.state ≡ after → are_bounded next.state ≡ true → are_out next.state next.errands ≡ true → are_known_once next.state ≡ true → are_stored next.state next.rows ≡ true → IsSound next
  sound_with next same bounded out known stored =
      let w = whole_to after whole_after in
      record {
        numbered = subst (λ t. are_numbered t ≡ true) (sym same) numbered_after;
        bounded = bounded;
        keyed = subst (λ t. are_keyed t ≡ true) (sym same) keyed_after;
        roles = subst (λ t. have_roles t ≡ true) (sym same) w.roles;
        connections = subst (λ t. list_all is_connected t.connections ≡ true) (sym same) w.connections;
        transactions = subst (λ t. list_all (is_transaction t) t.transactions ≡ true) (sym same) w.transactions;
        out = out;
        known_once = known;
        stored = stored;
      }

  step_sound : (nat_lt world.state.head.entries world.state.head.limits.entries ≡ true → Comes (rows_after (wanted tried) outcome world.rows) errands (chosen tried outcome)) → IsSound (stepped event outcome (record world { errands = errands })).world
  unfolding stepped ordered
  step_sound comes = step (is_open world.state) refl where
    step : (b : Bool) → is_open world.state ≡ b → IsSound (record { state = (cond b (ordered world.state (chosen tried outcome)) (frozen event world.state)).state; rows = rows_after (cond b (wanted tried) None) outcome world.rows; errands = errands ++ option_to_list (cond b (ordered world.state (chosen tried outcome)) (frozen event world.state)).answer.work })
    step true room =
        let c = comes room in
        let same = ap (λ b. (cond b (ordered world.state (chosen tried outcome)) (frozen event world.state)).state) (sym room) in
        sound_with (record { state = (ordered world.state (chosen tried outcome)).state; rows = rows_after (wanted tried) outcome world.rows; errands = errands ++ option_to_list (ordered world.state (chosen tried outcome)).answer.work }) same (counted (ordered world.state (chosen tried outcome)).state (head_then (step-went world.state event outcome)) room (subst HasCounts (sym same) counts_after) c.spelled) c.out c.known c.stored
    step false full =
        let same = ap (λ b. (cond b (ordered world.state (chosen tried outcome)) (frozen event world.state)).state) (sym full) in
        let silent = (returned-silent Frozen event).1 in
        subst (λ o. IsSound (record { state = world.state; rows = world.rows; errands = errands ++ option_to_list o })) (sym silent) (subst (λ ps. IsSound (record { state = world.state; rows = world.rows; errands = ps })) (sym (append-nil errands)) (sound_with (record { state = world.state; rows = world.rows; errands = errands }) same sound.bounded out sound.known_once sound.stored))

-- AN EVENT OF ITS OWN

base_of : (world : World) (errands : List PartyNotes) → IsSound world → are_out world.state errands ≡ true → Base world.rows errands (entered world.state)
base_of world errands sound out =
    let rows = to_says world.state world.rows sound.stored in
    record {
      apart = (sound_whole world sound).keys;
      spelled = (in_bounds world.state sound.bounded).spelled;
      known = sound.known_once;
      out = out;
      rising = rows.0;
      fits = rows.1;
      quiet = refl;
    }

pub next_fits : (world : World) → IsSound world → nat_lt world.state.head.entries world.state.head.limits.entries ≡ true → IsNextSpelled (entered world.state)
next_fits world sound room c there = next_spelled world.state c (in_bounds world.state sound.bounded) sound.numbered room there

pub event_sound : (world : World) (event : Event) (outcome : Outcome) → IsSound world → brings_no_party event ≡ true → IsSound (stepped event outcome world).world
event_sound world event outcome sound is =
    let whole = sound_whole world sound in
    let ends = event_whole world.state whole (sound_given world sound) sound.numbered event is in
    step_sound world world.errands event outcome sound ends sound.out (λ room.
    comes world.rows world.errands (entered world.state) (attempt event (entered world.state)) outcome (base_of world world.errands sound sound.out) ends
    (event_goes (entered world.state) (entered_whole world.state whole) (next_fits world sound room) event is))

-- A PARTY THAT COMES BACK

base_home : (world : World) (party back : PartyNotes) (errands : List PartyNotes) (a : Attempt) → IsSound world → are_out world.state (party ∷ errands) ≡ true → (home : CameHome party back (entered world.state) a) → Base world.rows errands (alter home.transaction.key (standing_at (Here back)) (entered world.state))
base_home world party back errands a sound out home =
    let t = home.transaction in
    let s = (entered world.state).state in
    let rows = to_says world.state world.rows sound.stored in
    let keys = (sound_whole world sound).keys in
    let spelled = (in_bounds world.state sound.bounded).spelled in
    let apart : are_distinct is_same (keys_of (placed t (Here back) s home.found).transactions) ≡ true = rw (keys_changed (has_key t.key) (standing_at (Here back)) world.state.transactions (λ u. refl)) keys in
    let fits : AreSpelled (placed t (Here back) s home.found) = all_changed (λ (u : Transaction). is_spelled u.key) (has_key t.key) (standing_at (Here back)) world.state.transactions (λ u is holds. holds) spelled in
    record {
      apart = apart;
      spelled = fits;
      known = from_known (placed t (Here back) s home.found) apart (placed_known t (Here back) s home.found (to_known s sound.known_once));
      out = out_here s party back t errands keys spelled fits home.found home.its out;
      rising = rows.0;
      fits = placed_says t (Here back) s home.found world.rows rows.1;
      quiet = refl;
    }

pub back_sound : (world : World) (party : PartyNotes) (errands : List PartyNotes) (back : Back) (outcome : Outcome) → IsSound world → are_out world.state (party ∷ errands) ≡ true → is_due world.state party ≡ true → IsSound (stepped (event_of party back) outcome (record world { errands = errands })).world
back_sound world party errands back outcome sound out due =
    let whole = sound_whole world sound in
    let a = attempt (event_of party back) (entered world.state) in
    let ends = back_whole world.state party back whole due in
    let awaited = due_awaited party (entered world.state).state due in
    let behind = out_behind world.state party errands out in
    step_sound world errands (event_of party back) outcome sound ends behind (λ room. step room a ends (back_goes (entered world.state) (entered_whole world.state whole) (next_fits world sound room) party back awaited) behind) where
      step : nat_lt world.state.head.entries world.state.head.limits.entries ≡ true → (a : Attempt) → Ends (λ v. Whole v.state) a → BackGoes party (back_of party back) (entered world.state) a → are_out world.state errands ≡ true → Comes (rows_after (wanted a) outcome world.rows) errands (chosen a outcome)
      step room a ends (inl is) behind = subst (λ a. Comes (rows_after (wanted a) outcome world.rows) errands (chosen a outcome)) (sym is) (stayed world.rows errands (entered world.state) (chosen (strange (back_of party back) (entered world.state)) outcome) (base_of world errands sound behind) refl refl)
      step room a ends (inr home) behind = comes world.rows errands (alter home.transaction.key (standing_at (Here (back_of party back))) (entered world.state)) a outcome (base_home world party (back_of party back) errands a sound out home) ends home.goes
