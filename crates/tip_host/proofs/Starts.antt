-- How many starts a realm has: no more than there are epochs.
use Rattle.std.proofs.Common.{◌≡◌, ◌≤◌, ◌<◌, ◌+◌, ◌-◌, ◌++◌, ◌∷◌, ℕ, Bool, true, false, cond, List, [], Option, Some, None, arith, length, length-append, refl, subst}
use Rattle.std.specs.Prelude.{nat_lt}
use Rattle.std.proofs.lemmas.Bool.{and_parts}
use Rattle.std.proofs.lemmas.Bool.Decides.{nat_tests}
use Rattle.tip_branch.specs.Notes.{PartyNotes}
use Rattle.tip_branch.specs.declared.branch.Badge.{Badge}
use Rattle.tip_honest.specs.Honesty.{AreHonest, Journal, came_back, entered_in, journals_after, next_of, noted}
use Rattle.tip_honest.specs.declared.entry.Entry.{Entry}
use Rattle.tip_journal.proofs.HistoryLemmas.{length-changed_at}
use Rattle.tip_journal.specs.Journal.{with_entry}
use Rattle.tip_machine.proofs.Stepping.{step-epoch}
use Rattle.tip_machine.specs.Honest.{can_start, is_honest, is_run}
use Rattle.tip_machine.specs.Moves.{Move, World, gone_for, led_to, lost_from, moved, picked, restarted_from, stepped}
use Rattle.tip_machine.specs.Returns.{event_of}
use Rattle.tip_machine.specs.Starting.{are_adopted}
use Rattle.tip_machine.specs.States.{State}
use Rattle.tip_machine.specs.Steps.{is_open, step}
use Rattle.tip_machine.specs.Types.{Event}
use Rattle.tip_machine.specs.declared.event.Outcome.{Outcome}
use Rattle.tip_machine.specs.declared.event.Outcome.TheVariants.{NoChange, Refused, Stored}
use Rattle.tip_rows.specs.Keys.{Key}
use Rattle.tip_rows.specs.Logs.{last_epoch}

-- no more journals than epochs, of those up to the realm's own and of all
record AreFew (state : State) (count : ℕ) : Type 0 where
  now : count ≤ state.head.epoch + 1
  ever : count ≤ last_epoch + 1

few_as : (state state' : State) (count count' : ℕ) → state'.head.epoch ≡ state.head.epoch → count' ≡ count → AreFew state count → AreFew state' count'
few_as state state' count count' epoch same is = record { now = omega (arith, is.now, epoch, same); ever = omega (arith, is.ever, same) }

-- an entry is no journal
length_entered : (entry : Option Entry) (journals : List Journal) → length (entered_in entry journals) ≡ length journals
length_entered None journals = refl
length_entered (Some entry) journals = length-changed_at journals (length journals - 1) (with_entry entry)

length_may : (b : Bool) (entry : Option Entry) (journals : List Journal) → length (cond b (entered_in entry journals) journals) ≡ length journals
length_may true entry journals = length_entered entry journals
length_may false entry journals = refl

few_event : (state : State) (event : Event) (outcome : Outcome) (entry : Option Entry) (journals : List Journal) → AreFew state (length journals) → AreFew (step state event outcome).state (length (cond (is_open state) (entered_in entry journals) journals))
few_event state event outcome entry journals is = few_as state (step state event outcome).state (length journals) _ (step-epoch state event outcome) (length_may (is_open state) entry journals) is

few_still : (state : State) (entry : Option Entry) (journals : List Journal) → AreFew state (length journals) → AreFew state (length (cond (is_open state) (entered_in entry journals) journals))
few_still state entry journals is = few_as state state (length journals) _ refl (length_may (is_open state) entry journals) is

-- a start is one, in the epoch after
few_anew : (boxes : Key → List Badge) (world : World) (journals : List Journal) → can_start boxes world ≡ true → AreFew world.state (length journals) → AreFew (restarted_from boxes world) (length (journals ++ next_of boxes world ∷ []))
few_anew boxes world journals can is =
    let long = length-append journals (next_of boxes world ∷ []) in
    let less = (and_parts (nat_lt world.state.head.epoch last_epoch) (are_adopted boxes world.rows) can).0 in
    let rises : world.state.head.epoch < last_epoch = grind (arith, nat_tests, less) in
    let epoch : (restarted_from boxes world).head.epoch ≡ world.state.head.epoch + 1 = refl in
    record { now = omega (arith, is.now, long, epoch); ever = omega (arith, is.now, long, rises) }

few_moved : (move : Move) (world : World) (journals : List Journal) → is_honest move world ≡ true → AreFew world.state (length journals) → AreFew (moved move world).world.state (length (noted move world journals))
unfolding stepped
few_moved (Move.Step event outcome) world journals honest is = few_event world.state event outcome (Some (record { event = event; outcome = outcome })) journals is
few_moved (Move.Go place back outcome) world journals honest is = gone (picked place world.errands) where
  gone : (errands : List PartyNotes) → AreFew (gone_for errands back outcome world).world.state (length (cond (is_open world.state) (entered_in (came_back errands back outcome) journals) journals))
  gone [] = few_still world.state None journals is
  gone (party ∷ errands) = few_event world.state (event_of party back) outcome (Some (record { event = event_of party back; outcome = outcome })) journals is
few_moved (Move.Lose place) world journals honest is = lost (picked place world.errands) where
  lost : (errands : List PartyNotes) → AreFew (lost_from errands world).world.state (length (cond (is_open world.state) (entered_in None journals) journals))
  lost [] = few_still world.state None journals is
  lost (party ∷ errands) = few_still world.state None journals is
few_moved (Move.Restart boxes) world journals honest is = few_anew boxes world journals honest is
few_moved (Move.Renew boxes Stored) world journals honest is = few_anew boxes world journals honest is
few_moved (Move.Renew boxes Refused) world journals honest is = few_still world.state None journals is
few_moved (Move.Renew boxes NoChange) world journals honest is = few_still world.state None journals is

few_led : (world : World) (moves : List Move) (journals : List Journal) → is_run world moves ≡ true → AreFew world.state (length journals) → AreFew (led_to world moves).state (length (journals_after world moves journals))
few_led world [] journals run is = is
few_led world (move ∷ moves) journals run is =
    let parts = and_parts (is_honest move world) (is_run (moved move world).world moves) run in
    few_led (moved move world).world moves (noted move world journals) parts.1 (few_moved move world journals parts.0 is)

-- an honest run leaves no more journals than there are epochs
pub few_starts : (world : World) (journals : List Journal) → AreHonest world journals → length journals ≤ last_epoch + 1
few_starts world journals is =
    subst (λ (js : List Journal). length js ≤ last_epoch + 1) is.kept
    (few_led is.start is.moves _ is.run (record { now = omega arith; ever = omega arith })).ever
