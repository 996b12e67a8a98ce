-- What a step leaves of a realm's counts, and what a refusal leaves.
use Rattle.std.proofs.Common.{◌≡◌, ◌≤◌, Bool, true, false, ℕ, ◌+◌, List, [], Some, None, cond, refl, ap, arith, sym, ◌∙◌, ◌⊎◌, inl, inr}
use Rattle.std.specs.Prelude.{IsSome, length}
use Rattle.std.proofs.lemmas.Option.{same_Some, none-some}
use Rattle.tip_branch.specs.declared.branch.Badge.{Badge}
use Rattle.tip_line.specs.declared.refusal.Refusal.{Refusal}
use Rattle.tip_line.specs.declared.refusal.Refusal.TheVariants.{Full, Frozen}
use Rattle.tip_machine.specs.Types.{Event}
use Rattle.tip_machine.specs.Heads.{IsCounted}
use Rattle.tip_machine.specs.Connections.{accepted}
use Rattle.tip_machine.specs.States.{Attempt, State, Work, has_place}
use Rattle.tip_machine.specs.Changes.{refuse}
use Rattle.tip_machine.specs.Order.{in_turn, ordered, turn}
use Rattle.tip_machine.specs.Requests.{added, dial, hand_back, opened}
use Rattle.tip_machine.specs.Steps.{attempt, chosen, entered, frozen, is_open, returned, step, wanted, wants, ChangesTheEntriesAlone, IsNext}
use Rattle.tip_machine.specs.declared.answer.Sent.{Sent}
use Rattle.tip_machine.specs.declared.connection.Purpose.{Purpose}
use Rattle.tip_machine.specs.declared.event.Event.TheVariants.{Open, Dial, Voted, Settled}
use Rattle.tip_machine.specs.declared.event.Outcome.{Outcome}
use Rattle.tip_machine.specs.declared.event.Outcome.TheVariants.{NoChange, Stored, Refused}
use Rattle.tip_machine.specs.declared.event.Seat.{Seat}
use Rattle.tip_machine.proofs.AttemptWalks.{each_event}
use Rattle.tip_machine.proofs.Walks.{Ends, chosen_ends, either, more_ends}
use Rattle.tip_machine.proofs.Keeping.{Goes, IsCalm, event-calm, event-goes, some_none}

-- a connection is counted, and its seat is told
pub record Opens (before after : Work) : Type 0 where
  pub head : after.state.head ≡ record before.state.head { given = before.state.head.given + 1 }
  pub opened : after.answer.opened ≡ Some (record { epoch = before.state.head.epoch; number = before.state.head.given + 1 })
  pub refusal : after.answer.refusal ≡ before.answer.refusal

abbrev pub Went : Work → Work → Type 0
Went before after = Goes before after ⊎ Opens before after

handed_back : (w : Work) (boxes : List Badge) → Went w (hand_back boxes (refuse Full w))
handed_back w boxes = inl (record { head = refl; opened = refl; quiet = λ some. record { state = refl; sent = refl; work = refl } })

opened-went : (boxes : List Badge) (w : Work) → Went w (opened boxes w)
unfolding opened added
opened-went boxes w = either (Went w) (has_place (length boxes) w.state) (added (accepted boxes) w) _ (inr (record { head = refl; opened = refl; refusal = refl })) (handed_back w boxes)

dial-went : (address : List ℕ) (purpose : Purpose) (boxes : List Badge) (w : Work) → Went w (dial address purpose boxes w)
unfolding dial added
dial-went address purpose boxes w = either (Went w) (has_place (length boxes) w.state) _ _ (inr (record { head = refl; opened = refl; refusal = refl })) (handed_back w boxes)

went_each : (w : Work) (a : Attempt) → Ends (Goes w) a → Ends (Went w) a
went_each w a goes = more_ends (Goes w) (Went w) (λ v gone. inl gone) a goes

attempt-went : (event : Event) (w : Work) → w.answer.refusal ≡ None → Ends (Went w) (attempt event w)
attempt-went event w none =
    each_event (λ event. Ends (Went w) (attempt event w))
    (λ boxes. opened-went boxes w)
    (λ address purpose boxes. dial-went address purpose boxes w)
    (λ event not. went_each w (attempt event w) (event-goes event w not none))
    event

-- no line has no order
ordered-none : (state : State) (sent none : List Sent) → none ≡ [] → sent ≡ none → in_turn (turn state) sent ≡ none
ordered-none state sent none is same = ap (in_turn (turn state)) (same ∙ is) ∙ sym is

ordered-went : (w : Work) (state : State) (v : Work) → w.answer.sent ≡ [] → Went w v → Went w (ordered state v)
unfolding ordered
ordered-went w state v none (inl goes) = inl (record {
  head = goes.head;
  opened = goes.opened;
  quiet = λ some. record {
    state = (goes.quiet some).state;
    sent = ordered-none state v.answer.sent w.answer.sent none (goes.quiet some).sent;
    work = (goes.quiet some).work;
  };
})
ordered-went w state v none (inr opens) = inr (record { head = opens.head; opened = opens.opened; refusal = opens.refusal })

-- an event that takes an entry goes from `entered`
pub step-went : (state : State) (event : Event) (outcome : Outcome) → Went (entered state) (ordered state (chosen (attempt event (entered state)) outcome))
step-went state event outcome = ordered-went (entered state) state _ refl (chosen_ends (Went (entered state)) (attempt event (entered state)) outcome (attempt-went event (entered state) refl))

returned-opened : (why : Refusal) (event : Event) → (returned why event).opened ≡ None
returned-opened why (Open boxes) = refl
returned-opened why (Dial address purpose boxes) = refl
returned-opened why (Voted party) = refl
returned-opened why (Settled party) = refl
returned-opened why other = refl

pub returned-refusal : (why : Refusal) (event : Event) → (returned why event).refusal ≡ Some why
returned-refusal why (Open boxes) = refl
returned-refusal why (Dial address purpose boxes) = refl
returned-refusal why (Voted party) = refl
returned-refusal why (Settled party) = refl
returned-refusal why other = refl

-- A refusal changes the entries alone

IsAlone : State → Work → Type 0
IsAlone state work = IsSome work.answer.refusal → ChangesTheEntriesAlone state work.state

went-alone : (state : State) (v : Work) → Went (entered state) v → IsAlone state v
unfolding IsAlone
went-alone state v (inl goes) = λ some. rw (goes.quiet some).state refl
went-alone state v (inr opens) = λ some. absurd (some_none v.answer.refusal opens.refusal some)

frozen-alone : (event : Event) (state : State) → IsAlone state (frozen event state)
unfolding IsAlone
frozen-alone event state = λ some. refl

quiet_step : (state : State) (event : Event) (outcome : Outcome) → IsAlone state (step state event outcome)
quiet_step state event outcome = either (IsAlone state) (is_open state) _ (frozen event state) (went-alone state _ (step-went state event outcome)) (frozen-alone event state)

pub quiet : (state : State) (event : Event) (outcome : Outcome) → IsSome (step state event outcome).answer.refusal → ChangesTheEntriesAlone state (step state event outcome).state
unfolding IsAlone
quiet state event outcome = quiet_step state event outcome

-- and it tells nothing, and sends no party out

pub returned-silent : (why : Refusal) (event : Event) → ((returned why event).sent ≡ []) × ((returned why event).work ≡ None)
returned-silent why (Open boxes) = (refl, refl)
returned-silent why (Dial address purpose boxes) = (refl, refl)
returned-silent why (Voted party) = (refl, refl)
returned-silent why (Settled party) = (refl, refl)
returned-silent why other = (refl, refl)

IsSilent : Work → Type 0
IsSilent work = IsSome work.answer.refusal → (work.answer.sent ≡ []) × (work.answer.work ≡ None)

went-silent : (state : State) (v : Work) → Went (entered state) v → IsSilent v
unfolding IsSilent
went-silent state v (inl goes) = λ some. ((goes.quiet some).sent, (goes.quiet some).work)
went-silent state v (inr opens) = λ some. absurd (some_none v.answer.refusal opens.refusal some)

frozen-silent : (event : Event) (state : State) → IsSilent (frozen event state)
unfolding IsSilent
frozen-silent event state = λ some. returned-silent Frozen event

silent_step : (state : State) (event : Event) (outcome : Outcome) → IsSilent (step state event outcome)
silent_step state event outcome = either IsSilent (is_open state) _ (frozen event state) (went-silent state _ (step-went state event outcome)) (frozen-silent event state)

pub silent : (state : State) (event : Event) (outcome : Outcome) → IsSome (step state event outcome).answer.refusal → ((step state event outcome).answer.sent ≡ []) × ((step state event outcome).answer.work ≡ None)
unfolding IsSilent
silent state event outcome = silent_step state event outcome

-- and wants no change

wants_nothing : (a : Attempt) (outcome : Outcome) (state : State) → IsCalm a → IsSome (ordered state (chosen a outcome)).answer.refusal → wanted a ≡ None
unfolding ordered
wants_nothing (Attempt.Done work) outcome state is some = refl
wants_nothing (Attempt.Asks change stored refused) Stored state is some = absurd (some_none stored.answer.refusal is.0 some)
wants_nothing (Attempt.Asks change stored refused) Refused state is some = absurd (some_none refused.answer.refusal is.1 some)
wants_nothing (Attempt.Asks change stored refused) NoChange state is some = absurd (some_none refused.answer.refusal is.1 some)

wants_or_not : (b : Bool) (a : Attempt) (outcome : Outcome) (state : State) (other : Work) → IsCalm a → IsSome (cond b (ordered state (chosen a outcome)) other).answer.refusal → cond b (wanted a) None ≡ None
wants_or_not true a outcome state other is some = wants_nothing a outcome state is some
wants_or_not false a outcome state other is some = refl

attempt-calm : (event : Event) (w : Work) → w.answer.refusal ≡ None → IsCalm (attempt event w)
attempt-calm event w none = each_event (λ event. IsCalm (attempt event w)) (λ boxes. tt) (λ address purpose boxes. tt) (λ event not. event-calm event w not none) event

pub wants_none : (state : State) (event : Event) (outcome : Outcome) → IsSome (step state event outcome).answer.refusal → wants state event ≡ None
wants_none state event outcome some = wants_or_not (is_open state) (attempt event (entered state)) outcome state (frozen event state) (attempt-calm event (entered state) refl) some

-- The name and the epoch of a realm stay

IsStill : State → Work → Type 0
IsStill state work = (work.state.head.name ≡ state.head.name) × (work.state.head.epoch ≡ state.head.epoch)

went-still : (state : State) (v : Work) → Went (entered state) v → IsStill state v
unfolding IsStill
went-still state v (inl goes) = (ap (λ h. h.name) goes.head, ap (λ h. h.epoch) goes.head)
went-still state v (inr opens) = (ap (λ h. h.name) opens.head, ap (λ h. h.epoch) opens.head)

frozen-still : (event : Event) (state : State) → IsStill state (frozen event state)
unfolding IsStill
frozen-still event state = (refl, refl)

still_step : (state : State) (event : Event) (outcome : Outcome) → IsStill state (step state event outcome)
still_step state event outcome = either (IsStill state) (is_open state) _ (frozen event state) (went-still state _ (step-went state event outcome)) (frozen-still event state)

pub step-named : (state : State) (event : Event) (outcome : Outcome) → (step state event outcome).state.head.name ≡ state.head.name
unfolding IsStill
step-named state event outcome = (still_step state event outcome).0

pub step-epoch : (state : State) (event : Event) (outcome : Outcome) → (step state event outcome).state.head.epoch ≡ state.head.epoch
unfolding IsStill
step-epoch state event outcome = (still_step state event outcome).1

-- Numbers of connections

Numbers : State → Work → Type 0
Numbers state work = (seat : Seat) → work.answer.opened ≡ Some seat → IsNext state seat × (work.state.head.given ≡ seat.number)

went-numbers : (state : State) (v : Work) → Went (entered state) v → Numbers state v
unfolding Numbers
went-numbers state v (inl goes) seat is = absurd (none-some seat (sym goes.opened ∙ is))
went-numbers state v (inr opens) seat is =
    let same = same_Some _ _ (sym opens.opened ∙ is) in
    (sym same, ap (λ h. h.given) opens.head ∙ ap (λ (s : Seat). s.number) same)

frozen-numbers : (event : Event) (state : State) → Numbers state (frozen event state)
unfolding Numbers
frozen-numbers event state seat is = absurd (none-some seat (sym (returned-opened Frozen event) ∙ is))

numbers_step : (state : State) (event : Event) (outcome : Outcome) → Numbers state (step state event outcome)
numbers_step state event outcome = either (Numbers state) (is_open state) _ (frozen event state) (went-numbers state _ (step-went state event outcome)) (frozen-numbers event state)

pub numbered : (state : State) (event : Event) (outcome : Outcome) (seat : Seat) → (step state event outcome).answer.opened ≡ Some seat → IsNext state seat × ((step state event outcome).state.head.given ≡ seat.number)
unfolding Numbers
numbered state event outcome = numbers_step state event outcome

-- Counts

IsRisen : State → Work → Type 0
IsRisen state work = state.head.given ≤ work.state.head.given

went-risen : (state : State) (v : Work) → Went (entered state) v → IsRisen state v
unfolding IsRisen
went-risen state v (inl goes) = rw goes.head (omega arith)
went-risen state v (inr opens) = rw opens.head (omega arith)

frozen-risen : (event : Event) (state : State) → IsRisen state (frozen event state)
unfolding IsRisen
frozen-risen event state = omega arith

risen_step : (state : State) (event : Event) (outcome : Outcome) → IsRisen state (step state event outcome)
risen_step state event outcome = either (IsRisen state) (is_open state) _ (frozen event state) (went-risen state _ (step-went state event outcome)) (frozen-risen event state)

pub rising : (state : State) (event : Event) (outcome : Outcome) → state.head.given ≤ (step state event outcome).state.head.given
unfolding IsRisen
rising state event outcome = risen_step state event outcome

IsCountedIn : Work → Type 0
IsCountedIn work = IsCounted work.state.head

went-counted : (state : State) (v : Work) → IsCounted state.head → Went (entered state) v → IsCountedIn v
unfolding IsCountedIn
went-counted state v le (inl goes) = rw goes.head (omega (arith, le))
went-counted state v le (inr opens) = rw opens.head (omega (arith, le))

frozen-counted : (event : Event) (state : State) → IsCounted state.head → IsCountedIn (frozen event state)
unfolding IsCountedIn
frozen-counted event state le = le

counted_step : (state : State) (event : Event) (outcome : Outcome) → IsCounted state.head → IsCountedIn (step state event outcome)
counted_step state event outcome le = either IsCountedIn (is_open state) _ (frozen event state) (went-counted state _ le (step-went state event outcome)) (frozen-counted event state le)

pub step-counted : (state : State) (event : Event) (outcome : Outcome) → IsCounted state.head → IsCounted (step state event outcome).state.head
unfolding IsCountedIn
step-counted state event outcome le = counted_step state event outcome le
