-- What each moment of an honest run is: an honest move of a sound world, in an epoch between the first and the last.
use Rattle.std.proofs.Common.{◌≡◌, ◌+◌, Bool, true, false, ℕ, List, [], ◌∷◌, ◌++◌, refl, ap, arith, subst, sym, ◌∙◌, ◌⊎◌, inl, inr}
use Rattle.std.specs.Prelude.{◌&&◌, ◌==◌, nat_le}
use Rattle.std.specs.List.{list_any}
use Rattle.std.proofs.lemmas.Bool.{and_parts, or_cases}
use Rattle.std.proofs.lemmas.Bool.Decides.{nat_tests}
use Rattle.tip_branch.specs.Notes.{PartyNotes}
use Rattle.tip_branch.specs.declared.branch.Badge.{Badge}
use Rattle.tip_rows.specs.Keys.{Key}
use Rattle.tip_rows.proofs.MemoryLemmas.{same_text}
use Rattle.tip_machine.specs.Agreement.{is_made_in}
use Rattle.tip_machine.specs.Agreement.Traces.{Moment, traced}
use Rattle.tip_machine.specs.Answers.{identifier}
use Rattle.tip_machine.specs.Honest.{is_honest, is_run}
use Rattle.tip_machine.specs.Invariants.{IsSound}
use Rattle.tip_machine.specs.Invariants.Bounds.{is_spelled}
use Rattle.tip_machine.specs.Moves.{Move, World, gone_for, led_to, lost_from, moved, picked, renewed, stepped}
use Rattle.tip_machine.specs.Returns.{Back, event_of}
use Rattle.tip_machine.specs.States.{State}
use Rattle.tip_machine.specs.Steps.{frozen, is_open, step}
use Rattle.tip_machine.specs.Transactions.{has_id}
use Rattle.tip_machine.specs.Types.{Event, Transaction}
use Rattle.tip_machine.specs.declared.event.Outcome.{Outcome}
use Rattle.tip_machine.specs.declared.event.Outcome.TheVariants.{NoChange, Refused, Stored}
use Rattle.tip_machine.specs.declared.head.Head.{Head}
use Rattle.tip_machine.proofs.Stepping.{step-went}
use Rattle.tip_machine.proofs.Walks.{either}
use Rattle.tip_agreement.proofs.Bounded.{in_bounds}
use Rattle.tip_agreement.proofs.Declared.{declared_moved}
use Rattle.tip_agreement.proofs.Keeping.{in_all, in_append}
use Rattle.tip_agreement.proofs.Kept.{moved_sound}
use Rattle.tip_agreement.proofs.Walking.{In}
use Rattle.tip_agreement.proofs.Witnessed.{moment_of}

-- Lists

pub some_in : {T : Type 0} (p : T → Bool) (xs : List T) → list_any p xs ≡ true → (x : T) × (In x xs) × (p x ≡ true)
some_in p [] is = absurd (let wrong : false ≡ true = is in cc)
some_in p (y ∷ ys) is = elim (or_cases (p y) (list_any p ys) is) [
  | inl here ↦ (y, inl refl, here)
  | inr later ↦ let of = some_in p ys later in (of.0, inr of.1, of.2)
]

-- THE EPOCH does not fall

no_less : (n : ℕ) → nat_le n n ≡ true
no_less n = grind (arith, nat_tests)

pub le_through : (a b c : ℕ) → nat_le a b ≡ true → nat_le b c ≡ true → nat_le a c ≡ true
le_through a b c first second = grind (arith, nat_tests, first, second)

one_more : (n : ℕ) → nat_le n (n + 1) ≡ true
one_more n = grind (arith, nat_tests)

abbrev Rises : World → World → Type 0
Rises old new = nat_le old.state.head.epoch new.state.head.epoch ≡ true

same_epoch : (old new : State) → new.head.epoch ≡ old.head.epoch → nat_le old.head.epoch new.head.epoch ≡ true
same_epoch old new same = subst (λ e. nat_le old.head.epoch e ≡ true) (sym same) (no_less old.head.epoch)

epoch_stepped : (state : State) (event : Event) (outcome : Outcome) → (step state event outcome).state.head.epoch ≡ state.head.epoch
epoch_stepped state event outcome = either (λ w. w.state.head.epoch ≡ state.head.epoch) (is_open state) _ (frozen event state) (elim (step-went state event outcome) [ inl goes ↦ ap (λ (h : Head). h.epoch) goes.head | inr opens ↦ ap (λ (h : Head). h.epoch) opens.head ]) refl

rises_stepped : (state : State) (event : Event) (outcome : Outcome) → nat_le state.head.epoch (step state event outcome).state.head.epoch ≡ true
rises_stepped state event outcome = same_epoch state (step state event outcome).state (epoch_stepped state event outcome)

rises_gone : (back : Back) (outcome : Outcome) (errands : List PartyNotes) (world : World) → Rises world (gone_for errands back outcome world).world
unfolding stepped
rises_gone back outcome [] world = no_less world.state.head.epoch
rises_gone back outcome (party ∷ errands) world = rises_stepped world.state (event_of party back) outcome

rises_lost : (errands : List PartyNotes) (world : World) → Rises world (lost_from errands world).world
rises_lost [] world = no_less world.state.head.epoch
rises_lost (party ∷ errands) world = no_less world.state.head.epoch

rises_renewed : (boxes : Key → List Badge) (outcome : Outcome) (world : World) → Rises world (renewed boxes outcome world).world
rises_renewed boxes Stored world = one_more world.state.head.epoch
rises_renewed boxes Refused world = no_less world.state.head.epoch
rises_renewed boxes NoChange world = no_less world.state.head.epoch

rises_moved : (move : Move) (world : World) → Rises world (moved move world).world
unfolding stepped
rises_moved (Move.Step event outcome) world = rises_stepped world.state event outcome
rises_moved (Move.Go place back outcome) world = rises_gone back outcome (picked place world.errands) world
rises_moved (Move.Lose place) world = rises_lost (picked place world.errands) world
rises_moved (Move.Restart boxes) world = one_more world.state.head.epoch
rises_moved (Move.Renew boxes outcome) world = rises_renewed boxes outcome world

pub rises_led : (world : World) (moves : List Move) → Rises world (led_to world moves)
rises_led world [] = no_less world.state.head.epoch
rises_led world (move ∷ moves) =
    let next = (moved move world).world in
    le_through world.state.head.epoch next.state.head.epoch (led_to next moves).state.head.epoch (rises_moved move world) (rises_led next moves)

-- EACH MOMENT of a run from a world to another

pub record IsMoment (first last : World) (m : Moment) : Type 0 where
  pub sound : IsSound m.world
  pub honest : is_honest m.move m.world ≡ true
  pub is : m ≡ moment_of m.move m.world
  pub name : m.world.state.head.name ≡ first.state.head.name
  pub branches : m.world.state.head.branches ≡ first.state.head.branches
  pub least : Rises first m.world
  pub most : Rises m.world last

pub each_moment : (world : World) (moves : List Move) → IsSound world → is_run world moves ≡ true → (m : Moment) → In m (traced world moves) → IsMoment world (led_to world moves) m
each_moment world [] sound run m is = absurd is
each_moment world (move ∷ moves) sound run m (inl same) =
    let parts = and_parts (is_honest move world) (is_run (moved move world).world moves) run in
    subst (IsMoment world (led_to world (move ∷ moves))) (sym same) (record { sound = sound; honest = parts.0; is = refl; name = refl; branches = refl; least = no_less world.state.head.epoch; most = rises_led world (move ∷ moves) })
each_moment world (move ∷ moves) sound run m (inr later) =
    let parts = and_parts (is_honest move world) (is_run (moved move world).world moves) run in
    let next = (moved move world).world in
    let rest = each_moment next moves (moved_sound move world sound parts.0) parts.1 m later in
    let kept = declared_moved move world in
    record {
      sound = rest.sound;
      honest = rest.honest;
      is = rest.is;
      name = rest.name ∙ ap (λ (h : Head). h.name) kept;
      branches = rest.branches ∙ ap (λ (h : Head). h.branches) kept;
      least = le_through world.state.head.epoch next.state.head.epoch m.world.state.head.epoch (rises_moved move world) rest.least;
      most = rest.most;
    }

-- WHAT IS MADE in it has a key of its epoch

pub record IsMade (realm id : List ℕ) (m : Moment) : Type 0 where
  pub key : Key
  pub spelled : is_spelled key ≡ true
  pub spells : id ≡ identifier realm key
  pub now : (key.epoch == m.world.state.head.epoch) ≡ true

pub made_here : (first last : World) (m : Moment) (id : List ℕ) → IsMoment first last m → is_made_in first.state.head.name id m ≡ true → IsMade first.state.head.name id m
made_here first last m id of is =
    let found = some_in (λ (t : Transaction). has_id first.state.head.name id t && (t.key.epoch == m.world.state.head.epoch)) (m.world.state.transactions ++ m.after.state.transactions) is in
    let t = found.0 in
    let parts = and_parts (has_id first.state.head.name id t) (t.key.epoch == m.world.state.head.epoch) found.2 in
    record { key = t.key; spelled = spelled t (in_append m.world.state.transactions m.after.state.transactions t found.1); spells = same_text id (identifier first.state.head.name t.key) parts.0; now = parts.1 } where
      after : World
      after = (moved m.move m.world).world

      there : (world : World) → IsSound world → (t : Transaction) → In t world.state.transactions → is_spelled t.key ≡ true
      there world sound t listed = in_all (λ (x : Transaction). is_spelled x.key) world.state.transactions t (in_bounds world.state sound.bounded).spelled listed

      spelled : (t : Transaction) → In t m.world.state.transactions ⊎ In t m.after.state.transactions → is_spelled t.key ≡ true
      spelled t (inl before) = there m.world of.sound t before
      spelled t (inr afterwards) = there after (moved_sound m.move m.world of.sound of.honest) t (subst (λ (x : Moment). In t x.after.state.transactions) of.is afterwards)
