-- What a realm at work has done.
use Rattle.std.proofs.Common.{◌≡◌, ◌∙◌, ◌++◌, ◌∷◌, [], ℕ, Bool, true, false, List, Option, Some, None, refl, ap, sym, subst}
use Rattle.std.specs.Prelude.{is_some, if◌then◌else◌}
use Rattle.std.specs.Option.{option_to_list}
use Rattle.std.specs.Str.{bytes_eq}
use Rattle.std.proofs.lemmas.List.{append-nil}
use Rattle.tip_core.specs.Hosted.{HaveNames, realm}
use Rattle.tip_rows.specs.Logs.{Keeping, Log}
use Rattle.tip_actor.proofs.Halting.{halts_as}
use Rattle.tip_actor.proofs.Serving.{itself}
use Rattle.tip_branch.specs.Notes.{PartyNotes}
use Rattle.tip_machine.proofs.Stepping.{step-epoch, step-named}
use Rattle.tip_machine.specs.Moves.{rows_after, stepped}
use Rattle.tip_machine.specs.Outputs.{drops_of, outputs}
use Rattle.tip_machine.specs.Returns.{event_of}
use Rattle.tip_machine.specs.States.{State}
use Rattle.tip_machine.specs.Steps.{step, wants}
use Rattle.tip_machine.specs.Types.{Answer, Event}
use Rattle.tip_transcript.specs.Printing.{idle_text, shown_text}
use Rattle.tip_actor.specs.Acting.{Acting, Done, Reading, after_sent, answer_in, drops_from, goes_for, happens, outcome_in, refuses, still_due, with_opened}
use Rattle.tip_actor.specs.Halting.{Halts, around}
use Rattle.tip_actor.specs.Promises.{answers_of, are_foretold}
use Rattle.tip_actor.specs.Standing.{Actor, AreReadings, Happened, StoredCore, IsActing, IsDone, IsServed, IsStored, Leaves, Serves, Tells}

module _ {S : Type 0} (kept : Keeping S) where
  -- nothing has happened to the other realms
  pub stays : (stored_core : StoredCore S) (place : ℕ) (name : List ℕ) → Leaves kept stored_core stored_core place name
  stays stored_core place name = record { realms = λ other differ. refl; due = λ other differ. refl; stored = λ other epoch rows differ stored. stored }

  pub leaves_on : (first second third : StoredCore S) (place : ℕ) (name : List ℕ) → Leaves kept first second place name → Leaves kept second third place name → Leaves kept first third place name
  leaves_on first second third place name before then_ = record {
    realms = λ other differ. then_.realms other differ ∙ before.realms other differ;
    due = λ other differ. then_.due other differ ∙ before.due other differ;
    stored = λ other epoch rows differ stored. then_.stored other epoch rows differ (before.stored other epoch rows differ stored);
  }

-- One event

shown_is : (event : Event) (acting : Acting) → (stepped event (outcome_in acting event) acting.world).shown ≡ outputs event (wants acting.world.state event) (outcome_in acting event) (answer_in acting event)
unfolding stepped
shown_is event acting = refl

state_is : (event : Event) (acting : Acting) → (stepped event (outcome_in acting event) acting.world).world.state ≡ (step acting.world.state event (outcome_in acting event)).state
unfolding stepped
state_is event acting = refl

errands_are : (event : Event) (acting : Acting) → (stepped event (outcome_in acting event) acting.world).world.errands ≡ acting.world.errands ++ option_to_list (answer_in acting event).work
unfolding stepped
errands_are event acting = refl

rows_are : (event : Event) (acting : Acting) → (stepped event (outcome_in acting event) acting.world).world.rows ≡ rows_after (wants acting.world.state event) (outcome_in acting event) acting.world.rows
unfolding stepped
rows_are event acting = refl

-- what is stored of the realm after an event is what its world says
rows_then : {S : Type 0} (kept : Keeping S) (store : S) (event : Event) (acting : Acting) → IsStored kept store acting.world.state.head.name acting.world.state.head.epoch (rows_after (wants acting.world.state event) (outcome_in acting event) acting.world.rows) → IsStored kept store (happens event acting).acting.world.state.head.name (happens event acting).acting.world.state.head.epoch (happens event acting).acting.world.rows
rows_then kept store event acting stored =
    let name = ap (λ (s : State). s.head.name) (state_is event acting) ∙ step-named acting.world.state event (outcome_in acting event) in
    let epoch = ap (λ (s : State). s.head.epoch) (state_is event acting) ∙ step-epoch acting.world.state event (outcome_in acting event) in
    subst (λ n. IsStored kept store n (happens event acting).acting.world.state.head.epoch (happens event acting).acting.world.rows) (sym name)
    (subst (λ e. IsStored kept store acting.world.state.head.name e (happens event acting).acting.world.rows) (sym epoch)
    (subst (λ r. IsStored kept store acting.world.state.head.name acting.world.state.head.epoch r) (sym (rows_are event acting)) stored))

-- without the oldest errand
abbrev pub popped : Acting → List PartyNotes → Acting
popped acting errands = record acting { world = record acting.world { errands = errands } }

-- the oldest errand is done
goes_by : (party : PartyNotes) (errands : List PartyNotes) (acting : Acting) (told : Bool) (event : Event) → are_foretold party ≡ told → Some event ≡ (if told then Some (event_of party (answers_of party)) else None) → goes_for (party ∷ errands) acting ≡ Some (happens event (popped acting errands))
goes_by party errands acting true event told is = rw told (ap (λ e. option_happens e) (sym is)) where
  option_happens : Option Event → Option Done
  option_happens None = None
  option_happens (Some e) = Some (happens e (popped acting errands))
goes_by party errands acting false event told is = absurd (cc)

goes_not : (party : PartyNotes) (errands : List PartyNotes) (acting : Acting) (told : Bool) → are_foretold party ≡ told → None ≡ (if told then Some (event_of party (answers_of party)) else None) → goes_for (party ∷ errands) acting ≡ None
goes_not party errands acting true told is = absurd (cc)
goes_not party errands acting false told is = rw told refl

module _ {S : Type 0} (kept : Keeping S) where
  pub has_happened : (stored_core stored_core' : StoredCore S) (place : ℕ) (actor actor' : Actor) (event : Event) (happened : Happened) (printed printed' : List ℕ) (acting : Acting) → IsActing kept stored_core place actor acting →
      (IsServed kept stored_core place acting.world.state actor.is_due → Serves kept stored_core stored_core' place acting.world.state actor.is_due event happened) →
      printed' ≡ printed ++ shown_text actor.name (outputs event happened.change happened.outcome happened.answer) →
      actor'.name ≡ actor.name → actor'.is_due ≡ still_due actor.is_due happened.change →
      ((readings : List Reading) → AreReadings actor.readers.items readings → AreReadings actor'.readers.items (with_opened happened.answer.opened (after_sent happened.answer.sent readings))) →
      actor'.errands.items ≡ actor.errands.items ++ option_to_list happened.answer.work →
      IsDone kept stored_core stored_core' place actor actor' printed printed' (happens event acting)
  has_happened stored_core stored_core' place actor actor' event happened printed printed' acting is serves text name due readings errands =
      let went = subst (λ d. Serves kept stored_core stored_core' place acting.world.state d event happened) is.own.due (serves (subst (IsServed kept stored_core place acting.world.state) (sym is.own.due) is.served)) in
      record {
        own = record {
          served = subst (λ s. IsServed kept stored_core' place s (still_due acting.due (wants acting.world.state event))) (sym (state_is event acting)) went.served;
          stored = rows_then kept stored_core'.store event acting (went.stored acting.world.state.head.epoch acting.world.rows is.stored);
          named = ap (λ (s : _). s.head.name) (state_is event acting) ∙ step-named acting.world.state event (outcome_in acting event) ∙ is.named;
          own = record {
            name = name ∙ is.own.name;
            errands = errands ∙ ap (λ l. l ++ option_to_list happened.answer.work) is.own.errands ∙ ap (λ (a : Answer). acting.world.errands ++ option_to_list a.work) went.answer ∙ sym (errands_are event acting);
            due = due ∙ ap (λ d. still_due d happened.change) is.own.due ∙ ap (still_due acting.due) went.change;
            readings = subst (λ (a : Answer). AreReadings actor'.readers.items (with_opened a.opened (after_sent a.sent acting.readings))) went.answer (readings acting.readings is.own.readings);
          };
        };
        leaves = subst (Leaves kept stored_core stored_core' place) (is.named ∙ sym is.own.name) went.leaves;
        name = name;
        text = text ∙ ap (λ n. printed ++ shown_text n (outputs event happened.change happened.outcome happened.answer)) is.own.name ∙ ap (λ c. printed ++ shown_text acting.name (outputs event c happened.outcome happened.answer)) went.change ∙ ap (λ o. printed ++ shown_text acting.name (outputs event (wants acting.world.state event) o happened.answer)) went.outcome ∙ ap (λ a. printed ++ shown_text acting.name (outputs event (wants acting.world.state event) (outcome_in acting event) a)) went.answer ∙ ap (λ o. printed ++ shown_text acting.name o) (sym (shown_is event acting));
      }

  -- it has happened, whatever became of its text
  pub has_begun : (stored_core stored_core' : StoredCore S) (place : ℕ) (actor : Actor) (event : Event) (happened : Happened) (acting : Acting) → IsActing kept stored_core place actor acting →
      (IsServed kept stored_core place acting.world.state actor.is_due → Serves kept stored_core stored_core' place acting.world.state actor.is_due event happened) → Halts kept stored_core.store stored_core'.store actor.name (around (Some (happens event acting)) acting)
  has_begun stored_core stored_core' place actor event happened acting is serves =
      let went = subst (λ d. Serves kept stored_core stored_core' place acting.world.state d event happened) is.own.due (serves (subst (IsServed kept stored_core place acting.world.state) (sym is.own.due) is.served)) in
      let now = (happens event acting).acting in
      let named : now.world.state.head.name ≡ acting.name = ap (λ (s : State). s.head.name) (state_is event acting) ∙ step-named acting.world.state event (outcome_in acting event) ∙ is.named in
      record {
        point = 1;
        named = sym is.own.name;
        own = subst (λ n. IsStored kept stored_core'.store n now.world.state.head.epoch now.world.rows) named (rows_then kept stored_core'.store event acting (went.stored acting.world.state.head.epoch acting.world.rows is.stored));
        others = (subst (Leaves kept stored_core stored_core' place) (is.named ∙ sym is.own.name) went.leaves).stored;
      }

  -- Errands

  pub idle : (stored_core : StoredCore S) (place : ℕ) (actor : Actor) (printed printed' : List ℕ) (acting : Acting) → IsActing kept stored_core place actor acting → printed' ≡ printed ++ idle_text actor.name → IsDone kept stored_core stored_core place actor actor printed printed' (record { printed = idle_text acting.name; acting = acting })
  idle stored_core place actor printed printed' acting is text = record { own = is; leaves = stays kept stored_core place actor.name; name = refl; text = text ∙ ap (λ n. printed ++ idle_text n) is.own.name }

  pub pops : (stored_core : StoredCore S) (place : ℕ) (actor actor' : Actor) (acting : Acting) (errands : List PartyNotes) → IsActing kept stored_core place actor acting → actor'.name ≡ actor.name → actor'.is_due ≡ actor.is_due → actor'.readers ≡ actor.readers → actor'.errands.items ≡ errands → IsActing kept stored_core place actor' (popped acting errands)
  pops stored_core place actor actor' acting errands is name due readers left = record {
    served = is.served;
    stored = is.stored;
    named = is.named;
    own = record {
      name = name ∙ is.own.name;
      errands = left;
      due = due ∙ is.own.due;
      readings = subst (λ r. AreReadings r.items acting.readings) (sym readers) is.own.readings;
    };
  }

  pub has_dropped : (stored_core : StoredCore S) (place : ℕ) (actor actor' : Actor) (printed printed' : List ℕ) (acting : Acting) (party : PartyNotes) (errands : List PartyNotes) → IsActing kept stored_core place actor acting → actor.errands.items ≡ party ∷ errands → actor'.name ≡ actor.name → actor'.is_due ≡ actor.is_due → actor'.readers ≡ actor.readers → actor'.errands.items ≡ errands → printed' ≡ printed ++ shown_text actor.name (drops_of party) → IsDone kept stored_core stored_core place actor actor' printed printed' (drops_from acting.world.errands acting)
  has_dropped stored_core place actor actor' printed printed' acting party errands is out name due readers left text =
      subst (λ l. IsDone kept stored_core stored_core place actor actor' printed printed' (drops_from l acting)) (sym out ∙ is.own.errands) (record {
        own = pops stored_core place actor actor' acting errands is name due readers left;
        leaves = stays kept stored_core place actor.name;
        name = name;
        text = text ∙ ap (λ n. printed ++ shown_text n (drops_of party)) is.own.name;
      })

  pub has_none_to_drop : (stored_core : StoredCore S) (place : ℕ) (actor actor' : Actor) (printed printed' : List ℕ) (acting : Acting) → IsActing kept stored_core place actor acting → actor.errands.items ≡ [] → actor'.name ≡ actor.name → actor'.is_due ≡ actor.is_due → actor'.readers ≡ actor.readers → actor'.errands.items ≡ [] → printed' ≡ printed ++ idle_text actor.name → IsDone kept stored_core stored_core place actor actor' printed printed' (drops_from acting.world.errands acting)
  has_none_to_drop stored_core place actor actor' printed printed' acting is out name due readers left text =
      subst (λ l. IsDone kept stored_core stored_core place actor actor' printed printed' (drops_from l acting)) (sym out ∙ is.own.errands) (record {
        own = subst (λ l. IsActing kept stored_core place actor' (popped acting l)) (sym out ∙ is.own.errands) (pops stored_core place actor actor' acting [] is name due readers left);
        leaves = stays kept stored_core place actor.name;
        name = name;
        text = text ∙ ap (λ n. printed ++ idle_text n) is.own.name;
      })

  pub has_gone : (stored_core stored_core' : StoredCore S) (place : ℕ) (actor mid actor' : Actor) (printed printed' : List ℕ) (acting : Acting) (party : PartyNotes) (errands : List PartyNotes) (event : Event) → IsActing kept stored_core place actor acting → actor.errands.items ≡ party ∷ errands → mid.name ≡ actor.name → mid.is_due ≡ actor.is_due → mid.readers ≡ actor.readers → mid.errands.items ≡ errands →
      Some event ≡ (if are_foretold party then Some (event_of party (answers_of party)) else None) → ((a : Acting) → IsActing kept stored_core place mid a → IsDone kept stored_core stored_core' place mid actor' printed printed' (happens event a)) →
      Tells kept stored_core stored_core' place actor actor' printed printed' true (goes_for acting.world.errands acting)
  has_gone stored_core stored_core' place actor mid actor' printed printed' acting party errands event is out name due readers left is_event acts =
      let done = acts (popped acting errands) (pops stored_core place actor mid acting errands is name due readers left) in
      subst (λ l. Tells kept stored_core stored_core' place actor actor' printed printed' true (goes_for l acting)) (sym out ∙ is.own.errands)
      (subst (Tells kept stored_core stored_core' place actor actor' printed printed' true) (sym (goes_by party errands acting (are_foretold party) event refl is_event))
      (record { own = done.own; leaves = subst (Leaves kept stored_core stored_core' place) name done.leaves; name = done.name ∙ name; text = done.text }))

  -- however far it has come
  pub has_gone_so_far : (stored_core : StoredCore S) (new : S) (place : ℕ) (actor mid : Actor) (acting : Acting) (party : PartyNotes) (errands : List PartyNotes) (event : Event) → IsActing kept stored_core place actor acting → actor.errands.items ≡ party ∷ errands → mid.name ≡ actor.name → mid.is_due ≡ actor.is_due → mid.readers ≡ actor.readers → mid.errands.items ≡ errands →
      Some event ≡ (if are_foretold party then Some (event_of party (answers_of party)) else None) → ((a : Acting) → IsActing kept stored_core place mid a → Halts kept stored_core.store new mid.name (around (Some (happens event a)) a)) → Halts kept stored_core.store new actor.name (around (goes_for acting.world.errands acting) acting)
  has_gone_so_far stored_core new place actor mid acting party errands event is out name due readers left is_event halts =
      let done = happens event (popped acting errands) in
      let goes : goes_for acting.world.errands acting ≡ Some done = ap (λ l. goes_for l acting) (sym is.own.errands ∙ out) ∙ goes_by party errands acting (are_foretold party) event refl is_event in
      subst (λ g. Halts kept stored_core.store new actor.name (around g acting)) (sym goes)
      (halts_as kept stored_core.store new mid.name actor.name (popped acting errands) acting done done name refl (λ s. s) refl (λ s. s) (halts (popped acting errands) (pops stored_core place actor mid acting errands is name due readers left)))

  pub has_not_gone : (stored_core stored_core' : StoredCore S) (place : ℕ) (actor actor' : Actor) (printed : List ℕ) (acting : Acting) (party : PartyNotes) (errands : List PartyNotes) → IsActing kept stored_core place actor acting → actor.errands.items ≡ party ∷ errands → None ≡ (if are_foretold party then Some (event_of party (answers_of party)) else None) → Tells kept stored_core stored_core' place actor actor' printed printed false (goes_for acting.world.errands acting)
  has_not_gone stored_core stored_core' place actor actor' printed acting party errands is out none =
      subst (λ l. Tells kept stored_core stored_core' place actor actor' printed printed false (goes_for l acting)) (sym out ∙ is.own.errands)
      (subst (Tells kept stored_core stored_core' place actor actor' printed printed false) (sym (goes_not party errands acting (are_foretold party) refl none)) refl)

  pub has_none_to_go : (stored_core : StoredCore S) (place : ℕ) (actor actor' : Actor) (printed printed' : List ℕ) (acting : Acting) → IsActing kept stored_core place actor acting → actor.errands.items ≡ [] → actor'.name ≡ actor.name → actor'.is_due ≡ actor.is_due → actor'.readers ≡ actor.readers → actor'.errands.items ≡ [] → printed' ≡ printed ++ idle_text actor.name → Tells kept stored_core stored_core place actor actor' printed printed' true (goes_for acting.world.errands acting)
  has_none_to_go stored_core place actor actor' printed printed' acting is out name due readers left text =
      subst (λ l. Tells kept stored_core stored_core place actor actor' printed printed' true (goes_for l acting)) (sym out ∙ is.own.errands) (record {
        own = subst (λ l. IsActing kept stored_core place actor' (popped acting l)) (sym out ∙ is.own.errands) (pops stored_core place actor actor' acting [] is name due readers left);
        leaves = stays kept stored_core place actor.name;
        name = name;
        text = text ∙ ap (λ n. printed ++ idle_text n) is.own.name;
      })

  -- Refusals

  -- the next change is to be refused, where the store can be asked for that
  pub has_refused : (stored_core stored_core' : StoredCore S) (place : ℕ) (actor actor' : Actor) (printed : List ℕ) (acting : Acting) → IsActing kept stored_core place actor acting → stored_core'.core ≡ stored_core.core → actor'.name ≡ actor.name → actor'.readers ≡ actor.readers → actor'.errands ≡ actor.errands → actor'.is_due ≡ true →
      ((log : Log) → kept.stands stored_core.store log → kept.stands stored_core'.store log) → ((log : Log) → kept.stands stored_core.store log → (r : List ℕ) → kept.is_due stored_core'.store r ≡ (if bytes_eq actor.name r then is_some (log.epochs r) else kept.is_due stored_core.store r)) → IsDone kept stored_core stored_core' place actor actor' printed printed (refuses acting)
  has_refused stored_core stored_core' place actor actor' printed acting is core name readers errands due stands demanded =
      let own_name : actor.name ≡ acting.world.state.head.name = is.own.name ∙ sym is.named in
      record {
        own = record {
          served = record {
            state_is = ap (λ c. realm c place) core ∙ is.served.state_is;
            names = subst HaveNames (sym core) is.served.names;
            due_is = ap (kept.is_due stored_core'.store) (sym own_name) ∙ demanded is.stored.log is.stored.stood actor.name ∙ ap (λ b. if b then is_some (is.stored.log.epochs actor.name) else kept.is_due stored_core.store actor.name) (itself actor.name) ∙ ap (λ n. is_some (is.stored.log.epochs n)) own_name ∙ is.stored.known;
          };
          stored = record { log = is.stored.log; stood = stands is.stored.log is.stored.stood; part = is.stored.part; known = is.stored.known };
          named = is.named;
          own = record {
            name = name ∙ is.own.name;
            errands = ap (λ e. e.items) errands ∙ is.own.errands;
            due = due;
            readings = subst (λ r. AreReadings r.items acting.readings) (sym readers) is.own.readings;
          };
        };
        leaves = record {
          realms = λ other differ. ap (λ c. realm c other) core;
          due = λ other differ. demanded is.stored.log is.stored.stood other ∙ ap (λ b. if b then is_some (is.stored.log.epochs other) else kept.is_due stored_core.store other) differ;
          stored = λ other epoch rows differ stored. record { log = stored.log; stood = stands stored.log stored.stood; part = stored.part; known = stored.known };
        };
        name = name;
        text = sym (append-nil printed);
      }
