-- A process that ended has made a run.
use Rattle.std.proofs.Common.{◌≡◌, ◌++◌, ◌∷◌, ◌⊎◌, inl, inr, ℕ, Bool, true, false, List, [], Option, Some, None, map, option_map, append_assoc, refl, ap, sym, subst, ◌∙◌}
use Rattle.std.specs.Prelude.{◌&&◌, ◌||◌, not}
use Rattle.std.specs.List.{list_any}
use Rattle.std.specs.Option.{option_map_or, option_to_list}
use Rattle.std.specs.Str.{bytes_eq}
use Rattle.std.proofs.lemmas.Bool.{and_from, or_right, true≢false}
use Rattle.std.proofs.lemmas.List.Elements.{filter_map-append}
use Rattle.std.proofs.lemmas.List.Folds.{list_any-append}
use Rattle.tip_branch.specs.Notes.{PartyNotes}
use Rattle.tip_rows.specs.Keys.{Key}
use Rattle.tip_rows.specs.Logs.{IsPart, Log}
use Rattle.tip_rows.specs.declared.row.Row.{Row}
use Rattle.tip_stored.proofs.Parts.{part_after, part_stays}
use Rattle.tip_stored.specs.Keeping.{log_after}
use Rattle.tip_machine.specs.Agreement.Traces.{shown_in, traced}
use Rattle.tip_machine.specs.Agreement.Verdicts.{Verdict, is_abort, is_commit, is_unanimous, told, told_by}
use Rattle.tip_machine.specs.Honest.{brings_no_party, is_honest, is_run}
use Rattle.tip_machine.specs.Moves.{Move, World, gone_for, led_to, moved, rows_after, stepped}
use Rattle.tip_machine.specs.Outputs.{Output, brought, drops_of, outputs}
use Rattle.tip_machine.specs.Returns.{can_answer}
use Rattle.tip_machine.specs.Starting.{IsStart}
use Rattle.tip_machine.specs.Steps.{fits, step, wants}
use Rattle.tip_machine.specs.Types.{Event}
use Rattle.tip_machine.specs.declared.event.Change.{Change}
use Rattle.tip_machine.specs.declared.event.Outcome.{Outcome}
use Rattle.tip_machine.specs.declared.event.Outcome.TheVariants.{NoChange, Stored, Refused}
use Rattle.tip_machine.proofs.Stepping.{step-epoch}
use Rattle.tip_agreement.proofs.Runs.{led_on, run_on, run_one, shows_on, shows_one}
use Rattle.tip_agreement.proofs.Asked.{run_is_agreed}
use Rattle.tip_crash.specs.Crashes.{HasEnded, IsLeft, IsUnder, Under, Happens, Returns, move_of}

-- What a store leaves

-- where nothing but the log of before could be left
pub stops_at : {M X : Type 0} {Y : Type 0} → (M → X) → M ⊎ Y → X ⊎ Y
stops_at alone (inl before) = inl (alone before)
stops_at alone (inr changed) = inr changed

pub own_left : (name : List ℕ) (world : World) (event : Event) (log left : Log) → (left ≡ log) ⊎ (left ≡ log_after name (wants world.state event) Stored log) → IsPart log name world.state.head.epoch world.rows → (rows : List (Key × Row)) × IsPart left name world.state.head.epoch rows × IsLeft world event rows
own_left name world event log left (inl same) part = (world.rows, subst (λ l. IsPart l name world.state.head.epoch world.rows) (sym same) part, inl refl)
own_left name world event log left (inr changed) part = (
  rows_after (wants world.state event) Stored world.rows,
  subst (λ l. IsPart l name world.state.head.epoch (rows_after (wants world.state event) Stored world.rows)) (sym changed) (part_after name (wants world.state event) Stored log world.state.head.epoch world.rows part),
  inr refl,
)

pub others_left : (name : List ℕ) (change : Option Change) (log left : Log) → (left ≡ log) ⊎ (left ≡ log_after name change Stored log) → (other : List ℕ) (epoch : ℕ) (rows : List (Key × Row)) → bytes_eq name other ≡ false → IsPart log other epoch rows → IsPart left other epoch rows
others_left name change log left (inl same) other epoch rows differ part = subst (λ l. IsPart l other epoch rows) (sym same) part
others_left name change log left (inr changed) other epoch rows differ part = subst (λ l. IsPart l other epoch rows) (sym changed) (part_stays name change Stored log other epoch rows differ part)

-- What became of the change

-- the outcome that leaves these rows
pub outcome_for : (change : Option Change) (old rows : List (Key × Row)) → (rows ≡ old) ⊎ (rows ≡ rows_after change Stored old) → (outcome : Outcome) × (fits change outcome ≡ true) × (rows_after change outcome old ≡ rows)
outcome_for None old rows (inl same) = (NoChange, refl, sym same)
outcome_for None old rows (inr same) = (NoChange, refl, sym same)
outcome_for (Some change) old rows (inl same) = (Refused, refl, sym same)
outcome_for (Some change) old rows (inr same) = (Stored, refl, sym same)

rows_of : (event : Event) (outcome : Outcome) (world : World) → (stepped event outcome world).world.rows ≡ rows_after (wants world.state event) outcome world.rows
unfolding stepped
rows_of event outcome world = refl

epoch_of : (event : Event) (outcome : Outcome) (world : World) → (stepped event outcome world).world.state.head.epoch ≡ world.state.head.epoch
unfolding stepped
epoch_of event outcome world = step-epoch world.state event outcome

shown_of : (event : Event) (outcome : Outcome) (world : World) → (stepped event outcome world).shown ≡ outputs event (wants world.state event) outcome (step world.state event outcome).answer
unfolding stepped
shown_of event outcome world = refl

-- The last move

-- it is honest, leaves the rows, and shows what the event brought
pub record Last (world : World) (event : Event) (outcome : Outcome) (move : Move) : Type 0 where
  pub honest : is_honest move world ≡ true
  pub before : List Output
  pub behind : List Output
  pub shown : (moved move world).shown ≡ before ++ (brought event ++ behind)
  pub rows : (moved move world).world.rows ≡ rows_after (wants world.state event) outcome world.rows
  pub epoch : (moved move world).world.state.head.epoch ≡ world.state.head.epoch

shows_brought : (event : Event) (outcome : Outcome) (world : World) → (before : List Output) × (behind : List Output) × ((stepped event outcome world).shown ≡ before ++ (brought event ++ behind))
shows_brought event outcome world =
    let answer = (step world.state event outcome).answer in
    let refused = option_to_list (option_map Output.Refused answer.refusal) in
    let opened = option_to_list (option_map Output.Opened answer.opened) in
    let behind = option_to_list (option_map (λ change. Output.Changed change outcome) (wants world.state event)) ++ (map Output.Sent answer.sent ++ (option_to_list (option_map (λ (party : PartyNotes). Output.Works party.id party.errand) answer.work) ++ option_map_or drops_of answer.spent [])) in
    (refused ++ opened, behind, shown_of event outcome world ∙ sym (append_assoc refused opened (brought event ++ behind)))

last : (world : World) (under : Under) (event : Event) (outcome : Outcome) → IsUnder world under event → fits (wants world.state event) outcome ≡ true → Last world event outcome (move_of under outcome)
last world (Happens other) event outcome is fit =
    let shows = shows_brought event outcome world in
    subst (λ e. Last world event outcome (Move.Step e outcome)) is.0 (record {
      honest = and_from (brings_no_party event) _ (subst (λ e. brings_no_party e ≡ true) (sym is.0) is.1) fit;
      before = shows.0;
      behind = shows.1;
      shown = shows.2;
      rows = rows_of event outcome world;
      epoch = epoch_of event outcome world;
    })
last world (Returns place back) event outcome (party, errands, out, met, can) fit =
    let there : World = record world { errands = errands } in
    let shows = shows_brought event outcome there in
    let goes : moved (Move.Go place back outcome) world ≡ stepped event outcome there = ap (λ e. gone_for e back outcome world) out ∙ ap (λ e. stepped e outcome there) (sym met) in
    record {
      honest = rw out (and_from (can_answer party.errand back party.members) _ can (ap (λ e. fits (wants world.state e) outcome) (sym met) ∙ fit));
      before = shows.0;
      behind = shows.1;
      shown = ap (λ m. m.shown) goes ∙ shows.2;
      rows = ap (λ m. m.world.rows) goes ∙ rows_of event outcome there;
      epoch = ap (λ m. m.world.state.head.epoch) goes ∙ epoch_of event outcome there;
    }

-- What was told

not_both : (x y x' y' : Bool) → (x ≡ true → x' ≡ true) → (y ≡ true → y' ≡ true) → not (x' && y') ≡ true → not (x && y) ≡ true
not_both true true x' y' first second neither = absurd (true≢false (sym neither ∙ ap not (and_from x' y' (first refl) (second refl))))
not_both true false x' y' first second neither = refl
not_both false y x' y' first second neither = refl

among : (front before some behind : Bool) → (front || some) ≡ true → (front || (before || (some || behind))) ≡ true
among true before some behind is = refl
among false before true behind is = or_right before true refl
among false before false behind is = absurd (true≢false (sym is))

any_among : (p : Verdict → Bool) (front before some behind : List Verdict) → list_any p (front ++ some) ≡ true → list_any p (front ++ (before ++ (some ++ behind))) ≡ true
any_among p front before some behind is =
    list_any-append p front (before ++ (some ++ behind))
    ∙ ap (λ b. list_any p front || b) (list_any-append p before (some ++ behind) ∙ ap (λ b. list_any p before || b) (list_any-append p some behind))
    ∙ among (list_any p front) (list_any p before) (list_any p some) (list_any p behind) (sym (list_any-append p front some) ∙ is)

-- fewer verdicts are unanimous where more are
fewer : (front before some behind : List Verdict) → is_unanimous (front ++ (before ++ (some ++ behind))) ≡ true → is_unanimous (front ++ some) ≡ true
fewer front before some behind one = not_both _ _ _ _ (any_among is_commit front before some behind) (any_among is_abort front before some behind) one

told_fewer : (name id : List ℕ) (front before some behind : List Output) → is_unanimous (told name id (front ++ (before ++ (some ++ behind)))) ≡ true → is_unanimous (told name id (front ++ some)) ≡ true
told_fewer name id front before some behind one =
    let tell = told_by name id in
    let more : told name id (front ++ (before ++ (some ++ behind))) ≡ told name id front ++ (told name id before ++ (told name id some ++ told name id behind)) =
    filter_map-append tell front (before ++ (some ++ behind))
    ∙ ap (λ l. told name id front ++ l) (filter_map-append tell before (some ++ behind) ∙ ap (λ l. told name id before ++ l) (filter_map-append tell some behind)) in
    ap is_unanimous (filter_map-append tell front some) ∙ fewer (told name id front) (told name id before) (told name id some) (told name id behind) (sym (ap is_unanimous more) ∙ one)

-- The run

pub has_ended : (start : World) (moves : List Move) (under : Under) (event : Event) (rows : List (Key × Row)) → IsStart start → is_run start moves ≡ true → IsUnder (led_to start moves) under event → IsLeft (led_to start moves) event rows → HasEnded start moves under event rows
has_ended start moves under event rows starts run is left =
    let world = led_to start moves in
    let became = outcome_for (wants world.state event) world.rows rows left in
    let move = move_of under became.0 in
    let end = last world under event became.0 is became.1 in
    let whole : is_run start (moves ++ move ∷ []) ≡ true = run_on start moves (move ∷ []) run (run_one world move end.honest) in
    record {
      outcome = became.0;
      run = whole;
      left = ap (λ (w : World). w.rows) (led_on start moves (move ∷ [])) ∙ end.rows ∙ became.2;
      epoch = ap (λ (w : World). w.state.head.epoch) (led_on start moves (move ∷ [])) ∙ end.epoch;
      told_one = λ id. told_fewer start.state.head.name id (shown_in (traced start moves)) end.before (brought event) end.behind
          (sym (ap (λ l. is_unanimous (told start.state.head.name id l)) (shows_on start moves (move ∷ []) ∙ ap (λ l. shown_in (traced start moves) ++ l) (shows_one world move) ∙ ap (λ l. shown_in (traced start moves) ++ l) end.shown)) ∙ (run_is_agreed start (moves ++ move ∷ []) id starts whole).one);
      agreed = λ later next id. run_is_agreed start ((moves ++ move ∷ []) ++ later) id starts (run_on start (moves ++ move ∷ []) later whole next);
    }
