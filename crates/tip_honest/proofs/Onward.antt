-- An honest run that goes on, at a realm whose journals of earlier processes stand in front.
use Rattle.std.proofs.Common.{◌≡◌, ◌<◌, ◌++◌, ◌∷◌, ℕ, Bool, true, false, cond, List, [], Some, length, append-nil, append_assoc, arith, refl, ap, sym, subst, ◌∙◌}
use Rattle.std.specs.Option.{option_to_list}
use Rattle.tip_agreement.proofs.Runs.{led_on, run_on, run_one}
use Rattle.tip_branch.specs.Notes.{PartyNotes}
use Rattle.tip_branch.specs.declared.branch.Badge.{Badge}
use Rattle.tip_machine.specs.Honest.{can_start, is_honest}
use Rattle.tip_machine.specs.Moves.{Move, World, lost_from, moved, picked, restarted_from, rows_after}
use Rattle.tip_machine.specs.States.{State}
use Rattle.tip_machine.specs.Steps.{fits, is_open, step, wants}
use Rattle.tip_machine.specs.Types.{Event}
use Rattle.tip_machine.specs.declared.event.Outcome.{Outcome}
use Rattle.tip_machine.specs.declared.event.Outcome.TheVariants.{Stored}
use Rattle.tip_rows.specs.Keys.{Key}
use Rattle.tip_rows.specs.declared.row.Row.{Row}
use Rattle.tip_honest.proofs.Agreed.{agreed_so}
use Rattle.tip_honest.proofs.Chained.{after_some, may_behind}
use Rattle.tip_honest.proofs.Hosting.{entry_by, is_move, world_is}
use Rattle.tip_honest.proofs.More.{journals_on}
use Rattle.tip_honest.specs.Hosts.{Brings, GoesBy, GoesOn, IsEventOf}
use Rattle.tip_honest.specs.Honesty.{AreHonest, Journal, entered_in, next_of, noted}

-- Going on

-- as it is
pub goes_still : {world : World} {journals : List Journal} (before : AreHonest world journals) (now : World) (all : List Journal) → now ≡ world → all ≡ journals → GoesBy before now all (λ more. more ≡ [])
goes_still before now all same still =
    let honest : AreHonest now all = record { start = before.start; first = before.first; moves = before.moves; run = before.run; led = before.led ∙ sym same; kept = before.kept ∙ sym still } in
    (record { run = record { honest = honest; agreed = agreed_so now all honest }; from = refl; more = []; moves = sym (append-nil before.moves) }, refl)

-- by an honest move
pub goes_by : {world : World} {journals : List Journal} (before : AreHonest world journals) (move : Move) (now : World) (all : List Journal) → is_honest move world ≡ true → (moved move world).world ≡ now → noted move world journals ≡ all → GoesBy before now all (λ more. more ≡ move ∷ [])
goes_by {world = world} {journals = journals} before move now all honest leads notes =
    let honestly : AreHonest now all = record {
      start = before.start;
      first = before.first;
      moves = before.moves ++ move ∷ [];
      run = run_on before.start before.moves (move ∷ []) before.run (run_one _ move (ap (λ w. is_honest move w) before.led ∙ honest));
      led = led_on before.start before.moves (move ∷ []) ∙ ap (λ w. (moved move w).world) before.led ∙ leads;
      kept = journals_on before.start before.moves (move ∷ []) _ ∙ (λ i. noted move (before.led i) (before.kept i)) ∙ notes;
    } in
    (record { run = record { honest = honestly; agreed = agreed_so now all honestly }; from = refl; more = move ∷ []; moves = refl }, refl)

-- and on
pub goes_further : {world : World} {journals : List Journal} (before : AreHonest world journals) (mid : World) (some : List Journal) (now : World) (all : List Journal) (first : GoesOn before mid some) → (later : GoesOn first.run.honest now all) → GoesBy before now all (λ more. more ≡ first.more ++ later.more)
goes_further before mid some now all first later = (
  record {
    run = later.run;
    from = later.from ∙ first.from;
    more = first.more ++ later.more;
    moves = later.moves ∙ ap (λ m. m ++ later.more) first.moves ∙ append_assoc before.moves first.more later.more;
  },
  refl,
)

-- A realm has a journal

pub some_journal : (world : World) (journals : List Journal) → AreHonest world journals → 0 < length journals
some_journal world journals is = subst (λ (js : List Journal). 0 < length js) is.kept (after_some is.start is.moves _ (omega arith))

-- Each kind of move, with earlier journals in front

module _ (state : State) (rows : List (Key × Row)) (out : List PartyNotes) (earlier own : List Journal) (before : AreHonest (record { state = state; rows = rows; errands = out }) (earlier ++ own)) where
  -- an event
  pub event_goes : (event : Event) (outcome : Outcome) (left : List PartyNotes) → 0 < length own → Brings out event left → fits (wants state event) outcome ≡ true →
      GoesBy before (record { state = (step state event outcome).state; rows = rows_after (wants state event) outcome rows; errands = left ++ option_to_list (step state event outcome).answer.work }) (earlier ++ cond (is_open state) (entered_in (Some (entry_by event outcome)) own) own)
      (λ more. (move : Move) × IsEventOf out event outcome move × (more ≡ move ∷ []))
  event_goes event outcome left some brings fit =
      let move = is_move (record { state = state; rows = rows; errands = out }) event outcome left brings fit in
      let goes = goes_by before move.move _ _ move.honest
      (move.goes ∙ world_is event outcome (record { state = state; rows = rows; errands = left }))
      (move.notes (earlier ++ own) ∙ may_behind (is_open state) (Some (entry_by event outcome)) earlier own some) in
      (goes.0, (move.move, move.is, goes.1))

  quiet : (b : Bool) (js : List Journal) → cond b js js ≡ js
  quiet true js = refl
  quiet false js = refl

  -- a party that is lost
  pub loss_goes : (spot : ℕ) (party : PartyNotes) (rest : List PartyNotes) → picked spot out ≡ party ∷ rest → GoesBy before (record { state = state; rows = rows; errands = rest }) (earlier ++ own) (λ more. more ≡ Move.Lose spot ∷ [])
  loss_goes spot party rest was =
      goes_by before (Move.Lose spot) _ _ refl (ap (λ es. (lost_from es (record { state = state; rows = rows; errands = out })).world) was) (quiet (is_open state) (earlier ++ own))

  -- a renewal
  pub renewal_goes : (boxes : Key → List Badge) → can_start boxes (record { state = state; rows = rows; errands = out }) ≡ true →
      GoesBy before (record { state = restarted_from boxes (record { state = state; rows = rows; errands = out }); rows = rows; errands = out }) (earlier ++ (own ++ next_of boxes (record { state = state; rows = rows; errands = out }) ∷ [])) (λ more. more ≡ Move.Renew boxes Stored ∷ [])
  renewal_goes boxes can = goes_by before (Move.Renew boxes Stored) _ _ can refl (append_assoc earlier own _)

  -- a restart
  pub restart_goes : (boxes : Key → List Badge) → can_start boxes (record { state = state; rows = rows; errands = out }) ≡ true →
      GoesBy before (record { state = restarted_from boxes (record { state = state; rows = rows; errands = out }); rows = rows; errands = [] }) ((earlier ++ own) ++ next_of boxes (record { state = state; rows = rows; errands = out }) ∷ []) (λ more. more ≡ Move.Restart boxes ∷ [])
  restart_goes boxes can = goes_by before (Move.Restart boxes) _ _ can refl refl
