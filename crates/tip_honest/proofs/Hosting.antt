-- What happens at a host leaves all realms honest.
use Rattle.std.proofs.Common.{◌≡◌, ◌≢◌, ◌+◌, ◌++◌, ◌∷◌, ℕ, Bool, true, false, cond, List, [], Option, Some, None, refl, ap, arith, sym, subst, ◌∙◌, inl, inr}
use Rattle.std.specs.Prelude.{nat_lt, option_map, slice_get}
use Rattle.std.specs.Option.{option_to_list}
use Rattle.std.proofs.lemmas.Bool.{and_from, cases_eq}
use Rattle.std.proofs.lemmas.Bool.Decides.{nat_tests}
use Rattle.std.proofs.lemmas.Option.{none-some}
use Rattle.tip_branch.specs.Notes.{PartyNotes}
use Rattle.tip_branch.specs.declared.branch.Badge.{Badge}
use Rattle.tip_journal.proofs.HistoryLemmas.{slice_get-changed_at, slice_get-changed_other}
use Rattle.tip_journal.specs.Journal.{begun, with_entry}
use Rattle.tip_journal.specs.Journals.{with_current, with_last}
use Rattle.tip_machine.specs.Honest.{brings_no_party, can_start, is_honest}
use Rattle.tip_machine.specs.Moves.{Move, World, gone_for, loaded, lost_from, moved, picked, restarted_from, risen, rows_after, stepped}
use Rattle.tip_machine.specs.Recovery.{Loaded, restarted}
use Rattle.tip_machine.specs.Returns.{can_answer}
use Rattle.tip_machine.specs.Starting.{are_adopted}
use Rattle.tip_machine.specs.States.{State}
use Rattle.tip_machine.specs.Steps.{fits, is_open, step, wants}
use Rattle.tip_machine.specs.Types.{Event}
use Rattle.tip_machine.specs.declared.event.Outcome.{Outcome}
use Rattle.tip_machine.specs.declared.event.Outcome.TheVariants.{Stored}
use Rattle.tip_rows.specs.Keys.{Key}
use Rattle.tip_rows.specs.Logs.{last_epoch}
use Rattle.tip_rows.specs.declared.row.Row.{Row}
use Rattle.tip_honest.proofs.Agreed.{agreed_so}
use Rattle.tip_honest.proofs.Boxes.{adopted_so, loaded_again}
use Rattle.tip_honest.proofs.More.{honest_more}
use Rattle.tip_honest.specs.Hosts.{AreAllHonest, AreOthersKept, Brings, HasCome, HasHonestRun, IsEventOf, IsHonestAt, IsLost, IsRenewed, IsSame, Known}
use Rattle.tip_honest.specs.Honesty.{AreHonest, Journal, boxes_of, came_back, entered_in, next_of, noted}
use Rattle.tip_honest.specs.declared.entry.Entry.{Entry}

-- THE MOVE that an event is

abbrev pub entry_by : Event → Outcome → Entry
entry_by event outcome = record { event = event; outcome = outcome }

pub record IsMove (world : World) (event : Event) (outcome : Outcome) (left : List PartyNotes) : Type 0 where
  pub move : Move
  pub is : IsEventOf world.errands event outcome move
  pub honest : is_honest move world ≡ true
  pub goes : (moved move world).world ≡ (stepped event outcome (record world { errands = left })).world
  pub notes : (journals : List Journal) → noted move world journals ≡ cond (is_open world.state) (entered_in (Some (entry_by event outcome)) journals) journals

pub is_move : (world : World) (event : Event) (outcome : Outcome) (left : List PartyNotes) → Brings world.errands event left → fits (wants world.state event) outcome ≡ true → IsMove world event outcome left
is_move world event outcome left (inl (none, same)) fit = record {
  move = Move.Step event outcome;
  is = (none, refl, refl);
  honest = and_from (brings_no_party event) _ none fit;
  goes = ap (λ es. (stepped event outcome (record world { errands = es })).world) (sym same);
  notes = λ journals. refl;
}
is_move world event outcome left (inr (spot, party, back, out, can, is)) fit = record {
  move = Move.Go spot back outcome;
  is = (party, left, out, is, refl);
  honest = rw out (and_from (can_answer party.errand back party.members) _ can (ap (λ e. fits (wants world.state e) outcome) (sym is) ∙ fit));
  goes = ap (λ es. (gone_for es back outcome world).world) out ∙ ap (λ e. (stepped e outcome (record world { errands = left })).world) (sym is);
  notes = λ journals. ap (λ es. cond (is_open world.state) (entered_in (came_back es back outcome) journals) journals) out ∙ ap (λ e. cond (is_open world.state) (entered_in (Some (entry_by e outcome)) journals) journals) (sym is);
}

pub world_is : (event : Event) (outcome : Outcome) (world : World) → (stepped event outcome world).world ≡ record { state = (step world.state event outcome).state; rows = rows_after (wants world.state event) outcome world.rows; errands = world.errands ++ option_to_list (step world.state event outcome).answer.work }
unfolding stepped
world_is event outcome world = refl

-- AN EVENT, at one realm
pub honest_stepped : (state : State) (rows : List (Key × Row)) (out : List PartyNotes) (journals : List Journal) (event : Event) (outcome : Outcome) (left : List PartyNotes) → AreHonest (record { state = state; rows = rows; errands = out }) journals → Brings out event left → fits (wants state event) outcome ≡ true →
    AreHonest (record { state = (step state event outcome).state; rows = rows_after (wants state event) outcome rows; errands = left ++ option_to_list (step state event outcome).answer.work }) (cond (is_open state) (entered_in (Some (entry_by event outcome)) journals) journals)
honest_stepped state rows out journals event outcome left honest brings fit =
    let world : World = record { state = state; rows = rows; errands = out } in
    let move = is_move world event outcome left brings fit in
    subst (λ w. AreHonest w (cond (is_open state) (entered_in (Some (entry_by event outcome)) journals) journals)) (move.goes ∙ world_is event outcome (record world { errands = left })) (subst (AreHonest (moved move.move world).world) (move.notes journals) (honest_more world journals move.move honest move.honest))

-- The realm at hand

abbrev head_of : List PartyNotes → Option PartyNotes
head_of [] = None
head_of (party ∷ errands) = Some party

-- journals of a place, changed or not
pub taken : (b : Bool) (journals : List (List Journal)) (place : ℕ) (entry : Entry) (found : Option (List Journal)) → slice_get journals place ≡ found → slice_get (cond b (with_current place (with_entry entry) journals) journals) place ≡ option_map (λ js. cond b (entered_in (Some entry) js) js) found
taken true journals place entry found there = slice_get-changed_at journals place (with_last (with_entry entry)) ∙ ap (option_map (with_last (with_entry entry))) there
taken false journals place entry None there = there
taken false journals place entry (Some js) there = there

left_others : (b : Bool) (journals : List (List Journal)) (place other : ℕ) (entry : Entry) → other ≢ place → slice_get (cond b (with_current place (with_entry entry) journals) journals) other ≡ slice_get journals other
left_others true journals place other entry differ = slice_get-changed_other journals place other (with_last (with_entry entry)) differ
left_others false journals place other entry differ = refl

-- a realm of which all is as it was
pub same_at : (s s' : Option State) (out out' : List PartyNotes) (rows rows' : List (Key × Row)) (js js' : Option (List Journal)) → s' ≡ s → out' ≡ out → rows' ≡ rows → js' ≡ js → IsHonestAt s out rows js → IsHonestAt s' out' rows' js'
same_at s s' out out' rows rows' js js' state errands stored journals is =
    subst (λ x. IsHonestAt x out' rows' js') (sym state) (subst (λ x. IsHonestAt s x rows' js') (sym errands) (subst (λ x. IsHonestAt s out x js') (sym stored) (subst (IsHonestAt s out rows) (sym journals) is)))

module _ (old new : Known) (place : ℕ) (all : AreAllHonest old) where
  -- another realm, whose journals are as they were
  other_at : (other : ℕ) → AreOthersKept place old new → other ≢ place → slice_get new.journals other ≡ slice_get old.journals other → IsHonestAt (new.realm other) (new.out other) (new.rows other) (slice_get new.journals other)
  other_at other kept differ journals =
      let same = kept other differ in
      same_at (old.realm other) (new.realm other) (old.out other) (new.out other) (old.rows other) (new.rows other) (slice_get old.journals other) (slice_get new.journals other) same.0 same.1 same.2 journals (all other)

  -- what holds of the realm at hand and of each other holds of all
  all_from : IsHonestAt (new.realm place) (new.out place) (new.rows place) (slice_get new.journals place) → ((other : ℕ) → other ≢ place → IsHonestAt (new.realm other) (new.out other) (new.rows other) (slice_get new.journals other)) → AreAllHonest new
  all_from own others at = elim (cases_eq at place) [
    | inl same ↦ subst (λ p. IsHonestAt (new.realm p) (new.out p) (new.rows p) (slice_get new.journals p)) (sym same) own
    | inr differ ↦ others at differ
  ]

  -- AN EVENT
  pub all_stepped : (event : Event) (outcome : Outcome) (state : State) → HasCome old new place event outcome state → AreAllHonest new
  all_stepped event outcome state come =
      all_from (own (slice_get old.journals place) refl (subst (λ s. IsHonestAt s (old.out place) (old.rows place) (slice_get old.journals place)) come.here (all place)))
      (λ other differ. other_at other come.others differ (ap (λ js. slice_get js other) come.entered ∙ left_others (is_open state) old.journals place other (entry_by event outcome) differ)) where
        own : (found : Option (List Journal)) → slice_get old.journals place ≡ found → IsHonestAt (Some state) (old.out place) (old.rows place) found → IsHonestAt (new.realm place) (new.out place) (new.rows place) (slice_get new.journals place)
        own None there is = absurd is
        own (Some js) there honest =
            same_at (Some (step state event outcome).state) (new.realm place) (come.left ++ option_to_list (step state event outcome).answer.work) (new.out place) (rows_after (wants state event) outcome (old.rows place)) (new.rows place)
            (Some (cond (is_open state) (entered_in (Some (entry_by event outcome)) js) js)) (slice_get new.journals place) come.after come.out_is come.rows_are
            (ap (λ x. slice_get x place) come.entered ∙ taken (is_open state) old.journals place (entry_by event outcome) (Some js) there)
            (honest_stepped state (old.rows place) (old.out place) js event outcome come.left honest come.brings come.fit)

  -- A PARTY THAT IS LOST
  pub all_lost : IsLost old new place → AreAllHonest new
  all_lost lost =
      all_from (same_at (old.realm place) (new.realm place) (new.out place) (new.out place) (old.rows place) (new.rows place) (slice_get old.journals place) (slice_get new.journals place) lost.realm_is refl lost.rows_are (ap (λ js. slice_get js place) lost.same) (own (old.realm place) (slice_get old.journals place) (all place)))
      (λ other differ. other_at other lost.others differ (ap (λ js. slice_get js other) lost.same)) where
        quiet : (b : Bool) (js : List Journal) → cond b js js ≡ js
        quiet true js = refl
        quiet false js = refl

        own : (s : Option State) (found : Option (List Journal)) → IsHonestAt s (old.out place) (old.rows place) found → IsHonestAt s (new.out place) (old.rows place) found
        own None None is = absurd (none-some _ (ap head_of (sym (ap (picked lost.spot) is) ∙ lost.was)))
        own None (Some js) is = is
        own (Some state) None is = is
        own (Some state) (Some js) honest =
            let world : World = record { state = state; rows = old.rows place; errands = old.out place } in
            let went : (moved (Move.Lose lost.spot) world).world ≡ record { state = state; rows = old.rows place; errands = new.out place } = ap (λ es. (lost_from es world).world) lost.was in
            subst (λ w. AreHonest w js) went (subst (AreHonest (moved (Move.Lose lost.spot) world).world) (quiet (is_open state) js) (honest_more world js (Move.Lose lost.spot) honest refl))

  -- A REALM THAT IS RENEWED
  pub all_renewed : (state : State) (start : List Loaded) → IsRenewed old new place state start → AreAllHonest new
  all_renewed state start is =
      all_from (own (slice_get old.journals place) refl (subst (λ s. IsHonestAt s (old.out place) (old.rows place) (slice_get old.journals place)) is.here (all place)))
      (λ other differ. other_at other is.others differ (ap (λ x. slice_get x other) is.begun ∙ slice_get-changed_other old.journals place other begins differ)) where
        begins : List Journal → List Journal
        begins history = history ++ begun (state.head.epoch + 1) start ∷ []

        world : World
        world = record { state = state; rows = old.rows place; errands = old.out place }

        boxes : Key → List Badge
        boxes = boxes_of start

        loads : loaded boxes (old.rows place) ≡ start
        loads = ap (loaded boxes) (sym is.of_rows) ∙ loaded_again start is.rising

        can : can_start boxes world ≡ true
        can = and_from (nat_lt state.head.epoch last_epoch) (are_adopted boxes (old.rows place)) (let rises = is.rises in grind (arith, nat_tests)) (ap (are_adopted boxes) (sym is.of_rows) ∙ adopted_so start is.rising is.boxed)

        own : (found : Option (List Journal)) → slice_get old.journals place ≡ found → IsHonestAt (Some state) (old.out place) (old.rows place) found → IsHonestAt (new.realm place) (new.out place) (new.rows place) (slice_get new.journals place)
        own None there none = absurd none
        own (Some js) there honest =
            same_at (Some (restarted_from boxes world)) (new.realm place) (old.out place) (new.out place) (old.rows place) (new.rows place) (Some (js ++ next_of boxes world ∷ [])) (slice_get new.journals place)
            (is.after ∙ ap (λ l. Some (restarted (risen state.head) l)) (sym loads)) is.out_is is.rows_are
            (ap (λ x. slice_get x place) is.begun ∙ (slice_get-changed_at old.journals place begins ∙ ap (option_map begins) there) ∙ ap (λ l. Some (js ++ begun (state.head.epoch + 1) l ∷ [])) (sym loads))
            (honest_more world js (Move.Renew boxes Stored) honest can)

  -- AN EVENT OF A REALM THAT IS NOT THERE
  pub all_elsewhere : old.realm place ≡ None → new.realm place ≡ None → new.out place ≡ old.out place → new.journals ≡ old.journals → AreOthersKept place old new → AreAllHonest new
  all_elsewhere absent still out same kept =
      all_from (subst (λ s. IsHonestAt s (new.out place) (new.rows place) (slice_get new.journals place)) (sym still) (subst (λ js. IsHonestAt None (new.out place) (new.rows place) (slice_get js place)) (sym same) (none (slice_get old.journals place) (subst (λ s. IsHonestAt s (old.out place) (old.rows place) (slice_get old.journals place)) absent (all place)))))
      (λ other differ. other_at other kept differ (ap (λ js. slice_get js other) same)) where
        none : (found : Option (List Journal)) → IsHonestAt None (old.out place) (old.rows place) found → IsHonestAt None (new.out place) (new.rows place) found
        none None is = out ∙ is
        none (Some js) is = is

-- nothing has happened
pub all_same : (old new : Known) → IsSame old new → AreAllHonest old → AreAllHonest new
all_same old new same all at =
    same_at (old.realm at) (new.realm at) (old.out at) (new.out at) (old.rows at) (new.rows at) (slice_get old.journals at) (slice_get new.journals at) (same.realms at) (same.out at) (same.rows at) (ap (λ js. slice_get js at) same.journals) (all at)

-- what an honest realm's journals say
pub run_at : (known : Known) → AreAllHonest known → (place : ℕ) → HasHonestRun (known.realm place) (known.out place) (known.rows place) (slice_get known.journals place)
run_at known all place = by (known.realm place) (slice_get known.journals place) (all place) where
  by : (s : Option State) (found : Option (List Journal)) → IsHonestAt s (known.out place) (known.rows place) found → HasHonestRun s (known.out place) (known.rows place) found
  by None None is = is
  by None (Some js) is = is
  by (Some state) None is = is
  by (Some state) (Some js) is = record { honest = is; agreed = agreed_so _ js is }
