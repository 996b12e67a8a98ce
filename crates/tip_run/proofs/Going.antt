-- The honest run of each realm goes on, move by move.
use Rattle.std.proofs.Common.{◌≡◌, ◌≢◌, ◌<◌, ◌+◌, ◌++◌, ◌∷◌, ◌∙◌, ℕ, true, cond, List, [], Option, Some, None, arith, length, map, ◌⊎◌, inl, inr, refl, ap, subst, sym}
use Rattle.std.specs.Prelude.{nat_lt, option_map, slice_get, unwrap_or}
use Rattle.std.specs.Option.{option_to_list}
use Rattle.std.proofs.lemmas.Bool.{and_from, cases_eq, true≢false}
use Rattle.std.proofs.lemmas.Bool.Decides.{nat_tests}
use Rattle.std.proofs.lemmas.Option.{none-some, same_Some}
use Rattle.tip_branch.specs.Notes.{PartyNotes}
use Rattle.tip_branch.specs.declared.branch.Badge.{Badge}
use Rattle.tip_core.specs.Hosted.{realm}
use Rattle.tip_honest.proofs.Boxes.{adopted_so, loaded_again}
use Rattle.tip_honest.proofs.Hosting.{entry_by, taken}
use Rattle.tip_honest.proofs.Onward.{event_goes, goes_further, goes_still, loss_goes, renewal_goes, restart_goes}
use Rattle.tip_honest.specs.Honesty.{AreHonest, Journal, boxes_of, entered_in, next_of}
use Rattle.tip_honest.specs.Hosts as Honest
use Rattle.tip_host.specs.Books.{out_of}
use Rattle.tip_host.specs.Entries.{bare}
use Rattle.tip_host.specs.Hosts.{Serves, known}
use Rattle.tip_journal.specs.Journal.{begun}
use Rattle.tip_journal.proofs.HistoryLemmas.{slice_get-changed_at}
use Rattle.tip_kept.specs.Keeping.{rows_at}
use Rattle.tip_branch.specs.declared.member.Errand.{Errand}
use Rattle.tip_branch.specs.declared.member.Errand.TheVariants as errand
use Rattle.tip_machine.specs.Honest.{brings_no_party, can_start}
use Rattle.tip_machine.specs.Moves as Machine
use Rattle.tip_machine.specs.Moves.{World, loaded, picked, restarted_from, risen, rows_after}
use Rattle.tip_machine.specs.Recovery.{restarted}
use Rattle.tip_machine.specs.Returns.{Back, back_from, back_of, event_of}
use Rattle.tip_machine.specs.Starting.{are_adopted}
use Rattle.tip_machine.specs.States.{State}
use Rattle.tip_machine.specs.Steps.{is_open, step, wants}
use Rattle.tip_machine.specs.Types.{Event}
use Rattle.tip_machine.specs.declared.event.Outcome.{Outcome}
use Rattle.tip_machine.specs.declared.event.Outcome.TheVariants.{Stored}
use Rattle.tip_recovery.specs.Adopting as Adopting
use Rattle.tip_rows.specs.Logs.{Keeping, last_epoch}
use Rattle.tip_stored.specs.Loading.{spec_of}
use Rattle.tip_table.specs.Kept.{of}
use Rattle.tip_run.proofs.Growing.{earlier_more, others_stay}
use Rattle.tip_run.proofs.MoveKinds.{Kind}
use Rattle.tip_run.proofs.Begun.{has_started}
use Rattle.tip_run.proofs.Taking.{alone, none_left, same_out}
use Rattle.tip_run.specs.Moves.{AreRestarted, ComesBack, HasTaken, IsLost, IsRenewed, Move}
use Rattle.tip_run.specs.Refined.{IsGo, IsLoss, IsRenewal, IsRestart, IsStep, IsTo, OnlyIf}
use Rattle.tip_run.specs.Running.{HasJournal, IsAtRest, Running, earlier_of, journals_of, world_at}
use Rattle.tip_run.specs.Runs.{GoesOn, Stores, is_restart}
use Rattle.tip_run.specs.declared.shown.Said.{Said}
use Rattle.tip_run.specs.declared.shown.Shown.{Shown}

-- A realm's journals, in front its earlier ones

-- those of a realm that is there
record Has {S : Type 0} (running : Running S) (place : ℕ) (journals : List Journal) : Type 0 where
  own : List Journal
  are : slice_get (bare running.host.books.journals) place ≡ Some own
  parts : earlier_of running.earlier place ++ own ≡ journals

has : {S : Type 0} (running : Running S) (place : ℕ) (journals : List Journal) → journals_of running place ≡ Some journals → Has running place journals
has running place journals are = by (slice_get (bare running.host.books.journals) place) refl are where
  by : (found : Option (List Journal)) → slice_get (bare running.host.books.journals) place ≡ found → option_map (λ own. earlier_of running.earlier place ++ own) found ≡ Some journals → Has running place journals
  by None there is = absurd (none-some journals is)
  by (Some own) there is = record { own = own; are = there; parts = same_Some _ journals is }

-- Where a run goes on to the same, under another name
goes_as : {world : World} {journals : List Journal} (before : AreHonest world journals) (now now' : World) (all all' : List Journal) (by : List Machine.Move → Type 0) → now' ≡ now → all' ≡ all → Honest.GoesBy before now all by → Honest.GoesBy before now' all' by
goes_as before now now' all all' by same still goes = subst (λ w. Honest.GoesBy before w all' by) (sym same) (subst (λ a. Honest.GoesBy before now a by) (sym still) goes)

-- What an event is

-- who comes back does so by no event of another
brings_one : (errand : Errand) (party : PartyNotes) → brings_no_party (back_from errand party) ≡ true → ⊥
brings_one errand.Vote party none = true≢false (sym none)
brings_one errand.Idle party none = true≢false (sym none)
brings_one errand.Commit party none = true≢false (sym none)
brings_one errand.Abort party none = true≢false (sym none)

step_so : (out : List PartyNotes) (event : Event) (outcome outcome' : Outcome) → outcome' ≡ outcome → brings_no_party event ≡ true → (one : Machine.Move) → Honest.IsEventOf out event outcome one → IsStep event outcome' one
step_so out event outcome outcome' same none (Machine.Move.Step first became) is = λ i. Machine.Move.Step (is.1 i) ((is.2 ∙ sym same) i)
step_so out event outcome outcome' same none (Machine.Move.Go place back became) is = absurd (brings_one is.0.errand (back_of is.0 back) (subst (λ e. brings_no_party e ≡ true) is.3 none))
step_so out event outcome outcome' same none (Machine.Move.Lose place) is = absurd is
step_so out event outcome outcome' same none (Machine.Move.Restart boxes) is = absurd is
step_so out event outcome outcome' same none (Machine.Move.Renew boxes became) is = absurd is

go_so : (out : List PartyNotes) (party : PartyNotes) (back : Back) (outcome outcome' : Outcome) → outcome' ≡ outcome → (one : Machine.Move) → Honest.IsEventOf out (event_of party back) outcome one → IsGo outcome' one
go_so out party back outcome outcome' same (Machine.Move.Step first became) is = absurd (brings_one party.errand (back_of party back) is.0)
go_so out party back outcome outcome' same (Machine.Move.Go place again became) is = (place, again, ap (Machine.Move.Go place again) (is.4 ∙ sym same))
go_so out party back outcome outcome' same (Machine.Move.Lose place) is = absurd is
go_so out party back outcome outcome' same (Machine.Move.Restart boxes) is = absurd is
go_so out party back outcome outcome' same (Machine.Move.Renew boxes became) is = absurd is

-- a move of another realm is none
none_of : (here place : ℕ) (is : Machine.Move → Type 0) → place ≢ here → OnlyIf (here ≡ place) is []
none_of here place is differ = inl (λ at. differ (sym at), refl)

module _ {S : Type 0} (kept : Keeping S) where
  -- A realm of which all is as it was
  stays : (old new : Running S) (place : ℕ) (state : State) (journals : List Journal) → realm old.host.stored.core place ≡ Some state → journals_of old place ≡ Some journals → (before : AreHonest (world_at old place state) journals) →
      realm new.host.stored.core place ≡ realm old.host.stored.core place → rows_at new.host.books.rows place ≡ rows_at old.host.books.rows place → out_of new.host.books place ≡ out_of old.host.books place → slice_get (bare new.host.books.journals) place ≡ slice_get (bare old.host.books.journals) place → new.earlier ≡ old.earlier → (by : List Machine.Move → Type 0) → by [] → GoesOn new place before by
  stays old new place state journals here are before same rows out own earlier by none = record {
    state = state;
    here = same ∙ here;
    all = journals;
    journals_are = (λ i. option_map (λ js. earlier_of (earlier i) place ++ js) (own i)) ∙ are;
    goes = let still = goes_still before (world_at new place state) journals (λ i. record { state = state; rows = rows i; errands = out i }) refl in (still.0, subst by (sym still.1) none);
  }

  -- AN EVENT
  module _ (old new : Running S) (here : ℕ) (event : Event) (back : Option PartyNotes) (reply : _) (serves : Serves kept old.host new.host old.noted new.noted here event back reply) (earlier : new.earlier ≡ old.earlier) (begun : (p : ℕ) → HasJournal (realm old.host.stored.core p) (slice_get (bare old.host.books.journals) p)) (is : Machine.Move → Type 0) (so : (one : Machine.Move) → Honest.IsEventOf (out_of old.host.books here) event reply.outcome one → is one) where
    own_goes : (state : State) (journals : List Journal) → realm old.host.stored.core here ≡ Some state → journals_of old here ≡ Some journals → (before : AreHonest (world_at old here state) journals) → GoesOn new here before (OnlyIf (here ≡ here) is)
    own_goes state journals there are before =
        let have = has old here journals are in
        let come = serves.comes state there in
        let front = earlier_of old.earlier here in
        let entry = entry_by event reply.outcome in
        let some : 0 < length have.own = subst (HasJournal (Some state)) have.are (subst (λ s. HasJournal s (slice_get (bare old.host.books.journals) here)) there (begun here)) in
        let now : World = record { state = (step state event reply.outcome).state; rows = rows_after (wants state event) reply.outcome (rows_at old.host.books.rows here); errands = come.left ++ option_to_list (step state event reply.outcome).answer.work } in
        let all = front ++ cond (is_open state) (entered_in (Some entry) have.own) have.own in
        let by = OnlyIf (here ≡ here) is in
        let goes : (was : AreHonest (world_at old here state) (front ++ have.own)) → Honest.GoesBy was now all by = λ was.
        let go = event_goes state (rows_at old.host.books.rows here) (out_of old.host.books here) front have.own was event reply.outcome come.left some come.brings come.fit in
        let of : (one : Machine.Move) × Honest.IsEventOf (out_of old.host.books here) event reply.outcome one × (go.0.more ≡ one ∷ []) = go.1 in
        (go.0, subst by (sym of.2) (inr (refl, of.0, so of.0 of.1, refl))) in
        record {
          state = (step state event reply.outcome).state;
          here = come.after;
          all = all;
          journals_are = (λ i. option_map (λ js. earlier_of (earlier i) here ++ js) (slice_get (bare new.host.books.journals) here)) ∙ ap (option_map (λ js. front ++ js)) (ap (λ js. slice_get js here) come.entered ∙ taken (is_open state) (bare old.host.books.journals) here entry (Some have.own) have.are);
          goes = goes_as before now (world_at new here (step state event reply.outcome).state) all all by (λ i. record { state = (step state event reply.outcome).state; rows = come.rows_are i; errands = come.out_is i }) refl (subst (λ js. (was : AreHonest (world_at old here state) js) → Honest.GoesBy was now all by) have.parts goes before);
        }

    pub event_goes_on : (place : ℕ) (state : State) (journals : List Journal) → realm old.host.stored.core place ≡ Some state → journals_of old place ≡ Some journals → (before : AreHonest (world_at old place state) journals) → GoesOn new place before (OnlyIf (here ≡ place) is)
    event_goes_on place state journals there are before = by (cases_eq place here) where
      by : (place ≡ here) ⊎ (place ≢ here) → GoesOn new place before (OnlyIf (here ≡ place) is)
      by (inl same) = subst (λ p. (state : State) (journals : List Journal) → realm old.host.stored.core p ≡ Some state → journals_of old p ≡ Some journals → (before : AreHonest (world_at old p state) journals) → GoesOn new p before (OnlyIf (here ≡ p) is)) (sym same) own_goes state journals there are before
      by (inr differ) =
          let kept_so = serves.elsewhere place differ in
          stays old new place state journals there are before kept_so.0 kept_so.2 kept_so.1 (others_stay _ (bare old.host.books.journals) (bare new.host.books.journals) old.noted new.noted here _ reply.entry serves.enters place differ) earlier (OnlyIf (here ≡ place) is) (none_of here place is differ)

  -- A PARTY THAT IS TAKEN OUT: nothing has happened
  pub taken_goes_on : (old new : Running S) (here : ℕ) (found : Option PartyNotes) → HasTaken old new here found → (place : ℕ) (state : State) (journals : List Journal) → realm old.host.stored.core place ≡ Some state → journals_of old place ≡ Some journals → (before : AreHonest (world_at old place state) journals) (by : List Machine.Move → Type 0) → by [] → GoesOn new place before by
  taken_goes_on old new here found is place state journals there are before by none =
      stays old new place state journals there are before
      (ap (λ (r : Running S). realm r.host.stored.core place) is.rest) (ap (λ (r : Running S). rows_at r.host.books.rows place) is.rest) (same_out old new here found is place)
      (ap (λ (r : Running S). slice_get (bare r.host.books.journals) place) is.rest) (ap (λ (r : Running S). r.earlier) is.rest) by none

  -- one after another
  pub further : (mid new : Running S) (place : ℕ) {world : World} {journals : List Journal} (before : AreHonest world journals) (first_by then_by by : List Machine.Move → Type 0) → ((some more : List Machine.Move) → first_by some → then_by more → by (some ++ more)) → (first : GoesOn mid place before first_by) → ((was : AreHonest (world_at mid place first.state) first.all) → GoesOn new place was then_by) → GoesOn new place before by
  further mid new place before first_by then_by by both first then =
      let later = then first.goes.0.run.honest in
      let whole = goes_further before (world_at mid place first.state) first.all (world_at new place later.state) later.all first.goes.0 later.goes.0 in
      record { state = later.state; here = later.here; all = later.all; journals_are = later.journals_are; goes = (whole.0, subst by (sym whole.1) (both first.goes.0.more later.goes.0.more first.goes.1 later.goes.1)) }

  -- by moves of which more is known
  as_moves : (new : Running S) (place : ℕ) {world : World} {journals : List Journal} (before : AreHonest world journals) (by by' : List Machine.Move → Type 0) → ((moves : List Machine.Move) → by moves → by' moves) → GoesOn new place before by → GoesOn new place before by'
  as_moves new place before by by' so goes = record { state = goes.state; here = goes.here; all = goes.all; journals_are = goes.journals_are; goes = (goes.goes.0, so goes.goes.0.more goes.goes.1) }

  -- A PARTY THAT COMES BACK
  returned_goes_on : (old new : Running S) (here : ℕ) (said : Said) → IsAtRest old.host → ComesBack kept old new here said → (place : ℕ) (state : State) (journals : List Journal) → realm old.host.stored.core place ≡ Some state → journals_of old place ≡ Some journals → (before : AreHonest (world_at old place state) journals) → GoesOn new place before (OnlyIf (here ≡ place) (IsGo said.outcome))
  returned_goes_on old new here said rest is place state journals there are before =
      let mid = is.between in
      let by = OnlyIf (here ≡ place) (IsGo said.outcome) in
      let first = taken_goes_on old mid here (Some is.sent) is.taken place state journals there are before (λ moves. moves ≡ []) refl in
      further mid new place before (λ moves. moves ≡ []) by by (λ some more none so. subst (λ moves. by (moves ++ more)) (sym none) so) first (λ was. event_goes_on mid new here _ (Some is.sent) is.comes.reply is.comes.serves is.comes.earlier
      (λ p. subst (λ (r : Running S). HasJournal (realm r.host.stored.core p) (slice_get (bare r.host.books.journals) p)) (sym is.taken.rest) (rest.begun p))
      (IsGo said.outcome) (go_so (out_of mid.host.books here) is.sent is.back is.comes.reply.outcome said.outcome (ap (λ (s : Said). s.outcome) is.comes.says))
      place first.state first.all first.here first.journals_are was)

  -- A PARTY THAT IS LOST
  lost_goes_on : (old new : Running S) (here : ℕ) (party : PartyNotes) → IsAtRest old.host → IsLost old new here party → (place : ℕ) (state : State) (journals : List Journal) → realm old.host.stored.core place ≡ Some state → journals_of old place ≡ Some journals → (before : AreHonest (world_at old place state) journals) → GoesOn new place before (OnlyIf (here ≡ place) IsLoss)
  lost_goes_on old new here party rest is place state journals there are before = by (cases_eq place here) where
    realm_is : realm new.host.stored.core place ≡ realm old.host.stored.core place
    realm_is = ap (λ (r : Running S). realm r.host.stored.core place) is.rest ∙ ap (λ (r : Running S). realm r.host.stored.core place) is.taken.rest

    rows_are : rows_at new.host.books.rows place ≡ rows_at old.host.books.rows place
    rows_are = ap (λ (r : Running S). rows_at r.host.books.rows place) is.rest ∙ ap (λ (r : Running S). rows_at r.host.books.rows place) is.taken.rest

    own_is : slice_get (bare new.host.books.journals) place ≡ slice_get (bare old.host.books.journals) place
    own_is = ap (λ (r : Running S). slice_get (bare r.host.books.journals) place) is.rest ∙ ap (λ (r : Running S). slice_get (bare r.host.books.journals) place) is.taken.rest

    earlier_is : new.earlier ≡ old.earlier
    earlier_is = ap (λ (r : Running S). r.earlier) is.rest ∙ ap (λ (r : Running S). r.earlier) is.taken.rest

    work_is : (p : ℕ) → of new.host.books.work p ≡ of is.between.host.books.work p
    work_is p = ap (λ (r : Running S). of r.host.books.work p) is.rest

    by : (place ≡ here) ⊎ (place ≢ here) → GoesOn new place before (OnlyIf (here ≡ place) IsLoss)
    by (inr differ) = stays old new place state journals there are before realm_is rows_are ((λ i. is.others place differ i ++ work_is place i) ∙ same_out old is.between here (Some party) is.taken place) own_is earlier_is (OnlyIf (here ≡ place) IsLoss) (none_of here place IsLoss differ)
    by (inl at) =
        let have = has old place journals are in
        let front = earlier_of old.earlier place in
        let gone : of new.host.books.out here ≡ [] = is.lost ∙ none_left party (of is.between.host.books.out here) (alone old is.between here (Some party) is.taken rest.taken) in
        let out : out_of new.host.books here ≡ of is.between.host.books.work here = (λ i. gone i ++ work_is here i) in
        let was_out : out_of old.host.books here ≡ party ∷ of is.between.host.books.work here = ap (λ o. o ++ of old.host.books.work here) (rest.taken here) ∙ is.taken.takes.waited in
        let picks : picked 0 (out_of old.host.books place) ≡ party ∷ out_of new.host.books place = ap (λ p. picked 0 (out_of old.host.books p)) at ∙ ap (picked 0) was_out ∙ ap (λ o. party ∷ o) (sym out) ∙ ap (λ p. party ∷ out_of new.host.books p) (sym at) in
        let now : World = record { state = state; rows = rows_at old.host.books.rows place; errands = out_of new.host.books place } in
        let lost_by = OnlyIf (here ≡ place) IsLoss in
        let goes : (was : AreHonest (world_at old place state) (front ++ have.own)) → Honest.GoesBy was now (front ++ have.own) lost_by = λ was.
        let go = loss_goes state (rows_at old.host.books.rows place) (out_of old.host.books place) front have.own was 0 party (out_of new.host.books place) picks in
        (go.0, subst lost_by (sym go.1) (inr (sym at, Machine.Move.Lose 0, refl, refl))) in
        record {
          state = state;
          here = realm_is ∙ there;
          all = front ++ have.own;
          journals_are = (λ i. option_map (λ js. earlier_of (earlier_is i) place ++ js) (own_is i)) ∙ ap (option_map (λ js. front ++ js)) have.are;
          goes = goes_as before now (world_at new place state) (front ++ have.own) (front ++ have.own) lost_by (λ i. record { state = state; rows = rows_are i; errands = out_of new.host.books place }) refl (subst (λ js. (was : AreHonest (world_at old place state) js) → Honest.GoesBy was now (front ++ have.own) lost_by) have.parts goes before);
        }

  -- A RENEWAL
  renewed_goes_on : (old new : Running S) (here : ℕ) (boxes : List (List Badge)) → IsRenewed kept old new here boxes → (place : ℕ) (state : State) (journals : List Journal) → realm old.host.stored.core place ≡ Some state → journals_of old place ≡ Some journals → (before : AreHonest (world_at old place state) journals) → GoesOn new place before (OnlyIf (here ≡ place) IsRenewal)
  renewed_goes_on old new here boxes is place state journals there are before = by (cases_eq place here) where
    by : (place ≡ here) ⊎ (place ≢ here) → GoesOn new place before (OnlyIf (here ≡ place) IsRenewal)
    by (inr differ) =
        let kept_so = is.renewed.others place differ in
        stays old new place state journals there are before kept_so.0 kept_so.2 kept_so.1 (is.others.journals place differ) is.earlier (OnlyIf (here ≡ place) IsRenewal) (none_of here place IsRenewal differ)
    by (inl at) = subst (λ p. (state : State) (journals : List Journal) → realm old.host.stored.core p ≡ Some state → journals_of old p ≡ Some journals → (before : AreHonest (world_at old p state) journals) → GoesOn new p before (OnlyIf (here ≡ p) IsRenewal)) (sym at) its_own state journals there are before where
      its_own : (state : State) (journals : List Journal) → realm old.host.stored.core here ≡ Some state → journals_of old here ≡ Some journals → (before : AreHonest (world_at old here state) journals) → GoesOn new here before (OnlyIf (here ≡ here) IsRenewal)
      its_own state journals there are before =
          let have = has old here journals are in
          let front = earlier_of old.earlier here in
          let rows = rows_at old.host.books.rows here in
          let again : Honest.IsRenewed (known old.host) (known new.host) here state (map Adopting.loaded is.recovery.rows) = subst (λ s. Honest.IsRenewed (known old.host) (known new.host) here s (map Adopting.loaded is.recovery.rows)) (same_Some is.state state (sym is.renewed.here ∙ there)) is.renewed in
          let start = map Adopting.loaded is.recovery.rows in
          let gave = boxes_of start in
          let loads : loaded gave rows ≡ start = ap (loaded gave) (sym again.of_rows) ∙ loaded_again start again.rising in
          let can : can_start gave (world_at old here state) ≡ true = and_from (nat_lt state.head.epoch last_epoch) (are_adopted gave rows) (let rises = again.rises in grind (arith, nat_tests)) (ap (are_adopted gave) (sym again.of_rows) ∙ adopted_so start again.rising again.boxed) in
          let now : World = record { state = restarted_from gave (world_at old here state); rows = rows; errands = out_of old.host.books here } in
          let all = front ++ (have.own ++ next_of gave (world_at old here state) ∷ []) in
          let renewed_by = OnlyIf (here ≡ here) IsRenewal in
          let goes : (was : AreHonest (world_at old here state) (front ++ have.own)) → Honest.GoesBy was now all renewed_by = λ was.
          let go = renewal_goes state rows (out_of old.host.books here) front have.own was gave can in
          (go.0, subst renewed_by (sym go.1) (inr (refl, Machine.Move.Renew gave Stored, (gave, refl), refl))) in
          let begins : List Journal → List Journal = λ history. history ++ begun (state.head.epoch + 1) start ∷ [] in
          record {
            state = restarted (risen state.head) start;
            here = again.after;
            all = front ++ (have.own ++ begun (state.head.epoch + 1) start ∷ []);
            journals_are = (λ i. option_map (λ js. earlier_of (is.earlier i) here ++ js) (slice_get (bare new.host.books.journals) here))
                ∙ ap (option_map (λ js. front ++ js)) (ap (λ js. slice_get js here) again.begun ∙ slice_get-changed_at (bare old.host.books.journals) here begins ∙ ap (option_map begins) have.are);
            goes = goes_as before now (world_at new here (restarted (risen state.head) start)) all (front ++ (have.own ++ begun (state.head.epoch + 1) start ∷ [])) renewed_by
                (λ i. record { state = restarted (risen state.head) (sym loads i); rows = again.rows_are i; errands = again.out_is i })
                (λ i. front ++ (have.own ++ begun (state.head.epoch + 1) (sym loads i) ∷ []))
                (subst (λ js. (was : AreHonest (world_at old here state) js) → Honest.GoesBy was now all renewed_by) have.parts goes before);
          }

  -- A RESTART, where the store has the realm's rows
  restarted_goes_on : (old new : Running S) (boxes : List (List (List Badge))) → AreRestarted kept old new boxes → kept.is_true new.host.stored.store → (place : ℕ) → Stores kept old place → (state : State) (journals : List Journal) → realm old.host.stored.core place ≡ Some state → journals_of old place ≡ Some journals → (before : AreHonest (world_at old place state) journals) → GoesOn new place before IsRestart
  restarted_goes_on old new boxes is truth place stores state journals there are before =
      let have = has old place journals are in
      let front = earlier_of old.earlier place in
      let rows = rows_at old.host.books.rows place in
      let head = state.head in
      let had = stores state there in
      let started = has_started kept is.is.specs old.host.stored.store new.host had.log place (spec_of head) head.epoch rows is.is.begins truth had.stood (is.is.declared place ∙ ap (option_map (λ (s : State). spec_of s.head)) there) had.rows in
      let gave = started.boxes in
      let less : nat_lt head.epoch last_epoch ≡ true = (let rises = started.rises in grind (arith, nat_tests)) in
      let can : can_start gave (world_at old place state) ≡ true = and_from (nat_lt head.epoch last_epoch) (are_adopted gave rows) less started.adopted in
      let now : World = record { state = restarted_from gave (world_at old place state); rows = rows; errands = [] } in
      let all = (front ++ have.own) ++ next_of gave (world_at old place state) ∷ [] in
      let goes : (was : AreHonest (world_at old place state) (front ++ have.own)) → Honest.GoesBy was now all IsRestart = λ was.
      let go = restart_goes state rows (out_of old.host.books place) front have.own was gave can in
      (go.0, subst IsRestart (sym go.1) (gave, refl)) in
      let in_front : earlier_of new.earlier place ≡ front ++ have.own =
      ap (λ e. earlier_of e place) is.earlier ∙ earlier_more old.earlier old.host.books.journals place ∙ ap (λ f. front ++ unwrap_or f []) have.are in
      record {
        state = restarted_from gave (world_at old place state);
        here = started.state;
        all = all;
        journals_are = ap (option_map (λ js. earlier_of new.earlier place ++ js)) started.journal ∙ ap (λ e. Some (e ++ next_of gave (world_at old place state) ∷ [])) in_front;
        goes = goes_as before now (world_at new place (restarted_from gave (world_at old place state))) all all IsRestart (λ i. record { state = restarted_from gave (world_at old place state); rows = started.rows_are i; errands = started.out i }) refl
            (subst (λ js. (was : AreHonest (world_at old place state) js) → Honest.GoesBy was now all IsRestart) have.parts goes before);
      }

  -- EACH MOVE
  pub made_goes_on : (old new : Running S) (next : Move) {one : Shown} → IsAtRest old.host → Kind kept old new next one → (place : ℕ) → (is_restart next ≡ true → kept.is_true new.host.stored.store × Stores kept old place) → (state : State) (journals : List Journal) → realm old.host.stored.core place ≡ Some state → journals_of old place ≡ Some journals → (before : AreHonest (world_at old place state) journals) → GoesOn new place before (IsTo place next one)
  made_goes_on old new next rest (Kind.Stepped here event said to none is) place relied state journals there are before =
      as_moves new place before _ _ (to place)
      (event_goes_on old new here event None is.reply is.serves is.earlier rest.begun (IsStep event said.outcome) (step_so (out_of old.host.books here) event is.reply.outcome said.outcome (ap (λ (s : Said). s.outcome) is.says) none) place state journals there are before)
  made_goes_on old new next rest (Kind.Returned here said to is) place relied state journals there are before = as_moves new place before _ _ (to place) (returned_goes_on old new here said rest is place state journals there are before)
  made_goes_on old new next {one = one} rest (Kind.Idle here to is) place relied state journals there are before = taken_goes_on old new here None is place state journals there are before (IsTo place next one) (to place)
  made_goes_on old new next rest (Kind.Lost here party to is) place relied state journals there are before = as_moves new place before _ _ (to place) (lost_goes_on old new here party rest is place state journals there are before)
  made_goes_on old new next rest (Kind.Restarted boxes to again is) place relied state journals there are before = let may = relied again in as_moves new place before _ _ (to place) (restarted_goes_on old new boxes is may.0 place may.1 state journals there are before)
  made_goes_on old new next rest (Kind.Renewed here boxes to is) place relied state journals there are before = as_moves new place before _ _ (to place) (renewed_goes_on old new here boxes is place state journals there are before)
