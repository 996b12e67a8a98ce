-- What the pass gains in each move.
use Rattle.std.proofs.Common.{◌≡◌, ◌++◌, ◌∙◌, ℕ, List, [], Option, Some, None, append-nil, map, refl, ap, subst, sym}
use Rattle.std.specs.Prelude.{option_map, slice_get, unwrap_or}
use Rattle.tip_branch.specs.Notes.{PartyNotes}
use Rattle.tip_branch.specs.declared.branch.Badge.{Badge}
use Rattle.tip_core.specs.Hosted.{realm}
use Rattle.tip_honest.specs.Honesty.{Journal}
use Rattle.tip_host.specs.Entries.{bare}
use Rattle.tip_host.specs.Openings.{opened}
use Rattle.tip_machine.specs.States.{State}
use Rattle.tip_recovery.specs.Adopting.{Recovery, loaded}
use Rattle.tip_rows.specs.Logs.{Keeping}
use Rattle.tip_stored.specs.Loading.{spec_of}
use Rattle.tip_stored.specs.declared.realm_spec.RealmSpec.{RealmSpec}
use Rattle.tip_run.proofs.Growing.{all_notes, begun_noted, earlier_more, grow_renewal, has_noted, noted_on, noted_still}
use Rattle.tip_run.proofs.MoveKinds.{Kind}
use Rattle.tip_run.proofs.Resting.{grow_served}
use Rattle.tip_run.proofs.Begun.{among, first_journals}
use Rattle.tip_run.specs.Moves.{AreRestarted, HasTaken, IsLost, Move}
use Rattle.tip_run.specs.declared.shown.Shown.{Shown}
use Rattle.tip_run.specs.Running.{HasJournal, IsAtRest, Running, earlier_of, journals_of}
use Rattle.tip_run.specs.Runs.{HasNoted, notes_of}

module _ {S : Type 0} (kept : Keeping S) where
  noted_taken : (old new : Running S) (place : ℕ) (found : Option PartyNotes) → HasTaken old new place found → HasNoted old new
  noted_taken old new place found is = noted_still old new (ap (λ (r : Running S). bare r.host.books.journals) is.rest) (ap (λ (r : Running S). r.noted) is.rest) (ap (λ (r : Running S). r.earlier) is.rest)

  noted_lost : (old new : Running S) (place : ℕ) (party : PartyNotes) → IsLost old new place party → HasNoted old new
  noted_lost old new place party is = noted_on old is.between new (noted_taken old is.between place (Some party) is.taken)
      (noted_still is.between new (ap (λ (r : Running S). bare r.host.books.journals) is.rest) (ap (λ (r : Running S). r.noted) is.rest) (ap (λ (r : Running S). r.earlier) is.rest))

  -- a restart: the journals of the host that ends are the last of the earlier ones, and those that begin have no entry
  noted_restarted : (old new : Running S) (boxes : List (List (List Badge))) → IsAtRest old.host → AreRestarted kept old new boxes → HasNoted old new
  noted_restarted old new boxes rest is = record {
    gained = [];
    pass = is.noted ∙ sym (append-nil old.noted);
    own = λ place. by place (realm old.host.stored.core place) refl (slice_get (bare old.host.books.journals) place) refl (rest.begun place);
  } where
    begins_with : (place : ℕ) → slice_get (bare new.host.books.journals) place ≡ option_map opened (slice_get is.is.begins.realms place)
    begins_with place = first_journals _ new.host is.is.begins.opened place

    are_among : (place : ℕ) → (slice_get is.is.specs place ≡ None → slice_get is.is.begins.realms place ≡ None) × ((spec : RealmSpec) → slice_get is.is.specs place ≡ Some spec → (given : Recovery) × (slice_get is.is.begins.realms place ≡ Some given))
    are_among place = among is.is.specs is.is.begins.loaded.realms is.is.begins.realms place is.is.begins.loads.theirs is.is.begins.given

    by : (place : ℕ) (found : Option State) → realm old.host.stored.core place ≡ found → (own : Option (List Journal)) → slice_get (bare old.host.books.journals) place ≡ own → HasJournal (realm old.host.stored.core place) (slice_get (bare old.host.books.journals) place) → notes_of place (journals_of new place) ≡ notes_of place (journals_of old place) ++ []
    by place None none None nothing has =
        let gone = begins_with place ∙ ap (option_map opened) ((are_among place).0 (is.is.declared place ∙ ap (option_map (λ (s : State). spec_of s.head)) none)) in
        ap (λ f. notes_of place (option_map (λ js. earlier_of new.earlier place ++ js) f)) gone ∙ sym (ap (λ f. notes_of place (option_map (λ js. earlier_of old.earlier place ++ js) f) ++ []) nothing)
    by place None none (Some own) here has = absurd (subst (λ f. HasJournal None f) here (subst (λ s. HasJournal s (slice_get (bare old.host.books.journals) place)) none has))
    by place (Some state) there None nothing has = absurd (subst (λ f. HasJournal (Some state) f) nothing (subst (λ s. HasJournal s (slice_get (bare old.host.books.journals) place)) there has))
    by place (Some state) there (Some own) here has =
        let given = (are_among place).1 (spec_of state.head) (is.is.declared place ∙ ap (option_map (λ (s : State). spec_of s.head)) there) in
        let begun = begins_with place ∙ ap (option_map opened) given.1 in
        let in_front : earlier_of new.earlier place ≡ earlier_of old.earlier place ++ own = ap (λ e. earlier_of e place) is.earlier ∙ earlier_more old.earlier old.host.books.journals place ∙ ap (λ f. earlier_of old.earlier place ++ unwrap_or f []) here in
        ap (λ f. notes_of place (option_map (λ js. earlier_of new.earlier place ++ js) f)) begun
        ∙ begun_noted place (earlier_of new.earlier place) given.0.epoch (map loaded given.0.rows)
        ∙ ap (all_notes place) in_front
        ∙ sym (append-nil (all_notes place (earlier_of old.earlier place ++ own)))
        ∙ sym (ap (λ f. notes_of place (option_map (λ js. earlier_of old.earlier place ++ js) f) ++ []) here)

  pub made_noted : (old new : Running S) (next : Move) {one : Shown} → IsAtRest old.host → Kind kept old new next one → HasNoted old new
  made_noted old new next rest (Kind.Stepped here event said to none is) = has_noted old new (grow_served kept old.host new.host old.noted new.noted here event None is.reply rest.begun is.serves) is.earlier
  made_noted old new next rest (Kind.Returned here said to is) =
      noted_on old is.between new (noted_taken old is.between here (Some is.sent) is.taken)
      (has_noted is.between new (grow_served kept is.between.host new.host is.between.noted new.noted here _ (Some is.sent) is.comes.reply
      (λ p. subst (λ (r : Running S). HasJournal (realm r.host.stored.core p) (slice_get (bare r.host.books.journals) p)) (sym is.taken.rest) (rest.begun p)) is.comes.serves) is.comes.earlier)
  made_noted old new next rest (Kind.Idle here to is) = noted_taken old new here None is
  made_noted old new next rest (Kind.Lost here party to is) = noted_lost old new here party is
  made_noted old new next rest (Kind.Restarted boxes to again is) = noted_restarted old new boxes rest is
  made_noted old new next rest (Kind.Renewed here boxes to is) = has_noted old new (grow_renewal (bare old.host.books.journals) (bare new.host.books.journals) old.noted new.noted here _ _ is.renewed.begun is.noted) is.earlier
