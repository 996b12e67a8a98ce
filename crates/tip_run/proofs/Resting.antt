-- A host is at rest again behind each move.
use Rattle.std.proofs.Common.{◌≡◌, ◌≢◌, ◌<◌, ◌++◌, ◌∷◌, ◌∙◌, ℕ, true, false, List, [], Option, Some, None, length, inl, inr, refl, ap, subst, sym}
use Rattle.std.specs.Prelude.{IsSomeAnd, slice_get}
use Rattle.std.proofs.lemmas.Bool.{cases_eq}
use Rattle.std.proofs.lemmas.Option.{none-some}
use Rattle.tip_branch.specs.Notes.{PartyNotes}
use Rattle.tip_core.specs.Hosted.{HaveNames, realm}
use Rattle.tip_honest.proofs.Onward.{some_journal}
use Rattle.tip_honest.specs.Honesty.{Journal}
use Rattle.tip_honest.specs.Hosts.{HasHonestRun}
use Rattle.tip_host.specs.Books.{out_of}
use Rattle.tip_host.specs.Entries.{Noted, bare, takes_entry}
use Rattle.tip_host.specs.Hosts.{Host, Serves}
use Rattle.tip_host.specs.Openings.{IsOpened}
use Rattle.tip_host.specs.Works.{left_out}
use Rattle.tip_machine.specs.Returns.{event_of}
use Rattle.tip_machine.specs.States.{State}
use Rattle.tip_machine.specs.Types.{Event}
use Rattle.tip_rows.specs.Keys.{Key}
use Rattle.tip_rows.specs.Logs.{Keeping}
use Rattle.tip_rows.specs.declared.row.Row.{Row}
use Rattle.tip_stored.specs.Recovering.{Recovering}
use Rattle.tip_table.specs.Kept.{of}
use Rattle.tip_run.proofs.Growing.{Grow, GrowsAt, grow_event, grow_renewal}
use Rattle.tip_run.proofs.Taking.{alone, none_left, others_none}
use Rattle.tip_run.proofs.MoveKinds.{Kind}
use Rattle.tip_run.specs.Moves.{Comes, ComesBack, HasTaken, IsLost, IsRenewed, Move}
use Rattle.tip_run.specs.declared.shown.Shown.{Shown}
use Rattle.tip_run.specs.Running.{HasJournal, IsAtRest, Running}
use Rattle.tip_run.specs.declared.shown.Said.{Said}

-- Journals

-- an entry is taken by a realm that is there alone, and so has a journal
pub has_some : (s : Option State) (found : Option (List Journal)) → HasJournal s found → takes_entry s ≡ true → IsSomeAnd found (λ own. 0 < length own)
has_some None found has takes = absurd (cc)
has_some (Some state) None has takes = has
has_some (Some state) (Some own) has takes = has

-- a realm that stays, or goes on, has a journal still
still_has : (s s' : Option State) (place : ℕ) (gained : List Noted) (found found' : Option (List Journal)) → HasJournal s found → GrowsAt place gained found found' → (s ≡ None → s' ≡ None) → ((state : State) → s ≡ Some state → (state' : State) × (s' ≡ Some state')) → HasJournal s' found'
still_has None s' place gained None None has grows gone goes = subst (λ x. HasJournal x None) (sym (gone refl)) tt
still_has None s' place gained None (Some own') has grows gone goes = absurd grows
still_has None s' place gained (Some own) found' has grows gone goes = absurd has
still_has (Some state) s' place gained None found' has grows gone goes = absurd has
still_has (Some state) s' place gained (Some own) None has grows gone goes = absurd grows
still_has (Some state) s' place gained (Some own) (Some own') has grows gone goes =
    let there = goes state refl in
    subst (λ x. HasJournal x (Some own')) (sym there.1) (grows.0 has)

-- a host that is opened has its realms at honest runs, so each has a journal
pub opened_has : (s : Option State) (out : List PartyNotes) (rows : List (Key × Row)) (found : Option (List Journal)) → HasHonestRun s out rows found → HasJournal s found
opened_has None out rows None is = tt
opened_has None out rows (Some own) is = is
opened_has (Some state) out rows None is = is
opened_has (Some state) out rows (Some own) is = some_journal _ own is.honest

nobody_of : (out waits : List PartyNotes) → out ++ waits ≡ [] → out ≡ []
nobody_of [] waits none = refl
nobody_of (party ∷ out) waits none = absurd (cc)

pub opened_rests : {S : Type 0} (recovering : Recovering S) (host : Host S) → IsOpened recovering host → IsAtRest host
opened_rests recovering host is = record {
  taken = λ place. nobody_of (of host.books.out place) (of host.books.work place) (is.out place);
  running = is.running;
  names = is.names;
  begun = λ place. opened_has (realm host.stored.core place) (out_of host.books place) _ (slice_get (bare host.books.journals) place) (is.honest place);
}

module _ {S : Type 0} (kept : Keeping S) where
  -- AN EVENT: how the journals and the pass grow
  pub grow_served : (old new : Host S) (noted noted' : List Noted) (place : ℕ) (event : Event) (back : Option PartyNotes) (reply : _) → ((p : ℕ) → HasJournal (realm old.stored.core p) (slice_get (bare old.books.journals) p)) → Serves kept old new noted noted' place event back reply → Grow (bare old.books.journals) (bare new.books.journals) noted noted'
  grow_served old new noted noted' place event back reply begun serves =
      grow_event (bare old.books.journals) (bare new.books.journals) noted noted' place (takes_entry (realm old.stored.core place)) _ reply.entry serves.enters
      (has_some (realm old.stored.core place) (slice_get (bare old.books.journals) place) (begun place))

  served_rests : (old new : Host S) (noted noted' : List Noted) (place : ℕ) (event : Event) (back : Option PartyNotes) (reply : _) → ((p : ℕ) → HasJournal (realm old.stored.core p) (slice_get (bare old.books.journals) p)) → old.stored.is_stopped ≡ false → new.stored.is_stopped ≡ old.stored.is_stopped →
      left_out back (of old.books.out place) ≡ [] → ((other : ℕ) → other ≢ place → of old.books.out other ≡ []) → Serves kept old new noted noted' place event back reply → IsAtRest new
  served_rests old new noted noted' place event back reply begun runs same none others serves =
      let grow = grow_served old new noted noted' place event back reply begun serves in
      record {
        taken = λ other. elim (cases_eq other place) [
          | inl here ↦ ap (of new.books.out) here ∙ serves.out ∙ none
          | inr differ ↦ (serves.others_out other differ).1 ∙ others other differ
        ];
        running = same ∙ runs;
        names = serves.happens.names;
        begun = λ other. still_has (realm old.stored.core other) (realm new.stored.core other) other grow.gained (slice_get (bare old.books.journals) other) (slice_get (bare new.books.journals) other) (begun other) (grow.at other) (gone other) (goes other);
      } where
        gone : (other : ℕ) → realm old.stored.core other ≡ None → realm new.stored.core other ≡ None
        gone other none = elim (cases_eq other place) [
          | inl here ↦ ap (realm new.stored.core) here ∙ (serves.happens.steps.absent (ap (realm old.stored.core) (sym here) ∙ none)).1
          | inr differ ↦ serves.happens.steps.others other differ ∙ none
        ]

        goes : (other : ℕ) (state : State) → realm old.stored.core other ≡ Some state → (state' : State) × (realm new.stored.core other ≡ Some state')
        goes other state there = elim (cases_eq other place) [
          | inl here ↦ (_, ap (realm new.stored.core) here ∙ (serves.happens.steps.own state (ap (realm old.stored.core) (sym here) ∙ there)).1)
          | inr differ ↦ (state, serves.happens.steps.others other differ ∙ there)
        ]

  -- EACH MOVE

  taken_rests : (old new : Running S) (place : ℕ) → IsAtRest old.host → HasTaken old new place None → IsAtRest new.host
  taken_rests old new place rest taken = record {
    taken = λ other. elim (cases_eq other place) [
      | inl here ↦ ap (of new.host.books.out) here ∙ alone old new place None taken rest.taken
      | inr differ ↦ others_none old new place None taken rest.taken other differ
    ];
    running = ap (λ (r : Running S). r.host.stored.is_stopped) taken.rest ∙ rest.running;
    names = subst (λ (r : Running S). HaveNames r.host.stored.core) (sym taken.rest) rest.names;
    begun = λ other. subst (λ (r : Running S). HasJournal (realm r.host.stored.core other) (slice_get (bare r.host.books.journals) other)) (sym taken.rest) (rest.begun other);
  }

  comes_rests : (old new : Running S) (place : ℕ) (event : Event) (said : Said) → IsAtRest old.host → Comes kept old new place event None said → IsAtRest new.host
  comes_rests old new place event said rest comes =
      served_rests old.host new.host old.noted new.noted place event None comes.reply rest.begun rest.running comes.stopped (rest.taken place) (λ other differ. rest.taken other) comes.serves

  back_rests : (old new : Running S) (place : ℕ) (said : Said) → IsAtRest old.host → ComesBack kept old new place said → IsAtRest new.host
  back_rests old new place said rest is =
      let between = is.between in
      served_rests between.host new.host between.noted new.noted place (event_of is.sent is.back) (Some is.sent) is.comes.reply
      (λ other. subst (λ (r : Running S). HasJournal (realm r.host.stored.core other) (slice_get (bare r.host.books.journals) other)) (sym is.taken.rest) (rest.begun other))
      (ap (λ (r : Running S). r.host.stored.is_stopped) is.taken.rest ∙ rest.running)
      is.comes.stopped
      (none_left is.sent (of between.host.books.out place) (alone old between place (Some is.sent) is.taken rest.taken))
      (others_none old between place (Some is.sent) is.taken rest.taken)
      is.comes.serves

  lost_rests : (old new : Running S) (place : ℕ) (party : PartyNotes) → IsAtRest old.host → IsLost old new place party → IsAtRest new.host
  lost_rests old new place party rest is =
      let between = is.between in
      record {
        taken = λ other. elim (cases_eq other place) [
          | inl here ↦ ap (of new.host.books.out) here ∙ is.lost ∙ none_left party (of between.host.books.out place) (alone old between place (Some party) is.taken rest.taken)
          | inr differ ↦ is.others other differ ∙ others_none old between place (Some party) is.taken rest.taken other differ
        ];
        running = ap (λ (r : Running S). r.host.stored.is_stopped) (is.rest ∙ ap (λ (b : Running S). record b { host = record b.host { books = record b.host.books { out = new.host.books.out } } }) is.taken.rest) ∙ rest.running;
        names = subst (λ (r : Running S). HaveNames r.host.stored.core) (sym is.rest) (subst (λ (r : Running S). HaveNames r.host.stored.core) (sym is.taken.rest) rest.names);
        begun = λ other. subst (λ (r : Running S). HasJournal (realm r.host.stored.core other) (slice_get (bare r.host.books.journals) other)) (sym is.rest) (subst (λ (r : Running S). HasJournal (realm r.host.stored.core other) (slice_get (bare r.host.books.journals) other)) (sym is.taken.rest) (rest.begun other));
      }

  renewed_rests : (old new : Running S) (place : ℕ) (boxes : List (List _)) → IsAtRest old.host → IsRenewed kept old new place boxes → IsAtRest new.host
  renewed_rests old new place boxes rest is =
      let grow = grow_renewal (bare old.host.books.journals) (bare new.host.books.journals) old.noted new.noted place _ _ is.renewed.begun is.noted in
      record {
        taken = λ other. is.out other ∙ rest.taken other;
        running = is.stopped ∙ rest.running;
        names = is.names;
        begun = λ other. still_has (realm old.host.stored.core other) (realm new.host.stored.core other) other grow.gained (slice_get (bare old.host.books.journals) other) (slice_get (bare new.host.books.journals) other) (rest.begun other) (grow.at other) (gone other) (goes other);
      } where
        gone : (other : ℕ) → realm old.host.stored.core other ≡ None → realm new.host.stored.core other ≡ None
        gone other none = elim (cases_eq other place) [
          | inl here ↦ absurd (none-some is.state (sym (ap (realm old.host.stored.core) (sym here) ∙ none) ∙ is.renewed.here))
          | inr differ ↦ is.others.realms other differ ∙ none
        ]

        goes : (other : ℕ) (state : State) → realm old.host.stored.core other ≡ Some state → (state' : State) × (realm new.host.stored.core other ≡ Some state')
        goes other state there = elim (cases_eq other place) [
          | inl here ↦ (_, ap (realm new.host.stored.core) here ∙ is.renewed.after)
          | inr differ ↦ (state, is.others.realms other differ ∙ there)
        ]

  pub made_rests : (old new : Running S) (next : Move) {one : Shown} → IsAtRest old.host → Kind kept old new next one → IsAtRest new.host
  made_rests old new next rest (Kind.Stepped place event said to none is) = comes_rests old new place event said rest is
  made_rests old new next rest (Kind.Returned place said to is) = back_rests old new place said rest is
  made_rests old new next rest (Kind.Idle place to is) = taken_rests old new place rest is
  made_rests old new next rest (Kind.Lost place party to is) = lost_rests old new place party rest is
  made_rests old new next rest (Kind.Restarted boxes to again is) = opened_rests _ new.host is.is.begins.opened
  made_rests old new next rest (Kind.Renewed place boxes to is) = renewed_rests old new place boxes rest is
