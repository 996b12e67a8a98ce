-- What the store has of each realm, behind each move.
use Rattle.std.proofs.Common.{◌≡◌, ◌≢◌, ◌+◌, ◌∙◌, ℕ, Bool, true, false, List, Option, Some, None, arith, ◌⊎◌, inl, inr, refl, ap, subst, sym}
use Rattle.std.specs.Prelude.{is_some, option_map}
use Rattle.std.specs.Str.{bytes_eq}
use Rattle.std.proofs.lemmas.Bool.{cases_eq}
use Rattle.std.proofs.lemmas.Bool.Decides.{nat_tests}
use Rattle.std.proofs.lemmas.Option.{none-some, same_Some}
use Rattle.std.proofs.lemmas.Slice.Eq.{bytes_eq-Decides}
use Rattle.tip_branch.specs.Notes.{PartyNotes}
use Rattle.tip_branch.specs.declared.branch.Badge.{Badge}
use Rattle.tip_core.specs.Hosted.{HaveNames, Hosted, realm}
use Rattle.tip_host.specs.Entries.{Noted}
use Rattle.tip_host.specs.Hosts.{Host, Serves}
use Rattle.tip_kept.specs.Keeping.{rows_at}
use Rattle.tip_machine.proofs.Stepping.{step-epoch, step-named}
use Rattle.tip_machine.specs.Moves.{risen, rows_after}
use Rattle.tip_machine.specs.Recovery.{restarted}
use Rattle.tip_machine.specs.States.{State}
use Rattle.tip_machine.specs.Steps.{step, wants}
use Rattle.tip_machine.specs.Types.{Event}
use Rattle.tip_rows.specs.Logs.{IsPart, Keeping, Log, raised_number, with_raised}
use Rattle.tip_stored.proofs.Parts.{epochs_stay, part_after, part_stays, renewed_known, renewed_others, renewed_part, rises}
use Rattle.tip_stored.specs.Keeping.{log_after}
use Rattle.tip_stored.specs.Loading.{spec_of}
use Rattle.tip_stored.specs.Recovering.{recovered}
use Rattle.tip_run.proofs.MoveKinds.{Kind}
use Rattle.tip_run.proofs.Begun.{among, has_started}
use Rattle.tip_run.specs.Moves.{AreRestarted, HasTaken, IsLost, IsRenewed, Move}
use Rattle.tip_run.specs.declared.shown.Shown.{Shown}
use Rattle.tip_run.specs.Running.{Running}
use Rattle.tip_run.specs.Runs.{Stores}
use Rattle.tip_run.specs.Starts.{StoresAt}

-- two realms at two places have names of their own
names_differ : (hosted : Hosted) (here place : ℕ) (this that : State) → HaveNames hosted → realm hosted here ≡ Some this → realm hosted place ≡ Some that → place ≢ here → bytes_eq this.head.name that.head.name ≡ false
names_differ hosted here place this that names own other differ = by (bytes_eq this.head.name that.head.name) refl where
  by : (b : Bool) → bytes_eq this.head.name that.head.name ≡ b → b ≡ false
  by true same = absurd (differ (sym (names here place this that own other ((bytes_eq-Decides this.head.name that.head.name).0 same))))
  by false same = refl

module _ {S : Type 0} (kept : Keeping S) where
  -- as it is
  still_stores : (old new : Host S) (place : ℕ) (state : State) (log : Log) → kept.stands new.stored.store log → IsPart log state.head.name state.head.epoch (rows_at old.books.rows place) → is_some (log.epochs state.head.name) ≡ true → rows_at new.books.rows place ≡ rows_at old.books.rows place → StoresAt kept new place state
  still_stores old new place state log stood rows known same = record { log = log; stood = stood; rows = subst (IsPart log state.head.name state.head.epoch) (sym same) rows; known = known }

  -- AN EVENT
  module _ (old new : Host S) (noted noted' : List Noted) (place : ℕ) (event : Event) (back : Option PartyNotes) (reply : _) (names : HaveNames old.stored.core) (serves : Serves kept old new noted noted' place event back reply) where
    own_served : (state : State) → realm old.stored.core place ≡ Some state → StoresAt kept old place state → StoresAt kept new place (step state event reply.outcome).state
    own_served state here stores =
        let name = state.head.name in
        let next = (step state event reply.outcome).state in
        let come = serves.comes state here in
        let same_name : next.head.name ≡ name = step-named state event reply.outcome in
        let same_epoch : next.head.epoch ≡ state.head.epoch = step-epoch state event reply.outcome in
        let change = serves.happens.wanted state here in
        let log : Log = log_after name reply.change reply.outcome stores.log in
        let after : List _ = rows_after (wants state event) reply.outcome (rows_at old.books.rows place) in
        let part : IsPart log name state.head.epoch after = subst (λ c. IsPart (log_after name c reply.outcome stores.log) name state.head.epoch after) (sym change) (part_after name (wants state event) reply.outcome stores.log state.head.epoch (rows_at old.books.rows place) stores.rows) in
        record {
          log = log;
          stood = (serves.happens.keeps state here).rows stores.log stores.stood;
          rows = subst (IsPart log next.head.name next.head.epoch) (sym come.rows_are) (subst (λ n. IsPart log n next.head.epoch after) (sym same_name) (subst (λ e. IsPart log name e after) (sym same_epoch) part));
          known = ap (λ n. is_some (log.epochs n)) same_name ∙ ap (λ f. is_some (f name)) (epochs_stay name reply.change reply.outcome stores.log) ∙ stores.known;
        }

    other_served : (other : ℕ) (state : State) → other ≢ place → realm old.stored.core other ≡ Some state → StoresAt kept old other state → StoresAt kept new other state
    other_served other state differ here stores = by (realm old.stored.core place) refl where
      by : (found : Option State) → realm old.stored.core place ≡ found → StoresAt kept new other state
      by None nowhere = still_stores old new other state stores.log (subst (λ s. kept.stands s stores.log) (sym (serves.happens.absent nowhere).1) stores.stood) stores.rows stores.known (serves.elsewhere other differ).2
      by (Some own) there =
          let apart = names_differ old.stored.core place other own state names there here differ in
          still_stores old new other state (log_after own.head.name reply.change reply.outcome stores.log)
          ((serves.happens.keeps own there).rows stores.log stores.stood)
          (part_stays own.head.name reply.change reply.outcome stores.log state.head.name state.head.epoch (rows_at old.books.rows other) apart stores.rows)
          (ap (λ f. is_some (f state.head.name)) (epochs_stay own.head.name reply.change reply.outcome stores.log) ∙ stores.known)
          (serves.elsewhere other differ).2

    pub stores_served : (other : ℕ) → ((state : State) → realm old.stored.core other ≡ Some state → StoresAt kept old other state) → (state : State) → realm new.stored.core other ≡ Some state → StoresAt kept new other state
    stores_served other stores state here = by (cases_eq other place) where
      own : other ≡ place → (found : Option State) → realm old.stored.core place ≡ found → StoresAt kept new place state
      own same None nowhere = absurd (none-some state (sym (serves.happens.steps.absent nowhere).1 ∙ ap (realm new.stored.core) (sym same) ∙ here))
      own same (Some was) there =
          let stepped : state ≡ (step was event reply.outcome).state = same_Some state (step was event reply.outcome).state (sym here ∙ ap (realm new.stored.core) same ∙ (serves.happens.steps.own was there).1) in
          subst (StoresAt kept new place) (sym stepped) (own_served was there (subst (λ p. StoresAt kept old p was) same (stores was (ap (realm old.stored.core) same ∙ there))))

      by : (other ≡ place) ⊎ (other ≢ place) → StoresAt kept new other state
      by (inl same) = subst (λ p. StoresAt kept new p state) (sym same) (own same (realm old.stored.core place) refl)
      by (inr differ) = let there = sym (serves.happens.steps.others other differ) ∙ here in other_served other state differ there (stores state there)

  pub truth_served : (old new : Host S) (noted noted' : List Noted) (place : ℕ) (event : Event) (back : Option PartyNotes) (reply : _) → Serves kept old new noted noted' place event back reply → kept.is_true new.stored.store → kept.is_true old.stored.store
  truth_served old new noted noted' place event back reply serves truth = by (realm old.stored.core place) refl where
    by : (found : Option State) → realm old.stored.core place ≡ found → kept.is_true old.stored.store
    by None nowhere = subst kept.is_true (serves.happens.absent nowhere).1 truth
    by (Some state) there = (serves.happens.keeps state there).truth truth

  -- A realm that keeps its state, its rows and its store
  same_stores : (old new : Running S) (place : ℕ) → new.host.stored.store ≡ old.host.stored.store → realm new.host.stored.core place ≡ realm old.host.stored.core place → rows_at new.host.books.rows place ≡ rows_at old.host.books.rows place → Stores kept old place → Stores kept new place
  same_stores old new place store same rows stores state here =
      let was = stores state (sym same ∙ here) in
      still_stores old.host new.host place state was.log (subst (λ s. kept.stands s was.log) (sym store) was.stood) was.rows was.known rows

  pub stores_taken : (old new : Running S) (place : ℕ) (found : Option PartyNotes) → HasTaken old new place found → (other : ℕ) → Stores kept old other → Stores kept new other
  stores_taken old new place found taken other =
      same_stores old new other (ap (λ (r : Running S). r.host.stored.store) taken.rest) (ap (λ (r : Running S). realm r.host.stored.core other) taken.rest) (ap (λ (r : Running S). rows_at r.host.books.rows other) taken.rest)

  stores_lost : (old new : Running S) (place : ℕ) (party : PartyNotes) → IsLost old new place party → (other : ℕ) → Stores kept old other → Stores kept new other
  stores_lost old new place party is other stores =
      same_stores is.between new other (ap (λ (r : Running S). r.host.stored.store) is.rest) (ap (λ (r : Running S). realm r.host.stored.core other) is.rest) (ap (λ (r : Running S). rows_at r.host.books.rows other) is.rest)
      (stores_taken old is.between place (Some party) is.taken other stores)

  -- A RENEWAL
  stores_renewed : (old new : Running S) (place : ℕ) (boxes : List (List Badge)) → HaveNames old.host.stored.core → IsRenewed kept old new place boxes → (other : ℕ) → Stores kept old other → Stores kept new other
  stores_renewed old new place boxes names is other stores state here = by (cases_eq other place) where
    stood_then : (log : Log) → kept.stands old.host.stored.store log → kept.stands new.host.stored.store (with_raised is.state.head.name log)
    stood_then log stood = let read = is.reads.rows log stood in is.rises.rows log (subst (kept.stands is.between) read.1 read.2)

    rows_are : (p : ℕ) → rows_at new.host.books.rows p ≡ rows_at old.host.books.rows p
    rows_are p = elim (cases_eq p place) [
      | inl same ↦ ap (rows_at new.host.books.rows) same ∙ is.renewed.rows_are ∙ ap (rows_at old.host.books.rows) (sym same)
      | inr differ ↦ (is.renewed.others p differ).2
    ]

    by : (other ≡ place) ⊎ (other ≢ place) → StoresAt kept new.host other state
    by (inl same) =
        let was = stores is.state (ap (realm old.host.stored.core) same ∙ is.renewed.here) in
        let after : state ≡ restarted (risen is.state.head) _ = same_Some state _ (sym here ∙ ap (realm new.host.stored.core) same ∙ is.renewed.after) in
        let number : raised_number is.state.head.epoch ≡ is.state.head.epoch + 1 = rises was.log is.state.head.name is.state.head.epoch (rows_at old.host.books.rows other) was.rows was.known (grind (arith, nat_tests, is.renewed.rises)) in
        subst (StoresAt kept new.host other) (sym after) (record {
          log = with_raised is.state.head.name was.log;
          stood = stood_then was.log was.stood;
          rows = subst (IsPart (with_raised is.state.head.name was.log) is.state.head.name (is.state.head.epoch + 1)) (sym (rows_are other)) (subst (λ e. IsPart (with_raised is.state.head.name was.log) is.state.head.name e (rows_at old.host.books.rows other)) number (renewed_part was.log is.state.head.name is.state.head.epoch (rows_at old.host.books.rows other) was.rows was.known));
          known = renewed_known was.log is.state.head.name is.state.head.name ∙ was.known;
        })
    by (inr differ) =
        let there = sym (is.others.realms other differ) ∙ here in
        let was = stores state there in
        let apart = names_differ old.host.stored.core place other is.state state names is.renewed.here there differ in
        still_stores old.host new.host other state (with_raised is.state.head.name was.log) (stood_then was.log was.stood)
        (renewed_others was.log is.state.head.name state.head.name state.head.epoch (rows_at old.host.books.rows other) apart was.rows)
        (renewed_known was.log is.state.head.name state.head.name ∙ was.known) (rows_are other)

  -- A RESTART
  stores_restarted : (old new : Running S) (boxes : List (List (List Badge))) → AreRestarted kept old new boxes → kept.is_true new.host.stored.store → (place : ℕ) → Stores kept old place → Stores kept new place
  stores_restarted old new boxes is truth place stores state here = by (realm old.host.stored.core place) refl where
    by : (found : Option State) → realm old.host.stored.core place ≡ found → StoresAt kept new.host place state
    by None none =
        let begins = is.is.begins in
        let gone = (among is.is.specs begins.loaded.realms begins.realms place begins.loads.theirs begins.given).0 (is.is.declared place ∙ ap (option_map (λ (s : State). spec_of s.head)) none) in
        absurd (none-some state (sym (begins.opened.realms place ∙ ap (λ r. recovered r (realm begins.loaded.core place)) gone) ∙ here))
    by (Some was) there =
        let had = stores was there in
        let started = has_started kept is.is.specs old.host.stored.store new.host had.log place (spec_of was.head) was.head.epoch (rows_at old.host.books.rows place) is.is.begins truth had.stood (is.is.declared place ∙ ap (option_map (λ (s : State). spec_of s.head)) there) had.rows in
        subst (StoresAt kept new.host place) (same_Some _ state (sym started.state ∙ here)) started.stored

  -- EACH MOVE

  pub made_stores : (old new : Running S) (next : Move) {one : Shown} → HaveNames old.host.stored.core → Kind kept old new next one → kept.is_true new.host.stored.store → (place : ℕ) → Stores kept old place → Stores kept new place
  made_stores old new next names (Kind.Stepped here event said to none is) truth place stores = stores_served old.host new.host old.noted new.noted here event None is.reply names is.serves place stores
  made_stores old new next names (Kind.Returned here said to is) truth place stores =
      stores_served is.between.host new.host is.between.noted new.noted here _ (Some is.sent) is.comes.reply (subst (λ (r : Running S). HaveNames r.host.stored.core) (sym is.taken.rest) names) is.comes.serves place (stores_taken old is.between here (Some is.sent) is.taken place stores)
  made_stores old new next names (Kind.Idle here to is) truth place stores = stores_taken old new here None is place stores
  made_stores old new next names (Kind.Lost here party to is) truth place stores = stores_lost old new here party is place stores
  made_stores old new next names (Kind.Restarted boxes to again is) truth place stores = stores_restarted old new boxes is truth place stores
  made_stores old new next names (Kind.Renewed here boxes to is) truth place stores = stores_renewed old new here boxes names is place stores

  -- a store that may be relied on now could be before
  pub made_truth : (old new : Running S) (next : Move) {one : Shown} → Kind kept old new next one → kept.is_true new.host.stored.store → kept.is_true old.host.stored.store
  made_truth old new next (Kind.Stepped here event said to none is) truth = truth_served old.host new.host old.noted new.noted here event None is.reply is.serves truth
  made_truth old new next (Kind.Returned here said to is) truth = subst kept.is_true (ap (λ (r : Running S). r.host.stored.store) is.taken.rest) (truth_served is.between.host new.host is.between.noted new.noted here _ (Some is.sent) is.comes.reply is.comes.serves truth)
  made_truth old new next (Kind.Idle here to is) truth = subst kept.is_true (ap (λ (r : Running S). r.host.stored.store) is.rest) truth
  made_truth old new next (Kind.Lost here party to is) truth = subst kept.is_true (ap (λ (r : Running S). r.host.stored.store) is.taken.rest) (subst kept.is_true (ap (λ (r : Running S). r.host.stored.store) is.rest) truth)
  made_truth old new next (Kind.Restarted boxes to again is) truth = is.is.begins.loads.ok.truth (subst kept.is_true is.is.begins.opened.store truth)
  made_truth old new next (Kind.Renewed here boxes to is) truth = is.reads.truth (is.rises.truth truth)
