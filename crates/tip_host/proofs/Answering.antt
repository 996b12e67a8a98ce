-- What the caller of an event knows of it who does not know the host.
use Rattle.std.proofs.Common.{◌≡◌, ◌+◌, ◌∙◌, ◌++◌, ◌∷◌, [], ℕ, Bool, true, false, List, Option, Some, None, length, ap, refl, subst, sym}
use Rattle.std.specs.Prelude.{IfSome, IsSomeAnd, if◌then◌else◌}
use Rattle.std.specs.Option.{option_map}
use Rattle.tip_core.specs.Hosted.{realm}
use Rattle.tip_honest.specs.Honesty.{Journal, StandsFor}
use Rattle.tip_journal.specs.Fits.{Fits}
use Rattle.tip_journal.specs.Journal.{at_number, with_room}
use Rattle.tip_journal.specs.Journals.{current, entries_of, epoch_at, epoch_of, last_number}
use Rattle.tip_journal.specs.Pass.{last_own}
use Rattle.tip_machine.specs.States.{State}
use Rattle.tip_machine.specs.Steps.{is_open}
use Rattle.tip_machine.specs.Types.{Event}
use Rattle.tip_machine.specs.declared.event.Outcome.{Outcome}
use Rattle.tip_rows.specs.Logs.{Keeping}
use Rattle.tip_branch.specs.Notes.{PartyNotes}
use Rattle.tip_host.proofs.Honestly.{stands_here}
use Rattle.tip_host.proofs.Journals.{current_bare}
use Rattle.tip_host.specs.Books.{IsHonest}
use Rattle.tip_host.specs.Entries.{Enters, Noted, bare, takes_entry}
use Rattle.tip_host.specs.Hosts.{Host, IsOf, Reply, Serves}
use Rattle.tip_host.specs.Served.{AnswersAt, AnswersHere, AnswersNowhere, Gains}

-- the journal that an event's realm stands by
journal_at : (j : Option Journal) (state : State) (noted : List Noted) (place : ℕ) → IsSomeAnd (option_map (with_room 0) j) (StandsFor state) → IfSome j (λ journal. IfSome (last_own place journal.epoch noted) (λ last. at_number journal.entries last.number ≡ Some last.entry)) →
    (journal : Journal) × (option_map (with_room 0) j ≡ Some journal) × StandsFor state journal × IfSome (last_own place journal.epoch noted) (λ last. at_number journal.entries last.number ≡ Some last.entry)
journal_at None state noted place stands fits = absurd stands
journal_at (Some journal) state noted place stands fits = (with_room 0 journal, refl, stands, fits)

-- the number and the entry that an event takes
number_of : (takes : Bool) (js js' : List (List Journal)) (noted noted' : List Noted) (place : ℕ) (event : Event) (outcome : Outcome) (number : Option ℕ) (journal : Journal) → current js place ≡ Some journal → Enters takes js js' noted noted' place (record { event = event; outcome = outcome }) number →
    (number ≡ (if takes then Some (length journal.entries + 1) else None)) × Gains place journal.epoch event outcome noted noted' number
number_of false js js' noted noted' place event outcome number journal here enters = (enters.2, subst (Gains place journal.epoch event outcome noted noted') (sym enters.2) enters.1)
number_of true js js' noted noted' place event outcome number journal here enters =
    let count : last_number js place ≡ length journal.entries = ap entries_of here in
    let epoch : epoch_at js place ≡ journal.epoch = ap epoch_of here in
    (enters.2 ∙ ap (λ n. Some (n + 1)) count, subst (Gains place journal.epoch event outcome noted noted') (sym enters.2) (enters.1 ∙ ap (λ e. noted ++ record { realm = place; epoch = e; number = last_number js place + 1; entry = record { event = event; outcome = outcome } } ∷ []) epoch))

module _ {S : Type 0} (kept : Keeping S) (old new : Host S) (noted noted' : List Noted) (place : ℕ) (event : Event) (back : Option PartyNotes) (reply : Reply) (honest : IsHonest old.stored.core old.books) (fits : Fits old.books.journals noted place) (serves : Serves kept old new noted noted' place event back reply) where
  here_so : (state : State) → realm old.stored.core place ≡ Some state → AnswersHere state noted noted' place event reply
  here_so state here =
      let found = journal_at (current old.books.journals place) state noted place (subst (λ j. IsSomeAnd j (StandsFor state)) (current_bare old.books.journals place) (stands_here old.stored.core old.books honest place state here)) fits in
      let at : current (bare old.books.journals) place ≡ Some found.0 = current_bare old.books.journals place ∙ found.1 in
      let entered = number_of (is_open state) (bare old.books.journals) (bare new.books.journals) noted noted' place event reply.outcome reply.entry found.0 at (subst (λ t. Enters t (bare old.books.journals) (bare new.books.journals) noted noted' place (record { event = event; outcome = reply.outcome }) reply.entry) (ap takes_entry here) serves.enters) in
      record {
        journal = found.0;
        stands = found.2;
        last = found.3;
        wanted = serves.happens.wanted state here;
        fit = serves.happens.fits;
        answer = subst (IsOf place reply) (serves.happens.steps.own state here).0 serves.is;
        number = entered.0;
        gains = entered.1;
      }

  nowhere_so : realm old.stored.core place ≡ None → AnswersNowhere noted noted' place event reply
  nowhere_so absent =
      let enters : Enters false (bare old.books.journals) (bare new.books.journals) noted noted' place (record { event = event; outcome = reply.outcome }) reply.entry = subst (λ t. Enters t (bare old.books.journals) (bare new.books.journals) noted noted' place (record { event = event; outcome = reply.outcome }) reply.entry) (ap takes_entry absent) serves.enters in
      record {
        wanted = (serves.happens.absent absent).0;
        answer = subst (IsOf place reply) (serves.happens.steps.absent absent).0 serves.is;
        number = enters.2;
        gains = enters.1;
      }

  -- IT IS ANSWERED AS ITS REALM'S MACHINE DOES
  pub answered_so : AnswersAt (realm old.stored.core place) noted noted' place event reply
  answered_so = by (realm old.stored.core place) refl where
    by : (s : Option State) → realm old.stored.core place ≡ s → AnswersAt s noted noted' place event reply
    by None absent = nowhere_so absent
    by (Some state) here = here_so state here
