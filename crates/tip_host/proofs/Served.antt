-- One event at a host, by what the stored core says of it.
use Rattle.std.proofs.Common.{◌≡◌, ◌<◌, ◌∙◌, ◌++◌, ℕ, Bool, true, List, Option, None, Some, length, ap, arith, refl, subst, sym}
use Rattle.std.specs.Prelude.{IfSome}
use Rattle.std.proofs.lemmas.Option.{none-some}
use Rattle.std.specs.Option.{option_to_list}
use Rattle.tip_core.specs.Hosted.{Hosted, realm}
use Rattle.tip_honest.specs.Honesty.{Journal}
use Rattle.tip_honest.specs.Hosts.{HasCome}
use Rattle.tip_honest.specs.declared.entry.Entry.{Entry}
use Rattle.tip_stored.proofs.Happening.{in_room}
use Rattle.tip_stored.specs.Keeping.{Happened, Happens}
use Rattle.tip_stored.specs.declared.stored_core.StoredCore.{StoredCore}
use Rattle.tip_machine.specs.States.{State}
use Rattle.tip_machine.specs.Steps.{fits, wants}
use Rattle.tip_machine.specs.Types.{Event}
use Rattle.tip_machine.specs.declared.event.Change.{Change}
use Rattle.tip_machine.specs.declared.event.Outcome.{Outcome}
use Rattle.tip_rows.specs.Logs.{Keeping}
use Rattle.tip_outbox.specs.Waiting.{sent_to}
use Rattle.tip_kept.specs.Keeping.{room_at}
use Rattle.tip_host.proofs.Honestly.{comes_so, is_within, left_standing, left_there, others_kept, then_honest}
use Rattle.tip_host.specs.Books.{Books, IsHonest, IsSeen, Writes, left_in}
use Rattle.tip_host.specs.Hosts.{Host, IsOf, Reply, Serves, known}
use Rattle.tip_host.specs.Entries.{Enters, Noted, bare, takes_entry}
use Rattle.tip_host.specs.Works.{BringsAt, standing_at}

abbrev entry_of : Event → Outcome → Entry
entry_of event outcome = record { event = event; outcome = outcome }

-- what was entered in a pass was entered in the pass as it stood before room was made
pub entered_from : (took : Bool) (journals journals' : List (List Journal)) (noted prepared noted' : List Noted) (place : ℕ) (entry : Entry) (number : Option ℕ) → prepared ≡ noted → Enters took journals journals' prepared noted' place entry number → Enters took journals journals' noted noted' place entry number
entered_from took journals journals' noted prepared noted' place entry number same enters = subst (λ before. Enters took journals journals' before noted' place entry number) same enters

-- the stored core, before, once room was made, and then
module _ {S : Type 0} (kept : Keeping S) (stored ready stored' : StoredCore S Hosted) (old between new : Books) (place : ℕ) (event : Event) (happened : Happened) (change : Option Change) (back : Option ℕ) (noted noted' : List Noted) (reply : Reply) (took : Bool)
    (realms : (other : ℕ) → realm ready.core other ≡ realm stored.core other) (store : ready.store ≡ stored.store) (says : Happens kept ready stored' place event happened) where
  abbrev before : Host S
  before = record { stored = stored; books = old }

  abbrev then : Host S
  then = record { stored = stored'; books = new }

  -- the realms and the store were the same when it happened
  pub happens_from : Happens kept stored stored' place event happened
  happens_from = in_room kept stored ready stored' place event happened realms store says

  pub fit_from : (state : State) → realm stored.core place ≡ Some state → fits (wants state event) happened.outcome ≡ true
  fit_from state here = ap (λ c. fits c happened.outcome) (sym (happens_from.wanted state here)) ∙ happens_from.fits

  pub serves_so : IsSeen old between → BringsAt old.out place event back → Writes between new place change happened.outcome back happened.answer → change ≡ happened.change →
      IsOf place reply happened.answer → reply.change ≡ happened.change → reply.outcome ≡ happened.outcome →
      took ≡ takes_entry (realm stored.core place) → Enters took (bare between.journals) (bare new.journals) noted noted' place (entry_of event happened.outcome) reply.entry →
      Serves kept before then noted noted' place event (standing_at old.out back) reply
  serves_so seen brings writes wrote is change_is outcome took_is enters = record {
    answer = happened.answer;
    happens = subst (Happens kept stored stored' place event) (λ i. record { change = sym change_is i; outcome = sym outcome i; answer = happened.answer }) happens_from;
    is = is;
    lines = λ number. writes.lines number ∙ ap (λ l. l ++ sent_to number happened.answer.sent) (seen.lines place number);
    others = λ other number differ. writes.other_lines other number differ ∙ seen.lines other number;
    enters = subst (λ js. Enters (takes_entry (realm stored.core place)) js (bare new.journals) noted noted' place (entry_of event reply.outcome) reply.entry) seen.journals (subst (λ b. Enters b (bare between.journals) (bare new.journals) noted noted' place (entry_of event reply.outcome) reply.entry) took_is (subst (λ o. Enters took (bare between.journals) (bare new.journals) noted noted' place (entry_of event o) reply.entry) (sym outcome) enters));
    retired = writes.retired ∙ seen.retired;
    waits = writes.work ∙ ap (λ xs. xs ++ option_to_list happened.answer.work) (seen.work place);
    out = writes.out place ∙ ap (λ o. left_in back o place) seen.out ∙ left_standing old.out place event back brings;
    others_out = λ other differ. (writes.other_work other differ ∙ seen.work other, writes.out other ∙ ap (λ o. left_in back o other) seen.out ∙ left_there old.out place event back brings other differ);
    comes = λ state here. subst (λ o. HasCome (known before) (known then) place event o state) (sym outcome)
        (comes_so stored.core stored'.core old between new place event change happened.outcome back happened.answer noted noted' reply.entry took happens_from.steps seen brings writes took_is enters state here (fit_from state here) (wrote ∙ happens_from.wanted state here));
    elsewhere = others_kept stored.core stored'.core old between new place event change happened.outcome back happened.answer noted noted' reply.entry took happens_from.steps seen brings writes took_is enters;
  }

  -- and all realms are honest still
  pub honest_so : IsHonest stored.core old → IsSeen old between → BringsAt old.out place event back → Writes between new place change happened.outcome back happened.answer → change ≡ happened.change →
      took ≡ takes_entry (realm stored.core place) → Enters took (bare between.journals) (bare new.journals) noted noted' place (entry_of event happened.outcome) reply.entry →
      IsHonest stored'.core new
  honest_so honest seen brings writes wrote took_is enters =
      then_honest stored.core stored'.core old between new place event change happened.outcome back happened.answer noted noted' reply.entry took happens_from.steps seen brings writes took_is enters honest fit_from (λ state here. wrote ∙ happens_from.wanted state here)

-- A row can be kept where one is wanted
pub rows_ready : (core ready : Hosted) (old between : Books) (place : ℕ) (change wanted : Option Change) → IsHonest core old → realm ready place ≡ realm core place → (realm ready place ≡ None → wanted ≡ None) → change ≡ wanted → IsSeen old between → (place < length between.rows → 0 < room_at between.rows place) → IfSome change (λ _. 0 < room_at between.rows place)
rows_ready core ready old between place change wanted honest same nothing is seen space = by change refl (realm core place) refl where
  by : (c : Option Change) → change ≡ c → (s : Option State) → realm core place ≡ s → IfSome c (λ _. 0 < room_at between.rows place)
  by None none s here = tt
  by (Some c) some None absent = absurd (none-some c (sym (is ∙ nothing (same ∙ absent)) ∙ some))
  by (Some c) some (Some state) here = let within = is_within core old honest place state here in space (omega (arith, within, seen.count, honest.each))
