-- What a pass shows of a session's steps, once an event has come.
use Rattle.std.proofs.Common.{◌≡◌, ◌∙◌, ◌++◌, ◌∷◌, [], ℕ, true, false, List, Option, Some, None, ap, refl, sym}
use Rattle.std.proofs.lemmas.List.{append_assoc, append-nil}
use Rattle.std.specs.Prelude.{is_some}
use Rattle.tip_branch.specs.Notes.{PartyNotes}
use Rattle.tip_branch.specs.declared.member.Errand.{Errand}
use Rattle.tip_branch.specs.declared.member.Errand.TheVariants as errand
use Rattle.tip_machine.specs.Returns.{back_from, back_of}
use Rattle.tip_machine.specs.Types.{Event}
use Rattle.tip_machine.specs.declared.event.Outcome.{Outcome}
use Rattle.tip_host.specs.Entries.{Noted}
use Rattle.tip_host.specs.Hosts.{Reply}
use Rattle.tip_host.specs.Served.{Gains, IsAnswered}
use Rattle.tip_host.specs.Seats.{within}
use Rattle.tip_host.specs.declared.seat.Seat.{Seat}
use Rattle.tip_machine.specs.declared.event.Event.TheVariants as event
use Rattle.tip_machine.specs.declared.event.Heard.{Heard}
use Rattle.tip_shared.specs.Waiting.{IsTakenInTurn}
use Rattle.tip_host.specs.Works.{IsDone}
use Rattle.tip_session.specs.Desks.{Back, Line, Settle, Vote}
use Rattle.tip_shared.specs.Sessions.{name_of, step_of, steps_in, which_of}

steps_behind : (noted : List Noted) (one : Noted) → steps_in (noted ++ one ∷ []) ≡ steps_in noted ++ step_of one.entry.event
steps_behind [] one = append-nil (step_of one.entry.event)
steps_behind (first ∷ noted) one = ap (λ l. step_of first.entry.event ++ l) (steps_behind noted one) ∙ sym (append_assoc (step_of first.entry.event) (steps_in noted) (step_of one.entry.event))

by_number : (place epoch : ℕ) (event : Event) (outcome : Outcome) (before after : List Noted) (number : Option ℕ) → Gains place epoch event outcome before after number → is_some number ≡ true → steps_in after ≡ steps_in before ++ step_of event
by_number place epoch event outcome before after None gains some = absurd (cc)
by_number place epoch event outcome before after (Some number) gains some = ap steps_in gains ∙ steps_behind before (record { realm = place; epoch = epoch; number = number; entry = record { event = event; outcome = outcome } })

no_number : (place epoch : ℕ) (event : Event) (outcome : Outcome) (before after : List Noted) (number : Option ℕ) → Gains place epoch event outcome before after number → is_some number ≡ false → after ≡ before
no_number place epoch event outcome before after None gains none = gains
no_number place epoch event outcome before after (Some number) gains none = absurd (cc)

-- AN EVENT WITH AN ENTRY is a step more
pub gained : (before after : List Noted) (place : ℕ) (event : Event) (reply : Reply) → IsAnswered before after place event reply → is_some reply.entry ≡ true → steps_in after ≡ steps_in before ++ step_of event
gained before after place event reply (Some stood, here) some = by_number place here.journal.epoch event reply.outcome before after reply.entry here.gains some
gained before after place event reply (None, nowhere) some = absurd (let none : is_some reply.entry ≡ false = ap is_some nowhere.number in cc)

-- and one without is none
pub stayed : (before after : List Noted) (place : ℕ) (event : Event) (reply : Reply) → IsAnswered before after place event reply → is_some reply.entry ≡ false → after ≡ before
stayed before after place event reply (Some stood, here) none = no_number place here.journal.epoch event reply.outcome before after reply.entry here.gains none
stayed before after place event reply (None, nowhere) none = nowhere.gains

-- so it is with a line that is taken in its turn
pub took_line : (seat : Seat) (before after : List Noted) (heard : Heard) (reply : Reply) → IsTakenInTurn seat before after heard reply → is_some reply.entry ≡ true → steps_in after ≡ steps_in before ++ Line heard ∷ []
took_line seat before after heard reply (stood, turn, answers) some = gained before after seat.realm (event.Line (within seat) heard) reply (stood, answers) some

pub took_none : (seat : Seat) (before after : List Noted) (heard : Heard) (reply : Reply) → IsTakenInTurn seat before after heard reply → is_some reply.entry ≡ false → after ≡ before
took_none seat before after heard reply (stood, turn, answers) none = stayed before after seat.realm (event.Line (within seat) heard) reply (stood, answers) none

named_by : (id : List ℕ) (party : PartyNotes) (which : Errand) → party.id ≡ id → step_of (back_from which party) ≡ Back (record { transaction = id; which = which_of which }) ∷ []
named_by id party errand.Vote same = ap (λ i. Back (record { transaction = i; which = Vote }) ∷ []) same
named_by id party errand.Commit same = ap (λ i. Back (record { transaction = i; which = Settle }) ∷ []) same
named_by id party errand.Abort same = ap (λ i. Back (record { transaction = i; which = Settle }) ∷ []) same
named_by id party errand.Idle same = ap (λ i. Back (record { transaction = i; which = Settle }) ∷ []) same

-- a party that comes back is the step of its errand
pub came_back : (sent : PartyNotes) (event : Event) → IsDone sent event → step_of event ≡ Back (name_of sent) ∷ []
came_back sent event comes = ap step_of comes.3 ∙ named_by sent.id (back_of sent comes.0) sent.errand refl
