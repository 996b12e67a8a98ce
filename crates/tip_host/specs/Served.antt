-- AN EVENT AT A HOST, by what its caller can know who does not know the host (ours): by its own pass, and by what came back.
use Rattle.std.specs.Prelude.{◌≡◌, ◌+◌, ◌++◌, ℕ, true, List, [], ◌∷◌, length, Option, Some, None, if◌then◌else◌}
use Rattle.std.specs.Option.{IfSome}
use Rattle.tip_honest.specs.Honesty.{Journal, StandsFor}
use Rattle.tip_journal.specs.Journal.{at_number}
use Rattle.tip_journal.specs.Pass.{last_own}
use Rattle.tip_machine.specs.States.{State}
use Rattle.tip_machine.specs.Steps.{fits, is_open, nowhere, step, wants}
use Rattle.tip_machine.specs.Types.{Event}
use Rattle.tip_machine.specs.declared.event.Outcome.{Outcome}
use Rattle.tip_host.specs.Entries.{Noted}
use Rattle.tip_host.specs.Hosts.{IsOf, Reply}

-- the pass has this entry more, with its number; or it has no entry more
abbrev pub Gains : ℕ → ℕ → Event → Outcome → List Noted → List Noted → Option ℕ → Type 0
Gains place epoch event outcome before after None = after ≡ before
Gains place epoch event outcome before after (Some number) =
    after ≡ before ++ record { realm = place; epoch = epoch; number = number; entry = record { event = event; outcome = outcome } } ∷ []

-- THE REALM STOOD SO WHERE A JOURNAL OF ITS OWN LED, in which the pass's last entry of that start stands at its number; what came back
-- is what the realm's machine answers there, by what the store made of the change; and the pass has this entry more, numbered behind
-- the journal's last
pub record AnswersHere (state : State) (before after : List Noted) (place : ℕ) (event : Event) (reply : Reply) : Type 0 where
  pub journal : Journal
  pub stands : StandsFor state journal
  pub last : IfSome (last_own place journal.epoch before) (λ noted. at_number journal.entries noted.number ≡ Some noted.entry)
  pub wanted : reply.change ≡ wants state event
  pub fit : fits reply.change reply.outcome ≡ true
  pub answer : IsOf place reply (step state event reply.outcome).answer
  pub number : reply.entry ≡ (if is_open state then Some (length journal.entries + 1) else None)
  pub gains : Gains place journal.epoch event reply.outcome before after reply.entry

-- no such realm is hosted
pub record AnswersNowhere (before after : List Noted) (place : ℕ) (event : Event) (reply : Reply) : Type 0 where
  pub wanted : reply.change ≡ None
  pub answer : IsOf place reply (nowhere event)
  pub number : reply.entry ≡ None
  pub gains : after ≡ before

-- as its realm stood
abbrev pub AnswersAt : Option State → List Noted → List Noted → ℕ → Event → Reply → Type 0
AnswersAt None before after place event reply = AnswersNowhere before after place event reply
AnswersAt (Some state) before after place event reply = AnswersHere state before after place event reply

-- wherever that was
abbrev pub IsAnswered : List Noted → List Noted → ℕ → Event → Reply → Type 0
IsAnswered before after place event reply = (stood : Option State) × AnswersAt stood before after place event reply
