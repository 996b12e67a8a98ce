-- What an event that opens no connection leaves alone, and what a refusal leaves.
use Rattle.std.proofs.Common.{◌≡◌, false, ℕ, Option, Some, None, refl, ◌∙◌}
use Rattle.std.specs.Prelude.{IsSome}
use Rattle.std.specs.Option.{IfSome}
use Rattle.tip_line.specs.declared.refusal.Refusal.{Refusal}
use Rattle.tip_rows.specs.Keys.{Key}
use Rattle.tip_machine.specs.Types.{Connection, Event}
use Rattle.tip_machine.specs.States.{Attempt, Work, seated}
use Rattle.tip_machine.specs.Changes.{refuse}
use Rattle.tip_machine.specs.Commands.{make}
use Rattle.tip_machine.specs.Reactions.{react}
use Rattle.tip_machine.specs.Steps.{attempt}
use Rattle.tip_machine.proofs.Walks.{Closed, Ends, EndsAtOne, Is, from_one}
use Rattle.tip_machine.proofs.AttemptWalks.{attempt-goes, is_opening}

-- the counts stay, and the answer says of refusals and of new connections what it said
pub record Keeps (before after : Work) : Type 0 where
  pub head : after.state.head ≡ before.state.head
  pub refusal : after.answer.refusal ≡ before.answer.refusal
  pub opened : after.answer.opened ≡ before.answer.opened

pub any : ℕ → Type 0
any n = Unit {0}

pub may : (n : ℕ) → any n
unfolding any
may n = tt

keeps_same : (w v : Work) → v.state.head ≡ w.state.head → v.answer.refusal ≡ w.answer.refusal → v.answer.opened ≡ w.answer.opened → Keeps w v
keeps_same w v head refusal opened = record { head = head; refusal = refusal; opened = opened }

closed_by_keeps : (key : Key) → Closed Keeps any (Is key)
unfolding react make
closed_by_keeps key = record {
  same = λ w. keeps_same w w refl refl refl;
  then = λ a b c f g. keeps_same a c (g.head ∙ f.head) (g.refusal ∙ f.refusal) (g.opened ∙ f.opened);
  tells = λ n item w may of. keeps_same w _ refl refl refl;
  dismisses = λ other c w v on found keeps. keeps_same w _ keeps.head keeps.refusal keeps.opened;
  gives = λ errand party other w on here. keeps_same w _ refl refl refl;
  lets = λ party other w on here. keeps_same w _ refl refl refl;
  returns = λ party t w on own. keeps_same w _ refl refl refl;
  hands = λ w boxes. keeps_same w _ refl refl refl;
  alters = λ other f w on same stands. keeps_same w _ refl refl refl;
  ends = λ other w on. keeps_same w _ refl refl refl;
  makes = λ from c w m on is. keeps_same w _ refl refl refl;
  changes = λ n f w m same made. keeps_same w _ refl refl refl;
  reacts = λ reaction other w plain on. keeps_same w _ refl refl refl;
  takes = λ n w m. keeps_same w _ refl refl refl;
  displaces = λ other c w v on found keeps. keeps_same w _ keeps.head keeps.refusal keeps.opened;
}

-- nothing was done: the state stays, nothing is told, and no party goes out
pub record IsQuiet (before after : Work) : Type 0 where
  pub state : after.state ≡ before.state
  pub sent : after.answer.sent ≡ before.answer.sent
  pub work : after.answer.work ≡ before.answer.work

-- the counts stay, nothing is opened, and where the event is refused, nothing was done
pub record Goes (before after : Work) : Type 0 where
  pub head : after.state.head ≡ before.state.head
  pub opened : after.answer.opened ≡ before.answer.opened
  pub quiet : IsSome after.answer.refusal → IsQuiet before after

pub some_none : {T : Type 0} (o : Option T) → o ≡ None → IsSome o → ⊥
some_none None e some = absurd (cc)
some_none (Some x) e some = absurd (cc)

kept : (w v : Work) → w.answer.refusal ≡ None → Keeps w v → Goes w v
kept w v none keeps = record { head = keeps.head; opened = keeps.opened; quiet = λ some. absurd (some_none v.answer.refusal (keeps.refusal ∙ none) some) }

refused : (w : Work) (why : Refusal) → Goes w (refuse why w)
refused w why = record { head = refl; opened = refl; quiet = λ some. record { state = refl; sent = refl; work = refl } }

pub each : (found : Option Connection) → IfSome found (λ c. any c.number)
each None = tt
each (Some c) = may c.number

pub event-goes : (event : Event) (w : Work) → is_opening event ≡ false → w.answer.refusal ≡ None → Ends (Goes w) (attempt event w)
event-goes event w not none = attempt-goes (λ key. Keeps) any closed_by_keeps w (Ends (Goes w)) (from_one (λ key. Keeps) w (Goes w) (λ v one. kept w v none one.1)) (refused w) (λ party. record { head = refl; opened = refl; quiet = λ some. record { state = refl; sent = refl; work = refl } }) event not (λ seat names. each (seated seat w.state))

-- a change is wanted only where nothing is refused
abbrev pub IsCalm : Attempt → Type 0
IsCalm (Attempt.Done work) = Unit {0}
IsCalm (Attempt.Asks change stored refused) = (stored.answer.refusal ≡ None) × (refused.answer.refusal ≡ None)

calm : (w : Work) → w.answer.refusal ≡ None → (a : Attempt) → EndsAtOne (λ key. Keeps) w a → IsCalm a
calm w none (Attempt.Done v) keeps = tt
calm w none (Attempt.Asks change stored refused) keeps = (keeps.0.1.refusal ∙ none, keeps.2.1.refusal ∙ none)

pub event-calm : (event : Event) (w : Work) → is_opening event ≡ false → w.answer.refusal ≡ None → IsCalm (attempt event w)
event-calm event w not none = attempt-goes (λ key. Keeps) any closed_by_keeps w IsCalm (calm w none) (λ why. tt) (λ party. tt) event not (λ seat names. each (seated seat w.state))
