-- A party that goes out was not called since its errand was given: whoever is given an errand forgets the calls of the one before.
use Rattle.std.proofs.Common.{◌≡◌, true, ℕ, List, [], ◌∷◌, refl, ap, ◌∙◌}
use Rattle.std.specs.Prelude.{is_none, length, map}
use Rattle.std.specs.List.{list_all}
use Rattle.std.specs.Option.{option_map_or}
use Rattle.tip_branch.specs.Members.{forgetting}
use Rattle.tip_branch.specs.declared.member.Member.{Member}
use Rattle.tip_line.specs.declared.refusal.Refusal.TheVariants.{Frozen, Full}
use Rattle.tip_rows.specs.Keys.{Key}
use Rattle.tip_machine.specs.Types.{Event}
use Rattle.tip_machine.specs.Changes.{refuse}
use Rattle.tip_machine.specs.Commands.{make}
use Rattle.tip_machine.specs.Connections.{accepted}
use Rattle.tip_machine.specs.Order.{ordered}
use Rattle.tip_machine.specs.Reactions.{react}
use Rattle.tip_machine.specs.Requests.{added, dial, hand_back, opened}
use Rattle.tip_machine.specs.States.{State, Work, has_place, seated}
use Rattle.tip_machine.specs.Steps.{attempt, entered, frozen, is_open, step}
use Rattle.tip_machine.specs.declared.connection.Purpose.{Purpose}
use Rattle.tip_machine.specs.declared.event.Outcome.{Outcome}
use Rattle.tip_machine.proofs.AttemptWalks.{attempt-goes, each_event}
use Rattle.tip_machine.proofs.Keeping.{any, each}
use Rattle.tip_machine.proofs.Stepping.{returned-silent}
use Rattle.tip_machine.proofs.Walks.{Closed, Ends, Is, chosen_ends, either, from_one}
use Rattle.tip_agreement.specs.Truth.{is_uncalled}

-- who goes out, if anybody does, was not called since its errand was given
abbrev goes_uncalled : Work → Type 0
goes_uncalled work = option_map_or is_uncalled work.answer.work true ≡ true

record Keeps (before after : Work) : Type 0 where
  uncalled : goes_uncalled before → goes_uncalled after

same_work : (w v : Work) → v.answer.work ≡ w.answer.work → Keeps w v
same_work w v same = record { uncalled = λ is. ap (λ o. option_map_or is_uncalled o true) same ∙ is }

-- whoever has forgotten its calls was not called
pub none_called : (members : List Member) → list_all (λ (member : Member). is_none member.call) (map forgetting members) ≡ true
none_called [] = refl
none_called (member ∷ members) = none_called members

closed_by_keeps : (key : Key) → Closed Keeps any (Is key)
unfolding react make
closed_by_keeps key = record {
  same = λ w. same_work w w refl;
  then = λ a b c f g. record { uncalled = λ is. g.uncalled (f.uncalled is) };
  tells = λ n item w may of. same_work w _ refl;
  dismisses = λ other c w v on found keeps. record { uncalled = keeps.uncalled };
  gives = λ errand party other w on here. record { uncalled = λ is. none_called party.members };
  lets = λ party other w on here. same_work w _ refl;
  returns = λ party t w on own. same_work w _ refl;
  hands = λ w boxes. same_work w _ refl;
  alters = λ other f w on same stands. same_work w _ refl;
  ends = λ other w on. same_work w _ refl;
  makes = λ from c w m on is. same_work w _ refl;
  changes = λ n f w m same made. same_work w _ refl;
  reacts = λ reaction other w plain on. same_work w _ refl;
  takes = λ n w m. same_work w _ refl;
  displaces = λ other c w v on found keeps. record { uncalled = keeps.uncalled };
}

-- from work in which nobody goes out yet
module _ (w : Work) (start : goes_uncalled w) where
  opened_uncalled : (boxes : List _) → goes_uncalled (opened boxes w)
  unfolding opened added
  opened_uncalled boxes = either goes_uncalled (has_place (length boxes) w.state) (added (accepted boxes) w) (hand_back boxes (refuse Full w)) start start

  dial_uncalled : (address : List ℕ) (purpose : Purpose) (boxes : List _) → goes_uncalled (dial address purpose boxes w)
  unfolding dial added
  dial_uncalled address purpose boxes = either goes_uncalled (has_place (length boxes) w.state) _ (hand_back boxes (refuse Full w)) start start

  attempt_uncalled : (event : Event) → Ends goes_uncalled (attempt event w)
  attempt_uncalled event =
      each_event (λ event. Ends goes_uncalled (attempt event w)) opened_uncalled dial_uncalled
      (λ event not. attempt-goes (λ key. Keeps) any closed_by_keeps w (Ends goes_uncalled) (from_one (λ key. Keeps) w goes_uncalled (λ v one. one.1.uncalled start)) (λ why. start) (λ party. start) event not (λ seat names. each (seated seat w.state)))
      event

ordered_uncalled : (state : State) (v : Work) → goes_uncalled v → goes_uncalled (ordered state v)
unfolding ordered
ordered_uncalled state v is = is

frozen_uncalled : (state : State) (event : Event) → goes_uncalled (frozen event state)
frozen_uncalled state event = ap (λ o. option_map_or is_uncalled o true) (returned-silent Frozen event).1

pub step_uncalled : (state : State) (event : Event) (outcome : Outcome) → option_map_or is_uncalled (step state event outcome).answer.work true ≡ true
step_uncalled state event outcome = either goes_uncalled (is_open state) _ (frozen event state) (ordered_uncalled state _ (chosen_ends goes_uncalled (attempt event (entered state)) outcome (attempt_uncalled (entered state) refl event))) (frozen_uncalled state event)
