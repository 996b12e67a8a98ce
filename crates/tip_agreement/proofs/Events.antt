-- Events that leave a realm whole.
use Rattle.std.proofs.Common.{◌≡◌, Bool, true, false, ℕ, ◌+◌, List, [], ◌∷◌, ◌++◌, Option, Some, None, refl, ap, ◌∙◌}
use Rattle.std.specs.Prelude.{◌||◌, find, length}
use Rattle.std.specs.List.{list_any}
use Rattle.std.proofs.lemmas.Bool.{or_from}
use Rattle.tip_branch.specs.declared.branch.Badge.{Badge}
use Rattle.tip_line.specs.declared.refusal.Refusal.TheVariants.{Full}
use Rattle.tip_rows.specs.Keys.{Key}
use Rattle.tip_machine.specs.Connections.{accepted, asks_for, dialled, is_on, is_part_of, is_superior_of, names, reaches}
use Rattle.tip_machine.specs.Changes.{refuse}
use Rattle.tip_machine.specs.Order.{ordered}
use Rattle.tip_machine.specs.Requests.{added, dial, hand_back, lost, opened}
use Rattle.tip_machine.specs.States.{State, Work, connection_of, has_place}
use Rattle.tip_machine.specs.Steps.{attempt, chosen, entered, frozen, is_open, step}
use Rattle.tip_machine.specs.Types.{Connection, Event}
use Rattle.tip_machine.specs.declared.connection.Purpose.{Purpose}
use Rattle.tip_machine.specs.declared.connection.Role.{Role}
use Rattle.tip_machine.specs.declared.event.Outcome.{Outcome}
use Rattle.tip_machine.proofs.Lists.{find-added}
use Rattle.tip_machine.proofs.Walks.{Ends, chosen_ends, either}
use Rattle.tip_agreement.proofs.Apart.{all_added}
use Rattle.tip_agreement.proofs.Around.{Alike, Whole, all_stand_still, clash, clashes, same_roles, stands}
use Rattle.tip_agreement.proofs.Closing.{fail_whole, whole_alike}
use Rattle.tip_agreement.proofs.Found.{apart_more}

-- Counts alone change

alike_counts : (old new : State) → new.connections ≡ old.connections → new.head.epoch ≡ old.head.epoch → new.head.name ≡ old.head.name → (other : Key) → Alike other old new
alike_counts old new same epoch name other = record {
  epoch = epoch;
  name = name;
  superior = ap (find (is_superior_of other)) same;
  part = λ place. ap (find (is_part_of other place)) same;
  on = ap (list_any (is_on other)) same;
}

pub entered_whole : (s : State) → Whole s → Whole (entered s).state
entered_whole s whole = record {
  keys = whole.keys;
  apart = whole.apart;
  standing = all_stand_still s (entered s).state s.connections (same_roles s (entered s).state refl) whole.standing;
  transactions = whole_alike s (entered s).state refl (alike_counts s (entered s).state refl refl refl) whole;
}

-- A connection more

none_same : (d : Connection) → clash d.role None ≡ false
none_same d = step d.role where
  step : (role : Option Role) → clash role None ≡ false
  step None = refl
  step (Some role) = refl

none_clashes : (cs : List Connection) (new : Connection) → new.role ≡ None → list_any (λ (d : Connection). clashes d new) cs ≡ false
none_clashes [] new none = refl
none_clashes (d ∷ cs) new none = or_from _ _ (ap (clash d.role) none ∙ none_same d) (none_clashes cs new none)

any_more : (test : Connection → Bool) (cs : List Connection) (new : Connection) → test new ≡ false → list_any test (cs ++ new ∷ []) ≡ list_any test cs
any_more test [] new fails = rw fails refl
any_more test (c ∷ cs) new fails = ap (λ b. test c || b) (any_more test cs new fails)

added_whole : (new : ℕ → Connection) (s : State) → ((n : ℕ) → (new n).role ≡ None) → ((n : ℕ) → stands s (new n) ≡ true) → Whole s → Whole (added new (entered s)).state
unfolding added
added_whole new s none stand whole =
    let n = s.head.given + 1 in
    let v = (added new (entered s)).state in
    record {
      keys = whole.keys;
      apart = apart_more clashes s.connections (new n) (none_clashes s.connections (new n) (none n)) whole.apart;
      standing = all_stand_still s v v.connections (same_roles s v refl) (all_added (stands s) s.connections (new n) whole.standing (stand n));
      transactions = whole_alike s v refl (λ other. record {
        epoch = refl;
        name = refl;
        superior = find-added (is_superior_of other) s.connections (new n) (ap (asks_for other) (none n));
        part = λ place. find-added (is_part_of other place) s.connections (new n) (ap (reaches other place) (none n));
        on = any_more (is_on other) s.connections (new n) (ap (names other) (none n));
      }) whole;
    }

abbrev pub WholeFrom : State → Work → Type 0
WholeFrom s v = Whole s → Whole v.state

pub opened_whole : (boxes : List Badge) (s : State) → WholeFrom s (opened boxes (entered s))
unfolding opened
opened_whole boxes s = either (WholeFrom s) (has_place (length boxes) (entered s).state) (added (accepted boxes) (entered s)) (hand_back boxes (refuse Full (entered s))) (added_whole (accepted boxes) s (λ n. refl) (λ n. refl)) (entered_whole s)

pub dial_whole : (address : List ℕ) (purpose : Purpose) (boxes : List Badge) (s : State) → WholeFrom s (dial address purpose boxes (entered s))
unfolding dial
dial_whole address purpose boxes s = either (WholeFrom s) (has_place (length boxes) (entered s).state) _ (hand_back boxes (refuse Full (entered s))) (added_whole (dialled address purpose boxes) s (λ n. refl) (λ n. refl)) (entered_whole s)

pub lost_whole : (found : Option Connection) (s : State) → ((c : Connection) → found ≡ Some c → connection_of c.number (entered s).state ≡ Some c) → WholeFrom s (lost found (entered s))
unfolding lost
lost_whole None s there whole = entered_whole s whole
lost_whole (Some c) s there whole = fail_whole c (entered s) (entered_whole s whole) (there c refl)

-- One step

ordered_whole : (s : State) (v : Work) → WholeFrom s v → WholeFrom s (ordered s v)
unfolding ordered
ordered_whole s v keeps whole = keeps whole

pub steps_whole : (s : State) (event : Event) (outcome : Outcome) → Ends (WholeFrom s) (attempt event (entered s)) → WholeFrom s (step s event outcome)
steps_whole s event outcome ends = either (WholeFrom s) (is_open s) (ordered s (chosen (attempt event (entered s)) outcome)) (frozen event s) (ordered_whole s _ (chosen_ends (WholeFrom s) (attempt event (entered s)) outcome ends)) (λ whole. whole)
