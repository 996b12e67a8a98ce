-- What is known of a sound world before a move, and that a party that comes back leaves it whole.
use Rattle.std.proofs.Common.{◌≡◌, true, false, Some, refl, subst}
use Rattle.std.specs.Prelude.{◌&&◌, ◌||◌, not, nat_le}
use Rattle.std.specs.List.{list_all}
use Rattle.std.specs.Option.{option_map_or}
use Rattle.std.proofs.lemmas.Bool.{and_parts}
use Rattle.tip_branch.specs.Notes.{PartyNotes}
use Rattle.tip_branch.specs.declared.member.Errand.{Errand}
use Rattle.tip_branch.specs.declared.member.Errand.TheVariants as errand
use Rattle.tip_rows.specs.Keys.{is_same}
use Rattle.tip_machine.specs.Given.{was_given}
use Rattle.tip_machine.specs.Invariants.{IsSound}
use Rattle.tip_machine.specs.Invariants.Links.{are_distinct}
use Rattle.tip_machine.specs.Invariants.Parties.{is_due, is_of_this_start, is_out_for, is_sent}
use Rattle.tip_machine.specs.Moves.{World}
use Rattle.tip_machine.specs.Requests.{owner}
use Rattle.tip_machine.specs.Returns.{Back, back_from, back_of, event_of}
use Rattle.tip_machine.specs.States.{State}
use Rattle.tip_machine.specs.Steps.{attempt, entered}
use Rattle.tip_machine.specs.Types.{Transaction}
use Rattle.tip_agreement.proofs.Around.{Whole}
use Rattle.tip_agreement.proofs.Events.{entered_whole}
use Rattle.tip_agreement.proofs.Keys.{are_given, keys_of}
use Rattle.tip_agreement.proofs.Proceeding.{AllWhole}
use Rattle.tip_agreement.proofs.Returned.{IsAwaited, owns, settled_whole, voted_whole}
use Rattle.tip_agreement.proofs.Sound.{whole_from}

pub sound_whole : (world : World) → IsSound world → Whole world.state
sound_whole world sound = whole_from world.state (and_parts (are_distinct is_same (keys_of world.state.transactions)) _ sound.keyed).0 sound.roles sound.connections sound.transactions

pub sound_given : (world : World) → IsSound world → are_given world.state world.state.transactions ≡ true
sound_given world sound = (and_parts _ (list_all (λ (t : Transaction). was_given world.state t.key) world.state.transactions) sound.keyed).1

-- a party that is due is awaited
pub due_awaited : (party : PartyNotes) (s : State) → is_due s party ≡ true → IsAwaited party s
due_awaited party s is =
    let a = and_parts (nat_le party.epoch s.head.epoch && is_sent party.errand party) (not (is_of_this_start s party) || option_map_or (λ (t : Transaction). is_out_for party.errand t.place) (owner party s) false) is in
    record {
      sent = (and_parts (nat_le party.epoch s.head.epoch) (is_sent party.errand party) a.0).1;
      due = λ t found. waits t found (owns party s t found).epoch a.1;
    } where
      waits : (t : Transaction) → owner party s ≡ Some t → is_of_this_start s party ≡ true → not (is_of_this_start s party) || option_map_or (λ (t : Transaction). is_out_for party.errand t.place) (owner party s) false ≡ true → is_out_for party.errand t.place ≡ true
      waits t found here either = subst (λ o. option_map_or (λ (t : Transaction). is_out_for party.errand t.place) o false ≡ true) found (subst (λ b. not b || option_map_or (λ (t : Transaction). is_out_for party.errand t.place) (owner party s) false ≡ true) here either)

-- a party that comes back
pub back_whole : (s : State) (party : PartyNotes) (back : Back) → Whole s → is_due s party ≡ true → AllWhole (attempt (event_of party back) (entered s))
back_whole s party back whole due = step party.errand refl where
  awaited : IsAwaited party (entered s).state
  awaited = let known = due_awaited party s due in record { sent = known.sent; due = known.due }

  step : (e : Errand) → party.errand ≡ e → AllWhole (attempt (back_from e (back_of party back)) (entered s))
  step errand.Vote is = voted_whole party back (entered s) (entered_whole s whole) awaited is
  step errand.Commit is = settled_whole party back (entered s) (entered_whole s whole) awaited
  step errand.Abort is = settled_whole party back (entered s) (entered_whole s whole) awaited
  step errand.Idle is = settled_whole party back (entered s) (entered_whole s whole) awaited
