-- The parties that are out: one that is lost.
use Rattle.std.proofs.Common.{◌≡◌, ℕ, Bool, true, false, List, [], ◌∷◌, cond}
use Rattle.std.specs.Prelude.{filter}
use Rattle.std.specs.List.{list_all}
use Rattle.std.specs.Str.{bytes_eq}
use Rattle.std.proofs.lemmas.Bool.{and_from, and_parts}
use Rattle.tip_branch.specs.Notes.{PartyNotes}
use Rattle.tip_machine.specs.Invariants.{IsSound}
use Rattle.tip_machine.specs.Invariants.Links.{are_distinct}
use Rattle.tip_machine.specs.Invariants.Parties.{are_out, is_due, is_of_this_start}
use Rattle.tip_machine.specs.Moves.{World, lost_from, picked}
use Rattle.tip_machine.specs.States.{State}
use Rattle.tip_agreement.proofs.Picking.{picked_out}

-- without the first, what is kept of the others is apart still
apart_behind : (test same : Bool) (state : State) (party : PartyNotes) (errands : List PartyNotes) → are_distinct (λ (this that : PartyNotes). bytes_eq this.id that.id) (cond test (party ∷ filter (is_of_this_start state) errands) (filter (is_of_this_start state) errands)) ≡ true → are_distinct (λ (this that : PartyNotes). bytes_eq this.id that.id) (filter (is_of_this_start state) errands) ≡ true
apart_behind true same state party errands apart = (and_parts _ _ apart).1
apart_behind false same state party errands apart = apart

-- the first of those that are out is due
pub first_due : (state : State) (party : PartyNotes) (errands : List PartyNotes) → are_out state (party ∷ errands) ≡ true → is_due state party ≡ true
first_due state party errands out = (and_parts (is_due state party) (list_all (is_due state) errands) (and_parts (are_distinct (λ (this that : PartyNotes). bytes_eq this.id that.id) (filter (is_of_this_start state) (party ∷ errands))) (list_all (is_due state) (party ∷ errands)) out).1).0

pub out_behind : (state : State) (party : PartyNotes) (errands : List PartyNotes) → are_out state (party ∷ errands) ≡ true → are_out state errands ≡ true
out_behind state party errands out =
    let both = and_parts (are_distinct (λ (this that : PartyNotes). bytes_eq this.id that.id) (filter (is_of_this_start state) (party ∷ errands))) (list_all (is_due state) (party ∷ errands)) out in
    and_from _ _ (apart_behind (is_of_this_start state party) true state party errands both.0) (and_parts (is_due state party) (list_all (is_due state) errands) both.1).1

lost_from_sound : (errands : List PartyNotes) (world : World) → are_out world.state errands ≡ true → IsSound world → IsSound (lost_from errands world).world
lost_from_sound [] world out sound = sound
lost_from_sound (party ∷ errands) world out sound = record {
  numbered = sound.numbered;
  bounded = sound.bounded;
  keyed = sound.keyed;
  roles = sound.roles;
  connections = sound.connections;
  transactions = sound.transactions;
  out = out_behind world.state party errands out;
  known_once = sound.known_once;
  stored = sound.stored;
}

pub lost_sound : (place : ℕ) (world : World) → IsSound world → IsSound (lost_from (picked place world.errands) world).world
lost_sound place world sound = lost_from_sound (picked place world.errands) world (picked_out place world.state world.errands sound.out) sound
