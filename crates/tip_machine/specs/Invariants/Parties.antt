-- The parties of transactions, and those that are out for an errand (ours).
use Rattle.std.specs.Prelude.{◌==◌, ◌&&◌, ◌||◌, not, nat_le, Bool, true, false, List, filter, is_none}
use Rattle.std.specs.List.{list_all, list_any}
use Rattle.std.specs.Option.{option_map_or}
use Rattle.std.specs.Str.{bytes_eq}
use Rattle.tip_branch.specs.Members.{is_active}
use Rattle.tip_branch.specs.Notes.{PartyNotes}
use Rattle.tip_branch.specs.declared.member.Errand.{Errand}
use Rattle.tip_branch.specs.declared.member.Errand.TheVariants as errand
use Rattle.tip_branch.specs.declared.member.Member.{Member}
use Rattle.tip_machine.specs.Types.{PartyPlace, Transaction}
use Rattle.tip_machine.specs.Invariants.Links.{are_distinct}
use Rattle.tip_machine.specs.Requests.{owner}
use Rattle.tip_machine.specs.States.{State}
use Rattle.tip_machine.specs.Transactions.{has_id, has_ready}
use Rattle.tip_machine.specs.declared.transaction.PartyPlace.TheVariants.{Here, Out, Spent}

-- How far a party is

abbrev pub is_unasked : Member → Bool
is_unasked member = is_active member && is_none member.vote

-- none of its branches was asked yet
abbrev pub are_unasked : PartyNotes → Bool
are_unasked party = list_all is_unasked party.members

-- none of its branches is active, and one waits for the outcome
abbrev pub has_promised : PartyNotes → Bool
has_promised party = not (list_any is_active party.members) && has_ready party

-- none of its branches is active, and none waits for the outcome
abbrev pub has_left : PartyNotes → Bool
has_left party = not (list_any is_active party.members) && not (has_ready party)

-- Here

-- a party that is here is its transaction's own, of this start
abbrev pub is_its_own : State → Transaction → PartyPlace → Bool
is_its_own state transaction (Here party) = (party.epoch == state.head.epoch) && has_id state.head.name party.id transaction
is_its_own state transaction (Out errand) = true
is_its_own state transaction Spent = true

-- Out

-- how a party goes out for an errand
abbrev pub is_sent : Errand → PartyNotes → Bool
is_sent errand.Idle party = false
is_sent errand.Vote party = are_unasked party
is_sent errand.Commit party = has_promised party
is_sent errand.Abort party = true

abbrev pub is_same_errand : Errand → Errand → Bool
is_same_errand errand.Vote errand.Vote = true
is_same_errand errand.Commit errand.Commit = true
is_same_errand errand.Abort errand.Abort = true
is_same_errand this that = false

abbrev pub is_out_for : Errand → PartyPlace → Bool
is_out_for this (Out that) = is_same_errand this that
is_out_for this place = false

-- it was made in this start
abbrev pub is_of_this_start : State → PartyNotes → Bool
is_of_this_start state party = party.epoch == state.head.epoch

-- one that went out in this start is due: its transaction waits for it
abbrev pub is_due : State → PartyNotes → Bool
is_due state party =
    nat_le party.epoch state.head.epoch && is_sent party.errand party
    && (not (is_of_this_start state party) || option_map_or (λ transaction. is_out_for party.errand transaction.place) (owner party state) false)

-- a transaction waits for one party at most
abbrev pub are_out : State → List PartyNotes → Bool
are_out state errands = are_distinct (λ this that. bytes_eq this.id that.id) (filter (is_of_this_start state) errands) && list_all (is_due state) errands
