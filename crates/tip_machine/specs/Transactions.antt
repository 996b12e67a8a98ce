-- One open transaction: its names, its parties, what their answers decide, and what is stored of it.
use Rattle.std.specs.Prelude.{ℕ, zero, suc, ◌+◌, ◌==◌, ◌&&◌, Bool, true, false, List, [], ◌∷◌, ◌++◌, map, drop, Option, Some, None, is_some, is_none, filter, slice_get, if◌then◌else◌}
use Rattle.std.specs.List.{flat_map, list_any, list_all}
use Rattle.std.specs.Str.{bytes_eq}
use Rattle.tip_branch.specs.declared.branch.Badge.{Badge}
use Rattle.tip_branch.specs.declared.member.Member.{Member}
use Rattle.tip_branch.specs.Members.{fresh_members, is_ready}
use Rattle.tip_branch.specs.Notes.{PartyNotes, idle_party}
use Rattle.tip_branch.specs.Votes.{ballot}
use Rattle.tip_rows.specs.Keys.{Key, is_same}
use Rattle.tip_rows.specs.declared.row.Row.{Row}
use Rattle.tip_rows.specs.declared.row.Row.TheVariants as row
use Rattle.tip_txn.specs.Parts.{is_text, is_yes, changed_at}
use Rattle.tip_txn.specs.Transactions.{local_party}
use Rattle.tip_txn.specs.declared.answer.Ballot.{Ballot}
use Rattle.tip_txn.specs.declared.answer.Ballot.TheVariants as answer
use Rattle.tip_txn.specs.declared.answer.Decision.{Decision}
use Rattle.tip_txn.specs.declared.answer.Decision.TheVariants as decisions
use Rattle.tip_txn.specs.declared.answer.Phase.{Phase}
use Rattle.tip_txn.specs.declared.answer.Phase.TheVariants.{Active, Asking, Prepared, Committed, Aborted}
use Rattle.tip_txn.specs.declared.part.Participant.{Participant}
use Rattle.tip_machine.specs.Types.{Connection, PartyPlace, Transaction}
use Rattle.tip_machine.specs.Answers.{identifier}
use Rattle.tip_machine.specs.declared.head.Head.{Head}
use Rattle.tip_machine.specs.declared.transaction.Origin.{Origin}
use Rattle.tip_machine.specs.declared.transaction.Origin.TheVariants as origin
use Rattle.tip_machine.specs.declared.transaction.PartyPlace.TheVariants.{Here, Out, Spent}

-- Its names

-- is this the transaction of that key?
abbrev pub has_key : Key → Transaction → Bool
has_key key transaction = is_same key transaction.key

-- is this the transaction of that identifier? One of another realm is none of ours, as one that never was
abbrev pub has_id : List ℕ → List ℕ → Transaction → Bool
has_id realm id transaction = bytes_eq id (identifier realm transaction.key)

-- the key of the next transaction that is made on a connection (ours, for section 5)
abbrev pub next_key : Head → Connection → Key
next_key head connection = record { epoch = head.epoch; connection = connection.number; number = connection.made + 1 }

-- Its phase

abbrev pub is_active : Phase → Bool
is_active Active = true
is_active Asking = false
is_active Prepared = false
is_active Committed = false
is_active Aborted = false

abbrev pub is_prepared : Phase → Bool
is_prepared Active = false
is_prepared Asking = false
is_prepared Prepared = true
is_prepared Committed = false
is_prepared Aborted = false

abbrev pub is_committed : Phase → Bool
is_committed Active = false
is_committed Asking = false
is_committed Prepared = false
is_committed Committed = true
is_committed Aborted = false

-- it has no outcome yet
abbrev pub is_undecided : Phase → Bool
is_undecided Active = true
is_undecided Asking = true
is_undecided Prepared = true
is_undecided Committed = false
is_undecided Aborted = false

abbrev pub entering : Phase → Transaction → Transaction
entering phase transaction = record transaction { phase = phase }

-- Where it comes from

abbrev pub comes_from : Option (List ℕ) → List ℕ → Origin → Bool
comes_from peer id origin.Root = false
comes_from None id (origin.Subordinate address superior) = false
comes_from (Some peer) id (origin.Subordinate address superior) = is_text peer address && bytes_eq id superior

-- it was pushed or pulled from this manager under this identifier, and has no outcome yet (section 13, ALREADYPUSHED)
abbrev pub is_known : Option (List ℕ) → List ℕ → Transaction → Bool
is_known peer superior transaction = is_undecided transaction.phase && comes_from peer superior transaction.origin

-- its superior is at this address
abbrev pub is_decided_at : Option (List ℕ) → Origin → Bool
is_decided_at peer origin.Root = false
is_decided_at None (origin.Subordinate address superior) = false
is_decided_at (Some peer) (origin.Subordinate address superior) = is_text peer address

-- a transaction that has just begun, with active branches in these boxes
abbrev pub begun : Head → Key → Origin → List Badge → Transaction
begun head key origin boxes = record {
  key = key;
  origin = origin;
  place = Here (idle_party head.name head.epoch (identifier head.name key) (fresh_members 1 boxes));
  branches = head.branches;
  phase = Active;
  parts = local_party ∷ [];
}

-- Its local party

abbrev pub has_ready : PartyNotes → Bool
has_ready party = list_any is_ready party.members

abbrev pub standing_at : PartyPlace → Transaction → Transaction
standing_at place transaction = record transaction { place = place }

abbrev pub is_spent : PartyPlace → Bool
is_spent (Here party) = false
is_spent (Out errand) = false
is_spent Spent = true

-- the members of the party, where it is here
abbrev pub members_at : PartyPlace → List Member
members_at (Here party) = party.members
members_at (Out errand) = []
members_at Spent = []

-- What answers decide. `Decides` is the definition; this computes it, as a law says

abbrev pub refuses : Option Ballot → Bool
refuses None = false
refuses (Some answer.Yes) = false
refuses (Some answer.No) = true
refuses (Some answer.ReadOnly) = false
refuses (Some answer.Lost) = true

abbrev pub decision : List (Option Ballot) → Decision
decision answers =
    if list_any refuses answers then decisions.Abort
    else if list_any is_none answers then decisions.Wait
    else if list_any is_yes answers then decisions.Commit
    else decisions.ReadOnly

-- what the parts of a transaction decide, its local party among them (section 13, PREPARE and COMMIT)
abbrev pub decision_of : Transaction → Decision
decision_of transaction = decision (map (λ part. part.answer) transaction.parts)

-- what a party answers, that decided so (ours)
abbrev pub as_answer : Decision → Ballot
as_answer decisions.Wait = answer.No
as_answer decisions.Commit = answer.Yes
as_answer decisions.Abort = answer.No
as_answer decisions.ReadOnly = answer.ReadOnly

-- what a party answers that was asked: the decision over its members, in which one left active is a no (ours)
abbrev pub party_answer : PartyNotes → Ballot
party_answer party = as_answer (decision (filter is_some (map ballot party.members)))

-- Its parts

-- a part of it is changed
abbrev pub noting : ℕ → (Participant → Participant) → Transaction → Transaction
noting part f transaction = record transaction { parts = changed_at part f transaction.parts }

-- a part more, the last
abbrev pub enlisting : Participant → Transaction → Transaction
enlisting part transaction = record transaction { parts = transaction.parts ++ part ∷ [] }

-- the subordinates of these parts that said yes, each with its place as a part
abbrev pub willing_from : ℕ → List Participant → List (ℕ × Participant)
willing_from part [] = []
willing_from part (p ∷ parts) = if is_yes p.answer then (part, p) ∷ willing_from (part + 1) parts else willing_from (part + 1) parts

-- its subordinates that said yes, in the order enlisted; the local party stands before all parts
abbrev pub subordinates : Transaction → List (ℕ × Participant)
subordinates transaction = willing_from 1 (drop 1 transaction.parts)

-- the number of a subordinate counts from 1
abbrev pub subordinate_of : ℕ → Transaction → Option (ℕ × Participant)
subordinate_of zero transaction = None
subordinate_of (suc place) transaction = slice_get (subordinates transaction) place

-- all has been told that was to be told: its party is spent, and each subordinate has acknowledged (section 13, COMMIT)
abbrev pub is_done : Transaction → Bool
is_done transaction = is_spent transaction.place && list_all (λ s. s.1.acknowledged) (subordinates transaction)

-- What is stored of it

-- the branches that promised to commit
abbrev pub promised : Transaction → List (ℕ × List ℕ)
promised transaction = filter (λ branch. list_any (λ member. is_ready member && (member.number == branch.0)) (members_at transaction.place)) transaction.branches

-- where a subordinate is, and the identifier that it gave
abbrev pub pair_of : Option (List ℕ) → Option (List ℕ) → List (List ℕ × List ℕ)
pair_of (Some address) (Some id) = (address, id) ∷ []
pair_of address id = []

-- the subordinates that promised to commit, of those that gave an identifier: others can't be reached again
abbrev pub pairs : Transaction → List (List ℕ × List ℕ)
pairs transaction = flat_map (λ s. pair_of s.1.address s.1.id) (subordinates transaction)

-- the row of a transaction in doubt, whose superior is there (section 10; the form is ours)
abbrev pub row_in_doubt : List ℕ → List ℕ → Transaction → Row
row_in_doubt address superior transaction = row.Prepared address superior (promised transaction) (pairs transaction)

-- the row of a transaction that is committed (section 10; the form is ours)
abbrev pub row_committed : Transaction → Row
row_committed transaction = row.Committed (promised transaction) (pairs transaction)
