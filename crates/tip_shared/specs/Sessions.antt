-- A session over a host that is shared (ours): what its pass shows of its steps, and what it was told.
use Rattle.std.specs.Prelude.{◌≡◌, ℕ, List, [], ◌∷◌, ◌++◌, false, true, Option, Some, None, option_map}
use Rattle.std.specs.List.{flat_map}
use Rattle.tip_branch.specs.Notes.{PartyNotes}
use Rattle.tip_branch.specs.declared.member.Errand.{Errand}
use Rattle.tip_branch.specs.declared.member.Errand.TheVariants as errand
use Rattle.tip_machine.specs.Types.{Event}
use Rattle.tip_machine.specs.declared.event.Event.TheVariants as event
use Rattle.tip_host.specs.Entries.{Noted}
use Rattle.tip_session.specs.Desks.{Name, Seen, Step, Which, Back, Line, Lost, Settle, Vote}
use Rattle.std.specs.Io.KnownBytes.{Appends}
use Rattle.tip_writing.specs.Fronts.{IsFrontOf}
use Rattle.tip_machine.specs.declared.answer.Item.{Item}
use Rattle.tip_session.specs.Ends.{only_back}
use Rattle.tip_session.specs.Written.{has_close, written_of}
use Rattle.tip_session.specs.declared.given.Given.{Given}
use Rattle.tip_session.specs.declared.session_end.SessionEnd.{SessionEnd}
use Rattle.tip_session.specs.declared.session_end.SessionEnd.TheVariants as session
use Rattle.tip_shared.specs.declared.shared_desk.Owed.{Owed}

-- which errand it is that a party was sent for
abbrev pub which_of : Errand → Which
which_of errand.Vote = Vote
which_of other = Settle

-- the errand that a party was sent for
abbrev pub name_of : PartyNotes → Name
name_of sent = record { transaction = sent.id; which = which_of sent.errand }

-- A STEP OF A SESSION is its entry in the pass: a line, a loss, or a party that came back. Other entries are none of a session's
abbrev pub step_of : Event → List Step
step_of (event.Line seat heard) = Line heard ∷ []
step_of (event.Lost seat) = Lost ∷ []
step_of (event.Voted party) = Back (record { transaction = party.id; which = Vote }) ∷ []
step_of (event.Settled party) = Back (record { transaction = party.id; which = Settle }) ∷ []
step_of other = []

abbrev pub steps_in : List Noted → List Step
steps_in noted = flat_map (λ (n : Noted). step_of n.entry.event) noted

-- whose errand is out, and which
abbrev pub name_owed : Owed → Name
name_owed owed = record { transaction = owed.transaction; which = which_of owed.errand }

abbrev pub seen_in : List Noted → Given → Option Owed → Seen
seen_in noted given owed = record { steps = steps_in noted; given = given; owed = option_map name_owed owed }

abbrev pub seen_as : List Step → Given → Option Name → Seen
seen_as steps given owed = record { steps = steps; given = given; owed = owed }

-- parties alone came back
abbrev pub OnlyBack : List Step → List Step → Type 0
OnlyBack before after = (backs : List Step) × (after ≡ before ++ backs) × (only_back backs ≡ true)

-- AN ERRAND AND THOSE THAT COME OF IT came back, this one first, and nothing else was stepped; where none was out, nothing was
abbrev pub BringsBack : Option Name → List Step → List Step → Type 0
BringsBack None before after = after ≡ before
BringsBack (Some name) before after = (backs : List Step) × (after ≡ before ++ Back name ∷ backs) × (only_back backs ≡ true)

-- WHAT A WRITER WRITES: the lines of some items, in order, each with its end, and nothing else; at a write fault a front of them
abbrev pub HasWritten : List ℕ → Option (List ℕ) → Option (List ℕ) → SessionEnd → Type 0
HasWritten realm old new session.ReadFault = ⊥
HasWritten realm old new session.TurnLimit = ⊥
HasWritten realm old new session.PassMismatch = ⊥
HasWritten realm old new session.WriteFault = (items : List Item) × IsFrontOf (written_of realm items) old new
HasWritten realm old new other = (items : List Item) × (has_close items ≡ false) × Appends old new (written_of realm items)
