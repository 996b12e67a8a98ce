-- What a desk took from a session, what it told it, and what each of its answers adds to that.
use Rattle.std.specs.Prelude.{◌≡◌, ◌⊎◌, ℕ, Bool, true, false, List, [], ◌∷◌, ◌++◌, Option, Some, None, Result, Ok, Err}
use Rattle.tip_machine.specs.declared.event.Heard.{Heard}
use Rattle.tip_machine.specs.declared.answer.Item.{Item}
use Rattle.tip_session.specs.declared.given.Given.{Given}
use Rattle.tip_session.specs.declared.desk.DeskFault.{DeskFault}
use Rattle.tip_session.specs.declared.desk.DeskFault.TheVariants as fault
use Rattle.tip_session.specs.declared.desk.Ready.{Ready}
use Rattle.tip_session.specs.declared.desk.Ready.TheVariants as ready
use Rattle.tip_session.specs.declared.desk.Came.{Came}
use Rattle.tip_session.specs.declared.desk.Came.TheVariants as came
use Rattle.tip_session.specs.declared.desk.Outgoing.{Outgoing}
use Rattle.tip_session.specs.declared.desk.Outgoing.TheVariants as out

-- what an errand is for: to vote, or to settle what was decided
pub data Which : Type 0 where
  Vote : Which
  Settle : Which

-- an errand by its name: whose it is, and which
pub record Name : Type 0 where
  pub transaction : List ℕ
  pub which : Which

-- what a session steps
pub data Step : Type 0 where
  -- a line that says this
  Line : Heard → Step
  -- the connection is lost
  Lost : Step
  -- an errand came back
  Back : Name → Step

-- what a desk took from a session, in order, what it told it, and the errand that is out
pub record Seen : Type 0 where
  pub steps : List Step
  pub given : Given
  pub owed : Option Name

-- one step more was taken, and this errand comes of it
abbrev pub stepped : Seen → Step → Option Name → Seen
stepped s step owed = record s { steps = s.steps ++ step ∷ []; owed = owed }

abbrev pub told : Seen → Given → Seen
told s given = record s { given = given }

-- a fault more was told
abbrev pub noting : Given → DeskFault → Given
noting g fault.Stopped = record g { stopped = true }
noting g fault.PassMismatch = record g { mismatch = true }
noting g fault.Frozen = record g { frozen = true }
noting g fault.Memory = record g { memory = true }

-- no step was taken
abbrev pub faulted : Seen → DeskFault → Seen
faulted s f = told s (noting s.given f)

abbrev pub waited : Seen → Ready → Seen
waited s ready.Ready = s
waited s ready.Gone = told s (record s.given { gone = true })
waited s ready.Stopped = told s (record s.given { stopped = true })

abbrev pub refusing : Seen → Seen
refusing s = told s (record s.given { refused = true })

abbrev pub losing : Seen → Seen
losing s = told s (record s.given { lost = true })

abbrev pub halting : Seen → Seen
halting s = told s (record s.given { halted = true })

-- a line is one step, also where the realm refuses what it asks and notes that; else no step
abbrev pub Lines : {W : Type 0} → (W → Name) → Heard → Seen → Result (Came W) DeskFault → Seen → Type 0
Lines name heard s (Ok came.Gone) t = t ≡ told s (record s.given { gone = true })
Lines name heard s (Ok came.Refused) t = (t ≡ refusing s) ⊎ (t ≡ refusing (stepped s (Line heard) None))
Lines name heard s (Ok came.Nothing) t = t ≡ stepped s (Line heard) None
Lines name heard s (Ok (came.Work work)) t = t ≡ stepped s (Line heard) (Some (name work))
Lines name heard s (Err f) t = t ≡ faulted s f

abbrev pub name_in : {W : Type 0} → (W → Name) → Option W → Option Name
name_in name None = None
name_in name (Some work) = Some (name work)

-- an errand that is out comes back as one step; or it is refused, and is out no more
abbrev pub Returns : {W : Type 0} → (W → Name) → Name → Seen → Result (Option W) DeskFault → Seen → Type 0
Returns name n s (Ok more) t = t ≡ stepped s (Back n) (name_in name more)
Returns name n s (Err f) t = t ≡ record (faulted s f) { owed = None }

-- the loss is one step, or it is refused
abbrev pub Loses : {W : Type 0} → (W → Name) → Seen → Result (Option W) DeskFault → Seen → Type 0
Loses name s (Ok more) t = t ≡ losing (stepped s Lost (name_in name more))
Loses name s (Err f) t = t ≡ losing (faulted s f)

-- an item was given, or it was told that none comes
abbrev pub giving : Seen → Outgoing → Seen
giving s (out.Next item) = s
giving s out.Gone = told s (record s.given { gone = true })
giving s out.Stopped = told s (record s.given { stopped = true })

-- these items were given, one after the other, as a desk gives one
abbrev pub Gave : {D : Type 0} → (D → Outgoing → D → Type 0) → D → List Item → D → Type 0
Gave gives d [] e = d ≡ e
Gave gives d (item ∷ items) e = (m : _) × gives d (out.Next item) m × Gave gives m items e

-- nothing was told yet that ends a session
abbrev pub nothing : Given
nothing = record { gone = false; refused = false; stopped = false; mismatch = false; frozen = false; memory = false; lost = false; halted = false }

-- lines may be handed in: nothing was told that ends a session, and no errand is out
pub record IsOpen (s : Seen) : Type 0 where
  pub quiet : s.given ≡ nothing
  pub none_out : s.owed ≡ None

-- what the lines said that were taken
abbrev pub line_of : Step → List Heard
line_of (Line heard) = heard ∷ []
line_of Lost = []
line_of (Back name) = []

abbrev pub lines_in : List Step → List Heard
lines_in [] = []
lines_in (step ∷ steps) = line_of step ++ lines_in steps

abbrev pub has_lost : List Step → Bool
has_lost [] = false
has_lost (Line heard ∷ steps) = has_lost steps
has_lost (Lost ∷ steps) = true
has_lost (Back name ∷ steps) = has_lost steps
