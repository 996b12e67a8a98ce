-- What a desk in memory took and gave.
use Rattle.std.specs.Prelude.{◌≡◌, ℕ, [], ◌∷◌, ◌++◌, map, Result, Ok, Err}
use Rattle.tip_session.specs.Desks.{Name, Seen, Step, faulted, name_in}
use Rattle.tip_session.specs.Desks as desks
use Rattle.tip_session.specs.declared.desk.DeskFault.{DeskFault}
use Rattle.tip_session.specs.declared.desk.Outgoing.{Outgoing}
use Rattle.tip_session.specs.declared.desk.Outgoing.TheVariants as out
use Rattle.session_trial.specs.declared.desk.MemoryDesk.{MemoryDesk}
use Rattle.session_trial.specs.declared.desk.Taken.{Taken}
use Rattle.session_trial.specs.declared.desk.Taken.TheVariants as taken

-- an errand is named by its number
abbrev pub name_of : ℕ → Name
name_of n = record { transaction = n ∷ []; which = desks.Vote }

abbrev pub step_of : Taken → Step
step_of (taken.Line heard) = desks.Line heard
step_of taken.Lost = desks.Lost
step_of (taken.Back n) = desks.Back (name_of n)

abbrev pub seen_of : MemoryDesk → Seen
seen_of d = record { steps = map step_of d.taken.items; given = d.given; owed = name_in name_of d.owed }

-- the oldest item of the outbox is given, and it alone
abbrev pub GivesOldest : MemoryDesk → Outgoing → MemoryDesk → Type 0
GivesOldest old (out.Next item) new = old.outbox.items ≡ item ∷ new.outbox.items
GivesOldest old out.Gone new = (old.outbox.items ≡ []) × (new.outbox.items ≡ [])
GivesOldest old out.Stopped new = new.outbox.items ≡ old.outbox.items

-- a step is kept while there is room
abbrev pub Keeps : MemoryDesk → Taken → Result (Unit {0}) DeskFault → MemoryDesk → Type 0
Keeps old step (Ok done) new = seen_of new ≡ record (seen_of old) { steps = map step_of old.taken.items ++ step_of step ∷ [] }
Keeps old step (Err f) new = seen_of new ≡ faulted (seen_of old) f
