-- What is to be done for the rows of a realm that starts (ours).
use Rattle.std.specs.Prelude.{ℕ, ◌+◌, ◌==◌, Bool, false, not, ◌||◌, if◌then◌else◌, List, [], ◌∷◌, length}
use Rattle.std.specs.List.{flat_map}
use Rattle.tip_machine.specs.Answers.{identifier}
use Rattle.tip_machine.specs.declared.connection.Purpose.TheVariants.{Query, Reconnect}
use Rattle.tip_recovery.specs.Adopting.{Unfinished}
use Rattle.tip_rows.specs.declared.row.Row.{Row}
use Rattle.tip_rows.specs.declared.row.Row.TheVariants.{Committed, Prepared}
use Rattle.tip_duties.specs.declared.duties.Dial.{Dial}

abbrev pub identified : Unfinished → List ℕ
identified row = identifier row.realm row.key

-- a committed row with branches, which may not have been told, or without subordinates, so that nothing else ends it
abbrev pub is_resumed : Row → Bool
is_resumed (Prepared address superior branches subordinates) = false
is_resumed (Committed branches subordinates) = not (length branches == 0) || length subordinates == 0

abbrev pub resumed_in : Unfinished → List (List ℕ)
resumed_in row = if is_resumed row.row then identified row ∷ [] else []

-- WHAT IS RESUMED: each such row's transaction
abbrev pub resumed : List Unfinished → List (List ℕ)
resumed rows = flat_map resumed_in rows

-- subordinates are reached again, each by its number in the row, which counts from here on
abbrev pub calls_from : ℕ → List ℕ → List (List ℕ × List ℕ) → List Dial
calls_from number id [] = []
calls_from number id (subordinate ∷ rest) = record { address = subordinate.0; purpose = Reconnect id number } ∷ calls_from (number + 1) id rest

-- in doubt the superior is asked; once committed each subordinate is reached again
abbrev pub calls_in : List ℕ → Row → List Dial
calls_in id (Prepared address superior branches subordinates) = record { address = address; purpose = Query id } ∷ []
calls_in id (Committed branches subordinates) = calls_from 1 id subordinates

-- WHO IS CALLED, and why: once for each
abbrev pub called : List Unfinished → List Dial
called rows = flat_map (λ row. calls_in (identified row) row.row) rows
