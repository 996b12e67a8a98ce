use Rattle.std.proofs.Common.{◌++◌, ℕ, List, string_bytes, drop}
use Rattle.tip_rows.specs.Logs.{Log, LeavesSame}
use Rattle.tip_listing.specs.Listing.{ListsAll}
use Rattle.tip_listing.proofs.listing.list_all.Given as goal

-- the log stands as at first, also after a stop; whatever lists the names that are left, behind what was printed it lists all
abbrev pub invariant-loop-name : goal.invariant-loop-name
invariant-loop-name g l =
    (g.L.RowLog.keeping.is_true l.log → g.L.RowLog.keeping.is_true l.fn.log)
    × ((now : Log) → g.L.RowLog.keeping.stands l.fn.log now → g.L.RowLog.keeping.stands l.log now)
    × LeavesSame g.L.RowLog.keeping l.fn.log l.log
    × ((now : Log) → g.L.RowLog.keeping.stands l.fn.log now → g.L.RowLog.keeping.is_true l.log → (later : List ℕ) → ListsAll now (drop l.name-index l.names) later → ListsAll now l.names (string_bytes l.text ++ later))
