use Rattle.std.proofs.Common.{◌≡◌, drop}
use Rattle.tip_table.specs.Entries.{AreApart, items_at, visited_at}
use Rattle.tip_table.specs.Visits.{MayVisit, notes_of}
use Rattle.tip_table.proofs.order.visit_at.Given as goal

-- what a visit of the rest makes of what was visited is what a visit of all makes
abbrev pub invariant-loop-key : goal.invariant-loop-key
invariant-loop-key g l =
    let rest = drop l.key-index l.keys in
    let v = g.V.Visit in
    record {
      apart : AreApart rest;
      may : MayVisit (v.may l.visitor) (v.noted l.visitor) l.notes (items_at l.slots rest);
      visited : visited_at (v.left l.visitor) l.slots rest ≡ visited_at (v.left l.visitor) l.fn.slots l.keys;
      notes : notes_of (v.noted l.visitor) l.notes (items_at l.slots rest) ≡ notes_of (v.noted l.visitor) l.fn.notes (items_at l.fn.slots l.keys);
    }
