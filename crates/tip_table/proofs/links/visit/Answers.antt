use Rattle.std.proofs.Common.{◌∙◌}
use Rattle.tip_table.proofs.OwnLemmas.{apart-own}
use Rattle.tip_table.proofs.Sparing.{enough-apart, enough-may, enough-notes, enough-visited}
use Rattle.tip_table.proofs.links.visit.Goals as goal

pub visit_at-requires-clause-apart : goal.visit_at-requires-clause-apart
visit_at-requires-clause-apart g c = enough-apart g.T.Linked (g.V.Visit.left c.args.visitor.now) (g.V.Visit.may c.args.visitor.now) (g.V.Visit.noted c.args.visitor.now) _ c.aim.ensures.items c.aim.ensures.notes c.args.slots.now _ _ c.aimed-keys.ensures (apart-own c.args.slots.now c.args.order.now c.args.realm c.requires.order.apart)

pub visit_at-requires-clause-may : goal.visit_at-requires-clause-may
visit_at-requires-clause-may g c = enough-may g.T.Linked (g.V.Visit.left c.args.visitor.now) (g.V.Visit.may c.args.visitor.now) (g.V.Visit.noted c.args.visitor.now) _ c.aim.ensures.items c.aim.ensures.notes c.args.slots.now _ _ c.aimed-keys.ensures c.args.notes.now c.requires.may

pub returns-clause-visited : goal.returns-clause-visited
returns-clause-visited g c = c.visit_at.ensures.visited ∙ enough-visited g.T.Linked (g.V.Visit.left c.args.visitor.now) (g.V.Visit.may c.args.visitor.now) (g.V.Visit.noted c.args.visitor.now) _ c.aim.ensures.items c.aim.ensures.notes c.args.slots.now _ _ c.aimed-keys.ensures (apart-own c.args.slots.now c.args.order.now c.args.realm c.requires.order.apart)

pub returns-clause-notes : goal.returns-clause-notes
returns-clause-notes g c = c.visit_at.ensures.notes ∙ enough-notes g.T.Linked (g.V.Visit.left c.args.visitor.now) (g.V.Visit.may c.args.visitor.now) (g.V.Visit.noted c.args.visitor.now) _ c.aim.ensures.items c.aim.ensures.notes c.args.slots.now _ _ c.aimed-keys.ensures c.args.notes.now
