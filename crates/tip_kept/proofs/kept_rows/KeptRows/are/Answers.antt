use Rattle.std.proofs.Common.{◌∙◌, ap, length}
use Rattle.std.specs.Prelude.{nat_lt}
use Rattle.tip_kept.proofs.Realms.{are_none, none_at}
use Rattle.tip_kept.proofs.kept_rows.KeptRows.are.Goals as goal

pub returns-in-None : goal.returns-in-None
returns-in-None g c = are_none c.args.rows.now c.is_empty.result _ c.is_empty.ensures (rw (← c.self.view_is) (none_at c.self.inside.realms.items c.args.realm (c.in-None.ensures.lookup.0 ∙ ap (λ rows. nat_lt c.args.realm (length rows)) c.deref.ensures.value)))
