use Rattle.std.proofs.Common.{ap, sym, ◌∙◌}
use Rattle.std.specs.Prelude.{slice_get}
use Rattle.std.specs.Option.{option_copied}
use Rattle.tip_outlook.specs.Noting.{noted}
use Rattle.tip_outlook.proofs.Subordinates.{decided_with}
use Rattle.tip_outlook.proofs.others.decide_noting.Goals as goal

pub returns-in-Some : goal.returns-in-Some
returns-in-Some c = decided_with (noted c.args.note.now) c.args.txn.now.parts c.args.part c.in-Some.local.now c.local_answer.result _ c.decide.result
    (ap (slice_get c.args.txn.now.parts) (sym c.local.ensures) ∙ sym c.part.ensures ∙ ap option_copied c.in-Some.is) c.local_answer.ensures c.noting.ensures c.decide.ensures
