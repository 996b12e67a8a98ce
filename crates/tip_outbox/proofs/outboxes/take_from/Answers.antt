use Rattle.std.proofs.Common.{◌∙◌, ap, drop, sym}
use Rattle.std.specs.Prelude.{slice_get}
use Rattle.tip_outbox.proofs.Taking.{none_taken}
use Rattle.tip_outbox.proofs.outboxes.take_from.Goals as goal

pub returns-in-None-clause-taken : goal.returns-in-None-clause-taken
returns-in-None-clause-taken c = sym (ap (λ l. slice_get l 0) (none_taken c.args.sent.now.items c.args.number (sym c.place_of.ensures ∙ c.in-None.is)))

pub returns-in-None-clause-left : goal.returns-in-None-clause-left
returns-in-None-clause-left c = let none = none_taken c.args.sent.now.items c.args.number (sym c.place_of.ensures ∙ c.in-None.is) in none ∙ sym (ap (drop 1) none)
