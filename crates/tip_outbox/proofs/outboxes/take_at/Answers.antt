use Rattle.tip_outbox.proofs.Taking.{taken_first, taken_left, taken_others}
use Rattle.std.proofs.Common.{◌∙◌, ap}
use Rattle.tip_outbox.specs.Waiting.{sent_to}
use Rattle.tip_outbox.proofs.outboxes.take_at.Goals as goal

pub returns-clause-taken : goal.returns-clause-taken
returns-clause-taken c = taken_first c.args.sent.now.items c.args.number c.args.place c.in-Some.one c.requires c.in-Some.ensures.value

pub returns-clause-left : goal.returns-clause-left
returns-clause-left c = ap (sent_to c.args.number) c.in-Some.ensures.items ∙ taken_left c.args.sent.now.items c.args.number c.args.place c.in-Some.one c.requires c.in-Some.ensures.value

pub returns-clause-others : goal.returns-clause-others
returns-clause-others c = λ other differ. ap (sent_to other) c.in-Some.ensures.items ∙ taken_others c.args.sent.now.items c.args.number c.args.place c.in-Some.one c.requires c.in-Some.ensures.value other differ
