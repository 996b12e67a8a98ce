-- One more goes out, to a connection that is not named.
use Rattle.std.proofs.Common.{rules}
use Rattle.tip_host.proofs.Speaking.{speaks_more, speaks_named}
use Rattle.tip_host.proofs.spoken.Spoken.note.Goals as goal

pub returns-then-is_full : goal.returns-then-is_full
returns-then-is_full c = λ before speaks. speaks_more before c.args.one.now c.args.self.now speaks (search rules) (search rules)

pub returns-else-is_full : goal.returns-else-is_full
returns-else-is_full c = λ before speaks. speaks_named before c.args.one.now c.args.self.now _ speaks (search rules) (search rules) c.push.ensures.items (search rules)
