use Rattle.std.proofs.Common.{rules}
use Rattle.std.proofs.lemmas.Fn.{always_returns_same}
use Rattle.tip_stored.proofs.Rising.{precedes, rise_so}
use Rattle.tip_stored.proofs.loading.are_rising.Goals as goal

pub returns : goal.returns
returns c = rise_so c.args.rows.now c.is_sorted_by.result (c.is_sorted_by.ensures.cases precedes (always_returns_same _ _ _ (λ a r f' k. search rules)))
