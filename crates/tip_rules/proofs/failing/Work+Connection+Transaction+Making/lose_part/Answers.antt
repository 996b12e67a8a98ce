use Rattle.std.proofs.Common.{inl, inr, sym, ◌∙◌}
use Rattle.tip_machine.specs.Types.{seen}
use Rattle.tip_rules.proofs.Losing.{part_aborted, part_open}
use Rattle.tip_rules.proofs.failing.Work+Connection+Transaction+Making.lose_part.Goals as goal

pub returns-in-Active : goal.returns-in-Active
returns-in-Active g c =
    let t = seen c.at.result.now in
    part_open c.args.self.now c.lose_unanswered.new.self c.args.key c.args.part t c.at.ensures.found (elim c.in-Active.is [
      | inl is ↦ inl (sym c.phase.ensures ∙ is)
      | inr is ↦ inr (sym c.phase.ensures ∙ is)
    ]) (c.lose_unanswered.ensures t c.at.ensures.found)

pub returns-in-Aborted : goal.returns-in-Aborted
returns-in-Aborted g c = part_aborted c.args.self.now c.abort.new.self c.args.key c.args.part (seen c.at.result.now) c.at.ensures.found (sym c.phase.ensures ∙ c.in-Aborted.is) c.abort.ensures
