use Rattle.std.proofs.Common.{ap, ◌∙◌}
use Rattle.std.proofs.Output.{has_written_of_eq}
use Rattle.tip_rows.specs.Branches.{are_branches}
use Rattle.tip_rows.specs.Rows.{branches_word}
use Rattle.tip_rows.proofs.WrittenLemmas.{branches_written}
use Rattle.tip_rows.proofs.text.BranchesDisplay.fmt.Goals as goal

pub returns-in-len1-up-clause-writes : goal.returns-in-len1-up-clause-writes
returns-in-len1-up-clause-writes g c plain ok =
    let same = c.as_slice.ensures.same in
    let text = branches_written c.as_slice.result.now c.index-number-0.result c.index-label-0.result c.in-len1-up.len_at_least (ap are_branches same ∙ c.as_slice.ensures.branches) in
    has_written_of_eq _ _ _ _ _ (text ∙ ap branches_word same) (c.write.ensures.writes plain ok)
