-- All worked examples.
pub mod Scripts
pub mod Commits
pub mod Failures
pub mod Twins
use Rattle.std.specs.Prelude.{List, [], ◌∷◌, ◌++◌}
use Rattle.tip_machine.specs.Examples.Commits.{late, a_no, labelled, push_and_prepare, one_part_says_no, two_parts, pulled, pushed, known_or_not_pulled, in_doubt_and_committed, out_of_turn, overtaken}
use Rattle.tip_machine.specs.Examples.Failures.{part_lost, part_not_valid, not_valid, lost_vote, restarted_in_doubt, refused_removal, presumed_abort, part_reached_again, taken_over, resumed, frozen_and_renewed, stranger}
use Rattle.tip_machine.specs.Examples.Scripts.{Example}

abbrev pub outcomes : List Example
outcomes = late ∷ a_no ∷ labelled ∷ push_and_prepare ∷ one_part_says_no ∷ two_parts ∷ pulled ∷ pushed ∷ known_or_not_pulled ∷ in_doubt_and_committed ∷ out_of_turn ∷ overtaken ∷ []

abbrev pub failures : List Example
failures = part_lost ∷ part_not_valid ∷ not_valid ∷ lost_vote ∷ restarted_in_doubt ∷ refused_removal ∷ presumed_abort ∷ part_reached_again ∷ taken_over ∷ resumed ∷ frozen_and_renewed ∷ stranger ∷ []

abbrev pub worked : List Example
worked = outcomes ++ failures
