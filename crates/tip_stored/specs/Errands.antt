-- Errands of parties that are out.
use Rattle.std.specs.Prelude.{Bool, true, Option}
use Rattle.std.specs.Option.{option_map_or}
use Rattle.tip_agreement.specs.Truth.{is_uncalled}
use Rattle.tip_branch.specs.Notes.{PartyNotes}
use Rattle.tip_branch.specs.declared.member.Errand.{Errand}
use Rattle.tip_branch.specs.declared.member.Errand.TheVariants as errand
use Rattle.tip_machine.specs.Returns.{Back, is_done}

-- who goes out, if anybody does, was not called since its errand was given
abbrev pub goes_uncalled : Option PartyNotes → Bool
goes_uncalled work = option_map_or is_uncalled work true

-- the errand's calls were made; one that has nothing to do makes none
abbrev pub was_done : Errand → Back → Bool
was_done errand.Idle back = true
was_done other back = is_done back
