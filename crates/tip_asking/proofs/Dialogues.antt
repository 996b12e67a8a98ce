-- Each dialogue begins with IDENTIFY.
use Rattle.std.proofs.Common.{◌≡◌, ℕ, List, [], ◌∷◌, Option, refl, sym, subst}
use Rattle.std.specs.Io.KnownBytes.{Appends}
use Rattle.tip_line.specs.declared.command.Command.{Command}
use Rattle.tip_client.specs.Dialogues.{line_of, lines_of}
use Rattle.tip_writing.specs.Fronts.{IsFrontOf}
use Rattle.tip_asking.specs.Asking.{commands_of, identify}
use Rattle.tip_asking.specs.declared.asked.Asked.{Asked}
use Rattle.tip_asking.specs.declared.asked.Asked.TheVariants.{Presence, Transaction, End}
use Rattle.tip_asking.proofs.Fronts.{front_behind, front_first, front_said}

begins : (asked : Asked) → (later : List Command) × (commands_of asked ≡ identify ∷ later)
begins Presence = (_, refl)
begins (Transaction id) = (_, refl)
begins (End id decision) = (_, refl)

module _ (asked : Asked) (first : Command) (is : first ≡ identify) where
  pub identify_first : (old new : Option (List ℕ)) → IsFrontOf (line_of first) old new → IsFrontOf (lines_of (commands_of asked)) old new
  identify_first old new front =
      let begun = begins asked in
      subst (λ (cs : List Command). IsFrontOf (lines_of cs) old new) (sym begun.1) (front_first first identify is begun.0 old new front)

  pub identify_said : (old new : Option (List ℕ)) → Appends old new (line_of first) → IsFrontOf (lines_of (commands_of asked)) old new
  identify_said old new said =
      let begun = begins asked in
      subst (λ (cs : List Command). IsFrontOf (lines_of cs) old new) (sym begun.1) (front_said first identify is begun.0 old new said)

  pub identify_behind : (later : List Command) (old mid new : Option (List ℕ)) → commands_of asked ≡ identify ∷ later → Appends old mid (line_of first) → IsFrontOf (lines_of later) mid new
      → IsFrontOf (lines_of (commands_of asked)) old new
  identify_behind later old mid new are said front = subst (λ (cs : List Command). IsFrontOf (lines_of cs) old new) (sym are) (front_behind first identify is later old mid new said front)
