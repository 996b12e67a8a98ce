use Rattle.std.proofs.Common.{◌≡◌, ◌∙◌, ℕ, Option, Some, List, ap, subst, sym}
use Rattle.std.specs.Prelude.{option_map, slice_get}
use Rattle.std.proofs.lemmas.Option.{none-some}
use Rattle.tip_machine.specs.Heads.{starting}
use Rattle.tip_machine.specs.States.{State, started}
use Rattle.tip_machine.specs.declared.head.Start.{Start}
use Rattle.tip_core.specs.Hosted.{realm}
use Rattle.tip_recovery.specs.Adopting.{Recovery}
use Rattle.tip_stored.specs.Loading.{starts_of}
use Rattle.tip_stored.specs.Recovering.{HasBegun}
use Rattle.tip_stored.proofs.Opening.{has_begun}
use Rattle.tip_stored.proofs.loading.start_all.Goals as goal

pub returns-clause-begun : goal.returns-clause-begun
returns-clause-begun g c =
    let specs = c.args.specs.items in
    let realms = c.args.realms.now in
    let starts : (place : ℕ) → realm c.in_ok-core.core place ≡ option_map (λ start. started (starting start)) (slice_get (starts_of specs realms) place) = λ place. c.in_ok-core.ensures.realms place ∙ ap (λ (starts : List Start). option_map (λ start. started (starting start)) (slice_get starts place)) c.in_ok-starts.ensures in
    record {
      each = λ place. subst (λ (state : Option State). HasBegun state (slice_get realms place)) (sym (c.in_ok-reserve_all.ensures.realms place ∙ starts place)) (has_begun specs realms c.requires.own place);
      names = c.in_ok-reserve_all.ensures.names;
      room = λ place recovery here.
          let begun = subst (λ (found : Option Recovery). HasBegun (option_map (λ start. started (starting start)) (slice_get (starts_of specs realms) place)) found) here (has_begun specs realms c.requires.own place) in
          c.in_ok-reserve_all.ensures.room place recovery here (λ none. none-some (started (starting begun.0)) (sym none ∙ starts place ∙ begun.1));
    }
