-- What a move is, by what has become of it.
use Rattle.std.proofs.Common.{◌≡◌, true, List, refl}
use Rattle.tip_branch.specs.Notes.{PartyNotes}
use Rattle.tip_branch.specs.declared.branch.Badge.{Badge}
use Rattle.tip_machine.specs.Types.{Event}
use Rattle.tip_rows.specs.Logs.{Keeping}
use Rattle.std.specs.Prelude.{ℕ, [], None, map}
use Rattle.tip_machine.specs.Honest.{brings_no_party}
use Rattle.tip_machine.specs.Moves as Machine
use Rattle.tip_run.specs.Moves.{AreRestarted, Comes, ComesBack, HasTaken, IsLost, IsMade, IsRenewed, Move}
use Rattle.tip_run.specs.Refined.{IsGo, IsLoss, IsRenewal, IsRestart, IsStep, IsTo, OnlyIf}
use Rattle.tip_run.specs.Running.{Running}
use Rattle.tip_run.specs.Runs.{is_restart}
use Rattle.tip_run.specs.declared.moves.Move.TheVariants as move
use Rattle.tip_run.specs.declared.shown.Said.{Said}
use Rattle.tip_run.specs.declared.shown.Shown.{Shown}
use Rattle.tip_run.specs.declared.shown.Shown.TheVariants as shown

pub data Kind {S : Type 0} (kept : Keeping S) (old new : Running S) (next : Move) (one : Shown) : Type 0 where
  Stepped : (place : ℕ) (event : Event) (said : Said) → ((at : ℕ) (moves : List Machine.Move) → OnlyIf (place ≡ at) (IsStep event said.outcome) moves → IsTo at next one moves) → brings_no_party event ≡ true → Comes kept old new place event None said → Kind kept old new next one
  Returned : (place : ℕ) (said : Said) → ((at : ℕ) (moves : List Machine.Move) → OnlyIf (place ≡ at) (IsGo said.outcome) moves → IsTo at next one moves) → ComesBack kept old new place said → Kind kept old new next one
  Idle : (place : ℕ) → ((at : ℕ) → IsTo at next one []) → HasTaken old new place None → Kind kept old new next one
  Lost : (place : ℕ) (party : PartyNotes) → ((at : ℕ) (moves : List Machine.Move) → OnlyIf (place ≡ at) IsLoss moves → IsTo at next one moves) → IsLost old new place party → Kind kept old new next one
  Restarted : (boxes : List (List (List Badge))) → ((at : ℕ) (moves : List Machine.Move) → IsRestart moves → IsTo at next one moves) → is_restart next ≡ true → AreRestarted kept old new boxes → Kind kept old new next one
  Renewed : (place : ℕ) (boxes : List (List Badge)) → ((at : ℕ) (moves : List Machine.Move) → OnlyIf (place ≡ at) IsRenewal moves → IsTo at next one moves) → IsRenewed kept old new place boxes → Kind kept old new next one

pub kind : {S : Type 0} (kept : Keeping S) (old new : Running S) (next : Move) (one : Shown) → IsMade kept old next one new → Kind kept old new next one
kind kept old new (move.Step event) (shown.Came said) is = Kind.Stepped event.realm event.event said (λ at moves so. so) is.0 is.1
kind kept old new (move.Go place) (shown.Came said) is = Kind.Returned place said (λ at moves so. so) is
kind kept old new (move.Go place) shown.Nobody is = Kind.Idle place (λ at. refl) is
kind kept old new (move.Lose place) (shown.Lost party) is = Kind.Lost place party (λ at moves so. so) is
kind kept old new (move.Lose place) shown.Nobody is = Kind.Idle place (λ at. refl) is
kind kept old new (move.Restart boxes) shown.Started is = Kind.Restarted (map (λ lots. lots.items) boxes.items) (λ at moves so. so) refl is
kind kept old new (move.Renew place boxes) shown.Started is = Kind.Renewed place boxes.items (λ at moves so. so) is
kind kept old new (move.Step event) (shown.Lost party) is = absurd is
kind kept old new (move.Step event) shown.Nobody is = absurd is
kind kept old new (move.Step event) shown.Started is = absurd is
kind kept old new (move.Go place) (shown.Lost party) is = absurd is
kind kept old new (move.Go place) shown.Started is = absurd is
kind kept old new (move.Lose place) (shown.Came said) is = absurd is
kind kept old new (move.Lose place) shown.Started is = absurd is
kind kept old new (move.Restart boxes) (shown.Came said) is = absurd is
kind kept old new (move.Restart boxes) (shown.Lost party) is = absurd is
kind kept old new (move.Restart boxes) shown.Nobody is = absurd is
kind kept old new (move.Renew place boxes) (shown.Came said) is = absurd is
kind kept old new (move.Renew place boxes) (shown.Lost party) is = absurd is
kind kept old new (move.Renew place boxes) shown.Nobody is = absurd is
