-- WHAT THE MOVES OF A HOST ARE TO ONE REALM (ours): each is a move of the realm's machine, or none. Chosen are only which party comes
-- back, what its branches answer, and the boxes of a start.
use Rattle.std.specs.Prelude.{◌≡◌, ◌⊎◌, ℕ, List, [], ◌∷◌, ◌++◌}
use Rattle.tip_branch.specs.declared.branch.Badge.{Badge}
use Rattle.tip_machine.specs.Moves as Machine
use Rattle.tip_machine.specs.Returns.{Back}
use Rattle.tip_machine.specs.Types.{Event}
use Rattle.tip_machine.specs.declared.event.Outcome.{Outcome}
use Rattle.tip_machine.specs.declared.event.Outcome.TheVariants.{Stored}
use Rattle.tip_rows.specs.Keys.{Key}
use Rattle.tip_run.specs.Moves.{Move}
use Rattle.tip_run.specs.declared.moves.Move.TheVariants as move
use Rattle.tip_run.specs.declared.shown.Shown.{Shown}
use Rattle.tip_run.specs.declared.shown.Shown.TheVariants as shown

-- such a move where it is of this realm, and else none
abbrev pub OnlyIf : Type 0 → (Machine.Move → Type 0) → List Machine.Move → Type 0
OnlyIf here is moves = ((here → ⊥) × (moves ≡ [])) ⊎ (here × (one : Machine.Move) × is one × (moves ≡ one ∷ []))

abbrev pub IsStep : Event → Outcome → Machine.Move → Type 0
IsStep event outcome one = one ≡ Machine.Move.Step event outcome

abbrev pub IsGo : Outcome → Machine.Move → Type 0
IsGo outcome one = (place : ℕ) × (back : Back) × (one ≡ Machine.Move.Go place back outcome)

abbrev pub IsLoss : Machine.Move → Type 0
IsLoss one = one ≡ Machine.Move.Lose 0

abbrev pub IsRenewal : Machine.Move → Type 0
IsRenewal one = (boxes : Key → List Badge) × (one ≡ Machine.Move.Renew boxes Stored)

abbrev pub IsRestart : List Machine.Move → Type 0
IsRestart moves = (boxes : Key → List Badge) × (moves ≡ Machine.Move.Restart boxes ∷ [])

-- ONE MOVE, by what was shown of it
abbrev pub IsTo : ℕ → Move → Shown → List Machine.Move → Type 0
IsTo place (move.Step event) (shown.Came said) moves = OnlyIf (event.realm ≡ place) (IsStep event.event said.outcome) moves
IsTo place (move.Go realm) (shown.Came said) moves = OnlyIf (realm ≡ place) (IsGo said.outcome) moves
IsTo place (move.Go realm) shown.Nobody moves = moves ≡ []
IsTo place (move.Lose realm) (shown.Lost party) moves = OnlyIf (realm ≡ place) IsLoss moves
IsTo place (move.Lose realm) shown.Nobody moves = moves ≡ []
IsTo place (move.Renew realm boxes) shown.Started moves = OnlyIf (realm ≡ place) IsRenewal moves
IsTo place (move.Restart boxes) shown.Started moves = IsRestart moves
IsTo place next one moves = ⊥

-- ALL OF THEM, one after another
abbrev pub AreTo : ℕ → List Move → List Shown → List Machine.Move → Type 0
AreTo place [] [] moves = moves ≡ []
AreTo place (next ∷ more) (one ∷ shown) moves = (first : List Machine.Move) × (rest : List Machine.Move) × IsTo place next one first × AreTo place more shown rest × (moves ≡ first ++ rest)
AreTo place next one moves = ⊥
