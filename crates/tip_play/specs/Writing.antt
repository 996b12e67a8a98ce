-- What is written of one line.
use Rattle.tip_rows.specs.Logs.{Keeping}
use Rattle.std.specs.Prelude.{◌≡◌, ◌≢◌, ℕ, Bool, true, false, List, [], Option, None, Some, Result, Ok, Err, if◌then◌else◌}
use Rattle.std.specs.Io.KnownBytes.{Appends}
use Rattle.tip_scene.specs.Acts.{Acted, Basis, Stage}
use Rattle.tip_scene.specs.Stages.{AStage, IsStage, store_of}
use Rattle.script_lines.specs.Lines.{Reads}
use Rattle.script_lines.specs.declared.line.LineEnd.TheVariants.{TooLong}
use Rattle.script_lines.specs.declared.line.LineFault.TheVariants as line_fault
use Rattle.tip_script.specs.Scripts.{move_of}
use Rattle.tip_scene.specs.Stages.{AreWanted}
use Rattle.tip_scene.specs.Wanting.{wanted_at_start, wanted_by}
use Rattle.tip_writing.specs.Fronts.{IsFrontOf}
use Rattle.tip_play.specs.declared.player.Coming.{Coming}
use Rattle.tip_play.specs.declared.fault.PlayFault.{PlayFault}
use Rattle.tip_play.specs.declared.fault.PlayFault.TheVariants as fault

-- what a line printed was written, or a front of it
abbrev pub Acts : {S : Type 0} → Keeping S → Basis → ℕ → Acted → Option (List ℕ) → Option (List ℕ) → Result (AStage S) PlayFault → Type 0
Acts kept basis number acted old new (Ok code) = ((now : Stage) × (acted.stage ≡ Some now) × IsStage kept basis code now) × Appends old new acted.printed
Acts kept basis number acted old new (Err (fault.Script line)) = (acted.stage ≡ None) × (line ≡ number) × Appends old new acted.printed
Acts kept basis number acted old new (Err fault.Read) = ⊥
Acts kept basis number acted old new (Err fault.Write) = IsFrontOf acted.printed old new
Acts kept basis number acted old new (Err fault.Memory) = IsFrontOf acted.printed old new
Acts kept basis number acted old new (Err fault.Store) = IsFrontOf acted.printed old new

-- the same, as long as the store may be relied on
abbrev pub ActsOn : {S : Type 0} → Keeping S → Basis → ℕ → Acted → Option (List ℕ) → Option (List ℕ) → Result (AStage S) (PlayFault × S) → Type 0
ActsOn kept basis number acted old new (Ok code) = kept.is_true (store_of code) → Acts kept basis number acted old new (Ok code)
ActsOn kept basis number acted old new (Err fault) = kept.is_true fault.1 → Acts kept basis number acted old new (Err fault.0)

-- a text was written at the end, or a front of it
abbrev pub Closes : List ℕ → Option (List ℕ) → Option (List ℕ) → Result (Unit {0}) PlayFault → Type 0
Closes text old new (Ok done) = Appends old new text
Closes text old new (Err (fault.Script line)) = ⊥
Closes text old new (Err fault.Read) = ⊥
Closes text old new (Err fault.Write) = IsFrontOf text old new
Closes text old new (Err fault.Memory) = IsFrontOf text old new
Closes text old new (Err fault.Store) = IsFrontOf text old new

abbrev pub ClosesOn : {S : Type 0} → Keeping S → List ℕ → Option (List ℕ) → Option (List ℕ) → Result S (PlayFault × S) → Type 0
ClosesOn kept text old new (Ok store) = kept.is_true store → Closes text old new (Ok tt)
ClosesOn kept text old new (Err fault) = kept.is_true fault.1 → Closes text old new (Err fault.0)

-- what comes next: the end of a script that was read to its end, or a line with the boxes that it wants
abbrev pub HasCome : Option (List ℕ) → Option (List ℕ) → ℕ → Bool → List ℕ → Result Coming PlayFault → Type 0
HasCome left left' number true line (Ok coming) = (left' ≡ left) × (coming.wanted.kinds.items ≡ [])
HasCome left left' number false line (Ok coming) = Reads left left' line (Ok coming.end) × (coming.end ≢ TooLong) × AreWanted (move_of line) coming.wanted
HasCome left left' number over line (Err (fault.Script at)) = (over ≡ false) × (at ≡ number) × Reads left left' line (Ok TooLong)
HasCome left left' number over line (Err fault.Read) = (over ≡ false) × Reads left left' line (Err line_fault.Read)
HasCome left left' number over line (Err fault.Write) = ⊥
HasCome left left' number over line (Err fault.Memory) = Unit {0}
HasCome left left' number over line (Err fault.Store) = Unit {0}

-- and how many willing boxes it wants
abbrev pub wanted_next : Basis → Stage → Bool → List ℕ → ℕ
wanted_next basis now is_over line = if is_over then wanted_at_start basis now else wanted_by basis now (move_of line)
