-- Journals that are let go, once passes have their entries.
use Rattle.std.specs.Prelude.{◌≡◌, ℕ, ◌+◌, ◌==◌, List, [], ◌∷◌, length, map, drop, Option, Some, None, slice_get, if◌then◌else◌}
use Rattle.std.specs.Option.{option_and_then}
use Rattle.tip_journal.specs.Audit.{IsAudited}
use Rattle.tip_journal.specs.Journal.{Written}
use Rattle.tip_journal.specs.Journals.{changed_at}
use Rattle.tip_journal.specs.Pass.{Held, others}
use Rattle.tip_journal.specs.declared.retiring.RetireFault.{RetireFault}
use Rattle.tip_journal.specs.declared.retiring.RetireFault.TheVariants as fault
use Rattle.tip_journal.specs.declared.auditing.AuditFault.{AuditFault}
use Rattle.tip_journal.specs.declared.auditing.AuditFault.TheVariants as audit

-- why a journal is not let go that was audited
abbrev pub fault_of : AuditFault → RetireFault
fault_of audit.PassMismatch = fault.PassMismatch
fault_of audit.Memory = fault.Memory

-- a realm's oldest journal, where it has ended: a later one has begun
abbrev pub oldest_ended : {S E : Type 0} → List (Written S E) → Option (Written S E)
oldest_ended [] = None
oldest_ended (current ∷ []) = None
oldest_ended (oldest ∷ next ∷ later) = Some oldest

-- it, where it is of this epoch
abbrev pub if_of : {S E : Type 0} → ℕ → Written S E → Option (Written S E)
if_of epoch journal = if journal.epoch == epoch then Some journal else None

-- the journal of a realm and epoch, where it is the realm's oldest and has ended
abbrev pub ended_at : {S E : Type 0} → List (List (Written S E)) → ℕ → ℕ → Option (Written S E)
ended_at journals realm epoch = option_and_then (if_of epoch) (option_and_then oldest_ended (slice_get journals realm))

-- A JOURNAL IS RETIRED: it was its realm's oldest and had ended, and the passes had its entries, each in one pass, once. It is gone,
-- and the passes have all their entries but those
pub record IsRetired {S E : Type 0} (old new : List (List (Written S E))) (before after : List (Held E)) (realm epoch entries : ℕ) : Type 0 where
  pub journal : Written S E
  pub was : ended_at old realm epoch ≡ Some journal
  pub audited : IsAudited realm epoch journal.entries before
  pub gone : new ≡ changed_at realm (drop 1) old
  pub left : map (λ pass. pass.noted) after ≡ map (λ pass. others realm epoch pass.noted) before
  pub count : entries ≡ length journal.entries

-- how many journals of a realm were let go, and how many entries they had
pub record Retired : Type 0 where
  pub starts : ℕ
  pub entries : ℕ

-- none was
abbrev pub none_retired : Retired
none_retired = record { starts = 0; entries = 0 }

-- one more, with so many entries
abbrev pub with_retired : ℕ → Retired → Retired
with_retired entries retired = record { starts = retired.starts + 1; entries = retired.entries + entries }
