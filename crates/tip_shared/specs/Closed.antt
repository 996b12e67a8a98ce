-- What a host leaves that was shared (ours), and what it lets go before.
use Rattle.std.specs.Prelude.{◌≡◌, ℕ, List, map, Some, slice_get}
use Rattle.tip_core.specs.Hosted.{realm}
use Rattle.tip_honest.specs.Honesty.{Journal}
use Rattle.tip_honest.specs.declared.entry.Entry.{Entry}
use Rattle.tip_host.specs.Books.{HasRunBehind, out_of, retired_at}
use Rattle.tip_host.specs.Entries.{bare}
use Rattle.tip_host.specs.Hosts.{Host}
use Rattle.tip_journal.specs.Audit.{IsAudited}
use Rattle.tip_journal.specs.Pass.{Held, others}
use Rattle.tip_journal.specs.Retiring.{Retired}
use Rattle.tip_journal.specs.declared.auditing.AuditFault.{AuditFault}
use Rattle.tip_journal.specs.declared.auditing.AuditFault.TheVariants as audit
use Rattle.tip_kept.specs.Keeping.{rows_at}
use Rattle.tip_machine.specs.States.{State}
use Rattle.tip_rows.specs.Logs.{IsPart, Keeping, Log}
use Rattle.tip_shared.specs.declared.closing.CloseFault.{CloseFault}
use Rattle.tip_shared.specs.declared.closing.CloseFault.TheVariants as fault

-- why there is no report
abbrev pub fault_of : AuditFault → CloseFault
fault_of audit.PassMismatch = fault.PassMismatch
fault_of audit.Memory = fault.Memory

-- A JOURNAL WAS LET GO: the passes had its entries, each in one pass, once, and have all their entries but those
pub record HasRetired (realm epoch : ℕ) (before after : List (Held Entry)) : Type 0 where
  pub entries : List Entry
  pub audited : IsAudited realm epoch entries before
  pub left : map (λ pass. pass.noted) after ≡ map (λ pass. others realm epoch pass.noted) before

-- THESE ARE THE STORE AND THE JOURNALS OF A HOST that has ended: the journals of each realm, as many as were let go and those that are
-- kept, are those of one honest run, which leads to its state, its parties that are out and its stored rows; these are its part of any
-- log that the store stood for, as long as it may be relied on, and it stands for that log still
pub record IsClosed {S : Type 0} (kept : Keeping S) (host : Host S) (store : S) (journals : List (List Journal)) (retired : List Retired) : Type 0 where
  pub journals_are : journals ≡ host.books.journals
  pub retired_are : retired ≡ host.books.retired
  pub honest : (place : ℕ) → HasRunBehind (retired_at retired place) (realm host.stored.core place) (out_of host.books place) (rows_at host.books.rows place) (slice_get (bare journals) place)
  pub stands : (log : Log) → kept.stands host.stored.store log → kept.stands store log
  pub stored : (log : Log) (place : ℕ) (state : State) → kept.stands host.stored.store log → realm host.stored.core place ≡ Some state → kept.is_true store → IsPart log state.head.name state.head.epoch (rows_at host.books.rows place)
