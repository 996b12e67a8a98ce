-- What contracts see of rows in a database (ours).
use Rattle.std.specs.Prelude.{◌≡◌, ℕ, List, Option, Some, None, Bool, true, false, IsTrue, Result, Err, IfOk, refl}
use Rattle.std.proofs.Math.Logic.{∥∥₁_map}
use Rattle.sqlite.specs.Tree.{Trees}
use Rattle.std.specs.Coded.{Coded, code_by, coded×, coded_ℕ, coded_bool}
use Rattle.sqlite_trees.specs.declared.store.Store.{Ghosts}
use Rattle.sqlite.specs.Held.{Held, held_code, state}
use Rattle.sqlite.specs.State.{State, HasCleanDisk}
use Rattle.tip_rows.specs.Logs.{Keeping, Log, IsAtEnd, is_refused_load}
use Rattle.tip_rows.specs.declared.log.LoadFault.{LoadFault}
use Rattle.tip_rows.specs.declared.log.LoadFault.TheVariants.{BadRow}
use Rattle.tip_sql.specs.Standing.{log_of, IsOurs, IsLeft, Stands, MayLeave}

pub record Sql (S : Type 0) : Type 0 where
  pub conn : Held S
  pub faults : ℕ
  -- the connection failed for good, so each call is refused
  pub is_shut : Bool

abbrev pub sql_code : {S : Type 0} → Coded S → Coded (Sql S)
sql_code {S} store = code_by (Held S × (ℕ × Bool)) (coded× (held_code store) (coded× coded_ℕ coded_bool)) (λ s. (s.conn, (s.faults, s.is_shut))) (λ p. record { conn = p.0; faults = p.1.0; is_shut = p.1.1 }) (λ _. refl)

abbrev pub stands_in : {S : Type 0} → Ghosts S → Sql S → Log → Type 0
stands_in g s log = Stands (state g s.conn) s.is_shut log

-- the disk has returned what was written
abbrev pub is_true_in : {S : Type 0} → Ghosts S → Sql S → Type 0
is_true_in g s = HasCleanDisk (state g s.conn)

abbrev pub may_leave_in : {S : Type 0} → Ghosts S → Sql S → Log → Type 0
may_leave_in g s log = MayLeave (state g s.conn) log

-- what such a log shows of its rows; no refusal can be asked for
abbrev pub keeping_in : {S : Type 0} → Ghosts S → Keeping (Sql S)
keeping_in g = record { stands = stands_in g; may_leave = may_leave_in g; is_true = is_true_in g; faults = λ s. s.faults; is_due = λ s realm. false }

-- where a crash leaves trees, it leaves a log
pub leaves_some : (may_leave : Trees → Type 0) → ∥ ((db : Trees) × may_leave db) ∥₁ → ∥ ((left : Log) × ((db : Trees) × may_leave db × (log_of db ≡ left))) ∥₁
leaves_some may_leave some = ∥∥₁_map some (λ it. (log_of it.0, (it.0, it.1, refl)))

-- a connection that answers is open, and as it was
pub record Probes (old new : State) (is_alive : Bool) : Type 0 where
  pub truth : HasCleanDisk new → HasCleanDisk old
  pub was_open : HasCleanDisk new → is_alive ≡ true → IsTrue old.is_open
  pub same : HasCleanDisk new → is_alive ≡ true → IsOurs old → IsLeft new (log_of old.now.trees)
  pub leaves : HasCleanDisk new → (left : Log) → MayLeave new left → MayLeave old left

-- whether an epoch is at its end: that of one realm, or of some realm
abbrev pub IsEnded : Option (List ℕ) → Log → Bool → Type 0
IsEnded None log true = (realm : List ℕ) × IsAtEnd log realm
IsEnded None log false = (realm : List ℕ) → ¬ IsAtEnd log realm
IsEnded (Some realm) log true = IsAtEnd log realm
IsEnded (Some realm) log false = ¬ IsAtEnd log realm

-- Queries that together read something good of the log, or find something bad, and change nothing.
pub record Looks {T : Type 0} (Good : Log → T → Type 0) (Bad : Log → Type 0) (old new : State) (result : Result T LoadFault) : Type 0 where
  pub truth : HasCleanDisk new → HasCleanDisk old
  pub good : HasCleanDisk new → IsOurs old → IfOk result (Good (log_of old.now.trees))
  pub bad : HasCleanDisk new → IsOurs old → result ≡ Err BadRow → Bad (log_of old.now.trees)
  pub same : HasCleanDisk new → IsOurs old → IsTrue new.is_open → IsLeft new (log_of old.now.trees)
  pub opens : HasCleanDisk new → IsOurs old → is_refused_load result ≡ false → IsTrue new.is_open
  pub leaves : HasCleanDisk new → IsOurs old → (left : Log) → MayLeave new left → MayLeave old left
