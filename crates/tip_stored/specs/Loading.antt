-- Realms are loaded from a store: what is read of each, and what the store is on the way.
use Rattle.std.specs.Prelude.{◌≡◌, ◌⊎◌, ℕ, Bool, true, false, ◌&&◌, ◌<◌, not, nat_le, List, [], ◌∷◌, length, map, take, Some, option_map, pos, slice_get, unwrap_or, IfErr, IfOk, OnOk, Result, Ok, Err}
use Rattle.std.specs.List.{list_all}
use Rattle.std.specs.Str.{bytes_eq}
use Rattle.tip_machine.specs.Heads.{are_allowed, is_within}
use Rattle.tip_machine.specs.Starting.{are_counted_from}
use Rattle.tip_machine.specs.declared.head.Limits.{Limits}
use Rattle.tip_machine.specs.declared.head.Head.{Head}
use Rattle.tip_machine.specs.declared.head.Start.{Start}
use Rattle.tip_machine.specs.Heads.{starting}
use Rattle.tip_machine.specs.States.{started}
use Rattle.tip_recovery.specs.Adopting.{Recovery, unadopted}
use Rattle.tip_core.specs.Hosted.{realm}
use Rattle.tip_stored.specs.Recovering.{Recovering}
use Rattle.tip_rows.specs.Keys.{Key}
use Rattle.tip_rows.specs.Logs.{Keeping, Log, IsPart, IsSettled, IsAtEnd, IsSpoiled, counted, with_all_raised, with_known}
use Rattle.tip_rows.specs.declared.row.Row.{Row}
use Rattle.tip_stored.specs.declared.realm_spec.RealmSpec.{RealmSpec}
use Rattle.tip_stored.specs.declared.loading.LoadFault.{LoadFault}
use Rattle.tip_stored.specs.declared.loading.LoadFault.TheVariants as fault

-- Declarations

-- branches are one to eight, numbered from 1
abbrev pub are_declared : List (ℕ × List ℕ) → Bool
are_declared branches = is_within 1 8 (length branches) && are_counted_from 1 branches

abbrev pub is_allowed : Limits → List (ℕ × List ℕ) → Bool
is_allowed limits branches = are_allowed limits && are_declared branches

-- no two realms have one name
abbrev pub names_differ : List RealmSpec → Bool
names_differ [] = true
names_differ (spec ∷ specs) = list_all (λ other. not (bytes_eq spec.name other.name)) specs && names_differ specs

-- at most 64 realms, each with a name of its own
abbrev pub are_hostable : List RealmSpec → Bool
are_hostable specs = nat_le (length specs) 64 && names_differ specs

abbrev pub names_of : List RealmSpec → List (List ℕ)
names_of specs = map (λ spec. spec.name) specs

-- a realm at its start in an epoch
abbrev pub start_of : RealmSpec → ℕ → Start
start_of spec epoch = record { name = spec.name; address = spec.address; limits = spec.limits; branches = spec.branches; epoch = epoch }

-- a realm as it was declared
abbrev pub spec_of : Head → RealmSpec
spec_of head = record { name = head.name; address = head.address; limits = head.limits; branches = head.branches }

-- each realm at its start, in the epoch that was loaded
abbrev pub starts_of : List RealmSpec → List Recovery → List Start
starts_of [] realms = []
starts_of (spec ∷ specs) [] = []
starts_of (spec ∷ specs) (recovery ∷ realms) = start_of spec recovery.epoch ∷ starts_of specs realms

-- The log

-- each of these realms is known
abbrev pub known_all : List (List ℕ) → Log → Log
known_all [] log = log
known_all (name ∷ names) log = known_all names (with_known name log)

-- THE LOG IN WHICH REALMS START: each of them is known, and every epoch rose by one
abbrev pub opened : List (List ℕ) → Log → Log
opened names log = with_all_raised (known_all names log)

-- all of them are known
abbrev pub AreKnown : List (List ℕ) → Log → Log → Type 0
AreKnown names log now = now ≡ known_all names log

-- some of them are known
abbrev pub IsKnown : List (List ℕ) → Log → Log → Type 0
IsKnown names log now = (k : ℕ) × (now ≡ known_all (take k names) log)

-- that log
abbrev pub AreOpened : List (List ℕ) → Log → Log → Type 0
AreOpened names log now = now ≡ opened names log

-- on the way there some of them are known, or all are and the epochs rose, all at once
abbrev pub IsOnTheWay : List (List ℕ) → Log → Log → Type 0
IsOnTheWay names log now = IsKnown names log now ⊎ (now ≡ opened names log)

-- the store stays as it is
abbrev pub Stays : Log → Log → Type 0
Stays log now = now ≡ log

-- nothing is on the way
abbrev pub Never : Log → Log → Type 0
Never log now = ⊥

-- WHAT BECOMES OF A STORE that is led along a way of logs: where it ends, and what a stop may leave
pub record Goes {S : Type 0} (kept : Keeping S) (refused : Bool) (end way : Log → Log → Type 0) (old new : S) : Type 0 where
  pub rows : (log : Log) → kept.stands old log → (now : Log) × end log now × kept.stands new now
  pub counts : kept.faults new ≡ counted refused (kept.faults old)
  pub truth : kept.is_true new → kept.is_true old
  pub stop : (log : Log) → kept.stands old log → kept.is_true new → (left : Log) → kept.may_leave new left → kept.may_leave old left ⊎ way log left
  pub due : (log : Log) → kept.stands old log → (realm : List ℕ) → kept.is_due new realm ≡ kept.is_due old realm

-- What is read

-- A REALM THAT WAS READ: its epoch and its rows are the log's, and nothing was adopted yet
pub record IsRead (log : Log) (name : List ℕ) (recovery : Recovery) : Type 0 where
  pub rows : List (Key × Row)
  pub part : IsPart log name recovery.epoch rows
  pub unadopted : recovery.rows ≡ map (unadopted name) rows

-- the rows are of this realm, which starts in an epoch
pub record IsIts (realm : List ℕ) (recovery : Recovery) : Type 0 where
  pub name : recovery.realm ≡ realm
  pub epoch : 0 < recovery.epoch

abbrev pub AreTheirs : List RealmSpec → List Recovery → Type 0
AreTheirs [] [] = Unit {0}
AreTheirs [] (recovery ∷ realms) = ⊥
AreTheirs (spec ∷ specs) [] = ⊥
AreTheirs (spec ∷ specs) (recovery ∷ realms) = IsIts spec.name recovery × AreTheirs specs realms

abbrev pub AreRead : Log → List RealmSpec → List Recovery → Type 0
AreRead log [] [] = Unit {0}
AreRead log [] (recovery ∷ realms) = ⊥
AreRead log (spec ∷ specs) [] = ⊥
AreRead log (spec ∷ specs) (recovery ∷ realms) = IsRead log spec.name recovery × AreRead log specs realms

-- Faults

abbrev pub is_refusal_to_load : LoadFault → Bool
is_refusal_to_load fault.Refused = true
is_refusal_to_load other = false

abbrev pub is_bad_realm : LoadFault → Bool
is_bad_realm fault.BadRealm = true
is_bad_realm other = false

-- was a call refused by the store?
abbrev pub refused_by : {T : Type 0} → Result T LoadFault → Bool
refused_by (Ok x) = false
refused_by (Err load_fault) = is_refusal_to_load load_fault

-- what is stored of a realm that is read is no row, or it has no epoch
abbrev pub IsBad : Log → List ℕ → Type 0
IsBad log realm = IsSpoiled log realm ⊎ (unwrap_or (log.epochs realm) (pos 0) ≡ pos 0)

-- what is stored of one of these realms is no row
abbrev pub IsOneSpoiled : List RealmSpec → Log → Type 0
IsOneSpoiled specs log = (place : ℕ) × (spec : RealmSpec) × (slice_get specs place ≡ Some spec) × IsSpoiled log spec.name

-- the reason of a fault: two realms of one name, or more than 64; an epoch at its end; what was stored of one of them is no row
abbrev pub IsReason : List RealmSpec → Log → LoadFault → Type 0
IsReason specs log fault.BadRealm = are_hostable specs ≡ false
IsReason specs log fault.EpochEnd = (realm : List ℕ) × IsAtEnd (known_all (names_of specs) log) realm
IsReason specs log fault.BadRow = IsOneSpoiled specs log
IsReason specs log fault.Refused = Unit {0}
IsReason specs log fault.Memory = Unit {0}

-- the same of one realm that is read from a log
abbrev pub IsReasonToRead : Log → List ℕ → LoadFault → Type 0
IsReasonToRead log realm fault.BadRow = IsBad log realm
IsReasonToRead log realm fault.Refused = Unit {0}
IsReasonToRead log realm fault.Memory = Unit {0}
IsReasonToRead log realm other = ⊥

-- and of one of these realms
abbrev pub IsReasonToReadAll : List RealmSpec → Log → LoadFault → Type 0
IsReasonToReadAll specs log fault.BadRow = (place : ℕ) × (spec : RealmSpec) × (slice_get specs place ≡ Some spec) × IsBad log spec.name
IsReasonToReadAll specs log fault.Refused = Unit {0}
IsReasonToReadAll specs log fault.Memory = Unit {0}
IsReasonToReadAll specs log other = ⊥

-- REALMS ARE LOADED from a store. At Ok its log is the one in which they start; each realm has just started, in the epoch that was
-- read, and its rows and its epoch are the log's. Else the store comes back somewhere on the way there, with a reason.
pub record Loads {S : Type 0} (kept : Keeping S) (specs : List RealmSpec) (store : S) (result : Result (Recovering S) (LoadFault × S)) : Type 0 where
  pub ok : IfOk result (λ loaded. Goes kept false (AreOpened (names_of specs)) (IsOnTheWay (names_of specs)) store loaded.store)
  pub realms : IfOk result (λ loaded. (place : ℕ) → realm loaded.core place ≡ option_map (λ start. started (starting start)) (slice_get (starts_of specs loaded.realms) place))
  pub read : (log : Log) → kept.stands store log → IfOk result (λ loaded. kept.is_true loaded.store → AreRead (opened (names_of specs) log) specs loaded.realms)
  -- each known epoch could rise
  pub risen : (log : Log) → kept.stands store log → IfOk result (λ loaded. kept.is_true loaded.store → (known : List ℕ) → ¬ IsAtEnd (known_all (names_of specs) log) known)
  -- and a stop leaves that log alone
  pub settled : IfOk result (λ loaded. kept.is_true loaded.store → IsSettled kept loaded.store)
  -- and they are these realms
  pub theirs : IfOk result (λ loaded. AreTheirs specs loaded.realms)
  pub hostable : OnOk result (are_hostable specs ≡ true)
  -- a refusal is counted, and no other fault is
  pub err : IfErr result (λ fault. Goes kept (is_refusal_to_load fault.0) (IsOnTheWay (names_of specs)) (IsOnTheWay (names_of specs)) store fault.1)
  pub reason : (log : Log) → kept.stands store log → IfErr result (λ fault. kept.is_true fault.1 → IsReason specs log fault.0)
  pub bad_realm : IfErr result (λ fault. is_bad_realm fault.0 ≡ not (are_hostable specs))
