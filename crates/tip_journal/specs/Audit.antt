-- When the entries of all journals are those of the passes.
use Rattle.std.specs.Prelude.{◌≡◌, ℕ, ◌==◌, ◌<◌, ◌≤◌, List, [], ◌∷◌, length, map, Some, All, Any, IfSome, IsSomeAnd, count_by, sum_by, slice_get}
use Rattle.std.specs.List.{flat_map, enumerate_from}
use Rattle.tip_journal.specs.Journal.{Written, at_number}
use Rattle.tip_journal.specs.Pass.{Held, own}
use Rattle.tip_journal.specs.declared.pass.Noted.{Noted}
use Rattle.tip_journal.specs.declared.auditing.Reported.{Reported}

-- each of them stands in the journal at its number, and the numbers rise, from above `last`
abbrev pub Follows : {E : Type 0} → List E → ℕ → List (Noted E) → Type 0
Follows entries last [] = Unit {0}
Follows entries last (x ∷ xs) = (last < x.number) × (at_number entries x.number ≡ Some x.entry) × Follows entries x.number xs

-- how often a number stands there
abbrev pub times : {E : Type 0} → ℕ → List (Noted E) → ℕ
times number noted = count_by (λ x. x.number == number) noted

-- how often a number of one realm and epoch stands in all passes
abbrev pub times_in : {E : Type 0} → ℕ → ℕ → ℕ → List (Held E) → ℕ
times_in realm epoch number passes = sum_by (λ pass. times number (own realm epoch pass.noted)) passes

-- The journal has the passes' entries: each pass's stand in it in order, and each number stands in one pass, once.
pub record IsAudited {E : Type 0} (realm epoch : ℕ) (entries : List E) (passes : List (Held E)) : Type 0 where
  pub follow : All (λ pass. Follows entries 0 (own realm epoch pass.noted)) passes
  pub once : (number : ℕ) → 0 < number → number ≤ length entries → times_in realm epoch number passes ≡ 1

-- the realm and epoch that an entry names have a journal
abbrev pub IsHosted : {S E : Type 0} → List (List (Written S E)) → Noted E → Type 0
IsHosted journals noted = IsSomeAnd (slice_get journals noted.realm) (Any (λ journal. journal.epoch ≡ noted.epoch))

-- All journals have the passes' entries, and the passes have no others.
pub record AreAudited {S E : Type 0} (journals : List (List (Written S E))) (passes : List (Held E)) : Type 0 where
  pub each : (realm : ℕ) → IfSome (slice_get journals realm) (All (λ journal. IsAudited realm journal.epoch journal.entries passes))
  pub hosted : All (λ pass. All (IsHosted journals) pass.noted) passes

-- what is reported of a journal
abbrev pub reported : {S E : Type 0} → ℕ → Written S E → Reported
reported realm journal = record { realm = realm; epoch = journal.epoch; entries = length journal.entries }

-- what is reported of all journals, by declaration, then by epoch
abbrev pub report_of : {S E : Type 0} → List (List (Written S E)) → List Reported
report_of journals = flat_map (λ history. map (reported history.0) history.1) (enumerate_from 0 journals)
