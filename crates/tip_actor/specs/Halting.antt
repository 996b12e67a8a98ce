-- What a store has of a realm where something ends before all of it is done: memory was wanting, or the store has refused.
use Rattle.std.specs.Prelude.{◌≡◌, ℕ, zero, suc, List, Option, Some, None, false}
use Rattle.std.specs.Str.{bytes_eq}
use Rattle.tip_rows.specs.Keys.{Key}
use Rattle.tip_rows.specs.Logs.{Keeping}
use Rattle.tip_rows.specs.declared.row.Row.{Row}
use Rattle.tip_actor.specs.Acting.{Acting, Done, takes}
use Rattle.tip_actor.specs.Standing.{IsStored}

-- each realm that is stored is stored so still
abbrev pub AllStay : {S : Type 0} → Keeping S → S → S → Type 0
AllStay kept old new = (name : List ℕ) (epoch : ℕ) (rows : List (Key × Row)) → IsStored kept old name epoch rows → IsStored kept new name epoch rows

-- a realm's rows are stored, in its epoch
abbrev pub IsStoredAs : {S : Type 0} → Keeping S → S → Acting → Type 0
IsStoredAs kept store acting = IsStored kept store acting.name acting.world.state.head.epoch acting.world.rows

-- before something is done, or behind it
abbrev pub around : Option Done → Acting → ℕ → Acting
around did acting zero = acting
around None acting (suc more) = acting
around (Some done) acting (suc more) = done.acting

-- behind so many of the lines that may be taken
abbrev pub taken : Acting → ℕ → Acting
taken acting count = (takes count acting).acting

-- IT HAS HALTED: the realm is stored as it is at one of these points, and every other as before
pub record Halts {S : Type 0} (kept : Keeping S) (old new : S) (name : List ℕ) (points : ℕ → Acting) : Type 0 where
  pub point : ℕ
  pub named : (points point).name ≡ name
  pub own : IsStoredAs kept new (points point)
  pub others : (other : List ℕ) (epoch : ℕ) (rows : List (Key × Row)) → bytes_eq name other ≡ false → IsStored kept old other epoch rows → IsStored kept new other epoch rows
