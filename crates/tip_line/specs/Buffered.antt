-- The octets of a reader of lines, in one buffer.
use Rattle.std.specs.Prelude.{◌≡◌, ℕ, ◌≤◌, ◌+◌, List, take, drop, false, vec_len, vec_capacity}
use Rattle.std.specs.List.{list_all}
use Rattle.tip_line.specs.Octets.{is_space, IsWithin}
use Rattle.tip_line.specs.Stops.{StopsAt}
use Rattle.tip_line.specs.declared.buffer.Buffer.{Buffer}
use Rattle.tip_line.specs.declared.buffer.Found.{Found}
use Rattle.tip_line.specs.declared.buffer.Found.TheVariants.{Nothing, Line, Fault}
use Rattle.tip_line.specs.declared.buffer.Stop.TheVariants as stop

-- the octets not given out
abbrev pub pending : {A : Type 0} → Buffer A → List ℕ
pending b = drop b.start b.octets.items

-- what is true of the buffer between two calls
pub record IsReading {A : Type 0} (b : Buffer A) : Type 0 where
  pub started : b.start ≤ vec_len b.octets
  pub bound : b.start + b.known ≤ vec_len b.octets
  pub within : IsWithin (take b.known (pending b))
  pub room : 2048 ≤ vec_capacity b.octets

abbrev pub FoundAt : List ℕ → Found → Type 0
FoundAt octets Nothing = IsWithin octets
FoundAt octets (Line len) = StopsAt octets (stop.Ended len) × (list_all is_space (take len octets) ≡ false)
FoundAt octets (Fault cause) = StopsAt octets (stop.Fault cause)
