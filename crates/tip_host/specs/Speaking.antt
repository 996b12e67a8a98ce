-- Which connections an event speaks to (ours).
use Rattle.std.specs.Prelude.{◌≡◌, ◌==◌, ℕ, Bool, true, false, List}
use Rattle.tip_machine.specs.Invariants.Links.{are_distinct}
use Rattle.std.specs.List.{list_any}
use Rattle.arrayvec.specs.ArrayVec.{array_vec_len}
use Rattle.tip_machine.specs.Steps.{is_for}
use Rattle.tip_machine.specs.declared.answer.Sent.{Sent}
use Rattle.tip_host.specs.declared.spoken.Spoken.{Spoken}

-- a connection is named
abbrev pub names : Spoken → ℕ → Bool
names spoken number = list_any (λ named. named == number) spoken.numbers.items

-- something goes to it
abbrev pub goes_to : List Sent → ℕ → Bool
goes_to sent number = list_any (is_for number) sent

-- THESE CONNECTIONS ARE SPOKEN TO: something goes to each that is named, each once, and each to which something goes is named, unless
-- there are more than eight
pub record Speaks (sent : List Sent) (spoken : Spoken) : Type 0 where
  pub only : (number : ℕ) → names spoken number ≡ true → goes_to sent number ≡ true
  pub all : spoken.more ≡ false → (number : ℕ) → goes_to sent number ≡ true → names spoken number ≡ true
  pub once : are_distinct (λ number other. number == other) spoken.numbers.items ≡ true
  pub full : spoken.more ≡ true → array_vec_len spoken.numbers ≡ 8
  -- a ninth is there
  pub ninth : spoken.more ≡ true → (number : ℕ) × (goes_to sent number ≡ true) × (names spoken number ≡ false)
