-- A pass as contracts see it.
use Rattle.std.specs.Prelude.{ℕ, ◌==◌, ◌&&◌, ◌-◌, Bool, not, List, [], ◌∷◌, ◌++◌, Option, filter, reverse}
use Rattle.std.specs.List.{find}
use Rattle.tip_journal.specs.declared.pass.Noted.{Noted}

pub record Held (E : Type 0) : Type 0 where
  pub noted : List (Noted E)
  -- how many entries can be added without memory
  pub free : ℕ

-- the pass with room for so many entries
abbrev pub with_room : {E : Type 0} → ℕ → Held E → Held E
with_room free pass = record pass { free = free }

-- the pass with one entry more, in room that it had
abbrev pub with_noted : {E : Type 0} → Noted E → Held E → Held E
with_noted noted pass = record pass { noted = pass.noted ++ noted ∷ []; free = pass.free - 1 }

-- whether it stands for an entry of this realm and epoch
abbrev pub is_of : {E : Type 0} → ℕ → ℕ → Noted E → Bool
is_of realm epoch noted = (noted.realm == realm) && (noted.epoch == epoch)

-- the entries of one realm and epoch, in order
abbrev pub own : {E : Type 0} → ℕ → ℕ → List (Noted E) → List (Noted E)
own realm epoch noted = filter (is_of realm epoch) noted

-- the entries of all other realms and epochs, in order
abbrev pub others : {E : Type 0} → ℕ → ℕ → List (Noted E) → List (Noted E)
others realm epoch noted = filter (λ one. not (is_of realm epoch one)) noted

-- the last of a realm and epoch
abbrev pub last_own : {E : Type 0} → ℕ → ℕ → List (Noted E) → Option (Noted E)
last_own realm epoch noted = find (is_of realm epoch) (reverse noted)
