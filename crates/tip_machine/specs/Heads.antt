-- A realm's declaration and its counts.
use Rattle.std.specs.Prelude.{ℕ, ◌≤◌, Bool, true, ◌&&◌, not, nat_le, List, [], ◌∷◌}
use Rattle.std.specs.List.{list_all}
use Rattle.std.specs.Str.{bytes_eq}
use Rattle.tip_machine.specs.declared.head.Limits.{Limits}
use Rattle.tip_machine.specs.declared.head.Start.{Start}
use Rattle.tip_machine.specs.declared.head.Head.{Head}

abbrev pub is_within : ℕ → ℕ → ℕ → Bool
is_within least most limit = nat_le least limit && nat_le limit most

-- the limits that a realm may have
abbrev pub are_allowed : Limits → Bool
are_allowed limits =
    is_within 1 4096 limits.connections && is_within 1 4096 limits.transactions && nat_le limits.boxes 4096
    && is_within 1 10000000 limits.entries

-- a realm at its start: nothing was counted yet
abbrev pub starting : Start → Head
starting start = record { name = start.name; address = start.address; limits = start.limits; branches = start.branches; epoch = start.epoch; given = 0; entries = 0 }

-- a realm of another name
abbrev pub is_other : List ℕ → Start → Bool
is_other name start = not (bytes_eq start.name name)

-- each realm has a name of its own
abbrev pub have_names : List Start → Bool
have_names [] = true
have_names (start ∷ starts) = list_all (λ other. not (bytes_eq start.name other.name)) starts && have_names starts

-- a realm was given no more connections than it counted entries
abbrev pub IsCounted : Head → Type 0
IsCounted head = head.given ≤ head.entries
