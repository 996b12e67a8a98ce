-- The octets that were taken as a line.
use Rattle.std.proofs.Common.{◌≡◌, ◌∙◌, ℕ, List, [], ◌++◌, Option, Some, None, IfSome, ap, inl, subst, option_map, take}
use Rattle.std.specs.Io.BufRead.{take_through}
use Rattle.tip_control.specs.Lines.{IsTaken}

within : (known : Option (List ℕ)) (octets before : List ℕ) → before ≡ [] → IfSome (option_map (take 2050) known) (λ input. octets ≡ before ++ take_through 10 input) → IfSome known (IsTaken octets)
within None octets before none all = tt
within (Some input) octets before none all = inl (all ∙ ap (λ (front : List ℕ). front ++ take_through 10 (take 2050 input)) none)

pub taken : (known found : Option (List ℕ)) (limit : ℕ) (octets before : List ℕ) → found ≡ known → limit ≡ 2050 → before ≡ [] → IfSome (option_map (take limit) found) (λ input. octets ≡ before ++ take_through 10 input) → IfSome known (IsTaken octets)
taken known found limit octets before same most none all =
    within known octets before none
    (subst (λ (f : Option (List ℕ)). IfSome (option_map (take 2050) f) (λ input. octets ≡ before ++ take_through 10 input)) same
    (subst (λ (n : ℕ). IfSome (option_map (take n) found) (λ input. octets ≡ before ++ take_through 10 input)) most all))
