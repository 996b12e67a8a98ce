-- Where another manager is called (RFC 2371, section 7; of an address no more is read).
use Rattle.std.specs.Prelude.{ℕ, ◌==◌, Bool, List, ◌++◌, codes, if◌then◌else◌}
use Rattle.std.specs.List.{before_first, list_any}

-- what stands before the first `/` (47)
abbrev pub host_in : List ℕ → List ℕ
host_in address = before_first (λ octet. octet == 47) address

-- a `:` (58) stands before a port
abbrev pub has_port : List ℕ → Bool
has_port host = list_any (λ octet. octet == 58) host

-- the host with its port
abbrev pub place_of : List ℕ → List ℕ
place_of address = let host = host_in address in if has_port host then host else host ++ codes ":3372"
