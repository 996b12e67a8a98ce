-- The limits of a realm, by their keys.
use Rattle.std.specs.Prelude.{ℕ, ℤ, pos, negsuc, List, Option, Some, None, codes}
use Rattle.tip_machine.specs.Heads.{are_allowed}
use Rattle.tip_machine.specs.declared.head.Limits.{Limits}
use Rattle.tip_rows.specs.Reading.{◌>>=◌, checked}
use Rattle.tip_settings.specs.Documents.{integer_at}
use Rattle.tip_settings.specs.declared.limit.Limit.{Limit}
use Rattle.tip_settings.specs.declared.limit.Limit.TheVariants.{Connections, Transactions, Boxes, Entries}
use Rattle.toml.specs.Data.{Members}

abbrev pub key_of : Limit → List ℕ
key_of Connections = codes "connections"
key_of Transactions = codes "transactions"
key_of Boxes = codes "boxes"
key_of Entries = codes "entries"

-- the least limits that a realm may have, but for this one: they are allowed where it is
abbrev pub alone : Limit → ℕ → Limits
alone Connections number = record { connections = number; transactions = 1; boxes = 0; entries = 1 }
alone Transactions number = record { connections = 1; transactions = number; boxes = 0; entries = 1 }
alone Boxes number = record { connections = 1; transactions = 1; boxes = number; entries = 1 }
alone Entries number = record { connections = 1; transactions = 1; boxes = 0; entries = number }

abbrev pub natural : ℤ → Option ℕ
natural (pos number) = Some number
natural (negsuc number) = None

-- a whole number that a realm may have for this limit
unfoldable pub limit_in : Limit → Members → Option ℕ
limit_in limit table = integer_at (key_of limit) table >>= natural >>= checked (λ number. are_allowed (alone limit number))

unfoldable pub limits_in : Members → Option Limits
limits_in table = do
  connections ← limit_in Connections table
  transactions ← limit_in Transactions table
  boxes ← limit_in Boxes table
  entries ← limit_in Entries table
  Some (record { connections = connections; transactions = transactions; boxes = boxes; entries = entries })
