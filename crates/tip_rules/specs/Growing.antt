-- A part that joins a transaction (RFC 2371, section 13, PULL and PUSH).
use Rattle.std.specs.Prelude.{◌≡◌, ◌<◌, ◌&&◌, Bool, not, ℕ, List, Option, None, Some, find, length, if◌then◌else◌}
use Rattle.tip_rows.specs.Keys.{Key}
use Rattle.tip_txn.specs.Parts.{enlisted, is_enlisted}
use Rattle.tip_machine.specs.Changes.{alter}
use Rattle.tip_machine.specs.States.{Work}
use Rattle.tip_machine.specs.Transactions.{enlisting, is_active}
use Rattle.tip_machine.specs.Types.{Transaction}
use Rattle.tip_machine.specs.declared.connection.Role.{Role}
use Rattle.tip_machine.specs.declared.connection.Role.TheVariants.{Subordinate, Superior}
use Rattle.tip_outlook.specs.Searches.{HeldTransaction, is_named}

-- the transaction of this identifier, in a realm of that name, has room for one part more
abbrev pub CanGrow : List ℕ → List ℕ → List HeldTransaction → Type 0
CanGrow realm id transactions = (transaction : HeldTransaction) → find (is_named realm id) transactions ≡ Some transaction → 0 < transaction.txn.spare

-- is the transaction active, and this subordinate no part of it yet? One that has given no identifier is none
abbrev pub may_join : Transaction → List ℕ → Option (List ℕ) → Bool
may_join transaction address subordinate = is_active transaction.phase && not (is_enlisted transaction.parts address subordinate)

-- what the connection of a subordinate is that joins it, if it gave an address and may
abbrev pub joined_as : Option Transaction → Option (List ℕ) → Option (List ℕ) → Option Role
joined_as (Some transaction) (Some address) subordinate = if may_join transaction address subordinate then Some (Subordinate transaction.key (length transaction.parts)) else None
joined_as found peer subordinate = None

-- the transaction with that part
abbrev pub joining_part : Option Transaction → Option (List ℕ) → Option (List ℕ) → Work → Work
joining_part (Some transaction) (Some address) subordinate work = if may_join transaction address subordinate then alter transaction.key (enlisting (enlisted address subordinate)) work else work
joining_part found peer subordinate work = work

-- the key of the transaction that a connection is on
abbrev pub key_in : Role → Key
key_in (Superior key) = key
key_in (Subordinate key part) = key
