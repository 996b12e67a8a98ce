-- What is looked for in the tables.
use Rattle.std.specs.Prelude.{◌≡◌, ◌<◌, ◌^◌, ℕ, Bool, false, true, IfSome, List, Option, Some, ⊤, option_map}
use Rattle.std.specs.Option.{option_map_or}
use Rattle.std.specs.Str.{bytes_eq}
use Rattle.tip_branch.specs.Notes.{PartyNotes}
use Rattle.tip_machine.specs.Answers.{identifier}
use Rattle.tip_rows.specs.Keys.{IsKey, Key, is_same}
use Rattle.tip_machine.specs.Connections.{IsInRange, key_of, link_of}
use Rattle.tip_machine.specs.Transactions.{has_id, has_key, is_known}
use Rattle.tip_machine.specs.Types.{Connection, seen}
use Rattle.tip_machine.specs.declared.transaction.Transaction as transaction

abbrev pub HeldTransaction : Type 0
HeldTransaction = transaction.Transaction PartyNotes

-- is this the transaction of that key?
abbrev pub is_keyed : Key → HeldTransaction → Bool
is_keyed key transaction = has_key key (seen transaction)

-- all connections that pass are on transactions of this link
abbrev pub AimsOn : (Connection → Bool) → Option ℕ → Type 0
AimsOn passes aim = IfSome aim (λ link. (connection : Connection) → ⊤ → passes connection ≡ true → option_map link_of (key_of connection.role) ≡ Some link)

-- all transactions that pass have this link
abbrev pub AimsAt : (HeldTransaction → Bool) → Option ℕ → Type 0
AimsAt passes aim = IfSome aim (λ link. (transaction : HeldTransaction) → IsInRange transaction.key → passes transaction ≡ true → Some (link_of transaction.key) ≡ Some link)

-- is this the transaction of that identifier, in a realm of that name?
abbrev pub is_named : List ℕ → List ℕ → HeldTransaction → Bool
is_named realm id transaction = has_id realm id (seen transaction)

-- the name of a realm, and an identifier that is looked for in it
pub record Naming : Type 0 where
  pub realm : List ℕ
  pub id : List ℕ

-- A KEY OF WHICH AN IDENTIFIER WAS MADE in the realm of a name (section 5), if it was: no transaction of another key has it
abbrev pub IsKeyOf : List ℕ → List ℕ → Option Key → Type 0
IsKeyOf realm id made_of = (key : Key) → IsKey key → key.epoch < 2 ^ 32 → key.connection < 2 ^ 32 → key.number < 2 ^ 32
    → option_map_or (λ other. is_same other key) made_of false ≡ bytes_eq id (identifier realm key)

-- was this transaction pushed or pulled from that manager under that identifier, and has it no outcome yet?
abbrev pub is_pushed : Option (List ℕ) → List ℕ → HeldTransaction → Bool
is_pushed peer superior transaction = is_known peer superior (seen transaction)
