-- What the operator's configuration says: the file in which rows are kept, and the realms that are to be served.
use Rattle.std.specs.Prelude.{ℕ, List, [], ◌∷◌, map, Bool, true, false, Option, Some, None, codes, if◌then◌else◌, string_bytes}
use Rattle.std.specs.Str.{is_utf8}
use Rattle.tip_rows.specs.Reading.{◌>>=◌, checked}
use Rattle.tip_settings.specs.Documents.{array_at, each_of, text_at}
use Rattle.tip_settings.specs.Realms.{Setting, realm_of, setting_of}
use Rattle.tip_settings.specs.declared.config.Config.{Config}
use Rattle.toml.specs.Data.{Members}
use Rattle.toml.specs.Parse.{parse_document}

pub record Configuration : Type 0 where
  pub store : List ℕ
  pub realms : List Setting

abbrev pub has_some : {A : Type 0} → List A → Bool
has_some [] = false
has_some (x ∷ xs) = true

-- an array of tables, one or more, each a realm
unfoldable pub realms_in : Members → Option (List Setting)
realms_in table = array_at (codes "realm") table >>= each_of realm_of >>= checked has_some

unfoldable pub configuration_in : Members → Option Configuration
configuration_in table = do
  store ← text_at (codes "store") table
  realms ← realms_in table
  Some (record { store = store; realms = realms })

-- text in UTF-8 that is a document of TOML
unfoldable pub document_of : List ℕ → Option Members
document_of octets = if is_utf8 octets then parse_document octets else None

-- THE CONFIGURATION THAT OCTETS ARE: a document whose keys say all that is needed
unfoldable pub configuration : List ℕ → Option Configuration
configuration octets = document_of octets >>= configuration_in

-- a configuration that was read, as plain data
abbrev pub data_of : Config → Configuration
data_of config = record { store = string_bytes config.store; realms = map setting_of config.realms.items }
