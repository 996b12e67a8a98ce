-- What octets are, by what TOML reads of them.
use Rattle.std.proofs.Common.{◌≡◌, ℕ, List, Bool, true, false, Some, None, refl}
use Rattle.std.proofs.lemmas.Str.{IsUtf8-from_is_utf8, is_utf8-from_IsUtf8}
use Rattle.std.specs.Str.{IsUtf8, is_utf8}
use Rattle.tip_settings.specs.Configurations.{configuration, configuration_in, document_of}
use Rattle.toml.specs.Data.{Members}
use Rattle.toml.specs.Parse.{parse_document}

pub is_document : (octets : List ℕ) (table : Members) → IsUtf8 octets → parse_document octets ≡ Some table → document_of octets ≡ Some table
unfolding document_of
is_document octets table text parsed = rw (is_utf8-from_IsUtf8 octets text) parsed

-- a document says what its table says
pub document : (octets : List ℕ) (table : Members) → IsUtf8 octets → parse_document octets ≡ Some table → configuration octets ≡ configuration_in table
unfolding configuration
document octets table text parsed = rw (is_document octets table text parsed) refl

no_document_at : (octets : List ℕ) (is : Bool) → is_utf8 octets ≡ is → (IsUtf8 octets → parse_document octets ≡ None) → document_of octets ≡ None
unfolding document_of
no_document_at octets true e none = rw e (none (IsUtf8-from_is_utf8 octets e))
no_document_at octets false e none = rw e refl

pub no_document : (octets : List ℕ) → (IsUtf8 octets → parse_document octets ≡ None) → document_of octets ≡ None
no_document octets none = no_document_at octets (is_utf8 octets) refl none

-- what is no document is no configuration
pub no_configuration : (octets : List ℕ) → document_of octets ≡ None → configuration octets ≡ None
unfolding configuration
no_configuration octets none = rw none refl
