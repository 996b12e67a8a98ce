-- The identifiers that this transaction manager gives (RFC 2371, section 5).
use Rattle.std.specs.Prelude.{◌≡◌, ℕ, ◌<◌, ◌^◌, List, [], ◌∷◌, ◌++◌, Bool, true, not, ◌&&◌, ◌==◌, nat_lt, Option, Some, None, if◌then◌else◌}
use Rattle.std.specs.Fmt.{decimal}
use Rattle.std.specs.List.{list_all}
use Rattle.std.specs.Str.{bytes_eq}
use Rattle.tip_line.specs.Version.{number_from}
use Rattle.tip_line.specs.Words.{is_realm}

abbrev pub dash : ℕ
dash = 45

-- realm, epoch, connection and number between dashes, in decimal without leading zeros
abbrev pub id_of : List ℕ → ℕ → ℕ → ℕ → List ℕ
id_of realm epoch connection number = realm ++ dash ∷ decimal epoch ++ dash ∷ decimal connection ++ dash ∷ decimal number

abbrev pub has_no_dash : List ℕ → Bool
has_no_dash text = list_all (λ octet. not (octet == dash)) text

-- no plus and no leading zero stands before digits
abbrev pub is_canonical : List ℕ → Bool
is_canonical [] = true
is_canonical (octet ∷ []) = not (octet == 43)
is_canonical (octet ∷ next ∷ digits) = not (octet == 43) && not (octet == 48)

-- the number that a word says in decimal without leading zeros
abbrev pub number_in : List ℕ → Option ℕ
number_in word = if bytes_eq (decimal (number_from 0 word)) word && nat_lt (number_from 0 word) (2 ^ 32) then Some (number_from 0 word) else None

-- A text is the identifier that a realm gives to the transaction of these numbers.
pub record IsGiven (text realm : List ℕ) (epoch connection number : ℕ) : Type 0 where
  pub realm_is : is_realm realm ≡ true
  pub epoch_fits : epoch < 2 ^ 32
  pub connection_fits : connection < 2 ^ 32
  pub number_fits : number < 2 ^ 32
  pub spelled : text ≡ id_of realm epoch connection number
