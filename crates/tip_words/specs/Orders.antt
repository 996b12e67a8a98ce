-- What words ask for, by what `clap` finds in them.
use Rattle.std.specs.Prelude.{◌≡◌, ℕ, ◌^◌, ◌<◌, ◌||◌, List, [], ◌∷◌, Bool, Option, Some, None, option_map, unwrap_or, codes}
use Rattle.std.specs.List.{list_any}
use Rattle.std.specs.Str.{bytes_eq}
use Rattle.std.specs.Str.Parse.{IsNumeral, digits_value, without_leading_plus}
use Rattle.clap.specs.Words.{Row, Text, first_of, subcommand_of}
use Rattle.clap.specs.Walk.{one_of}
use Rattle.tip_words.specs.Commands.{tipd}
use Rattle.tip_words.specs.declared.order.Order.{Order}
use Rattle.tip_words.specs.declared.order.Order.TheVariants.{Ask, Check, Ping, Play, Query, Rows, Send, Serve, Settle}

-- the value of an option that is required
abbrev pub text_in : Text → List Row → Text
text_in name rows = unwrap_or (first_of name rows) []

-- a decimal number that fits 32 bits
abbrev pub is_number : Text → Type 0
is_number text = let digits = without_leading_plus text in IsNumeral 10 digits × (digits_value 10 digits < 2 ^ 32)

abbrev pub IsNumberOf : Option Text → Option ℕ → Type 0
IsNumberOf None number = number ≡ None
IsNumberOf (Some text) None = ¬ is_number text
IsNumberOf (Some text) (Some number) = is_number text × (number ≡ digits_value 10 (without_leading_plus text))

-- the number of sessions
abbrev pub IsNumberIn : List Row → Option ℕ → Type 0
IsNumberIn rows = IsNumberOf (one_of (codes "sessions") rows)

-- a subcommand that is done here
abbrev pub does : Text → Bool
does name = list_any (bytes_eq name) (codes "play" ∷ codes "serve" ∷ codes "rows" ∷ codes "check" ∷ [])

-- one that asks a manager, or a server
abbrev pub asks : Text → Bool
asks name = list_any (bytes_eq name) (codes "ping" ∷ codes "query" ∷ codes "settle" ∷ codes "send" ∷ codes "ask" ∷ [])

-- each of these is an order
abbrev pub is_command : Text → Bool
is_command name = does name || asks name

-- the order that a subcommand is, with its values
abbrev pub Says : Text × List Row → Order → Type 0
Says found (Play store) = (found.0 ≡ codes "play") × (option_map (λ s. s.now) store ≡ first_of (codes "store") found.1)
Says found (Serve config sessions) = (found.0 ≡ codes "serve") × (config.now ≡ text_in (codes "config") found.1) × IsNumberIn found.1 sessions
Says found (Rows store) = (found.0 ≡ codes "rows") × (store.now ≡ text_in (codes "store") found.1)
Says found (Check config store) = (found.0 ≡ codes "check") × (option_map (λ s. s.now) config ≡ first_of (codes "config") found.1) × (option_map (λ s. s.now) store ≡ first_of (codes "store") found.1)
Says found (Ping address) = (found.0 ≡ codes "ping") × (address.now ≡ text_in (codes "address") found.1)
Says found (Query address id) = (found.0 ≡ codes "query") × (address.now ≡ text_in (codes "address") found.1) × (id.now ≡ text_in (codes "id") found.1)
Says found (Send address) = (found.0 ≡ codes "send") × (address.now ≡ text_in (codes "address") found.1)
Says found (Ask control request first second third) = (found.0 ≡ codes "ask") × (control.now ≡ text_in (codes "control") found.1) × (request.now ≡ text_in (codes "request") found.1) × (option_map (λ s. s.now) first ≡ first_of (codes "first") found.1) × (option_map (λ s. s.now) second ≡ first_of (codes "second") found.1) × (option_map (λ s. s.now) third ≡ first_of (codes "third") found.1)
Says found (Settle address id decision) = (found.0 ≡ codes "settle") × (address.now ≡ text_in (codes "address") found.1) × (id.now ≡ text_in (codes "id") found.1) × (decision.now ≡ text_in (codes "decision") found.1)

-- THE ORDER THAT IS IN WORDS: the subcommand that `clap` finds there, with its values
abbrev pub IsAsked : List Text → Order → Type 0
IsAsked words order = (found : Text × List Row) × (subcommand_of tipd words ≡ Some found) × Says found order
