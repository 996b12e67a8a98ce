-- Why octets are no configuration: what each fault says of them.
use Rattle.std.specs.List.{find}
use Rattle.std.specs.Prelude.{◌≡◌, ℕ, zero, suc, ◌+◌, ◌≤◌, ◌==◌, List, count_by, length, take, Bool, false, not, [], ◌∷◌, Option, Some, None, codes, is_some, option_map}
use Rattle.tip_rows.specs.Reading.{◌>>=◌, checked}
use Rattle.tip_settings.specs.Branches.{branches_in, plans_in}
use Rattle.tip_settings.specs.Configurations.{document_of, has_some}
use Rattle.tip_settings.specs.Documents.{array_at, each_of, text_at}
use Rattle.tip_settings.specs.Limits.{limit_in}
use Rattle.tip_settings.specs.Realms.{address_in, control_in, listen_in, name_in}
use Rattle.tip_settings.specs.declared.fault.ConfigFault.TheVariants.{Memory, Syntax, Store, Realms, Realm}
use Rattle.tip_settings.specs.declared.fault.ConfigFault.{ConfigFault}
use Rattle.tip_settings.specs.declared.fault.Wanted.TheVariants as wanted
use Rattle.tip_settings.specs.declared.fault.Wanted.{Wanted}
use Rattle.tip_settings.specs.declared.limit.Limit.TheVariants.{Connections, Transactions, Boxes, Entries}
use Rattle.tip_settings.specs.declared.limit.Limit.{Limit}
use Rattle.toml.specs.Data.{Items, Members, as_table, get_item}

-- does a realm's table have what is wanted of it?
abbrev pub has : Wanted → Members → Bool
has wanted.Name table = is_some (name_in table)
has wanted.Listen table = is_some (listen_in table)
has wanted.Address table = is_some (address_in table)
has wanted.Control table = is_some (control_in table)
has wanted.Votes table = is_some (plans_in table)
has wanted.Labels table = is_some (plans_in table >>= (λ plans. branches_in (length plans) table))
has (wanted.Limit limit) table = is_some (limit_in limit table)

-- the order in which that is looked for: the limits stand last
abbrev pub before_limits : List Wanted
before_limits = wanted.Name ∷ wanted.Listen ∷ wanted.Address ∷ wanted.Control ∷ wanted.Votes ∷ wanted.Labels ∷ []

abbrev pub every_limit : List Limit
every_limit = Connections ∷ Transactions ∷ Boxes ∷ Entries ∷ []

-- the first limit that a table has not
abbrev pub first_limit : Members → Option Limit
first_limit table = find (λ limit. not (is_some (limit_in limit table))) every_limit

abbrev pub wanted_or : Option Wanted → Option Limit → Option Wanted
wanted_or (Some want) limit = Some want
wanted_or None limit = option_map wanted.Limit limit

-- the first of what is wanted that a table has not
abbrev pub first_wrong : Members → Option Wanted
first_wrong table = wanted_or (find (λ want. not (has want table)) before_limits) (first_limit table)

-- the table at a place of an array; places count from 1
abbrev pub table_at : ℕ → Items → Option Members
table_at zero items = None
table_at (suc before) items = get_item before items >>= as_table

-- is there an array of tables, one or more?
abbrev pub has_realms : Members → Bool
has_realms document = is_some (array_at (codes "realm") document >>= each_of as_table >>= checked has_some)

-- what is wrong with a document
abbrev pub IsWrong : ConfigFault → Members → Type 0
IsWrong Memory document = Unit {0}
IsWrong (Syntax line) document = ⊥
IsWrong Store document = text_at (codes "store") document ≡ None
IsWrong Realms document = has_realms document ≡ false
IsWrong (Realm place wanted) document = (array_at (codes "realm") document >>= table_at place >>= first_wrong) ≡ Some wanted

-- how often a line ends
abbrev pub line_ends : List ℕ → ℕ
line_ends octets = count_by (λ octet. octet == 10) octets

-- the line of a place among octets, from 1
abbrev pub IsLine : ℕ → List ℕ → Type 0
IsLine line octets = (before : ℕ) × (before ≤ length octets) × (line ≡ 1 + line_ends (take before octets))

-- WHAT IS WRONG WITH OCTETS, by the fault: they are no document, or one with which that is wrong; want of memory says nothing
abbrev pub IsWhy : ConfigFault → List ℕ → Type 0
IsWhy Memory octets = Unit {0}
IsWhy (Syntax line) octets = (document_of octets ≡ None) × IsLine line octets
IsWhy fault octets = (document : Members) × (document_of octets ≡ Some document) × IsWrong fault document
