-- A realm that is to be served, by its keys.
use Rattle.std.specs.Prelude.{ℕ, List, length, Option, Some, None, codes, option_map, string_bytes}
use Rattle.tip_branch.specs.declared.branch.Plan.{Plan}
use Rattle.tip_line.specs.Words.{is_address, is_realm}
use Rattle.tip_machine.specs.declared.head.Limits.{Limits}
use Rattle.tip_rows.specs.Reading.{◌>>=◌, checked}
use Rattle.tip_settings.specs.Branches.{branches_in, plans_in}
use Rattle.tip_settings.specs.Documents.{text_at}
use Rattle.tip_settings.specs.Limits.{limits_in}
use Rattle.tip_settings.specs.declared.config.RealmConfig.{RealmConfig}
use Rattle.toml.specs.Data.{Data, Members, as_str, as_table, get_member}

pub record Setting : Type 0 where
  pub name : List ℕ
  -- where connections are accepted
  pub listen : List ℕ
  -- where other managers reach it
  pub address : List ℕ
  -- where its own operator is heard, if anywhere
  pub control : Option (List ℕ)
  -- what the box of each branch promises
  pub plans : List Plan
  -- the branches of each transaction, by number and label
  pub branches : List (ℕ × List ℕ)
  pub limits : Limits

unfoldable pub name_in : Members → Option (List ℕ)
name_in table = text_at (codes "name") table >>= checked is_realm

unfoldable pub listen_in : Members → Option (List ℕ)
listen_in table = text_at (codes "listen") table

unfoldable pub address_in : Members → Option (List ℕ)
address_in table = text_at (codes "address") table >>= checked is_address

-- a text, where there is anything
abbrev pub text_or_none : Option Data → Option (Option (List ℕ))
text_or_none None = Some None
text_or_none (Some value) = as_str value >>= (λ text. Some (Some text))

unfoldable pub control_in : Members → Option (Option (List ℕ))
control_in table = text_or_none (get_member (codes "control") table)

-- all is needed but control and labels; other keys are not looked at
unfoldable pub realm_in : Members → Option Setting
realm_in table = do
  name ← name_in table
  listen ← listen_in table
  address ← address_in table
  control ← control_in table
  plans ← plans_in table
  branches ← branches_in (length plans) table
  limits ← limits_in table
  Some (record { name = name; listen = listen; address = address; control = control; plans = plans; branches = branches; limits = limits })

unfoldable pub realm_of : Data → Option Setting
realm_of value = as_table value >>= realm_in

-- a realm that was read, as plain data
abbrev pub setting_of : RealmConfig → Setting
setting_of realm = record { name = realm.name; listen = string_bytes realm.listen; address = realm.address; control = option_map string_bytes realm.control; plans = realm.plans.items; branches = realm.branches; limits = realm.limits }
