-- What a reader answers where it reads nothing.
use Rattle.std.specs.Prelude.{◌≡◌, ℕ, Option, Some, None}
use Rattle.tip_rows.specs.Reading.{◌>>=◌}
use Rattle.tip_settings.specs.Documents.{each_of}
use Rattle.tip_settings.specs.Reasons.{first_wrong, table_at}
use Rattle.tip_settings.specs.declared.fault.ConfigFault.{ConfigFault}
use Rattle.tip_settings.specs.declared.fault.ConfigFault.TheVariants as config
use Rattle.tip_settings.specs.declared.fault.RealmFault.{RealmFault}
use Rattle.tip_settings.specs.declared.fault.RealmFault.TheVariants as realm
use Rattle.tip_settings.specs.declared.fault.Wanted.{Wanted}
use Rattle.toml.specs.Data.{Data, Items, Members, as_table}

-- Unless it is out of memory, there is nothing to be read: that what is wanted here
abbrev pub Lacks : {A : Type 0} → Wanted → RealmFault → Option A → Type 0
Lacks wanted realm.Memory read = Unit {0}
Lacks wanted (realm.Wrong what) read = (what ≡ wanted) × (read ≡ None)

-- the same of a whole realm
abbrev pub Fails : {A : Type 0} → RealmFault → Option A → Type 0
Fails realm.Memory read = Unit {0}
Fails (realm.Wrong what) read = read ≡ None

-- Unless it is out of memory, that is the first which a table has not of what is wanted
abbrev pub IsLacking : RealmFault → Members → Type 0
IsLacking realm.Memory table = Unit {0}
IsLacking (realm.Wrong wanted) table = first_wrong table ≡ Some wanted

-- the same of a value at a place; or it is no table
abbrev pub IsWrongAt : ℕ → ConfigFault → Data → Type 0
IsWrongAt place config.Memory value = Unit {0}
IsWrongAt place (config.Syntax line) value = ⊥
IsWrongAt place config.Store value = ⊥
IsWrongAt place config.Realms value = as_table value ≡ None
IsWrongAt place (config.Realm here wanted) value = (here ≡ place) × ((as_table value >>= first_wrong) ≡ Some wanted)

-- the same of an array
abbrev pub IsWrongAmong : ConfigFault → Items → Type 0
IsWrongAmong config.Memory items = Unit {0}
IsWrongAmong (config.Syntax line) items = ⊥
IsWrongAmong config.Store items = ⊥
IsWrongAmong config.Realms items = each_of as_table items ≡ None
IsWrongAmong (config.Realm place wanted) items = (table_at place items >>= first_wrong) ≡ Some wanted

-- there are no realms to be read
abbrev pub Refuses : {A : Type 0} → ConfigFault → Option A → Type 0
Refuses config.Memory read = Unit {0}
Refuses fault read = read ≡ None
