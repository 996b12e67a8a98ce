-- The refusal that each fault of a public call is.
use Rattle.tip_line.specs.declared.refusal.Refusal.{Refusal}
use Rattle.tip_line.specs.declared.refusal.Refusal.TheVariants as refusal
use Rattle.tip_settings.specs.declared.fault.ConfigFault.{ConfigFault}
use Rattle.tip_settings.specs.declared.fault.ConfigFault.TheVariants as config_fault

abbrev pub refusal_of : ConfigFault → Refusal
refusal_of config_fault.Memory = refusal.Memory
refusal_of (config_fault.Syntax _) = refusal.Config
refusal_of config_fault.Store = refusal.Config
refusal_of config_fault.Realms = refusal.Config
refusal_of (config_fault.Realm _ _) = refusal.Config
