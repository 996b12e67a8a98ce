-- Why realms that do not start end a script.
use Rattle.tip_stored.specs.declared.loading.LoadFault.{LoadFault}
use Rattle.tip_stored.specs.declared.loading.LoadFault.TheVariants as load
use Rattle.tip_stored.specs.declared.renewing.RenewFault.{RenewFault}
use Rattle.tip_stored.specs.declared.renewing.RenewFault.TheVariants as renew
use Rattle.tip_actor.specs.declared.fault.ActFault.{ActFault}
use Rattle.tip_actor.specs.declared.fault.ActFault.TheVariants.{Memory, Store}

abbrev pub of_load_fault : LoadFault → ActFault
of_load_fault load.Memory = Memory
of_load_fault other = Store

-- one that does not start again while the others run
abbrev pub of_renew_fault : RenewFault → ActFault
of_renew_fault renew.Memory = Memory
of_renew_fault other = Store
