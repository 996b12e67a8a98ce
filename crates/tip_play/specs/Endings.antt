-- How a script has ended.
use Rattle.std.specs.Prelude.{Result, Ok, Err}
use Rattle.tip_play.specs.declared.fault.PlayFault.{PlayFault}
use Rattle.tip_play.specs.declared.fault.PlayFault.TheVariants as fault

-- what was printed and not flushed is not known to be there
abbrev pub unflushed : {S : Type 0} → Result S (PlayFault × S) → Result S (PlayFault × S)
unflushed (Ok store) = Err (fault.Write, store)
unflushed (Err (fault.Script line, store)) = Err (fault.Write, store)
unflushed (Err (fault.Read, store)) = Err (fault.Read, store)
unflushed (Err (fault.Write, store)) = Err (fault.Write, store)
unflushed (Err (fault.Memory, store)) = Err (fault.Memory, store)
unflushed (Err (fault.Store, store)) = Err (fault.Store, store)

-- rows in memory refuse of themselves where memory has ended
abbrev pub ended : {S : Type 0} → Result S (PlayFault × S) → Result (Unit {0}) PlayFault
ended (Ok store) = Ok tt
ended (Err (fault.Script line, store)) = Err (fault.Script line)
ended (Err (fault.Read, store)) = Err fault.Read
ended (Err (fault.Write, store)) = Err fault.Write
ended (Err (fault.Memory, store)) = Err fault.Memory
ended (Err (fault.Store, store)) = Err fault.Memory
