-- Every refusal, with its number and its name.
use Rattle.std.specs.Prelude.{ℕ, List, ◌∷◌, ◌++◌, codes}
use Rattle.std.specs.Fmt.{decimal}
use Rattle.tip_line.specs.declared.refusal.Refusal.{Refusal}
use Rattle.tip_line.specs.declared.refusal.Refusal.TheVariants as refusal
use Rattle.tip_line.specs.declared.lines.Cause.{Cause}
use Rattle.tip_line.specs.declared.lines.Cause.TheVariants as cause
use Rattle.tip_line.specs.declared.fault.WordFault.{WordFault}
use Rattle.tip_line.specs.declared.fault.WordFault.TheVariants as word_fault
use Rattle.tip_line.specs.declared.fault.ParseFault.{ParseFault}
use Rattle.tip_line.specs.declared.fault.ParseFault.TheVariants as parse_fault

-- the number and the name
abbrev pub entry_of : Refusal → ℕ × List ℕ
entry_of refusal.Memory = (1, codes "Memory")
entry_of refusal.TooLong = (2, codes "TooLong")
entry_of refusal.Octet = (3, codes "Octet")
entry_of refusal.Unknown = (4, codes "Unknown")
entry_of refusal.Missing = (5, codes "Missing")
entry_of refusal.Number = (6, codes "Number")
entry_of refusal.NotWord = (7, codes "NotWord")
entry_of refusal.BadRow = (10, codes "BadRow")
entry_of refusal.Refused = (11, codes "Refused")
entry_of refusal.BadSchema = (12, codes "BadSchema")
entry_of refusal.Twice = (13, codes "Twice")
entry_of refusal.NotActive = (14, codes "NotActive")
entry_of refusal.EpochEnd = (15, codes "EpochEnd")
entry_of refusal.NotFresh = (16, codes "NotFresh")
entry_of refusal.NotReady = (17, codes "NotReady")
entry_of refusal.NoRealm = (20, codes "NoRealm")
entry_of refusal.Full = (21, codes "Full")
entry_of refusal.Stale = (22, codes "Stale")
entry_of refusal.Busy = (23, codes "Busy")
entry_of refusal.Frozen = (24, codes "Frozen")
entry_of refusal.Stranger = (25, codes "Stranger")
entry_of refusal.Known = (26, codes "Known")
entry_of refusal.NotInDoubt = (30, codes "NotInDoubt")
entry_of refusal.WrongCount = (31, codes "WrongCount")
entry_of refusal.Unadopted = (32, codes "Unadopted")
entry_of refusal.Stopped = (33, codes "Stopped")
entry_of refusal.PassMismatch = (34, codes "PassMismatch")
entry_of refusal.BadRealm = (35, codes "BadRealm")
entry_of refusal.BadLabel = (36, codes "BadLabel")
entry_of refusal.ReadFault = (40, codes "ReadFault")
entry_of refusal.WriteFault = (41, codes "WriteFault")
entry_of refusal.TurnLimit = (42, codes "TurnLimit")
entry_of refusal.HostStopped = (43, codes "HostStopped")
entry_of refusal.Unexpected = (50, codes "Unexpected")
entry_of refusal.Closed = (51, codes "Closed")
entry_of refusal.Script = (60, codes "Script")
entry_of refusal.Config = (61, codes "Config")
entry_of refusal.Store = (62, codes "Store")
entry_of refusal.Listen = (63, codes "Listen")

abbrev pub number_of : Refusal → ℕ
number_of r = (entry_of r).0

-- as it is printed: the number and the name
abbrev pub printed : Refusal → List ℕ
printed r = decimal (number_of r) ++ 32 ∷ (entry_of r).1

abbrev pub of_cause : Cause → Refusal
of_cause cause.TooLong = refusal.TooLong
of_cause cause.Octet = refusal.Octet

abbrev pub of_word_fault : WordFault → Refusal
of_word_fault word_fault.NotWord = refusal.NotWord
of_word_fault word_fault.Memory = refusal.Memory

abbrev pub of_parse_fault : ParseFault → Refusal
of_parse_fault parse_fault.Octet = refusal.Octet
of_parse_fault parse_fault.TooLong = refusal.TooLong
of_parse_fault parse_fault.Unknown = refusal.Unknown
of_parse_fault parse_fault.Missing = refusal.Missing
of_parse_fault parse_fault.Number = refusal.Number
of_parse_fault parse_fault.Memory = refusal.Memory
