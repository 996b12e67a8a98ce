-- Commands (RFC 2371, section 13).
use Rattle.std.specs.Prelude.{◌≡◌, ◌≢◌, ℕ, ◌^◌, ◌<◌, ◌≤◌, true, List, [], ◌∷◌, length, Option, Some, None, Result, Ok, Err, ◌⊎◌, codes, if◌then◌else◌}
use Rattle.std.specs.Option.{ok_or}
use Rattle.std.specs.Fmt.{decimal}
use Rattle.std.specs.List.{find, join_with_byte, list_all}
use Rattle.std.specs.Str.{bytes_eq}
use Rattle.tip_line.specs.Named.{head_of}
use Rattle.tip_line.specs.Texts.{IsClean, IsUnclean, ◌>>=◌}
use Rattle.tip_line.specs.Version.{version_of}
use Rattle.tip_line.specs.Words.{is_word, words_of}
use Rattle.tip_line.specs.declared.command.CommandName.{CommandName}
use Rattle.tip_line.specs.declared.command.CommandName.TheVariants as name
use Rattle.tip_line.specs.declared.command.Command.{Command}
use Rattle.tip_line.specs.declared.command.Command.TheVariants.{Identify, Begin, Push, Pull, Prepare, Commit, Abort, Query, Reconnect, Multiplex, Tls, Error}
use Rattle.tip_line.specs.declared.fault.ParseFault.{ParseFault}
use Rattle.tip_line.specs.declared.fault.ParseFault.TheVariants as fault

-- how a command's name stands in a line
abbrev pub spelled : CommandName → List ℕ
spelled name.Identify = codes "IDENTIFY"
spelled name.Begin = codes "BEGIN"
spelled name.Push = codes "PUSH"
spelled name.Pull = codes "PULL"
spelled name.Prepare = codes "PREPARE"
spelled name.Commit = codes "COMMIT"
spelled name.Abort = codes "ABORT"
spelled name.Query = codes "QUERY"
spelled name.Reconnect = codes "RECONNECT"
spelled name.Multiplex = codes "MULTIPLEX"
spelled name.Tls = codes "TLS"
spelled name.Error = codes "ERROR"

-- how many parameters stand behind it
abbrev pub parameters_of : CommandName → ℕ
parameters_of name.Identify = 4
parameters_of name.Begin = 0
parameters_of name.Push = 1
parameters_of name.Pull = 2
parameters_of name.Prepare = 0
parameters_of name.Commit = 0
parameters_of name.Abort = 0
parameters_of name.Query = 1
parameters_of name.Reconnect = 1
parameters_of name.Multiplex = 1
parameters_of name.Tls = 0
parameters_of name.Error = 0

abbrev pub name_of : Command → CommandName
name_of (Identify low high primary secondary) = name.Identify
name_of Begin = name.Begin
name_of (Push superior) = name.Push
name_of (Pull superior subordinate) = name.Pull
name_of Prepare = name.Prepare
name_of Commit = name.Commit
name_of Abort = name.Abort
name_of (Query superior) = name.Query
name_of (Reconnect subordinate) = name.Reconnect
name_of (Multiplex protocol) = name.Multiplex
name_of Tls = name.Tls
name_of Error = name.Error

-- the address that a word of IDENTIFY gives: `-` is none
abbrev pub peer_of : List ℕ → Option (List ℕ)
peer_of word = if bytes_eq word (codes "-") then None else Some word

-- The words behind a command's name: its parameters, and then any others.
abbrev pub HasParameters : List (List ℕ) → Command → Type 0
HasParameters words (Identify low high primary secondary) = (lowest highest peer : List ℕ) × (others : List (List ℕ)) ×
    (words ≡ lowest ∷ highest ∷ peer ∷ secondary ∷ others) × (version_of lowest ≡ Some low) × (version_of highest ≡ Some high) × (peer_of peer ≡ primary)
HasParameters words (Push superior) = (others : List (List ℕ)) × (words ≡ superior ∷ others)
HasParameters words (Pull superior subordinate) = (others : List (List ℕ)) × (words ≡ superior ∷ subordinate ∷ others)
HasParameters words (Query superior) = (others : List (List ℕ)) × (words ≡ superior ∷ others)
HasParameters words (Reconnect subordinate) = (others : List (List ℕ)) × (words ≡ subordinate ∷ others)
HasParameters words (Multiplex protocol) = (others : List (List ℕ)) × (words ≡ protocol ∷ others)
HasParameters words Begin = Unit {0}
HasParameters words Prepare = Unit {0}
HasParameters words Commit = Unit {0}
HasParameters words Abort = Unit {0}
HasParameters words Tls = Unit {0}
HasParameters words Error = Unit {0}

-- A text is a command: its first word is the command's name, and its parameters follow.
pub record IsCommand (text : List ℕ) (command : Command) : Type 0 where
  pub clean : IsClean text
  pub others : List (List ℕ)
  pub words : words_of text ≡ spelled (name_of command) ∷ others
  pub parameters : HasParameters others command

-- a version of IDENTIFY that is none
abbrev pub HasBadVersion : List (List ℕ) → Type 0
HasBadVersion (lowest ∷ highest ∷ others) = (version_of lowest ≡ None) ⊎ (version_of highest ≡ None)
HasBadVersion others = ⊥

-- why a text is no command, the first reason of all
abbrev pub Refuses : List ℕ → ParseFault → Type 0
Refuses text fault.Octet = IsUnclean text fault.Octet
Refuses text fault.TooLong = IsUnclean text fault.TooLong
Refuses text fault.Unknown = IsClean text × ((name : CommandName) (others : List (List ℕ)) → words_of text ≢ spelled name ∷ others)
Refuses text fault.Missing = IsClean text × (name : CommandName) × (others : List (List ℕ)) × (words_of text ≡ spelled name ∷ others) × (length others < parameters_of name)
Refuses text fault.Number = IsClean text × (others : List (List ℕ)) × (words_of text ≡ spelled name.Identify ∷ others) × (4 ≤ length others) × HasBadVersion others
Refuses text fault.Memory = (command : Command) × IsCommand text command

-- a command's parameters in a line
abbrev pub printed_parameters : Command → List (List ℕ)
printed_parameters (Identify low high None secondary) = decimal low ∷ decimal high ∷ codes "-" ∷ secondary ∷ []
printed_parameters (Identify low high (Some primary) secondary) = decimal low ∷ decimal high ∷ primary ∷ secondary ∷ []
printed_parameters (Push superior) = superior ∷ []
printed_parameters (Pull superior subordinate) = superior ∷ subordinate ∷ []
printed_parameters (Query superior) = superior ∷ []
printed_parameters (Reconnect subordinate) = subordinate ∷ []
printed_parameters (Multiplex protocol) = protocol ∷ []
printed_parameters Begin = []
printed_parameters Prepare = []
printed_parameters Commit = []
printed_parameters Abort = []
printed_parameters Tls = []
printed_parameters Error = []

-- the one spelling that is written: name and parameters with single spaces
abbrev pub printed : Command → List ℕ
printed command = join_with_byte 32 (spelled (name_of command) ∷ printed_parameters command)

-- a version of at most nine digits, and an address that is none: what no other word says
abbrev pub HasOneSpelling : Command → Type 0
HasOneSpelling (Identify low high primary secondary) = (low < 10 ^ 9) × (high < 10 ^ 9) × (primary ≢ Some (codes "-"))
HasOneSpelling other = Unit {0}

-- a command whose parameters are words
pub record CanBePrinted (command : Command) : Type 0 where
  pub words : list_all is_word (printed_parameters command) ≡ true
  pub one : HasOneSpelling command

-- reading, step by step
abbrev pub names : List CommandName
names = name.Identify ∷ name.Begin ∷ name.Push ∷ name.Pull ∷ name.Prepare ∷ name.Commit ∷ name.Abort ∷ name.Query ∷ name.Reconnect ∷ name.Multiplex ∷ name.Tls ∷ name.Error ∷ []

abbrev pub number_in : List ℕ → Result ℕ ParseFault
number_in word = ok_or (version_of word) fault.Number

unfoldable pub identify_from : List (List ℕ) → Result Command ParseFault
identify_from (lowest ∷ highest ∷ peer ∷ secondary ∷ others) = do
  low ← number_in lowest
  high ← number_in highest
  Ok (Identify low high (peer_of peer) secondary)
identify_from words = Err fault.Missing

unfoldable pub command_from : CommandName → List (List ℕ) → Result Command ParseFault
command_from name.Identify words = identify_from words
command_from name.Begin words = Ok Begin
command_from name.Push (superior ∷ others) = Ok (Push superior)
command_from name.Push [] = Err fault.Missing
command_from name.Pull (superior ∷ subordinate ∷ others) = Ok (Pull superior subordinate)
command_from name.Pull (superior ∷ []) = Err fault.Missing
command_from name.Pull [] = Err fault.Missing
command_from name.Prepare words = Ok Prepare
command_from name.Commit words = Ok Commit
command_from name.Abort words = Ok Abort
command_from name.Query (superior ∷ others) = Ok (Query superior)
command_from name.Query [] = Err fault.Missing
command_from name.Reconnect (subordinate ∷ others) = Ok (Reconnect subordinate)
command_from name.Reconnect [] = Err fault.Missing
command_from name.Multiplex (protocol ∷ others) = Ok (Multiplex protocol)
command_from name.Multiplex [] = Err fault.Missing
command_from name.Tls words = Ok Tls
command_from name.Error words = Ok Error

unfoldable pub command_of : List ℕ → Result Command ParseFault
command_of text = do
  head ← head_of spelled names text
  command_from head.0 head.1
