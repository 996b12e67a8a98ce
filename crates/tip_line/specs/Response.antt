-- Responses (RFC 2371, section 13).
use Rattle.std.specs.Prelude.{◌≡◌, ◌≢◌, ℕ, ◌^◌, ◌<◌, true, List, [], ◌∷◌, length, Option, Some, None, Result, Ok, Err, codes}
use Rattle.std.specs.Fmt.{decimal}
use Rattle.std.specs.List.{find, join_with_byte, list_all}
use Rattle.std.specs.Option.{ok_or}
use Rattle.std.specs.Str.{bytes_eq}
use Rattle.tip_line.specs.Named.{head_of}
use Rattle.tip_line.specs.Texts.{IsClean, IsUnclean, ◌>>=◌}
use Rattle.tip_line.specs.Version.{version_of}
use Rattle.tip_line.specs.Words.{is_word, words_of}
use Rattle.tip_line.specs.declared.response.ResponseName.{ResponseName}
use Rattle.tip_line.specs.declared.response.ResponseName.TheVariants as name
use Rattle.tip_line.specs.declared.response.Response.{Response}
use Rattle.tip_line.specs.declared.response.Response.TheVariants.{Identified, NeedTls, Begun, NotBegun, Pushed, AlreadyPushed, NotPushed, Pulled, NotPulled, Prepared, ReadOnly, Committed, Aborted, QueriedExists, QueriedNotFound, Reconnected, NotReconnected, CantMultiplex, Multiplexing, CantTls, Tlsing, Error}
use Rattle.tip_line.specs.declared.fault.ParseFault.{ParseFault}
use Rattle.tip_line.specs.declared.fault.ParseFault.TheVariants as fault

-- how a response's name stands in a line
abbrev pub spelled : ResponseName → List ℕ
spelled name.Identified = codes "IDENTIFIED"
spelled name.NeedTls = codes "NEEDTLS"
spelled name.Begun = codes "BEGUN"
spelled name.NotBegun = codes "NOTBEGUN"
spelled name.Pushed = codes "PUSHED"
spelled name.AlreadyPushed = codes "ALREADYPUSHED"
spelled name.NotPushed = codes "NOTPUSHED"
spelled name.Pulled = codes "PULLED"
spelled name.NotPulled = codes "NOTPULLED"
spelled name.Prepared = codes "PREPARED"
spelled name.ReadOnly = codes "READONLY"
spelled name.Committed = codes "COMMITTED"
spelled name.Aborted = codes "ABORTED"
spelled name.QueriedExists = codes "QUERIEDEXISTS"
spelled name.QueriedNotFound = codes "QUERIEDNOTFOUND"
spelled name.Reconnected = codes "RECONNECTED"
spelled name.NotReconnected = codes "NOTRECONNECTED"
spelled name.CantMultiplex = codes "CANTMULTIPLEX"
spelled name.Multiplexing = codes "MULTIPLEXING"
spelled name.CantTls = codes "CANTTLS"
spelled name.Tlsing = codes "TLSING"
spelled name.Error = codes "ERROR"

-- how many parameters stand behind it
abbrev pub parameters_of : ResponseName → ℕ
parameters_of name.Identified = 1
parameters_of name.NeedTls = 0
parameters_of name.Begun = 1
parameters_of name.NotBegun = 0
parameters_of name.Pushed = 1
parameters_of name.AlreadyPushed = 1
parameters_of name.NotPushed = 0
parameters_of name.Pulled = 0
parameters_of name.NotPulled = 0
parameters_of name.Prepared = 0
parameters_of name.ReadOnly = 0
parameters_of name.Committed = 0
parameters_of name.Aborted = 0
parameters_of name.QueriedExists = 0
parameters_of name.QueriedNotFound = 0
parameters_of name.Reconnected = 0
parameters_of name.NotReconnected = 0
parameters_of name.CantMultiplex = 0
parameters_of name.Multiplexing = 0
parameters_of name.CantTls = 0
parameters_of name.Tlsing = 0
parameters_of name.Error = 0

abbrev pub name_of : Response → ResponseName
name_of (Identified version) = name.Identified
name_of NeedTls = name.NeedTls
name_of (Begun transaction) = name.Begun
name_of NotBegun = name.NotBegun
name_of (Pushed subordinate) = name.Pushed
name_of (AlreadyPushed subordinate) = name.AlreadyPushed
name_of NotPushed = name.NotPushed
name_of Pulled = name.Pulled
name_of NotPulled = name.NotPulled
name_of Prepared = name.Prepared
name_of ReadOnly = name.ReadOnly
name_of Committed = name.Committed
name_of Aborted = name.Aborted
name_of QueriedExists = name.QueriedExists
name_of QueriedNotFound = name.QueriedNotFound
name_of Reconnected = name.Reconnected
name_of NotReconnected = name.NotReconnected
name_of CantMultiplex = name.CantMultiplex
name_of Multiplexing = name.Multiplexing
name_of CantTls = name.CantTls
name_of Tlsing = name.Tlsing
name_of Error = name.Error

-- The words behind a response's name: its parameter, and then any others.
abbrev pub HasParameters : List (List ℕ) → Response → Type 0
HasParameters words (Identified version) = (word : List ℕ) × (others : List (List ℕ)) × (words ≡ word ∷ others) × (version_of word ≡ Some version)
HasParameters words (Begun transaction) = (others : List (List ℕ)) × (words ≡ transaction ∷ others)
HasParameters words (Pushed subordinate) = (others : List (List ℕ)) × (words ≡ subordinate ∷ others)
HasParameters words (AlreadyPushed subordinate) = (others : List (List ℕ)) × (words ≡ subordinate ∷ others)
HasParameters words NeedTls = Unit {0}
HasParameters words NotBegun = Unit {0}
HasParameters words NotPushed = Unit {0}
HasParameters words Pulled = Unit {0}
HasParameters words NotPulled = Unit {0}
HasParameters words Prepared = Unit {0}
HasParameters words ReadOnly = Unit {0}
HasParameters words Committed = Unit {0}
HasParameters words Aborted = Unit {0}
HasParameters words QueriedExists = Unit {0}
HasParameters words QueriedNotFound = Unit {0}
HasParameters words Reconnected = Unit {0}
HasParameters words NotReconnected = Unit {0}
HasParameters words CantMultiplex = Unit {0}
HasParameters words Multiplexing = Unit {0}
HasParameters words CantTls = Unit {0}
HasParameters words Tlsing = Unit {0}
HasParameters words Error = Unit {0}

-- A text is a response: its first word is the response's name, and its parameters follow.
pub record IsResponse (text : List ℕ) (response : Response) : Type 0 where
  pub clean : IsClean text
  pub others : List (List ℕ)
  pub words : words_of text ≡ spelled (name_of response) ∷ others
  pub parameters : HasParameters others response

-- why a text is no response, the first reason of all
abbrev pub Refuses : List ℕ → ParseFault → Type 0
Refuses text fault.Octet = IsUnclean text fault.Octet
Refuses text fault.TooLong = IsUnclean text fault.TooLong
Refuses text fault.Unknown = IsClean text × ((name : ResponseName) (others : List (List ℕ)) → words_of text ≢ spelled name ∷ others)
Refuses text fault.Missing = IsClean text × (name : ResponseName) × (others : List (List ℕ)) × (words_of text ≡ spelled name ∷ others) × (length others < parameters_of name)
Refuses text fault.Number = IsClean text × (word : List ℕ) × (others : List (List ℕ)) × (words_of text ≡ spelled name.Identified ∷ word ∷ others) × (version_of word ≡ None)
Refuses text fault.Memory = (response : Response) × IsResponse text response

-- a response's parameter in a line
abbrev pub printed_parameters : Response → List (List ℕ)
printed_parameters (Identified version) = decimal version ∷ []
printed_parameters (Begun transaction) = transaction ∷ []
printed_parameters (Pushed subordinate) = subordinate ∷ []
printed_parameters (AlreadyPushed subordinate) = subordinate ∷ []
printed_parameters NeedTls = []
printed_parameters NotBegun = []
printed_parameters NotPushed = []
printed_parameters Pulled = []
printed_parameters NotPulled = []
printed_parameters Prepared = []
printed_parameters ReadOnly = []
printed_parameters Committed = []
printed_parameters Aborted = []
printed_parameters QueriedExists = []
printed_parameters QueriedNotFound = []
printed_parameters Reconnected = []
printed_parameters NotReconnected = []
printed_parameters CantMultiplex = []
printed_parameters Multiplexing = []
printed_parameters CantTls = []
printed_parameters Tlsing = []
printed_parameters Error = []

-- the one spelling that is written: name and parameter with a single space
abbrev pub printed : Response → List ℕ
printed response = join_with_byte 32 (spelled (name_of response) ∷ printed_parameters response)

-- a version of at most nine digits
abbrev pub HasOneSpelling : Response → Type 0
HasOneSpelling (Identified version) = version < 10 ^ 9
HasOneSpelling other = Unit {0}

-- a response whose parameter is a word
pub record CanBePrinted (response : Response) : Type 0 where
  pub words : list_all is_word (printed_parameters response) ≡ true
  pub one : HasOneSpelling response

-- reading, step by step
abbrev pub names : List ResponseName
names = name.Identified ∷ name.NeedTls ∷ name.Begun ∷ name.NotBegun ∷ name.Pushed ∷ name.AlreadyPushed ∷ name.NotPushed ∷ name.Pulled ∷ name.NotPulled ∷ name.Prepared ∷ name.ReadOnly ∷ name.Committed ∷ name.Aborted ∷ name.QueriedExists ∷ name.QueriedNotFound ∷ name.Reconnected ∷ name.NotReconnected ∷ name.CantMultiplex ∷ name.Multiplexing ∷ name.CantTls ∷ name.Tlsing ∷ name.Error ∷ []

abbrev pub identified_in : List ℕ → Result Response ParseFault
identified_in word = do
  version ← ok_or (version_of word) fault.Number
  Ok (Identified version)

unfoldable pub response_from : ResponseName → List (List ℕ) → Result Response ParseFault
response_from name.Identified (word ∷ others) = identified_in word
response_from name.Identified [] = Err fault.Missing
response_from name.Begun (transaction ∷ others) = Ok (Begun transaction)
response_from name.Begun [] = Err fault.Missing
response_from name.Pushed (subordinate ∷ others) = Ok (Pushed subordinate)
response_from name.Pushed [] = Err fault.Missing
response_from name.AlreadyPushed (subordinate ∷ others) = Ok (AlreadyPushed subordinate)
response_from name.AlreadyPushed [] = Err fault.Missing
response_from name.NeedTls words = Ok NeedTls
response_from name.NotBegun words = Ok NotBegun
response_from name.NotPushed words = Ok NotPushed
response_from name.Pulled words = Ok Pulled
response_from name.NotPulled words = Ok NotPulled
response_from name.Prepared words = Ok Prepared
response_from name.ReadOnly words = Ok ReadOnly
response_from name.Committed words = Ok Committed
response_from name.Aborted words = Ok Aborted
response_from name.QueriedExists words = Ok QueriedExists
response_from name.QueriedNotFound words = Ok QueriedNotFound
response_from name.Reconnected words = Ok Reconnected
response_from name.NotReconnected words = Ok NotReconnected
response_from name.CantMultiplex words = Ok CantMultiplex
response_from name.Multiplexing words = Ok Multiplexing
response_from name.CantTls words = Ok CantTls
response_from name.Tlsing words = Ok Tlsing
response_from name.Error words = Ok Error

unfoldable pub response_of : List ℕ → Result Response ParseFault
response_of text = do
  head ← head_of spelled names text
  response_from head.0 head.1
