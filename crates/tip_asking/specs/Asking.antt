-- AN OPERATOR'S DIALOGUE with a manager (RFC 2371, sections 13 and 15).
use Rattle.std.specs.Prelude.{◌≡◌, ◌⊎◌, ℕ, List, [], ◌∷◌, ◌++◌, Option, None, Some, codes, if◌then◌else◌}
use Rattle.std.specs.Io.KnownBytes.{Appends}
use Rattle.std.specs.List.{flat_map}
use Rattle.std.specs.Str.{bytes_eq}
use Rattle.tip_line.specs.Response as responses
use Rattle.tip_line.specs.declared.command.Command.{Command}
use Rattle.tip_line.specs.declared.command.Command.TheVariants as command
use Rattle.tip_line.specs.declared.response.Response.{Response}
use Rattle.tip_line.specs.declared.response.Response.TheVariants as response
use Rattle.tip_asking.specs.declared.asked.Asked.{Asked}
use Rattle.tip_asking.specs.declared.asked.Asked.TheVariants.{Presence, Transaction, End}
use Rattle.tip_asking.specs.declared.asked.Decision.{Decision}
use Rattle.tip_asking.specs.declared.asked.Decision.TheVariants.{Commit, Abort}
use Rattle.tip_asking.specs.declared.asked.Verdict.{Verdict}
use Rattle.tip_asking.specs.declared.asked.Verdict.TheVariants.{Yes, No}

-- the exit status
abbrev pub status_of : Verdict → ℕ
status_of Yes = 0
status_of No = 3

-- the words of the command line for a decision
abbrev pub decision_of : List ℕ → Option Decision
decision_of word = if bytes_eq word (codes "commit") then Some Commit else (if bytes_eq word (codes "abort") then Some Abort else None)

-- version 3 alone, by a primary without an address
abbrev pub identify : Command
identify = command.Identify 3 3 None (codes "-")

abbrev pub ending : Decision → Command
ending Commit = command.Commit
ending Abort = command.Abort

-- what is said, where each response lets the dialogue go on
abbrev pub commands_of : Asked → List Command
commands_of Presence = identify ∷ []
commands_of (Transaction id) = identify ∷ command.Query id.now ∷ []
commands_of (End id decision) = identify ∷ command.Reconnect id.now ∷ ending decision ∷ []

-- what a response says of a transaction: it is there, or it has ended; or it is not there
abbrev pub verdict_of : Response → Option Verdict
verdict_of response.QueriedExists = Some Yes
verdict_of response.Reconnected = Some Yes
verdict_of response.Committed = Some Yes
verdict_of response.Aborted = Some Yes
verdict_of response.QueriedNotFound = Some No
verdict_of response.NotReconnected = Some No
verdict_of other = None

-- these responses were told, a line each
abbrev pub told : Response → List ℕ
told response = responses.printed response ++ 10 ∷ []

abbrev pub Tells : List Response → Option (List ℕ) → Option (List ℕ) → Type 0
Tells heard before after = Appends before after (flat_map told heard)

-- a command on a transaction was said, and the response to it told
abbrev pub IsJudged : (List Command → List Response → Type 0) → Command → Verdict → Option (List ℕ) → Option (List ℕ) → Type 0
IsJudged IsHeard command verdict before after = (response : Response) × (verdict_of response ≡ Some verdict) × IsHeard (command ∷ []) (response ∷ []) × Tells (response ∷ []) before after

-- a transaction was to end: one that is not there does not; else the last response says whether it has
abbrev pub IsEnded : (List Command → List Response → Type 0) → List ℕ → Decision → Verdict → Option (List ℕ) → Option (List ℕ) → Type 0
IsEnded IsHeard id decision verdict before after =
    ((verdict ≡ No) × IsJudged IsHeard (command.Reconnect id) No before after)
    ⊎ ((found how : Response) × (verdict_of found ≡ Some Yes) × (verdict_of how ≡ Some verdict) × IsHeard (command.Reconnect id ∷ ending decision ∷ []) (found ∷ how ∷ []) × Tells (found ∷ how ∷ []) before after)

-- what is said and heard behind IDENTIFY, to which a version is answered
abbrev pub Identified : (List Command → List Response → Type 0) → ℕ → List Command → List Response → Type 0
Identified IsHeard version said heard = IsHeard (identify ∷ said) (response.Identified version ∷ heard)

-- THE ANSWER to a question: which commands were said, what was heard to each, and what of it was told
abbrev pub IsAnswered : (List Command → List Response → Type 0) → Asked → Verdict → Option (List ℕ) → Option (List ℕ) → Type 0
IsAnswered IsHeard Presence verdict before after = (version : ℕ) × (verdict ≡ Yes) × Identified IsHeard version [] [] × Tells (response.Identified version ∷ []) before after
IsAnswered IsHeard (Transaction id) verdict before after = (version : ℕ) × IsJudged (Identified IsHeard version) (command.Query id.now) verdict before after
IsAnswered IsHeard (End id decision) verdict before after = (version : ℕ) × IsEnded (Identified IsHeard version) id.now decision verdict before after
