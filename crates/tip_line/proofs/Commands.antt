-- What is read of a text is the command that it is, and each refusal comes where it is said to.
use Rattle.std.proofs.Common.{◌≡◌, ◌≢◌, ◌⊎◌, inl, inr, ℕ, ◌<◌, ◌≤◌, List, [], ◌∷◌, length, Option, Some, None, Result, Ok, Err, IsOk, IfOk, IfErr, Bool, true, false, refl, sym, ap, ◌∙◌, subst, arith, lit<}
use Rattle.std.specs.List.{find}
use Rattle.std.specs.Str.{bytes_eq}
use Rattle.tip_line.specs.Named.{head_of}
use Rattle.tip_line.specs.Texts.{is_plain, has_short_words, IsClean, ◌>>=◌, Gives}
use Rattle.tip_line.specs.Version.{version_of}
use Rattle.tip_line.specs.Words.{words_of}
use Rattle.tip_line.specs.Command.{spelled, parameters_of, name_of, peer_of, HasParameters, IsCommand, HasBadVersion, Refuses, names, identify_from, command_from, command_of}
use Rattle.tip_line.specs.declared.command.CommandName.{CommandName}
use Rattle.tip_line.specs.declared.command.CommandName.TheVariants as name
use Rattle.tip_line.specs.declared.command.Command.{Command}
use Rattle.tip_line.specs.declared.command.Command.TheVariants.{Identify, Begin, Push, Pull, Prepare, Commit, Abort, Query, Reconnect, Multiplex, Tls, Error}
use Rattle.tip_line.specs.declared.fault.ParseFault.{ParseFault}
use Rattle.tip_line.specs.declared.fault.ParseFault.TheVariants as fault
use Rattle.tip_line.proofs.Heads.{IsHead, head_read, head_unknown, is_head, refused_words}
use Rattle.tip_line.proofs.Texts.{unplain_words, long_words, gives_ok, gives_err}

pub reading : (text : List ℕ) (head : Result (CommandName × List (List ℕ)) ParseFault) → head_of spelled names text ≡ head → command_of text ≡ (head >>= (λ h. command_from h.0 h.1))
unfolding command_of
reading text head e = ap (λ r. r >>= (λ h. command_from h.0 h.1)) e

finds : (n : CommandName) → find (λ m. bytes_eq (spelled m) (spelled n)) names ≡ Some n
finds name.Identify = refl
finds name.Begin = refl
finds name.Push = refl
finds name.Pull = refl
finds name.Prepare = refl
finds name.Commit = refl
finds name.Abort = refl
finds name.Query = refl
finds name.Reconnect = refl
finds name.Multiplex = refl
finds name.Tls = refl
finds name.Error = refl

-- what a text is, by what is read of it
abbrev Verdict : List ℕ → Result Command ParseFault → Type 0
Verdict text (Ok command) = IsCommand text command
Verdict text (Err f) = Refuses text f

-- a command is what a name says and has its parameters
said : (text : List ℕ) (others : List (List ℕ)) (command : Command) → IsClean text → words_of text ≡ spelled (name_of command) ∷ others → HasParameters others command → IsCommand text command
said text others command clean words parameters = record { clean = clean; others = others; words = words; parameters = parameters }

missing : (text : List ℕ) (n : CommandName) (others : List (List ℕ)) → IsClean text → words_of text ≡ spelled n ∷ others → length others < parameters_of n → Refuses text fault.Missing
missing text n others clean words few = (clean, n, others, words, few)

identified : (text : List ℕ) (lowest highest peer secondary : List ℕ) (others : List (List ℕ)) (low high : Option ℕ) → version_of lowest ≡ low → version_of highest ≡ high → IsClean text → words_of text ≡ spelled name.Identify ∷ lowest ∷ highest ∷ peer ∷ secondary ∷ others → Verdict text (identify_from (lowest ∷ highest ∷ peer ∷ secondary ∷ others))
unfolding identify_from
identified text lowest highest peer secondary others None high l h clean words = rw l (clean, lowest ∷ highest ∷ peer ∷ secondary ∷ others, words, omega arith, inl l)
identified text lowest highest peer secondary others (Some low) None l h clean words = rw (l, h) (clean, lowest ∷ highest ∷ peer ∷ secondary ∷ others, words, omega arith, inr h)
identified text lowest highest peer secondary others (Some low) (Some high) l h clean words =
    rw (l, h) (said text (lowest ∷ highest ∷ peer ∷ secondary ∷ others) (Identify low high (peer_of peer) secondary) clean words (lowest, highest, peer, others, refl, l, h, refl))

identify_verdict : (text : List ℕ) (others : List (List ℕ)) → IsClean text → words_of text ≡ spelled name.Identify ∷ others → Verdict text (identify_from others)
unfolding identify_from
identify_verdict text [] clean words = missing text name.Identify [] clean words (lit< tt)
identify_verdict text (a ∷ []) clean words = missing text name.Identify (a ∷ []) clean words (lit< tt)
identify_verdict text (a ∷ b ∷ []) clean words = missing text name.Identify (a ∷ b ∷ []) clean words (lit< tt)
identify_verdict text (a ∷ b ∷ d ∷ []) clean words = missing text name.Identify (a ∷ b ∷ d ∷ []) clean words (lit< tt)
identify_verdict text (a ∷ b ∷ d ∷ e ∷ others) clean words = identified text a b d e others (version_of a) (version_of b) refl refl clean words

name_verdict : (text : List ℕ) (n : CommandName) (others : List (List ℕ)) → IsClean text → words_of text ≡ spelled n ∷ others → Verdict text (command_from n others)
unfolding command_from
name_verdict text name.Identify others clean words = identify_verdict text others clean words
name_verdict text name.Begin others clean words = said text others Begin clean words tt
name_verdict text name.Push [] clean words = missing text name.Push [] clean words (lit< tt)
name_verdict text name.Push (a ∷ others) clean words = said text (a ∷ others) (Push a) clean words (others, refl)
name_verdict text name.Pull [] clean words = missing text name.Pull [] clean words (lit< tt)
name_verdict text name.Pull (a ∷ []) clean words = missing text name.Pull (a ∷ []) clean words (lit< tt)
name_verdict text name.Pull (a ∷ b ∷ others) clean words = said text (a ∷ b ∷ others) (Pull a b) clean words (others, refl)
name_verdict text name.Prepare others clean words = said text others Prepare clean words tt
name_verdict text name.Commit others clean words = said text others Commit clean words tt
name_verdict text name.Abort others clean words = said text others Abort clean words tt
name_verdict text name.Query [] clean words = missing text name.Query [] clean words (lit< tt)
name_verdict text name.Query (a ∷ others) clean words = said text (a ∷ others) (Query a) clean words (others, refl)
name_verdict text name.Reconnect [] clean words = missing text name.Reconnect [] clean words (lit< tt)
name_verdict text name.Reconnect (a ∷ others) clean words = said text (a ∷ others) (Reconnect a) clean words (others, refl)
name_verdict text name.Multiplex [] clean words = missing text name.Multiplex [] clean words (lit< tt)
name_verdict text name.Multiplex (a ∷ others) clean words = said text (a ∷ others) (Multiplex a) clean words (others, refl)
name_verdict text name.Tls others clean words = said text others Tls clean words tt
name_verdict text name.Error others clean words = said text others Error clean words tt

head_verdict : (text : List ℕ) (head : Result (CommandName × List (List ℕ)) ParseFault) → IsHead spelled names finds text head → Verdict text (head >>= (λ h. command_from h.0 h.1))
head_verdict text (Ok head) is = name_verdict text head.0 head.1 is.0 is.1
head_verdict text (Err fault.Octet) is = is
head_verdict text (Err fault.TooLong) is = is
head_verdict text (Err fault.Unknown) is = is
head_verdict text (Err fault.Missing) is = absurd is
head_verdict text (Err fault.Number) is = absurd is
head_verdict text (Err fault.Memory) is = absurd is

verdict : (text : List ℕ) → Verdict text (command_of text)
verdict text = subst (Verdict text) (sym (reading text (head_of spelled names text) refl)) (head_verdict text (head_of spelled names text) (is_head spelled names finds text))

-- a command's name and parameters are read as that command
parameters_read : (others : List (List ℕ)) (command : Command) → HasParameters others command → command_from (name_of command) others ≡ Ok command
unfolding command_from identify_from
parameters_read others (Identify low high primary secondary) h = rw (h.4, h.5, h.6, h.7)
parameters_read others Begin h = refl
parameters_read others (Push superior) h = ap (command_from name.Push) h.1
parameters_read others (Pull superior subordinate) h = ap (command_from name.Pull) h.1
parameters_read others Prepare h = refl
parameters_read others Commit h = refl
parameters_read others Abort h = refl
parameters_read others (Query superior) h = ap (command_from name.Query) h.1
parameters_read others (Reconnect subordinate) h = ap (command_from name.Reconnect) h.1
parameters_read others (Multiplex protocol) h = ap (command_from name.Multiplex) h.1
parameters_read others Tls h = refl
parameters_read others Error h = refl

named_read : (text : List ℕ) (n : CommandName) (others : List (List ℕ)) → IsClean text → words_of text ≡ spelled n ∷ others → command_of text ≡ command_from n others
named_read text n others clean words = reading text (Ok (n, others)) (head_read spelled names finds text n others clean words)

command_read : (text : List ℕ) (command : Command) → IsCommand text command → command_of text ≡ Ok command
command_read text command is = named_read text (name_of command) is.others is.clean is.words ∙ parameters_read is.others command is.parameters

-- a refusal that is due is what is read

few_identify : (others : List (List ℕ)) → length others < 4 → identify_from others ≡ Err fault.Missing
unfolding identify_from
few_identify [] few = refl
few_identify (a ∷ []) few = refl
few_identify (a ∷ b ∷ []) few = refl
few_identify (a ∷ b ∷ d ∷ []) few = refl
few_identify (a ∷ b ∷ d ∷ e ∷ others) few = absurd (omega arith)

few_read : (n : CommandName) (others : List (List ℕ)) → length others < parameters_of n → command_from n others ≡ Err fault.Missing
unfolding command_from
few_read name.Identify others few = few_identify others few
few_read name.Push [] few = refl
few_read name.Push (a ∷ others) few = absurd (omega arith)
few_read name.Pull [] few = refl
few_read name.Pull (a ∷ []) few = refl
few_read name.Pull (a ∷ b ∷ others) few = absurd (omega arith)
few_read name.Query [] few = refl
few_read name.Query (a ∷ others) few = absurd (omega arith)
few_read name.Reconnect [] few = refl
few_read name.Reconnect (a ∷ others) few = absurd (omega arith)
few_read name.Multiplex [] few = refl
few_read name.Multiplex (a ∷ others) few = absurd (omega arith)
few_read name.Begin others few = absurd (omega arith)
few_read name.Prepare others few = absurd (omega arith)
few_read name.Commit others few = absurd (omega arith)
few_read name.Abort others few = absurd (omega arith)
few_read name.Tls others few = absurd (omega arith)
few_read name.Error others few = absurd (omega arith)

bad_second : (low : Option ℕ) (lowest highest peer secondary : List ℕ) (others : List (List ℕ)) → version_of lowest ≡ low → version_of highest ≡ None → identify_from (lowest ∷ highest ∷ peer ∷ secondary ∷ others) ≡ Err fault.Number
unfolding identify_from
bad_second None lowest highest peer secondary others l h = rw l
bad_second (Some low) lowest highest peer secondary others l h = rw (l, h)

bad_version : (others : List (List ℕ)) → 4 ≤ length others → HasBadVersion others → identify_from others ≡ Err fault.Number
unfolding identify_from
bad_version [] enough bad = absurd bad
bad_version (a ∷ []) enough bad = absurd bad
bad_version (a ∷ b ∷ []) enough bad = absurd (omega arith)
bad_version (a ∷ b ∷ d ∷ []) enough bad = absurd (omega arith)
bad_version (a ∷ b ∷ d ∷ e ∷ others) enough (inl bad) = rw bad
bad_version (a ∷ b ∷ d ∷ e ∷ others) enough (inr bad) = bad_second (version_of a) a b d e others refl bad

identify_is : (others : List (List ℕ)) → command_from name.Identify others ≡ identify_from others
unfolding command_from
identify_is others = refl

refusal_read : (text : List ℕ) (f : ParseFault) → f ≢ fault.Memory → Refuses text f → command_of text ≡ Err f
refusal_read text fault.Octet counts p = reading text (Err fault.Octet) (refused_words spelled names text fault.Octet (unplain_words text p))
refusal_read text fault.TooLong counts p = reading text (Err fault.TooLong) (refused_words spelled names text fault.TooLong (long_words text p.0 p.1))
refusal_read text fault.Unknown counts p = reading text (Err fault.Unknown) (head_unknown spelled names finds text p.0 p.1)
refusal_read text fault.Missing counts p = named_read text p.1 p.2 p.0 p.3 ∙ few_read p.1 p.2 p.4
refusal_read text fault.Number counts p = named_read text name.Identify p.1 p.0 p.2 ∙ identify_is p.1 ∙ bad_version p.1 p.3 p.4
refusal_read text fault.Memory counts p = absurd (counts refl)

-- what parsing answers, by what is read

pub parsed : (text : List ℕ) (result : Result Command ParseFault) → Gives result (command_of text) → IfOk result (λ command. IsCommand text command)
parsed text (Ok command) g = subst (Verdict text) g (verdict text)
parsed text (Err f) g = tt

pub parsed_only : (text : List ℕ) (result : Result Command ParseFault) → Gives result (command_of text) → (command : Command) → IsCommand text command → (result ≡ Ok command) ⊎ (result ≡ Err fault.Memory)
parsed_only text result g command is = gives_ok result (command_of text) command g (command_read text command is)

some_command : (text : List ℕ) (read : Result Command ParseFault) → IsOk read → Verdict text read → (command : Command) × IsCommand text command
some_command text (Ok command) ok v = (command, v)
some_command text (Err f) ok v = absurd (cc)

pub parse_refused : (text : List ℕ) (result : Result Command ParseFault) → Gives result (command_of text) → IfErr result (Refuses text)
parse_refused text (Ok command) g = tt
parse_refused text (Err fault.Memory) g = some_command text (command_of text) g (verdict text)
parse_refused text (Err fault.Octet) g = subst (Verdict text) g (verdict text)
parse_refused text (Err fault.TooLong) g = subst (Verdict text) g (verdict text)
parse_refused text (Err fault.Unknown) g = subst (Verdict text) g (verdict text)
parse_refused text (Err fault.Missing) g = subst (Verdict text) g (verdict text)
parse_refused text (Err fault.Number) g = subst (Verdict text) g (verdict text)

pub parse_exactly : (text : List ℕ) (result : Result Command ParseFault) → Gives result (command_of text) → (f : ParseFault) → f ≢ fault.Memory → Refuses text f → result ≡ Err f
parse_exactly text result g f counts due = gives_err result (command_of text) f g (refusal_read text f counts due)
