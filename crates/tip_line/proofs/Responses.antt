-- What is read of a text is the response that it is, and each refusal comes where it is said to.
use Rattle.std.proofs.Common.{◌≡◌, ◌≢◌, ◌⊎◌, ℕ, ◌<◌, List, [], ◌∷◌, length, Option, Some, None, Result, Ok, Err, IsOk, IfOk, IfErr, Bool, true, false, refl, sym, ap, ◌∙◌, subst, arith, lit<}
use Rattle.std.specs.List.{find}
use Rattle.std.specs.Str.{bytes_eq}
use Rattle.tip_line.specs.Named.{head_of}
use Rattle.tip_line.specs.Texts.{is_plain, has_short_words, IsClean, ◌>>=◌, Gives}
use Rattle.tip_line.specs.Version.{version_of}
use Rattle.tip_line.specs.Words.{words_of}
use Rattle.tip_line.specs.Response.{spelled, parameters_of, name_of, HasParameters, IsResponse, Refuses, names, identified_in, response_from, response_of}
use Rattle.tip_line.specs.declared.response.ResponseName.{ResponseName}
use Rattle.tip_line.specs.declared.response.ResponseName.TheVariants as name
use Rattle.tip_line.specs.declared.response.Response.{Response}
use Rattle.tip_line.specs.declared.response.Response.TheVariants.{Identified, NeedTls, Begun, NotBegun, Pushed, AlreadyPushed, NotPushed, Pulled, NotPulled, Prepared, ReadOnly, Committed, Aborted, QueriedExists, QueriedNotFound, Reconnected, NotReconnected, CantMultiplex, Multiplexing, CantTls, Tlsing, Error}
use Rattle.tip_line.specs.declared.fault.ParseFault.{ParseFault}
use Rattle.tip_line.specs.declared.fault.ParseFault.TheVariants as fault
use Rattle.tip_line.proofs.Heads.{IsHead, head_read, head_unknown, is_head, refused_words}
use Rattle.tip_line.proofs.Texts.{unplain_words, long_words, gives_ok, gives_err}

pub reading : (text : List ℕ) (head : Result (ResponseName × List (List ℕ)) ParseFault) → head_of spelled names text ≡ head → response_of text ≡ (head >>= (λ h. response_from h.0 h.1))
unfolding response_of
reading text head e = ap (λ r. r >>= (λ h. response_from h.0 h.1)) e

finds : (n : ResponseName) → find (λ m. bytes_eq (spelled m) (spelled n)) names ≡ Some n
finds name.Identified = refl
finds name.NeedTls = refl
finds name.Begun = refl
finds name.NotBegun = refl
finds name.Pushed = refl
finds name.AlreadyPushed = refl
finds name.NotPushed = refl
finds name.Pulled = refl
finds name.NotPulled = refl
finds name.Prepared = refl
finds name.ReadOnly = refl
finds name.Committed = refl
finds name.Aborted = refl
finds name.QueriedExists = refl
finds name.QueriedNotFound = refl
finds name.Reconnected = refl
finds name.NotReconnected = refl
finds name.CantMultiplex = refl
finds name.Multiplexing = refl
finds name.CantTls = refl
finds name.Tlsing = refl
finds name.Error = refl

-- what a text is, by what is read of it
abbrev Verdict : List ℕ → Result Response ParseFault → Type 0
Verdict text (Ok response) = IsResponse text response
Verdict text (Err f) = Refuses text f

-- a response is what a name says and has its parameters
said : (text : List ℕ) (others : List (List ℕ)) (response : Response) → IsClean text → words_of text ≡ spelled (name_of response) ∷ others → HasParameters others response → IsResponse text response
said text others response clean words parameters = record { clean = clean; others = others; words = words; parameters = parameters }

missing : (text : List ℕ) (n : ResponseName) (others : List (List ℕ)) → IsClean text → words_of text ≡ spelled n ∷ others → length others < parameters_of n → Refuses text fault.Missing
missing text n others clean words few = (clean, n, others, words, few)

identified : (text word : List ℕ) (others : List (List ℕ)) (version : Option ℕ) → version_of word ≡ version → IsClean text → words_of text ≡ spelled name.Identified ∷ word ∷ others → Verdict text (identified_in word)
identified text word others None v clean words = rw v (clean, word, others, words, v)
identified text word others (Some version) v clean words = rw v (said text (word ∷ others) (Identified version) clean words (word, others, refl, v))

name_verdict : (text : List ℕ) (n : ResponseName) (others : List (List ℕ)) → IsClean text → words_of text ≡ spelled n ∷ others → Verdict text (response_from n others)
unfolding response_from
name_verdict text name.Identified [] clean words = missing text name.Identified [] clean words (lit< tt)
name_verdict text name.Identified (word ∷ others) clean words = identified text word others (version_of word) refl clean words
name_verdict text name.Begun [] clean words = missing text name.Begun [] clean words (lit< tt)
name_verdict text name.Begun (a ∷ others) clean words = said text (a ∷ others) (Begun a) clean words (others, refl)
name_verdict text name.Pushed [] clean words = missing text name.Pushed [] clean words (lit< tt)
name_verdict text name.Pushed (a ∷ others) clean words = said text (a ∷ others) (Pushed a) clean words (others, refl)
name_verdict text name.AlreadyPushed [] clean words = missing text name.AlreadyPushed [] clean words (lit< tt)
name_verdict text name.AlreadyPushed (a ∷ others) clean words = said text (a ∷ others) (AlreadyPushed a) clean words (others, refl)
name_verdict text name.NeedTls others clean words = said text others NeedTls clean words tt
name_verdict text name.NotBegun others clean words = said text others NotBegun clean words tt
name_verdict text name.NotPushed others clean words = said text others NotPushed clean words tt
name_verdict text name.Pulled others clean words = said text others Pulled clean words tt
name_verdict text name.NotPulled others clean words = said text others NotPulled clean words tt
name_verdict text name.Prepared others clean words = said text others Prepared clean words tt
name_verdict text name.ReadOnly others clean words = said text others ReadOnly clean words tt
name_verdict text name.Committed others clean words = said text others Committed clean words tt
name_verdict text name.Aborted others clean words = said text others Aborted clean words tt
name_verdict text name.QueriedExists others clean words = said text others QueriedExists clean words tt
name_verdict text name.QueriedNotFound others clean words = said text others QueriedNotFound clean words tt
name_verdict text name.Reconnected others clean words = said text others Reconnected clean words tt
name_verdict text name.NotReconnected others clean words = said text others NotReconnected clean words tt
name_verdict text name.CantMultiplex others clean words = said text others CantMultiplex clean words tt
name_verdict text name.Multiplexing others clean words = said text others Multiplexing clean words tt
name_verdict text name.CantTls others clean words = said text others CantTls clean words tt
name_verdict text name.Tlsing others clean words = said text others Tlsing clean words tt
name_verdict text name.Error others clean words = said text others Error clean words tt

head_verdict : (text : List ℕ) (head : Result (ResponseName × List (List ℕ)) ParseFault) → IsHead spelled names finds text head → Verdict text (head >>= (λ h. response_from h.0 h.1))
head_verdict text (Ok head) is = name_verdict text head.0 head.1 is.0 is.1
head_verdict text (Err fault.Octet) is = is
head_verdict text (Err fault.TooLong) is = is
head_verdict text (Err fault.Unknown) is = is
head_verdict text (Err fault.Missing) is = absurd is
head_verdict text (Err fault.Number) is = absurd is
head_verdict text (Err fault.Memory) is = absurd is

verdict : (text : List ℕ) → Verdict text (response_of text)
verdict text = subst (Verdict text) (sym (reading text (head_of spelled names text) refl)) (head_verdict text (head_of spelled names text) (is_head spelled names finds text))

-- a response's name and parameters are read as that response
parameters_read : (others : List (List ℕ)) (response : Response) → HasParameters others response → response_from (name_of response) others ≡ Ok response
unfolding response_from
parameters_read others (Identified version) h = ap (response_from name.Identified) h.2 ∙ rw h.3
parameters_read others (Begun transaction) h = ap (response_from name.Begun) h.1
parameters_read others (Pushed subordinate) h = ap (response_from name.Pushed) h.1
parameters_read others (AlreadyPushed subordinate) h = ap (response_from name.AlreadyPushed) h.1
parameters_read others NeedTls h = refl
parameters_read others NotBegun h = refl
parameters_read others NotPushed h = refl
parameters_read others Pulled h = refl
parameters_read others NotPulled h = refl
parameters_read others Prepared h = refl
parameters_read others ReadOnly h = refl
parameters_read others Committed h = refl
parameters_read others Aborted h = refl
parameters_read others QueriedExists h = refl
parameters_read others QueriedNotFound h = refl
parameters_read others Reconnected h = refl
parameters_read others NotReconnected h = refl
parameters_read others CantMultiplex h = refl
parameters_read others Multiplexing h = refl
parameters_read others CantTls h = refl
parameters_read others Tlsing h = refl
parameters_read others Error h = refl

named_read : (text : List ℕ) (n : ResponseName) (others : List (List ℕ)) → IsClean text → words_of text ≡ spelled n ∷ others → response_of text ≡ response_from n others
named_read text n others clean words = reading text (Ok (n, others)) (head_read spelled names finds text n others clean words)

response_read : (text : List ℕ) (response : Response) → IsResponse text response → response_of text ≡ Ok response
response_read text response is = named_read text (name_of response) is.others is.clean is.words ∙ parameters_read is.others response is.parameters

-- a refusal that is due is what is read

few_read : (n : ResponseName) (others : List (List ℕ)) → length others < parameters_of n → response_from n others ≡ Err fault.Missing
unfolding response_from
few_read name.Identified [] few = refl
few_read name.Identified (a ∷ others) few = absurd (omega arith)
few_read name.Begun [] few = refl
few_read name.Begun (a ∷ others) few = absurd (omega arith)
few_read name.Pushed [] few = refl
few_read name.Pushed (a ∷ others) few = absurd (omega arith)
few_read name.AlreadyPushed [] few = refl
few_read name.AlreadyPushed (a ∷ others) few = absurd (omega arith)
few_read name.NeedTls others few = absurd (omega arith)
few_read name.NotBegun others few = absurd (omega arith)
few_read name.NotPushed others few = absurd (omega arith)
few_read name.Pulled others few = absurd (omega arith)
few_read name.NotPulled others few = absurd (omega arith)
few_read name.Prepared others few = absurd (omega arith)
few_read name.ReadOnly others few = absurd (omega arith)
few_read name.Committed others few = absurd (omega arith)
few_read name.Aborted others few = absurd (omega arith)
few_read name.QueriedExists others few = absurd (omega arith)
few_read name.QueriedNotFound others few = absurd (omega arith)
few_read name.Reconnected others few = absurd (omega arith)
few_read name.NotReconnected others few = absurd (omega arith)
few_read name.CantMultiplex others few = absurd (omega arith)
few_read name.Multiplexing others few = absurd (omega arith)
few_read name.CantTls others few = absurd (omega arith)
few_read name.Tlsing others few = absurd (omega arith)
few_read name.Error others few = absurd (omega arith)

bad_version : (word : List ℕ) (others : List (List ℕ)) → version_of word ≡ None → response_from name.Identified (word ∷ others) ≡ Err fault.Number
unfolding response_from
bad_version word others bad = rw bad

refusal_read : (text : List ℕ) (f : ParseFault) → f ≢ fault.Memory → Refuses text f → response_of text ≡ Err f
refusal_read text fault.Octet counts p = reading text (Err fault.Octet) (refused_words spelled names text fault.Octet (unplain_words text p))
refusal_read text fault.TooLong counts p = reading text (Err fault.TooLong) (refused_words spelled names text fault.TooLong (long_words text p.0 p.1))
refusal_read text fault.Unknown counts p = reading text (Err fault.Unknown) (head_unknown spelled names finds text p.0 p.1)
refusal_read text fault.Missing counts p = named_read text p.1 p.2 p.0 p.3 ∙ few_read p.1 p.2 p.4
refusal_read text fault.Number counts p = named_read text name.Identified (p.1 ∷ p.2) p.0 p.3 ∙ bad_version p.1 p.2 p.4
refusal_read text fault.Memory counts p = absurd (counts refl)

-- what parsing answers, by what is read

pub parsed : (text : List ℕ) (result : Result Response ParseFault) → Gives result (response_of text) → IfOk result (λ response. IsResponse text response)
parsed text (Ok response) g = subst (Verdict text) g (verdict text)
parsed text (Err f) g = tt

pub parsed_only : (text : List ℕ) (result : Result Response ParseFault) → Gives result (response_of text) → (response : Response) → IsResponse text response → (result ≡ Ok response) ⊎ (result ≡ Err fault.Memory)
parsed_only text result g response is = gives_ok result (response_of text) response g (response_read text response is)

some_response : (text : List ℕ) (read : Result Response ParseFault) → IsOk read → Verdict text read → (response : Response) × IsResponse text response
some_response text (Ok response) ok v = (response, v)
some_response text (Err f) ok v = absurd (cc)

pub parse_refused : (text : List ℕ) (result : Result Response ParseFault) → Gives result (response_of text) → IfErr result (Refuses text)
parse_refused text (Ok response) g = tt
parse_refused text (Err fault.Memory) g = some_response text (response_of text) g (verdict text)
parse_refused text (Err fault.Octet) g = subst (Verdict text) g (verdict text)
parse_refused text (Err fault.TooLong) g = subst (Verdict text) g (verdict text)
parse_refused text (Err fault.Unknown) g = subst (Verdict text) g (verdict text)
parse_refused text (Err fault.Missing) g = subst (Verdict text) g (verdict text)
parse_refused text (Err fault.Number) g = subst (Verdict text) g (verdict text)

pub parse_exactly : (text : List ℕ) (result : Result Response ParseFault) → Gives result (response_of text) → (f : ParseFault) → f ≢ fault.Memory → Refuses text f → result ≡ Err f
parse_exactly text result g f counts due = gives_err result (response_of text) f g (refusal_read text f counts due)
