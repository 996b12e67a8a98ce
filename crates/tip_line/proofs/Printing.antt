-- What is printed is read again.
use Rattle.std.proofs.Common.{◌≡◌, ◌≢◌, ℕ, ◌^◌, ◌<◌, List, [], ◌∷◌, ◌++◌, length, Some, None, true, false, ◌&&◌, nat_lt, nat_le, refl, ap, ◌∙◌, arith, lit<, codes}
use Rattle.std.specs.Char.{is_ascii_digit}
use Rattle.std.specs.Fmt.{decimal}
use Rattle.std.specs.List.{list_all, filter, slice_split, onto_first, join_with_byte}
use Rattle.std.specs.Str.{all_ascii_digits, bytes_eq}
use Rattle.std.proofs.lemmas.Bool.{false_from_ne_true}
use Rattle.std.proofs.lemmas.Bool.Decides.{nat_tests}
use Rattle.std.proofs.lemmas.Fmt.{digits_decimal, digits_value-decimal, decimal_nonempty, length-decimal-le}
use Rattle.std.proofs.lemmas.List.Folds.{list_all-append}
use Rattle.std.proofs.lemmas.Slice.Eq.{bytes_eq-Decides}
use Rattle.tip_line.specs.Command as command
use Rattle.tip_line.specs.Octets.{is_printable, is_space}
use Rattle.tip_line.specs.Response as response
use Rattle.tip_line.specs.Texts.{is_plain, IsClean}
use Rattle.tip_line.specs.Version.{version_of}
use Rattle.tip_line.specs.Words.{is_word, is_word_octet, is_short, has_octets, words_of}
use Rattle.tip_line.specs.declared.command.Command.{Command}
use Rattle.tip_line.specs.declared.command.Command.TheVariants.{Identify, Begin, Push, Pull, Prepare, Commit, Abort, Query, Reconnect, Multiplex, Tls, Error}
use Rattle.tip_line.specs.declared.command.CommandName.{CommandName}
use Rattle.tip_line.specs.declared.command.CommandName.TheVariants as name
use Rattle.tip_line.specs.declared.response.Response.{Response}
use Rattle.tip_line.specs.declared.response.Response.TheVariants as say
use Rattle.tip_line.specs.declared.response.ResponseName.{ResponseName}
use Rattle.tip_line.specs.declared.response.ResponseName.TheVariants as answer
use Rattle.tip_line.proofs.NumberLemmas.{numerals}
use Rattle.tip_line.proofs.StopLemmas.{and_left, and_right}
use Rattle.tip_line.proofs.TextLemmas.{filter_some}
use Rattle.tip_line.proofs.WordLemmas.{all_octets}

no_space : (x : ℕ) → is_word_octet x ≡ true → is_space x ≡ false
no_space x h = grind (arith, nat_tests)

printable : (x : ℕ) → is_word_octet x ≡ true → is_printable x ≡ true
printable x h = grind (arith, nat_tests)

-- the parts of words with a space between them are the words

split_word : (word : List ℕ) → list_all is_word_octet word ≡ true → slice_split is_space word ≡ word ∷ []
split_word [] h = refl
split_word (x ∷ word) h =
    rw (no_space x (and_left (is_word_octet x) (list_all is_word_octet word) h)) (ap (onto_first x) (split_word word (and_right (is_word_octet x) (list_all is_word_octet word) h)))

split_behind : (word rest : List ℕ) → list_all is_word_octet word ≡ true → slice_split is_space (word ++ 32 ∷ rest) ≡ word ∷ slice_split is_space rest
split_behind [] rest h = refl
split_behind (x ∷ word) rest h =
    rw (no_space x (and_left (is_word_octet x) (list_all is_word_octet word) h)) (ap (onto_first x) (split_behind word rest (and_right (is_word_octet x) (list_all is_word_octet word) h)))

some_word : (word : List ℕ) → is_word word ≡ true → 0 < length word
some_word [] h = absurd (cc)
some_word (x ∷ word) h = omega arith

words_joined : (words : List (List ℕ)) → list_all is_word words ≡ true → words_of (join_with_byte 32 words) ≡ words
words_joined [] h = refl
words_joined (word ∷ []) h =
    let is = and_left (is_word word) true h in
    ap (filter has_octets) (split_word word (all_octets word is)) ∙ filter_some word [] (some_word word is)
words_joined (word ∷ next ∷ words) h =
    let is = and_left (is_word word) (list_all is_word (next ∷ words)) h in
    let more = words_joined (next ∷ words) (and_right (is_word word) (list_all is_word (next ∷ words)) h) in
    ap (filter has_octets) (split_behind word (join_with_byte 32 (next ∷ words)) (all_octets word is)) ∙ filter_some word (slice_split is_space (join_with_byte 32 (next ∷ words))) (some_word word is) ∙ ap (λ ws. word ∷ ws) more

plain_word : (word : List ℕ) → list_all is_word_octet word ≡ true → is_plain word ≡ true
plain_word [] h = refl
plain_word (x ∷ word) h = cc (printable x (and_left (is_word_octet x) (list_all is_word_octet word) h), plain_word word (and_right (is_word_octet x) (list_all is_word_octet word) h))

plain_joined : (words : List (List ℕ)) → list_all is_word words ≡ true → is_plain (join_with_byte 32 words) ≡ true
plain_joined [] h = refl
plain_joined (word ∷ []) h = plain_word word (all_octets word (and_left (is_word word) true h))
plain_joined (word ∷ next ∷ words) h =
    let first = plain_word word (all_octets word (and_left (is_word word) (list_all is_word (next ∷ words)) h)) in
    let more = plain_joined (next ∷ words) (and_right (is_word word) (list_all is_word (next ∷ words)) h) in
    list_all-append is_printable word (32 ∷ join_with_byte 32 (next ∷ words)) ∙ cc (first, more)

short_word : (word : List ℕ) → is_word word ≡ true → is_short word ≡ true
short_word word h = and_right (nat_lt 0 (length word)) (nat_le (length word) 1024) (and_left (nat_lt 0 (length word) && nat_le (length word) 1024) (list_all is_word_octet word) h)

short_words : (words : List (List ℕ)) → list_all is_word words ≡ true → list_all is_short words ≡ true
short_words [] h = refl
short_words (word ∷ words) h = cc (short_word word (and_left (is_word word) (list_all is_word words) h), short_words words (and_right (is_word word) (list_all is_word words) h))

clean_joined : (words : List (List ℕ)) → list_all is_word words ≡ true → IsClean (join_with_byte 32 words)
clean_joined words h = record { plain = plain_joined words h; short = ap (list_all is_short) (words_joined words h) ∙ short_words words h }

-- a version that is printed is read

all_digits : (digits : List ℕ) → all_ascii_digits digits ≡ true → list_all is_ascii_digit digits ≡ true
all_digits [] h = refl
all_digits (x ∷ digits) h = cc

version_printed : (n : ℕ) → n < 10 ^ 9 → version_of (decimal n) ≡ Some n
version_printed n h =
    let some = decimal_nonempty n (omega arith) in
    let few = length-decimal-le 9 n (lit< tt) h (omega arith) in
    let is_some : nat_lt 0 (length (decimal n)) ≡ true = grind (arith, nat_tests) in
    let is_few : nat_le (length (decimal n)) 9 ≡ true = grind (arith, nat_tests) in
    let digits = all_digits (decimal n) (digits_decimal numerals n (omega arith)) in
    rw (is_some, is_few, digits) (ap Some (digits_value-decimal numerals n (omega arith)))

other_peer : (word : List ℕ) → Some word ≢ Some (codes "-") → command.peer_of word ≡ Some word
other_peer word other =
    let differs : bytes_eq word (codes "-") ≡ false = false_from_ne_true (bytes_eq word (codes "-")) (λ same. other (ap Some ((bytes_eq-Decides word (codes "-")).0 same))) in
    rw differs

command_parameters : (c : Command) → command.HasOneSpelling c → command.HasParameters (command.printed_parameters c) c
command_parameters (Identify low high None secondary) one = (decimal low, decimal high, codes "-", [], refl, version_printed low one.0, version_printed high one.1, refl)
command_parameters (Identify low high (Some primary) secondary) one = (decimal low, decimal high, primary, [], refl, version_printed low one.0, version_printed high one.1, other_peer primary one.2)
command_parameters (Push superior) one = ([], refl)
command_parameters (Pull superior subordinate) one = ([], refl)
command_parameters (Query superior) one = ([], refl)
command_parameters (Reconnect subordinate) one = ([], refl)
command_parameters (Multiplex protocol) one = ([], refl)
command_parameters Begin one = tt
command_parameters Prepare one = tt
command_parameters Commit one = tt
command_parameters Abort one = tt
command_parameters Tls one = tt
command_parameters Error one = tt

command_name : (n : CommandName) → is_word (command.spelled n) ≡ true
command_name name.Identify = refl
command_name name.Begin = refl
command_name name.Push = refl
command_name name.Pull = refl
command_name name.Prepare = refl
command_name name.Commit = refl
command_name name.Abort = refl
command_name name.Query = refl
command_name name.Reconnect = refl
command_name name.Multiplex = refl
command_name name.Tls = refl
command_name name.Error = refl

pub command_printed : (c : Command) → command.CanBePrinted c → command.IsCommand (command.printed c) c
command_printed c can =
    let words : list_all is_word (command.spelled (command.name_of c) ∷ command.printed_parameters c) ≡ true = cc (command_name (command.name_of c), can.words) in
    record {
      clean = clean_joined (command.spelled (command.name_of c) ∷ command.printed_parameters c) words;
      others = command.printed_parameters c;
      words = words_joined (command.spelled (command.name_of c) ∷ command.printed_parameters c) words;
      parameters = command_parameters c can.one;
    }

response_parameters : (r : Response) → response.HasOneSpelling r → response.HasParameters (response.printed_parameters r) r
response_parameters (say.Identified version) one = (decimal version, [], refl, version_printed version one)
response_parameters say.NeedTls one = tt
response_parameters (say.Begun id) one = ([], refl)
response_parameters say.NotBegun one = tt
response_parameters (say.Pushed id) one = ([], refl)
response_parameters (say.AlreadyPushed id) one = ([], refl)
response_parameters say.NotPushed one = tt
response_parameters say.Pulled one = tt
response_parameters say.NotPulled one = tt
response_parameters say.Prepared one = tt
response_parameters say.ReadOnly one = tt
response_parameters say.Committed one = tt
response_parameters say.Aborted one = tt
response_parameters say.QueriedExists one = tt
response_parameters say.QueriedNotFound one = tt
response_parameters say.Reconnected one = tt
response_parameters say.NotReconnected one = tt
response_parameters say.CantMultiplex one = tt
response_parameters say.Multiplexing one = tt
response_parameters say.CantTls one = tt
response_parameters say.Tlsing one = tt
response_parameters say.Error one = tt

response_name : (n : ResponseName) → is_word (response.spelled n) ≡ true
response_name answer.Identified = refl
response_name answer.NeedTls = refl
response_name answer.Begun = refl
response_name answer.NotBegun = refl
response_name answer.Pushed = refl
response_name answer.AlreadyPushed = refl
response_name answer.NotPushed = refl
response_name answer.Pulled = refl
response_name answer.NotPulled = refl
response_name answer.Prepared = refl
response_name answer.ReadOnly = refl
response_name answer.Committed = refl
response_name answer.Aborted = refl
response_name answer.QueriedExists = refl
response_name answer.QueriedNotFound = refl
response_name answer.Reconnected = refl
response_name answer.NotReconnected = refl
response_name answer.CantMultiplex = refl
response_name answer.Multiplexing = refl
response_name answer.CantTls = refl
response_name answer.Tlsing = refl
response_name answer.Error = refl

pub response_printed : (r : Response) → response.CanBePrinted r → response.IsResponse (response.printed r) r
response_printed r can =
    let words : list_all is_word (response.spelled (response.name_of r) ∷ response.printed_parameters r) ≡ true = cc (response_name (response.name_of r), can.words) in
    record {
      clean = clean_joined (response.spelled (response.name_of r) ∷ response.printed_parameters r) words;
      others = response.printed_parameters r;
      words = words_joined (response.spelled (response.name_of r) ∷ response.printed_parameters r) words;
      parameters = response_parameters r can.one;
    }
