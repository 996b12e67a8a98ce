-- Numbers in decimal.
use Rattle.std.proofs.Common.{◌≡◌, ℕ, ◌+◌, ◌-◌, ◌*◌, ◌^◌, ◌<◌, ◌≤◌, List, [], ◌∷◌, ◌++◌, length, Bool, true, false, ◌&&◌, nat_lt, nat_le, Option, Some, None, IfSome, refl, arith, rules, lit<, ap, ◌∙◌, sym, take, get_or, add-one}
use Rattle.std.specs.List.{list_all}
use Rattle.std.specs.Fmt.{decimal}
use Rattle.std.specs.Str.{all_ascii_digits}
use Rattle.std.specs.Char.{is_ascii_digit}
use Rattle.std.proofs.lemmas.Bool.Decides.{nat_tests}
use Rattle.std.proofs.lemmas.Fmt.{digits_decimal, digits_value-decimal, length-decimal-le}
use Rattle.std.proofs.lemmas.Option.{none-some}
use Rattle.std.proofs.lemmas.Slice.Eq.{bytes_eq-Decides}
use Rattle.std.specs.Str.{bytes_eq}
use Rattle.std.proofs.lemmas.List.{length-append, take_more}
use Rattle.std.proofs.lemmas.List.Folds.{list_all-append, list_all_more}
use Rattle.std.proofs.Math.Nat.{pow-le-pow_right, pow-suc}
use Rattle.std.proofs.lemmas.Str.Parse.{IsNumeralModel, numerals_by_fold}
use Rattle.tip_line.specs.Ids.{id_of, number_in}
use Rattle.tip_line.specs.Version.{number_from}
use Rattle.tip_line.specs.Words.{is_word, is_word_octet, is_realm, is_letter}
use Rattle.tip_line.proofs.StopLemmas.{and_left, and_right}
use Rattle.tip_line.proofs.WordLemmas.{realm_is_word, all_octets}

pub numerals : IsNumeralModel (λ ds. all_ascii_digits ds ≡ true) (number_from 0)
numerals = numerals_by_fold _ (search rules) number_from (search rules)

digit_octet : (octet : ℕ) → is_ascii_digit octet ≡ true → is_word_octet octet ≡ true
digit_octet octet h = grind (arith, nat_tests)

pub digit_octets : (digits : List ℕ) → all_ascii_digits digits ≡ true → list_all is_word_octet digits ≡ true
digit_octets [] h = refl
digit_octets (x ∷ digits) h = cc (digit_octet x (and_left (is_ascii_digit x) (all_ascii_digits digits) h), digit_octets digits (and_right (is_ascii_digit x) (all_ascii_digits digits) h))

pub decimal_octets : (n : ℕ) → n < 2 ^ 32 → list_all is_word_octet (decimal n) ≡ true
decimal_octets n h = digit_octets (decimal n) (digits_decimal numerals n (omega arith))

decimal_short : (n : ℕ) → n < 2 ^ 32 → length (decimal n) ≤ 10
decimal_short n h = length-decimal-le 10 n (lit< tt) (omega arith) (omega arith)

realm_short : (name : List ℕ) → is_realm name ≡ true → (0 < length name) × (length name ≤ 16)
realm_short name h =
    let both = and_left (nat_lt 0 (length name) && nat_le (length name) 16) (list_all is_letter name) h in
    (grind (arith, nat_tests), grind (arith, nat_tests))

pub word_from : (word : List ℕ) → 0 < length word → length word ≤ 1024 → list_all is_word_octet word ≡ true → is_word word ≡ true
word_from word some short octets =
    let is_some : nat_lt 0 (length word) ≡ true = grind (arith, nat_tests) in
    let is_short : nat_le (length word) 1024 ≡ true = grind (arith, nat_tests) in
    cc (is_some, is_short, octets)

-- an identifier that a realm gives is a word
pub id_is_word : (realm : List ℕ) (epoch connection number : ℕ) → is_realm realm ≡ true → epoch < 2 ^ 32 → connection < 2 ^ 32 → number < 2 ^ 32 → is_word (id_of realm epoch connection number) ≡ true
id_is_word realm epoch connection number r e c n =
    let name = realm_short realm r in
    let name_octets = all_octets realm (realm_is_word realm r) in
    word_from (id_of realm epoch connection number)
    (simp length-append (omega (arith, name.0)))
    (simp length-append (omega (arith, name.1, decimal_short epoch e, decimal_short connection c, decimal_short number n)))
    (simp (list_all-append, name_octets, decimal_octets epoch e, decimal_octets connection c, decimal_octets number n))

pub number_from-push : (n : ℕ) (digits : List ℕ) (digit : ℕ) → number_from n (digits ++ digit ∷ []) ≡ 10 * number_from n digits + (digit - 48)
number_from-push n [] digit = refl
number_from-push n (d ∷ digits) digit = number_from-push (10 * n + (d - 48)) digits digit

-- so few digits say less than the power of ten
pub small_power : (n count : ℕ) → n < 10 ^ count → count < 9 → 10 * n + 9 < 10 ^ 9
small_power n count h few =
    let at_most : 10 ^ count ≤ 10 ^ 8 = pow-le-pow_right {n = 10} (lit< tt) {i = count} {j = 8} (omega arith) in
    omega arith

pub next_power : (n count digit : ℕ) → n < 10 ^ count → digit ≤ 9 → 10 * n + digit < 10 ^ (count + 1)
next_power n count digit h d = rw (add-one, pow-suc) (omega arith)

digit_is : (octet : ℕ) → is_ascii_digit octet ≡ true → octet - 48 ≤ 9
digit_is octet h = grind (arith, nat_tests)

-- what reading one more digit keeps
pub record HasRead (word : List ℕ) (count version : ℕ) : Type 0 where
  pub digits : list_all is_ascii_digit (take count word) ≡ true
  pub said : version ≡ number_from 0 (take count word)
  pub small : version < 10 ^ count

pub read_more : (word : List ℕ) (count version : ℕ) → HasRead word count version → count < length word → is_ascii_digit (get_or word count 0) ≡ true → HasRead word (count + 1) (10 * version + (get_or word count 0 - 48))
read_more word count version read more digit = record {
  digits = list_all_more is_ascii_digit word count 0 more ∙ cc (read.digits, digit);
  said = ap (λ v. 10 * v + (get_or word count 0 - 48)) read.said ∙ sym (number_from-push 0 (take count word) (get_or word count 0)) ∙ ap (number_from 0) (sym (take_more word count 0 more));
  small = next_power version count (get_or word count 0 - 48) read.small (digit_is (get_or word count 0) digit);
}

is_none : (text : List ℕ) (spelled fits : Bool) → bytes_eq (decimal (number_from 0 text)) text ≡ spelled → nat_lt (number_from 0 text) (2 ^ 32) ≡ fits → ((n : ℕ) → n < 2 ^ 32 → text ≡ decimal n → None ≡ Some n) → None ≡ number_in text
is_none text false fits s f only = rw s refl
is_none text true false s f only = rw (s, f) refl
is_none text true true s f only =
    let below : number_from 0 text < 2 ^ 32 = grind (arith, nat_tests) in
    absurd (none-some _ (only (number_from 0 text) below (sym ((bytes_eq-Decides (decimal (number_from 0 text)) text).0 s))))

-- what says a number in decimal, and is read as that number wherever it does, is read as `number_in` says
pub is_number_in : (r : Option ℕ) (text : List ℕ) → IfSome r (λ n. (text ≡ decimal n) × (n < 2 ^ 32)) → ((n : ℕ) → n < 2 ^ 32 → text ≡ decimal n → r ≡ Some n) → r ≡ number_in text
is_number_in None text said only = is_none text (bytes_eq (decimal (number_from 0 text)) text) (nat_lt (number_from 0 text) (2 ^ 32)) refl refl only
is_number_in (Some n) text said only =
    let value : number_from 0 text ≡ n = ap (number_from 0) said.0 ∙ digits_value-decimal numerals n (let h = said.1 in omega arith) in
    let spelled : bytes_eq (decimal n) text ≡ true = (bytes_eq-Decides (decimal n) text).1 (sym said.0) in
    let fits : nat_lt n (2 ^ 32) ≡ true = let h = said.1 in grind (arith, nat_tests) in
    rw (value, spelled, fits) refl
