-- The identifiers that realms give, taken apart.
use Rattle.std.proofs.Common.{◌≡◌, ◌≢◌, ℕ, suc, zero, drop, add-one, nat_lt, nat_le, MatchOption, IsSomeAnd, Bor, ◌+◌, ◌^◌, ◌<◌, List, [], ◌∷◌, ◌++◌, length, get_or, true, ◌&&◌, not, ◌==◌, Result, Ok, Option, Some, None, refl, sym, ap, ◌∙◌, arith, lit<}
use Rattle.std.specs.Fmt.{decimal}
use Rattle.std.specs.List.{list_all, position_or_len, before_first, after_first}
use Rattle.std.specs.Str.{all_ascii_digits}
use Rattle.std.specs.Str.Parse.{ParsesUnsigned}
use Rattle.std.specs.Char.{is_ascii_digit}
use Rattle.std.proofs.lemmas.Bool.Decides.{nat_tests}
use Rattle.std.proofs.lemmas.Fmt.{digits_decimal, decimal-digits_value, first_decimal, decimal_digit}
use Rattle.std.proofs.lemmas.Result.{OkIff-at_ok}
use Rattle.std.proofs.lemmas.List.{append_assoc, take_at, length-append}
use Rattle.std.proofs.lemmas.Str.Parse.{parse_plain}
use Rattle.tip_line.specs.Ids.{dash, has_no_dash, is_canonical, IsGiven}
use Rattle.tip_line.specs.Version.{number_from}
use Rattle.tip_line.specs.Words.{is_letter}
use Rattle.tip_line.proofs.NumberLemmas.{numerals}
use Rattle.tip_line.proofs.StopLemmas.{and_left, and_right}

not_plus : (bs : List ℕ) → is_canonical bs ≡ true → get_or bs 0 0 ≢ 43
not_plus [] h e = omega arith
not_plus (x ∷ []) h e = grind (arith, nat_tests)
not_plus (x ∷ y ∷ bs) h e = grind (arith, nat_tests)

no_zero : (bs : List ℕ) → is_canonical bs ≡ true → 0 < length bs → get_or bs 0 0 ≡ 48 → length bs ≡ 1
no_zero [] h some e = absurd (omega arith)
no_zero (x ∷ []) h some e = refl
no_zero (x ∷ y ∷ bs) h some e = grind (arith, nat_tests)

-- what is read without a plus and a leading zero is the number in decimal
pub said_number : {E : Type 0} (bs : List ℕ) (r : Result ℕ E) (n : ℕ) → r ≡ Ok n → ParsesUnsigned 32 10 bs r → is_canonical bs ≡ true → (bs ≡ decimal n) × (n < 2 ^ 32)
said_number bs r n e parses h =
    let plain = OkIff-at_ok r _ (number_from 0 bs) n (parse_plain numerals 32 bs r parses (not_plus bs h)) e in
    let value : n ≡ number_from 0 bs = plain.1 in
    let fits : number_from 0 bs < 2 ^ 32 = plain.0.2 in
    let some : 0 < length bs = plain.0.1 in
    let digits = decimal-digits_value numerals bs plain.0.0 some (no_zero bs h some) (omega arith) in
    (sym digits ∙ ap decimal (sym value), omega arith)

canonical_from : (bs : List ℕ) → 48 < get_or bs 0 0 → is_canonical bs ≡ true
canonical_from [] h = refl
canonical_from (x ∷ []) h = grind (arith, nat_tests)
canonical_from (x ∷ y ∷ bs) h = grind (arith, nat_tests)

pub decimal_canonical : (n : ℕ) → n < 2 ^ 32 → is_canonical (decimal n) ≡ true
decimal_canonical zero h = ap is_canonical (decimal_digit 0 (lit< tt))
decimal_canonical (suc n) h = canonical_from (decimal (suc n)) (first_decimal (suc n) (omega arith) (omega arith))

letters_no_dash : (letters : List ℕ) → list_all is_letter letters ≡ true → has_no_dash letters ≡ true
letters_no_dash [] h = refl
letters_no_dash (x ∷ letters) h =
    let more = letters_no_dash letters (and_right (is_letter x) (list_all is_letter letters) h) in
    let letter = and_left (is_letter x) (list_all is_letter letters) h in
    let first : not (x == dash) ≡ true = grind (arith, nat_tests) in
    cc (first, more)

digits_no_dash : (digits : List ℕ) → all_ascii_digits digits ≡ true → has_no_dash digits ≡ true
digits_no_dash [] h = refl
digits_no_dash (x ∷ digits) h =
    let more = digits_no_dash digits (and_right (is_ascii_digit x) (all_ascii_digits digits) h) in
    let digit = and_left (is_ascii_digit x) (all_ascii_digits digits) h in
    let first : not (x == dash) ≡ true = grind (arith, nat_tests) in
    cc (first, more)

dash_at : (front back : List ℕ) → has_no_dash front ≡ true → position_or_len (λ b. b == dash) (front ++ dash ∷ back) ≡ length front
dash_at [] back h = refl
dash_at (x ∷ front) back h =
    let more = dash_at front back (and_right (not (x == dash)) (has_no_dash front) h) in
    rw (and_left (not (x == dash)) (has_no_dash front) h) (omega arith)

behind_dash : (front back : List ℕ) → drop (suc (length front)) (front ++ dash ∷ back) ≡ back
behind_dash [] back = refl
behind_dash (x ∷ front) back = behind_dash front back

-- where the first dash stands, and what stands round it
cut_at : (text front back : List ℕ) → has_no_dash front ≡ true → text ≡ front ++ dash ∷ back → (position_or_len (λ b. b == dash) text ≡ length front) × (before_first (λ b. b == dash) text ≡ front) × (after_first (λ b. b == dash) text ≡ back)
cut_at text front back h e =
    let at : position_or_len (λ b. b == dash) text ≡ length front = ap (position_or_len (λ b. b == dash)) e ∙ dash_at front back h in
    (at, rw (at, e) (take_at front (dash ∷ back) (length front) refl), rw (at, e, add-one) (behind_dash front back))

-- what `split_once` gives at the dash
abbrev SplitsAtDash : Option (Bor (List ℕ) × Bor (List ℕ)) → List ℕ → Type 0
SplitsAtDash r text = MatchOption r (position_or_len (λ b. b == dash) text ≡ length text)
    (λ x. (x.0.now ≡ before_first (λ b. b == dash) text) × (x.1.now ≡ after_first (λ b. b == dash) text) × (position_or_len (λ b. b == dash) text < length text))

pub cut_only : (r : Option (Bor (List ℕ) × Bor (List ℕ))) (text front back : List ℕ) → SplitsAtDash r text → has_no_dash front ≡ true → text ≡ front ++ dash ∷ back → IsSomeAnd r (λ parts. (parts.0.now ≡ front) × (parts.1.now ≡ back))
cut_only None text front back s h e =
    let at = cut_at text front back h e in
    let long : length text ≡ length front + suc (length back) = ap length e ∙ length-append front (dash ∷ back) in
    absurd (omega (arith, s, at.0))
cut_only (Some x) text front back s h e =
    let at = cut_at text front back h e in
    (s.0 ∙ at.1, s.1 ∙ at.2)

-- the parts of an identifier that was given, one dash after another
pub record Taken (text realm : List ℕ) (epoch connection number : ℕ) : Type 0 where
  pub first : text ≡ realm ++ dash ∷ (decimal epoch ++ dash ∷ (decimal connection ++ dash ∷ decimal number))
  pub realm_whole : has_no_dash realm ≡ true
  pub epoch_whole : has_no_dash (decimal epoch) ≡ true
  pub connection_whole : has_no_dash (decimal connection) ≡ true

pub taken_apart : (text realm : List ℕ) (epoch connection number : ℕ) → IsGiven text realm epoch connection number → Taken text realm epoch connection number
taken_apart text realm epoch connection number g =
    let e = g.epoch_fits in
    let c = g.connection_fits in
    record {
      first = g.spelled ∙ simp append_assoc;
      realm_whole = letters_no_dash realm (and_right (nat_lt 0 (length realm) && nat_le (length realm) 16) (list_all is_letter realm) g.realm_is);
      epoch_whole = digits_no_dash (decimal epoch) (digits_decimal numerals epoch (omega arith));
      connection_whole = digits_no_dash (decimal connection) (digits_decimal numerals connection (omega arith));
    }
