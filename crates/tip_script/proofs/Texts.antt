-- The fields that are names and numbers are text.
use Rattle.std.proofs.Common.{◌≡◌, ◌^◌, ◌<◌, ℕ, suc, zero, lit<, List, [], ◌∷◌, Bool, true, false, ◌&&◌, nat_lt, nat_le, length, None, refl, subst, arith}
use Rattle.std.specs.Fmt.{decimal}
use Rattle.std.specs.List.{list_all}
use Rattle.std.specs.Str.{IsUtf8, IsAscii, bytes_eq}
use Rattle.std.proofs.lemmas.Bool.Decides.{nat_tests}
use Rattle.std.proofs.lemmas.Fmt.{IsAscii-decimal}
use Rattle.std.proofs.lemmas.Slice.Eq.{bytes_eq-Decides}
use Rattle.std.proofs.lemmas.Str.{IsUtf8-from_ascii}
use Rattle.tip_line.proofs.StopLemmas.{and_left, and_right}
use Rattle.tip_line.specs.Ids.{number_in}
use Rattle.tip_line.specs.Version.{number_from}
use Rattle.tip_line.specs.Words.{is_realm, is_letter}
use Rattle.tip_script.specs.Scripts.{realm_in}

no_number_at : (word : List ℕ) (spelled fits : Bool) → bytes_eq (decimal (number_from 0 word)) word ≡ spelled → nat_lt (number_from 0 word) (2 ^ 32) ≡ fits → ¬ IsUtf8 word → number_in word ≡ None
no_number_at word false fits s f h = rw s refl
no_number_at word true false s f h = rw (s, f) refl
no_number_at word true true s f h =
    let small : number_from 0 word < 2 ^ 32 = grind (arith, nat_tests) in
    let text = IsUtf8-from_ascii (decimal (number_from 0 word)) (IsAscii-decimal (number_from 0 word) (omega arith)) in
    absurd (h (subst IsUtf8 ((bytes_eq-Decides (decimal (number_from 0 word)) word).0 s) text))

-- a number is text
pub no_number : (word : List ℕ) → ¬ IsUtf8 word → number_in word ≡ None
no_number word h = no_number_at word (bytes_eq (decimal (number_from 0 word)) word) (nat_lt (number_from 0 word) (2 ^ 32)) refl refl h

letters_ascii : (name : List ℕ) → list_all is_letter name ≡ true → IsAscii name
letters_ascii [] h i = lit< tt
letters_ascii (x ∷ name) h zero = let letter = and_left (is_letter x) (list_all is_letter name) h in grind (arith, nat_tests)
letters_ascii (x ∷ name) h (suc i) = letters_ascii name (and_right (is_letter x) (list_all is_letter name) h) i

no_realm_at : (word : List ℕ) (is : Bool) → is_realm word ≡ is → ¬ IsUtf8 word → realm_in word ≡ None
no_realm_at word false r h = rw r refl
no_realm_at word true r h = absurd (h (IsUtf8-from_ascii word (letters_ascii word (and_right (nat_lt 0 (length word) && nat_le (length word) 16) (list_all is_letter word) r))))

-- the name of a realm is text
pub no_realm : (word : List ℕ) → ¬ IsUtf8 word → realm_in word ≡ None
no_realm word h = no_realm_at word (is_realm word) refl h
