-- The identifier of a transaction, taken apart.
use Rattle.std.proofs.Common.{◌≡◌, ◌<◌, ◌^◌, Bool, true, false, ℕ, List, None, ap, arith, sym, ◌∙◌}
use Rattle.std.specs.Prelude.{◌==◌, ◌&&◌}
use Rattle.std.specs.Str.{bytes_eq}
use Rattle.std.proofs.lemmas.Bool.{and_parts, false_from_ne_true}
use Rattle.std.proofs.lemmas.Bool.Decides.{nat_tests}
use Rattle.tip_line.specs.Ids.{IsGiven, id_of}
use Rattle.tip_line.specs.Words.{is_realm}
use Rattle.tip_rows.specs.Keys.{Key}
use Rattle.tip_rows.proofs.MemoryLemmas.{bytes_eq-self, same_text}
use Rattle.tip_machine.proofs.Naming.{told_apart}
use Rattle.tip_machine.specs.Answers.{identifier}
use Rattle.tip_outlook.specs.Searches.{IsKeyOf}

module _ (text realm : List ℕ) (key : Key) (name : is_realm realm ≡ true) (epoch : key.epoch < 2 ^ 32) (connection : key.connection < 2 ^ 32) (number : key.number < 2 ^ 32) where
  given_so : bytes_eq text (identifier realm key) ≡ true → IsGiven text realm key.epoch key.connection key.number
  given_so same = record { realm_is = name; epoch_fits = epoch; connection_fits = connection; number_fits = number; spelled = same_text text (identifier realm key) same }

  -- it was given by nobody
  pub given_by_none : ((other : List ℕ) (e c n : ℕ) → IsGiven text other e c n → ⊥) → false ≡ bytes_eq text (identifier realm key)
  given_by_none no_such = sym (false_from_ne_true _ (λ same. no_such realm key.epoch key.connection key.number (given_so same)))

  -- it was given by this realm for this key where its parts are so
  pub given_by_parts : (other : List ℕ) (e c n : ℕ) (made : Bool) → IsGiven text other e c n → made ≡ (bytes_eq other realm && ((e == key.epoch) && ((c == key.connection) && (n == key.number)))) → made ≡ bytes_eq text (identifier realm key)
  given_by_parts other e c n true given is =
      let both = and_parts (bytes_eq other realm) _ (sym is) in
      let rest = and_parts (e == key.epoch) _ both.1 in
      let last = and_parts (c == key.connection) _ rest.1 in
      let e_is : e ≡ key.epoch = let h = rest.0 in grind (arith, nat_tests, h) in
      let c_is : c ≡ key.connection = let h = last.0 in grind (arith, nat_tests, h) in
      let n_is : n ≡ key.number = let h = last.1 in grind (arith, nat_tests, h) in
      let spelled : text ≡ identifier realm key = given.spelled ∙ ap (λ r. id_of r e c n) (same_text other realm both.0) ∙ ap (λ x. id_of realm x c n) e_is ∙ ap (λ x. id_of realm key.epoch x n) c_is ∙ ap (λ x. id_of realm key.epoch key.connection x) n_is in
      sym (ap (λ t. bytes_eq t (identifier realm key)) spelled ∙ bytes_eq-self (identifier realm key))
  given_by_parts other e c n false given is = sym (false_from_ne_true _ (λ same.
      let parts = told_apart text other realm e c n key.epoch key.connection key.number given (given_so same) in
      let all : (bytes_eq other realm && ((e == key.epoch) && ((c == key.connection) && (n == key.number)))) ≡ true =
      ap (λ r. bytes_eq r realm && ((e == key.epoch) && ((c == key.connection) && (n == key.number)))) parts.0 ∙ ap (λ b. b && ((e == key.epoch) && ((c == key.connection) && (n == key.number)))) (bytes_eq-self realm)
      ∙ (let pe = parts.1 in let pc = parts.2 in let pn = parts.3 in grind (arith, nat_tests, pe, pc, pn)) in
      differs (is ∙ all))) where
        differs : false ≡ true → ⊥
        differs same = absurd (cc)

-- the key of an identifier's parts is the one of which it was made, in the realm that gave it
pub made_of_none : (text realm : List ℕ) → is_realm realm ≡ true → ((other : List ℕ) (e c n : ℕ) → IsGiven text other e c n → ⊥) → IsKeyOf realm text None
made_of_none text realm name no_such key is epoch connection number = given_by_none text realm key name epoch connection number no_such

pub ruleset naming = (given_by_none, given_by_parts, made_of_none)
