-- Numbers of connections that rise in the order made.
use Rattle.std.proofs.Common.{◌≡◌, ◌<◌, ◌+◌, Bool, true, false, ℕ, List, [], ◌∷◌, ◌++◌, Some, cond, refl, ap, arith, sym, subst, ◌∙◌}
use Rattle.std.specs.Prelude.{◌==◌, nat_lt, find, map}
use Rattle.std.specs.List.{list_all, list_any}
use Rattle.std.proofs.lemmas.Bool.{and_from, and_left, and_parts, or_from}
use Rattle.std.proofs.lemmas.Bool.Decides.{nat_tests}
use Rattle.std.proofs.lemmas.Option.{same_Some, none-some}
use Rattle.tip_rows.specs.Keys.{Key}
use Rattle.tip_table.specs.Lists.{are_rising, changed, without}
use Rattle.tip_machine.specs.Types.{Connection}
use Rattle.tip_machine.specs.Connections.{has_number}
use Rattle.tip_machine.specs.Given.{are_numbered, is_to_make, numbers_of}
use Rattle.tip_machine.specs.States.{State}

-- Numbers that stay

pub numbers-changed : (test : Connection → Bool) (f : Connection → Connection) (cs : List Connection) → ((c : Connection) → (f c).number ≡ c.number) → numbers_of (changed test f cs) ≡ numbers_of cs
numbers-changed test f [] same = refl
numbers-changed test f (c ∷ cs) same = step (test c) (numbers-changed test f cs same) where
  step : (b : Bool) → numbers_of (changed test f cs) ≡ numbers_of cs → numbers_of (cond b (f c ∷ cs) (c ∷ changed test f cs)) ≡ c.number ∷ numbers_of cs
  step true rest = ap (λ n. n ∷ numbers_of cs) (same c)
  step false rest = ap (λ ns. c.number ∷ ns) rest

pub numbers-map : (f : Connection → Connection) (cs : List Connection) → ((c : Connection) → (f c).number ≡ c.number) → numbers_of (map f cs) ≡ numbers_of cs
numbers-map f [] same = refl
numbers-map f (c ∷ cs) same = rw (same c, numbers-map f cs same) refl

numbers-added : (cs : List Connection) (c : Connection) → numbers_of (cs ++ c ∷ []) ≡ numbers_of cs ++ c.number ∷ []
numbers-added [] c = refl
numbers-added (d ∷ cs) c = ap (λ ns. d.number ∷ ns) (numbers-added cs c)

-- One taken out

module _ (last : ℕ) where
  all-without : (least : ℕ) (test : Connection → Bool) (cs : List Connection) → list_all (nat_lt least) (numbers_of cs ++ last ∷ []) ≡ true → list_all (nat_lt least) (numbers_of (without test cs) ++ last ∷ []) ≡ true
  all-without least test [] all = all
  all-without least test (c ∷ cs) all = let parts = and_parts _ _ all in step (test c) parts.0 parts.1 (all-without least test cs parts.1) where
    step : (b : Bool) → nat_lt least c.number ≡ true → list_all (nat_lt least) (numbers_of cs ++ last ∷ []) ≡ true → list_all (nat_lt least) (numbers_of (without test cs) ++ last ∷ []) ≡ true → list_all (nat_lt least) (numbers_of (cond b cs (c ∷ without test cs)) ++ last ∷ []) ≡ true
    step true first rest later = rest
    step false first rest later = and_from _ _ first later

  pub rising-without : (test : Connection → Bool) (cs : List Connection) → are_rising (numbers_of cs ++ last ∷ []) ≡ true → are_rising (numbers_of (without test cs) ++ last ∷ []) ≡ true
  rising-without test [] rising = rising
  rising-without test (c ∷ cs) rising = let parts = and_parts _ _ rising in step (test c) parts.0 parts.1 (rising-without test cs parts.1) where
    step : (b : Bool) → list_all (nat_lt c.number) (numbers_of cs ++ last ∷ []) ≡ true → are_rising (numbers_of cs ++ last ∷ []) ≡ true → are_rising (numbers_of (without test cs) ++ last ∷ []) ≡ true → are_rising (numbers_of (cond b cs (c ∷ without test cs)) ++ last ∷ []) ≡ true
    step true first rest later = rest
    step false first rest later = and_from _ _ (all-without c.number test cs first) later

  -- What was found

  above : (least : ℕ) (numbers : List ℕ) → list_all (nat_lt least) (numbers ++ last ∷ []) ≡ true → least < last
  above least [] all = let less : nat_lt least last ≡ true = (and_parts _ _ all).0 in grind (arith, nat_tests, less)
  above least (n ∷ numbers) all = above least numbers (and_parts _ _ all).1

  pub found-below : (test : Connection → Bool) (cs : List Connection) (c : Connection) → find test cs ≡ Some c → are_rising (numbers_of cs ++ last ∷ []) ≡ true → c.number < last
  found-below test [] c is rising = absurd (none-some c is)
  found-below test (d ∷ cs) c is rising = let parts = and_parts _ _ rising in step (test d) is (above d.number (numbers_of cs) parts.0) (λ later. found-below test cs c later parts.1) where
    step : (b : Bool) → cond b (Some d) (find test cs) ≡ Some c → d.number < last → (find test cs ≡ Some c → c.number < last) → c.number < last
    step true is less later = subst (λ (e : Connection). e.number < last) (same_Some d c is) less
    step false is less later = later is

  -- behind a connection, none has its number
  pub none-behind : (key : Key) (cs : List Connection) → list_all (nat_lt key.connection) (numbers_of cs ++ last ∷ []) ≡ true → list_any (is_to_make key) cs ≡ false
  none-behind key [] all = refl
  none-behind key (c ∷ cs) all =
      let parts = and_parts (nat_lt key.connection c.number) (list_all (nat_lt key.connection) (numbers_of cs ++ last ∷ [])) all in let less : nat_lt key.connection c.number ≡ true = parts.0 in
      or_from (is_to_make key c) (list_any (is_to_make key) cs) (and_left (has_number key.connection c) (nat_lt c.made key.number) (grind (arith, nat_tests, less))) (none-behind key cs parts.1)

-- One added

all-more : (least last next : ℕ) (numbers : List ℕ) → last < next → list_all (nat_lt least) (numbers ++ last ∷ []) ≡ true → list_all (nat_lt least) ((numbers ++ last ∷ []) ++ next ∷ []) ≡ true
all-more least last next [] less all = let first : nat_lt least last ≡ true = (and_parts _ _ all).0 in grind (arith, nat_tests, less, first)
all-more least last next (n ∷ numbers) less all = let parts = and_parts _ _ all in and_from _ _ parts.0 (all-more least last next numbers less parts.1)

rising-more : (last next : ℕ) (numbers : List ℕ) → last < next → are_rising (numbers ++ last ∷ []) ≡ true → are_rising ((numbers ++ last ∷ []) ++ next ∷ []) ≡ true
rising-more last next [] less rising = grind (arith, nat_tests, less)
rising-more last next (n ∷ numbers) less rising = let parts = and_parts _ _ rising in and_from _ _ (all-more n last next numbers less parts.0) (rising-more last next numbers less parts.1)

pub rising-added : (last next : ℕ) (cs : List Connection) (c : Connection) → c.number ≡ last → last < next → are_rising (numbers_of cs ++ last ∷ []) ≡ true → are_rising (numbers_of (cs ++ c ∷ []) ++ next ∷ []) ≡ true
rising-added last next cs c same less rising = rw (numbers-added cs c, same) (rising-more last next (numbers_of cs) less rising)

-- Those of the connections themselves

all-front : (least : ℕ) (numbers more : List ℕ) → list_all (nat_lt least) (numbers ++ more) ≡ true → list_all (nat_lt least) numbers ≡ true
all-front least [] more all = refl
all-front least (n ∷ numbers) more all = let parts = and_parts _ _ all in and_from _ _ parts.0 (all-front least numbers more parts.1)

rising-front : (numbers more : List ℕ) → are_rising (numbers ++ more) ≡ true → are_rising numbers ≡ true
rising-front [] more rising = refl
rising-front (n ∷ numbers) more rising = let parts = and_parts _ _ rising in and_from _ _ (all-front n numbers more parts.0) (rising-front numbers more parts.1)

pub numbers_rise : (state : State) → are_numbered state ≡ true → are_rising (numbers_of state.connections) ≡ true
numbers_rise state numbered = rising-front (numbers_of state.connections) ((state.head.given + 1) ∷ []) numbered

-- One change after another

pub changed_twice : (n : ℕ) (f g : Connection → Connection) (cs : List Connection) → ((c : Connection) → (g c).number ≡ c.number) → changed (has_number n) f (changed (has_number n) g cs) ≡ changed (has_number n) (λ c. f (g c)) cs
changed_twice n f g [] same = refl
changed_twice n f g (c ∷ cs) same = step (has_number n c) refl (changed_twice n f g cs same) where
  step : (b : Bool) → has_number n c ≡ b → changed (has_number n) f (changed (has_number n) g cs) ≡ changed (has_number n) (λ c. f (g c)) cs → changed (has_number n) f (cond b (g c ∷ cs) (c ∷ changed (has_number n) g cs)) ≡ cond b (f (g c) ∷ cs) (c ∷ changed (has_number n) (λ c. f (g c)) cs)
  step true is rest = subst (λ b. cond b (f (g c) ∷ cs) (g c ∷ changed (has_number n) f cs) ≡ f (g c) ∷ cs) (sym (ap (λ m. m == n) (same c) ∙ is)) refl
  step false is rest = rw is (ap (λ ds. c ∷ ds) rest)

-- Numbers tell connections apart

pub own_number : (n : ℕ) → (n == n) ≡ true
own_number n = grind (arith, nat_tests)

numbers_above : (least : ℕ) (test : Connection → Bool) (cs : List Connection) (more : List ℕ) (c : Connection) → find test cs ≡ Some c → list_all (nat_lt least) (numbers_of cs ++ more) ≡ true → nat_lt least c.number ≡ true
numbers_above least test [] more c is all = absurd (none-some c is)
numbers_above least test (d ∷ cs) more c is all = let parts = and_parts (nat_lt least d.number) _ all in step (test d) is parts.0 (λ later. numbers_above least test cs more c later parts.1) where
  step : (b : Bool) → cond b (Some d) (find test cs) ≡ Some c → nat_lt least d.number ≡ true → (find test cs ≡ Some c → nat_lt least c.number ≡ true) → nat_lt least c.number ≡ true
  step true is first later = subst (λ (e : Connection). nat_lt least e.number ≡ true) (same_Some d c is) first
  step false is first later = later is

pub found_numbered : (test : Connection → Bool) (cs : List Connection) (more : List ℕ) (c : Connection) → find test cs ≡ Some c → are_rising (numbers_of cs ++ more) ≡ true → find (has_number c.number) cs ≡ Some c
found_numbered test [] more c is rising = absurd (none-some c is)
found_numbered test (d ∷ cs) more c is rising = let parts = and_parts (list_all (nat_lt d.number) (numbers_of cs ++ more)) _ rising in step (test d) is (λ later. found_numbered test cs more c later parts.1) (λ later. numbers_above d.number test cs more c later parts.0) where
  step : (b : Bool) → cond b (Some d) (find test cs) ≡ Some c → (find test cs ≡ Some c → find (has_number c.number) cs ≡ Some c) → (find test cs ≡ Some c → nat_lt d.number c.number ≡ true) → cond (has_number c.number d) (Some d) (find (has_number c.number) cs) ≡ Some c
  step true is later above = let same = same_Some d c is in subst (λ (e : Connection). cond (has_number e.number d) (Some d) (find (has_number e.number) cs) ≡ Some e) same (rw (own_number d.number) refl)
  step false is later above = let less = above is in let other : has_number c.number d ≡ false = grind (arith, nat_tests, less) in rw other (later is)
