-- Each of a list takes what stands at its place in another, one after another.
use Rattle.std.proofs.Common.{◌≡◌, ℕ, zero, suc, ◌+◌, ◌<◌, Bool, true, false, List, [], ◌∷◌, ◌++◌, append_assoc, Some, drop, get_or, length, map, refl, ap, arith, sym, ◌∙◌}
use Rattle.std.specs.Prelude.{◌&&◌, slice_get, slice_set}
use Rattle.std.proofs.lemmas.Bool.{and_parts}
use Rattle.std.proofs.lemmas.List.{append-nil}
use Rattle.std.proofs.lemmas.Option.{same_Some, slice_get-get_or}
use Rattle.tip_branch.specs.declared.branch.Badge.{Badge}
use Rattle.tip_recovery.specs.Adopting.{Unfinished, AreOf, adopted_all, fit, given, stored_of}

length_behind : {T : Type 0} (xs ys : List T) → length (xs ++ ys) ≡ length xs + length ys
length_behind [] ys = grind (arith)
length_behind (x ∷ xs) ys = grind (arith, length_behind xs ys)

-- what is put where it stands
set_same : {T : Type 0} (place : ℕ) (x : T) (xs : List T) → slice_get xs place ≡ Some x → slice_set xs place x ≡ xs
set_same place x [] here = refl
set_same zero x (y ∷ xs) here = ap (λ z. z ∷ xs) (sym (same_Some y x here))
set_same (suc place) x (y ∷ xs) here = ap (λ l. y ∷ l) (set_same place x xs here)

module _ {T B : Type 0} (give : B → T → T) (test : B → T → Bool) where
  pub length-given : (bs : List B) (xs : List T) → length (given give bs xs) ≡ length xs
  length-given [] xs = refl
  length-given (b ∷ bs) [] = refl
  length-given (b ∷ bs) (x ∷ xs) = ap suc (length-given bs xs)

  next : (bs : List B) (xs : List T) → slice_get (given give bs xs) (length bs) ≡ slice_get xs (length bs)
  next [] xs = refl
  next (b ∷ bs) [] = refl
  next (b ∷ bs) (x ∷ xs) = next bs xs

  one_more : (bs : List B) (xs : List T) (b : B) (x : T) → slice_get xs (length bs) ≡ Some x → slice_set (given give bs xs) (length bs) (give b x) ≡ given give (bs ++ b ∷ []) xs
  one_more [] [] b x here = refl
  one_more [] (y ∷ xs) b x here = ap (λ z. give b z ∷ xs) (sym (same_Some y x here))
  one_more (c ∷ bs) [] b x here = refl
  one_more (c ∷ bs) (y ∷ xs) b x here = ap (λ l. give c y ∷ l) (one_more bs xs b x here)

  fits_here : (n : ℕ) (rest : List B) (xs : List T) (b : B) (x : T) → slice_get xs n ≡ Some x → fit test (b ∷ rest) (drop n xs) ≡ (test b x && fit test rest (drop (suc n) xs))
  fits_here zero rest [] b x here = absurd (cc)
  fits_here zero rest (y ∷ xs) b x here = ap (λ z. test b z && fit test rest xs) (same_Some y x here)
  fits_here (suc n) rest [] b x here = absurd (cc)
  fits_here (suc n) rest (y ∷ xs) b x here = fits_here n rest xs b x here

  fits_none : (xs : List T) → fit test [] (drop (length xs) xs) ≡ true
  fits_none [] = refl
  fits_none (x ∷ xs) = fits_none xs

  -- those at the front have taken theirs
  pub record Giving (bs : List B) (old now : List T) (yielded rest : List B) (place : ℕ) : Type 0 where
    pub whole : yielded ++ rest ≡ bs
    pub counted : place ≡ length yielded
    pub now_is : now ≡ given give yielded old
    pub fitting : fit test rest (drop place old) ≡ fit test bs old

  pub starts : (bs : List B) (old : List T) → Giving bs old old [] bs 0
  starts bs old = record { whole = refl; counted = refl; now_is = refl; fitting = refl }

  -- one more takes what comes next
  module _ (bs : List B) (old now : List T) (yielded left rest : List B) (place : ℕ) (b : B) (same : length bs ≡ length old) (giving : Giving bs old now yielded left place) (next_is : left ≡ b ∷ rest) where
    pub within : place < length now
    within =
        let all : length (yielded ++ b ∷ rest) ≡ length old = ap (λ l. length (yielded ++ l)) (sym next_is) ∙ ap length giving.whole ∙ same in
        let now_all : length now ≡ length old = ap length giving.now_is ∙ length-given yielded old in
        let counted = giving.counted in
        omega (arith, length_behind yielded (b ∷ rest))

    module _ (x : T) (is : x ≡ get_or now place x) where
      there : slice_get now place ≡ Some x
      there = slice_get-get_or now place x within ∙ ap Some (sym is)

      here : slice_get old (length yielded) ≡ Some x
      here =
          sym (next yielded old) ∙ ap (λ xs. slice_get xs (length yielded)) (sym giving.now_is) ∙ ap (slice_get now) (sym giving.counted) ∙ there

      pub tested : fit test bs old ≡ (test b x && fit test rest (drop (suc place) old))
      tested = sym giving.fitting ∙ ap (λ l. fit test l (drop place old)) next_is ∙ fits_here place rest old b x (ap (slice_get old) giving.counted ∙ here)

      pub goes_on : test b x ≡ true → Giving bs old (slice_set now place (give b x)) (yielded ++ b ∷ []) rest (place + 1)
      goes_on passes = record {
        whole = append_assoc yielded (b ∷ []) rest ∙ ap (λ l. yielded ++ l) (sym next_is) ∙ giving.whole;
        counted = let counted = giving.counted in omega (arith, length_behind yielded (b ∷ []));
        now_is = ap (λ xs. slice_set xs place (give b x)) giving.now_is ∙ ap (λ n. slice_set (given give yielded old) n (give b x)) giving.counted ∙ one_more yielded old b x here;
        fitting =
            let plus : place + 1 ≡ suc place = omega arith in
            ap (λ n. fit test rest (drop n old)) plus ∙ sym (tested ∙ ap (λ t. t && fit test rest (drop (suc place) old)) passes);
      }

      -- one that takes nothing stays, and so do all
      pub stays : (after : T) → after ≡ x → slice_set now place after ≡ given give yielded old
      stays after same_as = ap (slice_set now place) same_as ∙ set_same place x now there ∙ giving.now_is

      pub fails : test b x ≡ false → fit test bs old ≡ false
      fails not = tested ∙ ap (λ t. t && fit test rest (drop (suc place) old)) not

  pub ends : (bs : List B) (old now : List T) (yielded : List B) (place : ℕ) → length bs ≡ length old → Giving bs old now yielded [] place → (now ≡ given give bs old) × (fit test bs old ≡ true)
  ends bs old now yielded place same giving =
      let all : yielded ≡ bs = sym (append-nil yielded) ∙ giving.whole in
      let last : place ≡ length old = giving.counted ∙ ap length all ∙ same in
      (giving.now_is ∙ ap (λ l. given give l old) all, sym giving.fitting ∙ ap (λ n. fit test [] (drop n old)) last ∙ fits_none old)

-- what is given may be made of each
pub given-map : {T B C : Type 0} (give : B → T → T) (f : C → B) (cs : List C) (xs : List T) → given (λ c. give (f c)) cs xs ≡ given give (map f cs) xs
given-map give f [] xs = refl
given-map give f (c ∷ cs) [] = refl
given-map give f (c ∷ cs) (x ∷ xs) = ap (λ l. give (f c) x ∷ l) (given-map give f cs xs)

pub fit-map : {T B C : Type 0} (test : B → T → Bool) (f : C → B) (cs : List C) (xs : List T) → fit (λ c. test (f c)) cs xs ≡ fit test (map f cs) xs
fit-map test f [] [] = refl
fit-map test f [] (x ∷ xs) = refl
fit-map test f (c ∷ cs) [] = refl
fit-map test f (c ∷ cs) (x ∷ xs) = ap (λ b. test (f c) x && b) (fit-map test f cs xs)

-- where the lengths differ nothing fits
pub unequal : {T B : Type 0} (test : B → T → Bool) (bs : List B) (xs : List T) → (length bs ≡ length xs → ⊥) → fit test bs xs ≡ false
unequal test [] [] differ = absurd (differ refl)
unequal test [] (x ∷ xs) differ = refl
unequal test (b ∷ bs) [] differ = refl
unequal test (b ∷ bs) (x ∷ xs) differ = after (test b x) (unequal test bs xs (λ same. differ (ap suc same))) where
  after : (t : Bool) → fit test bs xs ≡ false → (t && fit test bs xs) ≡ false
  after true rest = rest
  after false rest = refl

-- what fits is as long
pub equal : {T B : Type 0} (test : B → T → Bool) (bs : List B) (xs : List T) → fit test bs xs ≡ true → length bs ≡ length xs
equal test [] [] fits = refl
equal test [] (x ∷ xs) fits = absurd (cc)
equal test (b ∷ bs) [] fits = absurd (cc)
equal test (b ∷ bs) (x ∷ xs) fits = ap suc (equal test bs xs (and_parts (test b x) (fit test bs xs) fits).1)

-- the rows stay a realm's
pub adopted_all_of : (realm : List ℕ) (boxes : List (List Badge)) (rows : List Unfinished) → AreOf realm rows → AreOf realm (adopted_all boxes rows)
adopted_all_of realm [] rows own = own
adopted_all_of realm (b ∷ boxes) [] own = tt
adopted_all_of realm ([] ∷ boxes) (row ∷ rows) own = (own.0, adopted_all_of realm boxes rows own.1)
adopted_all_of realm ((x ∷ b) ∷ boxes) (row ∷ rows) own = (own.0, adopted_all_of realm boxes rows own.1)

-- and they are stored as they were
pub stored-adopted_all : (boxes : List (List Badge)) (rows : List Unfinished) → stored_of (adopted_all boxes rows) ≡ stored_of rows
stored-adopted_all [] rows = refl
stored-adopted_all (b ∷ boxes) [] = refl
stored-adopted_all ([] ∷ boxes) (row ∷ rows) = ap (λ l. (row.key, row.row) ∷ l) (stored-adopted_all boxes rows)
stored-adopted_all ((x ∷ b) ∷ boxes) (row ∷ rows) = ap (λ l. (row.key, row.row) ∷ l) (stored-adopted_all boxes rows)
