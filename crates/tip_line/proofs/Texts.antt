-- The words of a text, or why there are none.
use Rattle.std.proofs.Common.{◌≡◌, ◌≢◌, ℕ, List, [], ◌∷◌, Some, Result, Ok, Err, Bool, true, false, refl, sym, ap, subst, ◌∙◌, ◌⊎◌, inl, inr, IsErr, IsErrAnd, IsOk, MatchResult}
use Rattle.std.specs.List.{find}
use Rattle.tip_line.specs.Texts.{is_plain, has_short_words, IsClean, IsUnclean, words_in, Fails, Gives}
use Rattle.tip_line.specs.Words.{words_of}
use Rattle.tip_line.specs.declared.fault.ParseFault.{ParseFault}
use Rattle.tip_line.specs.declared.fault.ParseFault.TheVariants.{Octet, TooLong, Unknown, Missing, Number, Memory}

pub ok_same : {A : Type 0} {x y : A} → ◌≡◌ {A = Result A ParseFault} (Ok x) (Ok y) → x ≡ y
ok_same e = cc

pub err_not_ok : {A : Type 0} {x : A} {f : ParseFault} → ◌≡◌ {A = Result A ParseFault} (Err f) (Ok x) → ⊥
err_not_ok e = cc

find_more : {X : Type 0} (p : X → Bool) (y : X) (xs : List X) (x : X) (passes : Bool) → p y ≡ passes → (find p xs ≡ Some x → p x ≡ true) → find p (y ∷ xs) ≡ Some x → p x ≡ true
find_more p y xs x true h more e = let found : Some y ≡ Some x = rw h at e in let same : y ≡ x = cc in ap p (sym same) ∙ h
find_more p y xs x false h more e = more (rw h at e)

-- what is found passes
pub find_passes : {X : Type 0} (p : X → Bool) (xs : List X) (x : X) → find p xs ≡ Some x → p x ≡ true
find_passes p [] x e = absurd (cc)
find_passes p (y ∷ xs) x e = find_more p y xs x (p y) refl (find_passes p xs x) e

-- words are taken from a text that is clean
pub clean_words : (text : List ℕ) → IsClean text → words_in text ≡ Ok (words_of text)
unfolding words_in
clean_words text clean = rw (clean.plain, clean.short)

-- a text with an octet that no line may have, and one with a long word
pub unplain_words : (text : List ℕ) → is_plain text ≡ false → words_in text ≡ Err Octet
unfolding words_in
unplain_words text h = rw h

pub long_words : (text : List ℕ) → is_plain text ≡ true → has_short_words text ≡ false → words_in text ≡ Err TooLong
unfolding words_in
long_words text plain h = rw (plain, h)

-- What is answered is what is read, where what is read is known.
pub gives_ok : {A : Type 0} (result read : Result A ParseFault) (x : A) → Gives result read → read ≡ Ok x → (result ≡ Ok x) ⊎ (result ≡ Err Memory)
gives_ok (Ok y) read x g e = inl (sym g ∙ e)
gives_ok (Err Memory) read x g e = inr refl
gives_ok (Err Octet) read x g e = absurd (err_not_ok (sym g ∙ e))
gives_ok (Err TooLong) read x g e = absurd (err_not_ok (sym g ∙ e))
gives_ok (Err Unknown) read x g e = absurd (err_not_ok (sym g ∙ e))
gives_ok (Err Missing) read x g e = absurd (err_not_ok (sym g ∙ e))
gives_ok (Err Number) read x g e = absurd (err_not_ok (sym g ∙ e))

is_ok_not_err : {A : Type 0} (read : Result A ParseFault) (f : ParseFault) → IsOk read → read ≡ Err f → ⊥
is_ok_not_err (Ok x) f ok e = cc
is_ok_not_err (Err g) f ok e = cc

pub gives_err : {A : Type 0} (result read : Result A ParseFault) (f : ParseFault) → Gives result read → read ≡ Err f → result ≡ Err f
gives_err (Ok y) read f g e = sym g ∙ e
gives_err (Err Memory) read f g e = absurd (is_ok_not_err read f g e)
gives_err (Err Octet) read f g e = sym g ∙ e
gives_err (Err TooLong) read f g e = sym g ∙ e
gives_err (Err Unknown) read f g e = sym g ∙ e
gives_err (Err Missing) read f g e = sym g ∙ e
gives_err (Err Number) read f g e = sym g ∙ e

fails_so : {A : Type 0} (f : ParseFault) (read : Result A ParseFault) → f ≢ Memory → read ≡ Err f → Fails f read
fails_so Memory read counts e = absurd (counts refl)
fails_so Octet read counts e = e
fails_so TooLong read counts e = e
fails_so Unknown read counts e = e
fails_so Missing read counts e = e
fails_so Number read counts e = e

-- a refusal that is handed on
pub gives_refused : {A : Type 0} (result : Result A ParseFault) (f : ParseFault) (read : Result A ParseFault) → IsErr result × IsErrAnd result (λ e. e ≡ f) → f ≢ Memory → read ≡ Err f → Gives result read
gives_refused (Ok x) f read h counts e = absurd (cc)
gives_refused (Err g) f read h counts e = subst (λ v. Fails v read) (sym h.1) (fails_so f read counts e)

pub hands_on : {X : Type 0} (Q : X → Type 0) (P : ParseFault → Type 0) (result : Result X ParseFault) (f : ParseFault) → IsErr result × IsErrAnd result (λ e. e ≡ f) → P f → MatchResult result Q P
hands_on Q P (Ok x) f h p = absurd (cc)
hands_on Q P (Err g) f h p = subst P (sym h.1) p

pub unclean_counts : (text : List ℕ) (f : ParseFault) → IsUnclean text f → f ≢ Memory
unclean_counts text Memory is = absurd is
unclean_counts text Octet is = λ e. absurd (cc)
unclean_counts text TooLong is = λ e. absurd (cc)
unclean_counts text Unknown is = absurd is
unclean_counts text Missing is = absurd is
unclean_counts text Number is = absurd is
