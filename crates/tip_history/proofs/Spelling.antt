-- A line of a script that is understood names a realm as realms are spelled.
use Rattle.std.proofs.Common.{◌≡◌, ℕ, Bool, true, false, cond, List, [], ◌∷◌, Option, Some, None, refl, ap, sym, ◌∙◌}
use Rattle.std.specs.Prelude.{codes}
use Rattle.std.specs.Str.{bytes_eq}
use Rattle.std.proofs.lemmas.Option.{none-some, same_Some}
use Rattle.tip_line.specs.Fields.{fields_of}
use Rattle.tip_line.specs.Ids.{number_in}
use Rattle.tip_line.specs.Words.{has_octets, is_realm}
use Rattle.tip_script.specs.Scripts.{Asking, Move, ◌>>=◌, asking, declaration, dialling, hex_octets, is_hex, kinds_in, labelling, loss, move_in, move_of, opening, order_in, purpose_in, realm_alone, realm_in, request_in, rest_of, restarting, resumption, sizes_in, text_line}
use Rattle.tip_history.specs.Alone.{is_spelled}

-- what is understood is so
abbrev Is : {T : Type 0} → (T → Bool) → Option T → Type 0
Is test found = (x : _) → found ≡ Some x → test x ≡ true

is_none : {T : Type 0} (test : T → Bool) → Is test None
is_none test x is = absurd (none-some x is)

is_some : {T : Type 0} (test : T → Bool) (x : T) → test x ≡ true → Is test (Some x)
is_some test x so y is = ap test (sym (same_Some x y is)) ∙ so

either : {T : Type 0} (test : T → Bool) (which : Bool) (one other : Option T) → Is test one → Is test other → Is test (cond which one other)
either test true one other so too = so
either test false one other so too = too

then_ : {T U : Type 0} (test : U → Bool) (found : Option T) (f : T → Option U) → ((x : T) → found ≡ Some x → Is test (f x)) → Is test (found >>= f)
then_ test None f so = is_none test
then_ test (Some x) f so = so x refl

realm_is : (field : List ℕ) → Is is_realm (realm_in field)
realm_is field = at (is_realm field) refl where
  at : (b : Bool) → is_realm field ≡ b → Is is_realm (cond b (Some field) None)
  at true is = is_some is_realm field is
  at false is = is_none is_realm

declaration_is : (fields : List (List ℕ)) → Is is_spelled (declaration fields)
unfolding declaration
declaration_is [] = is_none is_spelled
declaration_is (name ∷ []) = is_none is_spelled
declaration_is (name ∷ address ∷ numbers) = then_ is_spelled (realm_in name) _ (λ realm is. then_ is_spelled (sizes_in numbers) _ (λ sizes there. is_some is_spelled _ (realm_is name realm is)))

labelling_is : (fields : List (List ℕ)) → Is is_spelled (labelling fields)
unfolding labelling
labelling_is [] = is_none is_spelled
labelling_is (realm ∷ []) = is_none is_spelled
labelling_is (realm ∷ label ∷ labels) = then_ is_spelled (realm_in realm) _ (λ name is. is_some is_spelled _ (realm_is realm name is))

opening_is : (fields : List (List ℕ)) → Is is_spelled (opening fields)
unfolding opening
opening_is [] = is_none is_spelled
opening_is (realm ∷ boxes) = then_ is_spelled (realm_in realm) _ (λ name is. then_ is_spelled (kinds_in (rest_of boxes)) _ (λ kinds there. is_some is_spelled _ (realm_is realm name is)))

text_is : (fields : List (List ℕ)) → Is is_spelled (text_line fields)
unfolding text_line
text_is [] = is_none is_spelled
text_is (realm ∷ []) = is_none is_spelled
text_is (realm ∷ connection ∷ text) = then_ is_spelled (realm_in realm) _ (λ name is. then_ is_spelled (number_in connection) _ (λ number there. either is_spelled (has_octets (rest_of text)) _ None (is_some is_spelled _ (realm_is realm name is)) (is_none is_spelled)))

hex_is : (fields : List (List ℕ)) → Is is_spelled (hex_octets fields)
unfolding hex_octets
hex_is [] = is_none is_spelled
hex_is (realm ∷ []) = is_none is_spelled
hex_is (realm ∷ connection ∷ digits) = then_ is_spelled (realm_in realm) _ (λ name is. then_ is_spelled (number_in connection) _ (λ number there. either is_spelled (is_hex (rest_of digits)) _ None (is_some is_spelled _ (realm_is realm name is)) (is_none is_spelled)))

loss_is : (fields : List (List ℕ)) → Is is_spelled (loss fields)
unfolding loss
loss_is [] = is_none is_spelled
loss_is (realm ∷ []) = is_none is_spelled
loss_is (realm ∷ connection ∷ []) = then_ is_spelled (realm_in realm) _ (λ name is. then_ is_spelled (number_in connection) _ (λ number there. is_some is_spelled _ (realm_is realm name is)))
loss_is (realm ∷ connection ∷ other ∷ more) = is_none is_spelled

dialling_is : (fields : List (List ℕ)) → Is is_spelled (dialling fields)
unfolding dialling
dialling_is [] = is_none is_spelled
dialling_is (realm ∷ []) = is_none is_spelled
dialling_is (realm ∷ address ∷ []) = is_none is_spelled
dialling_is (realm ∷ address ∷ boxes ∷ words) = then_ is_spelled (realm_in realm) _ (λ name is. then_ is_spelled (kinds_in boxes) _ (λ kinds there. then_ is_spelled (purpose_in words) _ (λ purpose there. is_some is_spelled _ (realm_is realm name is))))

asking_is : (fields : List (List ℕ)) → Is (λ (asked : Asking). is_realm asked.realm) (asking fields)
unfolding asking
asking_is [] = is_none _
asking_is (realm ∷ []) = is_none _
asking_is (realm ∷ connection ∷ []) = is_none _
asking_is (realm ∷ connection ∷ id ∷ []) = then_ _ (realm_in realm) _ (λ name is. then_ _ (number_in connection) _ (λ number there. is_some (λ (asked : Asking). is_realm asked.realm) _ (realm_is realm name is)))
asking_is (realm ∷ connection ∷ id ∷ other ∷ more) = is_none _

request_is : (word : List ℕ) (fields : List (List ℕ)) → Is is_spelled (request_in word fields)
unfolding request_in
request_is word fields =
    either is_spelled (bytes_eq word (codes "dial")) _ _ (dialling_is fields)
    (either is_spelled (bytes_eq word (codes "push")) _ _ (then_ is_spelled (asking fields) _ (λ asked is. is_some is_spelled _ (asking_is fields asked is)))
    (either is_spelled (bytes_eq word (codes "pull")) _ _ (then_ is_spelled (asking fields) _ (λ asked is. is_some is_spelled _ (asking_is fields asked is))) (is_none is_spelled)))

alone_is : (fields : List (List ℕ)) → Is is_realm (realm_alone fields)
unfolding realm_alone
alone_is [] = is_none is_realm
alone_is (realm ∷ []) = realm_is realm
alone_is (realm ∷ other ∷ more) = is_none is_realm

resumption_is : (fields : List (List ℕ)) → Is is_spelled (resumption fields)
unfolding resumption
resumption_is [] = is_none is_spelled
resumption_is (realm ∷ []) = is_none is_spelled
resumption_is (realm ∷ id ∷ []) = then_ is_spelled (realm_in realm) _ (λ name is. is_some is_spelled _ (realm_is realm name is))
resumption_is (realm ∷ id ∷ other ∷ more) = is_none is_spelled

restarting_is : (fields : List (List ℕ)) → Is is_spelled (restarting fields)
unfolding restarting
restarting_is [] = is_some is_spelled Move.Restart refl
restarting_is (field ∷ fields) = is_none is_spelled

order_is : (word : List ℕ) (fields : List (List ℕ)) → Is is_spelled (order_in word fields)
unfolding order_in
order_is word fields =
    either is_spelled (bytes_eq word (codes "go")) _ _ (then_ is_spelled (realm_alone fields) _ (λ realm is. is_some is_spelled _ (alone_is fields realm is)))
    (either is_spelled (bytes_eq word (codes "drop")) _ _ (then_ is_spelled (realm_alone fields) _ (λ realm is. is_some is_spelled _ (alone_is fields realm is)))
    (either is_spelled (bytes_eq word (codes "refuse")) _ _ (then_ is_spelled (realm_alone fields) _ (λ realm is. is_some is_spelled _ (alone_is fields realm is)))
    (either is_spelled (bytes_eq word (codes "renew")) _ _ (then_ is_spelled (realm_alone fields) _ (λ realm is. is_some is_spelled _ (alone_is fields realm is)))
    (either is_spelled (bytes_eq word (codes "resume")) _ _ (resumption_is fields)
    (either is_spelled (bytes_eq word (codes "restart")) _ _ (restarting_is fields)
    (either is_spelled (bytes_eq word (codes "labels")) _ _ (labelling_is fields) (request_is word fields)))))))

moves_are : (fields : List (List ℕ)) → Is is_spelled (move_in fields)
unfolding move_in
moves_are [] = is_none is_spelled
moves_are (word ∷ fields) =
    either is_spelled (bytes_eq word (codes "realm")) _ _ (declaration_is fields)
    (either is_spelled (bytes_eq word (codes "open")) _ _ (opening_is fields)
    (either is_spelled (bytes_eq word (codes "line")) _ _ (text_is fields)
    (either is_spelled (bytes_eq word (codes "raw")) _ _ (hex_is fields)
    (either is_spelled (bytes_eq word (codes "lost")) _ _ (loss_is fields) (order_is word fields)))))

pub spelled_move : (line : List ℕ) (move : Move) → move_of line ≡ Some move → is_spelled move ≡ true
spelled_move line move is = moves_are (fields_of 32 line) move is
