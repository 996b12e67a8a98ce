-- What is kept of rows in a database over their calls.
use Rattle.std.proofs.Common.{◌≡◌, ◌↔◌, Bool, true, false, not, Result, Ok, Err, MatchResult, OnOk, IsTrue, refl, sym, ap, ◌∙◌}
use Rattle.std.specs.Prelude.{is_ok}
use Rattle.std.specs.Bool.{OnTrue}
use Rattle.sqlite.specs.Tree.{Trees}
use Rattle.sqlite.specs.Effect.{Database}
use Rattle.sqlite.specs.State.{State, HasCleanDisk}
use Rattle.sqlite.specs.declared.error.Error.{Error}
use Rattle.tip_rows.specs.Logs.{Log}
use Rattle.tip_sql.specs.Standing.{log_of, IsOurs, MayLeave, Changes}
use Rattle.tip_sql.specs.Sql.{Probes}

pub at_ok : {T E : Type 0} (r : Result T E) (P Q : Type 0) → is_ok r ≡ true → MatchResult r (λ _. P) (λ _. Q) → P
at_ok (Ok x) P Q ok h = h
at_ok (Err e) P Q ok h = absurd (let clash = ok in cc)

pub at_err : {T E : Type 0} (r : Result T E) (P Q : Type 0) → is_ok r ≡ false → MatchResult r (λ _. P) (λ _. Q) → Q
at_err (Ok x) P Q err h = absurd (let clash = err in cc)
at_err (Err e) P Q err h = h

pub was_false : (b : Bool) → not b ≡ false → b ≡ true
was_false true e = refl
was_false false e = absurd (let clash = e in cc)

-- a stop leaves what the connection shows, and nothing else
pub left_alone : (s : State) → IsOurs s → ((db : Trees) → IsTrue s.is_open → s.may_leave db → db ≡ s.committed.trees) → (IsTrue s.is_open → s.may_leave s.committed.trees)
    → (other : Log) → MayLeave s other ↔ (other ≡ log_of s.now.trees)
left_alone s ours settled stays other = (
  λ may. sym may.2 ∙ ap log_of (settled may.0 ours.is_open may.1 ∙ ap (λ (d : Database). d.trees) ours.settled),
  λ is. (s.committed.trees, stays ours.is_open, ap (λ (d : Database). log_of d.trees) ours.settled ∙ sym is),
)

-- a call that failed, after which the connection still answers
pub failed_kept : {T : Type 0} (change : Log → Log) (a b c : State) (r : Result T Error) (alive : Bool) → Changes change a b r → Probes b c alive → is_ok r ≡ false → alive ≡ true → IsOurs a → HasCleanDisk c → IsOurs c
failed_kept change a b c r alive changes probes err is was clean =
    let before = probes.truth clean in
    (probes.same clean is (at_err r _ _ err (changes.made before was) (probes.was_open clean is)).0).0

-- what follows a change follows what is made of its answer
pub as_risen : {A B E F : Type 0} (done : Result A E) (result : Result B F) (x : A) (e : E) (IsRefused : F → Type 0) (P Q : Type 0) → MatchResult result (λ _. done ≡ Ok x) (λ f. IsRefused f × (done ≡ Err e))
    → MatchResult done (λ _. P) (λ _. Q) → MatchResult result (λ _. P) (λ _. Q)
as_risen (Ok y) (Ok b) x e IsRefused P Q risen h = h
as_risen (Err y) (Ok b) x e IsRefused P Q risen h = absurd (let clash = risen in cc)
as_risen (Ok y) (Err f) x e IsRefused P Q risen h = absurd (let clash = risen.1 in cc)
as_risen (Err y) (Err f) x e IsRefused P Q risen h = h

pub on_ok : {A E : Type 0} (r : Result A E) (P : Type 0) → P → OnOk r P
on_ok (Ok x) P p = p
on_ok (Err e) P p = tt

pub on_true : (b : Bool) (P : Type 0) → b ≡ true → OnTrue b P → P
on_true true P is p = p
on_true false P is p = absurd (let clash : false ≡ true = is in cc)

pub on_made : {T E : Type 0} (r : Result T E) (err : Bool) (P : Type 0) → err ≡ false → is_ok r ≡ not err → OnOk r P → P
on_made (Ok x) err P is same p = p
on_made (Err e) err P is same p = absurd (let clash : false ≡ true = same ∙ ap not is in cc)
