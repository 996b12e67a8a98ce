-- Two keys that fit have identifiers of their own.
use Rattle.std.proofs.Common.{◌≡◌, ◌<◌, true, ℕ, ◌^◌, List, [], ◌∷◌, ◌++◌, refl, ap, sym, arith, ◌∙◌}
use Rattle.std.specs.Prelude.{◌&&◌, nat_le}
use Rattle.std.specs.Fmt.{decimal}
use Rattle.std.proofs.lemmas.Bool.{and_parts}
use Rattle.std.proofs.lemmas.Bool.Decides.{nat_tests}
use Rattle.std.proofs.lemmas.List.{append_assoc}
use Rattle.tip_line.specs.Ids.{dash, id_of}
use Rattle.tip_rows.specs.Keys.{Key}
use Rattle.tip_rows.specs.Logs.{last_epoch}
use Rattle.tip_machine.specs.Answers.{identifier}
use Rattle.tip_machine.specs.Invariants.Bounds.{is_spelled}
use Rattle.tip_machine.proofs.Naming.{told_apart}

same_behind : (front this that : List ℕ) → front ++ this ≡ front ++ that → this ≡ that
same_behind [] this that same = same
same_behind (x ∷ front) this that same = same_behind front this that (let e : x ∷ (front ++ this) ≡ x ∷ (front ++ that) = same in cc)

spelled_as : (realm : List ℕ) (epoch connection number : ℕ) → id_of realm epoch connection number ≡ realm ++ dash ∷ (decimal epoch ++ dash ∷ (decimal connection ++ dash ∷ decimal number))
spelled_as realm epoch connection number = simp append_assoc

fits_word : (n : ℕ) → nat_le n last_epoch ≡ true → n < 2 ^ 32
fits_word n le = grind (arith, nat_tests, le)

-- two keys that fit have identifiers of their own
pub keys_told : (realm : List ℕ) (this that : Key) → is_spelled this ≡ true → is_spelled that ≡ true → identifier realm this ≡ identifier realm that → this ≡ that
keys_told realm this that first second same =
    let a = and_parts (nat_le this.epoch last_epoch && nat_le this.connection last_epoch) (nat_le this.number last_epoch) first in
    let b = and_parts (nat_le this.epoch last_epoch) (nat_le this.connection last_epoch) a.0 in
    let c = and_parts (nat_le that.epoch last_epoch && nat_le that.connection last_epoch) (nat_le that.number last_epoch) second in
    let d = and_parts (nat_le that.epoch last_epoch) (nat_le that.connection last_epoch) c.0 in
    let letter : List ℕ = 97 ∷ [] in
    let behind = same_behind realm _ _ (sym (spelled_as realm this.epoch this.connection this.number) ∙ same ∙ spelled_as realm that.epoch that.connection that.number) in
    let as_that = spelled_as letter this.epoch this.connection this.number ∙ ap (λ rest. letter ++ rest) behind ∙ sym (spelled_as letter that.epoch that.connection that.number) in
    let told = told_apart (id_of letter this.epoch this.connection this.number) letter letter this.epoch this.connection this.number that.epoch that.connection that.number
    (record { realm_is = refl; epoch_fits = fits_word this.epoch b.0; connection_fits = fits_word this.connection b.1; number_fits = fits_word this.number a.1; spelled = refl })
    (record { realm_is = refl; epoch_fits = fits_word that.epoch d.0; connection_fits = fits_word that.connection d.1; number_fits = fits_word that.number c.1; spelled = as_that }) in
    λ i. record { epoch = told.1 i; connection = told.2 i; number = told.3 i }
