-- What a store shows of a realm is what was read of it.
use Rattle.std.proofs.Common.{◌≡◌, ◌∙◌, ◌∷◌, ℕ, List, [], Option, Some, None, map, refl, ap, sym, subst}
use Rattle.std.specs.Option.{option_map}
use Rattle.std.proofs.lemmas.Option.{same_Some}
use Rattle.tip_stored.specs.Loading.{IsRead}
use Rattle.tip_machine.specs.States.{State}
use Rattle.tip_recovery.specs.Adopting.{Recovery, stored_of, unadopted}
use Rattle.tip_rows.specs.Keys.{Key}
use Rattle.tip_rows.specs.Logs.{Keeping, IsPart, Log}
use Rattle.tip_rows.specs.declared.row.Row.{Row}
use Rattle.tip_host.specs.Hosts.{IsShown}

stored_unadopted : (name : List ℕ) (rows : List (Key × Row)) → stored_of (map (unadopted name) rows) ≡ rows
stored_unadopted name [] = refl
stored_unadopted name (row ∷ rows) = ap (λ rs. row ∷ rs) (stored_unadopted name rows)

-- one realm
pub shown_so : {S : Type 0} (kept : Keeping S) (old new : S) (s : Option State) (rows : List (Key × Row)) (recovery : Recovery) → option_map (λ (state : State). state.head.epoch) s ≡ Some recovery.epoch → rows ≡ stored_of recovery.rows → ((log : Log) (state : State) → kept.stands old log → s ≡ Some state → kept.is_true new → IsRead log state.head.name recovery) → IsShown kept old new s rows
shown_so kept old new None rows recovery epoch same read = tt
shown_so kept old new (Some state) rows recovery epoch same read = λ log stood true.
    let is = read log state stood refl true in
    let rows_are : is.rows ≡ rows = sym (ap stored_of is.unadopted ∙ stored_unadopted state.head.name is.rows) ∙ sym same in
    subst (λ e. IsPart log state.head.name e rows) (sym (same_Some _ _ epoch)) (subst (IsPart log state.head.name recovery.epoch) rows_are is.part)
