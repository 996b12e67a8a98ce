-- No transaction of one superior is known twice, seen key by key.
use Rattle.std.proofs.Common.{◌≡◌, Bool, true, false, List, [], ◌∷◌, ◌++◌, Option, Some, cond, refl, ap, subst, sym}
use Rattle.std.specs.Prelude.{◌&&◌, ◌||◌, filter, find, not}
use Rattle.std.specs.List.{list_all, list_any}
use Rattle.std.proofs.lemmas.Bool.{and_from, and_parts, both_ways, not-true, not_from_false, or_from, or_left, or_parts, or_right}
use Rattle.tip_rows.specs.Keys.{Key, is_same}
use Rattle.tip_rows.proofs.OrderLemmas.{same_key}
use Rattle.tip_machine.specs.Invariants.{are_known_once, came_twice}
use Rattle.tip_machine.specs.Invariants.Links.{are_distinct}
use Rattle.tip_machine.specs.States.{State, Work, transaction_of}
use Rattle.tip_machine.specs.Transactions.{comes_from, has_key, is_undecided}
use Rattle.tip_machine.specs.Types.{Transaction}
use Rattle.tip_machine.specs.declared.event.Change.{Change}
use Rattle.tip_machine.specs.declared.transaction.Origin.{Origin}
use Rattle.tip_machine.specs.declared.transaction.Origin.TheVariants as origin
use Rattle.tip_agreement.proofs.Apart.{kept_apart}
use Rattle.tip_agreement.proofs.Commanded.{Grown}
use Rattle.tip_agreement.proofs.Found.{apart_more}
use Rattle.tip_agreement.proofs.Keys.{key_self, keys_of}
use Rattle.tip_agreement.proofs.Onward.{Onward}
use Rattle.tip_agreement.proofs.Restarts.{came_back}
use Rattle.tip_agreement.proofs.Rows.{each_found, found_behind, other_key}

-- two transactions of different keys that have no outcome are not of one superior's
abbrev pub KnownApart : State → Type 0
KnownApart s = (k l : Key) (t u : Transaction) → is_same k l ≡ false → transaction_of k s ≡ Some t → transaction_of l s ≡ Some u → is_undecided t.phase ≡ true → is_undecided u.phase ≡ true → came_twice t u.origin ≡ false

pub to_known : (s : State) → are_known_once s ≡ true → KnownApart s
to_known s once k l t u differ there here first second = kept_apart (λ x. is_undecided x.phase) (λ x y. came_twice x y.origin) came_back (has_key k) (has_key l) s.transactions t u apart there here first second once where
  apart : (z : Transaction) → has_key k z ≡ true → has_key l z ≡ true → ⊥
  apart z this that = both_ways (is_same k l) differ (subst (λ m. is_same k m ≡ true) (sym (same_key l z.key that)) this)

-- this one and each of the others
differs_all : (u : Transaction) (ts : List Transaction) → list_all (λ (t : Transaction). not (is_undecided t.phase) || not (came_twice u t.origin)) ts ≡ true → list_any (λ (t : Transaction). came_twice u t.origin) (filter (λ (t : Transaction). is_undecided t.phase) ts) ≡ false
differs_all u [] all = refl
differs_all u (t ∷ ts) all = let parts = and_parts (not (is_undecided t.phase) || not (came_twice u t.origin)) _ all in step (is_undecided t.phase) parts.0 (differs_all u ts parts.1) where
  step : (b : Bool) → not b || not (came_twice u t.origin) ≡ true → list_any (λ (t : Transaction). came_twice u t.origin) (filter (λ (t : Transaction). is_undecided t.phase) ts) ≡ false → list_any (λ (t : Transaction). came_twice u t.origin) (cond b (t ∷ filter (λ (t : Transaction). is_undecided t.phase) ts) (filter (λ (t : Transaction). is_undecided t.phase) ts)) ≡ false
  step true first rest = or_from _ _ (not-true _ first) rest
  step false first rest = rest

from_each : (ts : List Transaction) → are_distinct is_same (keys_of ts) ≡ true → ((t u : Transaction) → find (has_key t.key) ts ≡ Some t → find (has_key u.key) ts ≡ Some u → is_same t.key u.key ≡ false → is_undecided t.phase ≡ true → is_undecided u.phase ≡ true → came_twice t u.origin ≡ false) → are_distinct (λ (this that : Transaction). came_twice this that.origin) (filter (λ (t : Transaction). is_undecided t.phase) ts) ≡ true
from_each [] apart each = refl
from_each (u ∷ ts) apart each =
    let parts = and_parts (not (list_any (is_same u.key) (keys_of ts))) (are_distinct is_same (keys_of ts)) apart in
    let none = not-true _ parts.0 in
    step (is_undecided u.phase) refl none (from_each ts parts.1 (λ t v is also. each t v (found_behind u ts none t is) (found_behind u ts none v also))) (λ live. each_found (λ (t : Transaction). not (is_undecided t.phase) || not (came_twice u t.origin)) ts parts.1 (λ t is. beside t live (is_undecided t.phase) refl (each u t (rw (key_self u.key) refl) (found_behind u ts none t is) (other_key u ts none t is) live))) where
      beside : (t : Transaction) → is_undecided u.phase ≡ true → (b : Bool) → is_undecided t.phase ≡ b → (is_undecided t.phase ≡ true → came_twice u t.origin ≡ false) → not (is_undecided t.phase) || not (came_twice u t.origin) ≡ true
      beside t live true is differs = or_right _ _ (not_from_false _ (differs is))
      beside t live false is differs = or_left _ _ (not_from_false _ is)

      step : (b : Bool) → is_undecided u.phase ≡ b → list_any (is_same u.key) (keys_of ts) ≡ false → are_distinct (λ (this that : Transaction). came_twice this that.origin) (filter (λ (t : Transaction). is_undecided t.phase) ts) ≡ true → (is_undecided u.phase ≡ true → list_all (λ (t : Transaction). not (is_undecided t.phase) || not (came_twice u t.origin)) ts ≡ true) → are_distinct (λ (this that : Transaction). came_twice this that.origin) (cond b (u ∷ filter (λ (t : Transaction). is_undecided t.phase) ts) (filter (λ (t : Transaction). is_undecided t.phase) ts)) ≡ true
      step true is none rest all = and_from _ _ (not_from_false _ (differs_all u ts (all is))) rest
      step false is none rest all = rest

pub from_known : (s : State) → are_distinct is_same (keys_of s.transactions) ≡ true → KnownApart s → are_known_once s ≡ true
from_known s apart known = from_each s.transactions apart (λ t u is also differ first second. known t.key u.key t u differ is also first second)

-- it hangs on the origins alone
pub same_twice : (t t' u : Transaction) (o : Origin) → t.origin ≡ t'.origin → u.origin ≡ o → came_twice t' u.origin ≡ false → came_twice t o ≡ false
same_twice t t' u origin.Root from same differ = refl
same_twice t t' u (origin.Subordinate address superior) from same differ = subst (λ x. comes_from address superior x ≡ false) (sym from) (subst (λ x. came_twice t' x ≡ false) same differ)

pub known_onward : (change : Option Change) (key : Key) (w v : Work) → Onward change key w v → are_distinct is_same (keys_of w.state.transactions) ≡ true → are_known_once w.state ≡ true → are_known_once v.state ≡ true
known_onward change key w v onward apart once = from_known v.state (onward.keys apart) (λ k l t u differ there here first second.
    let this = (onward.turns k).known t there first in
    let that = (onward.turns l).known u here second in
    same_twice t this.0 that.0 u.origin (sym this.3) that.3 (to_known w.state once k l this.0 that.0 differ this.1 that.1 this.2 that.2))

-- one more, that is not known
pub known_grown : (w v : Work) → Grown w v → are_known_once w.state ≡ true → are_known_once v.state ≡ true
known_grown w v grown once = subst (λ ts. are_distinct (λ (this that : Transaction). came_twice this that.origin) (filter (λ (t : Transaction). is_undecided t.phase) ts) ≡ true) (sym grown.transactions) (subst (λ ts. are_distinct (λ (this that : Transaction). came_twice this that.origin) ts ≡ true) (sym (last w.state.transactions)) (apart_more (λ (this that : Transaction). came_twice this that.origin) (filter (λ (t : Transaction). is_undecided t.phase) w.state.transactions) grown.new (none w.state.transactions grown.unknown) once)) where
  live : is_undecided grown.new.phase ≡ true
  live = ap is_undecided grown.active

  last : (ts : List Transaction) → filter (λ (t : Transaction). is_undecided t.phase) (ts ++ grown.new ∷ []) ≡ filter (λ (t : Transaction). is_undecided t.phase) ts ++ grown.new ∷ []
  last [] = rw live refl
  last (t ∷ ts) = step (is_undecided t.phase) (last ts) where
    step : (b : Bool) → filter (λ (t : Transaction). is_undecided t.phase) (ts ++ grown.new ∷ []) ≡ filter (λ (t : Transaction). is_undecided t.phase) ts ++ grown.new ∷ [] → cond b (t ∷ filter (λ (t : Transaction). is_undecided t.phase) (ts ++ grown.new ∷ [])) (filter (λ (t : Transaction). is_undecided t.phase) (ts ++ grown.new ∷ [])) ≡ cond b (t ∷ filter (λ (t : Transaction). is_undecided t.phase) ts) (filter (λ (t : Transaction). is_undecided t.phase) ts) ++ grown.new ∷ []
    step true rest = ap (λ us. t ∷ us) rest
    step false rest = rest

  none : (ts : List Transaction) → list_any (λ (t : Transaction). is_undecided t.phase && came_twice t grown.new.origin) ts ≡ false → list_any (λ (t : Transaction). came_twice t grown.new.origin) (filter (λ (t : Transaction). is_undecided t.phase) ts) ≡ false
  none [] all = refl
  none (t ∷ ts) all = let parts = or_parts (is_undecided t.phase && came_twice t grown.new.origin) _ all in step (is_undecided t.phase) parts.0 (none ts parts.1) where
    step : (b : Bool) → b && came_twice t grown.new.origin ≡ false → list_any (λ (t : Transaction). came_twice t grown.new.origin) (filter (λ (t : Transaction). is_undecided t.phase) ts) ≡ false → list_any (λ (t : Transaction). came_twice t grown.new.origin) (cond b (t ∷ filter (λ (t : Transaction). is_undecided t.phase) ts) (filter (λ (t : Transaction). is_undecided t.phase) ts)) ≡ false
    step true first rest = or_from _ _ first rest
    step false first rest = rest
