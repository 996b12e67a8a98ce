-- Realms that take up their rows, one after another.
use Rattle.std.proofs.Common.{◌≡◌, ℕ, zero, suc, ◌+◌, ◌<◌, ◌≤◌, Bool, true, List, [], ◌∷◌, ◌++◌, Option, None, Some, length, map, get_or, refl, ap, arith, sym, subst, ◌∙◌, inl, inr}
use Rattle.std.specs.Prelude.{IfErr, OnErr, OnOk, Ok, Err, Result, slice_get, slice_set}
use Rattle.std.specs.Global.{Vec}
use Rattle.std.specs.Option.{option_map_or}
use Rattle.std.proofs.lemmas.Bool.{and_parts, cases_lt}
use Rattle.std.proofs.lemmas.Option.{none-some, same_Some, slice_get-get_or, slice_get_past}
use Rattle.std.proofs.lemmas.Result.{IfErr-weaker, on_ok_weaker}
use Rattle.tip_branch.specs.declared.branch.Badge.{Badge}
use Rattle.tip_machine.specs.Heads.{starting}
use Rattle.tip_machine.specs.Recovery.{restarted}
use Rattle.tip_machine.specs.declared.head.Head.{Head}
use Rattle.tip_machine.specs.States.{State, started}
use Rattle.tip_recovery.specs.Adopting.{Recovery, adopted_all, adopted_for, adopting, are_adopted, are_for_all, is_named, loaded, refusal_of}
use Rattle.tip_recovery.specs.declared.unfinished.AdoptFault.{AdoptFault}
use Rattle.tip_recovery.specs.declared.unfinished.AdoptFault.TheVariants.{NotInDoubt}
use Rattle.tip_table.specs.Lists.{changed}
use Rattle.tip_core.specs.Hosted.{Hosted, free_in, realm}
use Rattle.tip_core.specs.Recovering.{IsOf, taking_up}
use Rattle.tip_stored.specs.Recovering.{AreAnew, HasBegun, HaveBegun, HaveRoom, adopted_at, all_adopted, recovered, refusal_at}

-- what stands behind the front of a list
pub get-behind : {T : Type 0} (xs ys : List T) (x : T) → slice_get (xs ++ x ∷ ys) (length xs) ≡ Some x
get-behind [] ys x = refl
get-behind (y ∷ xs) ys x = get-behind xs ys x

-- each realm of a list that is adopted
pub adopted_behind : (xs ys : List Recovery) (recovery : Recovery) → all_adopted (xs ++ recovery ∷ ys) ≡ true → are_adopted recovery.rows ≡ true
adopted_behind [] ys recovery all = (and_parts (are_adopted recovery.rows) _ all).0
adopted_behind (x ∷ xs) ys recovery all = adopted_behind xs ys recovery (and_parts (are_adopted x.rows) _ all).1

-- One realm more

module _ (core now : Hosted) (recovery : Recovery) (place : ℕ) (realms : List Recovery) (begun : HaveBegun core realms) (here : slice_get realms place ≡ Some recovery) (same : realm now place ≡ realm core place) where
  has_begun : HasBegun (realm core place) (Some recovery)
  has_begun = subst (HasBegun (realm core place)) here (begun.each place)

  -- it is taken up as recovery says
  pub takes_up : (after : Hosted) → ((state : State) → realm now place ≡ Some state → IsOf recovery state.head → realm after place ≡ Some (taking_up recovery.rows state)) → realm after place ≡ recovered (slice_get realms place) (realm core place)
  takes_up after own =
      let is = has_begun in
      own (started (starting is.0)) (same ∙ is.1) is.2 ∙ sym (ap (λ found. recovered found (realm core place)) here ∙ ap (recovered (Some recovery)) is.1)

-- where all were taken, each is as recovery says
pub all_taken : (core now : Hosted) (realms : List Recovery) → HaveBegun core realms → ((at : ℕ) → at < length realms → realm now at ≡ recovered (slice_get realms at) (realm core at)) → ((at : ℕ) → length realms ≤ at → realm now at ≡ realm core at) → (place : ℕ) → realm now place ≡ recovered (slice_get realms place) (realm core place)
all_taken core now realms begun done to_come place = elim (cases_lt place (length realms)) [
  | inl less ↦ done place less
  | inr more ↦
      let none : slice_get realms place ≡ None = slice_get_past realms place more in
      let nobody : realm core place ≡ None = subst (HasBegun (realm core place)) none (begun.each place) in
      to_come place more ∙ nobody ∙ sym (ap (λ found. recovered found (realm core place)) none)
]

-- a realm that was taken up is in the epoch of its rows, and has counted no connection and no entry yet
anew_at : (found : Option Recovery) (there : Option State) (state : State) → HasBegun there found → recovered found there ≡ Some state → (recovery : Recovery) × (found ≡ Some recovery) × (state.head.epoch ≡ recovery.epoch) × (state.head.given ≡ 0) × (state.head.entries ≡ 0)
anew_at None there state begun is = absurd (none-some state is)
anew_at (Some recovery) None state begun is = absurd (none-some state is)
anew_at (Some recovery) (Some was) state begun is =
    let taken : restarted was.head (map loaded recovery.rows) ≡ state = same_Some _ _ is in
    let fresh : was ≡ started (starting begun.0) = same_Some _ _ begun.1 in
    let head : state.head ≡ starting begun.0 = ap (λ (s : State). s.head) (sym taken) ∙ ap (λ (s : State). s.head) fresh in
    (recovery, refl, ap (λ (h : Head). h.epoch) head ∙ begun.2.epoch, ap (λ (h : Head). h.given) head, ap (λ (h : Head). h.entries) head)

nobody_at : (found : Option Recovery) (there : Option State) → HasBegun there found → recovered found there ≡ None → found ≡ None
nobody_at None there begun none = refl
nobody_at (Some recovery) there begun none = absurd (none-some _ (sym none ∙ ap (recovered (Some recovery)) begun.1))

pub all_anew : (core now : Hosted) (realms : List Recovery) → HaveBegun core realms → ((place : ℕ) → realm now place ≡ recovered (slice_get realms place) (realm core place)) → AreAnew realms now
all_anew core now realms begun taken = record {
  each = λ place state is. anew_at (slice_get realms place) (realm core place) state (begun.each place) (sym (taken place) ∙ is);
  others = λ place none. nobody_at (slice_get realms place) (realm core place) (begun.each place) (sym (taken place) ∙ none);
}

-- Boxes

-- boxes for a realm at a place
module _ (id : List ℕ) (boxes : List Badge) (realms : List Recovery) (place : ℕ) (recovery : Recovery) (less : place < length realms) (is : recovery ≡ get_or realms place recovery) where
  at_place : slice_get realms place ≡ Some recovery
  at_place = slice_get-get_or realms place recovery less ∙ ap Some (sym is)

  refused_at : refusal_at place id boxes realms ≡ refusal_of id boxes recovery.rows
  refused_at = ap (λ (found : Option Recovery). option_map_or (λ recovery. refusal_of id boxes recovery.rows) found (Some NotInDoubt)) at_place

  set_at : (place : ℕ) (realms : List Recovery) → slice_get realms place ≡ Some recovery → slice_set realms place (adopted_for id boxes recovery) ≡ adopted_at place id boxes realms
  set_at place [] there = refl
  set_at zero (r ∷ realms) there = ap (λ x. adopted_for id boxes x ∷ realms) (sym (same_Some r recovery there))
  set_at (suc place) (r ∷ realms) there = ap (λ rs. r ∷ rs) (set_at place realms there)

  pub given_at : {T E : Type 0} (result : Result T E) (after : Recovery) → OnOk result ((refusal_of id boxes recovery.rows ≡ None) × (after ≡ adopted_for id boxes recovery)) → OnOk result ((refusal_at place id boxes realms ≡ None) × (slice_set realms place after ≡ adopted_at place id boxes realms))
  given_at result after ok = on_ok_weaker result (λ both. (refused_at ∙ both.0, ap (slice_set realms place) both.1 ∙ set_at place realms at_place)) ok

  pub back_at : {T : Type 0} (result : Result T (AdoptFault × List Badge)) → IfErr result (λ fault. (refusal_of id boxes recovery.rows ≡ Some fault.0) × (fault.1 ≡ boxes)) → IfErr result (λ fault. (refusal_at place id boxes realms ≡ Some fault.0) × (fault.1 ≡ boxes))
  back_at result err = IfErr-weaker result _ _ (λ fault both. (refused_at ∙ both.0, both.1)) err

length-changed : {T : Type 0} (test : T → Bool) (change : T → T) (xs : List T) → length (changed test change xs) ≡ length xs
length-changed test change [] = refl
length-changed test change (x ∷ xs) = grind (arith, length-changed test change xs)

room-adopted_at : (core : Hosted) (place : ℕ) (id : List ℕ) (boxes : List Badge) (realms : List Recovery) → HaveRoom core realms → HaveRoom core (adopted_at place id boxes realms)
room-adopted_at core place id boxes realms room at recovery here = let was = fewer place at realms here in subst (λ n. n ≤ free_in at core) (sym was.2) (room at was.0 was.1) where
  fewer : (place at : ℕ) (realms : List Recovery) → slice_get (adopted_at place id boxes realms) at ≡ Some recovery → (old : Recovery) × (slice_get realms at ≡ Some old) × (length recovery.rows ≡ length old.rows)
  fewer place at [] here = absurd (none-some recovery here)
  fewer zero zero (r ∷ realms) here = (r, refl, ap (λ (x : Recovery). length x.rows) (sym (same_Some _ recovery here)) ∙ length-changed (is_named id) (adopting boxes) r.rows)
  fewer zero (suc at) (r ∷ realms) here = (recovery, here, refl)
  fewer (suc place) zero (r ∷ realms) here = (recovery, here, refl)
  fewer (suc place) (suc at) (r ∷ realms) here = fewer place at realms here

begun-adopted_at : (state : Option State) (place at : ℕ) (id : List ℕ) (boxes : List Badge) (realms : List Recovery) → HasBegun state (slice_get realms at) → HasBegun state (slice_get (adopted_at place id boxes realms) at)
begun-adopted_at state place at id boxes [] begun = begun
begun-adopted_at state zero zero id boxes (r ∷ realms) begun = (begun.0, begun.1, record { name = begun.2.name; epoch = begun.2.epoch })
begun-adopted_at state zero (suc at) id boxes (r ∷ realms) begun = begun
begun-adopted_at state (suc place) zero id boxes (r ∷ realms) begun = begun
begun-adopted_at state (suc place) (suc at) id boxes (r ∷ realms) begun = begun-adopted_at state place at id boxes realms begun

-- realms that have just started are still so, whatever was adopted
pub still_begun : {T E : Type 0} (result : Result T E) (core : Hosted) (place : ℕ) (id : List ℕ) (boxes : List Badge) (old new : List Recovery) → HaveBegun core old → OnOk result ((refusal_at place id boxes old ≡ None) × (new ≡ adopted_at place id boxes old)) → OnErr result (new ≡ old) → HaveBegun core new
still_begun (Ok x) core place id boxes old new begun ok err = rw ok.1 (record {
  each = λ at. begun-adopted_at (realm core at) place at id boxes old (begun.each at);
  room = room-adopted_at core place id boxes old begun.room;
  names = begun.names;
})
still_begun (Err e) core place id boxes old new begun ok err = rw err begun

-- the boxes of all rows of a realm, in a vector
abbrev pub with_its : Vec (List Badge) → Recovery → Recovery
with_its lots recovery = record recovery { rows = adopted_all lots.items recovery.rows }

abbrev pub fits_it : Vec (List Badge) → Recovery → Bool
fits_it lots recovery = are_for_all lots.items recovery.rows

-- One realm is in the place of another that is like it

pub record IsLike (new old : Recovery) : Type 0 where
  pub realm : new.realm ≡ old.realm
  pub epoch : new.epoch ≡ old.epoch
  pub count : length new.rows ≡ length old.rows

module _ (new old : Recovery) (like : IsLike new old) where
  room-set : (core : Hosted) (place : ℕ) (realms : List Recovery) → slice_get realms place ≡ Some old → HaveRoom core realms → HaveRoom core (slice_set realms place new)
  room-set core place realms here room at recovery is = let was = fewer place at realms here is in subst (λ n. n ≤ free_in at core) (sym was.2) (room at was.0 was.1) where
    fewer : (place at : ℕ) (realms : List Recovery) → slice_get realms place ≡ Some old → slice_get (slice_set realms place new) at ≡ Some recovery → (it : Recovery) × (slice_get realms at ≡ Some it) × (length recovery.rows ≡ length it.rows)
    fewer place at [] here is = absurd (none-some recovery is)
    fewer zero zero (r ∷ realms) here is = (r, refl, ap (λ (x : Recovery). length x.rows) (sym (same_Some new recovery is)) ∙ like.count ∙ ap (λ (x : Recovery). length x.rows) (sym (same_Some r old here)))
    fewer zero (suc at) (r ∷ realms) here is = (recovery, is, refl)
    fewer (suc place) zero (r ∷ realms) here is = (recovery, is, refl)
    fewer (suc place) (suc at) (r ∷ realms) here is = fewer place at realms here is

  begun-set : (state : Option State) (place at : ℕ) (realms : List Recovery) → slice_get realms place ≡ Some old → HasBegun state (slice_get realms at) → HasBegun state (slice_get (slice_set realms place new) at)
  begun-set state place at [] here begun = begun
  begun-set state zero zero (r ∷ realms) here begun = let was = subst (λ x. HasBegun state (Some x)) (same_Some r old here) begun in (was.0, was.1, record { name = was.2.name ∙ sym like.realm; epoch = was.2.epoch ∙ sym like.epoch })
  begun-set state zero (suc at) (r ∷ realms) here begun = begun
  begun-set state (suc place) zero (r ∷ realms) here begun = begun
  begun-set state (suc place) (suc at) (r ∷ realms) here begun = begun-set state place at realms here begun

  pub still_begun_with : (core : Hosted) (place : ℕ) (realms : List Recovery) → place < length realms → old ≡ get_or realms place old → HaveBegun core realms → HaveBegun core (slice_set realms place new)
  still_begun_with core place realms within is begun =
      let here : slice_get realms place ≡ Some old = slice_get-get_or realms place old within ∙ ap Some (sym is) in
      record {
        each = λ at. begun-set (realm core at) place at realms here (begun.each at);
        room = room-set core place realms here begun.room;
        names = begun.names;
      }
