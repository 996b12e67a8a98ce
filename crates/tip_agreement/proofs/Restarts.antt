-- A realm that was sound and starts again is sound: its rows are those of its open transactions.
use Rattle.std.proofs.Common.{◌≡◌, ◌<◌, Bool, true, false, ℕ, ◌+◌, List, [], ◌∷◌, Option, Some, None, cond, refl, ap, arith, sym, ◌∙◌, subst, inl, inr}
use Rattle.std.specs.Prelude.{◌&&◌, ◌==◌, is_some, nat_le, nat_lt, filter}
use Rattle.std.specs.List.{list_all, list_any}
use Rattle.std.specs.Str.{bytes_eq}
use Rattle.std.proofs.lemmas.Bool.{and_from, and_parts, both_ways, not_from_false, or_cases, or_from}
use Rattle.std.proofs.lemmas.Bool.Decides.{nat_tests}
use Rattle.tip_branch.specs.Notes.{PartyNotes}
use Rattle.tip_branch.specs.declared.branch.Badge.{Badge}
use Rattle.tip_rows.specs.Keys.{Key, comes_before, is_same}
use Rattle.tip_rows.specs.Logs.{is_rising, last_epoch, row_at}
use Rattle.tip_rows.specs.declared.row.Row.{Row}
use Rattle.tip_rows.specs.declared.row.Row.TheVariants as row
use Rattle.tip_rows.proofs.MemoryLemmas.{bytes_eq-self, same_text}
use Rattle.tip_txn.specs.declared.answer.Phase.{Phase}
use Rattle.tip_txn.specs.declared.answer.Phase.TheVariants.{Active, Asking, Prepared, Committed, Aborted}
use Rattle.tip_machine.proofs.Storing.{before_apart}
use Rattle.tip_machine.specs.Given.{was_given}
use Rattle.tip_machine.specs.Heads.{are_allowed, is_within}
use Rattle.tip_machine.specs.Honest.{can_start, is_honest}
use Rattle.tip_machine.specs.Invariants.{IsSound, are_known_once, came_twice}
use Rattle.tip_machine.specs.Invariants.Bounds.{are_bounded, is_spelled}
use Rattle.tip_machine.specs.Invariants.Links.{are_distinct}
use Rattle.tip_machine.specs.Invariants.Parties.{are_out, is_due, is_of_this_start, is_sent}
use Rattle.tip_machine.specs.Invariants.Stored.{is_stored_as}
use Rattle.tip_machine.specs.Moves.{Move, World, moved, renewed, restarted_from, risen}
use Rattle.tip_machine.specs.Starting.{IsStart, are_adopted, are_declared, is_starting}
use Rattle.tip_machine.specs.declared.event.Outcome.{Outcome}
use Rattle.tip_machine.specs.declared.event.Outcome.TheVariants.{NoChange, Stored, Refused}
use Rattle.tip_machine.specs.States.{State, transaction_of}
use Rattle.tip_machine.specs.Transactions.{comes_from, has_key, is_undecided}
use Rattle.tip_machine.specs.Types.{Transaction}
use Rattle.tip_machine.specs.declared.head.Head.{Head}
use Rattle.tip_machine.specs.declared.transaction.Origin.{Origin}
use Rattle.tip_machine.specs.declared.transaction.Origin.TheVariants as origin
use Rattle.tip_machine.proofs.Walks.{found_passes}
use Rattle.tip_rows.proofs.OrderLemmas.{same_key}
use Rattle.tip_agreement.specs.Successors.{started_over}
use Rattle.tip_agreement.proofs.Apart.{all_found, all_more, kept_apart}
use Rattle.tip_agreement.proofs.Keys.{key_self}
use Rattle.tip_line.specs.Words.{is_address, is_realm}
use Rattle.tip_agreement.proofs.Starts.{back, backs, has_bounds, skipped, starts_sound}

-- The epoch of a key that was given

pub given_before : (state : State) (key : Key) → was_given state key ≡ true → key.epoch < state.head.epoch + 1
given_before state key given = elim (or_cases (nat_lt key.epoch state.head.epoch) _ given) [
  | inl less ↦ grind (arith, nat_tests, less)
  | inr here ↦ let same : (key.epoch == state.head.epoch) ≡ true = (and_parts _ _ here).0 in grind (arith, nat_tests, same)
]

some_is : {T : Type 0} (found : Option T) → is_some found ≡ true → (x : T) × (found ≡ Some x)
some_is None is = absurd (cc)
some_is (Some x) is = (x, refl)

-- Where a row's transaction comes from

from_there : (address superior : List ℕ) (from : Origin) → comes_from (Some address) superior from ≡ true → from ≡ origin.Subordinate (Some address) superior
from_there address superior origin.Root is = absurd (cc)
from_there address superior (origin.Subordinate None other) is = absurd (cc)
from_there address superior (origin.Subordinate (Some at) other) is =
    let parts = and_parts (bytes_eq at address) (bytes_eq superior other) is in
    let first : at ≡ address = same_text at address parts.0 in
    let second : superior ≡ other = same_text superior other parts.1 in
    λ i. origin.Subordinate (Some (first i)) ((sym second) i)

-- a transaction whose row is in doubt
in_doubt : (address superior : List ℕ) (branches : List (ℕ × List ℕ)) (pairs : List (List ℕ × List ℕ)) (t : Transaction) (phase : Phase) → is_stored_as phase t (Some (row.Prepared address superior branches pairs)) ≡ true → (phase ≡ Prepared) × (t.origin ≡ origin.Subordinate (Some address) superior)
in_doubt address superior branches pairs t Prepared is = (refl, from_there address superior t.origin (and_parts (comes_from (Some address) superior t.origin) _ is).0)
in_doubt address superior branches pairs t Active is = absurd (cc)
in_doubt address superior branches pairs t Asking is = absurd (cc)
in_doubt address superior branches pairs t Committed is = absurd (cc)
in_doubt address superior branches pairs t Aborted is = absurd (cc)

pub came_back : (this that : Transaction) → came_twice this that.origin ≡ true → came_twice that this.origin ≡ true
came_back this that is = step this.origin that.origin is where
  step : (a b : Origin) → came_twice (record this { origin = a }) b ≡ true → came_twice (record that { origin = b }) a ≡ true
  step a origin.Root is = absurd (cc)
  step origin.Root (origin.Subordinate None superior) is = absurd (cc)
  step (origin.Subordinate address other) (origin.Subordinate None superior) is = absurd (cc)
  step a (origin.Subordinate (Some address) superior) is = let same = from_there address superior a is in rw same (and_from _ _ (bytes_eq-self address) (bytes_eq-self superior))

-- Rows by their keys

AreAt : List (Key × Row) → List (Key × Row) → Type 0
AreAt rows [] = Unit {0}
AreAt rows (e ∷ some) = (row_at e.0 rows ≡ Some e.1) × AreAt rows some

at_behind : (e : Key × Row) (rows some : List (Key × Row)) → list_all (λ (f : Key × Row). comes_before e.0 f.0) some ≡ true → AreAt rows some → AreAt (e ∷ rows) some
unfolding AreAt
at_behind e rows [] before all = tt
at_behind e rows (f ∷ some) before all = let parts = and_parts (comes_before e.0 f.0) _ before in (skipped e rows f.0 (before_apart e.0 f.0 parts.0) ∙ all.0, at_behind e rows some parts.1 all.1)

rows_at : (rows : List (Key × Row)) → is_rising rows ≡ true → AreAt rows rows
unfolding AreAt
rows_at [] rising = tt
rows_at (e ∷ rows) rising = let parts = and_parts _ (is_rising rows) rising in (rw (key_self e.0) refl, at_behind e rows rows parts.0 (rows_at rows parts.1))

-- Rows that are open

-- a row has its transaction, of which it says what it is
record IsOpen (state : State) (stored : Key × Row) : Type 0 where
  transaction : Transaction
  found : transaction_of stored.0 state ≡ Some transaction
  says : is_stored_as transaction.phase transaction (Some stored.1) ≡ true

AreOpen : State → List (Key × Row) → Type 0
AreOpen state [] = Unit {0}
AreOpen state (e ∷ rows) = IsOpen state e × AreOpen state rows

module _ (state : State) where
  opens : (rows : List (Key × Row)) (e : Key × Row) → list_all (λ (t : Transaction). is_stored_as t.phase t (row_at t.key rows)) state.transactions ≡ true → is_some (transaction_of e.0 state) ≡ true → row_at e.0 rows ≡ Some e.1 → IsOpen state e
  opens rows e stored stands at =
      let found = some_is (transaction_of e.0 state) stands in
      let t = found.0 in
      let key = same_key e.0 t.key (found_passes (has_key e.0) state.transactions t found.1) in
      let says = all_found (λ (t : Transaction). is_stored_as t.phase t (row_at t.key rows)) (has_key e.0) state.transactions t stored found.1 in
      record { transaction = t; found = found.1; says = subst (λ r. is_stored_as t.phase t r ≡ true) (ap (λ k. row_at k rows) (sym key) ∙ at) says }

  -- what is open is open behind another row
  all_open : (rows some : List (Key × Row)) → list_all (λ (t : Transaction). is_stored_as t.phase t (row_at t.key rows)) state.transactions ≡ true → list_all (λ (e : Key × Row). is_some (transaction_of e.0 state)) some ≡ true → AreAt rows some → AreOpen state some
  unfolding AreOpen AreAt
  all_open rows [] stored stands at = tt
  all_open rows (e ∷ some) stored stands at = let parts = and_parts (is_some (transaction_of e.0 state)) _ stands in (opens rows e stored parts.0 at.0, all_open rows some stored parts.1 at.1)

  -- two rows in doubt are not from one superior under one identifier
  twice_apart : are_known_once state ≡ true → (e f : Key × Row) (boxes : Key → List Badge) (head : Head) → comes_before e.0 f.0 ≡ true → IsOpen state e → IsOpen state f → came_twice (back head boxes e) (back head boxes f).origin ≡ false
  twice_apart once (k, row.Committed b p) (l, row.Committed b' p') boxes head before this that = refl
  twice_apart once (k, row.Prepared a s b p) (l, row.Committed b' p') boxes head before this that = refl
  twice_apart once (k, row.Committed b p) (l, row.Prepared a' s' b' p') boxes head before this that = refl
  twice_apart once (k, row.Prepared a s b p) (l, row.Prepared a' s' b' p') boxes head before this that = step (bytes_eq a a' && bytes_eq s' s) refl where
    step : (b : Bool) → (bytes_eq a a' && bytes_eq s' s) ≡ b → b ≡ false
    step false is = refl
    step true is =
        let parts = and_parts (bytes_eq a a') (bytes_eq s' s) is in
        let t = this.transaction in
        let u = that.transaction in
        let tis = in_doubt a s b p t t.phase this.says in
        let uis = in_doubt a' s' b' p' u u.phase that.says in
        let same : u.origin ≡ origin.Subordinate (Some a) s = uis.1 ∙ (λ i. origin.Subordinate (Some ((sym (same_text a a' parts.0)) i)) (same_text s' s parts.1 i)) in
        let twice : came_twice t u.origin ≡ true = rw (same, tis.1) (and_from _ _ (bytes_eq-self a) (bytes_eq-self s)) in
        absurd (both_ways (came_twice t u.origin) (kept_apart (λ x. is_undecided x.phase) (λ x y. came_twice x y.origin) came_back (has_key k) (has_key l) state.transactions t u (λ z first second. key_apart z first second) this.found that.found (ap is_undecided tis.0) (ap is_undecided uis.0) once) twice) where
          key_apart : (z : Transaction) → has_key k z ≡ true → has_key l z ≡ true → ⊥
          key_apart z first second = both_ways (is_same k l) (before_apart k l before) (subst (λ m. is_same k m ≡ true) (sym (same_key l z.key second)) first)

  none_twice : are_known_once state ≡ true → (boxes : Key → List Badge) (head : Head) (e : Key × Row) (rows : List (Key × Row)) → IsOpen state e → list_all (λ (f : Key × Row). comes_before e.0 f.0) rows ≡ true → AreOpen state rows → list_any (λ t. came_twice (back head boxes e) t.origin) (filter (λ t. is_undecided t.phase) (backs head boxes rows)) ≡ false
  unfolding AreOpen
  none_twice once boxes head e [] stands before all = refl
  none_twice once boxes head e (f ∷ rows) stands before all =
      let parts = and_parts (comes_before e.0 f.0) _ before in
      step (is_undecided (back head boxes f).phase) (twice_apart once e f boxes head parts.0 stands all.0) (none_twice once boxes head e rows stands parts.1 all.1) where
        step : (b : Bool) → came_twice (back head boxes e) (back head boxes f).origin ≡ false → list_any (λ t. came_twice (back head boxes e) t.origin) (filter (λ t. is_undecided t.phase) (backs head boxes rows)) ≡ false → list_any (λ t. came_twice (back head boxes e) t.origin) (cond b (back head boxes f ∷ filter (λ t. is_undecided t.phase) (backs head boxes rows)) (filter (λ t. is_undecided t.phase) (backs head boxes rows))) ≡ false
        step true first rest = or_from _ _ first rest
        step false first rest = rest

  once_again : are_known_once state ≡ true → (boxes : Key → List Badge) (head : Head) (rows : List (Key × Row)) → is_rising rows ≡ true → AreOpen state rows → are_distinct (λ this that. came_twice this that.origin) (filter (λ t. is_undecided t.phase) (backs head boxes rows)) ≡ true
  unfolding AreOpen
  once_again once boxes head [] rising all = refl
  once_again once boxes head (e ∷ rows) rising all =
      let parts = and_parts _ (is_rising rows) rising in
      step (is_undecided (back head boxes e).phase) (none_twice once boxes head e rows all.0 parts.0 all.1) (once_again once boxes head rows parts.1 all.1) where
        step : (b : Bool) → list_any (λ t. came_twice (back head boxes e) t.origin) (filter (λ t. is_undecided t.phase) (backs head boxes rows)) ≡ false → are_distinct (λ this that. came_twice this that.origin) (filter (λ t. is_undecided t.phase) (backs head boxes rows)) ≡ true → are_distinct (λ this that. came_twice this that.origin) (cond b (back head boxes e ∷ filter (λ t. is_undecided t.phase) (backs head boxes rows)) (filter (λ t. is_undecided t.phase) (backs head boxes rows))) ≡ true
        step true first rest = and_from _ _ (not_from_false _ first) rest
        step false first rest = rest

  -- what is so of the keys of transactions is so of the rows'
  each_row : (p : Key → Bool) (rows : List (Key × Row)) → list_all (λ (t : Transaction). p t.key) state.transactions ≡ true → list_all (λ (e : Key × Row). is_some (transaction_of e.0 state)) rows ≡ true → list_all (λ (e : Key × Row). p e.0) rows ≡ true
  each_row p rows all stands = all_more _ _ rows (λ e is. of_row e (some_is (transaction_of e.0 state) is)) stands where
    of_row : (e : Key × Row) → (t : Transaction) × (transaction_of e.0 state ≡ Some t) → p e.0 ≡ true
    of_row e found =
        let key = same_key e.0 found.0.key (found_passes (has_key e.0) state.transactions found.0 found.1) in
        subst (λ k. p k ≡ true) (sym key) (all_found (λ (t : Transaction). p t.key) (has_key e.0) state.transactions found.0 all found.1)

  rows_before : (rows : List (Key × Row)) → list_all (λ (t : Transaction). was_given state t.key) state.transactions ≡ true → list_all (λ (e : Key × Row). is_some (transaction_of e.0 state)) rows ≡ true → list_all (λ (e : Key × Row). nat_lt e.0.epoch (state.head.epoch + 1)) rows ≡ true
  rows_before rows given stands = all_more _ _ rows (λ e was. let less = given_before state e.0 was in grind (arith, nat_tests, less)) (each_row (was_given state) rows given stands)

-- Errands are of an earlier start then

none_of_start : (boxes : Key → List Badge) (world : World) (errands : List PartyNotes) → list_all (is_due world.state) errands ≡ true → (filter (is_of_this_start (restarted_from boxes world)) errands ≡ []) × (list_all (is_due (restarted_from boxes world)) errands ≡ true)
none_of_start boxes world [] due = (refl, refl)
none_of_start boxes world (p ∷ errands) due =
    let parts = and_parts (is_due world.state p) (list_all (is_due world.state) errands) due in
    let is = and_parts (nat_le p.epoch world.state.head.epoch && is_sent p.errand p) _ parts.0 in
    let sent = and_parts (nat_le p.epoch world.state.head.epoch) (is_sent p.errand p) is.0 in
    let le : nat_le p.epoch world.state.head.epoch ≡ true = sent.0 in
    let rest = none_of_start boxes world errands parts.1 in
    let other : is_of_this_start (restarted_from boxes world) p ≡ false = grind (arith, nat_tests, le) in
    let less : nat_le p.epoch (world.state.head.epoch + 1) ≡ true = grind (arith, nat_tests, le) in
    (rw other rest.0, and_from _ _ (and_from _ _ (and_from _ _ less sent.1) (rw other refl)) rest.1)

out_again : (boxes : Key → List Badge) (world : World) (errands : List PartyNotes) → are_out world.state errands ≡ true → are_out (restarted_from boxes world) errands ≡ true
out_again boxes world errands out =
    let none = none_of_start boxes world errands (and_parts _ (list_all (is_due world.state) errands) out).1 in
    and_from _ _ (rw none.0 refl) none.1

-- counts that may be are those of the next epoch too
bounds_risen : (state : State) → are_bounded state ≡ true → nat_lt state.head.epoch last_epoch ≡ true → has_bounds (risen state.head) ≡ true
bounds_risen state bounded less =
    let limits = (and_parts (is_within 1 last_epoch state.head.epoch) (are_allowed state.head.limits) (bounds_of state bounded)).1 in
    and_from _ _ (and_from _ _ (and_from _ _ (grind (arith, nat_tests, less)) limits) refl) (grind (arith, nat_tests)) where
      bounds_of : (state : State) → are_bounded state ≡ true → is_within 1 last_epoch state.head.epoch && are_allowed state.head.limits ≡ true
      bounds_of state bounded = (and_parts _ _ (and_parts _ _ (and_parts _ _ (and_parts _ _ bounded).0).0).0).0

pub restarts_sound : (boxes : Key → List Badge) (world : World) (errands : List PartyNotes) → IsSound world → are_out world.state errands ≡ true → can_start boxes world ≡ true → IsSound (record { state = restarted_from boxes world; rows = world.rows; errands = errands })
restarts_sound boxes world errands sound out can =
    let stored = and_parts (is_rising world.rows && list_all (λ (t : Transaction). is_stored_as t.phase t (row_at t.key world.rows)) world.state.transactions) _ sound.stored in
    let rows = and_parts (is_rising world.rows) _ stored.0 in
    let given = (and_parts _ (list_all (λ (t : Transaction). was_given world.state t.key) world.state.transactions) sound.keyed).1 in
    let spelled = (and_parts _ (list_all (λ (t : Transaction). is_spelled t.key) world.state.transactions) sound.bounded).1 in
    let may = and_parts (nat_lt world.state.head.epoch last_epoch) (are_adopted boxes world.rows) can in
    let stands = all_open world.state world.rows world.rows rows.1 stored.1 (rows_at world.rows rows.0) in
    starts_sound (risen world.state.head) boxes world.rows errands (bounds_risen world.state sound.bounded may.0) (record { rising = rows.0; earlier = rows_before world.state world.rows given stored.1; spelled = each_row world.state is_spelled world.rows spelled stored.1 }) may.1 (once_again world.state sound.known_once boxes (risen world.state.head) world.rows rows.0 stands) (out_again boxes world errands out)

renewed_sound : (boxes : Key → List Badge) (outcome : Outcome) (world : World) → IsSound world → can_start boxes world ≡ true → IsSound (renewed boxes outcome world).world
renewed_sound boxes Stored world sound can = restarts_sound boxes world world.errands sound sound.out can
renewed_sound boxes NoChange world sound can = sound
renewed_sound boxes Refused world sound can = sound

pub restarting_sound : (boxes : Key → List Badge) (world : World) → IsSound world → is_honest (Move.Restart boxes) world ≡ true → IsSound (moved (Move.Restart boxes) world).world
restarting_sound boxes world sound can = restarts_sound boxes world [] sound refl can

pub renewing_sound : (boxes : Key → List Badge) (outcome : Outcome) (world : World) → IsSound world → is_honest (Move.Renew boxes outcome) world ≡ true → IsSound (moved (Move.Renew boxes outcome) world).world
renewing_sound boxes Stored world sound can = renewed_sound boxes Stored world sound can
renewing_sound boxes Refused world sound can = renewed_sound boxes Refused world sound can
renewing_sound boxes NoChange world sound can = absurd (cc)

-- What is left may begin a run

-- keys that were given are of an epoch before a later one
rows_earlier : (state : State) (epoch : ℕ) (rows : List (Key × Row)) → state.head.epoch < epoch → list_all (λ (t : Transaction). was_given state t.key) state.transactions ≡ true → list_all (λ (e : Key × Row). is_some (transaction_of e.0 state)) rows ≡ true → list_all (λ (e : Key × Row). nat_lt e.0.epoch epoch) rows ≡ true
rows_earlier state epoch rows later given stands = all_more _ _ rows (λ e was. let less = given_before state e.0 was in grind (arith, nat_tests, less, later)) (each_row state (was_given state) rows given stands)

pub may_begin : (world : World) (head : Head) (boxes : Key → List Badge) → IsSound world → is_starting head ≡ true → world.state.head.epoch < head.epoch → are_adopted boxes world.rows ≡ true → IsStart (started_over head boxes world)
may_begin world head boxes sound starting later adopted =
    let stored = and_parts (is_rising world.rows && list_all (λ (t : Transaction). is_stored_as t.phase t (row_at t.key world.rows)) world.state.transactions) _ sound.stored in
    let rows = and_parts (is_rising world.rows) _ stored.0 in
    let given = (and_parts _ (list_all (λ (t : Transaction). was_given world.state t.key) world.state.transactions) sound.keyed).1 in
    let spelled = (and_parts _ (list_all (λ (t : Transaction). is_spelled t.key) world.state.transactions) sound.bounded).1 in
    let stands = all_open world.state world.rows world.rows rows.1 stored.1 (rows_at world.rows rows.0) in
    record {
      head = starting;
      rows = record { rising = rows.0; spelled = each_row world.state is_spelled world.rows spelled stored.1; earlier = rows_earlier world.state head.epoch world.rows later given stored.1 };
      boxes = boxes;
      adopted = adopted;
      state = refl;
      known_once = once_again world.state sound.known_once boxes head world.rows rows.0 stands;
      errands = refl;
    }

-- A START IS SOUND
pub start_sound : (world : World) → IsStart world → IsSound world
start_sound world start =
    let head = world.state.head in
    let a = and_parts _ (head.entries == 0) start.head in
    let b = and_parts _ (head.given == 0) a.0 in
    let c = and_parts _ (is_within 1 last_epoch head.epoch) b.0 in
    let d = and_parts _ (are_declared head.branches) c.0 in
    let limits = (and_parts (is_realm head.name && is_address head.address) (are_allowed head.limits) d.0).1 in
    let given : (head.given == 0) ≡ true = b.1 in
    let entries : (head.entries == 0) ≡ true = a.1 in
    let bounds : has_bounds head ≡ true = and_from _ _ (and_from _ _ (and_from _ _ c.1 limits) (grind (arith, nat_tests, given, entries))) (grind (arith, nat_tests, entries)) in
    subst IsSound (λ i. record { state = (sym start.state) i; rows = world.rows; errands = (sym start.errands) i })
    (starts_sound head start.boxes world.rows [] bounds (record { rising = start.rows.rising; earlier = start.rows.earlier; spelled = start.rows.spelled }) start.adopted (subst (λ s. are_known_once s ≡ true) start.state start.known_once) refl)
