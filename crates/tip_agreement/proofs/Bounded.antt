-- Counts stay in their bounds, and identifiers tell transactions apart.
use Rattle.std.proofs.Common.{◌≡◌, ◌<◌, Bool, true, false, ℕ, ◌+◌, List, [], ◌∷◌, Option, Some, None, cond, refl, ap, subst, sym, arith, ◌∙◌}
use Rattle.std.specs.Prelude.{find, is_some, nat_le, nat_lt}
use Rattle.std.specs.List.{All, list_all}
use Rattle.std.proofs.lemmas.Bool.{and_from, and_parts, both_ways}
use Rattle.std.proofs.lemmas.Bool.Decides.{nat_tests}
use Rattle.std.proofs.lemmas.List.Elements.{All-cons, All-head, All-nil, All-tail}
use Rattle.std.proofs.lemmas.Option.{none-some, same_Some}
use Rattle.tip_rows.specs.Keys.{Key, is_same}
use Rattle.tip_rows.specs.Logs.{last_epoch}
use Rattle.tip_rows.proofs.MemoryLemmas.{same_text}
use Rattle.tip_rows.proofs.OrderLemmas.{same_key}
use Rattle.tip_machine.specs.Answers.{identifier}
use Rattle.tip_machine.specs.Connections.{has_number}
use Rattle.tip_machine.specs.Counts.{HasCounts, IsBelow}
use Rattle.tip_machine.specs.Given.{are_numbered}
use Rattle.tip_machine.specs.Heads.{are_allowed, is_within}
use Rattle.tip_machine.specs.Invariants.Bounds.{are_bounded, is_below, is_spelled}
use Rattle.tip_machine.specs.Invariants.Links.{are_distinct}
use Rattle.tip_machine.specs.States.{State, Work, connection_of, identified_by, transaction_of}
use Rattle.tip_machine.specs.Transactions.{has_id, has_key, next_key}
use Rattle.tip_machine.specs.Types.{Connection, Transaction}
use Rattle.tip_machine.specs.declared.event.Change.{Change}
use Rattle.tip_machine.proofs.Rising.{found-below}
use Rattle.tip_machine.proofs.Walks.{found_passes}
use Rattle.tip_agreement.proofs.Apart.{all_added, all_found}
use Rattle.tip_agreement.proofs.Commanded.{Grown}
use Rattle.tip_agreement.proofs.Keys.{key_self, keys_of}
use Rattle.tip_agreement.proofs.Onward.{Onward}
use Rattle.tip_agreement.proofs.Rows.{each_found}
use Rattle.tip_agreement.proofs.Spelling.{keys_told}

abbrev pub AreSpelled : State → Type 0
AreSpelled s = list_all (λ (t : Transaction). is_spelled t.key) s.transactions ≡ true

pub spelled_at : (s : State) (t : Transaction) → AreSpelled s → transaction_of t.key s ≡ Some t → is_spelled t.key ≡ true
spelled_at s t all found = all_found (λ (t : Transaction). is_spelled t.key) (has_key t.key) s.transactions t all found

-- the transaction of an identifier is found by it
pub found_by_id : (id : List ℕ) (s : State) (t : Transaction) → AreSpelled s → transaction_of t.key s ≡ Some t → has_id s.head.name id t ≡ true → identified_by id s ≡ Some t
found_by_id id s t all found is = step s.transactions all found (spelled_at s t all found) where
  step : (ts : List Transaction) → list_all (λ (u : Transaction). is_spelled u.key) ts ≡ true → find (has_key t.key) ts ≡ Some t → is_spelled t.key ≡ true → find (has_id s.head.name id) ts ≡ Some t
  step [] all found spelled = absurd (none-some t found)
  step (u ∷ ts) all found spelled = let parts = and_parts (is_spelled u.key) _ all in first (has_key t.key u) (has_id s.head.name id u) refl refl found parts.0 (λ later. step ts parts.1 later spelled) where
    first : (b c : Bool) → has_key t.key u ≡ b → has_id s.head.name id u ≡ c → cond b (Some u) (find (has_key t.key) ts) ≡ Some t → is_spelled u.key ≡ true → (find (has_key t.key) ts ≡ Some t → find (has_id s.head.name id) ts ≡ Some t) → cond c (Some u) (find (has_id s.head.name id) ts) ≡ Some t
    first true true here has found fits later = found
    first true false here has found fits later = absurd (both_ways (has_id s.head.name id u) has (subst (λ (x : Transaction). has_id s.head.name id x ≡ true) (sym (same_Some u t found)) is))
    first false false here has found fits later = later found
    first false true here has found fits later =
        let same = keys_told s.head.name t.key u.key spelled fits (sym (same_text id (identifier s.head.name t.key) is) ∙ same_text id (identifier s.head.name u.key) has) in
        absurd (both_ways (is_same t.key u.key) here (subst (λ k. is_same t.key k ≡ true) same (key_self t.key)))

-- COUNTS

pub record InBounds (s : State) : Type 0 where
  pub epoch : is_within 1 last_epoch s.head.epoch ≡ true
  pub limits : are_allowed s.head.limits ≡ true
  pub given : nat_le s.head.given s.head.entries ≡ true
  pub entries : nat_le s.head.entries s.head.limits.entries ≡ true
  pub below : list_all (is_below s.head.entries) s.connections ≡ true
  pub spelled : AreSpelled s

pub in_bounds : (s : State) → are_bounded s ≡ true → InBounds s
in_bounds s is =
    let a = and_parts _ (list_all (λ (t : Transaction). is_spelled t.key) s.transactions) is in
    let b = and_parts _ (list_all (is_below s.head.entries) s.connections) a.0 in
    let c = and_parts _ (nat_le s.head.entries s.head.limits.entries) b.0 in
    let d = and_parts _ (nat_le s.head.given s.head.entries) c.0 in
    let e = and_parts (is_within 1 last_epoch s.head.epoch) (are_allowed s.head.limits) d.0 in
    record { epoch = e.0; limits = e.1; given = d.1; entries = c.1; below = b.1; spelled = a.1 }

pub bounded_so : (s : State) → InBounds s → are_bounded s ≡ true
bounded_so s is = and_from _ _ (and_from _ _ (and_from _ _ (and_from _ _ (and_from _ _ is.epoch is.limits) is.given) is.entries) is.below) is.spelled

all_below : (entries : ℕ) (cs : List Connection) → list_all (is_below entries) cs ≡ true → All (IsBelow entries) cs
all_below entries [] all = All-nil (IsBelow entries)
all_below entries (c ∷ cs) all =
    let parts = and_parts (is_below entries c) _ all in
    let both = and_parts (nat_lt 0 c.number) (nat_le c.made entries) parts.0 in
    let number : nat_lt 0 c.number ≡ true = both.0 in
    let made : nat_le c.made entries ≡ true = both.1 in
    All-cons (IsBelow entries) c cs (record { number = grind (arith, nat_tests, number); made = grind (arith, nat_tests, made) }) (all_below entries cs parts.1)

below_all : (entries : ℕ) (cs : List Connection) → All (IsBelow entries) cs → list_all (is_below entries) cs ≡ true
below_all entries [] all = refl
below_all entries (c ∷ cs) all =
    let first = All-head (IsBelow entries) c cs all in
    let number = first.number in
    let made = first.made in
    let first_number : nat_lt 0 c.number ≡ true = grind (arith, nat_tests, number) in
    let first_made : nat_le c.made entries ≡ true = grind (arith, nat_tests, made) in
    and_from _ _ (and_from _ _ first_number first_made) (below_all entries cs (All-tail (IsBelow entries) c cs all))

pub counts_of : (s : State) → are_numbered s ≡ true → InBounds s → HasCounts s
counts_of s numbered is =
    let within = and_parts (nat_le 1 s.head.epoch) (nat_le s.head.epoch last_epoch) is.epoch in
    let least : nat_le 1 s.head.epoch ≡ true = within.0 in
    let given : nat_le s.head.given s.head.entries ≡ true = is.given in
    record { epoch = grind (arith, nat_tests, least); given = grind (arith, nat_tests, given); connections = all_below s.head.entries s.connections is.below; numbered = numbered }

-- as far as the counts go
pub bounds_from : (s : State) → HasCounts s → is_within 1 last_epoch s.head.epoch ≡ true → are_allowed s.head.limits ≡ true → nat_le s.head.entries s.head.limits.entries ≡ true → AreSpelled s → are_bounded s ≡ true
bounds_from s counts epoch limits entries spelled = let given = counts.given in bounded_so s (record { epoch = epoch; limits = limits; given = grind (arith, nat_tests, given); entries = entries; below = below_all s.head.entries s.connections counts.connections; spelled = spelled })

-- KEYS

pub spelled_onward : (change : Option Change) (key : Key) (w v : Work) → Onward change key w v → are_distinct is_same (keys_of w.state.transactions) ≡ true → AreSpelled w.state → AreSpelled v.state
spelled_onward change key w v onward apart all = each_found (λ (t : Transaction). is_spelled t.key) v.state.transactions (onward.keys apart) (λ t found. old t (transaction_of t.key w.state) refl ((onward.turns t.key).was (ap is_some found))) where
  old : (t : Transaction) (was : Option Transaction) → transaction_of t.key w.state ≡ was → is_some was ≡ true → is_spelled t.key ≡ true
  old t None is some = absurd (cc)
  old t (Some u) is some = subst (λ k. is_spelled k ≡ true) (sym (same_key t.key u.key (found_passes (has_key t.key) w.state.transactions u is))) (all_found (λ (t : Transaction). is_spelled t.key) (has_key t.key) w.state.transactions u all is)

pub spelled_grown : (w v : Work) → Grown w v → AreSpelled w.state → AreSpelled v.state
spelled_grown w v grown all = subst (λ ts. list_all (λ (t : Transaction). is_spelled t.key) ts ≡ true) (sym grown.transactions) (all_added (λ (t : Transaction). is_spelled t.key) w.state.transactions grown.new all grown.spelled)

-- the next key of a connection fits, where there is an entry for its transaction
small_limit : (a b : ℕ) → is_within 1 10000000 b ≡ true → nat_le a b ≡ true → nat_le a last_epoch ≡ true
small_limit a b within le = let most : nat_le b 10000000 ≡ true = (and_parts (nat_le 1 b) (nat_le b 10000000) within).1 in grind (arith, nat_tests, most, le)

pub next_spelled : (s : State) (c : Connection) → InBounds s → are_numbered s ≡ true → nat_lt s.head.entries s.head.limits.entries ≡ true → connection_of c.number s ≡ Some c → is_spelled (next_key s.head c) ≡ true
next_spelled s c is numbered room there = and_from _ _ (and_from _ _ (and_parts (nat_le 1 s.head.epoch) (nat_le s.head.epoch last_epoch) is.epoch).1 (small_limit c.number s.head.limits.entries limit (number s.head.given s.head.entries s.head.limits.entries is.given is.entries below))) (small_limit (c.made + 1) s.head.limits.entries limit (made s.head.entries s.head.limits.entries made_below room)) where
  limit : is_within 1 10000000 s.head.limits.entries ≡ true
  limit = (and_parts _ (is_within 1 10000000 s.head.limits.entries) is.limits).1

  below : c.number < s.head.given + 1
  below = found-below (s.head.given + 1) (λ (d : Connection). has_number c.number d) s.connections c there numbered

  made_below : nat_le c.made s.head.entries ≡ true
  made_below = (and_parts (nat_lt 0 c.number) (nat_le c.made s.head.entries) (all_found (is_below s.head.entries) (λ (d : Connection). has_number c.number d) s.connections c is.below there)).1

  number : (g e l : ℕ) → nat_le g e ≡ true → nat_le e l ≡ true → c.number < g + 1 → nat_le c.number l ≡ true
  number g e l first next less = grind (arith, nat_tests, first, next, less)

  made : (e l : ℕ) → nat_le c.made e ≡ true → nat_lt e l ≡ true → nat_le (c.made + 1) l ≡ true
  made e l first less = grind (arith, nat_tests, first, less)
