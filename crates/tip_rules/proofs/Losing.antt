-- What the failure of a connection comes to, case by case.
use Rattle.std.proofs.Common.{◌≡◌, ◌≤◌, ◌+◌, ℕ, true, false, cond, List, [], ◌∷◌, Option, Some, None, length, refl, ap, arith, sym, subst, ◌∙◌, ◌⊎◌, inl, inr}
use Rattle.std.specs.Prelude.{filter, is_some, option_map}
use Rattle.std.specs.Option.{option_map_or}
use Rattle.std.proofs.lemmas.Option.{same_Some}
use Rattle.std.proofs.lemmas.List.{length-append}
use Rattle.tip_rows.specs.Keys.{Key}
use Rattle.tip_table.specs.Lists.{without}
use Rattle.tip_txn.specs.Parts.{answer_at, answered}
use Rattle.tip_txn.specs.declared.answer.Ballot.TheVariants.{Lost}
use Rattle.tip_txn.specs.declared.answer.Phase.TheVariants.{Aborted, Active, Asking}
use Rattle.tip_machine.specs.Changes.{alter, on_key, tell}
use Rattle.tip_machine.specs.Connections.{has_number, is_on}
use Rattle.tip_machine.specs.Failing.{closed, fail, gone, lost_unanswered, missed, part_lost, wrong}
use Rattle.tip_machine.specs.Proceeding.{abort}
use Rattle.tip_machine.specs.States.{Work, connection_of, transaction_of}
use Rattle.tip_machine.specs.Transactions.{noting}
use Rattle.tip_machine.specs.Types.{Connection, Transaction}
use Rattle.tip_machine.specs.declared.answer.Item.{Item}
use Rattle.tip_machine.specs.declared.answer.Item.TheVariants.{Close, Say}
use Rattle.tip_machine.specs.declared.answer.Said.TheVariants as said
use Rattle.tip_machine.specs.declared.connection.Role.{Role}
use Rattle.tip_machine.specs.declared.connection.Role.TheVariants.{Subordinate, Superior}
use Rattle.tip_machine.proofs.Walks.{found-number, on_found}
use Rattle.tip_rules.specs.Works.{Does, Held, IsIdle, lines_as, lines_at, work_of}
use Rattle.tip_rules.proofs.Proceeding.{on_none, on_some}
use Rattle.tip_rules.proofs.Works.{may_idle, nothing, then}

-- A rule of a transaction

pub unkeyed : (s : Held) (key : Key) (rule : Transaction → Work → Work) → transaction_of key (work_of s).state ≡ None → Does s s (on_key key rule (work_of s))
unkeyed s key rule none = subst (Does s s) (sym (on_none key rule (work_of s) none)) (nothing s)

pub keyed : (s s' : Held) (key : Key) (rule : Transaction → Work → Work) (t : Transaction) → transaction_of key (work_of s).state ≡ Some t → Does s s' (rule t (work_of s)) → Does s s' (on_key key rule (work_of s))
keyed s s' key rule t found = subst (Does s s') (sym (on_some key rule (work_of s) t found))

-- A part that is lost before its answer

pub answered_already : (s : Held) (part : ℕ) (t : Transaction) → is_some (answer_at t.parts part) ≡ true → Does s s (lost_unanswered part t (work_of s))
answered_already s part t is = subst (Does s s) (sym (ap (λ b. cond b (work_of s) (abort t.key (alter t.key (noting part (answered Lost)) (work_of s)))) is)) (nothing s)

pub lost_first : (a b c : Held) (key : Key) (part : ℕ) (t : Transaction) → transaction_of key (work_of a).state ≡ Some t → is_some (answer_at t.parts part) ≡ false → Does a b (alter key (noting part (answered Lost)) (work_of a)) → Does b c (abort key (work_of b)) → Does a c (lost_unanswered part t (work_of a))
lost_first a b c key part t found is first second =
    subst (Does a c) (sym (ap (λ b. cond b (work_of a) (abort t.key (alter t.key (noting part (answered Lost)) (work_of a)))) is))
    (subst (λ k. Does a c (abort k (alter k (noting part (answered Lost)) (work_of a)))) (on_found (λ k. key ≡ k) key (work_of a).state.transactions t found refl) (then a b c (abort key) _ first second))

pub still_idle : (a b : Held) (key : Key) (f : Transaction → Transaction) → IsIdle a.making.answer → Does a b (alter key f (work_of a)) → IsIdle b.making.answer
still_idle a b key f idle first = record { work = ap (λ w. w.answer.work) first.own ∙ idle.work; spent = ap (λ w. w.answer.spent) first.own ∙ idle.spent }

-- A part that is lost, by the phase

pub part_open : (s s' : Held) (key : Key) (part : ℕ) (t : Transaction) → transaction_of key (work_of s).state ≡ Some t → (t.phase ≡ Active) ⊎ (t.phase ≡ Asking) → Does s s' (lost_unanswered part t (work_of s)) → Does s s' (on_key key (λ t. part_lost t.phase part t) (work_of s))
part_open s s' key part t found phase does = keyed s s' key (λ t. part_lost t.phase part t) t found (step phase) where
  step : (t.phase ≡ Active) ⊎ (t.phase ≡ Asking) → Does s s' (part_lost t.phase part t (work_of s))
  step (inl is) = subst (λ p. Does s s' (part_lost p part t (work_of s))) (sym is) does
  step (inr is) = subst (λ p. Does s s' (part_lost p part t (work_of s))) (sym is) does

pub part_aborted : (s s' : Held) (key : Key) (part : ℕ) (t : Transaction) → transaction_of key (work_of s).state ≡ Some t → t.phase ≡ Aborted → Does s s' (abort key (work_of s)) → Does s s' (on_key key (λ t. part_lost t.phase part t) (work_of s))
part_aborted s s' key part t found is does = keyed s s' key (λ t. part_lost t.phase part t) t found
    (subst (λ p. Does s s' (part_lost p part t (work_of s))) (sym is) (subst (λ k. Does s s' (abort k (work_of s))) (on_found (λ k. key ≡ k) key (work_of s).state.transactions t found refl) does))

-- A connection that fails

fewer : (key : Key) (number : ℕ) (connections : List Connection) → length (filter (is_on key) (without (has_number number) connections)) ≤ length (filter (is_on key) connections)
fewer key number [] = omega arith
fewer key number (x ∷ xs) = grind (arith, fewer key number xs)

fewer_as : (role : Option Role) (number : ℕ) (w : Work) → lines_as role (record w.state { connections = without (has_number number) w.state.connections }) ≤ lines_as role w.state
fewer_as None number w = omega arith
fewer_as (Some (Superior key)) number w = fewer key number w.state.connections
fewer_as (Some (Subordinate key part)) number w = fewer key number w.state.connections

-- where nothing went out, there is room for as much as before
pub same_room : (a b : Held) (w : Work) → Does a b w → w.answer.sent ≡ a.making.answer.sent → b.making.free ≡ a.making.free
same_room a b w does same =
    let sent : b.making.answer.sent ≡ a.making.answer.sent = ap (λ v. v.answer.sent) does.own ∙ same in
    let count : length b.making.answer.sent ≡ length a.making.answer.sent = ap length sent in
    omega (arith, count, does.lines)

same_role : (o : Option Connection) (connection : Connection) (role : Option Role) → o ≡ Some connection → option_map (λ c. c.role) o ≡ Some role → role ≡ connection.role
same_role None connection role found is = absurd (cc)
same_role (Some c) connection role found is = same_Some _ _ (sym is) ∙ ap (λ (d : Connection). d.role) (same_Some c connection found)

-- what is said of each connection that is there holds, where one is
module _ (a b : Held) (number : ℕ) (role : Option Role) (there : option_map (λ c. c.role) (connection_of number (work_of a).state) ≡ Some role) (gone_so : (connection : Connection) → connection_of number (work_of a).state ≡ Some connection → Does a b (gone connection (work_of a))) where
  on_it : (P : Type 0) → ((connection : Connection) → connection_of number (work_of a).state ≡ Some connection → P) → P
  on_it P each = step (connection_of number (work_of a).state) refl there where
    step : (o : Option Connection) → connection_of number (work_of a).state ≡ o → option_map (λ c. c.role) o ≡ Some role → P
    step None is same = absurd (cc)
    step (Some connection) is same = each connection is

  pub room_gone : lines_at number (work_of a).state ≤ a.making.free → lines_as role (work_of b).state ≤ b.making.free
  unfolding gone
  room_gone enough = on_it (lines_as role (work_of b).state ≤ b.making.free) (λ connection found.
      let first = gone_so connection found in
      let same = same_role (connection_of number (work_of a).state) connection role found there in
      let free : b.making.free ≡ a.making.free = same_room a b (gone connection (work_of a)) first refl in
      let less = fewer_as connection.role connection.number (work_of a) in
      let before : lines_at number (work_of a).state ≡ lines_as connection.role (work_of a).state = ap (λ o. option_map_or (λ (c : Connection). lines_as c.role (work_of a).state) o 0) found in
      let lines : lines_as role (work_of b).state ≡ lines_as connection.role (record (work_of a).state { connections = without (has_number connection.number) (work_of a).state.connections }) = ap (λ v. lines_as role v.state) first.own ∙ ap (λ r. lines_as r (gone connection (work_of a)).state) same in
      omega (arith, free, less, lines, before, enough))

  pub room_gone_as : (other : Option Role) → lines_as other (work_of a).state ≤ a.making.free → lines_as other (work_of b).state ≤ b.making.free
  unfolding gone
  room_gone_as other enough = on_it (lines_as other (work_of b).state ≤ b.making.free) (λ connection found.
      let first = gone_so connection found in
      let free : b.making.free ≡ a.making.free = same_room a b (gone connection (work_of a)) first refl in
      let less = fewer_as other connection.number (work_of a) in
      let lines : lines_as other (work_of b).state ≡ lines_as other (record (work_of a).state { connections = without (has_number connection.number) (work_of a).state.connections }) = ap (λ v. lines_as other v.state) first.own in
      omega (arith, free, less, lines, enough))

  pub idle_gone : IsIdle a.making.answer → IsIdle b.making.answer
  unfolding gone
  idle_gone idle = on_it (IsIdle b.making.answer) (λ connection found.
      let first = gone_so connection found in
      record { work = ap (λ w. w.answer.work) first.own ∙ idle.work; spent = ap (λ w. w.answer.spent) first.own ∙ idle.spent })

  pub failed : (c : Held) (connection : Connection) → connection_of number (work_of a).state ≡ Some connection → Does b c (missed role (work_of b)) → Does a c (fail connection (work_of a))
  unfolding fail
  failed c connection found second =
      subst (λ r. Does a c (missed r (gone connection (work_of a)))) (same_role (connection_of number (work_of a).state) connection role found there) (then a b c (missed role) _ (gone_so connection found) second)

-- A connection that we close

pub room_told : (a b : Held) (number lines : ℕ) (item : Item) → Does a b (tell number item (work_of a)) → lines + 1 ≤ a.making.free → lines ≤ b.making.free
room_told a b number lines item does enough =
    let count : length b.making.answer.sent ≡ length a.making.answer.sent + 1 = ap (λ w. length w.answer.sent) does.own ∙ length-append a.making.answer.sent (record { connection = number; item = item } ∷ []) in
    omega (arith, count, does.lines, enough)

pub idle_told : (a b : Held) (number : ℕ) (item : Item) → IsIdle a.making.answer → Does a b (tell number item (work_of a)) → IsIdle b.making.answer
idle_told a b number item idle first = record { work = ap (λ w. w.answer.work) first.own ∙ idle.work; spent = ap (λ w. w.answer.spent) first.own ∙ idle.spent }

pub closed_all : (a b c : Held) (number : ℕ) (connection : Connection) → connection_of number (work_of a).state ≡ Some connection → Does a b (tell number Close (work_of a)) → Does b c (fail connection (work_of b)) → Does a c (closed connection (work_of a))
unfolding closed
closed_all a b c number connection found first second =
    subst (λ n. Does a c (fail connection (tell n Close (work_of a)))) (sym (found-number number (work_of a).state.connections connection found)) (then a b c (fail connection) _ first second)

pub rejected : (a b c : Held) (number : ℕ) (connection : Connection) → connection_of number (work_of a).state ≡ Some connection → Does a b (tell number (Say said.Error) (work_of a)) → Does b c (closed connection (work_of b)) → Does a c (wrong connection (work_of a))
unfolding wrong
rejected a b c number connection found first second =
    subst (λ n. Does a c (closed connection (tell n (Say said.Error) (work_of a)))) (sym (found-number number (work_of a).state.connections connection found)) (then a b c (closed connection) _ first second)

pub ruleset superior_losing = (unkeyed, keyed, may_idle)

pub ruleset part_losing = (unkeyed, keyed, may_idle)

pub ruleset unanswered_losing = (answered_already, lost_first, still_idle, may_idle)

pub ruleset missing = (nothing)

pub ruleset failing = (room_gone, idle_gone, failed)

pub ruleset closing = (room_told, idle_told, closed_all, rejected)
