-- A part joins a transaction.
use Rattle.std.proofs.Common.{◌≡◌, ◌≢◌, ◌-◌, ◌↔◌, Bool, true, false, cond, ℕ, List, [], ◌∷◌, ◌++◌, Option, Some, None, Result, Err, length, refl, ap, sym, subst, ◌∙◌}
use Rattle.std.specs.Prelude.{◌&&◌, IsTrue, not}
use Rattle.std.specs.Option.{option_and_then}
use Rattle.std.proofs.lemmas.Option.{none-some, same_Some}
use Rattle.tip_line.specs.declared.command.CommandName.TheVariants as command
use Rattle.tip_rows.specs.Keys.{Key}
use Rattle.tip_table.specs.Kept.{StandsAt, item_at, with_item_at}
use Rattle.tip_table.specs.Lists.{changed}
use Rattle.tip_txn.specs.Parts.{enlisted, is_enlisted}
use Rattle.tip_txn.specs.Transactions.{Transaction as ATxn}
use Rattle.tip_txn.specs.declared.answer.Phase.{Phase}
use Rattle.tip_txn.specs.declared.answer.Phase.TheVariants as phase
use Rattle.tip_txn.specs.declared.txn.EnlistFault.{EnlistFault}
use Rattle.tip_txn.specs.declared.txn.EnlistFault.TheVariants as fault
use Rattle.tip_machine.proofs.Walks.{found-number}
use Rattle.tip_machine.specs.Changes.{alter, change, reply}
use Rattle.tip_machine.specs.Commands.{pull, pull_into}
use Rattle.tip_machine.specs.Connections.{taking}
use Rattle.tip_machine.specs.States.{Work, connection_of, identified_by, transaction_of}
use Rattle.tip_machine.specs.Transactions.{enlisting, is_active}
use Rattle.tip_machine.specs.Types.{Connection, Transaction, seen}
use Rattle.tip_machine.specs.declared.answer.Said.TheVariants as said
use Rattle.tip_machine.specs.declared.connection.Role.{Role}
use Rattle.tip_machine.specs.declared.connection.Role.TheVariants.{Subordinate}
use Rattle.tip_rules.proofs.Outcomes.{key_is}
use Rattle.tip_rules.proofs.Works.{altered, nothing, standing_key, then}
use Rattle.tip_rules.specs.Growing.{joined_as, joining_part, may_join}
use Rattle.tip_outlook.specs.Searches.{HeldTransaction, is_keyed}
use Rattle.tip_rules.specs.Works.{Does, Held, peer_of, work_of}

-- What a transaction answers that a part would join

module _ (t : Transaction) (address : List ℕ) (subordinate : Option (List ℕ)) where
  may_so : (active there : Bool) → is_active t.phase ≡ active → is_enlisted t.parts address subordinate ≡ there → may_join t address subordinate ≡ active && not there
  may_so active there is at = ap (λ b. b && not (is_enlisted t.parts address subordinate)) is ∙ ap (λ b. active && not b) at

  pub may_there : t.phase ≡ phase.Active → is_enlisted t.parts address subordinate ≡ false → may_join t address subordinate ≡ true
  may_there is at = may_so true false (ap is_active is) at

  not_active : (now : Phase) → now ≢ phase.Active → is_active now ≡ false
  not_active phase.Active differ = absurd (differ refl)
  not_active phase.Asking differ = refl
  not_active phase.Prepared differ = refl
  not_active phase.Committed differ = refl
  not_active phase.Aborted differ = refl

  pub may_never : (why : EnlistFault) (result : Result ℕ EnlistFault) → result ≡ Err why → ((result ≡ Err fault.NotActive) ↔ (t.phase ≢ phase.Active)) → ((result ≡ Err fault.Twice) ↔ ((t.phase ≡ phase.Active) × IsTrue (is_enlisted t.parts address subordinate))) → may_join t address subordinate ≡ false
  may_never fault.NotActive result is late twice = ap (λ b. b && not (is_enlisted t.parts address subordinate)) (not_active t.phase (late.0 is))
  may_never fault.Twice result is late twice = let both = twice.0 is in may_so true true (ap is_active both.0) both.1

-- The part joins

module _ (old : Held) (subordinate : Option (List ℕ)) (found : Option Transaction) where
  pub joins_nobody : None ≡ joined_as found None subordinate
  joins_nobody = step found where
    step : (o : Option Transaction) → None ≡ joined_as o None subordinate
    step None = refl
    step (Some t) = refl

  pub nobody_joins : Does old old (joining_part found None subordinate (work_of old))
  nobody_joins = step found where
    step : (o : Option Transaction) → Does old old (joining_part o None subordinate (work_of old))
    step None = nothing old
    step (Some t) = nothing old

module _ (old : Held) (subordinate : Option (List ℕ)) (found : Option Transaction) (peer : Option (List ℕ)) (none : found ≡ None) where
  pub joins_nowhere : None ≡ joined_as found peer subordinate
  joins_nowhere = sym (ap (λ o. joined_as o peer subordinate) none)

  pub nowhere_joins : Does old old (joining_part found peer subordinate (work_of old))
  nowhere_joins = subst (λ o. Does old old (joining_part o peer subordinate (work_of old))) (sym none) (nothing old)

changed_same : {T : Type 0} (test : T → Bool) (items : List T) → changed test (λ item. item) items ≡ items
changed_same test [] = refl
changed_same test (x ∷ xs) = step (test x) (changed_same test xs) where
  step : (b : Bool) → changed test (λ item. item) xs ≡ xs → cond b (x ∷ xs) (x ∷ changed test (λ item. item) xs) ≡ x ∷ xs
  step true rest = refl
  step false rest = ap (λ ys. x ∷ ys) rest

module _ (old : Held) (key : Key) (place : ℕ) (item : HeldTransaction) (here : StandsAt old.transactions old.realm (is_keyed key) place) (is : item_at old.transactions place ≡ Some item) (address : List ℕ) (subordinate : Option (List ℕ))
    (found : Option Transaction) (same : found ≡ transaction_of key (work_of old).state) where
  there : found ≡ Some (seen item)
  there = same ∙ standing_key old key place item here is

  so : (may : Bool) → may_join (seen item) address subordinate ≡ may → joining_part found (Some address) subordinate (work_of old) ≡ cond may (alter item.key (enlisting (enlisted address subordinate)) (work_of old)) (work_of old)
  so may at = ap (λ o. joining_part o (Some address) subordinate (work_of old)) there ∙ ap (λ b. cond b (alter item.key (enlisting (enlisted address subordinate)) (work_of old)) (work_of old)) at

  as_so : (may : Bool) → may_join (seen item) address subordinate ≡ may → joined_as found (Some address) subordinate ≡ cond may (Some (Subordinate item.key (length item.txn.parts))) None
  as_so may at = ap (λ o. joined_as o (Some address) subordinate) there ∙ ap (λ b. cond b (Some (Subordinate item.key (length item.txn.parts))) None) at

  keyed : key ≡ item.key
  keyed = key_is old key (seen item) (standing_key old key place item here is)

  pub joins_as : (part : ℕ) → may_join (seen item) address subordinate ≡ true → part ≡ length item.txn.parts → Some (Subordinate key part) ≡ joined_as found (Some address) subordinate
  joins_as part may at = ap (λ k. Some (Subordinate k part)) keyed ∙ ap (λ p. Some (Subordinate item.key p)) at ∙ sym (as_so true may)

  pub part_joins : (txn : ATxn) → may_join (seen item) address subordinate ≡ true → txn ≡ record item.txn { parts = item.txn.parts ++ enlisted address subordinate ∷ []; spare = item.txn.spare - 1 } →
      Does old (record old { transactions = with_item_at old.transactions place (record item { txn = txn }) }) (joining_part found (Some address) subordinate (work_of old))
  part_joins txn may after = subst (Does old (record old { transactions = with_item_at old.transactions place (record item { txn = txn }) })) (sym (so true may))
      (subst (λ k. Does old (record old { transactions = with_item_at old.transactions place (record item { txn = txn }) }) (alter k (enlisting (enlisted address subordinate)) (work_of old))) keyed
      (altered old key (enlisting (enlisted address subordinate)) place item (record item { txn = txn }) here is (ap (λ (x : ATxn). seen (record item { txn = x })) after)))

  pub joins_not : may_join (seen item) address subordinate ≡ false → None ≡ joined_as found (Some address) subordinate
  joins_not may = sym (as_so false may)

  pub not_joins : (txn : ATxn) → may_join (seen item) address subordinate ≡ false → txn ≡ item.txn → Does old (record old { transactions = with_item_at old.transactions place (record item { txn = txn }) }) (joining_part found (Some address) subordinate (work_of old))
  not_joins txn may after = subst (Does old (record old { transactions = with_item_at old.transactions place (record item { txn = txn }) })) (unchanged ∙ sym (so false may))
      (altered old key (λ t. t) place item (record item { txn = txn }) here is (ap (λ (x : ATxn). seen (record item { txn = x })) after)) where
        unchanged : alter key (λ t. t) (work_of old) ≡ work_of old
        unchanged = ap (λ ts. record (work_of old) { state = record (work_of old).state { transactions = ts } }) (changed_same _ (work_of old).state.transactions)

-- PULL

module _ (a b c : Held) (number : ℕ) (connection : Connection) (there : connection_of number (work_of a).state ≡ Some connection) (superior subordinate : List ℕ) (peer : Option (List ℕ)) (own : peer ≡ peer_of number (work_of a).state)
    (first : Does a b (joining_part (identified_by superior (work_of a).state) peer (Some subordinate) (work_of a))) where
  pulls_so : Does a c (pull_into (identified_by superior (work_of a).state) peer subordinate number (work_of a)) → Does a c (pull superior subordinate connection (work_of a))
  unfolding pull
  pulls_so does =
      subst (λ n. Does a c (pull_into (identified_by superior (work_of a).state) connection.peer subordinate n (work_of a))) (sym (found-number number (work_of a).state.connections connection there))
      (subst (λ p. Does a c (pull_into (identified_by superior (work_of a).state) p subordinate number (work_of a))) (own ∙ ap (λ o. option_and_then (λ (d : Connection). d.peer) o) there) does)

  -- where it may join, and where not
  module _ (t : Transaction) (address : List ℕ) where
    abbrev joined_if : Bool → Work → Work
    joined_if may work = cond may (alter t.key (enlisting (enlisted address (Some subordinate))) work) work

    abbrev pulled_if : Bool → Work
    pulled_if may = cond may
        (change number (taking (Subordinate t.key (length t.parts))) (alter t.key (enlisting (enlisted address (Some subordinate))) (reply number command.Pull said.Pulled (work_of a))))
        (reply number command.Pull said.NotPulled (work_of a))

    joined_then : (may : Bool) (role : Role) → Some role ≡ cond may (Some (Subordinate t.key (length t.parts))) None → Does a b (joined_if may (work_of a)) → Does b c (change number (taking role) (reply number command.Pull said.Pulled (work_of b))) → Does a c (pulled_if may)
    unfolding reply
    joined_then true role is joins second = subst (λ r. Does a c (change number (taking r) (reply number command.Pull said.Pulled (alter t.key (enlisting (enlisted address (Some subordinate))) (work_of a))))) (same_Some role _ is) (then a b c (λ w. change number (taking role) (reply number command.Pull said.Pulled w)) _ joins second)
    joined_then false role is joins second = absurd (none-some role (sym is))

    not_joined_then : (may : Bool) → None ≡ cond may (Some (Subordinate t.key (length t.parts))) None → Does a b (joined_if may (work_of a)) → Does b c (reply number command.Pull said.NotPulled (work_of b)) → Does a c (pulled_if may)
    not_joined_then true is joins second = absurd (none-some _ is)
    not_joined_then false is joins second = then a b c (reply number command.Pull said.NotPulled) _ joins second

  pub pulls : (role : Role) → Some role ≡ joined_as (identified_by superior (work_of a).state) peer (Some subordinate) → Does b c (change number (taking role) (reply number command.Pull said.Pulled (work_of b))) → Does a c (pull superior subordinate connection (work_of a))
  pulls role is second = pulls_so (step (identified_by superior (work_of a).state) peer is first) where
    step : (found : Option Transaction) (p : Option (List ℕ)) → Some role ≡ joined_as found p (Some subordinate) → Does a b (joining_part found p (Some subordinate) (work_of a)) → Does a c (pull_into found p subordinate number (work_of a))
    step None p is joins = absurd (none-some role (sym is))
    step (Some t) None is joins = absurd (none-some role (sym is))
    step (Some t) (Some address) is joins = joined_then t address (may_join t address (Some subordinate)) role is joins second

  pub pulls_not : None ≡ joined_as (identified_by superior (work_of a).state) peer (Some subordinate) → Does b c (reply number command.Pull said.NotPulled (work_of b)) → Does a c (pull superior subordinate connection (work_of a))
  pulls_not is second = pulls_so (step (identified_by superior (work_of a).state) peer is first) where
    step : (found : Option Transaction) (p : Option (List ℕ)) → None ≡ joined_as found p (Some subordinate) → Does a b (joining_part found p (Some subordinate) (work_of a)) → Does a c (pull_into found p subordinate number (work_of a))
    step None p is joins = then a b c (reply number command.Pull said.NotPulled) _ joins second
    step (Some t) None is joins = then a b c (reply number command.Pull said.NotPulled) _ joins second
    step (Some t) (Some address) is joins = not_joined_then t address (may_join t address (Some subordinate)) is joins second

pub ruleset joining = (joins_nobody, nobody_joins, joins_nowhere, nowhere_joins)
