-- A connection that fits no table of a transaction is on none.
use Rattle.std.proofs.Common.{◌≡◌, true, false, ℕ, suc, zero, Option, Some, None, refl, ap, subst, ◌∙◌}
use Rattle.std.specs.Prelude.{◌&&◌, ◌||◌, is_some, length, nat_le, nat_lt}
use Rattle.std.specs.Option.{option_map_or}
use Rattle.std.proofs.lemmas.Bool.{and_parts, both_ways}
use Rattle.tip_rows.specs.Keys.{Key}
use Rattle.tip_conn.specs.declared.state.State.{State as ConnectionState}
use Rattle.tip_conn.specs.declared.state.State.TheVariants as state
use Rattle.tip_txn.specs.declared.answer.Ballot.{Ballot}
use Rattle.tip_txn.specs.declared.answer.Phase.{Phase}
use Rattle.tip_txn.specs.declared.answer.Phase.TheVariants.{Active, Asking, Prepared, Committed, Aborted}
use Rattle.tip_machine.specs.Invariants.Links.{Link, is_on_none, link, link_on}
use Rattle.tip_machine.specs.Invariants.Links.Link.{Awaits}
use Rattle.tip_machine.specs.Invariants.Phases.{is_part, is_part_in, is_party, is_superior}
use Rattle.tip_machine.specs.States.{Work, connection_of, transaction_of}
use Rattle.tip_machine.specs.Types.{Connection, Transaction}
use Rattle.tip_machine.specs.declared.connection.Awaited.TheVariants as awaited
use Rattle.tip_machine.specs.declared.connection.Purpose.{Purpose}
use Rattle.tip_machine.specs.declared.connection.Role.{Role}
use Rattle.tip_machine.specs.declared.connection.Role.TheVariants.{Superior, Subordinate}
use Rattle.tip_machine.specs.declared.transaction.Origin.{Origin}
use Rattle.tip_machine.specs.declared.transaction.Origin.TheVariants as origin
use Rattle.tip_agreement.proofs.Around.{Whole, is_placed}
use Rattle.tip_agreement.proofs.Closing.{in_table, part_of, part_there, stands_there}
use Rattle.tip_agreement.proofs.Owned.{key_found}
use Rattle.tip_agreement.proofs.Pulling.{link_before}
use Rattle.tip_agreement.proofs.Sound.{part_held}

-- in no table
pub record FitsNone (link : Link) : Type 0 where
  pub above : (phase : Phase) (from : Origin) → is_superior phase from link ≡ true → ⊥
  pub part : (phase : Phase) (answer : Option Ballot) → is_part phase link answer ≡ true → ⊥

module _ (l : Link) (fits : FitsNone l) (c : Connection) (w : Work) (whole : Whole w.state) (there : connection_of c.number w.state ≡ Some c) (now : link_on c.side c ≡ l) where
  never_below : (key : Key) (place : ℕ) (found : Option Transaction) → transaction_of key w.state ≡ found → nat_le 1 place && option_map_or (λ (t : Transaction). nat_lt place (length t.parts)) found false ≡ true → c.role ≡ Some (Subordinate key place) → ⊥
  never_below key place None is range role = both_ways false refl (and_parts (nat_le 1 place) false range).1
  never_below key zero (Some t) is range role = cc
  never_below key (suc m) (Some t) is range role =
      let same = key_found key t w.state is in
      let found = subst (λ k. transaction_of k w.state ≡ Some t) same is in
      let on = subst (λ k. c.role ≡ Some (Subordinate k (suc m))) same role in
      let parts = and_parts (nat_le 1 (suc m)) (nat_lt (suc m) (length t.parts)) range in
      let held = part_held (is_part_in t.phase) (is_party t.phase) t.place (suc m) t.parts t.key w.state.connections parts.0 parts.1 (part_of m t c w whole there found on).owned.parts in
      let holds : is_part_in t.phase l held.part ≡ true = subst (λ l. is_part_in t.phase l held.part ≡ true) (ap link (part_there m t c w whole there found on) ∙ now) held.holds in
      fits.part t.phase held.part.answer (in_table t.phase l held.part holds).fits

  never_above : (key : Key) (found : Option Transaction) → transaction_of key w.state ≡ found → is_some found ≡ true → c.role ≡ Some (Superior key) → ⊥
  never_above key None is some role = cc
  never_above key (Some t) is some role =
      let same = key_found key t w.state is in
      let above = link_before t c w whole there (subst (λ k. transaction_of k w.state ≡ Some t) same is) (subst (λ k. c.role ≡ Some (Superior k)) same role) in
      fits.above t.phase t.origin (subst (λ l. is_superior t.phase t.origin l ≡ true) now above)

  of_none : (role : Option Role) → c.role ≡ role → is_placed w.state role ≡ true → c.role ≡ None
  of_none None role placed = role
  of_none (Some (Superior key)) role placed = absurd (never_above key (transaction_of key w.state) refl placed role)
  of_none (Some (Subordinate key place)) role placed = absurd (never_below key place (transaction_of key w.state) refl placed role)

  pub loose : c.role ≡ None
  loose = of_none c.role refl (stands_there c w whole there).placed

  pub on_none : is_on_none l ≡ true
  on_none = subst (λ l. is_on_none l ≡ true) now (subst (λ r. is_some r || is_on_none (link_on c.side c) ≡ true) loose (stands_there c w whole there).free)

-- Where the answer to QUERY or to IDENTIFY is awaited, or nothing is on an idle connection

query_above : (key : Key) (phase : Phase) (from : Origin) (at : ConnectionState) → is_superior phase from (Awaits at (Some (awaited.Query key))) ≡ true → ⊥
query_above key Active (origin.Subordinate address superior) state.Idle is = cc
query_above key Aborted (origin.Subordinate address superior) state.Idle is = cc
query_above key Asking (origin.Subordinate None superior) at is = cc
query_above key Prepared (origin.Subordinate None superior) at is = cc
query_above key phase from at is = cc

query_part : (key : Key) (phase : Phase) (at : ConnectionState) (answer : Option Ballot) → is_part phase (Awaits at (Some (awaited.Query key))) answer ≡ true → ⊥
query_part key Active state.Idle answer is = cc
query_part key Asking state.Idle answer is = cc
query_part key Prepared state.Idle answer is = cc
query_part key Committed state.Idle answer is = cc
query_part key Aborted state.Idle answer is = cc
query_part key phase at answer is = cc

pub querying : (key : Key) (at : ConnectionState) → FitsNone (Awaits at (Some (awaited.Query key)))
querying key at = record { above = λ phase from. query_above key phase from at; part = λ phase. query_part key phase at }

greeting_above : (purpose : Purpose) (phase : Phase) (from : Origin) (at : ConnectionState) → is_superior phase from (Awaits at (Some (awaited.Identify purpose))) ≡ true → ⊥
greeting_above purpose Active (origin.Subordinate address superior) state.Idle is = cc
greeting_above purpose Aborted (origin.Subordinate address superior) state.Idle is = cc
greeting_above purpose Asking (origin.Subordinate None superior) at is = cc
greeting_above purpose Prepared (origin.Subordinate None superior) at is = cc
greeting_above purpose phase from at is = cc

greeting_part : (purpose : Purpose) (phase : Phase) (at : ConnectionState) (answer : Option Ballot) → is_part phase (Awaits at (Some (awaited.Identify purpose))) answer ≡ true → ⊥
greeting_part purpose Active state.Idle answer is = cc
greeting_part purpose Asking state.Idle answer is = cc
greeting_part purpose Prepared state.Idle answer is = cc
greeting_part purpose Committed state.Idle answer is = cc
greeting_part purpose Aborted state.Idle answer is = cc
greeting_part purpose phase at answer is = cc

pub greeting : (purpose : Purpose) (at : ConnectionState) → FitsNone (Awaits at (Some (awaited.Identify purpose)))
greeting purpose at = record { above = λ phase from. greeting_above purpose phase from at; part = λ phase. greeting_part purpose phase at }

free_above : (phase : Phase) (from : Origin) → is_superior phase from (Awaits state.Idle None) ≡ true → ⊥
free_above Active (origin.Subordinate address superior) is = cc
free_above Aborted (origin.Subordinate address superior) is = cc
free_above Asking (origin.Subordinate None superior) is = cc
free_above Prepared (origin.Subordinate None superior) is = cc
free_above phase from is = cc

free_part : (phase : Phase) (answer : Option Ballot) → is_part phase (Awaits state.Idle None) answer ≡ true → ⊥
free_part Active answer is = cc
free_part Asking answer is = cc
free_part Prepared answer is = cc
free_part Committed answer is = cc
free_part Aborted answer is = cc

pub free : FitsNone (Awaits state.Idle None)
free = record { above = free_above; part = free_part }
