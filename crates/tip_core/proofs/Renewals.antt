-- The realms where one has started again.
use Rattle.std.proofs.Common.{◌≡◌, ◌≢◌, ◌<◌, ◌≤◌, ◌++◌, ◌⊎◌, ℕ, List, [], Some, length, map, ap, arith, sym, subst, ◌∙◌, inl, inr}
use Rattle.std.specs.Global.{Vec}
use Rattle.std.specs.List.{All}
use Rattle.std.specs.Prelude.{slice_index_or}
use Rattle.std.proofs.lemmas.Bool.{cases_eq, cases_lt}
use Rattle.std.proofs.lemmas.List.Elements.{All-nil}
use Rattle.tip_recovery.specs.Adopting.{Unfinished, loaded}
use Rattle.tip_table.specs.Kept.{of}
use Rattle.tip_machine.proofs.Identifiers.{none_numbered}
use Rattle.tip_machine.specs.Counts.{HasCounts, IsBelow}
use Rattle.tip_machine.specs.Moves.{risen}
use Rattle.tip_machine.specs.Recovery.{restarted}
use Rattle.tip_machine.specs.States.{State, started}
use Rattle.tip_machine.specs.declared.head.Head.{Head}
use Rattle.tip_core.specs.Hosted.{HaveNames, realm}
use Rattle.tip_core.specs.Recovering.{reopened_all}
use Rattle.tip_rules.specs.Works.{HaveCounts, Realms, no_head, state_in, tables_in}
use Rattle.tip_core.proofs.Stepping.{hosted, inside, past, there}
use Rattle.tip_rules.proofs.Lending.{same_state}

-- rows that are taken up by a realm with nothing but what was declared of it
pub rows_taken : (old new : Realms) (place : ℕ) (head : Head) (rows : List Unfinished) → state_in place old ≡ started head → new.heads ≡ old.heads → (state_in place new).connections ≡ (state_in place old).connections → (state_in place new).transactions ≡ (state_in place old).transactions ++ reopened_all head rows → state_in place new ≡ restarted head (map loaded rows)
rows_taken old new place head rows is heads connections joined =
    same_state (state_in place new) (restarted head (map loaded rows))
    (ap (λ (hs : Vec Head). slice_index_or hs.items place no_head) heads ∙ ap (λ (s : State). s.head) is)
    (connections ∙ ap (λ (s : State). s.connections) is)
    (joined ∙ ap (λ (s : State). s.transactions ++ reopened_all head rows) is)

-- a realm without connections has counted none
none_counted : (state : State) (head : Head) → state.head ≡ risen head → state.connections ≡ [] → HasCounts state
none_counted state head is none = record {
  epoch = subst (λ (h : Head). 0 < h.epoch) (sym is) (omega arith);
  given = subst (λ (h : Head). h.given ≤ h.entries) (sym is) (omega arith);
  connections = subst (All (IsBelow state.head.entries)) (sym none) (All-nil (IsBelow state.head.entries));
  numbered = none_numbered state none;
}

module _ (old new : Realms) (turns turns' place : ℕ) (here : place < length old.heads.items) (head : (state_in place new).head ≡ risen (state_in place old).head)
    (others : (other : ℕ) → other ≢ place → state_in other new ≡ state_in other old) (count : length new.heads.items ≡ length old.heads.items) where
  pub counts_renewed : of (tables_in place new).connections place ≡ [] → HaveCounts old → HaveCounts new
  counts_renewed none before other less = elim (cases_eq other place) [
    | inl same ↦ subst (λ p. HasCounts (state_in p new)) (sym same) (none_counted (state_in place new) (state_in place old).head head none)
    | inr differ ↦ subst HasCounts (sym (others other differ)) (before other (omega (arith, count, less)))
  ]

  -- each realm has the name that it had
  was_named : (other : ℕ) (this : State) → realm (hosted new turns') other ≡ Some this → (that : State) × (realm (hosted old turns) other ≡ Some that) × (this.head.name ≡ that.head.name)
  was_named other this is =
      let now = inside new turns' other this is in
      (state_in other old, there old turns other (omega (arith, count, now.0)), ap (λ (s : State). s.head.name) now.1 ∙ named (cases_eq other place)) where
        named : (other ≡ place) ⊎ (other ≢ place) → (state_in other new).head.name ≡ (state_in other old).head.name
        named (inl same) = subst (λ p. (state_in p new).head.name ≡ (state_in p old).head.name) (sym same) (ap (λ (h : Head). h.name) head)
        named (inr differ) = ap (λ (s : State). s.head.name) (others other differ)

  pub names_renewed : HaveNames (hosted old turns) → HaveNames (hosted new turns')
  names_renewed named p q this that at_p at_q same =
      let first = was_named p this at_p in
      let second = was_named q that at_q in
      named p q first.0 second.0 first.1 second.1 (sym first.2 ∙ same ∙ second.2)

  pub others_renewed : (other : ℕ) → other ≢ place → realm (hosted new turns') other ≡ realm (hosted old turns) other
  others_renewed other differ = elim (cases_lt other (length old.heads.items)) [
    | inl less ↦ there new turns' other (omega (arith, count, less)) ∙ ap Some (others other differ) ∙ sym (there old turns other less)
    | inr more ↦ past new turns' other (omega (arith, count, more)) ∙ sym (past old turns other more)
  ]

  -- what the realm is
  pub own_renewed : (was now : State) → realm (hosted old turns) place ≡ Some was → state_in place new ≡ now → realm (hosted new turns') place ≡ Some now
  own_renewed was now is same = there new turns' place (omega (arith, count, here)) ∙ ap Some same

  pub was_so : (was : State) → realm (hosted old turns) place ≡ Some was → state_in place old ≡ was
  was_so was is = sym (inside old turns place was is).1
