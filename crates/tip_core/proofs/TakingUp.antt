-- Realms that take up their stored rows.
use Rattle.std.proofs.Common.{◌≡◌, ◌≢◌, ◌<◌, ◌≤◌, ℕ, List, [], ◌∷◌, ◌++◌, Some, length, map, refl, ap, append_assoc, subst, sym, ◌∙◌, inl, inr}
use Rattle.std.specs.Global.{Vec}
use Rattle.std.specs.Prelude.{slice_index_or}
use Rattle.std.proofs.lemmas.Bool.{cases_eq, cases_lt}
use Rattle.std.proofs.lemmas.List.{map-append}
use Rattle.tip_table.specs.Kept.{of}
use Rattle.tip_machine.specs.Counts.{HasCounts}
use Rattle.tip_machine.specs.Recovery.{reopened}
use Rattle.tip_machine.specs.States.{State}
use Rattle.tip_machine.specs.Types.{seen}
use Rattle.tip_machine.specs.declared.head.Head.{Head}
use Rattle.tip_recovery.specs.Adopting.{AreOf, Unfinished, loaded}
use Rattle.tip_core.specs.Hosted.{HaveNames, realm}
use Rattle.tip_core.specs.Recovering.{reopened_all, taking_up}
use Rattle.tip_outlook.specs.Searches.{HeldTransaction}
use Rattle.tip_rules.specs.Works.{HaveCounts, Realms, Tables, no_head, state_in, tables_in}
use Rattle.tip_rules.proofs.Lending.{same_state}
use Rattle.tip_core.proofs.Stepping.{hosted, inside, past, there}

-- One row more

reopened_more : (head : Head) (rows : List Unfinished) (row : Unfinished) → reopened_all head (rows ++ row ∷ []) ≡ reopened_all head rows ++ reopened head (loaded row).key (loaded row).boxes (loaded row).row ∷ []
reopened_more head [] row = refl
reopened_more head (r ∷ rows) row = ap (λ ts. reopened head (loaded r).key (loaded r).boxes (loaded r).row ∷ ts) (reopened_more head rows row)

pub row_of : (name : List ℕ) (rows rest : List Unfinished) (row : Unfinished) → AreOf name (rows ++ row ∷ rest) → name ≡ row.realm
row_of name [] rest row own = sym own.0
row_of name (r ∷ rows) rest row own = row_of name rows rest row own.1

pub joined : (head : Head) (rows : List Unfinished) (row : Unfinished) (before now after : List HeldTransaction) (made : HeldTransaction) → after ≡ now ++ made ∷ [] → map seen now ≡ map seen before ++ reopened_all head rows → seen made ≡ reopened head (loaded row).key (loaded row).boxes (loaded row).row → map seen after ≡ map seen before ++ reopened_all head (rows ++ row ∷ [])
joined head rows row before now after made is so_far reopens =
    ap (map seen) is ∙ map-append seen now (made ∷ []) ∙ ap (λ ts. ts ++ seen made ∷ []) so_far ∙ append_assoc (map seen before) (reopened_all head rows) (seen made ∷ [])
    ∙ ap (λ t. map seen before ++ (reopened_all head rows ++ t ∷ [])) reopens ∙ ap (λ ts. map seen before ++ ts) (sym (reopened_more head rows row))

-- The realms afterwards

-- realms with the same heads and connections
module _ (old new : Realms) (heads : new.heads ≡ old.heads) (place : ℕ) (connections : (state_in place new).connections ≡ (state_in place old).connections)
    (others : (other : ℕ) → other ≢ place → tables_in other new ≡ tables_in other old) where
  heads_same : (at : ℕ) → (state_in at new).head ≡ (state_in at old).head
  heads_same at = ap (λ (hs : Vec Head). slice_index_or hs.items at no_head) heads

  connections_same : (at : ℕ) → (state_in at new).connections ≡ (state_in at old).connections
  connections_same at = elim (cases_eq at place) [
    | inl same ↦ subst (λ p. (state_in p new).connections ≡ (state_in p old).connections) (sym same) connections
    | inr differ ↦ ap (λ (t : Tables). of t.connections at) (others at differ)
  ]

  was_there : (turns at : ℕ) (this : State) → realm (hosted new turns) at ≡ Some this → (that : State) × (realm (hosted old turns) at ≡ Some that) × (this.head.name ≡ that.head.name)
  was_there turns at this is =
      let now = inside new turns at this is in
      (state_in at old, there old turns at (subst (λ (hs : Vec Head). at < length hs.items) heads now.0), ap (λ (s : State). s.head.name) now.1 ∙ ap (λ (h : Head). h.name) (heads_same at))

  pub names_stay : (turns : ℕ) → HaveNames (hosted old turns) → HaveNames (hosted new turns)
  names_stay turns named at other this that here there same =
      let first = was_there turns at this here in
      let second = was_there turns other that there in
      named at other first.0 second.0 first.1 second.1 (sym first.2 ∙ same ∙ second.2)

  pub counts_stay : HaveCounts old → HaveCounts new
  counts_stay counts at less =
      let has = counts at (subst (λ (hs : Vec Head). at < length hs.items) heads less) in
      let so : HasCounts (record (state_in at old) { transactions = (state_in at new).transactions }) = record { epoch = has.epoch; given = has.given; connections = has.connections; numbered = has.numbered } in
      subst HasCounts (sym (same_state (state_in at new) (record (state_in at old) { transactions = (state_in at new).transactions }) (heads_same at) (connections_same at) refl)) so

  -- every other realm stays
  other_same : (at : ℕ) → at ≢ place → state_in at new ≡ state_in at old
  other_same at differ = same_state (state_in at new) (state_in at old) (heads_same at) (connections_same at) (ap (λ (t : Tables). map seen (of t.transactions at)) (others at differ))

  pub all_same : state_in place new ≡ state_in place old → (at : ℕ) → state_in at new ≡ state_in at old
  all_same own at = elim (cases_eq at place) [
    | inl same ↦ subst (λ p. state_in p new ≡ state_in p old) (sym same) own
    | inr differ ↦ other_same at differ
  ]

  pub others_same : (turns at : ℕ) → at ≢ place → realm (hosted new turns) at ≡ realm (hosted old turns) at
  others_same turns at differ = elim (cases_lt at (length old.heads.items)) [
    | inl less ↦ there new turns at (subst (λ (hs : Vec Head). at < length hs.items) (sym heads) less) ∙ ap Some (other_same at differ) ∙ sym (there old turns at less)
    | inr more ↦ past new turns at (subst (λ (hs : Vec Head). length hs.items ≤ at) (sym heads) more) ∙ sym (past old turns at more)
  ]

  -- what the realm is with the transactions of its rows
  pub own_taken : (turns : ℕ) (rows : List Unfinished) → place < length old.heads.items → (state_in place new).transactions ≡ (state_in place old).transactions ++ reopened_all (state_in place old).head rows → realm (hosted new turns) place ≡ Some (taking_up rows (state_in place old))
  own_taken turns rows less joined = there new turns place (subst (λ (hs : Vec Head). place < length hs.items) (sym heads) less) ∙ ap Some (same_state (state_in place new) (taking_up rows (state_in place old)) (heads_same place) connections joined)
