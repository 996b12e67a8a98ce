-- Who is out stays awaited.
use Rattle.std.proofs.Common.{◌≡◌, Bool, true, false, ℕ, List, [], ◌∷◌, ◌++◌, Option, Some, None, cond, refl, ap, subst, sym, arith, ◌∙◌, inl, inr}
use Rattle.std.specs.Prelude.{◌&&◌, ◌||◌, ◌==◌, filter, find, nat_le, not}
use Rattle.std.specs.List.{list_all, list_any}
use Rattle.std.specs.Option.{option_map_or, option_to_list}
use Rattle.std.specs.Str.{bytes_eq}
use Rattle.std.proofs.lemmas.Bool.{and_from, and_parts, both_ways, cases_Bool, not-true, or_from, or_parts}
use Rattle.std.proofs.lemmas.Bool.Decides.{nat_tests}
use Rattle.std.proofs.lemmas.Option.{none-some}
use Rattle.tip_branch.specs.Notes.{PartyNotes}
use Rattle.tip_branch.specs.declared.member.Errand.{Errand}
use Rattle.tip_branch.specs.declared.member.Errand.TheVariants as errand
use Rattle.tip_rows.specs.Keys.{Key, is_same}
use Rattle.tip_rows.proofs.MemoryLemmas.{bytes_eq-self, same_text}
use Rattle.tip_rows.proofs.OrderLemmas.{same_key}
use Rattle.tip_machine.specs.Answers.{identifier}
use Rattle.tip_table.specs.Lists.{changed}
use Rattle.tip_machine.specs.Invariants.Bounds.{is_spelled}
use Rattle.tip_machine.specs.Invariants.Links.{are_distinct}
use Rattle.tip_machine.specs.Invariants.Parties.{are_out, is_due, is_of_this_start, is_out_for, is_same_errand, is_sent}
use Rattle.tip_machine.specs.Requests.{owner}
use Rattle.tip_machine.specs.States.{State, Work, identified_by, transaction_of}
use Rattle.tip_machine.specs.Transactions.{has_id, has_key, standing_at}
use Rattle.tip_machine.specs.Types.{PartyPlace, Transaction}
use Rattle.tip_machine.specs.declared.event.Change.{Change}
use Rattle.tip_machine.specs.declared.transaction.PartyPlace.TheVariants.{Here, Out, Spent}
use Rattle.tip_agreement.proofs.Apart.{all_added, all_more}
use Rattle.tip_agreement.proofs.Around.{other_found}
use Rattle.tip_agreement.proofs.Bounded.{AreSpelled, found_by_id, spelled_at}
use Rattle.tip_agreement.proofs.Commanded.{Grown}
use Rattle.tip_agreement.proofs.Found.{apart_more}
use Rattle.tip_agreement.proofs.Keys.{keys_of}
use Rattle.tip_agreement.proofs.Making.{found_before}
use Rattle.tip_agreement.proofs.Onward.{Onward, Sends}
use Rattle.tip_agreement.proofs.Owned.{key_found}
use Rattle.tip_agreement.proofs.Returned.{Owns, awaited_at, owns}
use Rattle.tip_agreement.proofs.Sound.{found_own}
use Rattle.tip_agreement.proofs.Spelling.{keys_told}
use Rattle.std.proofs.lemmas.List.{append-nil}

-- The transaction that waits for a party

pub record Waits (party : PartyNotes) (s : State) : Type 0 where
  pub transaction : Transaction
  pub found : transaction_of transaction.key s ≡ Some transaction
  pub id : has_id s.head.name party.id transaction ≡ true
  pub out : transaction.place ≡ Out party.errand

out_place : (e : Errand) (place : PartyPlace) → is_out_for e place ≡ true → place ≡ Out e
out_place e (Out at) is = ap Out (sym (awaited_at e at is))
out_place e (Here party) is = absurd (cc)
out_place e Spent is = absurd (cc)

-- one of this start that is due
pub waits_for : (s : State) (party : PartyNotes) → are_distinct is_same (keys_of s.transactions) ≡ true → is_due s party ≡ true → is_of_this_start s party ≡ true → Waits party s
waits_for s party apart due here = step (owner party s) refl (subst (λ b. not b || option_map_or (λ (t : Transaction). is_out_for party.errand t.place) (owner party s) false ≡ true) here (and_parts _ (not (is_of_this_start s party) || option_map_or (λ (t : Transaction). is_out_for party.errand t.place) (owner party s) false) due).1) where
  in_start : (b : Bool) (t : Transaction) → cond b (identified_by party.id s) None ≡ Some t → identified_by party.id s ≡ Some t
  in_start true t is = is
  in_start false t is = absurd (none-some t is)

  step : (found : Option Transaction) → owner party s ≡ found → option_map_or (λ (t : Transaction). is_out_for party.errand t.place) found false ≡ true → Waits party s
  step None is out = absurd (cc)
  step (Some t) is out = record { transaction = t; found = found_own (has_id s.head.name party.id) t s.transactions apart (in_start (party.epoch == s.head.epoch) t is); id = (owns party s t is).id; out = out_place party.errand t.place out }

same_errand : (e : Errand) (party : PartyNotes) → is_sent e party ≡ true → is_same_errand e e ≡ true
same_errand errand.Vote party is = refl
same_errand errand.Commit party is = refl
same_errand errand.Abort party is = refl
same_errand errand.Idle party is = absurd (cc)

-- where its transaction waits for it, it is due
pub due_so : (s : State) (party : PartyNotes) → AreSpelled s → nat_le party.epoch s.head.epoch ≡ true → is_sent party.errand party ≡ true → (is_of_this_start s party ≡ true → Waits party s) → is_due s party ≡ true
due_so s party spelled le sent waits = and_from _ _ (and_from _ _ le sent) (step (is_of_this_start s party) refl) where
  owned : (b : Bool) (t : Transaction) → b ≡ true → identified_by party.id s ≡ Some t → cond b (identified_by party.id s) None ≡ Some t
  owned true t is found = found
  owned false t is found = absurd (cc)

  step : (b : Bool) → is_of_this_start s party ≡ b → not b || option_map_or (λ (t : Transaction). is_out_for party.errand t.place) (owner party s) false ≡ true
  step false is = refl
  step true is =
      let w = waits is in
      let found = owned (party.epoch == s.head.epoch) w.transaction is (found_by_id party.id s w.transaction spelled w.found w.id) in
      subst (λ o. option_map_or (λ (t : Transaction). is_out_for party.errand t.place) o false ≡ true) (sym found) (subst (λ p. is_out_for party.errand p ≡ true) (sym w.out) (same_errand party.errand party sent))

-- Parties that were due are due after it

record Later (old new : State) : Type 0 where
  epoch : new.head.epoch ≡ old.head.epoch
  name : new.head.name ≡ old.head.name
  spelled : AreSpelled new
  apart : are_distinct is_same (keys_of old.transactions) ≡ true

-- the same party is waited for
module _ (old new : State) (later : Later old new) (party : PartyNotes) (waits : (t : Transaction) → transaction_of t.key old ≡ Some t → has_id old.head.name party.id t ≡ true → t.place ≡ Out party.errand → (u : Transaction) × (transaction_of t.key new ≡ Some u) × (u.place ≡ Out party.errand)) where
  waits_still : Waits party old → Waits party new
  waits_still w =
      let u = waits w.transaction w.found w.id w.out in
      let same = key_found w.transaction.key u.0 new u.1 in
      record {
        transaction = u.0;
        found = subst (λ k. transaction_of k new ≡ Some u.0) same u.1;
        id = subst (λ n. has_id n party.id u.0 ≡ true) (sym later.name) (subst (λ k. bytes_eq party.id (identifier old.head.name k) ≡ true) same w.id);
        out = u.2;
      }

  due_still : is_due old party ≡ true → is_due new party ≡ true
  due_still due =
      let a = and_parts (nat_le party.epoch old.head.epoch && is_sent party.errand party) _ due in
      let b = and_parts (nat_le party.epoch old.head.epoch) (is_sent party.errand party) a.0 in
      due_so new party later.spelled (subst (λ e. nat_le party.epoch e ≡ true) (sym later.epoch) b.0) b.1 (λ here. waits_still (waits_for old party later.apart due (subst (λ e. (party.epoch == e) ≡ true) later.epoch here)))

same_start : (old new : State) (errands : List PartyNotes) → new.head.epoch ≡ old.head.epoch → filter (is_of_this_start new) errands ≡ filter (is_of_this_start old) errands
same_start old new errands epoch = ap (λ e. filter (λ (p : PartyNotes). p.epoch == e) errands) epoch

-- NOBODY COMES BACK

module _ (change : Option Change) (key : Key) (w v : Work) (onward : Onward change key w v) (apart : are_distinct is_same (keys_of w.state.transactions) ≡ true) (spelled : AreSpelled v.state) (errands : List PartyNotes) (out : are_out w.state errands ≡ true) where
  later : Later w.state v.state
  later = record { epoch = onward.epoch; name = onward.name; spelled = spelled; apart = apart }

  all_due : list_all (is_due v.state) errands ≡ true
  all_due = all_more (is_due w.state) (is_due v.state) errands (λ party due. due_still w.state v.state later party (λ t found id at. (onward.turns t.key).out t party.errand found at) due) (and_parts _ (list_all (is_due w.state) errands) out).1

  apart_still : are_distinct (λ (this that : PartyNotes). bytes_eq this.id that.id) (filter (is_of_this_start v.state) errands) ≡ true
  apart_still = subst (λ ps. are_distinct (λ (this that : PartyNotes). bytes_eq this.id that.id) ps ≡ true) (sym (same_start w.state v.state errands onward.epoch)) (and_parts _ (list_all (is_due w.state) errands) out).0

  -- a party goes out
  module _ (s : Sends key w v) where
    found_mine : transaction_of s.transaction.key v.state ≡ Some s.transaction
    found_mine = subst (λ k. transaction_of k v.state ≡ Some s.transaction) (key_found key s.transaction v.state s.found) s.found

    sent_waits : Waits s.party v.state
    sent_waits = record {
      transaction = s.transaction;
      found = found_mine;
      id = subst (λ n. has_id n s.party.id s.transaction ≡ true) (sym onward.name) s.id;
      out = s.out;
    }

    in_start : is_of_this_start v.state s.party ≡ true
    in_start = subst (λ e. (s.party.epoch == e) ≡ true) (sym onward.epoch) s.epoch

    sent_due : is_due v.state s.party ≡ true
    sent_due = due_so v.state s.party spelled (at_most s.party.epoch v.state.head.epoch in_start) s.sent (λ here. sent_waits) where
      at_most : (m n : ℕ) → (m == n) ≡ true → nat_le m n ≡ true
      at_most m n same = grind (arith, nat_tests, same)

    -- none that is out is of its transaction
    none_same : (party : PartyNotes) → is_due v.state party ≡ true → is_due w.state party ≡ true → is_of_this_start v.state party ≡ true → bytes_eq party.id s.party.id ≡ false
    none_same party due before here = elim (cases_Bool (bytes_eq party.id s.party.id)) [
      | inr not ↦ not
      | inl is ↦
          let was = waits_for w.state party apart before (subst (λ e. (party.epoch == e) ≡ true) onward.epoch here) in
          let now = (onward.turns was.transaction.key).out was.transaction party.errand was.found was.out in
          let kept = key_found was.transaction.key now.0 v.state now.1 in
          let fits = spelled_at v.state now.0 spelled (subst (λ k. transaction_of k v.state ≡ Some now.0) kept now.1) in
          let mine = key_found key s.transaction v.state s.found in
          let fits_mine = spelled_at v.state s.transaction spelled found_mine in
          let same : was.transaction.key ≡ s.transaction.key = keys_told w.state.head.name was.transaction.key s.transaction.key (subst (λ k. is_spelled k ≡ true) (sym kept) fits) fits_mine (sym (same_text party.id (identifier w.state.head.name was.transaction.key) was.id) ∙ (same_text party.id s.party.id is ∙ same_text s.party.id (identifier w.state.head.name s.transaction.key) s.id)) in
          absurd (s.before was.transaction party.errand (subst (λ k. transaction_of k w.state ≡ Some was.transaction) (same ∙ sym mine) was.found) was.out)
    ]

    none_of : (ps : List PartyNotes) → list_all (is_due v.state) ps ≡ true → list_all (is_due w.state) ps ≡ true → list_any (λ (p : PartyNotes). bytes_eq p.id s.party.id) (filter (is_of_this_start v.state) ps) ≡ false
    none_of [] now before = refl
    none_of (p ∷ ps) now before =
        let these = and_parts (is_due v.state p) _ now in
        let those = and_parts (is_due w.state p) _ before in
        step (is_of_this_start v.state p) refl (none_same p these.0 those.0) (none_of ps these.1 those.1) where
          step : (b : Bool) → is_of_this_start v.state p ≡ b → (is_of_this_start v.state p ≡ true → bytes_eq p.id s.party.id ≡ false) → list_any (λ (p : PartyNotes). bytes_eq p.id s.party.id) (filter (is_of_this_start v.state) ps) ≡ false → list_any (λ (p : PartyNotes). bytes_eq p.id s.party.id) (cond b (p ∷ filter (is_of_this_start v.state) ps) (filter (is_of_this_start v.state) ps)) ≡ false
          step true is differs rest = or_from _ _ (differs is) rest
          step false is differs rest = rest

    last : (ps : List PartyNotes) → filter (is_of_this_start v.state) (ps ++ s.party ∷ []) ≡ filter (is_of_this_start v.state) ps ++ s.party ∷ []
    last [] = rw in_start refl
    last (p ∷ ps) = step (is_of_this_start v.state p) (last ps) where
      step : (b : Bool) → filter (is_of_this_start v.state) (ps ++ s.party ∷ []) ≡ filter (is_of_this_start v.state) ps ++ s.party ∷ [] → cond b (p ∷ filter (is_of_this_start v.state) (ps ++ s.party ∷ [])) (filter (is_of_this_start v.state) (ps ++ s.party ∷ [])) ≡ cond b (p ∷ filter (is_of_this_start v.state) ps) (filter (is_of_this_start v.state) ps) ++ s.party ∷ []
      step true rest = ap (λ qs. p ∷ qs) rest
      step false rest = rest

    out_more : are_out v.state (errands ++ s.party ∷ []) ≡ true
    out_more = and_from _ _ (subst (λ ps. are_distinct (λ (this that : PartyNotes). bytes_eq this.id that.id) ps ≡ true) (sym (last errands)) (apart_more (λ (this that : PartyNotes). bytes_eq this.id that.id) (filter (is_of_this_start v.state) errands) s.party (none_of errands all_due (and_parts _ (list_all (is_due w.state) errands) out).1) apart_still)) (all_added (is_due v.state) errands s.party all_due sent_due)

  pub out_onward : w.answer.work ≡ None → are_out v.state (errands ++ option_to_list v.answer.work) ≡ true
  out_onward quiet = elim onward.sends [
    | inl same ↦ subst (λ o. are_out v.state (errands ++ option_to_list o) ≡ true) (sym (same ∙ quiet)) (subst (λ ps. are_out v.state ps ≡ true) (sym (append-nil errands)) (and_from _ _ apart_still all_due))
    | inr s ↦ subst (λ o. are_out v.state (errands ++ option_to_list o) ≡ true) (sym s.now) (out_more s)
  ]

-- a transaction more waits for nobody
pub out_grown : (w v : Work) → Grown w v → are_distinct is_same (keys_of w.state.transactions) ≡ true → AreSpelled v.state → (errands : List PartyNotes) → are_out w.state errands ≡ true → w.answer.work ≡ None → are_out v.state (errands ++ option_to_list v.answer.work) ≡ true
out_grown w v grown apart spelled errands out quiet =
    subst (λ o. are_out v.state (errands ++ option_to_list o) ≡ true) (sym (grown.work ∙ quiet)) (subst (λ ps. are_out v.state ps ≡ true) (sym (append-nil errands))
    (and_from _ _ (subst (λ ps. are_distinct (λ (this that : PartyNotes). bytes_eq this.id that.id) ps ≡ true) (sym (same_start w.state v.state errands grown.epoch)) (and_parts _ (list_all (is_due w.state) errands) out).0)
    (all_more (is_due w.state) (is_due v.state) errands (λ party due. due_still w.state v.state (record { epoch = grown.epoch; name = grown.name; spelled = spelled; apart = apart }) party (λ t found id at. (t, subst (λ ts. find (has_key t.key) ts ≡ Some t) (sym grown.transactions) (found_before (has_key t.key) w.state.transactions grown.new t found), at)) due) (and_parts _ (list_all (is_due w.state) errands) out).1)))

-- ONE COMES BACK: the others wait as before

pub out_here : (s : State) (party back : PartyNotes) (t : Transaction) (errands : List PartyNotes) → are_distinct is_same (keys_of s.transactions) ≡ true → AreSpelled s → AreSpelled (record s { transactions = changed (has_key t.key) (standing_at (Here back)) s.transactions }) → transaction_of t.key s ≡ Some t → Owns party s t → are_out s (party ∷ errands) ≡ true → are_out (record s { transactions = changed (has_key t.key) (standing_at (Here back)) s.transactions }) errands ≡ true
out_here s party back t errands apart spelled spelled_here found its out =
    let now = record s { transactions = changed (has_key t.key) (standing_at (Here back)) s.transactions } in
    let both = and_parts _ (list_all (is_due s) (party ∷ errands)) out in
    let due = and_parts (is_due s party) (list_all (is_due s) errands) both.1 in
    let first = subst (λ b. are_distinct (λ (this that : PartyNotes). bytes_eq this.id that.id) (cond b (party ∷ filter (is_of_this_start s) errands) (filter (is_of_this_start s) errands)) ≡ true) its.epoch both.0 in
    let parts = and_parts (not (list_any (λ (q : PartyNotes). bytes_eq party.id q.id) (filter (is_of_this_start s) errands))) _ first in
    and_from _ _ parts.1 (each now (record { epoch = refl; name = refl; spelled = spelled_here; apart = apart }) (λ u differs there. other_found t.key s (standing_at (Here back)) (λ t. refl) u.key differs ∙ there) errands (not-true _ parts.0) due.1) where
      others : (q : PartyNotes) → bytes_eq party.id q.id ≡ false → (u : Transaction) → transaction_of u.key s ≡ Some u → has_id s.head.name q.id u ≡ true → is_same t.key u.key ≡ false
      others q differs u there id = elim (cases_Bool (is_same t.key u.key)) [
        | inr not ↦ not
        | inl is ↦
            let same = same_key t.key u.key is in
            let text : party.id ≡ q.id = same_text party.id (identifier s.head.name t.key) its.id ∙ (ap (identifier s.head.name) same ∙ sym (same_text q.id (identifier s.head.name u.key) id)) in
            absurd (both_ways (bytes_eq party.id q.id) differs (subst (λ x. bytes_eq party.id x ≡ true) text (bytes_eq-self party.id)))
      ]

      one : (now : State) → Later s now → ((u : Transaction) → is_same t.key u.key ≡ false → transaction_of u.key s ≡ Some u → transaction_of u.key now ≡ Some u) → (q : PartyNotes) → (is_of_this_start s q ≡ true → bytes_eq party.id q.id ≡ false) → is_due s q ≡ true → is_due now q ≡ true
      one now later stays q differs due =
          let a = and_parts (nat_le q.epoch s.head.epoch && is_sent q.errand q) _ due in
          let b = and_parts (nat_le q.epoch s.head.epoch) (is_sent q.errand q) a.0 in
          due_so now q later.spelled (subst (λ e. nat_le q.epoch e ≡ true) (sym later.epoch) b.0) b.1 (λ here.
          let old : is_of_this_start s q ≡ true = subst (λ e. (q.epoch == e) ≡ true) later.epoch here in
          waits_still s now later q (λ u there id at. (u, stays u (others q (differs old) u there id) there, at)) (waits_for s q apart due old))

      each : (now : State) → Later s now → ((u : Transaction) → is_same t.key u.key ≡ false → transaction_of u.key s ≡ Some u → transaction_of u.key now ≡ Some u) → (qs : List PartyNotes) → list_any (λ (q : PartyNotes). bytes_eq party.id q.id) (filter (is_of_this_start s) qs) ≡ false → list_all (is_due s) qs ≡ true → list_all (is_due now) qs ≡ true
      each now later stays [] none due = refl
      each now later stays (q ∷ qs) none due = let parts = and_parts (is_due s q) (list_all (is_due s) qs) due in split (is_of_this_start s q) refl none parts.0 (λ rest. each now later stays qs rest parts.1) where
        split : (b : Bool) → is_of_this_start s q ≡ b → list_any (λ (q : PartyNotes). bytes_eq party.id q.id) (cond b (q ∷ filter (is_of_this_start s) qs) (filter (is_of_this_start s) qs)) ≡ false → is_due s q ≡ true → (list_any (λ (q : PartyNotes). bytes_eq party.id q.id) (filter (is_of_this_start s) qs) ≡ false → list_all (is_due now) qs ≡ true) → list_all (is_due now) (q ∷ qs) ≡ true
        split true is none due rest = let none_of = or_parts (bytes_eq party.id q.id) _ none in and_from _ _ (one now later stays q (λ here. none_of.0) due) (rest none_of.1)
        split false is none due rest = and_from _ _ (one now later stays q (λ here. absurd (both_ways (is_of_this_start s q) is here)) due) (rest none)
