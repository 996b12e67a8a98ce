-- What each rule begins with, where all is shown so far: an event, what a part has said, and a party that is here again.
use Rattle.std.proofs.Common.{◌≡◌, true, ℕ, List, [], ◌∷◌, Some, refl, ap, subst, sym, ◌∙◌, inl, inr}
use Rattle.std.specs.Prelude.{◌&&◌, ◌==◌}
use Rattle.std.specs.List.{list_all}
use Rattle.std.specs.Str.{bytes_eq}
use Rattle.std.proofs.lemmas.Bool.{and_parts}
use Rattle.tip_branch.specs.Notes.{PartyNotes}
use Rattle.tip_rows.specs.Keys.{Key, is_same}
use Rattle.tip_rows.specs.Logs.{row_at}
use Rattle.tip_rows.specs.declared.row.Row.{Row}
use Rattle.tip_rows.specs.declared.row.Row.TheVariants as row
use Rattle.tip_rows.proofs.MemoryLemmas.{same_text}
use Rattle.tip_table.specs.Lists.{changed}
use Rattle.tip_txn.specs.declared.answer.Phase.{Phase}
use Rattle.tip_txn.specs.declared.answer.Phase.TheVariants.{Active, Asking, Prepared, Committed, Aborted}
use Rattle.tip_machine.specs.Agreement.Traces.{Moment}
use Rattle.tip_machine.specs.Answers.{identifier}
use Rattle.tip_machine.specs.Changes.{alter}
use Rattle.tip_machine.specs.Invariants.{IsSound}
use Rattle.tip_machine.specs.Invariants.Bounds.{is_spelled}
use Rattle.tip_machine.specs.Invariants.Links.{are_distinct}
use Rattle.tip_machine.specs.Invariants.Parties.{is_due, is_its_own}
use Rattle.tip_machine.specs.Invariants.Phases.{is_transaction}
use Rattle.tip_machine.specs.Invariants.Stored.{are_same_pairs, is_stored_as}
use Rattle.tip_machine.specs.Moves.{World}
use Rattle.tip_machine.specs.States.{Work, transaction_of}
use Rattle.tip_machine.specs.Steps.{entered}
use Rattle.tip_machine.specs.Transactions.{has_id, has_key, pairs}
use Rattle.tip_machine.specs.Types.{PartyPlace, Transaction}
use Rattle.tip_machine.specs.declared.transaction.PartyPlace.TheVariants.{Here, Out}
use Rattle.tip_agreement.proofs.Apart.{all_changed}
use Rattle.tip_agreement.proofs.Bounded.{in_bounds}
use Rattle.tip_agreement.proofs.Keys.{keys_changed, keys_of}
use Rattle.tip_agreement.proofs.Moving.{sound_whole}
use Rattle.tip_agreement.proofs.Onward.{says}
use Rattle.tip_agreement.proofs.Owned.{in_phase}
use Rattle.tip_agreement.proofs.Rows.{to_says}
use Rattle.tip_agreement.proofs.Spelling.{keys_told}
use Rattle.tip_agreement.proofs.Waiting.{waits_for}
use Rattle.tip_agreement.proofs.Keeping.{AreCared, AreShown, Base, Cares, found_in, in_all, in_apart, is_shown}
use Rattle.tip_agreement.proofs.Walking.{In, in_changed, in_found}

-- ROWS of a committed transaction

pub pairs_same : (these those : List (List ℕ × List ℕ)) → are_same_pairs these those ≡ true → these ≡ those
pairs_same [] [] is = refl
pairs_same [] (pair ∷ those) is = absurd (cc)
pairs_same (pair ∷ these) [] is = absurd (cc)
pairs_same (this ∷ these) (that ∷ those) is =
    let both = and_parts (bytes_eq this.0 that.0 && bytes_eq this.1 that.1) (are_same_pairs these those) is in
    let names = and_parts (bytes_eq this.0 that.0) (bytes_eq this.1 that.1) both.0 in
    let one : this ≡ that = λ i. (same_text this.0 that.0 names.0 i, same_text this.1 that.1 names.1 i) in
    (λ i. one i ∷ pairs_same these those both.1 i)

pub stored_committed : (f : Phase) (t : Transaction) (branches : List (ℕ × List ℕ)) (subs : List (List ℕ × List ℕ)) → is_stored_as f t (Some (row.Committed branches subs)) ≡ true → (subs ≡ pairs t) × (f ≡ Committed)
stored_committed Committed t branches subs is = (pairs_same subs (pairs t) is, refl)
stored_committed Prepared t branches subs is = absurd (cc)
stored_committed Active t branches subs is = absurd (cc)
stored_committed Asking t branches subs is = absurd (cc)
stored_committed Aborted t branches subs is = absurd (cc)

-- AN EVENT

module _ (world : World) (sound : IsSound world) (moments : List Moment) where
  abbrev now : ℕ
  now = world.state.head.epoch

  abbrev realm : List ℕ
  realm = world.state.head.name

  apart : are_distinct is_same (keys_of world.state.transactions) ≡ true
  apart = (sound_whole world sound).keys

  spelled : list_all (λ (t : Transaction). is_spelled t.key) world.state.transactions ≡ true
  spelled = (in_bounds world.state sound.bounded).spelled

  pub there : (t : Transaction) → In t world.state.transactions → transaction_of t.key world.state ≡ Some t
  there t is = found_in world.state.transactions t apart is

  owns : (t : Transaction) (p : PartyNotes) → In t world.state.transactions → t.place ≡ Here p → p.id ≡ identifier realm t.key
  owns t p is here =
      let its = (in_phase t.key t world.state (there t is) (in_all (is_transaction world.state) world.state.transactions t sound.transactions is)).owned.own in
      same_text p.id (identifier realm t.key) (and_parts (p.epoch == now) (has_id realm p.id t) (subst (λ q. is_its_own world.state t q ≡ true) here its)).1

  -- a party of its own that is out waits elsewhere
  pub frees : (t : Transaction) (p : PartyNotes) → In t world.state.transactions → t.place ≡ Here p → (party : PartyNotes) → In party world.errands → bytes_eq (identifier realm t.key) party.id ≡ true → (party.epoch == now) ≡ true → ⊥
  frees t p is here party out named this =
      let due = in_all (is_due world.state) world.errands party (and_parts _ (list_all (is_due world.state) world.errands) sound.out).1 out in
      let waits = waits_for world.state party apart due this in
      let u = waits.transaction in
      let u_there = in_found (has_key u.key) world.state.transactions u waits.found in
      let id : identifier realm t.key ≡ identifier realm u.key = same_text (identifier realm t.key) party.id named ∙ same_text party.id (identifier realm u.key) waits.id in
      let key = keys_told realm t.key u.key (in_all (λ (x : Transaction). is_spelled x.key) world.state.transactions t spelled is) (in_all (λ (x : Transaction). is_spelled x.key) world.state.transactions u spelled u_there) id in
      let one = in_apart world.state.transactions apart t u is u_there key in
      let wrong : Here p ≡ Out party.errand = sym here ∙ (ap (λ (x : Transaction). x.place) one ∙ waits.out) in
      cc

  pub fits_row : (t : Transaction) → In t world.state.transactions → is_stored_as t.phase t (row_at t.key world.rows) ≡ true
  fits_row t is = subst (λ o. says o (row_at t.key world.rows) ≡ true) (there t is) ((to_says world.state world.rows sound.stored).1 t.key)

  pub base_entered : AreShown realm moments world.state.transactions → AreCared realm moments now world.state.transactions world.errands world.rows → Base realm moments now (entered world.state) world.errands world.rows
  base_entered shown cared = record {
    apart = apart;
    spelled = spelled;
    own = owns;
    free = frees;
    rising = (to_says world.state world.rows sound.stored).0;
    quiet = refl;
    shown = shown;
    cared = cared;
    pairs_so = λ t is branches subs at. stored_committed t.phase t branches subs (subst (λ r. is_stored_as t.phase t r ≡ true) at (fits_row t is));
  }

-- ONE TRANSACTION IS ALTERED first

pub record Alters (realm : List ℕ) (moments : List Moment) (now : ℕ) (errands : List PartyNotes) (rows : List (Key × Row)) (f : Transaction → Transaction) (t : Transaction) : Type 0 where
  pub own : (p : PartyNotes) → (f t).place ≡ Here p → p.id ≡ identifier realm t.key
  pub free : (p : PartyNotes) → (f t).place ≡ Here p → (party : PartyNotes) → In party errands → bytes_eq (identifier realm t.key) party.id ≡ true → (party.epoch == now) ≡ true → ⊥
  pub shown : list_all (is_shown realm moments (identifier realm t.key)) (f t).parts ≡ true
  pub cared : (branches : List (ℕ × List ℕ)) (subs : List (List ℕ × List ℕ)) → row_at t.key rows ≡ Some (row.Committed branches subs) → Cares realm moments now errands (identifier realm t.key) (f t).place branches
  pub pairs_so : t.phase ≡ Committed → pairs (f t) ≡ pairs t
  pub phase : (f t).phase ≡ t.phase

-- with fewer that are out
cares_fewer : (realm : List ℕ) (moments : List Moment) (now : ℕ) (errands fewer : List PartyNotes) (id : List ℕ) (place : PartyPlace) (branches : List (ℕ × List ℕ)) → ((party : PartyNotes) → In party fewer → In party errands) → Cares realm moments now errands id place branches → Cares realm moments now fewer id place branches
cares_fewer name moments epoch errands fewer id place branches sub cares = record { here = cares.here; out = λ e at party there. cares.out e at party (sub party there); spent = cares.spent }

pub base_altered : (realm : List ℕ) (moments : List Moment) (now : ℕ) (w : Work) (errands fewer : List PartyNotes) (rows : List (Key × Row)) (key : Key) (f : Transaction → Transaction) → ((t : Transaction) → (f t).key ≡ t.key) → ((party : PartyNotes) → In party fewer → In party errands) → Base realm moments now w errands rows → ((t : Transaction) → transaction_of key w.state ≡ Some t → Alters realm moments now fewer rows f t) → Base realm moments now (alter key f w) fewer rows
base_altered realm moments now w errands fewer rows key f same sub base may = record {
  apart = subst (λ ks. are_distinct is_same ks ≡ true) (sym (keys_changed (has_key key) f w.state.transactions same)) base.apart;
  spelled = all_changed (λ (t : Transaction). is_spelled t.key) (has_key key) f w.state.transactions (λ t found is. subst (λ k. is_spelled k ≡ true) (sym (same t)) is) base.spelled;
  own = λ u p there. each (λ u. u.place ≡ Here p → p.id ≡ identifier realm u.key) u (λ is. base.own u p is) (λ t found here. subst (λ k. p.id ≡ identifier realm k) (sym (same t)) ((may t found).own p here)) there;
  free = λ u p there. each (λ u. u.place ≡ Here p → (party : PartyNotes) → In party fewer → bytes_eq (identifier realm u.key) party.id ≡ true → (party.epoch == now) ≡ true → ⊥) u (λ is here party out. base.free u p is here party (sub party out)) (λ t found here party out named. (may t found).free p here party out (subst (λ k. bytes_eq (identifier realm k) party.id ≡ true) (same t) named)) there;
  rising = base.rising;
  quiet = base.quiet;
  shown = λ u there. each (λ u. list_all (is_shown realm moments (identifier realm u.key)) u.parts ≡ true) u (base.shown u) (λ t found. subst (λ k. list_all (is_shown realm moments (identifier realm k)) (f t).parts ≡ true) (sym (same t)) (may t found).shown) there;
  cared = λ u there. each (λ u. (branches : List (ℕ × List ℕ)) (subs : List (List ℕ × List ℕ)) → row_at u.key rows ≡ Some (row.Committed branches subs) → Cares realm moments now fewer (identifier realm u.key) u.place branches) u (λ is branches subs at. cares_fewer realm moments now errands fewer (identifier realm u.key) u.place branches sub (base.cared u is branches subs at)) (λ t found branches subs at. subst (λ k. Cares realm moments now fewer (identifier realm k) (f t).place branches) (sym (same t)) ((may t found).cared branches subs (ap (λ k. row_at k rows) (sym (same t)) ∙ at))) there;
  pairs_so = λ u there. each (λ u. (branches : List (ℕ × List ℕ)) (subs : List (List ℕ × List ℕ)) → row_at u.key rows ≡ Some (row.Committed branches subs) → (subs ≡ pairs u) × (u.phase ≡ Committed)) u (base.pairs_so u) (λ t found branches subs at.
      let old = base.pairs_so t (in_found (has_key key) w.state.transactions t found) branches subs (ap (λ k. row_at k rows) (sym (same t)) ∙ at) in
      (old.0 ∙ sym ((may t found).pairs_so old.1), (may t found).phase ∙ old.1)) there;
} where
  each : (P : Transaction → Type 0) (u : Transaction) → (In u w.state.transactions → P u) → ((t : Transaction) → transaction_of key w.state ≡ Some t → P (f t)) → In u (changed (has_key key) f w.state.transactions) → P u
  each P u old new there = elim (in_changed (has_key key) f w.state.transactions u there) [
    | inl is ↦ old is
    | inr is ↦ subst P (sym is.2) (new is.0 is.1)
  ]
