-- A realm that starts: nobody has acknowledged yet, and each branch in a committed row waits with the party that is here.
use Rattle.std.proofs.Common.{◌≡◌, true, ℕ, suc, List, [], ◌∷◌, Some, refl, ap, subst, sym, arith, ◌∙◌, inl, inr}
use Rattle.std.specs.Prelude.{◌==◌, length, map}
use Rattle.std.specs.List.{list_all}
use Rattle.std.proofs.lemmas.Bool.{and_from, and_parts, or_left, or_right}
use Rattle.std.proofs.lemmas.Bool.Decides.{nat_tests}
use Rattle.std.proofs.lemmas.Option.{same_Some}
use Rattle.tip_branch.specs.Members.{ready_members}
use Rattle.tip_branch.specs.Notes.{PartyNotes}
use Rattle.tip_branch.specs.declared.branch.Badge.{Badge}
use Rattle.tip_branch.specs.declared.member.Errand.{Errand}
use Rattle.tip_rows.specs.Keys.{Key, comes_before}
use Rattle.tip_rows.specs.Logs.{is_rising, row_at}
use Rattle.tip_rows.specs.Rows.{branches_of}
use Rattle.tip_rows.specs.declared.row.Row.{Row}
use Rattle.tip_rows.specs.declared.row.Row.TheVariants as row
use Rattle.tip_txn.specs.Transactions.{willing}
use Rattle.tip_machine.specs.Agreement.Traces.{Moment}
use Rattle.tip_machine.specs.Answers.{identifier}
use Rattle.tip_machine.specs.Moves.{loaded}
use Rattle.tip_machine.specs.Recovery.{Loaded, adopted, reopened, restarted}
use Rattle.tip_machine.specs.Starting.{are_adopted}
use Rattle.tip_machine.specs.Types.{PartyPlace, Transaction}
use Rattle.tip_machine.specs.declared.head.Head.{Head}
use Rattle.tip_machine.specs.declared.transaction.PartyPlace.TheVariants.{Here, Out, Spent}
use Rattle.tip_agreement.proofs.Apart.{all_more}
use Rattle.tip_agreement.proofs.Keys.{key_self}
use Rattle.tip_machine.proofs.Storing.{before_apart}
use Rattle.tip_agreement.proofs.Keeping.{AreCared, AreShown, Cares, in_all, is_cared, is_shown, waits_among}
use Rattle.tip_agreement.proofs.Walking.{In}

-- Rows by their keys

pub rising_at : (rows : List (Key × Row)) → is_rising rows ≡ true → (e : Key × Row) → In e rows → row_at e.0 rows ≡ Some e.1
rising_at [] rising e is = absurd is
rising_at (f ∷ rows) rising e (inl same) = subst (λ (x : Key × Row). row_at x.0 (f ∷ rows) ≡ Some x.1) (sym same) (rw (key_self f.0) refl)
rising_at (f ∷ rows) rising e (inr is) =
    let parts = and_parts (list_all (λ (g : Key × Row). comes_before f.0 g.0) rows) (is_rising rows) rising in
    rw (before_apart f.0 e.0 (in_all (λ (g : Key × Row). comes_before f.0 g.0) rows e parts.0 is)) (rising_at rows parts.1 e is)

-- A transaction is of a row

pub reopened_of : (head : Head) (boxes : Key → List Badge) (rows : List (Key × Row)) (t : Transaction) → In t (map (λ (l : Loaded). reopened head l.key l.boxes l.row) (loaded boxes rows)) → (e : Key × Row) × (In e rows) × (t ≡ reopened head e.0 (boxes e.0) e.1)
reopened_of head boxes [] t is = absurd is
reopened_of head boxes (e ∷ rows) t (inl same) = (e, inl refl, same)
reopened_of head boxes (e ∷ rows) t (inr is) = let of = reopened_of head boxes rows t is in (of.0, inr of.1, of.2)

-- none of its parts has acknowledged
none_acknowledged : (realm : List ℕ) (moments : List Moment) (id : List ℕ) (subs : List (List ℕ × List ℕ)) → list_all (is_shown realm moments id) (map willing subs) ≡ true
none_acknowledged realm moments id [] = refl
none_acknowledged realm moments id (s ∷ subs) = none_acknowledged realm moments id subs

reopened_shown : (realm : List ℕ) (moments : List Moment) (id : List ℕ) (head : Head) (key : Key) (boxes : List Badge) (r : Row) → list_all (is_shown realm moments id) (reopened head key boxes r).parts ≡ true
reopened_shown realm moments id head key boxes (row.Prepared address superior branches subs) = none_acknowledged realm moments id subs
reopened_shown realm moments id head key boxes (row.Committed branches subs) = none_acknowledged realm moments id subs

pub reopened_key : (head : Head) (key : Key) (boxes : List Badge) (r : Row) → (reopened head key boxes r).key ≡ key
reopened_key head key boxes (row.Prepared address superior branches subs) = refl
reopened_key head key boxes (row.Committed branches subs) = refl

-- its branches are ready
number_self : (n : ℕ) → (n == n) ≡ true
number_self n = grind (arith, nat_tests)

one_less : (n m : ℕ) → (suc n == suc m) ≡ true → (n == m) ≡ true
one_less n m is = grind (arith, nat_tests, is)

all_ready : (branches : List (ℕ × List ℕ)) (boxes : List Badge) → (length boxes == length branches) ≡ true → list_all (waits_among (ready_members (map (λ b. b.0) branches) boxes)) branches ≡ true
all_ready [] boxes same = refl
all_ready (b ∷ branches) [] same = absurd (never (length branches) same) where
  never : (n : ℕ) → (0 == suc n) ≡ true → ⊥
  never n is = grind (arith, nat_tests, is)
all_ready (b ∷ branches) (box ∷ boxes) same =
    and_from _ _ (or_left (b.0 == b.0) _ (number_self b.0))
    (all_more (waits_among (ready_members (map (λ b. b.0) branches) boxes)) (waits_among (ready_members (map (λ b. b.0) (b ∷ branches)) (box ∷ boxes))) branches (λ x is. or_right (b.0 == x.0) _ is) (all_ready branches boxes (one_less (length boxes) (length branches) same)))

module _ (realm : List ℕ) (moments : List Moment) (now : ℕ) (head : Head) (boxes : Key → List Badge) (rows : List (Key × Row)) (rising : is_rising rows ≡ true) (fit : are_adopted boxes rows ≡ true) where
  pub restarted_shown : AreShown realm moments (restarted head (loaded boxes rows)).transactions
  restarted_shown t there = let of = reopened_of head boxes rows t there in subst (λ (x : Transaction). list_all (is_shown realm moments (identifier realm t.key)) x.parts ≡ true) (sym of.2) (reopened_shown realm moments (identifier realm t.key) head of.0.0 (boxes of.0.0) of.0.1)

  adopted_cares : (errands : List PartyNotes) (id : List ℕ) (key : Key) (branches : List (ℕ × List ℕ)) (badges : List Badge) → (length badges == length branches) ≡ true → Cares realm moments now errands id (adopted head key branches badges) branches
  adopted_cares errands id key [] badges same = record {
    here = λ party at. refl;
    out = λ e at party there named this. refl;
    spent = λ at. refl;
  }
  adopted_cares errands id key (b ∷ branches) badges same = record {
    here = λ party at. subst (λ (p : PartyNotes). list_all (is_cared realm moments now id p.members) (b ∷ branches) ≡ true) (ap (party_in party) at) (all_more (waits_among (ready_members (map (λ b. b.0) (b ∷ branches)) badges)) (is_cared realm moments now id (ready_members (map (λ b. b.0) (b ∷ branches)) badges)) (b ∷ branches) (λ x is. or_right _ _ is) (all_ready (b ∷ branches) badges same));
    out = λ e at. absurd (never_out e (adopted head key (b ∷ branches) badges) at refl);
    spent = λ at. absurd (never_spent (adopted head key (b ∷ branches) badges) at refl);
  } where
    party_in : PartyNotes → PartyPlace → PartyNotes
    party_in other (Here p) = p
    party_in other place = other

    never_out : (e : Errand) (place : PartyPlace) → place ≡ Out e → place ≡ adopted head key (b ∷ branches) badges → ⊥
    never_out e place out here = let wrong : Out e ≡ adopted head key (b ∷ branches) badges = sym out ∙ here in cc

    never_spent : (place : PartyPlace) → place ≡ Spent → place ≡ adopted head key (b ∷ branches) badges → ⊥
    never_spent place spent here = let wrong : Spent ≡ adopted head key (b ∷ branches) badges = sym spent ∙ here in cc

  row_is : (e : Key × Row) (branches : List (ℕ × List ℕ)) (subs : List (List ℕ × List ℕ)) → In e rows → row_at e.0 rows ≡ Some (row.Committed branches subs) → e.1 ≡ row.Committed branches subs
  row_is e branches subs there at = same_Some e.1 (row.Committed branches subs) (sym (rising_at rows rising e there) ∙ at)

  pub restarted_cared : (errands : List PartyNotes) → AreCared realm moments now (restarted head (loaded boxes rows)).transactions errands rows
  restarted_cared errands t there branches subs at =
      let of = reopened_of head boxes rows t there in
      let e = of.0 in
      let key_is : t.key ≡ e.0 = ap (λ (x : Transaction). x.key) of.2 ∙ reopened_key head e.0 (boxes e.0) e.1 in
      let row : e.1 ≡ row.Committed branches subs = row_is e branches subs of.1 (ap (λ k. row_at k rows) (sym key_is) ∙ at) in
      let place : t.place ≡ adopted head e.0 branches (boxes e.0) = ap (λ (x : Transaction). x.place) (of.2 ∙ ap (reopened head e.0 (boxes e.0)) row) in
      let fits : (length (boxes e.0) == length branches) ≡ true = ap (λ r. length (boxes e.0) == length (branches_of r)) (sym row) ∙ in_all (λ (stored : Key × Row). length (boxes stored.0) == length (branches_of stored.1)) rows e fit of.1 in
      subst (λ p. Cares realm moments now errands (identifier realm t.key) p branches) (sym place) (adopted_cares errands (identifier realm t.key) e.0 branches (boxes e.0) fits)
