-- The parties that a step gives out and lets go are of the one transaction that it touches.
use Rattle.std.proofs.Common.{◌≡◌, ◌⊎◌, Bool, true, false, ℕ, List, [], ◌∷◌, ◌++◌, Option, Some, None, cond, refl, ap, sym, ◌∙◌, subst, inl, inr}
use Rattle.std.specs.Prelude.{find, length, take}
use Rattle.std.proofs.lemmas.Option.{same_Some, none-some}
use Rattle.std.proofs.lemmas.Slice.Eq.{bytes_eq-Decides}
use Rattle.tip_branch.specs.Notes.{PartyNotes, given}
use Rattle.tip_branch.specs.declared.member.Errand.{Errand}
use Rattle.tip_rows.specs.Keys.{Key}
use Rattle.tip_rows.proofs.OrderLemmas.{same_key}
use Rattle.tip_table.specs.Lists.{changed, without}
use Rattle.tip_machine.specs.Types.{Connection, PartyPlace, Transaction}
use Rattle.tip_machine.specs.Answers.{identifier}
use Rattle.tip_machine.specs.Transactions.{begun, has_key, next_key, standing_at}
use Rattle.tip_machine.specs.States.{Work}
use Rattle.tip_machine.specs.Commands.{make}
use Rattle.tip_machine.specs.Reactions.{react}
use Rattle.tip_machine.specs.Proceeding.{give_out, let_go}
use Rattle.tip_machine.specs.Steps.{AreOwn, IsOwn}
use Rattle.tip_machine.specs.declared.transaction.Origin.{Origin}
use Rattle.tip_machine.specs.declared.transaction.PartyPlace.TheVariants.{Here, Out, Spent}
use Rattle.tip_machine.proofs.Walks.{Closed, Is, IsHere, found_passes}

-- Parties that are their transactions' own

own_changed : (realm : List ℕ) (key : Key) (f : Transaction → Transaction) (ts : List Transaction) → ((t : Transaction) → has_key key t ≡ true → IsOwn realm t → IsOwn realm (f t)) → AreOwn realm ts → AreOwn realm (changed (has_key key) f ts)
own_changed realm key f [] keeps own = tt
own_changed realm key f (t ∷ ts) keeps own = step (has_key key t) refl (own_changed realm key f ts keeps own.1) where
  step : (b : Bool) → has_key key t ≡ b → AreOwn realm (changed (has_key key) f ts) → AreOwn realm (cond b (f t ∷ ts) (t ∷ changed (has_key key) f ts))
  step true is rest = (keeps t is own.0, own.1)
  step false not rest = (own.0, rest)

own_without : (realm : List ℕ) (key : Key) (ts : List Transaction) → AreOwn realm ts → AreOwn realm (without (has_key key) ts)
own_without realm key [] own = tt
own_without realm key (t ∷ ts) own = step (has_key key t) (own_without realm key ts own.1) where
  step : (b : Bool) → AreOwn realm (without (has_key key) ts) → AreOwn realm (cond b ts (t ∷ without (has_key key) ts))
  step true rest = own.1
  step false rest = (own.0, rest)

own_added : (realm : List ℕ) (ts : List Transaction) (t : Transaction) → AreOwn realm ts → IsOwn realm t → AreOwn realm (ts ++ t ∷ [])
own_added realm [] t own last = (last, tt)
own_added realm (x ∷ ts) t own last = (own.0, own_added realm ts t own.1 last)

own_found : (realm : List ℕ) (test : Transaction → Bool) (ts : List Transaction) (t : Transaction) → AreOwn realm ts → find test ts ≡ Some t → IsOwn realm t
own_found realm test [] t own is = absurd (none-some t is)
own_found realm test (x ∷ ts) t own is = step (test x) (own_found realm test ts t own.1) is where
  step : (b : Bool) → (find test ts ≡ Some t → IsOwn realm t) → cond b (Some x) (find test ts) ≡ Some t → IsOwn realm t
  step true later is = subst (IsOwn realm) (same_Some x t is) own.0
  step false later is = later is

here_in : PartyPlace → Option PartyNotes
here_in (Here party) = Some party
here_in (Out errand) = None
here_in Spent = None

same_here : (this that : PartyNotes) → Here this ≡ Here that → this ≡ that
unfolding here_in
same_here this that is = same_Some this that (ap here_in is)

out_own : (realm : List ℕ) (errand : Errand) (t : Transaction) → IsOwn realm (standing_at (Out errand) t)
unfolding here_in
out_own realm errand t party is = absurd (none-some party (ap here_in is))

spent_own : (realm : List ℕ) (t : Transaction) → IsOwn realm (standing_at Spent t)
unfolding here_in
spent_own realm t party is = absurd (none-some party (ap here_in is))

-- Rules

pub record Sends (key : Key) (w v : Work) : Type 0 where
  pub name : v.state.head.name ≡ w.state.head.name
  pub own : AreOwn w.state.head.name w.state.transactions → AreOwn w.state.head.name v.state.transactions
  pub works : AreOwn w.state.head.name w.state.transactions → (party : PartyNotes) → v.answer.work ≡ Some party → (w.answer.work ≡ Some party) ⊎ (party.id ≡ identifier w.state.head.name key)
  pub spends : AreOwn w.state.head.name w.state.transactions → (party : PartyNotes) → v.answer.spent ≡ Some party → (w.answer.spent ≡ Some party) ⊎ (party.id ≡ identifier w.state.head.name key)

module _ (key : Key) where
  -- where no party goes
  stays : (w v : Work) → v.state.head.name ≡ w.state.head.name → (AreOwn w.state.head.name w.state.transactions → AreOwn w.state.head.name v.state.transactions) → v.answer.work ≡ w.answer.work → v.answer.spent ≡ w.answer.spent → Sends key w v
  stays w v name own work spent = record { name = name; own = own; works = λ o party is. inl (sym work ∙ is); spends = λ o party is. inl (sym spent ∙ is) }

  still : (w v : Work) → v.state.head.name ≡ w.state.head.name → v.state.transactions ≡ w.state.transactions → v.answer.work ≡ w.answer.work → v.answer.spent ≡ w.answer.spent → Sends key w v
  still w v name same work spent = stays w v name (subst (AreOwn w.state.head.name) (sym same)) work spent

  -- one after another
  module _ (a b c : Work) (f : Sends key a b) (g : Sends key b c) where
    own_then : AreOwn a.state.head.name a.state.transactions → AreOwn b.state.head.name b.state.transactions
    own_then own = subst (λ n. AreOwn n b.state.transactions) (sym f.name) (f.own own)

    later : (party : PartyNotes) → party.id ≡ identifier b.state.head.name key → party.id ≡ identifier a.state.head.name key
    later party is = is ∙ ap (λ n. identifier n key) f.name

    either_of : (this that : Option PartyNotes) (party : PartyNotes) → ((this ≡ Some party) → (that ≡ Some party) ⊎ (party.id ≡ identifier a.state.head.name key)) → (this ≡ Some party) ⊎ (party.id ≡ identifier b.state.head.name key) → (that ≡ Some party) ⊎ (party.id ≡ identifier a.state.head.name key)
    either_of this that party before (inl same) = before same
    either_of this that party before (inr is) = inr (later party is)

    goes_on : Sends key a c
    goes_on = record {
      name = g.name ∙ f.name;
      own = λ own. subst (λ n. AreOwn n c.state.transactions) f.name (g.own (own_then own));
      works = λ own party is. either_of b.answer.work a.answer.work party (f.works own party) (g.works (own_then own) party is);
      spends = λ own party is. either_of b.answer.spent a.answer.spent party (f.spends own party) (g.spends (own_then own) party is);
    }

  -- the party of a transaction that is here is its own
  here_own : (at : Key) (party : PartyNotes) (w : Work) → at ≡ key → IsHere at party w.state → AreOwn w.state.head.name w.state.transactions → party.id ≡ identifier w.state.head.name key
  here_own at party w on here own =
      let t = here.transaction in
      own_found w.state.head.name (has_key at) w.state.transactions t own here.found party here.place
      ∙ ap (identifier w.state.head.name) (sym (same_key at t.key (found_passes (has_key at) w.state.transactions t here.found)) ∙ on)

  gives : (errand : Errand) (party : PartyNotes) (at : Key) (w : Work) → at ≡ key → IsHere at party w.state → Sends key w (give_out errand party at w)
  gives errand party at w on here = record {
    name = refl;
    own = own_changed w.state.head.name at (standing_at (Out errand)) w.state.transactions (λ t is own. out_own w.state.head.name errand t);
    works = λ own p is. inr (ap (λ (q : PartyNotes). q.id) (sym (same_Some (given party errand) p is)) ∙ here_own at party w on here own);
    spends = λ own p is. inl is;
  }

  lets : (party : PartyNotes) (at : Key) (w : Work) → at ≡ key → IsHere at party w.state → Sends key w (let_go party at w)
  lets party at w on here = record {
    name = refl;
    own = own_changed w.state.head.name at (standing_at Spent) w.state.transactions (λ t is own. spent_own w.state.head.name t);
    works = λ own p is. inl is;
    spends = λ own p is. inr (ap (λ (q : PartyNotes). q.id) (sym (same_Some party p is)) ∙ here_own at party w on here own);
  }

  returned_own : (realm : List ℕ) (party : PartyNotes) (at : Key) (t : Transaction) → party.id ≡ identifier realm at → has_key at t ≡ true → IsOwn realm (standing_at (Here party) t)
  returned_own realm party at t is there p same = ap (λ (q : PartyNotes). q.id) (sym (same_here party p same)) ∙ is ∙ ap (identifier realm) (same_key at t.key there)

  made_own : (realm : List ℕ) (t : Transaction) (party : PartyNotes) → t.place ≡ Here party → party.id ≡ identifier realm t.key → IsOwn realm t
  made_own realm t party at is p same = ap (λ (q : PartyNotes). q.id) (sym (same_here party p (sym at ∙ same))) ∙ is

  has_made : (from : Origin) (c : Connection) (w : Work) → Sends key w (make from c w)
  unfolding make
  has_made from c w =
      let next = next_key w.state.head c in
      let t = begun w.state.head next from (take (length w.state.head.branches) c.boxes) in
      stays w _ refl (λ own. own_added w.state.head.name w.state.transactions t own (made_own w.state.head.name t _ refl refl)) refl refl

  pub closed_by_sends : (May : ℕ → Type 0) → Closed (Sends key) May (Is key)
  unfolding react
  closed_by_sends May = record {
    same = λ w. still w w refl refl refl refl;
    then = goes_on;
    tells = λ n item w may of. still w _ refl refl refl refl;
    dismisses = λ at c w v on found sends. goes_on w v _ sends (still v _ refl refl refl refl);
    gives = gives;
    lets = lets;
    returns = λ party t w on has. stays w _ refl (own_changed w.state.head.name t.key (standing_at (Here party)) w.state.transactions (λ x is own. returned_own w.state.head.name party t.key x ((bytes_eq-Decides party.id (identifier w.state.head.name t.key)).0 has) is)) refl refl;
    hands = λ w boxes. still w _ refl refl refl refl;
    alters = λ at f w on same stands. stays w _ refl (own_changed w.state.head.name at f w.state.transactions (λ t is own p here. own p (sym (stands t) ∙ here) ∙ ap (identifier w.state.head.name) (sym (same t)))) refl refl;
    ends = λ at w on. stays w _ refl (own_without w.state.head.name at w.state.transactions) refl refl;
    makes = λ from c w may on is. has_made from c w;
    changes = λ n f w may same made. still w _ refl refl refl refl;
    reacts = λ reaction at w plain on. still w _ refl refl refl refl;
    takes = λ n w may. still w _ refl refl refl refl;
    displaces = λ at c w v on found sends. goes_on w v _ sends (still v _ refl refl refl refl);
  }

-- Two at once
module _ (R S : Work → Work → Type 0) (May : ℕ → Type 0) (On : Key → Type 0) (r : Closed R May On) (s : Closed S May On) where
  pub both : Closed (λ w v. R w v × S w v) May On
  both = record {
    same = λ w. (r.same w, s.same w);
    then = λ a b c f g. (r.then a b c f.0 g.0, s.then a b c f.1 g.1);
    tells = λ n item w may of. (r.tells n item w may of, s.tells n item w may of);
    dismisses = λ at c w v on found p. (r.dismisses at c w v on found p.0, s.dismisses at c w v on found p.1);
    gives = λ errand party at w on here. (r.gives errand party at w on here, s.gives errand party at w on here);
    lets = λ party at w on here. (r.lets party at w on here, s.lets party at w on here);
    returns = λ party t w on has. (r.returns party t w on has, s.returns party t w on has);
    hands = λ w boxes. (r.hands w boxes, s.hands w boxes);
    alters = λ at f w on same stands. (r.alters at f w on same stands, s.alters at f w on same stands);
    ends = λ at w on. (r.ends at w on, s.ends at w on);
    makes = λ from c w may on is. (r.makes from c w may on is, s.makes from c w may on is);
    changes = λ n f w may same made. (r.changes n f w may same made, s.changes n f w may same made);
    reacts = λ reaction at w plain on. (r.reacts reaction at w plain on, s.reacts reaction at w plain on);
    takes = λ n w may. (r.takes n w may, s.takes n w may);
    displaces = λ at c w v on found p. (r.displaces at c w v on found p.0, s.displaces at c w v on found p.1);
  }
