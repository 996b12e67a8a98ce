-- How transactions go on over the rules of two-phase commit: what their parts have said stays so, and where their parties go.
use Rattle.std.proofs.Common.{◌≡◌, Bool, true, false, ℕ, zero, suc, List, [], ◌∷◌, ◌++◌, Option, Some, None, cond, refl, ap, subst, sym, ◌∙◌, ◌⊎◌, inl, inr}
use Rattle.std.specs.Prelude.{◌&&◌, not, find, is_some}
use Rattle.std.specs.List.{list_all, list_any}
use Rattle.std.proofs.lemmas.Bool.{and_from, and_parts}
use Rattle.std.proofs.lemmas.Option.{none-some, same_Some}
use Rattle.tip_branch.specs.Notes.{PartyNotes, given}
use Rattle.tip_branch.specs.declared.member.Errand.{Errand}
use Rattle.tip_branch.specs.declared.member.Errand.TheVariants as errand
use Rattle.tip_line.specs.declared.command.CommandName.{CommandName}
use Rattle.tip_line.specs.declared.command.CommandName.TheVariants as command
use Rattle.tip_rows.specs.Keys.{Key}
use Rattle.tip_rows.specs.declared.row.Row.TheVariants as row
use Rattle.tip_table.specs.Lists.{changed, without}
use Rattle.tip_txn.specs.Parts.{answer_at, answered, changed_at}
use Rattle.tip_txn.specs.declared.answer.Ballot.{Ballot}
use Rattle.tip_txn.specs.declared.answer.Ballot.TheVariants.{Lost, No, ReadOnly, Yes}
use Rattle.tip_txn.specs.declared.answer.Decision.{Decision}
use Rattle.tip_txn.specs.declared.answer.Decision.TheVariants as decision
use Rattle.tip_txn.specs.declared.answer.Phase.{Phase}
use Rattle.tip_txn.specs.declared.answer.Phase.TheVariants.{Active, Asking, Prepared, Committed, Aborted}
use Rattle.tip_txn.specs.declared.part.Participant.{Participant}
use Rattle.tip_machine.specs.Changes.{alter, attempt_on, end, on, tell}
use Rattle.tip_machine.specs.Connections.{is_on}
use Rattle.tip_machine.specs.Failing.{closed, fail, gone, missed, part_lost, superior_lost, wrong}
use Rattle.tip_machine.specs.Proceeding.{abort, agree, ask, asked_for_votes, commit, conclude, dispatch, dispatched, enter, errand_in, finish, give_out, leave, let_go, owed_to_superior, proceed, proceed_in, promise, release, wait}
use Rattle.tip_machine.specs.Reactions.{Reaction, aborts, asks, commits, needs_nothing, promises, react}
use Rattle.tip_machine.specs.States.{Attempt, Work, transaction_of}
use Rattle.tip_machine.specs.Steps.{key_changed}
use Rattle.tip_machine.specs.Transactions.{decision_of, entering, has_key, has_ready, is_done, is_spent, noting, promised, standing_at}
use Rattle.tip_machine.specs.Types.{Connection, PartyPlace, Transaction}
use Rattle.tip_machine.specs.declared.answer.Item.TheVariants.{Close, Say}
use Rattle.tip_machine.specs.declared.answer.Said.TheVariants as said
use Rattle.tip_machine.specs.declared.connection.Role.{Role}
use Rattle.tip_machine.specs.declared.connection.Role.TheVariants.{Superior, Subordinate}
use Rattle.tip_machine.specs.declared.event.Change.{Change}
use Rattle.tip_machine.specs.declared.event.Change.TheVariants.{Put, Remove}
use Rattle.tip_machine.specs.declared.transaction.Origin.{Origin}
use Rattle.tip_machine.specs.declared.transaction.Origin.TheVariants as origin
use Rattle.tip_machine.specs.declared.transaction.PartyPlace.TheVariants.{Here, Out, Spent}
use Rattle.tip_machine.proofs.Walks.{there_by_key}
use Rattle.tip_agreement.proofs.Around.{found_altered}

-- One of a list

abbrev pub In : {T : Type 0} → T → List T → Type 0
In x [] = ⊥
In x (y ∷ ys) = (x ≡ y) ⊎ In x ys

pub in_found : {T : Type 0} (p : T → Bool) (xs : List T) (x : T) → find p xs ≡ Some x → In x xs
in_found p [] x is = absurd (none-some x is)
in_found p (y ∷ ys) x is = step (p y) is (in_found p ys x) where
  step : (b : Bool) → cond b (Some y) (find p ys) ≡ Some x → (find p ys ≡ Some x → In x ys) → (x ≡ y) ⊎ In x ys
  step true is later = inl (sym (same_Some y x is))
  step false is later = inr (later is)

pub in_without : {T : Type 0} (p : T → Bool) (xs : List T) (x : T) → In x (without p xs) → In x xs
in_without p [] x is = is
in_without p (y ∷ ys) x is = step (p y) is (in_without p ys x) where
  step : (b : Bool) → In x (cond b ys (y ∷ without p ys)) → (In x (without p ys) → In x ys) → (x ≡ y) ⊎ In x ys
  step true is later = inr is
  step false (inl same) later = inl same
  step false (inr is) later = inr (later is)

-- it was there, or it is the one that was found and changed
pub in_changed : {T : Type 0} (p : T → Bool) (f : T → T) (xs : List T) (x : T) → In x (changed p f xs) → (In x xs) ⊎ ((y : T) × (find p xs ≡ Some y) × (x ≡ f y))
in_changed p f [] x is = absurd is
in_changed p f (y ∷ ys) x is = step (p y) is (in_changed p f ys x) where
  step : (b : Bool) → In x (cond b (f y ∷ ys) (y ∷ changed p f ys)) → (In x (changed p f ys) → (In x ys) ⊎ ((z : _) × (find p ys ≡ Some z) × (x ≡ f z))) → ((x ≡ y) ⊎ In x ys) ⊎ ((z : _) × (cond b (Some y) (find p ys) ≡ Some z) × (x ≡ f z))
  step true (inl same) later = inr (y, refl, same)
  step true (inr is) later = inl (inr is)
  step false (inl same) later = inl (inl same)
  step false (inr is) later = elim (later is) [ inl there ↦ inl (inr there) | inr new ↦ inr new ]

-- PARTS: what each has said stays so; one that has said nothing may be lost; a new one has said nothing

abbrev pub is_unheard : Option Ballot → Bool
is_unheard None = true
is_unheard (Some Lost) = true
is_unheard (Some Yes) = false
is_unheard (Some No) = false
is_unheard (Some ReadOnly) = false

abbrev pub is_new : Participant → Bool
is_new part = is_unheard part.answer && not part.acknowledged

abbrev pub Stays : Participant → Participant → Type 0
Stays old new = (new ≡ old) ⊎ ((old.answer ≡ None) × (new ≡ answered Lost old))

abbrev pub Lasts : List Participant → List Participant → Type 0
Lasts [] qs = list_all is_new qs ≡ true
Lasts (p ∷ ps) [] = ⊥
Lasts (p ∷ ps) (q ∷ qs) = Stays p q × Lasts ps qs

pub lasts_same : (ps : List Participant) → Lasts ps ps
lasts_same [] = refl
lasts_same (p ∷ ps) = (inl refl, lasts_same ps)

new_then : (p q : Participant) → is_new p ≡ true → Stays p q → is_new q ≡ true
new_then p q new (inl same) = ap is_new same ∙ new
new_then p q new (inr lost) = ap is_new lost.1 ∙ (and_parts (is_unheard p.answer) (not p.acknowledged) new).1

pub all_new : (ps qs : List Participant) → list_all is_new ps ≡ true → Lasts ps qs → list_all is_new qs ≡ true
all_new [] qs new lasts = lasts
all_new (p ∷ ps) [] new lasts = absurd lasts
all_new (p ∷ ps) (q ∷ qs) new lasts = let parts = and_parts (is_new p) (list_all is_new ps) new in and_from _ _ (new_then p q parts.0 lasts.0) (all_new ps qs parts.1 lasts.1)

stays_then : (p q r : Participant) → Stays p q → Stays q r → Stays p r
stays_then p q r (inl a) (inl b) = inl (b ∙ a)
stays_then p q r (inl a) (inr b) = inr (sym (ap (λ (x : Participant). x.answer) a) ∙ b.0, b.1 ∙ ap (answered Lost) a)
stays_then p q r (inr a) (inl b) = inr (a.0, b ∙ a.1)
stays_then p q r (inr a) (inr b) = inr (a.0, b.1 ∙ ap (answered Lost) a.1)

pub lasts_then : (ps qs rs : List Participant) → Lasts ps qs → Lasts qs rs → Lasts ps rs
lasts_then [] qs rs first next = all_new qs rs first next
lasts_then (p ∷ ps) [] rs first next = absurd first
lasts_then (p ∷ ps) (q ∷ qs) [] first next = absurd next
lasts_then (p ∷ ps) (q ∷ qs) (r ∷ rs) first next = (stays_then p q r first.0 next.0, lasts_then ps qs rs first.1 next.1)

lasts_lost : (m : ℕ) (ps : List Participant) → answer_at ps m ≡ None → Lasts ps (changed_at m (answered Lost) ps)
lasts_lost m [] none = refl
lasts_lost zero (p ∷ ps) none = (inr (none, refl), lasts_same ps)
lasts_lost (suc m) (p ∷ ps) none = (inl refl, lasts_lost m ps none)

pub lasts_more : (p : Participant) (ps : List Participant) → is_new p ≡ true → Lasts ps (ps ++ p ∷ [])
lasts_more p [] new = and_from _ _ new refl
lasts_more p (q ∷ ps) new = (inl refl, lasts_more p ps new)

-- THE PARTY stays where it is; or it was here and goes out, or is let go, where no branch of it waits

abbrev pub Leaves : PartyPlace → PartyPlace → Type 0
Leaves old new = (new ≡ old) ⊎ ((party : PartyNotes) × (old ≡ Here party) × (((e : Errand) × (new ≡ Out e)) ⊎ ((new ≡ Spent) × (has_ready party ≡ false))))

never_out : (party : PartyNotes) (e : Errand) (place : PartyPlace) → place ≡ Out e → place ≡ Here party → ⊥
never_out party e place out here = let wrong : Out e ≡ Here party = sym out ∙ here in cc

never_spent : (party : PartyNotes) (place : PartyPlace) → place ≡ Spent → place ≡ Here party → ⊥
never_spent party place spent here = let wrong : Spent ≡ Here party = sym spent ∙ here in cc

leaves_then : (a b c : PartyPlace) → Leaves a b → Leaves b c → Leaves a c
leaves_then a b c (inl same) next = subst (λ x. Leaves x c) same next
leaves_then a b c (inr left) (inl same) = inr (left.0, left.1, elim left.2 [ inl out ↦ inl (out.0, same ∙ out.1) | inr spent ↦ inr (same ∙ spent.0, spent.1) ])
leaves_then a b c (inr left) (inr again) = absurd (elim left.2 [ inl out ↦ never_out again.0 out.0 b out.1 again.1 | inr spent ↦ never_spent again.0 b spent.0 again.1 ])

-- A TRANSACTION, as it was

abbrev pub IsOpen : Transaction → Transaction → Type 0
IsOpen old new = (new.phase ≡ Aborted) ⊎ (old.phase ≡ Aborted → ⊥)

pub open_same : (t u : Transaction) → u.phase ≡ t.phase → IsOpen t u
open_same t u same = step t.phase refl where
  step : (f : Phase) → t.phase ≡ f → IsOpen t u
  step Aborted is = inl (same ∙ is)
  step Active is = inr (λ at. let wrong : Active ≡ Aborted = sym is ∙ at in cc)
  step Asking is = inr (λ at. let wrong : Asking ≡ Aborted = sym is ∙ at in cc)
  step Prepared is = inr (λ at. let wrong : Prepared ≡ Aborted = sym is ∙ at in cc)
  step Committed is = inr (λ at. let wrong : Committed ≡ Aborted = sym is ∙ at in cc)

pub open_then : (a b c : Transaction) → IsOpen a b → IsOpen b c → IsOpen a c
open_then a b c first (inl aborted) = inl aborted
open_then a b c (inl aborted) (inr live) = absurd (live aborted)
open_then a b c (inr live) (inr later) = inr live

pub record Was (w : Work) (u : Transaction) : Type 0 where
  pub before : Transaction
  pub there : In before w.state.transactions
  pub key : u.key ≡ before.key
  pub parts : Lasts before.parts u.parts
  pub place : Leaves before.place u.place
  -- one that is aborted stays so
  pub live : IsOpen before u

-- the party that goes out was here
pub record Sent (w v : Work) : Type 0 where
  pub transaction : Transaction
  pub there : In transaction w.state.transactions
  pub party : PartyNotes
  pub here : transaction.place ≡ Here party
  pub errand : Errand
  pub now : v.answer.work ≡ Some (given party errand)

pub record Walks (w v : Work) : Type 0 where
  pub each : (u : Transaction) → In u v.state.transactions → Was w u
  pub sends : (v.answer.work ≡ w.answer.work) ⊎ Sent w v

was_there : (w : Work) (u : Transaction) → In u w.state.transactions → Was w u
was_there w u there = record { before = u; there = there; key = refl; parts = lasts_same u.parts; place = inl refl; live = open_same u u refl }

pub walks_beside : (w v : Work) → v.state.transactions ≡ w.state.transactions → v.answer.work ≡ w.answer.work → Walks w v
walks_beside w v same work = record { each = λ u there. was_there w u (subst (In u) same there); sends = inl work }

pub walks_same : (w : Work) → Walks w w
walks_same w = walks_beside w w refl refl

pub walks_then : (a b c : Work) → Walks a b → Walks b c → Walks a c
walks_then a b c first next = record {
  each = λ u there.
      let mid = next.each u there in
      let old = first.each mid.before mid.there in
      record { before = old.before; there = old.there; key = mid.key ∙ old.key; parts = lasts_then old.before.parts mid.before.parts u.parts old.parts mid.parts; place = leaves_then old.before.place mid.before.place u.place old.place mid.place; live = open_then old.before mid.before u old.live mid.live };
  sends = step first.sends next.sends;
} where
  step : (b.answer.work ≡ a.answer.work) ⊎ Sent a b → (c.answer.work ≡ b.answer.work) ⊎ Sent b c → (c.answer.work ≡ a.answer.work) ⊎ Sent a c
  step (inl x) (inl y) = inl (y ∙ x)
  step (inr s) (inl y) = inr (record { transaction = s.transaction; there = s.there; party = s.party; here = s.here; errand = s.errand; now = y ∙ s.now })
  step x (inr s) =
      let old = first.each s.transaction s.there in
      inr (record { transaction = old.before; there = old.there; party = s.party; here = was_here old.before.place old.place; errand = s.errand; now = s.now }) where
        was_here : (place : PartyPlace) → Leaves place s.transaction.place → place ≡ Here s.party
        was_here place (inl same) = sym same ∙ s.here
        was_here place (inr left) = absurd (elim left.2 [ inl out ↦ never_out s.party out.0 s.transaction.place out.1 s.here | inr spent ↦ never_spent s.party s.transaction.place spent.0 s.here ])

-- one is altered
alters_found : (key : Key) (f : Transaction → Transaction) (w v : Work) → v.state.transactions ≡ changed (has_key key) f w.state.transactions → (v.answer.work ≡ w.answer.work) ⊎ Sent w v → ((t : Transaction) → transaction_of key w.state ≡ Some t → ((f t).key ≡ t.key) × Lasts t.parts (f t).parts × Leaves t.place (f t).place × IsOpen t (f t)) → Walks w v
alters_found key f w v same sends may = record {
  each = λ u there. elim (in_changed (has_key key) f w.state.transactions u (subst (In u) same there)) [
    | inl old ↦ was_there w u old
    | inr new ↦
        let so = may new.0 new.1 in
        let is = new.2 in
        record { before = new.0; there = in_found (has_key key) w.state.transactions new.0 new.1; key = ap (λ (x : Transaction). x.key) is ∙ so.0; parts = subst (λ (x : Transaction). Lasts new.0.parts x.parts) (sym is) so.1; place = subst (λ (x : Transaction). Leaves new.0.place x.place) (sym is) so.2; live = subst (IsOpen new.0) (sym is) so.3 }
  ];
  sends = sends;
}

pub alters : (key : Key) (f : Transaction → Transaction) (w : Work) → ((t : Transaction) → ((f t).key ≡ t.key) × Lasts t.parts (f t).parts × ((f t).place ≡ t.place) × ((f t).phase ≡ t.phase)) → Walks w (alter key f w)
alters key f w may = alters_found key f w (alter key f w) refl (inl refl) (λ t found. let so = may t in (so.0, so.1, inl so.2, open_same t (f t) so.3))

-- the transaction of this key is not aborted
abbrev pub IsLive : Key → Work → Type 0
IsLive key w = (t : Transaction) → transaction_of key w.state ≡ Some t → t.phase ≡ Aborted → ⊥

enters : (phase : Phase) (key : Key) (w : Work) → IsLive key w → Walks w (enter phase key w)
enters phase key w live = alters_found key (entering phase) w (enter phase key w) refl (inl refl) (λ t found. (refl, lasts_same t.parts, inl refl, inr (live t found)))

enters_aborted : (key : Key) (w : Work) → Walks w (enter Aborted key w)
enters_aborted key w = alters_found key (entering Aborted) w (enter Aborted key w) refl (inl refl) (λ t found. (refl, lasts_same t.parts, inl refl, inl refl))

pub live_in : (t : Transaction) (w : Work) (phase : Phase) → transaction_of t.key w.state ≡ Some t → t.phase ≡ phase → (phase ≡ Aborted → ⊥) → IsLive t.key w
live_in t w phase found at never u is aborted = never (sym at ∙ (ap (λ (x : Transaction). x.phase) (same_Some t u (sym found ∙ is)) ∙ aborted))

gives : (e : Errand) (party : PartyNotes) (key : Key) (w : Work) (t : Transaction) → transaction_of key w.state ≡ Some t → t.place ≡ Here party → Walks w (give_out e party key w)
gives e party key w t found here = alters_found key (standing_at (Out e)) w (give_out e party key w) refl (inr (record { transaction = t; there = in_found (has_key key) w.state.transactions t found; party = party; here = here; errand = e; now = refl })) (λ u is. (refl, lasts_same u.parts, inr (party, ap (λ (x : Transaction). x.place) (sym (same_Some t u (sym found ∙ is))) ∙ here, inl (e, refl)), open_same u (standing_at (Out e) u) refl))

lets : (party : PartyNotes) (key : Key) (w : Work) (t : Transaction) → transaction_of key w.state ≡ Some t → t.place ≡ Here party → has_ready party ≡ false → Walks w (let_go party key w)
lets party key w t found here idle = alters_found key (standing_at Spent) w (let_go party key w) refl (inl refl) (λ u is. (refl, lasts_same u.parts, inr (party, ap (λ (x : Transaction). x.place) (sym (same_Some t u (sym found ∙ is))) ∙ here, inr (refl, idle)), open_same u (standing_at Spent u) refl))

ends : (key : Key) (w : Work) → Walks w (end key w)
ends key w = record { each = λ u there. was_there w u (in_without (has_key key) w.state.transactions u there); sends = inl refl }

-- THE RULES

reacts : (reaction : Reaction) (key : Key) (w : Work) → Walks w (react reaction key w)
unfolding react
reacts reaction key w = walks_beside w (react reaction key w) refl refl

pub dispatches : (key : Key) (w : Work) → Walks w (dispatch key w)
unfolding dispatch
dispatches key w = step (transaction_of key w.state) refl where
  by_ready : (t : Transaction) (party : PartyNotes) → transaction_of key w.state ≡ Some t → t.place ≡ Here party → (b : Bool) → has_ready party ≡ b → Walks w (cond b (give_out (errand_in t.phase) party key w) (let_go party key w))
  by_ready t party found here true ready = gives (errand_in t.phase) party key w t found here
  by_ready t party found here false idle = lets party key w t found here idle

  at_place : (t : Transaction) → transaction_of key w.state ≡ Some t → (place : PartyPlace) → t.place ≡ place → Walks w (dispatched place t.phase key w)
  at_place t found (Here party) here = by_ready t party found here (has_ready party) refl
  at_place t found (Out e) at = walks_same w
  at_place t found Spent at = walks_same w

  step : (found : Option Transaction) → transaction_of key w.state ≡ found → Walks w (on found (λ (t : Transaction). dispatched t.place t.phase key) w)
  step None is = walks_same w
  step (Some t) is = at_place t is t.place refl

releases : (key : Key) (w : Work) → Walks w (release key w)
unfolding release
releases key w = step (transaction_of key w.state) where
  may_end : (b : Bool) → Walks w (cond b (end key w) w)
  may_end true = ends key w
  may_end false = walks_same w

  step : (found : Option Transaction) → Walks w (on found (λ (t : Transaction) (v : Work). cond (is_spent t.place && not (list_any (is_on key) v.state.connections)) (end key v) v) w)
  step None = walks_same w
  step (Some t) = may_end (is_spent t.place && not (list_any (is_on key) w.state.connections))

pub aborted_goes : (key : Key) (w : Work) → Walks (enter Aborted key w) (abort key w)
unfolding abort
aborted_goes key w =
    let entered = enter Aborted key w in
    let told = react aborts key entered in
    let gone = dispatch key told in
    walks_then entered gone (release key gone) (walks_then entered told gone (reacts aborts key entered) (dispatches key told)) (releases key gone)

pub aborts_so : (key : Key) (w : Work) → Walks w (abort key w)
aborts_so key w = walks_then w (enter Aborted key w) (abort key w) (enters_aborted key w) (aborted_goes key w)

pub commits_so : (key : Key) (w : Work) → IsLive key w → Walks w (commit key w)
unfolding commit
commits_so key w live =
    let entered = enter Committed key w in
    let told = react commits key entered in
    walks_then w told (dispatch key told) (walks_then w entered told (enters Committed key w live) (reacts commits key entered)) (dispatches key told)

promises_so : (key : Key) (w : Work) → IsLive key w → Walks w (promise key w)
unfolding promise
promises_so key w live = let entered = enter Prepared key w in walks_then w entered (react promises key entered) (enters Prepared key w live) (reacts promises key entered)

leaves_so : (key : Key) (w : Work) → Walks w (leave key w)
unfolding leave
leaves_so key w =
    let told = react needs_nothing key w in
    let gone = dispatch key told in
    walks_then w gone (end key gone) (walks_then w told gone (reacts needs_nothing key w) (dispatches key told)) (ends key gone)

-- WHAT IS ASKED OF THE STORE: of the transaction as it is by then

abbrev pub Why : Change → Transaction → Type 0
Why (Put key (row.Committed branches subordinates)) t = branches ≡ promised t
Why (Put key (row.Prepared address superior branches subordinates)) t = Unit {0}
Why (Remove key) t = is_done t ≡ true

pub record Asked (w : Work) (change : Change) : Type 0 where
  pub middle : Work
  pub walks : Walks w middle
  pub transaction : Transaction
  pub found : transaction_of (key_changed change) middle.state ≡ Some transaction
  pub why : Why change transaction

abbrev pub ProceedsSo : Work → Attempt → Type 0
ProceedsSo w (Attempt.Done v) = Walks w v
ProceedsSo w (Attempt.Asks change stored refused) = Walks w stored × Walks w refused × Asked w change

asked_after : (u w : Work) (change : Change) → Walks u w → Asked w change → Asked u change
asked_after u w change first asked = record { middle = asked.middle; walks = walks_then u w asked.middle first asked.walks; transaction = asked.transaction; found = asked.found; why = asked.why }

pub proceeds_after : (u w : Work) (a : Attempt) → Walks u w → ProceedsSo w a → ProceedsSo u a
proceeds_after u w (Attempt.Done v) first rest = walks_then u w v first rest
proceeds_after u w (Attempt.Asks change stored refused) first rest = (walks_then u w stored first rest.0, walks_then u w refused first rest.1, asked_after u w change first rest.2)

module _ (t : Transaction) (w : Work) (found : transaction_of t.key w.state ≡ Some t) where
  pub finishes : ProceedsSo w (finish t w)
  unfolding finish
  finishes = step (is_done t) refl where
    step : (b : Bool) → is_done t ≡ b → ProceedsSo w (cond b (Attempt.Asks (Remove t.key) (end t.key w) w) (Attempt.Done w))
    step true done = (ends t.key w, walks_same w, record { middle = w; walks = walks_same w; transaction = t; found = found; why = done })
    step false not = walks_same w

  agrees : IsLive t.key w → (owed : Option CommandName) (from : Origin) → ProceedsSo w (agree owed from t w)
  agrees live (Some command.Prepare) (origin.Subordinate (Some address) superior) = (promises_so t.key w live, aborts_so t.key w, record { middle = w; walks = walks_same w; transaction = t; found = found; why = tt })
  agrees live (Some command.Commit) from = (commits_so t.key w live, aborts_so t.key w, record { middle = w; walks = walks_same w; transaction = t; found = found; why = refl })
  agrees live owed from = walks_same w

  waits : (phase : Phase) → Walks w (wait phase t.key w)
  waits Asking = reacts asks t.key w
  waits Active = walks_same w
  waits Prepared = walks_same w
  waits Committed = walks_same w
  waits Aborted = walks_same w

  concludes : IsLive t.key w → (d : Decision) → ProceedsSo w (conclude d t w)
  concludes live decision.Wait = waits t.phase
  concludes live decision.Commit = agrees live (owed_to_superior t.key w.state) t.origin
  concludes live decision.Abort = aborts_so t.key w
  concludes live decision.ReadOnly = leaves_so t.key w

goes_in : (phase : Phase) (t : Transaction) (w : Work) → transaction_of t.key w.state ≡ Some t → t.phase ≡ phase → ProceedsSo w (proceed_in phase t w)
unfolding react
goes_in Active t w found at = concludes t w found (live_in t w Active found at (λ is. let wrong : Active ≡ Aborted = is in cc)) (decision_of t)
goes_in Asking t w found at = concludes t w found (live_in t w Asking found at (λ is. let wrong : Asking ≡ Aborted = is in cc)) (decision_of t)
goes_in Prepared t w found at = walks_same w
goes_in Committed t w found at = proceeds_after w (react commits t.key w) (finish t (react commits t.key w)) (reacts commits t.key w) (finishes t (react commits t.key w) found)
goes_in Aborted t w found at = aborts_so t.key w

pub proceeds_so : (key : Key) (w : Work) → ProceedsSo w (proceed key w)
unfolding proceed
proceeds_so key w = step (transaction_of key w.state) refl where
  step : (found : Option Transaction) → transaction_of key w.state ≡ found → ProceedsSo w (attempt_on found (λ (t : Transaction). proceed_in t.phase t) w)
  step None is = walks_same w
  step (Some t) is = goes_in t.phase t w (there_by_key key w.state.transactions t is) refl

pub asks_so : (t : Transaction) (w : Work) → transaction_of t.key w.state ≡ Some t → t.phase ≡ Active → ProceedsSo w (ask t w)
unfolding ask
asks_so t w found active = at_place t.place refl where
  at_place : (place : PartyPlace) → t.place ≡ place → ProceedsSo w (proceed t.key (asked_for_votes place t.key (enter Asking t.key w)))
  at_place (Here party) at =
      let entered = enter Asking t.key w in
      let out = give_out errand.Vote party t.key entered in
      proceeds_after w out (proceed t.key out) (walks_then w entered out (enters Asking t.key w (live_in t w Active found active (λ is. let wrong : Active ≡ Aborted = is in cc))) (gives errand.Vote party t.key entered (entering Asking t) (found_altered t.key w.state (entering Asking) (λ t. refl) t found) at)) (proceeds_so t.key out)
  at_place (Out e) at = proceeds_after w (enter Asking t.key w) (proceed t.key (enter Asking t.key w)) (enters Asking t.key w (live_in t w Active found active (λ is. let wrong : Active ≡ Aborted = is in cc))) (proceeds_so t.key (enter Asking t.key w))
  at_place Spent at = proceeds_after w (enter Asking t.key w) (proceed t.key (enter Asking t.key w)) (enters Asking t.key w (live_in t w Active found active (λ is. let wrong : Active ≡ Aborted = is in cc))) (proceeds_so t.key (enter Asking t.key w))

-- FAILURES

pub misses : (role : Option Role) (w : Work) → Walks w (missed role w)
misses None w = walks_same w
misses (Some (Superior key)) w = step (transaction_of key w.state) where
  by_phase : (phase : Phase) → Walks w (superior_lost phase key w)
  by_phase Active = aborts_so key w
  by_phase Asking = aborts_so key w
  by_phase Prepared = walks_same w
  by_phase Committed = walks_same w
  by_phase Aborted = aborts_so key w

  step : (found : Option Transaction) → Walks w (on found (λ (t : Transaction). superior_lost t.phase key) w)
  step None = walks_same w
  step (Some t) = by_phase t.phase
misses (Some (Subordinate key part)) w = step (transaction_of key w.state) refl where
  loses : (t : Transaction) → transaction_of t.key w.state ≡ Some t → answer_at t.parts part ≡ None → Walks w (alter t.key (noting part (answered Lost)) w)
  loses t found none = alters_found t.key (noting part (answered Lost)) w (alter t.key (noting part (answered Lost)) w) refl (inl refl) (λ u is. (refl, lasts_lost part u.parts (ap (λ (x : Transaction). answer_at x.parts part) (same_Some u t (sym is ∙ found)) ∙ none), inl refl, open_same u (noting part (answered Lost) u) refl))

  none_there : (answer : Option Ballot) → is_some answer ≡ false → answer ≡ None
  none_there None is = refl
  none_there (Some answer) is = absurd (cc)

  unanswered : (t : Transaction) → transaction_of t.key w.state ≡ Some t → (b : Bool) → is_some (answer_at t.parts part) ≡ b → Walks w (cond b w (abort t.key (alter t.key (noting part (answered Lost)) w)))
  unanswered t found true is = walks_same w
  unanswered t found false is = let lost = alter t.key (noting part (answered Lost)) w in walks_then w lost (abort t.key lost) (loses t found (none_there (answer_at t.parts part) is)) (aborts_so t.key lost)

  by_phase : (phase : Phase) (t : Transaction) → transaction_of t.key w.state ≡ Some t → Walks w (part_lost phase part t w)
  by_phase Active t found = unanswered t found (is_some (answer_at t.parts part)) refl
  by_phase Asking t found = unanswered t found (is_some (answer_at t.parts part)) refl
  by_phase Prepared t found = walks_same w
  by_phase Committed t found = walks_same w
  by_phase Aborted t found = aborts_so t.key w

  step : (found : Option Transaction) → transaction_of key w.state ≡ found → Walks w (on found (λ (t : Transaction). part_lost t.phase part t) w)
  step None is = walks_same w
  step (Some t) is = by_phase t.phase t (there_by_key key w.state.transactions t is)

pub fails : (c : Connection) (w : Work) → Walks w (fail c w)
unfolding fail gone
fails c w = walks_then w (gone c w) (fail c w) (walks_beside w (gone c w) refl refl) (misses c.role (gone c w))

pub closes : (c : Connection) (w : Work) → Walks w (closed c w)
unfolding closed
closes c w = let told = tell c.number Close w in walks_then w told (fail c told) (walks_beside w told refl refl) (fails c told)

pub goes_wrong : (c : Connection) (w : Work) → Walks w (wrong c w)
unfolding wrong
goes_wrong c w = let told = tell c.number (Say said.Error) w in walks_then w told (closed c told) (walks_beside w told refl refl) (closes c told)
