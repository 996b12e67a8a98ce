-- Each transaction passes a party's return: where it voted, each of its branches was called.
use Rattle.std.proofs.Common.{◌≡◌, Bool, true, false, ℕ, zero, suc, List, [], ◌∷◌, ◌++◌, Some, None, cond, refl, ap, subst, sym, ◌∙◌, inl, inr}
use Rattle.std.specs.Prelude.{◌==◌, nat_le}
use Rattle.std.specs.List.{list_all, list_any}
use Rattle.std.specs.Option.{option_to_list}
use Rattle.std.proofs.lemmas.Bool.{both_ways, cases_Bool, or_right}
use Rattle.std.proofs.lemmas.List.{append-nil}
use Rattle.std.proofs.lemmas.List.Concat.{flat_map-append}
use Rattle.std.proofs.lemmas.List.Folds.{list_any-append}
use Rattle.std.proofs.lemmas.Option.{none-some, same_Some}
use Rattle.tip_branch.specs.Notes.{PartyNotes}
use Rattle.tip_branch.specs.declared.member.Errand.{Errand}
use Rattle.tip_branch.specs.declared.member.Errand.TheVariants as errand
use Rattle.tip_rows.specs.Keys.{is_same}
use Rattle.tip_rows.proofs.OrderLemmas.{same_key}
use Rattle.tip_table.specs.Lists.{changed}
use Rattle.tip_txn.specs.Parts.{answer_at, answered, changed_at}
use Rattle.tip_txn.specs.declared.answer.Ballot.{Ballot}
use Rattle.tip_txn.specs.declared.answer.Phase.TheVariants.{Aborted}
use Rattle.tip_txn.specs.declared.part.Participant.{Participant}
use Rattle.tip_machine.specs.Agreement.{is_called, is_willing, is_willing_vote, was_called}
use Rattle.tip_machine.specs.Agreement.Traces.{Moment, came_in, is_refusal, shown_in}
use Rattle.tip_machine.specs.Answers.{identifier}
use Rattle.tip_machine.specs.Changes.{alter}
use Rattle.tip_machine.specs.Invariants.{IsSound}
use Rattle.tip_machine.specs.Invariants.Parties.{are_unasked, is_sent}
use Rattle.tip_machine.specs.Moves.{Move, World}
use Rattle.tip_machine.specs.Outputs.{Output, calls_of}
use Rattle.tip_machine.specs.Returns.{Back, back_of, event_of}
use Rattle.tip_machine.specs.States.{Attempt, State, Work, transaction_of}
use Rattle.tip_machine.specs.Steps.{attempt, chosen, entered}
use Rattle.tip_machine.specs.Transactions.{has_key, noting, party_answer, standing_at}
use Rattle.tip_machine.specs.Types.{PartyPlace, Transaction}
use Rattle.tip_machine.specs.declared.event.Outcome.{Outcome}
use Rattle.tip_machine.specs.declared.transaction.PartyPlace.TheVariants.{Here}
use Rattle.tip_machine.proofs.Walks.{found_passes}
use Rattle.tip_agreement.proofs.Apart.{all_more}
use Rattle.tip_agreement.proofs.Around.{found_altered}
use Rattle.tip_agreement.proofs.Errands.{first_due}
use Rattle.tip_agreement.proofs.Moving.{due_awaited}
use Rattle.tip_agreement.proofs.PartAnswers.{Answers, answers_stay, changed_some, chosen_walks, lasts_well, none_heard}
use Rattle.tip_agreement.proofs.Ballots.{all_agreed, covers, covers_back, each_called}
use Rattle.tip_agreement.proofs.Coming.{are_out_now, base_again, called_among, calls_shown, found, its_epoch, its_errand, listed, named}
use Rattle.tip_agreement.proofs.Happening.{Came as CameBack, again, returns_so}
use Rattle.tip_agreement.proofs.Keeping.{Base, in_apart, sent_from}
use Rattle.tip_agreement.proofs.Passing.{Covers, Passed, covers_fewer, covers_on}
use Rattle.tip_agreement.proofs.Picked.{IsPicked, in_picked}
use Rattle.tip_agreement.proofs.Walking.{In, Lasts, Walks, Was, in_changed, in_found, open_same, open_then}
use Rattle.tip_agreement.proofs.Willing.{heard_answer, lasts_some, or_else}
use Rattle.tip_agreement.proofs.Witnessed.{In_world}

-- nothing is heard where no line comes
pub silent_move : (moment : Moment) (state : State) → moment.world.state ≡ state → came_in moment.move state ≡ None → (realm id : List ℕ) (q : ℕ) → heard_answer realm id q moment ≡ None
silent_move moment state met none realm id q = none_heard realm id q moment (step (list_any is_refusal moment.shown) (ap (came_in moment.move) met ∙ none)) where
  step : (b : Bool) → came_in moment.move moment.world.state ≡ None → cond b None (came_in moment.move moment.world.state) ≡ None
  step true is = refl
  step false is = is

-- the answers of parts beside the local one
other_answer : (f : Participant → Participant) (ps : List Participant) (n : ℕ) → answer_at (changed_at 0 f ps) (suc n) ≡ answer_at ps (suc n)
other_answer f [] n = refl
other_answer f (p ∷ ps) n = refl

local_answer : (b a : Ballot) (ps : List Participant) → answer_at (changed_at 0 (answered b) ps) 0 ≡ Some a → b ≡ a
local_answer b a [] is = absurd (none-some a is)
local_answer b a (p ∷ ps) is = same_Some b a is

module _ (world : World) (sound : IsSound world) (branches : List (ℕ × List ℕ)) (mine : List Moment) (moment : Moment) (met : moment.world ≡ world) (was : In_world world (mine ++ moment ∷ [])) (made : Transaction → List Moment)
    (party : PartyNotes) (rest : List PartyNotes) (out : IsPicked world.errands party rest) (back : Back) (outcome : Outcome) (go : moment.move ≡ Move.Go out.0 back outcome) (brings : (test : Output → Bool) → list_any test (calls_of (back_of party back)) ≡ true → list_any test moment.shown ≡ true)
    (covered : (t : Transaction) → In t world.state.transactions → (t.key.epoch == world.state.head.epoch) ≡ true → Covers world.state.head.epoch branches world.errands (identifier world.state.head.name t.key) t.place) where
  abbrev realm : List ℕ
  realm = world.state.head.name

  abbrev now : ℕ
  now = world.state.head.epoch

  abbrev all : List Moment
  all = mine ++ moment ∷ []

  abbrev pub Called : Transaction → Type 0
  Called t = list_all (was_called realm (identifier realm t.key) is_willing_vote (made t ++ moment ∷ [])) branches ≡ true

  abbrev came_back : PartyNotes
  came_back = back_of party back

  abbrev tried : Attempt
  tried = attempt (event_of party back) (entered world.state)

  abbrev v : Work
  v = chosen tried outcome

  unheard : (id : List ℕ) (q : ℕ) → heard_answer realm id q moment ≡ None
  unheard = silent_move moment world.state (ap (λ (w : World). w.state) met) (ap (λ m. came_in m world.state) go) realm

  in_rest : (p : PartyNotes) → In p rest → In p world.errands
  in_rest p is = in_picked world.errands party rest out p (inr is)

  covered_rest : (t : Transaction) → In t world.state.transactions → (t.key.epoch == now) ≡ true → Covers now branches rest (identifier realm t.key) t.place
  covered_rest t listed this = covers_fewer now branches world.errands rest (identifier realm t.key) t.place in_rest (covered t listed this)

  module _ (well : (u : Transaction) → In u v.state.transactions → (u.phase ≡ Aborted → ⊥) → (q : ℕ) (a : Ballot) → answer_at u.parts q ≡ Some a → is_willing a ≡ true) where
    -- one whose party it is not
    stays : (u : Transaction) → In u world.state.transactions → (errands : List PartyNotes) → ((u.key.epoch == now) ≡ true → Covers now branches errands (identifier realm u.key) u.place) → Passed realm now branches Called moment errands world.state.transactions u
    stays u there errands covered = record {
      before = u;
      listed = there;
      follows = record {
        key = refl;
        live = open_same u u refl;
        answers = λ live this. record { parts = λ q least. sym (ap (λ h. or_else h (answer_at u.parts q)) (unheard (identifier realm u.key) q)); local = λ a is. inl is; more = λ q is. is };
        covered = covered;
      };
    }

    module _ (came : CameBack came_back (entered world.state) tried) where
      abbrev t : Transaction
      t = came.transaction

      abbrev e : Errand
      e = came.errand

      abbrev w : Work
      w = again e came_back t (entered world.state)

      base : Base realm all now w rest world.rows
      base = base_again world sound party rest out mine moment back was.shown was.cared brings t came.owned e came.out

      its_found : transaction_of t.key world.state ≡ Some t
      its_found = found world sound party rest out mine moment back was.shown was.cared brings t came.owned e came.out

      its_listed : In t world.state.transactions
      its_listed = in_found (has_key t.key) world.state.transactions t its_found

      -- as it is here again
      returned : Errand → Transaction
      returned errand.Vote = noting 0 (answered (party_answer came_back)) (standing_at (Here came_back) t)
      returned e = standing_at (Here came_back) t

      returned_found : (e : Errand) → transaction_of t.key (again e came_back t (entered world.state)).state ≡ Some (returned e)
      unfolding returned
      returned_found errand.Vote = found_altered t.key (alter t.key (standing_at (Here came_back)) (entered world.state)).state (noting 0 (answered (party_answer came_back))) (λ x. refl) (standing_at (Here came_back) t) (found_altered t.key world.state (standing_at (Here came_back)) (λ x. refl) t its_found)
      returned_found errand.Idle = found_altered t.key world.state (standing_at (Here came_back)) (λ x. refl) t its_found
      returned_found errand.Commit = found_altered t.key world.state (standing_at (Here came_back)) (λ x. refl) t its_found
      returned_found errand.Abort = found_altered t.key world.state (standing_at (Here came_back)) (λ x. refl) t its_found

      returned_so : (e : Errand) → ((returned e).key ≡ t.key) × ((returned e).phase ≡ t.phase) × ((returned e).place ≡ Here came_back)
      unfolding returned
      returned_so errand.Vote = (refl, refl, refl)
      returned_so errand.Idle = (refl, refl, refl)
      returned_so errand.Commit = (refl, refl, refl)
      returned_so errand.Abort = (refl, refl, refl)

      -- another one is as it was
      one_other : (f : Transaction → Transaction) → ((x : Transaction) → (f x).key ≡ x.key) → (ts : List Transaction) (b : Transaction) → is_same t.key b.key ≡ false → In b (changed (has_key t.key) f ts) → In b ts
      one_other f same ts b differ is = elim (in_changed (has_key t.key) f ts b is) [
        | inl old ↦ old
        | inr new ↦ absurd (both_ways (is_same t.key b.key) differ (subst (λ k. is_same t.key k ≡ true) (sym (ap (λ (x : Transaction). x.key) new.2 ∙ same new.0)) (found_passes (has_key t.key) ts new.0 new.1)))
      ]

      other : (e : Errand) (b : Transaction) → is_same t.key b.key ≡ false → In b (again e came_back t (entered world.state)).state.transactions → In b world.state.transactions
      other errand.Vote b differ is = one_other (standing_at (Here came_back)) (λ x. refl) world.state.transactions b differ (one_other (noting 0 (answered (party_answer came_back))) (λ x. refl) (changed (has_key t.key) (standing_at (Here came_back)) world.state.transactions) b differ is)
      other errand.Idle b differ is = one_other (standing_at (Here came_back)) (λ x. refl) world.state.transactions b differ is
      other errand.Commit b differ is = one_other (standing_at (Here came_back)) (λ x. refl) world.state.transactions b differ is
      other errand.Abort b differ is = one_other (standing_at (Here came_back)) (λ x. refl) world.state.transactions b differ is

      its_cover : (t.key.epoch == now) ≡ true → covers party.members branches ≡ true
      its_cover this = (covered t its_listed this).out party (in_picked world.errands party rest out party (inl refl)) (named world sound party rest out mine moment back was.shown was.cared brings t came.owned e came.out) (its_epoch world sound party rest out mine moment back was.shown was.cared brings t came.owned e came.out)

      -- where it voted, each branch was called
      voted_called : e ≡ errand.Vote → (t.key.epoch == now) ≡ true → is_willing (party_answer came_back) ≡ true → Called t
      voted_called vote this willing =
          let at = its_errand world sound party rest out mine moment back was.shown was.cared brings t came.owned e came.out ∙ vote in
          let sent = (due_awaited party world.state (first_due world.state party rest (are_out_now world sound party rest out mine moment back was.shown was.cared brings t came.owned e came.out))).sent in
          let unasked : are_unasked party ≡ true = subst (λ x. is_sent x party ≡ true) at sent in
          let called = each_called came_back.members branches (all_agreed party back at unasked willing) (covers_back party back branches (its_cover this)) in
          all_more (called_among is_willing_vote came_back.members) (was_called realm (identifier realm t.key) is_willing_vote (made t ++ moment ∷ [])) branches (λ b is.
          let test = is_called realm (identifier realm t.key) is_willing_vote b.0 in
          let shown = brings test (calls_shown is_willing_vote realm (identifier realm t.key) came_back came_back.members b (named world sound party rest out mine moment back was.shown was.cared brings t came.owned e came.out) is) in
          ap (list_any test) (flat_map-append (λ (m : Moment). m.shown) (made t) (moment ∷ [])) ∙ (list_any-append test (shown_in (made t)) (shown_in (moment ∷ [])) ∙ or_right (list_any test (shown_in (made t))) _ (ap (list_any test) (append-nil moment.shown) ∙ shown))) called

      own_answers : (u : Transaction) → In u v.state.transactions → (u.phase ≡ Aborted → ⊥) → (t.key.epoch == now) ≡ true → (x : Errand) → e ≡ x → Lasts (returned x).parts u.parts → Answers (Called t) realm (identifier realm t.key) moment t.parts u.parts
      unfolding returned
      own_answers u there live this errand.Vote vote lasts = record {
        parts = by_part;
        local = λ a is. inr (voted_called vote this (subst (λ b. is_willing b ≡ true) (sym (local_answer (party_answer came_back) a t.parts (sym (lasts_well (changed_at 0 (answered (party_answer came_back)) t.parts) u.parts 0 lasts (well u there live 0)) ∙ is))) (well u there live 0 a is)));
        more = λ q is. lasts_some q (changed_at 0 (answered (party_answer came_back)) t.parts) u.parts lasts (changed_some 0 q (answered (party_answer came_back)) t.parts is);
      } where
        by_part : (q : ℕ) → nat_le 1 q ≡ true → answer_at u.parts q ≡ or_else (heard_answer realm (identifier realm t.key) q moment) (answer_at t.parts q)
        by_part zero least = absurd (let wrong : false ≡ true = least in cc)
        by_part (suc n) least = lasts_well (changed_at 0 (answered (party_answer came_back)) t.parts) u.parts (suc n) lasts (well u there live (suc n)) ∙ (other_answer (answered (party_answer came_back)) t.parts n ∙ sym (ap (λ h. or_else h (answer_at t.parts (suc n))) (unheard (identifier realm t.key) (suc n))))
      own_answers u there live this errand.Idle at lasts = answers_stay (Called t) realm (identifier realm t.key) moment t.parts u.parts (unheard (identifier realm t.key)) lasts (well u there live)
      own_answers u there live this errand.Commit at lasts = answers_stay (Called t) realm (identifier realm t.key) moment t.parts u.parts (unheard (identifier realm t.key)) lasts (well u there live)
      own_answers u there live this errand.Abort at lasts = answers_stay (Called t) realm (identifier realm t.key) moment t.parts u.parts (unheard (identifier realm t.key)) lasts (well u there live)

      cover_here : (t.key.epoch == now) ≡ true → Covers now branches rest (identifier realm t.key) (Here came_back)
      cover_here this = record {
        here = λ p at. subst (λ (q : PartyNotes). covers q.members branches ≡ true) (ap (party_in p) at) (covers_back party back branches (its_cover this));
        out = (covered_rest t its_listed this).out;
      } where
        party_in : PartyNotes → PartyPlace → PartyNotes
        party_in other (Here p) = p
        party_in other place = other

      came_passes : (u : Transaction) → In u v.state.transactions → Passed realm now branches Called moment (rest ++ option_to_list v.answer.work) world.state.transactions u
      came_passes u there = elim (cases_Bool (is_same t.key wasu.before.key)) [
        | inl same ↦
            let r = returned e in
            let is : wasu.before ≡ r = in_apart w.state.transactions base.apart wasu.before r wasu.there (in_found (has_key t.key) w.state.transactions r (returned_found e)) (sym (same_key t.key wasu.before.key same) ∙ sym (returned_so e).0) in
            let key_is : wasu.before.key ≡ t.key = sym (same_key t.key wasu.before.key same) in
            record {
              before = t;
              listed = its_listed;
              follows = record {
                key = wasu.key ∙ key_is;
                live = open_then t wasu.before u (open_same t wasu.before (ap (λ (x : Transaction). x.phase) is ∙ (returned_so e).1)) wasu.live;
                answers = λ live this. own_answers u there live this e refl (subst (λ (x : Transaction). Lasts x.parts u.parts) is wasu.parts);
                covered = λ this. subst (λ k. Covers now branches (rest ++ option_to_list v.answer.work) (identifier realm k) u.place) key_is (covers_on now branches rest v.answer.work (identifier realm wasu.before.key) wasu.before.place u.place (subst (λ p. Covers now branches rest (identifier realm wasu.before.key) p) (sym (ap (λ (x : Transaction). x.place) is ∙ (returned_so e).2)) (subst (λ k. Covers now branches rest (identifier realm k) (Here came_back)) (sym key_is) (cover_here this))) wasu.place (sent_from realm all now w rest world.rows base v walks wasu.before wasu.there));
              };
            }
        | inr differ ↦
            let b = wasu.before in
            let b_listed = other e b differ wasu.there in
            record {
              before = b;
              listed = b_listed;
              follows = record {
                key = wasu.key;
                live = wasu.live;
                answers = λ live this. answers_stay (Called b) realm (identifier realm b.key) moment b.parts u.parts (unheard (identifier realm b.key)) wasu.parts (well u there live);
                covered = λ this. covers_on now branches rest v.answer.work (identifier realm b.key) b.place u.place (covered_rest b b_listed this) wasu.place (sent_from realm all now w rest world.rows base v walks b wasu.there);
              };
            }
      ] where
        walks : Walks (again came.errand came_back came.transaction (entered world.state)) v
        walks = chosen_walks (again came.errand came_back came.transaction (entered world.state)) tried outcome came.goes

        wasu : Was (again came.errand came_back came.transaction (entered world.state)) u
        wasu = walks.each u there

    pub back_passes : (u : Transaction) → In u v.state.transactions → Passed realm now branches Called moment (rest ++ option_to_list v.answer.work) world.state.transactions u
    back_passes u there = elim (returns_so party back (entered world.state)) [
      | inl strange_is ↦
          let old : In u world.state.transactions = subst (λ (x : Attempt). In u (chosen x outcome).state.transactions) strange_is there in
          let idle : v.answer.work ≡ None = ap (λ (x : Attempt). (chosen x outcome).answer.work) strange_is in
          stays u old (rest ++ option_to_list v.answer.work) (λ this. covers_on now branches rest v.answer.work (identifier realm u.key) u.place u.place (covered_rest u old this) (inl refl) (λ p is named. absurd (none-some p (sym idle ∙ is))))
      | inr came ↦ came_passes came u there
    ]
