-- A party is here again: each branch in the row that waited to be told waits still, or has done what it was told.
use Rattle.std.proofs.Common.{◌≡◌, Bool, true, false, ℕ, List, [], ◌∷◌, ◌++◌, Option, Some, None, cond, refl, ap, subst, sym, ◌∙◌, ◌⊎◌, inl, inr}
use Rattle.std.specs.Prelude.{◌&&◌, ◌==◌, filter, filter_map, not, option_map}
use Rattle.std.specs.List.{cons_option, list_all, list_any}
use Rattle.std.specs.Option.{option_map_or}
use Rattle.std.specs.Str.{bytes_eq}
use Rattle.std.proofs.lemmas.Bool.{and_from, and_parts, both_ways, not-true, or_cases, or_left, or_right}
use Rattle.std.proofs.lemmas.List.Folds.{list_any-append}
use Rattle.std.proofs.lemmas.List.Concat.{flat_map-append}
use Rattle.std.proofs.lemmas.List.{append-nil}
use Rattle.std.proofs.lemmas.Option.{same_Some}
use Rattle.tip_branch.specs.Members.{committing, is_active, is_no, is_ready, voting}
use Rattle.tip_branch.specs.Notes.{PartyNotes}
use Rattle.tip_branch.specs.declared.branch.Settled.{Settled}
use Rattle.tip_branch.specs.declared.branch.Settled.TheVariants.{Done, Later}
use Rattle.tip_branch.specs.declared.branch.Phase.{Phase as MemberPhase}
use Rattle.tip_branch.specs.declared.branch.Phase.TheVariants as member
use Rattle.tip_branch.specs.declared.branch.Vote.{Vote}
use Rattle.tip_branch.specs.declared.member.Call.{Call}
use Rattle.tip_branch.specs.declared.member.Errand.{Errand}
use Rattle.tip_branch.specs.declared.member.Errand.TheVariants as errand
use Rattle.tip_branch.specs.declared.member.Member.{Member}
use Rattle.tip_rows.specs.Logs.{row_at}
use Rattle.tip_rows.specs.declared.row.Row.TheVariants as row
use Rattle.tip_rows.proofs.MemoryLemmas.{bytes_eq-self, same_text}
use Rattle.tip_txn.specs.Parts.{answered, changed_at}
use Rattle.tip_txn.specs.declared.answer.Phase.TheVariants.{Aborted, Committed}
use Rattle.tip_txn.specs.declared.part.Participant.{Participant}
use Rattle.tip_machine.specs.Agreement.{is_called, is_done_commit}
use Rattle.tip_machine.specs.Agreement.Traces.{Moment, shown_in}
use Rattle.tip_machine.specs.Answers.{identifier}
use Rattle.tip_machine.specs.Changes.{alter}
use Rattle.tip_machine.specs.Invariants.{IsSound}
use Rattle.tip_machine.specs.Invariants.Links.{are_distinct}
use Rattle.tip_machine.specs.Invariants.Parties.{are_out, is_due, is_of_this_start, is_out_for}
use Rattle.tip_machine.specs.Invariants.Stored.{is_stored_as}
use Rattle.tip_machine.specs.Moves.{World}
use Rattle.tip_machine.specs.Outputs.{Output, calls_of}
use Rattle.tip_machine.specs.Requests.{owner}
use Rattle.tip_machine.specs.Returns.{Back, back_of, called, settled_by, voted_by}
use Rattle.tip_machine.specs.States.{Work, transaction_of}
use Rattle.tip_machine.specs.Steps.{entered}
use Rattle.tip_machine.specs.Transactions.{has_key, noting, pairs, party_answer, standing_at}
use Rattle.tip_machine.specs.Types.{PartyPlace, Transaction}
use Rattle.tip_machine.specs.declared.transaction.PartyPlace.TheVariants.{Here, Out, Spent}
use Rattle.tip_agreement.proofs.Apart.{all_more}
use Rattle.tip_agreement.proofs.Errands.{first_due}
use Rattle.tip_agreement.proofs.Events.{entered_whole}
use Rattle.tip_agreement.proofs.Moving.{due_awaited, sound_whole}
use Rattle.tip_agreement.proofs.Returned.{awaited_at, out_to_abort, owner_found, owns, said_at}
use Rattle.tip_agreement.proofs.Bases.{Alters, base_altered, base_entered, fits_row, stored_committed}
use Rattle.tip_agreement.proofs.Happening.{again}
use Rattle.tip_agreement.proofs.Keeping.{AreCared, AreShown, Base, has_done, is_cared, is_shown, waits_among}
use Rattle.tip_agreement.proofs.Picked.{IsPicked, in_picked, out_picked}
use Rattle.tip_agreement.proofs.Walking.{In, in_found}

-- A BRANCH IS TOLD

-- the member of this number was called, and answered so
abbrev pub is_called_so : (Call → Bool) → ℕ → Member → Bool
is_called_so test number m = (m.number == number) && option_map_or test m.call false

abbrev pub called_among : (Call → Bool) → List Member → ℕ × List ℕ → Bool
called_among test members branch = list_any (is_called_so test branch.0) members

-- it has done what it was told
abbrev has_done_so : ℕ → Member → Bool
has_done_so number m = is_called_so is_done_commit number m

abbrev done_among : List Member → ℕ × List ℕ → Bool
done_among members branch = called_among is_done_commit members branch

-- it waits still, or has done it
abbrev Told : List Member → ℕ × List ℕ → Type 0
Told members branch = (waits_among members branch ≡ true) ⊎ (done_among members branch ≡ true)

told_behind : (m : Member) (members : List Member) (branch : ℕ × List ℕ) → Told members branch → Told (m ∷ members) branch
told_behind m members branch (inl waits) = inl (or_right (is_ready m && (m.number == branch.0)) _ waits)
told_behind m members branch (inr done) = inr (or_right (has_done_so branch.0 m) _ done)

settles : (answers : List Settled) (members : List Member) (branch : ℕ × List ℕ) → waits_among members branch ≡ true → Told (settled_by answers members) branch
settles answers [] branch is = absurd (let wrong : false ≡ true = is in cc)
settles [] (m ∷ members) branch is = inl is
settles (s ∷ answers) (m ∷ members) branch is = step (is_ready m) refl (or_cases (is_ready m && (m.number == branch.0)) (waits_among members branch) is) (settles answers members branch) (settles (s ∷ answers) members branch) where
  told_now : (s : Settled) → (m.number == branch.0) ≡ true → Told (committing m s ∷ settled_by answers members) branch
  told_now Done here = inr (or_left (has_done_so branch.0 (committing m Done)) _ (and_from _ _ here refl))
  told_now Later here = inl (or_left (is_ready (committing m Later) && (m.number == branch.0)) _ here)

  step : (b : Bool) → is_ready m ≡ b → ((is_ready m && (m.number == branch.0)) ≡ true) ⊎ (waits_among members branch ≡ true) → (waits_among members branch ≡ true → Told (settled_by answers members) branch) → (waits_among members branch ≡ true → Told (settled_by (s ∷ answers) members) branch) → Told (cond b (committing m s ∷ settled_by answers members) (m ∷ settled_by (s ∷ answers) members)) branch
  step true ready (inl here) next later = told_now s (and_parts (is_ready m) (m.number == branch.0) here).1
  step true ready (inr rest) next later = told_behind (committing m s) (settled_by answers members) branch (next rest)
  step false idle (inl here) next later = absurd (both_ways (is_ready m) idle (and_parts (is_ready m) (m.number == branch.0) here).0)
  step false idle (inr rest) next later = told_behind m (settled_by (s ∷ answers) members) branch (later rest)

-- who is ready is not active
ready_settled : (phase : MemberPhase) (m : Member) → m.standing.phase ≡ phase → is_ready m ≡ true → is_active m ≡ true → ⊥
ready_settled member.Active m at ready active = let wrong : false ≡ true = sym (ap (λ f. is_ready (record m { standing = record m.standing { phase = f } })) at) ∙ ready in cc
ready_settled member.Ready m at ready active = let wrong : false ≡ true = sym (ap (λ f. is_active (record m { standing = record m.standing { phase = f } })) at) ∙ active in cc
ready_settled member.Ended m at ready active = let wrong : false ≡ true = sym (ap (λ f. is_ready (record m { standing = record m.standing { phase = f } })) at) ∙ ready in cc

votes_wait : (votes : List Vote) (members : List Member) (branch : ℕ × List ℕ) → waits_among members branch ≡ true → waits_among (voted_by votes members) branch ≡ true
votes_wait votes [] branch is = absurd (let wrong : false ≡ true = is in cc)
votes_wait [] (m ∷ members) branch is = is
votes_wait (v ∷ votes) (m ∷ members) branch is = step (is_active m) (is_no v) refl (or_cases (is_ready m && (m.number == branch.0)) (waits_among members branch) is) (votes_wait votes members branch) (votes_wait (v ∷ votes) members branch) where
  step : (a b : Bool) → is_active m ≡ a → ((is_ready m && (m.number == branch.0)) ≡ true) ⊎ (waits_among members branch ≡ true) → (waits_among members branch ≡ true → waits_among (voted_by votes members) branch ≡ true) → (waits_among members branch ≡ true → waits_among (voted_by (v ∷ votes) members) branch ≡ true) → waits_among (cond a (voting m v ∷ cond b members (voted_by votes members)) (m ∷ voted_by (v ∷ votes) members)) branch ≡ true
  step true b active (inl here) next later = absurd (ready_settled m.standing.phase m refl (and_parts (is_ready m) (m.number == branch.0) here).0 active)
  step true true active (inr rest) next later = or_right (is_ready (voting m v) && (m.number == branch.0)) _ rest
  step true false active (inr rest) next later = or_right (is_ready (voting m v) && (m.number == branch.0)) _ (next rest)
  step false b idle (inl here) next later = or_left (is_ready m && (m.number == branch.0)) _ here
  step false b idle (inr rest) next later = or_right (is_ready m && (m.number == branch.0)) _ (later rest)

-- on an errand that aborts none
told_by : (e : Errand) (back : Back) (members : List Member) (branch : ℕ × List ℕ) → (e ≡ errand.Abort → ⊥) → waits_among members branch ≡ true → Told (called e back members) branch
told_by errand.Abort back members branch never is = absurd (never refl)
told_by errand.Commit (Back.Settlements answers) members branch never is = settles answers members branch is
told_by errand.Commit (Back.Votes votes) members branch never is = inl is
told_by errand.Commit Back.Aborted members branch never is = inl is
told_by errand.Commit Back.Undone members branch never is = inl is
told_by errand.Vote (Back.Votes votes) members branch never is = inl (votes_wait votes members branch is)
told_by errand.Vote (Back.Settlements answers) members branch never is = inl is
told_by errand.Vote Back.Aborted members branch never is = inl is
told_by errand.Vote Back.Undone members branch never is = inl is
told_by errand.Idle back members branch never is = inl is

-- what it answered so is among its calls
pub calls_shown : (test : Call → Bool) (realm id : List ℕ) (party : PartyNotes) (members : List Member) (branch : ℕ × List ℕ) → bytes_eq id party.id ≡ true → called_among test members branch ≡ true → list_any (is_called realm id test branch.0) (filter_map (λ (m : Member). option_map (Output.Called party.id m.number m.standing.badge) m.call) members) ≡ true
calls_shown test realm id party [] branch named is = is
calls_shown test realm id party (m ∷ members) branch named is = step m.call (or_cases (is_called_so test branch.0 m) (called_among test members branch) is) (calls_shown test realm id party members branch named) where
  rest : List Output
  rest = filter_map (λ (m : Member). option_map (Output.Called party.id m.number m.standing.badge) m.call) members

  step : (call : Option Call) → (((m.number == branch.0) && option_map_or test m.call false) ≡ true) ⊎ (called_among test members branch ≡ true) → (called_among test members branch ≡ true → list_any (is_called realm id test branch.0) (filter_map (λ (m : Member). option_map (Output.Called party.id m.number m.standing.badge) m.call) members) ≡ true) → list_any (is_called realm id test branch.0) (cons_option (option_map (Output.Called party.id m.number m.standing.badge) m.call) (filter_map (λ (m : Member). option_map (Output.Called party.id m.number m.standing.badge) m.call) members)) ≡ true
  step c (inr later) next = behind m.call (next later) where
    behind : (c : Option Call) → list_any (is_called realm id test branch.0) (filter_map (λ (m : Member). option_map (Output.Called party.id m.number m.standing.badge) m.call) members) ≡ true → list_any (is_called realm id test branch.0) (cons_option (option_map (Output.Called party.id m.number m.standing.badge) c) (filter_map (λ (m : Member). option_map (Output.Called party.id m.number m.standing.badge) m.call) members)) ≡ true
    behind None is = is
    behind (Some call) is = or_right (is_called realm id test branch.0 (Output.Called party.id m.number m.standing.badge call)) _ is
  step c (inl here) next = now m.call (and_parts (m.number == branch.0) (option_map_or test m.call false) here).0 (and_parts (m.number == branch.0) (option_map_or test m.call false) here).1 where
    now : (c : Option Call) → (m.number == branch.0) ≡ true → option_map_or test c false ≡ true → list_any (is_called realm id test branch.0) (cons_option (option_map (Output.Called party.id m.number m.standing.badge) c) (filter_map (λ (m : Member). option_map (Output.Called party.id m.number m.standing.badge) m.call) members)) ≡ true
    now None number is = absurd (let wrong : false ≡ true = is in cc)
    now (Some call) number is = or_left (is_called realm id test branch.0 (Output.Called party.id m.number m.standing.badge call)) _ (and_from _ _ (and_from _ _ named number) is)

-- BEFORE IT GOES ON

module _ (world : World) (sound : IsSound world) (party : PartyNotes) (rest : List PartyNotes) (out : IsPicked world.errands party rest) (moments : List Moment) (moment : Moment) (back : Back)
    (shown : AreShown world.state.head.name (moments ++ moment ∷ []) world.state.transactions) (cared : AreCared world.state.head.name (moments ++ moment ∷ []) world.state.head.epoch world.state.transactions world.errands world.rows)
    (brings : (test : Output → Bool) → list_any test (calls_of (back_of party back)) ≡ true → list_any test moment.shown ≡ true)
    (t : Transaction) (owned : owner (back_of party back) world.state ≡ Some t) (e : Errand) (at : t.place ≡ Out e) where
  abbrev realm : List ℕ
  realm = world.state.head.name

  abbrev all : List Moment
  all = moments ++ moment ∷ []

  abbrev now : ℕ
  now = world.state.head.epoch

  abbrev id : List ℕ
  id = identifier realm t.key

  w : Work
  w = entered world.state

  pub found : transaction_of t.key world.state ≡ Some t
  found = owner_found (back_of party back) world.state t (sound_whole world sound) owned

  pub its_epoch : (party.epoch == now) ≡ true
  its_epoch = (owns (back_of party back) world.state t owned).epoch

  its_id : bytes_eq party.id id ≡ true
  its_id = (owns (back_of party back) world.state t owned).id

  pub named : bytes_eq id party.id ≡ true
  named = subst (λ x. bytes_eq x party.id ≡ true) (same_text party.id id its_id) (bytes_eq-self party.id)

  pub are_out_now : are_out world.state (party ∷ rest) ≡ true
  are_out_now = out_picked world.state world.errands party rest out sound.out

  pub its_errand : party.errand ≡ e
  its_errand = awaited_at party.errand e (subst (λ p. is_out_for party.errand p ≡ true) at ((due_awaited party world.state (first_due world.state party rest are_out_now)).due t owned))

  base : Base realm all now (entered world.state) world.errands world.rows
  base = base_entered world sound all shown cared

  pub listed : In t world.state.transactions
  listed = in_found (has_key t.key) world.state.transactions t found

  -- the others that are out are of others
  apart_from : (other : PartyNotes) → In other rest → bytes_eq id other.id ≡ true → (other.epoch == now) ≡ true → ⊥
  apart_from other there same this =
      let both = and_parts _ (list_all (is_due world.state) (party ∷ rest)) are_out_now in
      let first = subst (λ b. are_distinct (λ (this that : PartyNotes). bytes_eq this.id that.id) (cond b (party ∷ filter (is_of_this_start world.state) rest) (filter (is_of_this_start world.state) rest)) ≡ true) its_epoch both.0 in
      let none = not-true _ (and_parts (not (list_any (λ (q : PartyNotes). bytes_eq party.id q.id) (filter (is_of_this_start world.state) rest))) _ first).0 in
      both_ways _ none (any_there rest other there (subst (λ x. bytes_eq x other.id ≡ true) (sym (same_text party.id id its_id)) same) this) where
        any_there : (ps : List PartyNotes) (other : PartyNotes) → In other ps → bytes_eq party.id other.id ≡ true → (other.epoch == now) ≡ true → list_any (λ (q : PartyNotes). bytes_eq party.id q.id) (filter (is_of_this_start world.state) ps) ≡ true
        any_there [] other there same this = absurd there
        any_there (p ∷ ps) other there same this = step (is_of_this_start world.state p) refl there (λ later. any_there ps other later same this) where
          step : (b : Bool) → is_of_this_start world.state p ≡ b → (other ≡ p) ⊎ In other ps → (In other ps → list_any (λ (q : PartyNotes). bytes_eq party.id q.id) (filter (is_of_this_start world.state) ps) ≡ true) → list_any (λ (q : PartyNotes). bytes_eq party.id q.id) (cond b (p ∷ filter (is_of_this_start world.state) ps) (filter (is_of_this_start world.state) ps)) ≡ true
          step true here (inl is) later = or_left (bytes_eq party.id p.id) _ (subst (λ (q : PartyNotes). bytes_eq party.id q.id ≡ true) is same)
          step true here (inr is) later = or_right (bytes_eq party.id p.id) _ (later is)
          step false old (inl is) later = absurd (both_ways (is_of_this_start world.state p) old (subst (λ (q : PartyNotes). (q.epoch == now) ≡ true) is this))
          step false old (inr is) later = later is

  -- one that is committed was not to abort
  never_aborts : (branches : List (ℕ × List ℕ)) (subs : List (List ℕ × List ℕ)) → row_at t.key world.rows ≡ Some (row.Committed branches subs) → party.errand ≡ errand.Abort → ⊥
  never_aborts branches subs there aborts =
      let committed = (stored_committed t.phase t branches subs (subst (λ r. is_stored_as t.phase t r ≡ true) there (fits_row world sound all t listed))).1 in
      let so = said_at (back_of party back) t (entered world.state) (entered_whole world.state (sound_whole world sound)) found (record { epoch = its_epoch; id = its_id }) (Out errand.Abort) (at ∙ ap Out (sym its_errand ∙ aborts)) in
      let aborted = out_to_abort t.phase so.0 so.1 in
      let wrong : Committed ≡ Aborted = sym committed ∙ aborted in
      cc

  -- its branches
  cared_back : (branches : List (ℕ × List ℕ)) (subs : List (List ℕ × List ℕ)) → row_at t.key world.rows ≡ Some (row.Committed branches subs) → list_all (is_cared realm all now id (back_of party back).members) branches ≡ true
  cared_back branches subs there = all_more (is_cared realm all now id party.members) (is_cared realm all now id (back_of party back).members) branches (λ b is. elim (or_cases (has_done realm all id b) (waits_among party.members b) is) [
    | inl done ↦ or_left (has_done realm all id b) _ done
    | inr waits ↦ elim (told_by party.errand back party.members b (never_aborts branches subs there) waits) [
      | inl still ↦ or_right (has_done realm all id b) _ still
      | inr done ↦ or_left (has_done realm all id b) _ (shown_now b (brings (is_called realm id is_done_commit b.0) (calls_shown is_done_commit realm id (back_of party back) (back_of party back).members b named done)))
    ]
  ]) ((cared t listed branches subs there).out e at party (in_picked world.errands party rest out party (inl refl)) named its_epoch) where
    shown_now : (b : ℕ × List ℕ) → list_any (is_called realm id is_done_commit b.0) moment.shown ≡ true → has_done realm all id b ≡ true
    shown_now b is = ap (list_any (is_called realm id is_done_commit b.0)) (flat_map-append (λ (m : Moment). m.shown) moments (moment ∷ [])) ∙ (list_any-append (is_called realm id is_done_commit b.0) (shown_in moments) (shown_in (moment ∷ [])) ∙ or_right (list_any (is_called realm id is_done_commit b.0) (shown_in moments)) _ (ap (list_any (is_called realm id is_done_commit b.0)) (append-nil moment.shown) ∙ is))

  here_again : Base realm all now (alter t.key (standing_at (Here (back_of party back))) (entered world.state)) rest world.rows
  here_again = base_altered realm all now (entered world.state) world.errands rest world.rows t.key (standing_at (Here (back_of party back))) (λ u. refl) (λ p is. in_picked world.errands party rest out p (inr is)) base (λ u is. subst (Alters realm all now rest world.rows (standing_at (Here (back_of party back)))) (same_Some t u (sym found ∙ is)) (record {
    own = λ p here. sym (ap (λ (q : PartyNotes). q.id) (party_is (back_of party back) p here)) ∙ same_text party.id id its_id;
    free = λ p here. apart_from;
    shown = shown t listed;
    cared = λ branches subs there. record {
      here = λ p here. subst (λ (q : PartyNotes). list_all (is_cared realm all now id q.members) branches ≡ true) (party_is (back_of party back) p here) (cared_back branches subs there);
      out = λ f gone. absurd (let wrong : Here (back_of party back) ≡ Out f = gone in cc);
      spent = λ gone. absurd (let wrong : Here (back_of party back) ≡ Spent = gone in cc);
    };
    pairs_so = λ committed. refl;
    phase = refl;
  })) where
    party_in : PartyNotes → PartyPlace → PartyNotes
    party_in other (Here p) = p
    party_in other place = other

    party_is : (p q : PartyNotes) → Here p ≡ Here q → p ≡ q
    party_is p q same = ap (party_in p) same

  -- with what it voted
  pub base_again : Base realm all now (again e (back_of party back) t (entered world.state)) rest world.rows
  base_again = step e where
    answered_one : Base realm all now (alter t.key (noting 0 (answered (party_answer (back_of party back)))) (alter t.key (standing_at (Here (back_of party back))) (entered world.state))) rest world.rows
    answered_one = base_altered realm all now (alter t.key (standing_at (Here (back_of party back))) (entered world.state)) rest rest world.rows t.key (noting 0 (answered (party_answer (back_of party back)))) (λ u. refl) (λ p is. is) here_again (λ u is.
        let there = in_found (has_key t.key) (alter t.key (standing_at (Here (back_of party back))) (entered world.state)).state.transactions u is in
        record {
          own = λ p here. here_again.own u p there here;
          free = λ p here. here_again.free u p there here;
          shown = first_shown u u.parts (here_again.shown u there);
          cared = here_again.cared u there;
          pairs_so = λ committed. pairs_stay u u.parts;
          phase = refl;
        }) where
          first_shown : (u : Transaction) (parts : List Participant) → list_all (is_shown realm all (identifier realm u.key)) parts ≡ true → list_all (is_shown realm all (identifier realm u.key)) (changed_at 0 (answered (party_answer (back_of party back))) parts) ≡ true
          first_shown u [] is = is
          first_shown u (p ∷ parts) is = is

          pairs_stay : (u : Transaction) (parts : List Participant) → pairs (record u { parts = changed_at 0 (answered (party_answer (back_of party back))) parts }) ≡ pairs (record u { parts = parts })
          pairs_stay u [] = refl
          pairs_stay u (p ∷ parts) = refl

    step : (e : Errand) → Base realm all now (again e (back_of party back) t (entered world.state)) rest world.rows
    step errand.Vote = answered_one
    step errand.Idle = here_again
    step errand.Commit = here_again
    step errand.Abort = here_again
