-- What a party that comes back comes to, case by case.
use Rattle.std.proofs.Common.{◌≡◌, ◌≤◌, Bool, true, false, cond, ℕ, List, [], ◌∷◌, Option, Some, None, length, map, refl, ap, arith, sym, subst, ◌∙◌}
use Rattle.std.specs.Prelude.{◌||◌, filter, is_none, is_some}
use Rattle.std.specs.List.{list_any}
use Rattle.std.specs.Option.{option_and_then, option_map_or}
use Rattle.std.proofs.lemmas.Option.{none-some, same_Some}
use Rattle.tip_branch.specs.Notes.{PartyNotes}
use Rattle.tip_branch.specs.Votes.{ballot}
use Rattle.tip_branch.specs.declared.member.Errand.{Errand}
use Rattle.tip_branch.specs.declared.member.Errand.TheVariants as errand
use Rattle.tip_branch.specs.declared.member.Member.{Member}
use Rattle.tip_rows.specs.Keys.{Key, is_same}
use Rattle.tip_table.specs.Kept.{item_at}
use Rattle.tip_table.specs.Lists.{changed}
use Rattle.tip_table.proofs.Standing.{standing, stands_written}
use Rattle.tip_table.proofs.Standing.{found as found_first}
use Rattle.tip_txn.specs.Parts.{answered, is_yes}
use Rattle.tip_txn.specs.declared.answer.Ballot.{Ballot}
use Rattle.tip_txn.specs.declared.answer.Ballot.TheVariants as answer
use Rattle.tip_txn.specs.declared.answer.Decision.TheVariants as decision
use Rattle.tip_line.specs.declared.refusal.Refusal.TheVariants.{Busy, NotActive}
use Rattle.tip_machine.specs.Changes.{alter, refuse}
use Rattle.tip_machine.specs.Connections.{is_on}
use Rattle.tip_machine.specs.Proceeding.{dispatch, dispatched, errand_in, finish, give_out, let_go, owed_to_superior, proceed}
use Rattle.tip_machine.specs.Requests.{owner, resume, resume_in, settled, settled_for, strange, voted, voted_for}
use Rattle.tip_machine.specs.States.{Attempt, Work, identified_by, transaction_of}
use Rattle.tip_machine.specs.Steps.{chosen}
use Rattle.tip_machine.specs.Transactions.{as_answer, has_key, has_ready, is_committed, is_done, noting, party_answer, refuses, standing_at}
use Rattle.tip_machine.specs.Types.{PartyPlace, Transaction}
use Rattle.tip_machine.specs.declared.transaction.PartyPlace.TheVariants.{Here, Out, Spent}
use Rattle.tip_outlook.specs.Searches.{HeldTransaction}
use Rattle.tip_machine.specs.declared.event.Event.TheVariants.{Settled, Voted}
use Rattle.tip_outlook.specs.Endings.{EndsBy, EndsSo, ended, ending_on}
use Rattle.tip_outlook.specs.Wanting.{Course, back_at, foreseen, outlook, settled_wanted, vote_wanted}
use Rattle.tip_rules.specs.Works.{ContinuesAs, Does, Held, is_aborting, is_committing, is_voting, IsIdle, lines_for, lines_of, MayDispatch, party_at, party_here, work_of}
use Rattle.tip_rules.proofs.Losing.{same_room}
use Rattle.tip_rules.proofs.Outcomes.{altered_next, key_is}
use Rattle.tip_rules.proofs.Owing.{altered_there}
use Rattle.tip_rules.proofs.Proceeding.{dispatch_none, dispatch_some, quiet_dispatch}
use Rattle.tip_rules.proofs.Works.{altered_from, may_idle, then}

-- The party's answer

any_there : (test : Option Ballot → Bool) → test None ≡ false → (members : List Member) → list_any test (filter is_some (map ballot members)) ≡ list_any (λ m. test (ballot m)) members
any_there test none [] = refl
any_there test none (m ∷ ms) = step (ballot m) (any_there test none ms) where
  step : (o : Option Ballot) → list_any test (filter is_some (map ballot ms)) ≡ list_any (λ m. test (ballot m)) ms → list_any test (cond (is_some o) (o ∷ filter is_some (map ballot ms)) (filter is_some (map ballot ms))) ≡ (test o || list_any (λ m. test (ballot m)) ms)
  step None rest = rest ∙ ap (λ b. b || list_any (λ m. test (ballot m)) ms) (sym none)
  step (Some said) rest = ap (λ b. test (Some said) || b) rest

none_missing : (answers : List (Option Ballot)) → list_any is_none (filter is_some answers) ≡ false
none_missing [] = refl
none_missing (None ∷ answers) = none_missing answers
none_missing (Some said ∷ answers) = none_missing answers

-- what is decided where none is missing
decided_by : Bool → Bool → Bool → Ballot
decided_by refused missing agreed = as_answer (cond refused decision.Abort (cond missing decision.Wait (cond agreed decision.Commit decision.ReadOnly)))

answers_by : (party : PartyNotes) → party_answer party ≡ decided_by (list_any (λ m. refuses (ballot m)) party.members) false (list_any (λ m. is_yes (ballot m)) party.members)
unfolding decided_by
answers_by party =
    let said = filter is_some (map ballot party.members) in
    ap (λ r. decided_by r (list_any is_none said) (list_any is_yes said)) (any_there refuses refl party.members)
    ∙ ap (λ n. decided_by (list_any (λ m. refuses (ballot m)) party.members) n (list_any is_yes said)) (none_missing (map ballot party.members))
    ∙ ap (decided_by (list_any (λ m. refuses (ballot m)) party.members) false) (any_there is_yes refl party.members)

module _ (party : PartyNotes) where
  pub answers_no : true ≡ list_any (λ m. refuses (ballot m)) party.members → answer.No ≡ party_answer party
  unfolding decided_by
  answers_no so = ap (λ r. decided_by r false (list_any (λ m. is_yes (ballot m)) party.members)) so ∙ sym (answers_by party)

  pub answers_yes : false ≡ list_any (λ m. refuses (ballot m)) party.members → true ≡ list_any (λ m. is_yes (ballot m)) party.members → answer.Yes ≡ party_answer party
  unfolding decided_by
  answers_yes so agreed = ap (λ y. decided_by false false y) agreed ∙ ap (λ r. decided_by r false (list_any (λ m. is_yes (ballot m)) party.members)) so ∙ sym (answers_by party)

  pub answers_read : false ≡ list_any (λ m. refuses (ballot m)) party.members → false ≡ list_any (λ m. is_yes (ballot m)) party.members → answer.ReadOnly ≡ party_answer party
  unfolding decided_by
  answers_read so agreed = ap (λ y. decided_by false false y) agreed ∙ ap (λ r. decided_by r false (list_any (λ m. is_yes (ballot m)) party.members)) so ∙ sym (answers_by party)

pub ruleset answering = (answers_no, answers_yes, answers_read)

-- It is here again

pub ruleset back = (standing)

-- A vote

-- what is noted of a transaction tells nobody
pub room_back : (a b : Held) (key : Key) (f : Transaction → Transaction) → Does a b (alter key f (work_of a)) → lines_for key (work_of a).state ≤ a.making.free → lines_for key (work_of b).state ≤ b.making.free
room_back a b key f does enough =
    let free = same_room a b (alter key f (work_of a)) does refl in
    let lines : lines_for key (work_of b).state ≡ lines_for key (work_of a).state = ap (λ w. lines_for key w.state) does.own in
    omega (arith, free, lines, enough)

pub idle_back : (a b : Held) (key : Key) (f : Transaction → Transaction) → Does a b (alter key f (work_of a)) → IsIdle a.making.answer → IsIdle b.making.answer
idle_back a b key f does idle = record { work = ap (λ w. w.answer.work) does.own ∙ idle.work; spent = ap (λ w. w.answer.spent) does.own ∙ idle.spent }

pub votes_noted : (a b c d : Held) (key : Key) (party : PartyNotes) (said : Ballot) → said ≡ party_answer party → Does a b (alter key (standing_at (Here party)) (work_of a)) → Does b c (alter key (noting 0 (answered said)) (work_of b)) → Does c d (chosen (proceed key (work_of c)) c.outcome) →
    Does a d (chosen (proceed key (alter key (noting 0 (answered (party_answer party))) (alter key (standing_at (Here party)) (work_of a)))) a.outcome)
votes_noted a b c d key party said same first second third =
    let both = then a b c (alter key (noting 0 (answered said))) _ first second in
    subst (λ s. Does a d (chosen (proceed key (alter key (noting 0 (answered s)) (alter key (standing_at (Here party)) (work_of a)))) a.outcome)) same
    (subst (λ o. Does a d (chosen (proceed key (alter key (noting 0 (answered said)) (alter key (standing_at (Here party)) (work_of a)))) o)) both.outcome
    (then a c d (λ w. chosen (proceed key w) c.outcome) _ both third))

pub comes_back_so : (a b c : Held) (key : Key) (party : PartyNotes) → Does a b (alter key (standing_at (Here party)) (work_of a)) → Does b c (chosen (proceed key (work_of b)) b.outcome) → Does a c (chosen (proceed key (alter key (standing_at (Here party)) (work_of a))) a.outcome)
comes_back_so a b c key party first second =
    subst (λ o. Does a c (chosen (proceed key (alter key (standing_at (Here party)) (work_of a))) o)) first.outcome (then a b c (λ w. chosen (proceed key w) b.outcome) _ first second)

-- What follows is what was decided of the transaction with its party

-- in two
changed_again : (key : Key) (f h : Transaction → Transaction) → ((u : Transaction) → (f u).key ≡ u.key) → (ts : List Transaction) → changed (has_key key) h (changed (has_key key) f ts) ≡ changed (has_key key) (λ u. h (f u)) ts
changed_again key f h keyed [] = refl
changed_again key f h keyed (t ∷ ts) = step (has_key key t) refl (changed_again key f h keyed ts) where
  step : (b : Bool) → has_key key t ≡ b → changed (has_key key) h (changed (has_key key) f ts) ≡ changed (has_key key) (λ u. h (f u)) ts → changed (has_key key) h (cond b (f t ∷ ts) (t ∷ changed (has_key key) f ts)) ≡ cond b (h (f t) ∷ ts) (t ∷ changed (has_key key) (λ u. h (f u)) ts)
  step true is rest = subst (λ b. cond b (h (f t) ∷ ts) (f t ∷ changed (has_key key) h ts) ≡ h (f t) ∷ ts) (sym (ap (is_same key) (keyed t) ∙ is)) refl
  step false is rest = rw is (ap (λ us. t ∷ us) rest)

altered_again : (key : Key) (f h : Transaction → Transaction) (w : Work) → ((u : Transaction) → (f u).key ≡ u.key) → alter key h (alter key f w) ≡ alter key (λ u. h (f u)) w
altered_again key f h w keyed = ap (λ ts. record w { state = record w.state { transactions = ts } }) (changed_again key f h keyed w.state.transactions)

pub vote_next : (a b c : Held) (key : Key) (party : PartyNotes) (said : Ballot) → said ≡ party_answer party → ContinuesAs (transaction_of key (work_of a).state) (λ t. noting 0 (answered (party_answer party)) (standing_at (Here party) t)) a →
    Does a b (alter key (standing_at (Here party)) (work_of a)) → Does b c (alter key (noting 0 (answered said)) (work_of b)) → chosen (proceed key (work_of c)) c.outcome ≡ ended key (ending_on c.outcome c.endings) (work_of c)
vote_next a b c key party said same ends first second =
    altered_next a c key (λ t. noting 0 (answered (party_answer party)) (standing_at (Here party) t)) (λ u. refl) ends
    (subst (λ s. Does a c (alter key (λ t. noting 0 (answered s) (standing_at (Here party) t)) (work_of a))) same
    (subst (Does a c) (altered_again key (standing_at (Here party)) (noting 0 (answered said)) (work_of a) (λ u. refl)) (then a b c (alter key (noting 0 (answered said))) _ first second)))

pub back_next : (a b : Held) (key : Key) (party : PartyNotes) → ContinuesAs (transaction_of key (work_of a).state) (standing_at (Here party)) a → Does a b (alter key (standing_at (Here party)) (work_of a)) →
    chosen (proceed key (work_of b)) b.outcome ≡ ended key (ending_on b.outcome b.endings) (work_of b)
back_next a b key party ends does = altered_next a b key (standing_at (Here party)) (λ u. refl) ends does

pub ruleset taking = (room_back, idle_back, may_idle, votes_noted, comes_back_so, vote_next, back_next)

-- Whose party it is

module _ (a b : Held) (party : PartyNotes) where
  pub voted_none : owner party (work_of a).state ≡ None → Does a b (chosen (strange party (work_of a)) a.outcome) → Does a b (chosen (voted (owner party (work_of a).state) party (work_of a)) a.outcome)
  unfolding voted
  voted_none none does = subst (λ o. Does a b (chosen (voted o party (work_of a)) a.outcome)) (sym none) does

  module _ (key : Key) (same : owner party (work_of a).state ≡ transaction_of key (work_of a).state) (here : Transaction) (there : transaction_of key (work_of a).state ≡ Some here) where
    pub lines_owned : (free : ℕ) → lines_of (owner party (work_of a).state) (work_of a).state ≤ free → lines_for key (work_of a).state ≤ free
    lines_owned free enough =
        let is : lines_of (owner party (work_of a).state) (work_of a).state ≡ lines_for here.key (work_of a).state = ap (λ o. lines_of o (work_of a).state) (same ∙ there) in
        let keyed : lines_for key (work_of a).state ≡ lines_for here.key (work_of a).state = ap (λ k. lines_for k (work_of a).state) (key_is a key here there) in
        omega (arith, is, keyed, enough)

    votes_at : (place : PartyPlace) → here.place ≡ place → Does a b (chosen (voted_for place party here (work_of a)) a.outcome) → Does a b (chosen (voted (owner party (work_of a).state) party (work_of a)) a.outcome)
    unfolding voted
    votes_at place is does = subst (λ o. Does a b (chosen (voted o party (work_of a)) a.outcome)) (sym (same ∙ there)) (subst (λ p. Does a b (chosen (voted_for p party here (work_of a)) a.outcome)) (sym is) does)

    pub voted_out : is_voting here.place ≡ true → Does a b (chosen (proceed key (alter key (noting 0 (answered (party_answer party))) (alter key (standing_at (Here party)) (work_of a)))) a.outcome) → Does a b (chosen (voted (owner party (work_of a).state) party (work_of a)) a.outcome)
    voted_out is does = step here.place refl is where
      step : (place : PartyPlace) → here.place ≡ place → is_voting place ≡ true → Does a b (chosen (voted (owner party (work_of a).state) party (work_of a)) a.outcome)
      step (Here other) same is = absurd (cc)
      step (Out errand.Idle) same is = absurd (cc)
      step (Out errand.Vote) same is = votes_at (Out errand.Vote) same (subst (λ k. Does a b (chosen (proceed k (alter k (noting 0 (answered (party_answer party))) (alter k (standing_at (Here party)) (work_of a)))) a.outcome)) (key_is a key here there) does)
      step (Out errand.Commit) same is = absurd (cc)
      step (Out errand.Abort) same is = absurd (cc)
      step Spent same is = absurd (cc)

    pub voted_else : is_voting here.place ≡ false → Does a b (chosen (strange party (work_of a)) a.outcome) → Does a b (chosen (voted (owner party (work_of a).state) party (work_of a)) a.outcome)
    voted_else is does = step here.place refl is where
      step : (place : PartyPlace) → here.place ≡ place → is_voting place ≡ false → Does a b (chosen (voted (owner party (work_of a).state) party (work_of a)) a.outcome)
      step (Here other) same is = votes_at (Here other) same does
      step (Out errand.Idle) same is = votes_at (Out errand.Idle) same does
      step (Out errand.Vote) same is = absurd (cc)
      step (Out errand.Commit) same is = votes_at (Out errand.Commit) same does
      step (Out errand.Abort) same is = votes_at (Out errand.Abort) same does
      step Spent same is = votes_at Spent same does

-- what was decided of a vote, or of what a party was told, is decided of its transaction
pub vote_ends : (a : Held) (party : PartyNotes) (key : Key) → owner party (work_of a).state ≡ transaction_of key (work_of a).state → (here : Transaction) → transaction_of key (work_of a).state ≡ Some here → is_voting here.place ≡ true → EndsBy (foreseen (Voted party) (work_of a).state) a.endings →
    ContinuesAs (transaction_of key (work_of a).state) (λ t. noting 0 (answered (party_answer party)) (standing_at (Here party) t)) a
vote_ends a party key own here there out ends =
    subst (λ o. ContinuesAs o (λ t. noting 0 (answered (party_answer party)) (standing_at (Here party) t)) a) (sym there)
    (by here.place out (subst (λ o. EndsBy (option_map_or (λ t. vote_wanted t.place party t (work_of a).state) o Course.Stays) a.endings) (own ∙ there) ends)) where
      by : (place : PartyPlace) → is_voting place ≡ true → EndsBy (vote_wanted place party here (work_of a).state) a.endings → EndsSo (outlook (noting 0 (answered (party_answer party)) (standing_at (Here party) here))) (owed_to_superior here.key (work_of a).state) a.endings
      by (Here other) is so = absurd (cc)
      by (Out errand.Idle) is so = absurd (cc)
      by (Out errand.Vote) is so = so
      by (Out errand.Commit) is so = absurd (cc)
      by (Out errand.Abort) is so = absurd (cc)
      by Spent is so = absurd (cc)

module _ (a : Held) (party : PartyNotes) (key : Key) (own : owner party (work_of a).state ≡ transaction_of key (work_of a).state) (here : Transaction) (there : transaction_of key (work_of a).state ≡ Some here) (ends : EndsBy (foreseen (Settled party) (work_of a).state) a.endings) where
  told_ends : EndsBy (settled_wanted here.place party here (work_of a).state) a.endings
  told_ends = subst (λ o. EndsBy (option_map_or (λ t. settled_wanted t.place party t (work_of a).state) o Course.Stays) a.endings) (own ∙ there) ends

  pub commit_ends : is_committing here.place ≡ true → ContinuesAs (transaction_of key (work_of a).state) (standing_at (back_at party)) a
  commit_ends out = subst (λ o. ContinuesAs o (standing_at (back_at party)) a) (sym there) (by here.place out told_ends) where
    by : (place : PartyPlace) → is_committing place ≡ true → EndsBy (settled_wanted place party here (work_of a).state) a.endings → EndsSo (outlook (standing_at (back_at party) here)) (owed_to_superior here.key (work_of a).state) a.endings
    by (Here other) is so = absurd (cc)
    by (Out errand.Idle) is so = absurd (cc)
    by (Out errand.Vote) is so = absurd (cc)
    by (Out errand.Commit) is so = so
    by (Out errand.Abort) is so = absurd (cc)
    by Spent is so = absurd (cc)

  pub abort_ends : is_aborting here.place ≡ true → ContinuesAs (transaction_of key (work_of a).state) (standing_at (Here party)) a
  abort_ends out = subst (λ o. ContinuesAs o (standing_at (Here party)) a) (sym there) (by here.place out told_ends) where
    by : (place : PartyPlace) → is_aborting place ≡ true → EndsBy (settled_wanted place party here (work_of a).state) a.endings → EndsSo (outlook (standing_at (Here party) here)) (owed_to_superior here.key (work_of a).state) a.endings
    by (Here other) is so = absurd (cc)
    by (Out errand.Idle) is so = absurd (cc)
    by (Out errand.Vote) is so = absurd (cc)
    by (Out errand.Commit) is so = absurd (cc)
    by (Out errand.Abort) is so = so
    by Spent is so = absurd (cc)

-- a party that is out is not here
pub voting_out : (place : ℕ) (held : Held) (item : HeldTransaction) → item_at held.transactions place ≡ Some item → is_voting item.place ≡ true → party_here place held ≡ None
voting_out place held item is voting = ap (λ o. option_and_then (λ (t : HeldTransaction). party_at t.place) o) is ∙ step item.place voting where
  step : (at : PartyPlace) → is_voting at ≡ true → party_at at ≡ None
  step (Here other) so = absurd (cc)
  step (Out errand) so = refl
  step Spent so = absurd (cc)

pub ruleset voting = (voted_none, lines_owned, voted_out, voted_else, voting_out)

-- The outcome was told

-- once it is dispatched, the party is here no more
pub may_dispatched : (a b : Held) (key : Key) → Does a b (dispatch key (work_of a)) → MayDispatch key (work_of b)
may_dispatched a b key does = subst (MayDispatch key) (sym does.own) (step (transaction_of key (work_of a).state) refl) where
  gone_out : (t : Transaction) (left : PartyPlace) → ((party : PartyNotes) → left ≡ Here party → ⊥) → transaction_of key (alter key (standing_at left) (work_of a)).state ≡ Some t → (party : PartyNotes) → t.place ≡ Here party → ⊥
  gone_out t left away found party here = let before = altered_from key (standing_at left) (work_of a) t (λ u. refl) found in away party (sym (ap (λ (u : Transaction). u.place) before.2) ∙ here)

  out_here : (errand : Errand) (party : PartyNotes) → Out errand ≡ Here party → ⊥
  out_here errand party is = absurd (cc)

  spent_here : (party : PartyNotes) → Spent ≡ Here party → ⊥
  spent_here party is = absurd (cc)

  sent : (t : Transaction) (party : PartyNotes) (ready : Bool) → MayDispatch key (cond ready (give_out (errand_in t.phase) party key (work_of a)) (let_go party key (work_of a)))
  sent t party true = λ u other found here. absurd (gone_out u (Out (errand_in t.phase)) (out_here (errand_in t.phase)) found other here)
  sent t party false = λ u other found here. absurd (gone_out u Spent spent_here found other here)

  at : (t : Transaction) → transaction_of key (work_of a).state ≡ Some t → (place : PartyPlace) → t.place ≡ place → MayDispatch key (dispatched place t.phase key (work_of a))
  at t found (Here party) is = sent t party (has_ready party)
  at t found (Out errand) is = λ u other there here. absurd (out_here errand other (sym is ∙ ap (λ (v : Transaction). v.place) (same_Some t u (sym found ∙ there)) ∙ here))
  at t found Spent is = λ u other there here. absurd (spent_here other (sym is ∙ ap (λ (v : Transaction). v.place) (same_Some t u (sym found ∙ there)) ∙ here))

  step : (found : Option Transaction) → transaction_of key (work_of a).state ≡ found → MayDispatch key (dispatch key (work_of a))
  step None is = subst (MayDispatch key) (sym (dispatch_none key (work_of a) is)) (λ u other there here. absurd (none-some u (sym is ∙ there)))
  step (Some t) is = subst (MayDispatch key) (sym (dispatch_some key (work_of a) t is)) (at t is t.place refl)

-- a dispatch tells no connection
pub room_dispatched : (a b : Held) (key : Key) → Does a b (dispatch key (work_of a)) → lines_for key (work_of a).state ≤ a.making.free → lines_for key (work_of b).state ≤ b.making.free
room_dispatched a b key does enough =
    let quiet = quiet_dispatch key (work_of a) in
    let free = same_room a b (dispatch key (work_of a)) does quiet.1 in
    let lines : lines_for key (work_of b).state ≡ lines_for key (work_of a).state = ap (λ w. lines_for key w.state) does.own ∙ ap (λ cs. length (filter (is_on key) cs)) quiet.0 in
    omega (arith, free, lines, enough)

pub acknowledges_all : (a b c d : Held) (key : Key) (party : PartyNotes) (waits : Bool) → waits ≡ has_ready party → waits ≡ false → Does a b (alter key (standing_at (Here party)) (work_of a)) → Does b c (dispatch key (work_of b)) → Does c d (chosen (proceed key (work_of c)) c.outcome) →
    Does a d (chosen (proceed key (cond (has_ready party) (alter key (standing_at (Here party)) (work_of a)) (dispatch key (alter key (standing_at (Here party)) (work_of a))))) a.outcome)
acknowledges_all a b c d key party waits same is first second third =
    let both = then a b c (dispatch key) _ first second in
    subst (λ w. Does a d (chosen (proceed key (cond w (alter key (standing_at (Here party)) (work_of a)) (dispatch key (alter key (standing_at (Here party)) (work_of a))))) a.outcome)) (sym is ∙ same)
    (subst (λ o. Does a d (chosen (proceed key (dispatch key (alter key (standing_at (Here party)) (work_of a)))) o)) both.outcome
    (then a c d (λ w. chosen (proceed key w) c.outcome) _ both third))

pub waits_on : (a b c : Held) (key : Key) (party : PartyNotes) (waits : Bool) → waits ≡ has_ready party → waits ≡ true → Does a b (alter key (standing_at (Here party)) (work_of a)) → Does b c (chosen (proceed key (work_of b)) b.outcome) →
    Does a c (chosen (proceed key (cond (has_ready party) (alter key (standing_at (Here party)) (work_of a)) (dispatch key (alter key (standing_at (Here party)) (work_of a))))) a.outcome)
waits_on a b c key party waits same is first second =
    subst (λ w. Does a c (chosen (proceed key (cond w (alter key (standing_at (Here party)) (work_of a)) (dispatch key (alter key (standing_at (Here party)) (work_of a))))) a.outcome)) (sym is ∙ same) (comes_back_so a b c key party first second)

-- what was decided of the transaction with its party, which waits, or without it
waiting_next : (a : Held) (o : Option Transaction) (party : PartyNotes) (waits : Bool) → waits ≡ has_ready party → ContinuesAs o (standing_at (back_at party)) a → ContinuesAs o (standing_at (cond waits (Here party) Spent)) a
waiting_next a None party waits same ends = ends
waiting_next a (Some t) party waits same ends = subst (λ w. EndsSo (outlook (standing_at (cond w (Here party) Spent) t)) (owed_to_superior t.key (work_of a).state) a.endings) (sym same) ends

pub waits_next : (a b : Held) (key : Key) (party : PartyNotes) (waits : Bool) → waits ≡ has_ready party → waits ≡ true → ContinuesAs (transaction_of key (work_of a).state) (standing_at (back_at party)) a → Does a b (alter key (standing_at (Here party)) (work_of a)) →
    chosen (proceed key (work_of b)) b.outcome ≡ ended key (ending_on b.outcome b.endings) (work_of b)
waits_next a b key party waits same is ends does =
    back_next a b key party (subst (λ w. ContinuesAs (transaction_of key (work_of a).state) (standing_at (cond w (Here party) Spent)) a) is (waiting_next a (transaction_of key (work_of a).state) party waits same ends)) does

pub spent_next : (a b c : Held) (key : Key) (party : PartyNotes) (waits : Bool) → waits ≡ has_ready party → waits ≡ false → ContinuesAs (transaction_of key (work_of a).state) (standing_at (back_at party)) a →
    Does a b (alter key (standing_at (Here party)) (work_of a)) → Does b c (dispatch key (work_of b)) → chosen (proceed key (work_of c)) c.outcome ≡ ended key (ending_on c.outcome c.endings) (work_of c)
spent_next a b c key party waits same is ends first second = by (transaction_of key (work_of a).state) refl (subst (λ w. ContinuesAs (transaction_of key (work_of a).state) (standing_at (cond w (Here party) Spent)) a) is (waiting_next a (transaction_of key (work_of a).state) party waits same ends)) where
  by : (o : Option Transaction) → transaction_of key (work_of a).state ≡ o → ContinuesAs o (standing_at Spent) a → chosen (proceed key (work_of c)) c.outcome ≡ ended key (ending_on c.outcome c.endings) (work_of c)
  by None none so = absurd so
  by (Some t) found so =
      let named : key ≡ t.key = key_is a key t found in
      let there : transaction_of t.key (work_of a).state ≡ Some t = subst (λ k. transaction_of k (work_of a).state ≡ Some t) named found in
      let here : transaction_of t.key (alter t.key (standing_at (Here party)) (work_of a)).state ≡ Some (standing_at (Here party) t) = altered_there t (standing_at (Here party)) (λ u. refl) (work_of a) there in
      let both : Does a c (dispatch key (alter key (standing_at (Here party)) (work_of a))) = then a b c (dispatch key) _ first second in
      let gone : dispatch t.key (alter t.key (standing_at (Here party)) (work_of a)) ≡ let_go party t.key (alter t.key (standing_at (Here party)) (work_of a)) =
      dispatch_some t.key (alter t.key (standing_at (Here party)) (work_of a)) (standing_at (Here party) t) here
      ∙ ap (λ r. cond r (give_out (errand_in t.phase) party t.key (alter t.key (standing_at (Here party)) (work_of a))) (let_go party t.key (alter t.key (standing_at (Here party)) (work_of a)))) (sym same ∙ is) in
      let own : work_of c ≡ let_go party t.key (alter t.key (standing_at (Here party)) (work_of a)) = both.own ∙ ap (λ k. dispatch k (alter k (standing_at (Here party)) (work_of a))) named ∙ gone in
      subst (λ w. chosen (proceed key w) c.outcome ≡ ended key (ending_on c.outcome c.endings) w) (sym own)
      (subst (λ e. chosen (proceed key (let_go party t.key (alter t.key (standing_at (Here party)) (work_of a)))) c.outcome ≡ ended key (ending_on c.outcome e) (let_go party t.key (alter t.key (standing_at (Here party)) (work_of a)))) (sym both.endings)
      (subst (λ k. chosen (proceed k (let_go party t.key (alter t.key (standing_at (Here party)) (work_of a)))) c.outcome ≡ ended k (ending_on c.outcome a.endings) (let_go party t.key (alter t.key (standing_at (Here party)) (work_of a)))) (sym named)
      (so (standing_at Spent t) (let_go party t.key (alter t.key (standing_at (Here party)) (work_of a))) c.outcome refl refl
      (altered_there (standing_at (Here party) t) (standing_at Spent) (λ u. refl) (alter t.key (standing_at (Here party)) (work_of a)) here))))

pub ruleset acknowledging = (room_back, room_dispatched, idle_back, may_idle, may_dispatched, acknowledges_all, waits_on, waits_next, spent_next)

module _ (a b : Held) (party : PartyNotes) where
  pub settled_none : owner party (work_of a).state ≡ None → Does a b (chosen (strange party (work_of a)) a.outcome) → Does a b (chosen (settled (owner party (work_of a).state) party (work_of a)) a.outcome)
  unfolding settled
  settled_none none does = subst (λ o. Does a b (chosen (settled o party (work_of a)) a.outcome)) (sym none) does

  module _ (key : Key) (same : owner party (work_of a).state ≡ transaction_of key (work_of a).state) (here : Transaction) (there : transaction_of key (work_of a).state ≡ Some here) where
    settles_at : (place : PartyPlace) → here.place ≡ place → Does a b (chosen (settled_for place party here (work_of a)) a.outcome) → Does a b (chosen (settled (owner party (work_of a).state) party (work_of a)) a.outcome)
    unfolding settled
    settles_at place is does = subst (λ o. Does a b (chosen (settled o party (work_of a)) a.outcome)) (sym (same ∙ there)) (subst (λ p. Does a b (chosen (settled_for p party here (work_of a)) a.outcome)) (sym is) does)

    pub settled_commit : is_committing here.place ≡ true → Does a b (chosen (proceed key (cond (has_ready party) (alter key (standing_at (Here party)) (work_of a)) (dispatch key (alter key (standing_at (Here party)) (work_of a))))) a.outcome) → Does a b (chosen (settled (owner party (work_of a).state) party (work_of a)) a.outcome)
    settled_commit is does = step here.place refl is where
      step : (place : PartyPlace) → here.place ≡ place → is_committing place ≡ true → Does a b (chosen (settled (owner party (work_of a).state) party (work_of a)) a.outcome)
      step (Here other) same is = absurd (cc)
      step (Out errand.Idle) same is = absurd (cc)
      step (Out errand.Vote) same is = absurd (cc)
      step (Out errand.Commit) same is = settles_at (Out errand.Commit) same (subst (λ k. Does a b (chosen (proceed k (cond (has_ready party) (alter k (standing_at (Here party)) (work_of a)) (dispatch k (alter k (standing_at (Here party)) (work_of a))))) a.outcome)) (key_is a key here there) does)
      step (Out errand.Abort) same is = absurd (cc)
      step Spent same is = absurd (cc)

    pub settled_abort : is_aborting here.place ≡ true → Does a b (chosen (proceed key (alter key (standing_at (Here party)) (work_of a))) a.outcome) → Does a b (chosen (settled (owner party (work_of a).state) party (work_of a)) a.outcome)
    settled_abort is does = step here.place refl is where
      step : (place : PartyPlace) → here.place ≡ place → is_aborting place ≡ true → Does a b (chosen (settled (owner party (work_of a).state) party (work_of a)) a.outcome)
      step (Here other) same is = absurd (cc)
      step (Out errand.Idle) same is = absurd (cc)
      step (Out errand.Vote) same is = absurd (cc)
      step (Out errand.Commit) same is = absurd (cc)
      step (Out errand.Abort) same is = settles_at (Out errand.Abort) same (subst (λ k. Does a b (chosen (proceed k (alter k (standing_at (Here party)) (work_of a))) a.outcome)) (key_is a key here there) does)
      step Spent same is = absurd (cc)

    pub settled_else : is_committing here.place ≡ false → is_aborting here.place ≡ false → Does a b (chosen (strange party (work_of a)) a.outcome) → Does a b (chosen (settled (owner party (work_of a).state) party (work_of a)) a.outcome)
    settled_else commits aborts does = step here.place refl commits aborts where
      step : (place : PartyPlace) → here.place ≡ place → is_committing place ≡ false → is_aborting place ≡ false → Does a b (chosen (settled (owner party (work_of a).state) party (work_of a)) a.outcome)
      step (Here other) same c a = settles_at (Here other) same does
      step (Out errand.Idle) same c a = settles_at (Out errand.Idle) same does
      step (Out errand.Vote) same c a = settles_at (Out errand.Vote) same does
      step (Out errand.Commit) same c a = absurd (cc)
      step (Out errand.Abort) same c a = absurd (cc)
      step Spent same c a = settles_at Spent same does

pub committing_out : (place : ℕ) (held : Held) (item : HeldTransaction) → item_at held.transactions place ≡ Some item → is_committing item.place ≡ true → party_here place held ≡ None
committing_out place held item is so = ap (λ o. option_and_then (λ (t : HeldTransaction). party_at t.place) o) is ∙ step item.place so where
  step : (at : PartyPlace) → is_committing at ≡ true → party_at at ≡ None
  step (Here other) so = absurd (cc)
  step (Out errand) so = refl
  step Spent so = absurd (cc)

pub aborting_out : (place : ℕ) (held : Held) (item : HeldTransaction) → item_at held.transactions place ≡ Some item → is_aborting item.place ≡ true → party_here place held ≡ None
aborting_out place held item is so = ap (λ o. option_and_then (λ (t : HeldTransaction). party_at t.place) o) is ∙ step item.place so where
  step : (at : PartyPlace) → is_aborting at ≡ true → party_at at ≡ None
  step (Here other) so = absurd (cc)
  step (Out errand) so = refl
  step Spent so = absurd (cc)

pub ruleset settling = (settled_none, committing_out, aborting_out)

-- What is tried again

module _ (a b : Held) (id : List ℕ) where
  pub resumes_none : identified_by id (work_of a).state ≡ None → Does a b (refuse NotActive (work_of a)) → Does a b (chosen (resume (identified_by id (work_of a).state) (work_of a)) a.outcome)
  unfolding resume
  resumes_none none does = subst (λ o. Does a b (chosen (resume o (work_of a)) a.outcome)) (sym none) does

  module _ (key : Key) (same : identified_by id (work_of a).state ≡ transaction_of key (work_of a).state) (here : Transaction) (there : transaction_of key (work_of a).state ≡ Some here) where
    resumes_so : (committed : Bool) → is_committed here.phase ≡ committed → Does a b (chosen (cond committed (resume_in here.place here (work_of a)) (Attempt.Done (refuse NotActive (work_of a)))) a.outcome) → Does a b (chosen (resume (identified_by id (work_of a).state) (work_of a)) a.outcome)
    unfolding resume
    resumes_so committed is does = subst (λ o. Does a b (chosen (resume o (work_of a)) a.outcome)) (sym (same ∙ there)) (subst (λ c. Does a b (chosen (cond c (resume_in here.place here (work_of a)) (Attempt.Done (refuse NotActive (work_of a)))) a.outcome)) (sym is) does)

    pub resumes_committed : is_committed here.phase ≡ true → ((t : Transaction) → transaction_of key (work_of a).state ≡ Some t → Does a b (chosen (resume_in t.place t (work_of a)) a.outcome)) → Does a b (chosen (resume (identified_by id (work_of a).state) (work_of a)) a.outcome)
    resumes_committed is does = resumes_so true is (does here there)

    pub resumes_never : is_committed here.phase ≡ false → Does a b (refuse NotActive (work_of a)) → Does a b (chosen (resume (identified_by id (work_of a).state) (work_of a)) a.outcome)
    resumes_never is does = resumes_so false is does

-- `here` is what stands there
module _ (a b : Held) (key : Key) (here : Transaction) (there : transaction_of key (work_of a).state ≡ Some here) (t : Transaction) (found : transaction_of key (work_of a).state ≡ Some t) where
  same_there : here ≡ t
  same_there = same_Some here t (sym there ∙ found)

  pub resumes_here : (party : PartyNotes) → here.place ≡ Here party → Does a b (dispatch key (work_of a)) → Does a b (chosen (resume_in t.place t (work_of a)) a.outcome)
  resumes_here party is does = subst (λ (u : Transaction). Does a b (chosen (resume_in u.place u (work_of a)) a.outcome)) same_there (subst (λ p. Does a b (chosen (resume_in p here (work_of a)) a.outcome)) (sym is) (subst (λ k. Does a b (dispatch k (work_of a))) (key_is a key here there) does))

  pub resumes_out : (errand : Errand) → here.place ≡ Out errand → Does a b (refuse Busy (work_of a)) → Does a b (chosen (resume_in t.place t (work_of a)) a.outcome)
  resumes_out errand is does = subst (λ (u : Transaction). Does a b (chosen (resume_in u.place u (work_of a)) a.outcome)) same_there (subst (λ p. Does a b (chosen (resume_in p here (work_of a)) a.outcome)) (sym is) does)

  pub resumes_spent : here.place ≡ Spent → ((u : Transaction) → transaction_of key (work_of a).state ≡ Some u → Does a b (chosen (resume_in Spent u (work_of a)) a.outcome)) → Does a b (chosen (resume_in t.place t (work_of a)) a.outcome)
  resumes_spent is does = subst (λ (u : Transaction). Does a b (chosen (resume_in u.place u (work_of a)) a.outcome)) same_there (subst (λ p. Does a b (chosen (resume_in p here (work_of a)) a.outcome)) (sym is) (does here there))

  pub ends_done : is_done here ≡ true → ((u : Transaction) → transaction_of key (work_of a).state ≡ Some u → Does a b (chosen (finish u (work_of a)) a.outcome)) → Does a b (chosen (resume_in Spent t (work_of a)) a.outcome)
  ends_done is does = subst (λ (u : Transaction). Does a b (chosen (resume_in Spent u (work_of a)) a.outcome)) same_there (subst (λ d. Does a b (chosen (cond d (finish here (work_of a)) (Attempt.Done (refuse Busy (work_of a)))) a.outcome)) (sym is) (does here there))

  pub ends_not : is_done here ≡ false → Does a b (refuse Busy (work_of a)) → Does a b (chosen (resume_in Spent t (work_of a)) a.outcome)
  ends_not is does = subst (λ (u : Transaction). Does a b (chosen (resume_in Spent u (work_of a)) a.outcome)) same_there (subst (λ d. Does a b (chosen (cond d (finish here (work_of a)) (Attempt.Done (refuse Busy (work_of a)))) a.outcome)) (sym is) does)

pub ruleset resuming = (resumes_none)

pub ruleset resuming_there = (resumes_here, resumes_out, resumes_spent, may_idle)

pub ruleset ending = (ends_done, ends_not)
