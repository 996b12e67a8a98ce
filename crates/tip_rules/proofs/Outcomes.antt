-- What follows for a transaction, case by case.
use Rattle.std.proofs.Common.{◌≡◌, ◌≢◌, ◌≤◌, Bool, true, false, cond, Option, Some, None, length, refl, ap, arith, sym, subst, ◌∙◌}
use Rattle.std.specs.Prelude.{◌&&◌, drop, filter, find}
use Rattle.std.specs.List.{list_all}
use Rattle.std.specs.Option.{option_and_then}
use Rattle.tip_branch.specs.Notes.{PartyNotes}
use Rattle.tip_branch.specs.declared.member.Errand.{Errand}
use Rattle.tip_branch.specs.declared.member.Errand.TheVariants as errand
use Rattle.tip_rows.specs.Keys.{Key}
use Rattle.tip_table.proofs.Standing.{take_out_none}
use Rattle.tip_txn.specs.Parts.{is_settled}
use Rattle.tip_txn.specs.declared.answer.Phase.{Phase}
use Rattle.tip_txn.specs.declared.answer.Phase.TheVariants.{Asking, Prepared, Committed}
use Rattle.tip_machine.proofs.Walks.{found_changed, found_passes, on_found}
use Rattle.tip_machine.specs.Changes.{alter, attempt_on, end, on, on_key}
use Rattle.tip_machine.specs.Connections.{is_on, is_superior_of}
use Rattle.tip_machine.specs.Proceeding.{ask, asked_for_votes, commit, dispatch, enter, finish, give_out, leave, owed_to_superior, proceed, proceed_in, promise}
use Rattle.tip_machine.specs.Reactions.{commits, needs_nothing, promises, react}
use Rattle.tip_machine.specs.States.{Attempt, Work, transaction_of}
use Rattle.tip_machine.specs.Steps.{chosen}
use Rattle.tip_machine.specs.Transactions.{entering, has_key, is_done, is_spent, standing_at, subordinates}
use Rattle.tip_machine.specs.Types.{Connection, PartyPlace, Transaction}
use Rattle.tip_machine.specs.declared.event.Change.TheVariants.{Remove}
use Rattle.tip_machine.specs.declared.event.Outcome.{Outcome}
use Rattle.tip_machine.specs.declared.event.Outcome.TheVariants.{NoChange, Stored, Refused}
use Rattle.tip_machine.specs.declared.transaction.PartyPlace.TheVariants.{Here, Out, Spent}
use Rattle.tip_outlook.proofs.Nexts.{acknowledged_all}
use Rattle.tip_outlook.specs.Endings.{EndsSo, ended, ending_on}
use Rattle.tip_outlook.specs.Wanting.{asked, away, outlook}
use Rattle.tip_outlook.specs.declared.next.Ending.{Ending}
use Rattle.tip_outlook.specs.declared.next.Endings.{Endings}
use Rattle.tip_rules.specs.Works.{ContinuesAs, Does, Held, lines_for, MayDispatch, work_of}
use Rattle.tip_rules.proofs.Losing.{keyed, same_room}
use Rattle.tip_rules.proofs.Owing.{altered_there}
use Rattle.tip_rules.proofs.Proceeding.{on_some}
use Rattle.tip_table.proofs.Standing.{found as found_first}
use Rattle.tip_rules.proofs.Works.{altered_from, may_entered, may_idle, may_reacted, nothing, then}

-- a transaction that is found by its key has it
pub key_is : (s : Held) (key : Key) (t : Transaction) → transaction_of key (work_of s).state ≡ Some t → key ≡ t.key
key_is s key t found = on_found (λ k. key ≡ k) key (work_of s).state.transactions t found refl

-- What follows

pub proceeds_none : (s : Held) (key : Key) (outcome : Outcome) → transaction_of key (work_of s).state ≡ None → Does s s (chosen (proceed key (work_of s)) outcome)
unfolding proceed
proceeds_none s key outcome none = subst (λ found. Does s s (chosen (attempt_on found (λ t. proceed_in t.phase t) (work_of s)) outcome)) (sym none) (nothing s)

-- as it was decided
pub proceeds_so : (s s' : Held) (key : Key) (outcome : Outcome) (how : Ending) → chosen (proceed key (work_of s)) outcome ≡ ended key how (work_of s) → Does s s' (ended key how (work_of s)) → Does s s' (chosen (proceed key (work_of s)) outcome)
proceeds_so s s' key outcome how is does = subst (Does s s') (sym is) does

pub ruleset proceeding = (proceeds_so)

pub follows_nothing : (s : Held) → Does s s (work_of s)
follows_nothing s = nothing s

pub follows_finish : (a b c : Held) (key : Key) → Does a b (react commits key (work_of a)) → Does b c (end key (work_of b)) → Does a c (end key (react commits key (work_of a)))
follows_finish a b c key first second = then a b c (end key) (react commits key (work_of a)) first second

pub ruleset following = (follows_nothing, follows_finish)

-- what follows once the transaction is altered is what was decided of it as it is then
pub altered_next : (a b : Held) (key : Key) (f : Transaction → Transaction) → ((u : Transaction) → (f u).key ≡ u.key) → ContinuesAs (transaction_of key (work_of a).state) f a → Does a b (alter key f (work_of a)) →
    chosen (proceed key (work_of b)) b.outcome ≡ ended key (ending_on b.outcome b.endings) (work_of b)
altered_next a b key f keyed ends does = by (transaction_of key (work_of a).state) refl ends where
  by : (o : Option Transaction) → transaction_of key (work_of a).state ≡ o → ContinuesAs o f a → chosen (proceed key (work_of b)) b.outcome ≡ ended key (ending_on b.outcome b.endings) (work_of b)
  by None is so = absurd so
  by (Some t) is so =
      let named : key ≡ t.key = key_is a key t is in
      let there : transaction_of t.key (work_of a).state ≡ Some t = subst (λ k. transaction_of k (work_of a).state ≡ Some t) named is in
      subst (λ w. chosen (proceed key w) b.outcome ≡ ended key (ending_on b.outcome b.endings) w) (sym does.own)
      (subst (λ e. chosen (proceed key (alter key f (work_of a))) b.outcome ≡ ended key (ending_on b.outcome e) (alter key f (work_of a))) (sym does.endings)
      (subst (λ k. chosen (proceed k (alter k f (work_of a))) b.outcome ≡ ended k (ending_on b.outcome a.endings) (alter k f (work_of a))) (sym (named ∙ sym (keyed t)))
      (so (f t) (alter (f t).key f (work_of a)) b.outcome refl (ap (λ k. owed_to_superior k (work_of a).state) (keyed t))
      (subst (λ k. transaction_of k (alter k f (work_of a)).state ≡ Some (f t)) (sym (keyed t)) (altered_there t f keyed (work_of a) there)))))

-- A connection of the superior

pub owed_none : (s : Held) (key : Key) → find (is_superior_of key) (work_of s).state.connections ≡ None → owed_to_superior key (work_of s).state ≡ None
owed_none s key none = ap (λ (o : Option Connection). option_and_then (λ connection. connection.owed) o) none

pub owed_there : (s : Held) (key : Key) (connection : Connection) → find (is_superior_of key) (work_of s).state.connections ≡ Some connection → owed_to_superior key (work_of s).state ≡ connection.owed
owed_there s key connection there = ap (λ (o : Option Connection). option_and_then (λ connection. connection.owed) o) there

pub ruleset owed = (owed_none, owed_there, found_first)

-- Outcomes

pub promised_to : (a b c : Held) (key : Key) → Does a b (enter Prepared key (work_of a)) → Does b c (react promises key (work_of b)) → Does a c (promise key (work_of a))
unfolding promise
promised_to a b c key first second = then a b c (react promises key) _ first second

pub committed : (a b c d : Held) (key : Key) → Does a b (enter Committed key (work_of a)) → Does b c (react commits key (work_of b)) → Does c d (dispatch key (work_of c)) → Does a d (commit key (work_of a))
unfolding commit
committed a b c d key first second third = then a c d (dispatch key) _ (then a b c (react commits key) _ first second) third

pub left : (a b c d : Held) (key : Key) → Does a b (react needs_nothing key (work_of a)) → Does b c (dispatch key (work_of b)) → Does c d (end key (work_of c)) → Does a d (leave key (work_of a))
unfolding leave
left a b c d key first second third = then a c d (end key) _ (then a b c (dispatch key) _ first second) third

pub ruleset promising = (promised_to)

pub ruleset committing = (committed, may_entered, may_reacted)

pub ruleset leaving = (left, may_reacted)

-- A committed transaction

pub done_where : (t : Transaction) (spent settled : Bool) → spent ≡ is_spent t.place → settled ≡ list_all is_settled (drop 1 t.parts) → is_done t ≡ (spent && settled)
done_where t spent settled is all = ap (λ b. b && list_all (λ s. s.1.acknowledged) (subordinates t)) (sym is) ∙ ap (λ b. spent && b) (acknowledged_all 1 (drop 1 t.parts) ∙ sym all)

module _ (s s' : Held) (key : Key) (t : Transaction) (found : transaction_of key (work_of s).state ≡ Some t) where
  finishes_so : (done : Bool) (outcome : Outcome) → is_done t ≡ done → Does s s' (chosen (cond done (Attempt.Asks (Remove t.key) (end t.key (work_of s)) (work_of s)) (Attempt.Done (work_of s))) outcome) → Does s s' (chosen (finish t (work_of s)) outcome)
  unfolding finish
  finishes_so done outcome is does = subst (λ b. Does s s' (chosen (cond b (Attempt.Asks (Remove t.key) (end t.key (work_of s)) (work_of s)) (Attempt.Done (work_of s))) outcome)) (sym is) does

  pub finished : (outcome : Outcome) → is_done t ≡ true → outcome ≡ Stored → Does s s' (end key (work_of s)) → Does s s' (chosen (finish t (work_of s)) outcome)
  finished outcome is stored does = subst (λ o. Does s s' (chosen (finish t (work_of s)) o)) (sym stored) (finishes_so true Stored is (subst (λ k. Does s s' (end k (work_of s))) (key_is s key t found) does))

module _ (s : Held) (key : Key) (t : Transaction) (found : transaction_of key (work_of s).state ≡ Some t) (outcome : Outcome) where
  pub unfinished : is_done t ≡ false → Does s s (chosen (finish t (work_of s)) outcome)
  unfinished is = finishes_so s s key t found false outcome is (nothing s)

  pub unforgotten : is_done t ≡ true → outcome ≢ Stored → Does s s (chosen (finish t (work_of s)) outcome)
  unforgotten is differ = step outcome refl where
    step : (o : Outcome) → outcome ≡ o → Does s s (chosen (finish t (work_of s)) o)
    step Stored same = absurd (differ same)
    step Refused same = finishes_so s s key t found true Refused is (nothing s)
    step NoChange same = finishes_so s s key t found true NoChange is (nothing s)

pub ruleset finishing = (finished, unfinished, unforgotten)

-- All are asked

module _ (s : Held) (key : Key) (t : Transaction) (found : transaction_of key (work_of s).state ≡ Some t) where
  asks_at : (s' : Held) (place : PartyPlace) → t.place ≡ place → Does s s' (asked_for_votes place key (work_of s)) → Does s s' (on_key key (λ t. asked_for_votes t.place key) (work_of s))
  asks_at s' place is does = keyed s s' key (λ t. asked_for_votes t.place key) t found (subst (λ p. Does s s' (asked_for_votes p key (work_of s))) (sym is) does)

  pub votes_here : (s' : Held) (party : PartyNotes) → t.place ≡ Here party → Does s s' (give_out errand.Vote party key (work_of s)) → Does s s' (on_key key (λ t. asked_for_votes t.place key) (work_of s))
  votes_here s' party is does = asks_at s' (Here party) is does

  pub votes_out : (errand : Errand) → t.place ≡ Out errand → Does s s (on_key key (λ t. asked_for_votes t.place key) (work_of s))
  votes_out errand is = asks_at s (Out errand) is (nothing s)

  pub votes_spent : t.place ≡ Spent → Does s s (on_key key (λ t. asked_for_votes t.place key) (work_of s))
  votes_spent is = asks_at s Spent is (nothing s)

pub ruleset voting = (votes_here, votes_out, votes_spent)

-- what asking for votes keeps
record IsQuietly (w v : Work) : Type 0 where
  pub connections : v.state.connections ≡ w.state.connections
  pub sent : v.answer.sent ≡ w.answer.sent

quietly : (found : Option Transaction) (key : Key) (w : Work) → IsQuietly w (on found (λ t. asked_for_votes t.place key) w)
quietly None key w = record { connections = refl; sent = refl }
quietly (Some t) key w = step t.place where
  step : (place : PartyPlace) → IsQuietly w (asked_for_votes place key w)
  step (Here party) = record { connections = refl; sent = refl }
  step (Out errand) = record { connections = refl; sent = refl }
  step Spent = record { connections = refl; sent = refl }

enough_still : (a b : Held) (key : Key) (w : Work) → IsQuietly (work_of a) w → Does a b w → lines_for key (work_of a).state ≤ a.making.free → lines_for key (work_of b).state ≤ b.making.free
enough_still a b key w quiet does enough =
    let free = same_room a b w does quiet.sent in
    let lines : lines_for key (work_of b).state ≡ lines_for key (work_of a).state = ap (λ v. lines_for key v.state) does.own ∙ ap (λ cs. length (filter (is_on key) cs)) quiet.connections in
    omega (arith, free, lines, enough)

pub room_entered : (a b : Held) (key : Key) (phase : Phase) → Does a b (enter phase key (work_of a)) → lines_for key (work_of a).state ≤ a.making.free → lines_for key (work_of b).state ≤ b.making.free
room_entered a b key phase does = enough_still a b key (enter phase key (work_of a)) (record { connections = refl; sent = refl }) does

pub room_asked : (a b : Held) (key : Key) → Does a b (on_key key (λ t. asked_for_votes t.place key) (work_of a)) → lines_for key (work_of a).state ≤ a.making.free → lines_for key (work_of b).state ≤ b.making.free
room_asked a b key does = enough_still a b key _ (quietly (transaction_of key (work_of a).state) key (work_of a)) does

out_here : (errand : Errand) (party : PartyNotes) → Out errand ≡ Here party → ⊥
out_here errand party is = absurd (cc)

-- once it is asked, the party is here no more
pub may_asked : (a b : Held) (key : Key) → MayDispatch key (work_of a) → Does a b (on_key key (λ t. asked_for_votes t.place key) (work_of a)) → MayDispatch key (work_of b)
may_asked a b key may does = subst (MayDispatch key) (sym does.own) (step (transaction_of key (work_of a).state) refl) where
  at : (t : Transaction) → transaction_of key (work_of a).state ≡ Some t → (place : PartyPlace) → t.place ≡ place → MayDispatch key (asked_for_votes place key (work_of a))
  at t found (Here party) is = λ u other there here.
      let before = altered_from key (standing_at (Out errand.Vote)) (work_of a) u (λ v. refl) there in
      absurd (out_here errand.Vote other (sym (ap (λ (v : Transaction). v.place) before.2) ∙ here))
  at t found (Out errand) is = may
  at t found Spent is = may

  step : (found : Option Transaction) → transaction_of key (work_of a).state ≡ found → MayDispatch key (on found (λ t. asked_for_votes t.place key) (work_of a))
  step None is = may
  step (Some t) is = at t is t.place refl

pub asked_all : (a b c d : Held) (key : Key) (t : Transaction) → transaction_of key (work_of a).state ≡ Some t → Does a b (enter Asking key (work_of a)) → Does b c (on_key key (λ t. asked_for_votes t.place key) (work_of b)) → Does c d (chosen (proceed key (work_of c)) c.outcome) → Does a d (chosen (ask t (work_of a)) a.outcome)
unfolding ask
asked_all a b c d key t found first second third =
    let entered : transaction_of key (enter Asking key (work_of a)).state ≡ Some (entering Asking t) = found_changed key (entering Asking) (work_of a).state.transactions t found (found_passes (has_key key) (work_of a).state.transactions t found) in
    let asked : on_key key (λ t. asked_for_votes t.place key) (enter Asking key (work_of a)) ≡ asked_for_votes t.place key (enter Asking key (work_of a)) = on_some key (λ t. asked_for_votes t.place key) (enter Asking key (work_of a)) (entering Asking t) entered in
    let both : Does a c (asked_for_votes t.place key (enter Asking key (work_of a))) = subst (Does a c) asked (then a b c (on_key key (λ t. asked_for_votes t.place key)) _ first second) in
    subst (λ k. Does a d (chosen (proceed k (asked_for_votes t.place k (enter Asking k (work_of a)))) a.outcome)) (key_is a key t found)
    (subst (λ o. Does a d (chosen (proceed key (asked_for_votes t.place key (enter Asking key (work_of a)))) o)) both.outcome
    (then a c d (λ w. chosen (proceed key w) c.outcome) _ both third))

-- what follows once all are asked is what was decided of the transaction as it is then
module _ (t : Transaction) (w : Work) (found : transaction_of t.key w.state ≡ Some t) where
  entered_there : transaction_of t.key (enter Asking t.key w).state ≡ Some (entering Asking t)
  entered_there = altered_there t (entering Asking) (λ u. refl) w found

  voting_there : (place : PartyPlace) → t.place ≡ place → transaction_of t.key (asked_for_votes place t.key (enter Asking t.key w)).state ≡ Some (record t { phase = Asking; place = away place })
  voting_there (Here party) is = altered_there (entering Asking t) (standing_at (Out errand.Vote)) (λ u. refl) (enter Asking t.key w) entered_there
  voting_there (Out errand) is = entered_there ∙ ap (λ p. Some (record t { phase = Asking; place = p })) is
  voting_there Spent is = entered_there ∙ ap (λ p. Some (record t { phase = Asking; place = p })) is

  owed_still : (place : PartyPlace) → owed_to_superior t.key (asked_for_votes place t.key (enter Asking t.key w)).state ≡ owed_to_superior t.key w.state
  owed_still (Here party) = refl
  owed_still (Out errand) = refl
  owed_still Spent = refl

  ends_asked : (endings : Endings) (outcome : Outcome) → EndsSo (outlook (asked t)) (owed_to_superior t.key w.state) endings →
      chosen (proceed t.key (asked_for_votes t.place t.key (enter Asking t.key w))) outcome ≡ ended t.key (ending_on outcome endings) (asked_for_votes t.place t.key (enter Asking t.key w))
  ends_asked endings outcome ends = ends (asked t) (asked_for_votes t.place t.key (enter Asking t.key w)) outcome refl (owed_still t.place) (voting_there t.place refl)

pub asked_next : (a b c : Held) (key : Key) → ContinuesAs (transaction_of key (work_of a).state) asked a → Does a b (enter Asking key (work_of a)) → Does b c (on_key key (λ t. asked_for_votes t.place key) (work_of b)) →
    chosen (proceed key (work_of c)) c.outcome ≡ ended key (ending_on c.outcome c.endings) (work_of c)
asked_next a b c key ends first second = by (transaction_of key (work_of a).state) refl ends where
  by : (o : Option Transaction) → transaction_of key (work_of a).state ≡ o → ContinuesAs o asked a → chosen (proceed key (work_of c)) c.outcome ≡ ended key (ending_on c.outcome c.endings) (work_of c)
  by None is so = absurd so
  by (Some t) is so =
      let keyed = key_is a key t is in
      let entered : transaction_of key (enter Asking key (work_of a)).state ≡ Some (entering Asking t) = found_changed key (entering Asking) (work_of a).state.transactions t is (found_passes (has_key key) (work_of a).state.transactions t is) in
      let voted : on_key key (λ t. asked_for_votes t.place key) (enter Asking key (work_of a)) ≡ asked_for_votes t.place key (enter Asking key (work_of a)) = on_some key (λ t. asked_for_votes t.place key) (enter Asking key (work_of a)) (entering Asking t) entered in
      let both : Does a c (asked_for_votes t.place key (enter Asking key (work_of a))) = subst (Does a c) voted (then a b c (on_key key (λ t. asked_for_votes t.place key)) _ first second) in
      subst (λ w. chosen (proceed key w) c.outcome ≡ ended key (ending_on c.outcome c.endings) w) (sym both.own)
      (subst (λ e. chosen (proceed key (asked_for_votes t.place key (enter Asking key (work_of a)))) c.outcome ≡ ended key (ending_on c.outcome e) (asked_for_votes t.place key (enter Asking key (work_of a)))) (sym both.endings)
      (subst (λ k. chosen (proceed k (asked_for_votes t.place k (enter Asking k (work_of a)))) c.outcome ≡ ended k (ending_on c.outcome a.endings) (asked_for_votes t.place k (enter Asking k (work_of a)))) (sym keyed)
      (ends_asked t (work_of a) (subst (λ k. transaction_of k (work_of a).state ≡ Some t) keyed is) a.endings c.outcome so)))

pub ruleset asking = (may_idle, may_entered, may_asked, room_entered, room_asked, asked_all, asked_next)
