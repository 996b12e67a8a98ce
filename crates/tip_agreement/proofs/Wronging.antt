-- A part whose answer is taken for a wrong line is lost: its transaction is aborted.
use Rattle.std.proofs.Common.{◌≡◌, Bool, true, false, ℕ, List, [], ◌∷◌, Option, Some, None, cond, refl, ap, subst, sym, ◌∙◌, inl, inr}
use Rattle.std.specs.Prelude.{is_some, not, slice_get}
use Rattle.std.specs.List.{list_any}
use Rattle.std.specs.Option.{option_and_then}
use Rattle.std.proofs.lemmas.Bool.{and_parts, both_ways, not-true}
use Rattle.std.proofs.lemmas.Option.{none-some, same_Some}
use Rattle.tip_conn.specs.declared.state.State.{State as ConnectionState}
use Rattle.tip_conn.specs.declared.state.State.TheVariants as state
use Rattle.tip_line.specs.declared.response.Response.{Response}
use Rattle.tip_line.specs.declared.response.Response.TheVariants as responses
use Rattle.tip_rows.specs.Keys.{Key, is_same}
use Rattle.tip_rows.proofs.OrderLemmas.{same_key}
use Rattle.tip_table.specs.Lists.{changed}
use Rattle.tip_txn.specs.Parts.{answer_at, answered}
use Rattle.tip_txn.specs.declared.answer.Ballot.{Ballot}
use Rattle.tip_txn.specs.declared.answer.Ballot.TheVariants as answer
use Rattle.tip_txn.specs.declared.answer.Phase.{Phase}
use Rattle.tip_txn.specs.declared.answer.Phase.TheVariants.{Active, Asking, Prepared, Committed, Aborted}
use Rattle.tip_txn.specs.declared.part.Participant.{Participant}
use Rattle.tip_machine.specs.Agreement.{answer_by}
use Rattle.tip_machine.specs.Changes.{alter, on, tell}
use Rattle.tip_machine.specs.Failing.{closed, fail, gone, lost_unanswered, missed, part_lost, wrong}
use Rattle.tip_machine.specs.Invariants.{IsSound}
use Rattle.tip_machine.specs.Invariants.Links.{are_distinct}
use Rattle.tip_machine.specs.Invariants.Links.Link.{Awaits}
use Rattle.tip_machine.specs.Invariants.Phases.{is_part}
use Rattle.tip_machine.specs.Moves.{World}
use Rattle.tip_machine.specs.Proceeding.{abort, enter}
use Rattle.tip_machine.specs.States.{Work, connection_of, transaction_of}
use Rattle.tip_machine.specs.Steps.{entered}
use Rattle.tip_machine.specs.Transactions.{entering, has_key, noting}
use Rattle.tip_machine.specs.Types.{Connection, Transaction}
use Rattle.tip_machine.specs.declared.answer.Item.TheVariants.{Close, Say}
use Rattle.tip_machine.specs.declared.answer.Said.TheVariants as said
use Rattle.tip_machine.specs.declared.connection.Awaited.{Awaited}
use Rattle.tip_machine.specs.declared.connection.Awaited.TheVariants as awaited
use Rattle.tip_machine.specs.declared.connection.Role.TheVariants.{Subordinate}
use Rattle.tip_agreement.proofs.Answering.{is_partly}
use Rattle.tip_agreement.proofs.Closing.{is_stoppable}
use Rattle.tip_agreement.proofs.Keys.{key_self, keys_changed, keys_of}
use Rattle.tip_agreement.proofs.Moving.{sound_whole}
use Rattle.tip_agreement.proofs.Owned.{key_found}
use Rattle.tip_agreement.proofs.Happening.{note_of}
use Rattle.tip_agreement.proofs.Hearing.{fits, fits_somewhere}
use Rattle.tip_agreement.proofs.Keeping.{in_key}
use Rattle.tip_agreement.proofs.Walking.{In, Walks, aborted_goes}

-- ABORTED

abbrev pub AbortedAt : Key → Work → Type 0
AbortedAt key w = (u : Transaction) → In u w.state.transactions → key ≡ u.key → u.phase ≡ Aborted

walked_aborted : (key : Key) (w v : Work) → Walks w v → AbortedAt key w → AbortedAt key v
walked_aborted key w v walks aborted u there same =
    let was = walks.each u there in
    elim was.live [ inl now ↦ now | inr live ↦ absurd (live (aborted was.before was.there (same ∙ was.key))) ]

entered_aborted : (key : Key) (ts : List Transaction) → are_distinct is_same (keys_of ts) ≡ true → (u : Transaction) → In u (changed (has_key key) (entering Aborted) ts) → key ≡ u.key → u.phase ≡ Aborted
entered_aborted key [] apart u there same = absurd there
entered_aborted key (t ∷ ts) apart u there same =
    let parts = and_parts (not (list_any (is_same t.key) (keys_of ts))) (are_distinct is_same (keys_of ts)) apart in
    step (has_key key t) refl there (not-true _ parts.0) (λ later. entered_aborted key ts parts.1 u later same) where
      step : (b : Bool) → has_key key t ≡ b → In u (cond b (entering Aborted t ∷ ts) (t ∷ changed (has_key key) (entering Aborted) ts)) → list_any (is_same t.key) (keys_of ts) ≡ false → (In u (changed (has_key key) (entering Aborted) ts) → u.phase ≡ Aborted) → u.phase ≡ Aborted
      step true here (inl is) none later = ap (λ (x : Transaction). x.phase) is
      step true here (inr is) none later = absurd (both_ways (is_same t.key u.key) (in_key t.key ts u none is) (subst (λ k. is_same t.key k ≡ true) (sym (same_key key t.key here) ∙ same) (key_self t.key)))
      step false differs (inl is) none later = absurd (both_ways (has_key key t) differs (subst (λ k. is_same key k ≡ true) (same ∙ ap (λ (x : Transaction). x.key) is) (key_self key)))
      step false differs (inr is) none later = later is

pub abort_aborted : (key : Key) (w : Work) → are_distinct is_same (keys_of w.state.transactions) ≡ true → AbortedAt key (abort key w)
abort_aborted key w apart = walked_aborted key (enter Aborted key w) (abort key w) (aborted_goes key w) (entered_aborted key w.state.transactions apart)

-- ANSWERS that are awaited

-- it is noted of a part
pub answer_noted : (a : Awaited) (r : Response) (b : Ballot) → answer_by (Some a) r ≡ Some b → note_of a r ≡ Some (answered b)
answer_noted awaited.Prepare responses.Prepared b is = ap (λ o. Some (answered o)) (same_Some answer.Yes b is)
answer_noted awaited.Prepare responses.Aborted b is = ap (λ o. Some (answered o)) (same_Some answer.No b is)
answer_noted awaited.Prepare responses.ReadOnly b is = ap (λ o. Some (answered o)) (same_Some answer.ReadOnly b is)
answer_noted awaited.Push (responses.AlreadyPushed id) b is = ap (λ o. Some (answered o)) (same_Some answer.ReadOnly b is)
answer_noted awaited.Push responses.NotPushed b is = ap (λ o. Some (answered o)) (same_Some answer.ReadOnly b is)
answer_noted a r b is = absurd (none-some b is)

push_waits : (phase : Phase) (at : ConnectionState) (answer : Option Ballot) → is_part phase (Awaits at (Some awaited.Push)) answer ≡ true → (answer ≡ None) × (is_stoppable phase ≡ true)
push_waits Active state.Idle None is = (refl, refl)
push_waits Asking state.Idle None is = (refl, refl)
push_waits Aborted state.Idle None is = (refl, refl)
push_waits Prepared state.Idle answer is = absurd (cc)
push_waits Committed state.Idle answer is = absurd (cc)
push_waits phase at answer is = absurd (cc)

prepare_waits : (phase : Phase) (at : ConnectionState) (answer : Option Ballot) → is_part phase (Awaits at (Some awaited.Prepare)) answer ≡ true → (answer ≡ None) × (is_stoppable phase ≡ true)
prepare_waits Asking state.Enlisted None is = (refl, refl)
prepare_waits Aborted state.Enlisted None is = (refl, refl)
prepare_waits Active state.Enlisted answer is = absurd (cc)
prepare_waits Prepared state.Enlisted answer is = absurd (cc)
prepare_waits Committed state.Enlisted answer is = absurd (cc)
prepare_waits phase at answer is = absurd (cc)

pub answer_waits : (a : Awaited) (r : Response) (b : Ballot) → answer_by (Some a) r ≡ Some b → (phase : Phase) (at : ConnectionState) (answer : Option Ballot) → is_part phase (Awaits at (Some a)) answer ≡ true → (answer ≡ None) × (is_stoppable phase ≡ true)
answer_waits awaited.Push r b is phase at answer fits = push_waits phase at answer fits
answer_waits awaited.Prepare r b is phase at answer fits = prepare_waits phase at answer fits
answer_waits a r b is phase at answer fits = absurd (none-some b is)

-- A WRONG LINE from it

module _ (world : World) (sound : IsSound world) (c : Connection) (here : connection_of c.number world.state ≡ Some c) (key : Key) (part : ℕ) (on_it : c.role ≡ Some (Subordinate key part)) (a : Awaited) (waits : c.awaited ≡ Some a) (partly : is_partly a ≡ true)
    (r : Response) (b : Ballot) (answers : answer_by (Some a) r ≡ Some b) (t : Transaction) (found : transaction_of key world.state ≡ Some t) where
  pub can_stop : is_stoppable t.phase ≡ true
  can_stop = let at = fits_somewhere world sound c here key part on_it a waits partly t found in (answer_waits a r b answers t.phase c.state at.0 at.1).1

  unanswered : answer_at t.parts part ≡ None
  unanswered = step (slice_get t.parts part) refl where
    step : (o : Option Participant) → slice_get t.parts part ≡ o → option_and_then (λ (p : Participant). p.answer) o ≡ None
    step None is = refl
    step (Some p) is = (answer_waits a r b answers t.phase c.state p.answer (fits world sound c here key part on_it a waits partly t found p is).fits).0

  key_is : key ≡ t.key
  key_is = key_found key t world.state found

  lost : (v : Work) → are_distinct is_same (keys_of v.state.transactions) ≡ true → AbortedAt key (lost_unanswered part t v)
  lost v apart =
      let noted = alter t.key (noting part (answered answer.Lost)) v in
      subst (λ o. AbortedAt key (cond (is_some o) v (abort t.key noted))) (sym unanswered) (subst (λ k. AbortedAt k (abort t.key noted)) (sym key_is) (abort_aborted t.key noted (subst (λ ks. are_distinct is_same ks ≡ true) (sym (keys_changed (has_key t.key) (noting part (answered answer.Lost)) v.state.transactions (λ u. refl))) apart)))

  by_phase : (v : Work) → are_distinct is_same (keys_of v.state.transactions) ≡ true → (phase : Phase) → is_stoppable phase ≡ true → AbortedAt key (part_lost phase part t v)
  by_phase v apart Active can = lost v apart
  by_phase v apart Asking can = lost v apart
  by_phase v apart Aborted can = subst (λ k. AbortedAt k (abort t.key v)) (sym key_is) (abort_aborted t.key v apart)
  by_phase v apart Prepared can = absurd (cc)
  by_phase v apart Committed can = absurd (cc)

  pub wrong_aborted : AbortedAt key (wrong c (entered world.state))
  unfolding wrong closed fail gone
  wrong_aborted =
      let v = gone c (tell c.number Close (tell c.number (Say said.Error) (entered world.state))) in
      subst (λ role. AbortedAt key (missed role v)) (sym on_it) (subst (λ o. AbortedAt key (on o (λ (u : Transaction). part_lost u.phase part u) v)) (sym found) (by_phase v (sound_whole world sound).keys t.phase can_stop))
