-- How transactions go on over a rule: what their rows say, which parties stay out, what has no outcome, and who is told.
use Rattle.std.proofs.Common.{◌≡◌, Bool, true, false, List, [], ◌∷◌, Option, Some, None, cond, refl, ap, subst, sym, ◌∙◌, ◌⊎◌, inl, inr, ℕ}
use Rattle.std.specs.Prelude.{◌&&◌, ◌||◌, ◌==◌, not, find, map, is_none, is_some}
use Rattle.std.specs.List.{list_all, list_any}
use Rattle.std.specs.Option.{option_map_or}
use Rattle.std.specs.Str.{bytes_eq}
use Rattle.std.proofs.lemmas.Bool.{and_parts, both_ways, cases_Bool, not-true, or_parts, or_cases, or_left}
use Rattle.std.proofs.lemmas.Option.{same_Some}
use Rattle.tip_branch.specs.Members.{forgetting, is_active, is_ready}
use Rattle.tip_branch.specs.Notes.{PartyNotes, given}
use Rattle.tip_branch.specs.declared.member.Errand.{Errand}
use Rattle.tip_branch.specs.declared.member.Errand.TheVariants as errand
use Rattle.tip_branch.specs.declared.member.Member.{Member}
use Rattle.tip_rows.specs.Keys.{Key, is_same}
use Rattle.tip_rows.specs.declared.row.Row.{Row}
use Rattle.tip_rows.specs.declared.row.Row.TheVariants as row
use Rattle.tip_txn.specs.declared.answer.Phase.{Phase}
use Rattle.tip_txn.specs.declared.answer.Phase.TheVariants.{Active, Asking, Prepared, Committed, Aborted}
use Rattle.tip_rows.proofs.OrderLemmas.{same_key}
use Rattle.tip_table.specs.Lists.{without}
use Rattle.tip_machine.specs.Answers.{identifier}
use Rattle.tip_machine.specs.Changes.{alter, end, on}
use Rattle.tip_machine.specs.Invariants.Bounds.{is_spelled}
use Rattle.tip_machine.specs.Invariants.Links.{are_distinct}
use Rattle.tip_machine.specs.Invariants.Parties.{is_its_own, is_sent, is_unasked}
use Rattle.tip_machine.specs.Invariants.Stored.{is_stored_as}
use Rattle.tip_machine.specs.Proceeding.{dispatch, dispatched, errand_in, give_out, let_go}
use Rattle.tip_machine.specs.States.{Work, transaction_of}
use Rattle.tip_machine.specs.Transactions.{has_id, has_key, has_ready, is_undecided, standing_at}
use Rattle.tip_machine.specs.Types.{PartyPlace, Transaction}
use Rattle.tip_machine.specs.declared.event.Change.{Change}
use Rattle.tip_machine.specs.declared.event.Change.TheVariants.{Put, Remove}
use Rattle.tip_machine.specs.declared.transaction.PartyPlace.TheVariants.{Here, Out, Spent}
use Rattle.tip_rows.proofs.MemoryLemmas.{same_text}
use Rattle.tip_machine.specs.Agreement.{is_committed_row}
use Rattle.tip_machine.specs.Agreement.Verdicts.{Verdict, is_commit}
use Rattle.tip_agreement.specs.Truth.{Word, fits, is_uncalled, verdict_of, will_tell}
use Rattle.tip_agreement.proofs.Around.{found_altered, other_found, other_left}
use Rattle.tip_agreement.proofs.Keys.{apart_without, keys_changed, keys_of}
use Rattle.tip_agreement.proofs.Owned.{key_found}
use Rattle.tip_agreement.proofs.Speaking.{MayLet, StillFits, altered_fits, give_fits, ids_differ, is_told_commit, let_fits, may_go, over_fits, placed_fits}
use Rattle.tip_agreement.proofs.Uncalled.{none_called}
use Rattle.tip_agreement.proofs.Wording.{Fits, word_at, are_said, speaks_of}

-- ONE TRANSACTION

-- what the row of a key says, where no transaction has the key and where one has it
abbrev pub says : Option Transaction → Option Row → Bool
says None row = is_none row
says (Some t) row = is_stored_as t.phase t row

-- the row of a key once this was stored
abbrev pub row_in : Option Change → Key → Option Row → Option Row
row_in None key row = row
row_in (Some (Put at new)) key row = cond (is_same at key) (Some new) row
row_in (Some (Remove at)) key row = cond (is_same at key) None row

-- its row says then what it is then; where its party is out, it stays out; what has no outcome had none, and is from where it was
pub record Turns (store : Option Row → Option Row) (old new : Option Transaction) : Type 0 where
  pub rows : (row : Option Row) → says old row ≡ true → says new (store row) ≡ true
  pub out : (t : Transaction) (e : Errand) → old ≡ Some t → t.place ≡ Out e → (u : Transaction) × (new ≡ Some u) × (u.place ≡ Out e)
  pub was : is_some new ≡ true → is_some old ≡ true
  pub known : (u : Transaction) → new ≡ Some u → is_undecided u.phase ≡ true → (t : Transaction) × (old ≡ Some t) × (is_undecided t.phase ≡ true) × (t.origin ≡ u.origin)

pub turns_same : (o : Option Transaction) → Turns (λ row. row) o o
turns_same o = record { rows = λ row is. is; was = λ is. is; out = λ t e is at. (t, is, at); known = λ u is live. (u, is, live, refl) }

pub turns_then : (f g : Option Row → Option Row) (a b c : Option Transaction) → Turns f a b → Turns g b c → Turns (λ row. g (f row)) a c
turns_then f g a b c first next = record {
  rows = λ row is. next.rows (f row) (first.rows row is);
  was = λ is. first.was (next.was is);
  out = λ t e is at. let mid = first.out t e is at in next.out mid.0 e mid.1 mid.2;
  known = λ u is live. let mid = next.known u is live in let old = first.known mid.0 mid.1 mid.2 in (old.0, old.1, old.2, old.3 ∙ mid.3);
}

-- ALL OF THEM, and the party that goes out

-- where the key fits, nothing is said but what fits each transaction
abbrev pub SaysFitting : Key → Work → Work → Type 0
SaysFitting key w v = (is_some (transaction_of key w.state) ≡ true → is_spelled key ≡ true) → (k : Key) → is_spelled k ≡ true → (before : Word) → Fits before k w → Fits before k v

-- only of the transaction of this key anything is said, where it is there
abbrev pub SpeaksOf : Key → Work → Work → Type 0
SpeaksOf key w v = (test : Verdict → Bool) (realm id : List ℕ) → realm ≡ w.state.head.name → speaks_of test realm id v.answer ≡ true → (speaks_of test realm id w.answer ≡ true) ⊎ ((bytes_eq id (identifier realm key) ≡ true) × (is_some (transaction_of key w.state) ≡ true))

-- a committed row stands
abbrev pub is_committed : Option Row → Bool
is_committed row = option_map_or is_committed_row row false

abbrev pub tells_commit : Key → Work → Bool
tells_commit key w = is_told_commit w.state.head.name w.state.head.epoch key w.answer

-- where the key fits, a commit is told only where the committed row stood, or stands once this was stored
abbrev pub SaysBacked : Option Change → Key → Work → Work → Type 0
SaysBacked change key w v = (is_some (transaction_of key w.state) ≡ true → is_spelled key ≡ true) → (k : Key) → is_spelled k ≡ true → (row : Option Row) → says (transaction_of k w.state) row ≡ true → tells_commit k v ≡ true → (tells_commit k w ≡ true) ⊎ ((is_committed row ≡ true) ⊎ (is_committed (row_in change k row) ≡ true))

pub record Speaks (change : Option Change) (key : Key) (w v : Work) : Type 0 where
  pub fits : SaysFitting key w v
  pub ours : SpeaksOf key w v
  pub backed : SaysBacked change key w v

pub speaks_not : (change : Option Change) (key : Key) (w : Work) → Speaks change key w w
speaks_not change key w = record { fits = λ spelled k fine before is. is; ours = λ test realm id at is. inl is; backed = λ spelled k fine row fits is. inl is }

-- a committed transaction has its row
pub committed_row : (t : Transaction) (r : Option Row) → is_stored_as Committed t r ≡ true → is_committed r ≡ true
committed_row t (Some (row.Committed branches subordinates)) is = refl
committed_row t (Some (row.Prepared address superior branches subordinates)) is = absurd (cc)
committed_row t None is = absurd (cc)

-- the party of this transaction goes out, which was not out before
pub record Sends (key : Key) (w v : Work) : Type 0 where
  pub party : PartyNotes
  pub transaction : Transaction
  pub now : v.answer.work ≡ Some party
  pub sent : is_sent party.errand party ≡ true
  pub uncalled : is_uncalled party ≡ true
  pub epoch : (party.epoch == w.state.head.epoch) ≡ true
  pub id : has_id w.state.head.name party.id transaction ≡ true
  pub found : transaction_of key v.state ≡ Some transaction
  pub out : transaction.place ≡ Out party.errand
  pub before : (t : Transaction) (e : Errand) → transaction_of key w.state ≡ Some t → t.place ≡ Out e → ⊥

pub record Onward (change : Option Change) (key : Key) (w v : Work) : Type 0 where
  pub epoch : v.state.head.epoch ≡ w.state.head.epoch
  pub name : v.state.head.name ≡ w.state.head.name
  pub turns : (k : Key) → Turns (row_in change k) (transaction_of k w.state) (transaction_of k v.state)
  pub keys : are_distinct is_same (keys_of w.state.transactions) ≡ true → are_distinct is_same (keys_of v.state.transactions) ≡ true
  pub sends : (v.answer.work ≡ w.answer.work) ⊎ Sends key w v
  pub says : Speaks change key w v

module _ (key : Key) where
  -- no transaction is touched
  pub beside : (w v : Work) → v.state.head.epoch ≡ w.state.head.epoch → v.state.head.name ≡ w.state.head.name → v.state.transactions ≡ w.state.transactions → v.answer.work ≡ w.answer.work → Speaks None key w v → Onward None key w v
  beside w v epoch name same work says = record {
    epoch = epoch;
    name = name;
    turns = λ k. subst (λ ts. Turns (λ row. row) (transaction_of k w.state) (find (has_key k) ts)) (sym same) (turns_same (transaction_of k w.state));
    keys = λ apart. subst (λ ts. are_distinct is_same (keys_of ts) ≡ true) (sym same) apart;
    sends = inl work;
    says = says;
  }

  sends_then : (c d : Option Change) (u w v : Work) → Onward c key u w → Onward d key w v → (v.answer.work ≡ u.answer.work) ⊎ Sends key u v
  sends_then c d u w v first next = step first.sends next.sends where
    step : (w.answer.work ≡ u.answer.work) ⊎ Sends key u w → (v.answer.work ≡ w.answer.work) ⊎ Sends key w v → (v.answer.work ≡ u.answer.work) ⊎ Sends key u v
    step (inl a) (inl b) = inl (b ∙ a)
    step (inl a) (inr s) = inr (record {
      party = s.party;
      transaction = s.transaction;
      now = s.now;
      sent = s.sent;
      uncalled = s.uncalled;
      epoch = subst (λ e. (s.party.epoch == e) ≡ true) first.epoch s.epoch;
      id = subst (λ n. has_id n s.party.id s.transaction ≡ true) first.name s.id;
      found = s.found;
      out = s.out;
      before = λ t e is at. let mid = (first.turns key).out t e is at in s.before mid.0 e mid.1 mid.2;
    })
    step (inr s) (inl b) =
        let later = (next.turns key).out s.transaction s.party.errand s.found s.out in
        let same : has_id u.state.head.name s.party.id later.0 ≡ true = id_kept s.party s.transaction later.0 s.found later.1 s.id in
        inr (record { party = s.party; transaction = later.0; now = b ∙ s.now; sent = s.sent; uncalled = s.uncalled; epoch = s.epoch; id = same; found = later.1; out = later.2; before = s.before }) where
          id_kept : (p : PartyNotes) (t t' : Transaction) → transaction_of key w.state ≡ Some t → transaction_of key v.state ≡ Some t' → has_id u.state.head.name p.id t ≡ true → has_id u.state.head.name p.id t' ≡ true
          id_kept p t t' found found' is = subst (λ k. has_id u.state.head.name p.id (record t { key = k }) ≡ true) (sym (key_found key t w.state found) ∙ key_found key t' v.state found') is
    step (inr s) (inr s') = absurd (s'.before s.transaction s.party.errand s.found s.out)

  fits_then : (c d : Option Change) (u w v : Work) → Onward c key u w → Onward d key w v → SaysFitting key u v
  fits_then c d u w v first next spelled k fine before is = next.says.fits (λ there. spelled ((first.turns key).was there)) k fine before (first.says.fits spelled k fine before is)

  ours_then : (c d : Option Change) (u w v : Work) → Onward c key u w → Onward d key w v → SpeaksOf key u v
  ours_then c d u w v first next test realm id at is = elim (next.says.ours test realm id (at ∙ sym first.name) is) [
    | inl before ↦ first.says.ours test realm id at before
    | inr now ↦ inr (now.0, (first.turns key).was now.1)
  ]

  -- the row before is the row between, or the row between is the row after
  backed_then : (change : Option Change) (u w v : Work) → Onward change key u w → Onward None key w v → SaysBacked change key u v
  backed_then change u w v first next spelled k fine row fits is = elim (next.says.backed (λ there. spelled ((first.turns key).was there)) k fine (row_in change k row) ((first.turns k).rows row fits) is) [
    | inl told ↦ first.says.backed spelled k fine row fits told
    | inr stands ↦ inr (inr (elim stands [ inl was ↦ was | inr is ↦ is ]))
  ]

  backed_before : (change : Option Change) (u w v : Work) → Onward None key u w → Onward change key w v → SaysBacked change key u v
  backed_before change u w v first next spelled k fine row fits is = elim (next.says.backed (λ there. spelled ((first.turns key).was there)) k fine row ((first.turns k).rows row fits) is) [
    | inl told ↦ elim (first.says.backed spelled k fine row fits told) [
      | inl old ↦ inl old
      | inr stands ↦ inr (inl (elim stands [ inl was ↦ was | inr is ↦ is ]))
    ]
    | inr stands ↦ inr stands
  ]

  -- one after another
  pub then : (change : Option Change) (u w v : Work) → Onward change key u w → Onward None key w v → Onward change key u v
  then change u w v first next = record {
    epoch = next.epoch ∙ first.epoch;
    name = next.name ∙ first.name;
    turns = λ k. turns_then (row_in change k) (λ row. row) _ _ _ (first.turns k) (next.turns k);
    keys = λ apart. next.keys (first.keys apart);
    sends = sends_then change None u w v first next;
    says = record { fits = fits_then change None u w v first next; ours = ours_then change None u w v first next; backed = backed_then change u w v first next };
  }

  pub before : (change : Option Change) (u w v : Work) → Onward None key u w → Onward change key w v → Onward change key u v
  before change u w v first next = record {
    epoch = next.epoch ∙ first.epoch;
    name = next.name ∙ first.name;
    turns = λ k. turns_then (λ row. row) (row_in change k) _ _ _ (first.turns k) (next.turns k);
    keys = λ apart. next.keys (first.keys apart);
    sends = sends_then None change u w v first next;
    says = record { fits = fits_then None change u w v first next; ours = ours_then None change u w v first next; backed = backed_before change u w v first next };
  }

  -- the transaction of the key is altered, or ends

  turns_beside : (change : Option Change) (other : Key) (old new : Option Transaction) → new ≡ old → ((row : Option Row) → row_in change other row ≡ row) → Turns (row_in change other) old new
  turns_beside change other old new same stays = record {
    rows = λ row is. subst (λ o. says o (row_in change other row) ≡ true) (sym same) (ap (says old) (stays row) ∙ is);
    was = λ is. sym (ap is_some same) ∙ is;
    out = λ t e is at. (t, same ∙ is, at);
    known = λ u is live. (u, sym same ∙ is, live, refl);
  }

-- what is stored is of this key
abbrev pub IsOf : Key → Option Change → Type 0
IsOf key change = (other : Key) → is_same key other ≡ false → (row : Option Row) → row_in change other row ≡ row

pub of_none : (key : Key) → IsOf key None
of_none key other differ row = refl

pub of_put : (key : Key) (new : Row) → IsOf key (Some (Put key new))
of_put key new other differ row = ap (λ b. cond b (Some new) row) differ

pub of_remove : (key : Key) → IsOf key (Some (Remove key))
of_remove key other differ row = ap (λ b. cond b None row) differ

module _ (key : Key) (change : Option Change) (of : IsOf key change) (w : Work) where
  -- each key is this one, or another
  each_key : (v : Work) → Turns (row_in change key) (transaction_of key w.state) (transaction_of key v.state) → ((other : Key) → is_same key other ≡ false → transaction_of other v.state ≡ transaction_of other w.state) → (k : Key) → Turns (row_in change k) (transaction_of k w.state) (transaction_of k v.state)
  each_key v here apart k = elim (cases_Bool (is_same key k)) [
    | inl same ↦ subst (λ k. Turns (row_in change k) (transaction_of k w.state) (transaction_of k v.state)) (same_key key k same) here
    | inr differ ↦ turns_beside key change k (transaction_of k w.state) (transaction_of k v.state) (apart k differ) (of k differ)
  ]

  pub alters : (f : Transaction → Transaction) (t : Transaction) → ((t : Transaction) → (f t).key ≡ t.key) → transaction_of key w.state ≡ Some t → Turns (row_in change key) (Some t) (Some (f t)) → StillFits t (f t) → Onward change key w (alter key f w)
  alters f t same found turns may = record {
    epoch = refl;
    name = refl;
    turns = each_key (alter key f w) (subst (λ o. Turns (row_in change key) o (transaction_of key (alter key f w).state)) (sym found) (subst (Turns (row_in change key) (Some t)) (sym (found_altered key w.state f same t found)) turns)) (other_found key w.state f same);
    keys = λ apart. rw (keys_changed (has_key key) f w.state.transactions same) apart;
    sends = inl refl;
    says = record { fits = λ spelled k fine before. altered_fits key w f t same found may k before; ours = λ test realm id at is. inl is; backed = λ spelled k fine row fits is. inl is };
  }

  gone_now : (ts : List Transaction) → are_distinct is_same (keys_of ts) ≡ true → find (has_key key) (without (has_key key) ts) ≡ None
  gone_now [] apart = refl
  gone_now (u ∷ ts) apart = let parts = and_parts (not (list_any (is_same u.key) (keys_of ts))) (are_distinct is_same (keys_of ts)) apart in step (has_key key u) refl (gone_now ts parts.1) (not-true _ parts.0) where
    none_same : (at : Key) (ts : List Transaction) → key ≡ at → list_any (is_same at) (keys_of ts) ≡ false → find (has_key key) ts ≡ None
    none_same at [] same none = refl
    none_same at (v ∷ ts) same none = let parts = or_parts (is_same at v.key) (list_any (is_same at) (keys_of ts)) none in rw (ap (λ k. is_same k v.key) same ∙ parts.0) (none_same at ts same parts.1)

    step : (b : Bool) → has_key key u ≡ b → find (has_key key) (without (has_key key) ts) ≡ None → list_any (is_same u.key) (keys_of ts) ≡ false → find (has_key key) (cond b ts (u ∷ without (has_key key) ts)) ≡ None
    step true here later none = none_same u.key ts (same_key key u.key here) none
    step false differs later none = rw differs later

  ended_fits : (t : Transaction) → are_distinct is_same (keys_of w.state.transactions) ≡ true → transaction_of key w.state ≡ Some t → (k : Key) (before : Word) → Fits before k w → Fits before k (end key w)
  ended_fits t apart found k before is = elim (cases_Bool (is_same key k)) [
    | inl here ↦
        let at = same_key key k here in
        let old = subst (λ o. fits o (word_at before key w) ≡ true) found (subst (λ x. Fits before x w) (sym at) is) in
        subst (λ x. Fits before x (end key w)) at (subst (λ o. fits o (word_at before key w) ≡ true) (sym (gone_now w.state.transactions apart)) (over_fits t (word_at before key w) old))
    | inr differ ↦ subst (λ o. fits o (word_at before k w) ≡ true) (sym (other_left key w.state k differ)) is
  ]

  pub ends : (t : Transaction) → are_distinct is_same (keys_of w.state.transactions) ≡ true → transaction_of key w.state ≡ Some t → Turns (row_in change key) (Some t) None → Onward change key w (end key w)
  ends t apart found turns = record {
    epoch = refl;
    name = refl;
    turns = each_key (end key w) (subst (λ o. Turns (row_in change key) o (transaction_of key (end key w).state)) (sym found) (subst (Turns (row_in change key) (Some t)) (sym (gone_now w.state.transactions apart)) turns)) (other_left key w.state);
    keys = λ apart. apart_without (has_key key) w.state.transactions apart;
    sends = inl refl;
    says = record { fits = λ spelled k fine before. ended_fits t apart found k before; ours = λ test realm id at is. inl is; backed = λ spelled k fine row fits is. inl is };
  }

-- THE PARTY

-- forgetting calls changes nothing of what is asked of members
none_forgets : (p : Member → Bool) → ((m : Member) → p (forgetting m) ≡ p m) → (ms : List Member) → list_any p (map forgetting ms) ≡ list_any p ms
none_forgets p same [] = refl
none_forgets p same (m ∷ ms) = λ i. same m i || none_forgets p same ms i

all_forget : (p : Member → Bool) → ((m : Member) → p (forgetting m) ≡ p m) → (ms : List Member) → list_all p (map forgetting ms) ≡ list_all p ms
all_forget p same [] = refl
all_forget p same (m ∷ ms) = λ i. same m i && all_forget p same ms i

-- how a party can be given an errand
abbrev pub CanGo : Errand → PartyNotes → Type 0
CanGo e party = is_sent e party ≡ true

given_sent : (e : Errand) (party : PartyNotes) → CanGo e party → is_sent e (given party e) ≡ true
given_sent errand.Idle party can = absurd (cc)
given_sent errand.Vote party can = all_forget is_unasked (λ m. refl) party.members ∙ can
given_sent errand.Commit party can = ap (λ b. not b && list_any is_ready (map forgetting party.members)) (none_forgets is_active (λ m. refl) party.members) ∙ ap (λ b. not (list_any is_active party.members) && b) (none_forgets is_ready (λ m. refl) party.members) ∙ can
given_sent errand.Abort party can = refl

-- where its party is, is not stored
pub placed_row : (place : PartyPlace) (t : Transaction) (phase : Phase) (row : Option Row) → is_stored_as phase t row ≡ true → is_stored_as phase (standing_at place t) row ≡ true
placed_row place t Active row is = is
placed_row place t Asking row is = is
placed_row place t Prepared (Some (row.Prepared address superior branches subordinates)) is = is
placed_row place t Prepared (Some (row.Committed branches subordinates)) is = is
placed_row place t Prepared None is = is
placed_row place t Committed (Some (row.Committed branches subordinates)) is = is
placed_row place t Committed (Some (row.Prepared address superior branches subordinates)) is = is
placed_row place t Committed None is = is
placed_row place t Aborted row is = is

module _ (key : Key) (w : Work) (t : Transaction) (party : PartyNotes) (found : transaction_of key w.state ≡ Some t) (here : t.place ≡ Here party) where
  moves : (place : PartyPlace) → Turns (λ row. row) (Some t) (Some (standing_at place t))
  moves place = record {
    rows = λ row is. placed_row place t t.phase row is;
    was = λ is. refl;
    out = λ u e is at. absurd (never e (sym here ∙ (ap (λ (x : Transaction). x.place) (same_Some t u is) ∙ at)));
    known = λ u is live. (t, refl, subst (λ (x : Transaction). is_undecided x.phase ≡ true) (sym (same_Some (standing_at place t) u is)) live, ap (λ (x : Transaction). x.origin) (same_Some (standing_at place t) u is));
  } where
    never : (e : Errand) → Here party ≡ Out e → ⊥
    never e is = cc

  -- it is the transaction's own
  own_id : is_its_own w.state t (Here party) ≡ true → bytes_eq party.id (identifier w.state.head.name key) ≡ true
  own_id own = subst (λ k. bytes_eq party.id (identifier w.state.head.name k) ≡ true) (sym (key_found key t w.state found)) (and_parts (party.epoch == w.state.head.epoch) (has_id w.state.head.name party.id t) own).1

  let_ours : is_its_own w.state t (Here party) ≡ true → SpeaksOf key w (let_go party key w)
  let_ours own test realm id at is = elim (or_cases (are_said test realm id w.answer.sent) (bytes_eq id party.id) is) [
    | inl said ↦ inl (or_left (are_said test realm id w.answer.sent) _ said)
    | inr named ↦ inr (subst (λ n. bytes_eq id (identifier n key) ≡ true) (sym at) (subst (λ x. bytes_eq id x ≡ true) (same_text party.id (identifier w.state.head.name key) (own_id own)) named), ap is_some found)
  ]

  pub lets : is_its_own w.state t (Here party) ≡ true → MayLet t party → Onward None key w (let_go party key w)
  lets own may =
      let a = alters key None (of_none key) w (standing_at Spent) t (λ t. refl) found (moves Spent) (placed_fits t party Spent here) in
      record { epoch = a.epoch; name = a.name; turns = a.turns; keys = a.keys; sends = inl refl; says = record { fits = λ spelled. let_fits key w t party found here (own_id own) (spelled (ap is_some found)) may; ours = let_ours own; backed = λ spelled k fine row fits is. inl is } }

  -- only the party of a committed transaction goes out to tell a commit
  gives_backed : (e : Errand) → is_its_own w.state t (Here party) ≡ true → may_go t.phase e ≡ true → SaysBacked None key w (give_out e party key w)
  gives_backed e own may spelled k fine row fits is = elim (or_cases (are_said is_commit w.state.head.name (identifier w.state.head.name k) w.answer.sent) (will_tell is_commit w.state.head.epoch (identifier w.state.head.name k) (given party e)) is) [
    | inl said ↦ inl (or_left (are_said is_commit w.state.head.name (identifier w.state.head.name k) w.answer.sent) _ said)
    | inr will ↦ inr (inl (elim (cases_Bool (is_same key k)) [
      | inl same ↦ committed_row t row (stored_in t.phase e may (and_parts (bytes_eq (identifier w.state.head.name k) party.id) _ will).1 (subst (λ o. says o row ≡ true) found (subst (λ x. says (transaction_of x w.state) row ≡ true) (sym (same_key key k same)) fits)))
      | inr differ ↦ absurd (both_ways (bytes_eq (identifier w.state.head.name k) party.id) (subst (λ x. bytes_eq (identifier w.state.head.name k) x ≡ false) (sym (same_text party.id (identifier w.state.head.name key) (own_id own))) (ids_differ w.state.head.name key k (spelled (ap is_some found)) fine differ)) (and_parts (bytes_eq (identifier w.state.head.name k) party.id) _ will).0)
    ]))
  ] where
    stored_in : (phase : Phase) (e : Errand) → may_go phase e ≡ true → option_map_or is_commit (verdict_of w.state.head.epoch e party.epoch) false ≡ true → is_stored_as phase t row ≡ true → is_stored_as Committed t row ≡ true
    stored_in Committed errand.Commit may tells fits = fits
    stored_in Aborted errand.Abort may tells fits = absurd (cc)
    stored_in Asking errand.Vote may tells fits = absurd (votes (party.epoch == w.state.head.epoch) tells) where
      votes : (b : Bool) → option_map_or is_commit (cond b None (Some Verdict.Abort)) false ≡ true → ⊥
      votes true is = cc
      votes false is = cc
    stored_in phase e may tells fits = absurd (cc)

  pub gives : (e : Errand) → CanGo e party → is_its_own w.state t (Here party) ≡ true → may_go t.phase e ≡ true → Onward None key w (give_out e party key w)
  gives e can own may =
      let a = alters key None (of_none key) w (standing_at (Out e)) t (λ t. refl) found (moves (Out e)) (placed_fits t party (Out e) here) in
      let its = and_parts (party.epoch == w.state.head.epoch) (has_id w.state.head.name party.id t) own in
      record {
        epoch = a.epoch;
        name = a.name;
        turns = a.turns;
        keys = a.keys;
        sends = inr (record {
          party = given party e;
          transaction = standing_at (Out e) t;
          now = refl;
          sent = given_sent e party can;
          uncalled = none_called party.members;
          epoch = its.0;
          id = its.1;
          found = found_altered key w.state (standing_at (Out e)) (λ t. refl) t found;
          out = refl;
          before = λ u f is at. never f (sym here ∙ (ap (λ (x : Transaction). x.place) (same_Some t u (sym found ∙ is)) ∙ at));
        });
        says = record { fits = λ spelled. give_fits key w t party found here (own_id own) its.0 (spelled (ap is_some found)) e may; ours = λ test realm id at is. inl is; backed = gives_backed e own may };
      } where
        never : (f : Errand) → Here party ≡ Out f → ⊥
        never f is = cc

-- a party that is here is the transaction's own, and goes out or is let go as its phase says
pub record MayBeSent (w : Work) (t : Transaction) (party : PartyNotes) : Type 0 where
  pub own : is_its_own w.state t (Here party) ≡ true
  pub can : has_ready party ≡ true → CanGo (errand_in t.phase) party
  pub may : has_ready party ≡ true → may_go t.phase (errand_in t.phase) ≡ true
  pub lets : has_ready party ≡ false → MayLet t party

-- where its party is after it was dispatched
pub record Dispatched (key : Key) (t : Transaction) (w v : Work) : Type 0 where
  pub onward : Onward None key w v
  pub place : PartyPlace
  pub found : transaction_of key v.state ≡ Some (standing_at place t)
  -- a party of which no branch waits for the outcome is not out then
  pub stays_in : ((e : Errand) → t.place ≡ Out e → ⊥) → ((party : PartyNotes) → t.place ≡ Here party → has_ready party ≡ false) → (e : Errand) → place ≡ Out e → ⊥

module _ (key : Key) (w : Work) (t : Transaction) (found : transaction_of key w.state ≡ Some t) where
  stood : (place : PartyPlace) → t.place ≡ place → Dispatched key t w w
  stood place at = record { onward = beside key w w refl refl refl refl (speaks_not None key w); place = place; found = found ∙ ap Some (λ i. record t { place = at i }); stays_in = λ never none e out. never e (at ∙ out) }

  pub dispatches : ((party : PartyNotes) → t.place ≡ Here party → MayBeSent w t party) → Dispatched key t w (dispatch key w)
  unfolding dispatch
  dispatches can = subst (λ o. Dispatched key t w (on o (λ (u : Transaction). dispatched u.place u.phase key) w)) (sym found) (step t.place refl) where
    never_out : (e : Errand) → (place : PartyPlace) → place ≡ Spent → place ≡ Out e → ⊥
    never_out e place spent is = cc

    by_ready : (party : PartyNotes) → t.place ≡ Here party → (b : Bool) → has_ready party ≡ b → Dispatched key t w (cond b (give_out (errand_in t.phase) party key w) (let_go party key w))
    by_ready party at true ready = let may = can party at in record {
      onward = gives key w t party found at (errand_in t.phase) (may.can ready) may.own (may.may ready);
      place = Out (errand_in t.phase);
      found = found_altered key w.state (standing_at (Out (errand_in t.phase))) (λ t. refl) t found;
      stays_in = λ never none e out. both_ways (has_ready party) (none party at) ready;
    }
    by_ready party at false none = record {
      onward = lets key w t party found at (can party at).own ((can party at).lets none);
      place = Spent;
      found = found_altered key w.state (standing_at Spent) (λ t. refl) t found;
      stays_in = λ never none e out. never_out e Spent refl out;
    }

    step : (place : PartyPlace) → t.place ≡ place → Dispatched key t w (dispatched place t.phase key w)
    step (Here party) at = by_ready party at (has_ready party) refl
    step (Out e) at = stood (Out e) at
    step Spent at = stood Spent at
