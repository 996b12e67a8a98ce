-- What a rule has said once it is done: what fits each transaction, and of which one.
use Rattle.std.proofs.Common.{◌≡◌, Bool, true, false, ℕ, List, [], Option, Some, None, cond, refl, ap, subst, sym, ◌∙◌, inl, inr}
use Rattle.std.specs.Prelude.{◌&&◌, ◌||◌, not, find, is_some}
use Rattle.std.specs.Option.{option_map_or}
use Rattle.std.proofs.lemmas.Bool.{or_parts}
use Rattle.tip_rows.specs.Keys.{Key}
use Rattle.tip_machine.specs.Agreement.Verdicts.{Verdict, is_abort, is_commit}
use Rattle.tip_machine.specs.Answers.{identifier}
use Rattle.tip_machine.specs.Invariants.Bounds.{is_spelled}
use Rattle.tip_machine.specs.Order.{ordered, turn}
use Rattle.tip_machine.specs.States.{Attempt, State, Work, transaction_of}
use Rattle.tip_machine.specs.Steps.{chosen}
use Rattle.tip_machine.specs.Transactions.{has_key}
use Rattle.tip_machine.specs.Types.{Transaction}
use Rattle.tip_machine.specs.declared.event.Change.{Change}
use Rattle.tip_machine.specs.declared.event.Outcome.{Outcome}
use Rattle.tip_machine.specs.declared.event.Outcome.TheVariants.{NoChange, Refused, Stored}
use Rattle.std.specs.Str.{bytes_eq}
use Rattle.tip_rows.proofs.MemoryLemmas.{same_text}
use Rattle.tip_agreement.proofs.Onward.{Onward, Sends}
use Rattle.tip_agreement.specs.Truth.{Word, fits, fits_in, is_uncalled, will_tell, IsOurs}
use Rattle.tip_agreement.proofs.Apart.{all_found}
use Rattle.tip_agreement.proofs.Bounded.{AreSpelled}
use Rattle.tip_agreement.proofs.Commanded.{EndsGo, Grown}
use Rattle.tip_agreement.proofs.Concluding.{Goes}
use Rattle.tip_agreement.proofs.Making.{found_before, found_new}
use Rattle.tip_agreement.proofs.Owned.{key_found}
use Rattle.tip_agreement.proofs.Telling.{ordered_quiet}
use Rattle.tip_agreement.proofs.Wording.{Fits, are_said, fits_still, rolls_back, word_at, is_of, speaks_of}

-- WHAT A RULE SAYS

-- nothing is said yet
pub record IsQuiet (w : Work) : Type 0 where
  pub sent : w.answer.sent ≡ []
  pub work : w.answer.work ≡ None
  pub spent : w.answer.spent ≡ None

abbrev pub has_word : Word → Bool
has_word word = word.commit || word.abort

-- what is said fits each transaction; a new one has no word; and no identifier is spoken of but ours
pub record Spoke (w v : Work) : Type 0 where
  pub epoch : v.state.head.epoch ≡ w.state.head.epoch
  pub name : v.state.head.name ≡ w.state.head.name
  pub uncalled : option_map_or is_uncalled v.answer.work true ≡ true
  pub ours : (test : Verdict → Bool) (id : List ℕ) → speaks_of test w.state.head.name id v.answer ≡ true → IsOurs w.state.head.name id
  pub works : (id : List ℕ) → is_of id v.answer.work ≡ true → IsOurs w.state.head.name id
  pub fits : (k : Key) → is_spelled k ≡ true → (before : Word) → (transaction_of k w.state ≡ None → is_some (transaction_of k v.state) ≡ true → has_word before ≡ false) → Fits before k w → Fits before k v

module _ (w : Work) (spelled : AreSpelled w.state) (quiet : IsQuiet w) where
  pub spelled_there : (key : Key) → is_some (transaction_of key w.state) ≡ true → is_spelled key ≡ true
  spelled_there key = step (transaction_of key w.state) refl where
    step : (found : Option Transaction) → transaction_of key w.state ≡ found → is_some found ≡ true → is_spelled key ≡ true
    step None is there = absurd (cc)
    step (Some t) is there = subst (λ k. is_spelled k ≡ true) (sym (key_found key t w.state is)) (all_found (λ (u : Transaction). is_spelled u.key) (has_key key) w.state.transactions t spelled is)

  -- nothing was spoken of before
  none_spoken : (test : Verdict → Bool) (realm id : List ℕ) → speaks_of test realm id w.answer ≡ true → ⊥
  none_spoken test realm id is = let wrong : false ≡ true = sym (λ i. are_said test realm id (quiet.sent i) || is_of id (quiet.spent i)) ∙ is in cc

  none_works : (id : List ℕ) → is_of id w.answer.work ≡ true → ⊥
  none_works id is = let wrong : false ≡ true = sym (ap (is_of id) quiet.work) ∙ is in cc

  -- the party that goes out is of the transaction
  sent_ours : (change : Option Change) (key : Key) (v : Work) → Onward change key w v → Sends key w v → (id : List ℕ) → is_of id v.answer.work ≡ true → IsOurs w.state.head.name id
  sent_ours change key v onward s id is =
      let named : bytes_eq id s.party.id ≡ true = sym (ap (is_of id) s.now) ∙ is in
      let same : s.party.id ≡ identifier w.state.head.name key = same_text s.party.id (identifier w.state.head.name s.transaction.key) s.id ∙ ap (identifier w.state.head.name) (sym (key_found key s.transaction v.state s.found)) in
      (key, spelled_there key ((onward.turns key).was (ap is_some s.found)), same_text id s.party.id named ∙ same)

  spoke_goes : (change : Option Change) (v : Work) → Goes change w v → Spoke w v
  spoke_goes change v goes = record {
    epoch = goes.1.epoch;
    name = goes.1.name;
    uncalled = elim goes.1.sends [
      | inl same ↦ subst (λ o. option_map_or is_uncalled o true ≡ true) (sym (same ∙ quiet.work)) refl
      | inr s ↦ subst (λ o. option_map_or is_uncalled o true ≡ true) (sym s.now) s.uncalled
    ];
    ours = λ test id is. elim (goes.1.says.ours test w.state.head.name id refl is) [
      | inl before ↦ absurd (none_spoken test w.state.head.name id before)
      | inr now ↦ (goes.0, spelled_there goes.0 now.1, same_text id (identifier w.state.head.name goes.0) now.0)
    ];
    works = λ id is. elim goes.1.sends [
      | inl same ↦ absurd (none_works id (sym (ap (is_of id) same) ∙ is))
      | inr s ↦ sent_ours change goes.0 v goes.1 s id is
    ];
    fits = λ k fine before new. goes.1.says.fits (spelled_there goes.0) k fine before;
  }

  -- a transaction more, of which nothing was said
  module _ (v : Work) (grown : Grown w v) where
    -- the state before, with what was said
    abbrev before_it : Work
    before_it = record v { state = record v.state { transactions = w.state.transactions } }

    silent_of : (test : Verdict → Bool) (realm id : List ℕ) → are_said test realm id v.answer.sent ≡ false
    silent_of test realm id = grown.said test realm id ∙ ap (are_said test realm id) quiet.sent

    none_said : (before : Word) (k : Key) → has_word before ≡ false → fits (Some grown.new) (word_at before k v) ≡ true
    none_said before k none =
        let parts = or_parts before.commit before.abort none in
        let id = identifier v.state.head.name k in
        let work = grown.work ∙ quiet.work in
        let spent = grown.spent ∙ quiet.spent in
        subst (λ f. fits_in f grown.new.place (word_at before k v) ≡ true) (sym grown.active)
        ((λ i. not (parts.0 i || (silent_of is_commit v.state.head.name id i || option_map_or (will_tell is_commit v.state.head.epoch id) (work i) false)) && not (parts.1 i || (silent_of is_abort v.state.head.name id i || (option_map_or (will_tell is_abort v.state.head.epoch id) (work i) false || rolls_back id (spent i))))))

    grown_at : (before : Word) (k : Key) (found : Option Transaction) → transaction_of k w.state ≡ found → (found ≡ None → is_some (transaction_of k v.state) ≡ true → has_word before ≡ false) → fits found (word_at before k v) ≡ true → Fits before k v
    grown_at before k (Some t) is new old = subst (λ ts. fits (find (has_key k) ts) (word_at before k v) ≡ true) (sym grown.transactions) (subst (λ o. fits o (word_at before k v) ≡ true) (sym (found_before (has_key k) w.state.transactions grown.new t is)) old)
    grown_at before k None is new old = subst (λ o. fits o (word_at before k v) ≡ true) (sym now) (step (has_key k grown.new) refl) where
      now : transaction_of k v.state ≡ cond (has_key k grown.new) (Some grown.new) None
      now = ap (find (has_key k)) grown.transactions ∙ found_new (has_key k) w.state.transactions grown.new is

      step : (b : Bool) → has_key k grown.new ≡ b → fits (cond b (Some grown.new) None) (word_at before k v) ≡ true
      step true has = none_said before k (new refl (ap is_some now ∙ ap (λ b. is_some (cond b (Some grown.new) None)) has))
      step false has = old

    spoke_grown : Spoke w v
    spoke_grown = record {
      epoch = grown.epoch;
      name = grown.name;
      uncalled = subst (λ o. option_map_or is_uncalled o true ≡ true) (sym (grown.work ∙ quiet.work)) refl;
      ours = λ test id is. absurd (none_spoken test w.state.head.name id ((λ i. (sym (grown.said test w.state.head.name id)) i || is_of id ((sym grown.spent) i)) ∙ is));
      works = λ id is. absurd (none_works id (sym (ap (is_of id) grown.work) ∙ is));
      fits = λ k fine before new is. grown_at before k (transaction_of k w.state) refl new (fits_still before k w before_it grown.epoch grown.name refl grown.work grown.spent grown.said is);
    }

  pub spoke_ends : (a : Attempt) (outcome : Outcome) → EndsGo w a → Spoke w (chosen a outcome)
  spoke_ends (Attempt.Done v) outcome (inl goes) = spoke_goes None v goes
  spoke_ends (Attempt.Done v) outcome (inr grown) = spoke_grown v grown
  spoke_ends (Attempt.Asks change stored refused) Stored ends = spoke_goes (Some change) stored ends.0
  spoke_ends (Attempt.Asks change stored refused) Refused ends = spoke_goes None refused ends.1
  spoke_ends (Attempt.Asks change stored refused) NoChange ends = spoke_goes None refused ends.1

pub spoke_ordered : (s : State) (w v : Work) → Spoke w v → Spoke w (ordered s v)
unfolding ordered
spoke_ordered s w v spoke = record {
  epoch = spoke.epoch;
  name = spoke.name;
  uncalled = spoke.uncalled;
  ours = λ test id is. spoke.ours test id (ap (λ b. b || is_of id v.answer.spent) (sym (ordered_quiet (turn s) v.answer.sent test w.state.head.name id)) ∙ is);
  works = spoke.works;
  fits = λ k fine before new is. fits_still before k v (ordered s v) refl refl refl refl refl (ordered_quiet (turn s) v.answer.sent) (spoke.fits k fine before new is);
}
