-- Who was willing: of a transaction that is not aborted, what each part has answered so far is noted of it, and none was lost
-- before it had answered.
use Rattle.std.proofs.Common.{◌≡◌, Bool, true, false, ℕ, zero, suc, List, [], ◌∷◌, ◌++◌, Option, Some, None, cond, refl, ap, subst, sym, ◌∙◌, ◌⊎◌, inl, inr}
use Rattle.std.specs.Prelude.{◌&&◌, filter_map, flat_map, is_none, is_some, map, nat_le, not, slice_get}
use Rattle.std.specs.List.{cons_option, list_all, list_any}
use Rattle.std.specs.Option.{option_and_then, option_to_list}
use Rattle.std.proofs.lemmas.Bool.{and_from, and_parts, both_ways, or_left, or_parts}
use Rattle.std.proofs.lemmas.List.{append-nil, append_assoc}
use Rattle.std.proofs.lemmas.List.Concat.{flat_map-append}
use Rattle.std.proofs.lemmas.List.Folds.{list_all-append, list_any-append}
use Rattle.tip_txn.specs.Parts.{answer_at, is_yes}
use Rattle.tip_txn.specs.declared.answer.Ballot.{Ballot}
use Rattle.tip_txn.specs.declared.answer.Ballot.TheVariants.{Lost}
use Rattle.tip_txn.specs.declared.answer.Decision.TheVariants as decisions
use Rattle.tip_txn.specs.declared.part.Participant.{Participant}
use Rattle.tip_machine.specs.Agreement.{answer_by, answers_from, has_part, heard_from, is_called, is_lost, is_willing, is_willing_vote, parts_in, was_called, was_willing, were_willing}
use Rattle.tip_machine.specs.Agreement.Traces.{Came, Moment, at_each, at_each_behind, shown_in}
use Rattle.tip_machine.specs.Returns.{is_nil}
use Rattle.tip_machine.specs.Transactions.{decision, decision_of, refuses}
use Rattle.tip_machine.specs.Types.{Transaction}
use Rattle.tip_agreement.proofs.Apart.{all_more}
use Rattle.tip_agreement.proofs.Keeping.{in_append}
use Rattle.tip_agreement.proofs.Walking.{In, Lasts, is_new, is_unheard}

-- Lists

pub all_in : {T : Type 0} (p : T → Bool) (xs : List T) → ((x : T) → In x xs → p x ≡ true) → list_all p xs ≡ true
all_in p [] each = refl
all_in p (x ∷ xs) each = and_from _ _ (each x (inl refl)) (all_in p xs (λ y is. each y (inr is)))

module _ {X Y : Type 0} (f : X → Option Y) where
  mapped_last : (xs : List X) (x : X) → filter_map f (xs ++ x ∷ []) ≡ filter_map f xs ++ option_to_list (f x)
  mapped_last [] x = step (f x) where
    step : (o : Option Y) → cons_option o [] ≡ option_to_list o
    step None = refl
    step (Some y) = refl
  mapped_last (z ∷ xs) x = step (f z) (mapped_last xs x) where
    step : (o : Option Y) → filter_map f (xs ++ x ∷ []) ≡ filter_map f xs ++ option_to_list (f x) → cons_option o (filter_map f (xs ++ x ∷ [])) ≡ cons_option o (filter_map f xs) ++ option_to_list (f x)
    step None rest = rest
    step (Some y) rest = ap (λ l. y ∷ l) rest

each_last : (before : List Moment) (test : List Moment → Moment → Bool) (moments : List Moment) (moment : Moment) → at_each_behind before test moments ≡ true → test (before ++ moments) moment ≡ true → at_each_behind before test (moments ++ moment ∷ []) ≡ true
each_last before test [] moment all last = and_from _ _ (subst (λ ms. test ms moment ≡ true) (append-nil before) last) refl
each_last before test (m ∷ moments) moment all last =
    let parts = and_parts (test before m) (at_each_behind (before ++ m ∷ []) test moments) all in
    and_from _ _ parts.0 (each_last (before ++ m ∷ []) test moments moment parts.1 (subst (λ ms. test ms moment ≡ true) (sym (append_assoc before (m ∷ []) moments)) last))

-- ANSWERS of parts

pub lasts_answer : (q : ℕ) (ps qs : List Participant) → Lasts ps qs → (answer_at qs q ≡ answer_at ps q) ⊎ (answer_at qs q ≡ Some Lost)
lasts_answer q [] [] new = inl refl
lasts_answer zero [] (x ∷ qs) new = step x.answer (and_parts (is_unheard x.answer) (not x.acknowledged) (and_parts (is_new x) (list_all is_new qs) new).0).0 where
  step : (answer : Option Ballot) → is_unheard answer ≡ true → (answer ≡ None) ⊎ (answer ≡ Some Lost)
  step None is = inl refl
  step (Some Lost) is = inr refl
  step (Some answer) is = absurd (cc)
lasts_answer (suc q) [] (x ∷ qs) new = lasts_answer q [] qs (and_parts (is_new x) (list_all is_new qs) new).1
lasts_answer q (p ∷ ps) [] lasts = absurd lasts
lasts_answer zero (p ∷ ps) (x ∷ qs) lasts = elim lasts.0 [ inl same ↦ inl (ap (λ (y : Participant). y.answer) same) | inr lost ↦ inr (ap (λ (y : Participant). y.answer) lost.1) ]
lasts_answer (suc q) (p ∷ ps) (x ∷ qs) lasts = lasts_answer q ps qs lasts.1

pub lasts_some : (q : ℕ) (ps qs : List Participant) → Lasts ps qs → is_some (slice_get ps q) ≡ true → is_some (slice_get qs q) ≡ true
lasts_some q [] qs new is = absurd (let wrong : false ≡ true = is in cc)
lasts_some q (p ∷ ps) [] lasts is = absurd lasts
lasts_some zero (p ∷ ps) (x ∷ qs) lasts is = refl
lasts_some (suc q) (p ∷ ps) (x ∷ qs) lasts is = lasts_some q ps qs lasts.1 is

-- what is heard, or else what was answered
abbrev pub or_else : Option Ballot → Option Ballot → Option Ballot
or_else (Some answer) old = Some answer
or_else None old = old

module _ (realm id : List ℕ) where
  -- what a part of it answers in a moment
  abbrev pub heard_answer : ℕ → Moment → Option Ballot
  heard_answer q moment = option_and_then (λ (came : Came). answer_by came.connection.awaited came.response) (heard_from realm id q moment)

  -- ONE PART: what it has answered is willing, and it was not lost before
  pub record Good (moments : List Moment) (q : ℕ) (answer : Option Ballot) : Type 0 where
    pub willing : list_all is_willing (answers_from realm id q moments) ≡ true
    pub heard : (a : Ballot) → answer ≡ Some a → is_nil (answers_from realm id q moments) ≡ false
    pub kept : at_each (λ before moment. not (is_lost realm id q before moment)) moments ≡ true

  heard_nil : (xs ys : List Ballot) → is_nil xs ≡ false → is_nil (xs ++ ys) ≡ false
  heard_nil [] ys is = absurd (let wrong : true ≡ false = is in cc)
  heard_nil (x ∷ xs) ys is = refl

  last_heard : (xs : List Ballot) (a : Ballot) → is_nil (xs ++ a ∷ []) ≡ false
  last_heard [] a = refl
  last_heard (x ∷ xs) a = refl

  not_lost : (a b c : Bool) → (c ≡ true → a ≡ true → b ≡ true) → not (a && not b && c) ≡ true
  not_lost true true true stays = refl
  not_lost true true false stays = refl
  not_lost true false true stays = absurd (let wrong : false ≡ true = stays refl refl in cc)
  not_lost true false false stays = refl
  not_lost false true c stays = refl
  not_lost false false c stays = refl

  pub good_next : (moments : List Moment) (moment : Moment) (q : ℕ) (old new : Option Ballot) → Good moments q old → new ≡ or_else (heard_answer q moment) old → ((a : Ballot) → new ≡ Some a → is_willing a ≡ true) → (new ≡ None → has_part realm id q moment.world ≡ true → has_part realm id q moment.after ≡ true) → Good (moments ++ moment ∷ []) q new
  good_next moments moment q old new good so well stays = step (heard_answer q moment) refl where
    answers : (h : Option Ballot) → heard_answer q moment ≡ h → answers_from realm id q (moments ++ moment ∷ []) ≡ answers_from realm id q moments ++ option_to_list h
    answers h is = mapped_last (λ m. heard_answer q m) moments moment ∙ ap (λ o. answers_from realm id q moments ++ option_to_list o) is

    keeps : (h : Option Ballot) → heard_answer q moment ≡ h → ((a : Ballot) → new ≡ Some a → is_nil (answers_from realm id q (moments ++ moment ∷ [])) ≡ false) → at_each (λ before m. not (is_lost realm id q before m)) (moments ++ moment ∷ []) ≡ true
    keeps h is heard = each_last [] (λ before m. not (is_lost realm id q before m)) moments moment good.kept (not_lost (has_part realm id q moment.world) (has_part realm id q moment.after) (is_nil (answers_from realm id q (moments ++ moment ∷ []))) (λ nil. stays (none_new new refl nil))) where
      none_new : (n : Option Ballot) → new ≡ n → is_nil (answers_from realm id q (moments ++ moment ∷ [])) ≡ true → new ≡ None
      none_new None at nil = at
      none_new (Some a) at nil = absurd (both_ways (is_nil (answers_from realm id q (moments ++ moment ∷ []))) (heard a at) nil)

    step : (h : Option Ballot) → heard_answer q moment ≡ h → Good (moments ++ moment ∷ []) q new
    step None is =
        let same : answers_from realm id q (moments ++ moment ∷ []) ≡ answers_from realm id q moments = answers None is ∙ append-nil (answers_from realm id q moments) in
        let stays_so : new ≡ old = so ∙ ap (λ h. or_else h old) is in
        let heard = λ (a : Ballot) (at : new ≡ Some a). ap is_nil same ∙ good.heard a (sym stays_so ∙ at) in
        record { willing = ap (list_all is_willing) same ∙ good.willing; heard = heard; kept = keeps None is heard }
    step (Some b) is =
        let now : answers_from realm id q (moments ++ moment ∷ []) ≡ answers_from realm id q moments ++ b ∷ [] = answers (Some b) is in
        let new_is : new ≡ Some b = so ∙ ap (λ h. or_else h old) is in
        let heard = λ (a : Ballot) (at : new ≡ Some a). ap is_nil now ∙ last_heard (answers_from realm id q moments) b in
        record { willing = ap (list_all is_willing) now ∙ (list_all-append is_willing (answers_from realm id q moments) (b ∷ []) ∙ and_from _ _ good.willing (and_from _ _ (well b new_is) refl)); heard = heard; kept = keeps (Some b) is heard }

  -- ALL OF THEM

  abbrev pub seen_in : List Moment → List ℕ
  seen_in moments = flat_map (λ (m : Moment). parts_in realm id m.world ++ parts_in realm id m.after) moments

  pub record Willing (branches : List (ℕ × List ℕ)) (moments : List Moment) (parts : List Participant) : Type 0 where
    pub voted : (a : Ballot) → answer_at parts 0 ≡ Some a → list_all (was_called realm id is_willing_vote moments) branches ≡ true
    pub good : (q : ℕ) → nat_le 1 q ≡ true → Good moments q (answer_at parts q)
    pub seen : (q : ℕ) → In q (seen_in moments) → (nat_le 1 q ≡ true) × (is_some (slice_get parts q) ≡ true)

  -- more was called
  pub called_more : (branches : List (ℕ × List ℕ)) (moments more : List Moment) → list_all (was_called realm id is_willing_vote moments) branches ≡ true → list_all (was_called realm id is_willing_vote (moments ++ more)) branches ≡ true
  called_more branches moments more = all_more (was_called realm id is_willing_vote moments) (was_called realm id is_willing_vote (moments ++ more)) branches (λ b is.
      let test = is_called realm id is_willing_vote b.0 in
      ap (list_any test) (flat_map-append (λ (m : Moment). m.shown) moments more) ∙ (list_any-append test (shown_in moments) (shown_in more) ∙ or_left (list_any test (shown_in moments)) _ is))

  seen_last : (moments : List Moment) (moment : Moment) (q : ℕ) → In q (seen_in (moments ++ moment ∷ [])) → In q (seen_in moments) ⊎ (In q (parts_in realm id moment.world) ⊎ In q (parts_in realm id moment.after))
  seen_last moments moment q is = elim (in_append (seen_in moments) (seen_in (moment ∷ [])) q (subst (In q) (flat_map-append (λ (m : Moment). parts_in realm id m.world ++ parts_in realm id m.after) moments (moment ∷ [])) is)) [
    | inl before ↦ inl before
    | inr now ↦ inr (in_append (parts_in realm id moment.world) (parts_in realm id moment.after) q (subst (In q) (append-nil (parts_in realm id moment.world ++ parts_in realm id moment.after)) now))
  ]

  pub willing_next : (branches : List (ℕ × List ℕ)) (moments : List Moment) (moment : Moment) (old new : List Participant) → Willing branches moments old →
      ((a : Ballot) → answer_at new 0 ≡ Some a → (answer_at old 0 ≡ Some a) ⊎ (list_all (was_called realm id is_willing_vote (moments ++ moment ∷ [])) branches ≡ true)) →
      ((q : ℕ) → nat_le 1 q ≡ true → answer_at new q ≡ or_else (heard_answer q moment) (answer_at old q)) →
      ((q : ℕ) (a : Ballot) → nat_le 1 q ≡ true → answer_at new q ≡ Some a → is_willing a ≡ true) →
      ((q : ℕ) → answer_at new q ≡ None → has_part realm id q moment.world ≡ true → has_part realm id q moment.after ≡ true) →
      ((q : ℕ) → is_some (slice_get old q) ≡ true → is_some (slice_get new q) ≡ true) →
      ((q : ℕ) → In q (parts_in realm id moment.world) ⊎ In q (parts_in realm id moment.after) → (nat_le 1 q ≡ true) × (is_some (slice_get new q) ≡ true)) →
      Willing branches (moments ++ moment ∷ []) new
  willing_next branches moments moment old new was votes so well stays more sees = record {
    voted = λ a is. elim (votes a is) [ inl before ↦ called_more branches moments (moment ∷ []) (was.voted a before) | inr now ↦ now ];
    good = λ q least. good_next moments moment q (answer_at old q) (answer_at new q) (was.good q least) (so q least) (λ a is. well q a least is) (stays q);
    seen = λ q is. elim (seen_last moments moment q is) [ inl before ↦ let at = was.seen q before in (at.0, more q at.1) | inr now ↦ sees q now ];
  }

  -- WHERE ALL HAVE ANSWERED, all were willing

  pub no_none : (parts : List Participant) (q : ℕ) → list_any is_none (map (λ (p : Participant). p.answer) parts) ≡ false → is_some (slice_get parts q) ≡ true → is_some (answer_at parts q) ≡ true
  no_none [] q none is = absurd (let wrong : false ≡ true = is in cc)
  no_none (p ∷ parts) zero none is = step p.answer (or_parts (is_none p.answer) (list_any is_none (map (λ (p : Participant). p.answer) parts)) none).0 where
    step : (answer : Option Ballot) → is_none answer ≡ false → is_some answer ≡ true
    step None is = absurd (cc)
    step (Some a) is = refl
  no_none (p ∷ parts) (suc q) none is = no_none parts q (or_parts (is_none p.answer) (list_any is_none (map (λ (p : Participant). p.answer) parts)) none).1 is

  pub record Decided (parts : List Participant) : Type 0 where
    pub local : is_some (slice_get parts 0) ≡ true
    pub none : list_any is_none (map (λ (p : Participant). p.answer) parts) ≡ false

  pub decided_so : (t : Transaction) → decision_of t ≡ decisions.Commit → Decided t.parts
  decided_so t is = step t.parts is where
    step : (parts : List Participant) → decision (map (λ (p : Participant). p.answer) parts) ≡ decisions.Commit → Decided parts
    step [] is = absurd (let wrong : decisions.ReadOnly ≡ decisions.Commit = is in cc)
    step (p ∷ parts) is = record { local = refl; none = by_tests (list_any refuses (map (λ (x : Participant). x.answer) (p ∷ parts))) (list_any is_none (map (λ (x : Participant). x.answer) (p ∷ parts))) refl is } where
      by_tests : (a b : Bool) → list_any is_none (map (λ (x : Participant). x.answer) (p ∷ parts)) ≡ b → cond a decisions.Abort (cond b decisions.Wait (cond (list_any is_yes (map (λ (x : Participant). x.answer) (p ∷ parts))) decisions.Commit decisions.ReadOnly)) ≡ decisions.Commit → list_any is_none (map (λ (x : Participant). x.answer) (p ∷ parts)) ≡ false
      by_tests true b at is = absurd (let wrong : decisions.Abort ≡ decisions.Commit = is in cc)
      by_tests false true at is = absurd (let wrong : decisions.Wait ≡ decisions.Commit = is in cc)
      by_tests false false at is = at

  some_so : {T : Type 0} (o : Option T) → is_some o ≡ true → (x : T) × (o ≡ Some x)
  some_so None is = absurd (cc)
  some_so (Some x) is = (x, refl)

  pub all_willing : (branches : List (ℕ × List ℕ)) (moments : List Moment) (parts : List Participant) → Willing branches moments parts → Decided parts → were_willing realm id moments branches ≡ true
  all_willing branches moments parts was decided =
      let first = some_so (answer_at parts 0) (no_none parts 0 decided.none decided.local) in
      and_from _ _ (was.voted first.0 first.1) (all_in (was_willing realm id moments) (seen_in moments) (λ q is.
      let at = was.seen q is in
      let answer = some_so (answer_at parts q) (no_none parts q decided.none at.1) in
      let good = was.good q at.0 in
      and_from _ _ (and_from _ _ (ap not (good.heard answer.0 answer.1)) good.willing) good.kept))
