-- What is shown of each committed transaction: who has acknowledged was heard to, and each branch in its row has done what it was
-- told, or waits with the party to be told.
use Rattle.std.proofs.Common.{◌≡◌, Bool, true, false, ℕ, ◌+◌, List, [], ◌∷◌, ◌++◌, Option, Some, None, cond, refl, ap, subst, sym, ◌∙◌, ◌⊎◌, inl, inr}
use Rattle.std.specs.Prelude.{◌&&◌, ◌||◌, ◌==◌, drop, filter, find, flat_map, map, not}
use Rattle.std.specs.List.{list_all, list_any}
use Rattle.std.specs.Option.{option_to_list}
use Rattle.std.specs.Str.{bytes_eq}
use Rattle.std.proofs.lemmas.Bool.{and_from, and_parts, both_ways, not-true, or_cases, or_left, or_parts, or_right}
use Rattle.std.proofs.lemmas.List.Concat.{flat_map-append}
use Rattle.std.proofs.lemmas.List.Folds.{list_all-append, list_any-append}
use Rattle.std.proofs.lemmas.Option.{none-some, same_Some}
use Rattle.tip_branch.specs.Members.{forgetting, is_ready}
use Rattle.tip_branch.specs.Notes.{PartyNotes, given}
use Rattle.tip_branch.specs.declared.member.Errand.{Errand}
use Rattle.tip_branch.specs.declared.member.Member.{Member}
use Rattle.tip_rows.specs.Keys.{Key, is_same}
use Rattle.tip_rows.specs.Logs.{is_rising, row_at}
use Rattle.tip_rows.specs.declared.row.Row.{Row}
use Rattle.tip_rows.specs.declared.row.Row.TheVariants as row
use Rattle.tip_rows.proofs.MemoryLemmas.{same_text}
use Rattle.tip_rows.proofs.OrderLemmas.{same_key}
use Rattle.tip_txn.specs.Parts.{answered, is_yes}
use Rattle.tip_txn.specs.declared.answer.Ballot.{Ballot}
use Rattle.tip_txn.specs.declared.answer.Ballot.TheVariants.{Lost, No, ReadOnly, Yes}
use Rattle.tip_txn.specs.declared.answer.Phase.TheVariants as phase
use Rattle.tip_txn.specs.declared.part.Participant.{Participant}
use Rattle.tip_machine.specs.Agreement.{has_acknowledged, is_called, is_done_commit, was_called}
use Rattle.tip_machine.specs.Agreement.Traces.{Moment, shown_in}
use Rattle.tip_machine.specs.Answers.{identifier}
use Rattle.tip_machine.specs.Invariants.Bounds.{is_spelled}
use Rattle.tip_machine.specs.Invariants.Links.{are_distinct}
use Rattle.tip_machine.specs.Invariants.Stored.{is_stored_as}
use Rattle.tip_machine.specs.Moves.{rows_after}
use Rattle.tip_machine.specs.States.{Attempt, Work}
use Rattle.tip_machine.specs.Steps.{chosen, key_changed, wanted}
use Rattle.tip_machine.specs.Transactions.{has_key, has_ready, is_spent, members_at, pair_of, pairs, promised, subordinates, willing_from}
use Rattle.tip_machine.specs.Types.{PartyPlace, Transaction}
use Rattle.tip_machine.specs.declared.event.Change.{Change}
use Rattle.tip_machine.specs.declared.event.Change.TheVariants.{Put, Remove}
use Rattle.tip_machine.specs.declared.event.Outcome.{Outcome}
use Rattle.tip_machine.specs.declared.event.Outcome.TheVariants.{NoChange, Refused, Stored}
use Rattle.tip_machine.specs.declared.transaction.PartyPlace.TheVariants.{Here, Out, Spent}
use Rattle.tip_machine.proofs.Walks.{found_passes}
use Rattle.tip_agreement.proofs.Apart.{all_more}
use Rattle.tip_agreement.proofs.Keys.{key_self, keys_of}
use Rattle.tip_agreement.proofs.Onward.{row_in}
use Rattle.tip_agreement.proofs.Owned.{key_found}
use Rattle.tip_agreement.proofs.Rows.{stored_at}
use Rattle.tip_agreement.proofs.Spelling.{keys_told}
use Rattle.tip_agreement.proofs.Happening.{Doubted, EndsSo, Made}
use Rattle.tip_agreement.proofs.Walking.{Asked, In, Lasts, Leaves, Walks, in_found, is_new, is_unheard}

-- Lists

pub in_append : {T : Type 0} (xs ys : List T) (x : T) → In x (xs ++ ys) → In x xs ⊎ In x ys
in_append [] ys x is = inr is
in_append (y ∷ xs) ys x (inl same) = inl (inl same)
in_append (y ∷ xs) ys x (inr is) = elim (in_append xs ys x is) [ inl first ↦ inl (inr first) | inr second ↦ inr second ]

pub in_option : {T : Type 0} (o : Option T) (x : T) → In x (option_to_list o) → o ≡ Some x
in_option None x is = absurd is
in_option (Some y) x (inl same) = ap Some (sym same)
in_option (Some y) x (inr is) = absurd is

pub in_key : (k : Key) (ts : List Transaction) (t : Transaction) → list_any (is_same k) (keys_of ts) ≡ false → In t ts → is_same k t.key ≡ false
in_key k [] t none is = absurd is
in_key k (u ∷ ts) t none (inl same) = ap (λ (x : Transaction). is_same k x.key) same ∙ (or_parts (is_same k u.key) (list_any (is_same k) (keys_of ts)) none).0
in_key k (u ∷ ts) t none (inr is) = in_key k ts t (or_parts (is_same k u.key) (list_any (is_same k) (keys_of ts)) none).1 is

-- two of one key are one
pub in_apart : (ts : List Transaction) → are_distinct is_same (keys_of ts) ≡ true → (t u : Transaction) → In t ts → In u ts → t.key ≡ u.key → t ≡ u
in_apart [] apart t u this that same = absurd this
in_apart (x ∷ ts) apart t u this that same = step this that (λ a b. in_apart ts parts.1 t u a b same) where
  parts : (not (list_any (is_same x.key) (keys_of ts)) ≡ true) × (are_distinct is_same (keys_of ts) ≡ true)
  parts = and_parts (not (list_any (is_same x.key) (keys_of ts))) (are_distinct is_same (keys_of ts)) apart

  clash : (y z : Transaction) → y ≡ x → In z ts → y.key ≡ z.key → ⊥
  clash y z is there same = both_ways (is_same x.key z.key) (in_key x.key ts z (not-true _ parts.0) there) (subst (λ k. is_same x.key k ≡ true) (sym (ap (λ (v : Transaction). v.key) is) ∙ same) (key_self x.key))

  step : (t ≡ x) ⊎ In t ts → (u ≡ x) ⊎ In u ts → (In t ts → In u ts → t ≡ u) → t ≡ u
  step (inl a) (inl b) later = a ∙ sym b
  step (inl a) (inr b) later = absurd (clash t u a b same)
  step (inr a) (inl b) later = absurd (clash u t b a (sym same))
  step (inr a) (inr b) later = later a b

-- one of a list that all pass passes
pub in_all : {T : Type 0} (p : T → Bool) (xs : List T) (x : T) → list_all p xs ≡ true → In x xs → p x ≡ true
in_all p [] x all is = absurd is
in_all p (y ∷ xs) x all (inl same) = ap p same ∙ (and_parts (p y) (list_all p xs) all).0
in_all p (y ∷ xs) x all (inr is) = in_all p xs x (and_parts (p y) (list_all p xs) all).1 is

-- one of them is found by its key
is_found : (k : Key) (ts : List Transaction) (t : Transaction) → In t ts → k ≡ t.key → find (has_key k) ts ≡ None → ⊥
is_found k [] t is same none = is
is_found k (u ∷ us) t is same none = step (has_key k u) refl is none (λ there later. is_found k us t there same later) where
  step : (b : Bool) → has_key k u ≡ b → (t ≡ u) ⊎ In t us → cond b (Some u) (find (has_key k) us) ≡ None → (In t us → find (has_key k) us ≡ None → ⊥) → ⊥
  step true here is none later = none-some u (sym none)
  step false differs (inl at) none later = both_ways (has_key k u) differs (subst (λ l. is_same k l ≡ true) (same ∙ ap (λ (x : Transaction). x.key) at) (key_self k))
  step false differs (inr is) none later = later is none

pub found_in : (ts : List Transaction) (t : Transaction) → are_distinct is_same (keys_of ts) ≡ true → In t ts → find (has_key t.key) ts ≡ Some t
found_in ts t apart there = step (find (has_key t.key) ts) refl where
  step : (found : Option Transaction) → find (has_key t.key) ts ≡ found → find (has_key t.key) ts ≡ Some t
  step None is = absurd (is_found t.key ts t there refl is)
  step (Some u) is = is ∙ ap Some (in_apart ts apart u t (in_found (has_key t.key) ts u is) there (sym (same_key t.key u.key (found_passes (has_key t.key) ts u is))))

-- WHAT IS SHOWN by these moments of a start

module _ (realm : List ℕ) (moments : List Moment) where
  -- a part that has acknowledged was heard to
  abbrev pub is_shown : List ℕ → Participant → Bool
  is_shown id part = not part.acknowledged || list_all (λ pair. list_any (has_acknowledged realm id pair) moments) (pair_of part.address part.id)

  abbrev pub AreShown : List Transaction → Type 0
  AreShown ts = (t : Transaction) → In t ts → list_all (is_shown (identifier realm t.key)) t.parts ≡ true

  abbrev pub has_done : List ℕ → ℕ × List ℕ → Bool
  has_done id branch = was_called realm id is_done_commit moments branch

-- one of these members is the branch, and waits to be told
abbrev pub waits_among : List Member → ℕ × List ℕ → Bool
waits_among members branch = list_any (λ member. is_ready member && (member.number == branch.0)) members

module _ (realm : List ℕ) (moments : List Moment) (now : ℕ) where
  abbrev pub is_cared : List ℕ → List Member → ℕ × List ℕ → Bool
  is_cared id members branch = has_done realm moments id branch || waits_among members branch

  -- each of these branches has done what it was told, or waits with the party, wherever that is
  pub record Cares (errands : List PartyNotes) (id : List ℕ) (place : PartyPlace) (branches : List (ℕ × List ℕ)) : Type 0 where
    pub here : (party : PartyNotes) → place ≡ Here party → list_all (is_cared id party.members) branches ≡ true
    pub out : (e : Errand) → place ≡ Out e → (party : PartyNotes) → In party errands → bytes_eq id party.id ≡ true → (party.epoch == now) ≡ true → list_all (is_cared id party.members) branches ≡ true
    pub spent : place ≡ Spent → list_all (is_cared id []) branches ≡ true

  abbrev pub AreCared : List Transaction → List PartyNotes → List (Key × Row) → Type 0
  AreCared ts errands rows = (t : Transaction) → In t ts → (branches : List (ℕ × List ℕ)) (subordinates : List (List ℕ × List ℕ)) → row_at t.key rows ≡ Some (row.Committed branches subordinates) → Cares errands (identifier realm t.key) t.place branches

-- MORE MOMENTS show more

module _ (realm : List ℕ) (moments more : List Moment) where
  done_more : (id : List ℕ) (branch : ℕ × List ℕ) → has_done realm moments id branch ≡ true → has_done realm (moments ++ more) id branch ≡ true
  done_more id branch is =
      let test = is_called realm id is_done_commit branch.0 in
      ap (list_any test) (flat_map-append (λ (m : Moment). m.shown) moments more) ∙ (list_any-append test (shown_in moments) (shown_in more) ∙ or_left (list_any test (shown_in moments)) _ is)

  shown_more : (id : List ℕ) (part : Participant) → is_shown realm moments id part ≡ true → is_shown realm (moments ++ more) id part ≡ true
  shown_more id part is = elim (or_cases (not part.acknowledged) _ is) [
    | inl none ↦ or_left (not part.acknowledged) _ none
    | inr heard ↦ or_right (not part.acknowledged) _ (all_more (λ pair. list_any (has_acknowledged realm id pair) moments) (λ pair. list_any (has_acknowledged realm id pair) (moments ++ more)) (pair_of part.address part.id) (λ pair is. list_any-append (has_acknowledged realm id pair) moments more ∙ or_left _ _ is) heard)
  ]

  pub are_shown_more : (ts : List Transaction) → AreShown realm moments ts → AreShown realm (moments ++ more) ts
  are_shown_more ts shown t there = all_more (is_shown realm moments (identifier realm t.key)) (is_shown realm (moments ++ more) (identifier realm t.key)) t.parts (shown_more (identifier realm t.key)) (shown t there)

  cared_more : (now : ℕ) (id : List ℕ) (members : List Member) (branches : List (ℕ × List ℕ)) → list_all (is_cared realm moments now id members) branches ≡ true → list_all (is_cared realm (moments ++ more) now id members) branches ≡ true
  cared_more now id members branches = all_more (is_cared realm moments now id members) (is_cared realm (moments ++ more) now id members) branches (λ branch is. elim (or_cases (has_done realm moments id branch) (waits_among members branch) is) [
    | inl done ↦ or_left (has_done realm (moments ++ more) id branch) _ (done_more id branch done)
    | inr waits ↦ or_right (has_done realm (moments ++ more) id branch) _ waits
  ])

  pub cares_more : (now : ℕ) (errands : List PartyNotes) (id : List ℕ) (place : PartyPlace) (branches : List (ℕ × List ℕ)) → Cares realm moments now errands id place branches → Cares realm (moments ++ more) now errands id place branches
  cares_more now errands id place branches cares = record {
    here = λ party at. cared_more now id party.members branches (cares.here party at);
    out = λ e at party there named this. cared_more now id party.members branches (cares.out e at party there named this);
    spent = λ at. cared_more now id [] branches (cares.spent at);
  }

-- PARTS that last are shown still, and those that are willing stay so

lasts_shown : (realm : List ℕ) (moments : List Moment) (id : List ℕ) (ps qs : List Participant) → Lasts ps qs → list_all (is_shown realm moments id) ps ≡ true → list_all (is_shown realm moments id) qs ≡ true
lasts_shown realm moments id [] qs new shown = all_more is_new (is_shown realm moments id) qs (λ q is. or_left (not q.acknowledged) _ (and_parts (is_unheard q.answer) (not q.acknowledged) is).1) new
lasts_shown realm moments id (p ∷ ps) [] lasts shown = absurd lasts
lasts_shown realm moments id (p ∷ ps) (q ∷ qs) lasts shown =
    let parts = and_parts (is_shown realm moments id p) (list_all (is_shown realm moments id) ps) shown in
    and_from _ _ (elim lasts.0 [ inl same ↦ ap (is_shown realm moments id) same ∙ parts.0 | inr lost ↦ ap (is_shown realm moments id) lost.1 ∙ parts.0 ]) (lasts_shown realm moments id ps qs lasts.1 parts.1)

unheard_none : (answer : Option Ballot) → is_unheard answer ≡ true → is_yes answer ≡ false
unheard_none None is = refl
unheard_none (Some Lost) is = refl
unheard_none (Some Yes) is = absurd (cc)
unheard_none (Some No) is = absurd (cc)
unheard_none (Some ReadOnly) is = absurd (cc)

none_willing : (start : ℕ) (qs : List Participant) → list_all is_new qs ≡ true → willing_from start qs ≡ []
none_willing start [] new = refl
none_willing start (q ∷ qs) new = let parts = and_parts (is_new q) (list_all is_new qs) new in step (is_yes q.answer) (unheard_none q.answer (and_parts (is_unheard q.answer) (not q.acknowledged) parts.0).0) (none_willing (start + 1) qs parts.1) where
  step : (b : Bool) → b ≡ false → willing_from (start + 1) qs ≡ [] → cond b ((start, q) ∷ willing_from (start + 1) qs) (willing_from (start + 1) qs) ≡ []
  step true is rest = absurd (cc)
  step false is rest = rest

pub lasts_willing : (start : ℕ) (ps qs : List Participant) → Lasts ps qs → willing_from start qs ≡ willing_from start ps
lasts_willing start [] qs new = none_willing start qs new
lasts_willing start (p ∷ ps) [] lasts = absurd lasts
lasts_willing start (p ∷ ps) (q ∷ qs) lasts = step lasts.0 (lasts_willing (start + 1) ps qs lasts.1) where
  step : (q ≡ p) ⊎ ((p.answer ≡ None) × (q ≡ answered Lost p)) → willing_from (start + 1) qs ≡ willing_from (start + 1) ps → willing_from start (q ∷ qs) ≡ willing_from start (p ∷ ps)
  step (inl same) rest = λ i. cond (is_yes (same i).answer) ((start, same i) ∷ rest i) (rest i)
  step (inr lost) rest = (λ i. cond (is_yes (lost.1 i).answer) ((start, lost.1 i) ∷ rest i) (rest i)) ∙ sym (λ i. cond (is_yes (lost.0 i)) ((start, p) ∷ willing_from (start + 1) ps) (willing_from (start + 1) ps))

pub lasts_subordinates : (t u : Transaction) → Lasts t.parts u.parts → subordinates u ≡ subordinates t
lasts_subordinates t u lasts = step t.parts u.parts lasts where
  step : (ps qs : List Participant) → Lasts ps qs → willing_from 1 (drop 1 qs) ≡ willing_from 1 (drop 1 ps)
  step [] [] new = refl
  step [] (q ∷ qs) new = none_willing 1 qs (and_parts (is_new q) (list_all is_new qs) new).1
  step (p ∷ ps) [] lasts = absurd lasts
  step (p ∷ ps) (q ∷ qs) lasts = lasts_willing 1 ps qs lasts.1

-- BRANCHES

-- forgetting calls changes nothing of who waits
waits_forgetting : (members : List Member) (branch : ℕ × List ℕ) → waits_among (map forgetting members) branch ≡ waits_among members branch
waits_forgetting [] branch = refl
waits_forgetting (m ∷ members) branch = ap (λ b. (is_ready m && (m.number == branch.0)) || b) (waits_forgetting members branch)

waits_ready : (members : List Member) (branch : ℕ × List ℕ) → waits_among members branch ≡ true → list_any is_ready members ≡ true
waits_ready [] branch is = is
waits_ready (m ∷ members) branch is = elim (or_cases (is_ready m && (m.number == branch.0)) (waits_among members branch) is) [
  | inl first ↦ or_left (is_ready m) _ (and_parts (is_ready m) (m.number == branch.0) first).0
  | inr rest ↦ or_right (is_ready m) _ (waits_ready members branch rest)
]

-- those that promised wait with the party that is here
promised_wait : (t : Transaction) → list_all (waits_among (members_at t.place)) (promised t) ≡ true
promised_wait t = step t.branches where
  among : ℕ × List ℕ → Bool
  among branch = list_any (λ (member : Member). is_ready member && (member.number == branch.0)) (members_at t.place)

  step : (branches : List (ℕ × List ℕ)) → list_all (waits_among (members_at t.place)) (filter (λ branch. list_any (λ (member : Member). is_ready member && (member.number == branch.0)) (members_at t.place)) branches) ≡ true
  step [] = refl
  step (b ∷ branches) = first (waits_among (members_at t.place) b) refl (step branches) where
    first : (test : Bool) → waits_among (members_at t.place) b ≡ test → list_all (waits_among (members_at t.place)) (filter (waits_among (members_at t.place)) branches) ≡ true → list_all (waits_among (members_at t.place)) (cond test (b ∷ filter (waits_among (members_at t.place)) branches) (filter (waits_among (members_at t.place)) branches)) ≡ true
    first true is rest = and_from _ _ is rest
    first false is rest = rest

-- where none waits with nobody, there are none
none_waits : (q : ℕ × List ℕ → Bool) (branches : List (ℕ × List ℕ)) → list_all (waits_among []) branches ≡ true → list_all q branches ≡ true
none_waits q [] all = refl
none_waits q (b ∷ branches) all = absurd (both_ways false refl (and_parts (waits_among [] b) (list_all (waits_among []) branches) all).0)

module _ (realm : List ℕ) (moments : List Moment) (now : ℕ) where
  abbrev cared : List ℕ → List Member → List (ℕ × List ℕ) → Bool
  cared id members branches = list_all (is_cared realm moments now id members) branches

  -- a party that goes out has the members that it had here
  cared_given : (id : List ℕ) (party : PartyNotes) (e : Errand) (branches : List (ℕ × List ℕ)) → cared id party.members branches ≡ true → cared id (given party e).members branches ≡ true
  cared_given id party e branches = all_more (is_cared realm moments now id party.members) (is_cared realm moments now id (given party e).members) branches (λ b is. ap (λ x. has_done realm moments id b || x) (waits_forgetting party.members b) ∙ is)

  -- one of which none waits has done it all
  cared_idle : (id : List ℕ) (party : PartyNotes) (branches : List (ℕ × List ℕ)) → has_ready party ≡ false → cared id party.members branches ≡ true → cared id [] branches ≡ true
  cared_idle id party branches idle = all_more (is_cared realm moments now id party.members) (is_cared realm moments now id []) branches (λ b is. elim (or_cases (has_done realm moments id b) (waits_among party.members b) is) [
    | inl done ↦ or_left (has_done realm moments id b) _ done
    | inr waits ↦ absurd (both_ways (has_ready party) idle (waits_ready party.members b waits))
  ])

  never_here : (party : PartyNotes) (place : PartyPlace) → place ≡ Here party → (e : Errand) → place ≡ Out e → ⊥
  never_here party place here e out = let wrong : Here party ≡ Out e = sym here ∙ out in cc

  never_spent : (party : PartyNotes) (place : PartyPlace) → place ≡ Here party → place ≡ Spent → ⊥
  never_spent party place here spent = let wrong : Here party ≡ Spent = sym here ∙ spent in cc

  spent_not_out : (e : Errand) (place : PartyPlace) → place ≡ Spent → place ≡ Out e → ⊥
  spent_not_out e place spent out = let wrong : Spent ≡ Out e = sym spent ∙ out in cc

  here_is : (p q : PartyNotes) → Here p ≡ Here q → p ≡ q
  here_is p q same = ap member_party same where
    member_party : PartyPlace → PartyNotes
    member_party (Here party) = party
    member_party (Out e) = p
    member_party Spent = p

  -- A PARTY GOES where its transaction says
  cares_on : (errands : List PartyNotes) (work : Option PartyNotes) (id : List ℕ) (old new : PartyPlace) (branches : List (ℕ × List ℕ)) → Cares realm moments now errands id old branches → Leaves old new →
      ((p : PartyNotes) → old ≡ Here p → (party : PartyNotes) → In party errands → bytes_eq id party.id ≡ true → (party.epoch == now) ≡ true → ⊥) →
      ((party : PartyNotes) → work ≡ Some party → bytes_eq id party.id ≡ true → (p : PartyNotes) × (e : Errand) × (old ≡ Here p) × (party ≡ given p e)) →
      Cares realm moments now (errands ++ option_to_list work) id new branches
  cares_on errands work id old new branches cares leaves free sent = record { here = here leaves; out = out leaves; spent = spent leaves } where
    here : Leaves old new → (party : PartyNotes) → new ≡ Here party → cared id party.members branches ≡ true
    here (inl same) party at = cares.here party (sym same ∙ at)
    here (inr left) party at = absurd (elim left.2 [ inl gone ↦ never_here party new at gone.0 gone.1 | inr spent ↦ never_spent party new at spent.0 ])

    from_here : (p : PartyNotes) (e : Errand) (party : PartyNotes) → old ≡ Here p → party ≡ given p e → cared id party.members branches ≡ true
    from_here p e party at is = subst (λ (q : PartyNotes). cared id q.members branches ≡ true) (sym is) (cared_given id p e branches (cares.here p at))

    out : Leaves old new → (e : Errand) → new ≡ Out e → (party : PartyNotes) → In party (errands ++ option_to_list work) → bytes_eq id party.id ≡ true → (party.epoch == now) ≡ true → cared id party.members branches ≡ true
    out leaves e at party there named this = elim (in_append errands (option_to_list work) party there) [
      | inr new ↦ let from = sent party (in_option work party new) named in from_here from.0 from.1 party from.2 from.3
      | inl was ↦ elim leaves [
        | inl same ↦ cares.out e (sym same ∙ at) party was named this
        | inr left ↦ absurd (free left.0 left.1 party was named this)
      ]
    ]

    spent : Leaves old new → new ≡ Spent → cared id [] branches ≡ true
    spent (inl same) at = cares.spent (sym same ∙ at)
    spent (inr left) at = elim left.2 [
      | inl gone ↦ absurd (spent_not_out gone.0 new at gone.1)
      | inr idle ↦ cared_idle id left.0 branches idle.1 (cares.here left.0 left.1)
    ]

  -- those of which one is here, and waits
  cares_promised : (errands : List PartyNotes) (id : List ℕ) (place : PartyPlace) (branches : List (ℕ × List ℕ)) → list_all (waits_among (members_at place)) branches ≡ true → Cares realm moments now errands id place branches
  cares_promised errands id place branches all = record {
    here = λ party at. all_more (waits_among party.members) (is_cared realm moments now id party.members) branches (λ b is. or_right (has_done realm moments id b) _ is) (subst (λ p. list_all (waits_among (members_at p)) branches ≡ true) at all);
    out = λ e at party there named this. none_waits (is_cared realm moments now id party.members) branches (subst (λ p. list_all (waits_among (members_at p)) branches ≡ true) at all);
    spent = λ at. none_waits (is_cared realm moments now id []) branches (subst (λ p. list_all (waits_among (members_at p)) branches ≡ true) at all);
  }

  -- none of them
  cares_none : (errands : List PartyNotes) (id : List ℕ) (place : PartyPlace) (branches : List (ℕ × List ℕ)) → list_all (waits_among []) branches ≡ true → Cares realm moments now errands id place branches
  cares_none errands id place branches all = record {
    here = λ party at. none_waits (is_cared realm moments now id party.members) branches all;
    out = λ e at party there named this. none_waits (is_cared realm moments now id party.members) branches all;
    spent = λ at. none_waits (is_cared realm moments now id []) branches all;
  }

-- WHAT A RULE BEGINS WITH

pub record Base (realm : List ℕ) (moments : List Moment) (now : ℕ) (w : Work) (errands : List PartyNotes) (rows : List (Key × Row)) : Type 0 where
  pub apart : are_distinct is_same (keys_of w.state.transactions) ≡ true
  pub spelled : list_all (λ (t : Transaction). is_spelled t.key) w.state.transactions ≡ true
  pub own : (t : Transaction) (p : PartyNotes) → In t w.state.transactions → t.place ≡ Here p → p.id ≡ identifier realm t.key
  -- where its party is here, none of it is out
  pub free : (t : Transaction) (p : PartyNotes) → In t w.state.transactions → t.place ≡ Here p → (party : PartyNotes) → In party errands → bytes_eq (identifier realm t.key) party.id ≡ true → (party.epoch == now) ≡ true → ⊥
  pub rising : is_rising rows ≡ true
  pub quiet : w.answer.work ≡ None
  pub shown : AreShown realm moments w.state.transactions
  pub cared : AreCared realm moments now w.state.transactions errands rows
  -- a transaction with a committed row is committed, and the row has its subordinates
  pub pairs_so : (t : Transaction) → In t w.state.transactions → (branches : List (ℕ × List ℕ)) (subs : List (List ℕ × List ℕ)) → row_at t.key rows ≡ Some (row.Committed branches subs) → (subs ≡ pairs t) × (t.phase ≡ phase.Committed)

-- each branch of a row has done what it was told, and each subordinate has acknowledged
pub record Finished (realm : List ℕ) (moments : List Moment) (key : Key) (branches : List (ℕ × List ℕ)) (subs : List (List ℕ × List ℕ)) : Type 0 where
  pub done : list_all (has_done realm moments (identifier realm key)) branches ≡ true
  pub heard : list_all (λ pair. list_any (has_acknowledged realm (identifier realm key) pair) moments) subs ≡ true

module _ (realm : List ℕ) (moments : List Moment) (now : ℕ) (w : Work) (errands : List PartyNotes) (rows : List (Key × Row)) (base : Base realm moments now w errands rows) where
  same_one : (t u : Transaction) → In t w.state.transactions → In u w.state.transactions → t.key ≡ u.key → t ≡ u
  same_one = in_apart w.state.transactions base.apart

  walked_shown : (v : Work) → Walks w v → AreShown realm moments v.state.transactions
  walked_shown v walks u there =
      let was = walks.each u there in
      subst (λ k. list_all (is_shown realm moments (identifier realm k)) u.parts ≡ true) (sym was.key) (lasts_shown realm moments (identifier realm was.before.key) was.before.parts u.parts was.parts (base.shown was.before was.there))

  -- the party that goes out is of the transaction that has its identifier
  pub sent_from : (v : Work) → Walks w v → (t : Transaction) → In t w.state.transactions → (party : PartyNotes) → v.answer.work ≡ Some party → bytes_eq (identifier realm t.key) party.id ≡ true → (p : PartyNotes) × (e : Errand) × (t.place ≡ Here p) × (party ≡ given p e)
  sent_from v walks t there party is named = elim walks.sends [
    | inl same ↦ absurd (none-some party (sym (same ∙ base.quiet) ∙ is))
    | inr sent ↦
        let given_is : party ≡ given sent.party sent.errand = same_Some party (given sent.party sent.errand) (sym is ∙ sent.now) in
        let id : identifier realm t.key ≡ identifier realm sent.transaction.key = same_text (identifier realm t.key) party.id named ∙ (ap (λ (q : PartyNotes). q.id) given_is ∙ base.own sent.transaction sent.party sent.there sent.here) in
        let key = keys_told realm t.key sent.transaction.key (in_all (λ (x : Transaction). is_spelled x.key) w.state.transactions t base.spelled there) (in_all (λ (x : Transaction). is_spelled x.key) w.state.transactions sent.transaction base.spelled sent.there) id in
        let one = same_one t sent.transaction there sent.there key in
        (sent.party, sent.errand, ap (λ (x : Transaction). x.place) one ∙ sent.here, given_is)
  ]

  -- a transaction, as it goes on
  goes_on : (v : Work) → Walks w v → (u : Transaction) → In u v.state.transactions → (branches : List (ℕ × List ℕ)) → ((t : Transaction) → In t w.state.transactions → u.key ≡ t.key → Cares realm moments now errands (identifier realm t.key) t.place branches) → Cares realm moments now (errands ++ option_to_list v.answer.work) (identifier realm u.key) u.place branches
  goes_on v walks u there branches cares =
      let was = walks.each u there in
      subst (λ k. Cares realm moments now (errands ++ option_to_list v.answer.work) (identifier realm k) u.place branches) (sym was.key)
      (cares_on realm moments now errands v.answer.work (identifier realm was.before.key) was.before.place u.place branches (cares was.before was.there was.key) was.place (λ p at. base.free was.before p was.there at) (sent_from v walks was.before was.there))

  walked_cared : (v : Work) → Walks w v → AreCared realm moments now v.state.transactions (errands ++ option_to_list v.answer.work) rows
  walked_cared v walks u there branches subs at = goes_on v walks u there branches (λ t is key. base.cared t is branches subs (ap (λ k. row_at k rows) (sym key) ∙ at))

  -- a row that is put: its branches wait with the party that is here
  asked_cared : (key : Key) (branches : List (ℕ × List ℕ)) (subs : List (List ℕ × List ℕ)) → Asked w (Put key (row.Committed branches subs)) → (t : Transaction) → In t w.state.transactions → key ≡ t.key → Cares realm moments now errands (identifier realm t.key) t.place branches
  asked_cared key branches subs asked t there same =
      let u = asked.transaction in
      let was = asked.walks.each u (in_found (has_key key) asked.middle.state.transactions u asked.found) in
      let one : was.before ≡ t = same_one was.before t was.there there (sym was.key ∙ (sym (key_found key u asked.middle.state asked.found) ∙ same)) in
      let waits : list_all (waits_among (members_at u.place)) branches ≡ true = subst (λ bs. list_all (waits_among (members_at u.place)) bs ≡ true) (sym asked.why) (promised_wait u) in
      by_place t.place u.place (subst (λ (x : Transaction). Leaves x.place u.place) one was.place) waits where
        by_place : (old new : PartyPlace) → Leaves old new → list_all (waits_among (members_at new)) branches ≡ true → Cares realm moments now errands (identifier realm t.key) old branches
        by_place old new (inl same) waits = cares_promised realm moments now errands (identifier realm t.key) old branches (subst (λ p. list_all (waits_among (members_at p)) branches ≡ true) same waits)
        by_place old new (inr left) waits = cares_none realm moments now errands (identifier realm t.key) old branches (elim left.2 [
          | inl gone ↦ subst (λ p. list_all (waits_among (members_at p)) branches ≡ true) gone.1 waits
          | inr spent ↦ subst (λ p. list_all (waits_among (members_at p)) branches ≡ true) spent.0 waits
        ])

  -- A CHANGE
  stored_cared : (change : Change) (v : Work) → Walks w v → Asked w change ⊎ Doubted w change → AreCared realm moments now v.state.transactions (errands ++ option_to_list v.answer.work) (rows_after (Some change) Stored rows)
  stored_cared change v walks why u there branches subs at = by_change change why (sym (stored_at (Some change) u.key rows base.rising) ∙ at) where
    unchanged : row_at u.key rows ≡ Some (row.Committed branches subs) → Cares realm moments now (errands ++ option_to_list v.answer.work) (identifier realm u.key) u.place branches
    unchanged at = walked_cared v walks u there branches subs at

    by_change : (change : Change) → Asked w change ⊎ Doubted w change → row_in (Some change) u.key (row_at u.key rows) ≡ Some (row.Committed branches subs) → Cares realm moments now (errands ++ option_to_list v.answer.work) (identifier realm u.key) u.place branches
    by_change (Remove key) why at = step (is_same key u.key) at where
      step : (b : Bool) → cond b None (row_at u.key rows) ≡ Some (row.Committed branches subs) → Cares realm moments now (errands ++ option_to_list v.answer.work) (identifier realm u.key) u.place branches
      step true at = absurd (none-some _ at)
      step false at = unchanged at
    by_change (Put key (row.Prepared address superior bs ss)) why at = step (is_same key u.key) at where
      step : (b : Bool) → cond b (Some (row.Prepared address superior bs ss)) (row_at u.key rows) ≡ Some (row.Committed branches subs) → Cares realm moments now (errands ++ option_to_list v.answer.work) (identifier realm u.key) u.place branches
      step true at = absurd (let wrong : row.Prepared address superior bs ss ≡ row.Committed branches subs = same_Some _ _ at in cc)
      step false at = unchanged at
    by_change (Put key (row.Committed bs ss)) (inr doubted) at = absurd (let wrong : Put key (row.Committed bs ss) ≡ Remove doubted.transaction.key = doubted.is in cc)
    by_change (Put key (row.Committed bs ss)) (inl asked) at = step (is_same key u.key) refl at where
      branches_in : Row → List (ℕ × List ℕ)
      branches_in (row.Prepared address superior branches subordinates) = branches
      branches_in (row.Committed branches subordinates) = branches

      step : (b : Bool) → is_same key u.key ≡ b → cond b (Some (row.Committed bs ss)) (row_at u.key rows) ≡ Some (row.Committed branches subs) → Cares realm moments now (errands ++ option_to_list v.answer.work) (identifier realm u.key) u.place branches
      step false differ at = unchanged at
      step true same at = goes_on v walks u there branches (λ t is key_is. subst (λ xs. Cares realm moments now errands (identifier realm t.key) t.place xs) (ap branches_in (same_Some _ _ at)) (asked_cared key bs ss asked t is (same_key key u.key same ∙ key_is)))

  -- A NEW TRANSACTION has no committed row
  made_shown : (v : Work) → Made w v → AreShown realm moments v.state.transactions
  made_shown v made u there = elim (in_append w.state.transactions _ u (subst (In u) made.transactions there)) [
    | inl old ↦ base.shown u old
    | inr new ↦ elim new [ inl same ↦ subst (λ (x : Transaction). list_all (is_shown realm moments (identifier realm x.key)) x.parts ≡ true) (sym same) refl | inr none ↦ absurd none ]
  ]

  made_cared : (v : Work) → Made w v → ((u : Transaction) → In u v.state.transactions → is_stored_as u.phase u (row_at u.key rows) ≡ true) → AreCared realm moments now v.state.transactions (errands ++ option_to_list v.answer.work) rows
  made_cared v made stored u there branches subs at = elim (in_append w.state.transactions _ u (subst (In u) made.transactions there)) [
    | inl old ↦ cares_on realm moments now errands v.answer.work (identifier realm u.key) u.place u.place branches (base.cared u old branches subs at) (inl refl) (λ p here. base.free u p old here) (λ party is named. absurd (none-some party (sym (made.work ∙ base.quiet) ∙ is)))
    | inr new ↦ elim new [
      | inl same ↦ absurd (active_row u.phase (ap (λ (x : Transaction). x.phase) same) (subst (λ r. is_stored_as u.phase u r ≡ true) at (stored u there)))
      | inr none ↦ absurd none
    ]
  ] where
    active_row : (f : _) → f ≡ phase.Active → is_stored_as f u (Some (row.Committed branches subs)) ≡ true → ⊥
    active_row f is fits = let wrong : false ≡ true = subst (λ g. is_stored_as g u (Some (row.Committed branches subs)) ≡ true) is fits in cc

  -- ALL IS KEPT
  pub ends_shown : (a : Attempt) (outcome : Outcome) → EndsSo w a → AreShown realm moments (chosen a outcome).state.transactions
  ends_shown (Attempt.Done v) outcome (inl walks) = walked_shown v walks
  ends_shown (Attempt.Done v) outcome (inr made) = made_shown v made
  ends_shown (Attempt.Asks change stored refused) Stored goes = walked_shown stored goes.0
  ends_shown (Attempt.Asks change stored refused) Refused goes = walked_shown refused goes.1
  ends_shown (Attempt.Asks change stored refused) NoChange goes = walked_shown refused goes.1

  pub ends_cared : (a : Attempt) (outcome : Outcome) → EndsSo w a → ((u : Transaction) → In u (chosen a outcome).state.transactions → is_stored_as u.phase u (row_at u.key (rows_after (wanted a) outcome rows)) ≡ true) → AreCared realm moments now (chosen a outcome).state.transactions (errands ++ option_to_list (chosen a outcome).answer.work) (rows_after (wanted a) outcome rows)
  ends_cared (Attempt.Done v) outcome (inl walks) stored = walked_cared v walks
  ends_cared (Attempt.Done v) outcome (inr made) stored = made_cared v made stored
  ends_cared (Attempt.Asks change v refused) Stored goes stored = stored_cared change v goes.0 goes.2
  ends_cared (Attempt.Asks change v refused) Refused goes stored = walked_cared refused goes.1
  ends_cared (Attempt.Asks change v refused) NoChange goes stored = walked_cared refused goes.1

  -- WHAT IS REMOVED has been done by all

  -- who has acknowledged, as is shown
  all_heard : (id : List ℕ) (start : ℕ) (parts : List Participant) → list_all (is_shown realm moments id) parts ≡ true → list_all (λ (s : ℕ × Participant). s.1.acknowledged) (willing_from start parts) ≡ true → list_all (λ pair. list_any (has_acknowledged realm id pair) moments) (flat_map (λ (s : ℕ × Participant). pair_of s.1.address s.1.id) (willing_from start parts)) ≡ true
  all_heard id start [] shown all = refl
  all_heard id start (p ∷ parts) shown all = let both = and_parts (is_shown realm moments id p) (list_all (is_shown realm moments id) parts) shown in step (is_yes p.answer) both.0 all (all_heard id (start + 1) parts both.1) where
    step : (b : Bool) → is_shown realm moments id p ≡ true → list_all (λ (s : ℕ × Participant). s.1.acknowledged) (cond b ((start, p) ∷ willing_from (start + 1) parts) (willing_from (start + 1) parts)) ≡ true → (list_all (λ (s : ℕ × Participant). s.1.acknowledged) (willing_from (start + 1) parts) ≡ true → list_all (λ pair. list_any (has_acknowledged realm id pair) moments) (flat_map (λ (s : ℕ × Participant). pair_of s.1.address s.1.id) (willing_from (start + 1) parts)) ≡ true) → list_all (λ pair. list_any (has_acknowledged realm id pair) moments) (flat_map (λ (s : ℕ × Participant). pair_of s.1.address s.1.id) (cond b ((start, p) ∷ willing_from (start + 1) parts) (willing_from (start + 1) parts))) ≡ true
    step false here all rest = rest all
    step true here all rest =
        let parts_of = and_parts p.acknowledged (list_all (λ (s : ℕ × Participant). s.1.acknowledged) (willing_from (start + 1) parts)) all in
        list_all-append (λ pair. list_any (has_acknowledged realm id pair) moments) (pair_of p.address p.id) (flat_map (λ (s : ℕ × Participant). pair_of s.1.address s.1.id) (willing_from (start + 1) parts)) ∙ and_from _ _ (elim (or_cases (not p.acknowledged) _ here) [
          | inl none ↦ absurd (both_ways p.acknowledged (not-true p.acknowledged none) parts_of.0)
          | inr heard ↦ heard
        ]) (rest parts_of.1)

  only_spent : (place : PartyPlace) → is_spent place ≡ true → place ≡ Spent
  only_spent Spent is = refl
  only_spent (Here party) is = absurd (cc)
  only_spent (Out e) is = absurd (cc)

  asked_done : (key : Key) → Asked w (Remove key) → (branches : List (ℕ × List ℕ)) (subs : List (List ℕ × List ℕ)) → row_at key rows ≡ Some (row.Committed branches subs) → Finished realm moments key branches subs
  asked_done key asked branches subs at =
      let u = asked.transaction in
      let there = in_found (has_key key) asked.middle.state.transactions u asked.found in
      let key_is : key ≡ u.key = key_found key u asked.middle.state asked.found in
      let was = asked.walks.each u there in
      let t = was.before in
      let row_there : row_at t.key rows ≡ Some (row.Committed branches subs) = ap (λ k. row_at k rows) (sym (key_is ∙ was.key)) ∙ at in
      let done = and_parts (is_spent u.place) (list_all (λ (s : ℕ × Participant). s.1.acknowledged) (subordinates u)) asked.why in
      let cares = cares_on realm moments now errands None (identifier realm t.key) t.place u.place branches (base.cared t was.there branches subs row_there) was.place (λ p here. base.free t p was.there here) (λ party is named. absurd (none-some party is)) in
      let all = cares.spent (only_spent u.place done.0) in
      let shown = walked_shown asked.middle asked.walks u there in
      let pairs_are : pairs u ≡ subs = ap (flat_map (λ (s : ℕ × Participant). pair_of s.1.address s.1.id)) (lasts_subordinates t u was.parts) ∙ sym (base.pairs_so t was.there branches subs row_there).0 in
      record {
        done = subst (λ k. list_all (has_done realm moments (identifier realm k)) branches ≡ true) (sym (key_is ∙ was.key)) (all_more (is_cared realm moments now (identifier realm t.key) []) (has_done realm moments (identifier realm t.key)) branches (λ b is. elim (or_cases (has_done realm moments (identifier realm t.key) b) false is) [ inl done ↦ done | inr none ↦ absurd (both_ways false refl none) ]) all);
        heard = subst (λ k. list_all (λ pair. list_any (has_acknowledged realm (identifier realm k) pair) moments) subs ≡ true) (sym key_is) (subst (λ ps. list_all (λ pair. list_any (has_acknowledged realm (identifier realm u.key) pair) moments) ps ≡ true) pairs_are (all_heard (identifier realm u.key) 1 (drop 1 u.parts) (behind u.parts shown) done.1));
      } where
        behind : (parts : List Participant) → list_all (is_shown realm moments (identifier realm asked.transaction.key)) parts ≡ true → list_all (is_shown realm moments (identifier realm asked.transaction.key)) (drop 1 parts) ≡ true
        behind [] all = refl
        behind (p ∷ parts) all = (and_parts (is_shown realm moments (identifier realm asked.transaction.key) p) _ all).1

  pub removed_done : (key : Key) → Asked w (Remove key) ⊎ Doubted w (Remove key) → (branches : List (ℕ × List ℕ)) (subs : List (List ℕ × List ℕ)) → row_at key rows ≡ Some (row.Committed branches subs) → Finished realm moments key branches subs
  removed_done key (inl asked) branches subs at = asked_done key asked branches subs at
  removed_done key (inr doubted) branches subs at = absurd (let wrong : phase.Prepared ≡ phase.Committed = sym doubted.doubt ∙ (base.pairs_so doubted.transaction doubted.there branches subs (ap (λ k. row_at k rows) (ap key_changed (sym doubted.is)) ∙ at)).1 in cc)

  pub removed_spelled : (key : Key) → Asked w (Remove key) ⊎ Doubted w (Remove key) → is_spelled key ≡ true
  removed_spelled key (inl asked) =
      let u = asked.transaction in
      let was = asked.walks.each u (in_found (has_key key) asked.middle.state.transactions u asked.found) in
      subst (λ k. is_spelled k ≡ true) (sym (key_found key u asked.middle.state asked.found ∙ was.key)) (in_all (λ (t : Transaction). is_spelled t.key) w.state.transactions was.before base.spelled was.there)
  removed_spelled key (inr doubted) = subst (λ k. is_spelled k ≡ true) (sym (ap key_changed doubted.is)) (in_all (λ (t : Transaction). is_spelled t.key) w.state.transactions doubted.transaction base.spelled doubted.there)
