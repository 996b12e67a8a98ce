-- A connection that was opened to reach a subordinate again, case by case.
use Rattle.std.proofs.Common.{◌≡◌, ◌≤◌, ◌<◌, Bool, true, false, cond, ℕ, List, Option, Some, None, refl, ap, arith, sym, subst, ◌∙◌}
use Rattle.std.specs.Prelude.{nat_le, option_map}
use Rattle.std.specs.Option.{option_and_then}
use Rattle.std.proofs.lemmas.Bool.Decides.{nat_tests}
use Rattle.std.proofs.lemmas.Option.{none-some, same_Some}
use Rattle.tip_line.specs.declared.command.CommandName.TheVariants as command
use Rattle.tip_line.specs.declared.response.ResponseName.TheVariants as names
use Rattle.tip_rows.specs.Keys.{Key}
use Rattle.tip_txn.specs.declared.part.Participant.{Participant}
use Rattle.tip_machine.proofs.Walks.{found-number}
use Rattle.tip_machine.specs.Changes.{change, send}
use Rattle.tip_machine.specs.Connections.{advanced, taking}
use Rattle.tip_machine.specs.Failing.{closed, wrong}
use Rattle.tip_machine.specs.Responses.{go_on, greeted, is_owed_commit, reach, reach_by, reconnect_for}
use Rattle.tip_machine.specs.States.{State, Work, connection_of, identified_by, transaction_of}
use Rattle.tip_machine.specs.Transactions.{is_committed, subordinate_of}
use Rattle.tip_machine.specs.Types.{Connection, Transaction}
use Rattle.tip_machine.specs.declared.answer.Asked.TheVariants as asked
use Rattle.tip_machine.specs.declared.connection.Awaited.{Awaited}
use Rattle.tip_machine.specs.declared.connection.Awaited.TheVariants as awaited
use Rattle.tip_machine.specs.declared.connection.Purpose.TheVariants as purposes
use Rattle.tip_machine.specs.declared.connection.Role.{Role}
use Rattle.tip_machine.specs.declared.connection.Role.TheVariants.{Subordinate}
use Rattle.tip_rules.proofs.Asking.{closed_alike}
use Rattle.tip_rules.proofs.Dials.{took_words}
use Rattle.tip_rules.proofs.Outcomes.{key_is}
use Rattle.tip_rules.proofs.Purposes.{pursues_nobody, pursues_one, said_keyed}
use Rattle.tip_rules.specs.Makings.{Made}
use Rattle.tip_rules.specs.Pursuing.{aim_at, aim_in, aimed_at, key_of, named_in, named_of, owed_if, owed_in, word_at, word_for}
use Rattle.tip_rules.specs.Works.{Does, Held, work_of}
use Rattle.tip_rules.specs.declared.reaching.Aim.{Aim}

-- What it says

pub no_subordinate : (held : Held) (id : List ℕ) (number : ℕ) → identified_by id (work_of held).state ≡ None → None ≡ named_of number (identified_by id (work_of held).state)
no_subordinate held id number none = sym (ap (named_of number) none)

pub subordinate_there : (held : Held) (id : List ℕ) (number : ℕ) (key : Key) (t : Transaction) → identified_by id (work_of held).state ≡ transaction_of key (work_of held).state → transaction_of key (work_of held).state ≡ Some t → named_in number t ≡ named_of number (identified_by id (work_of held).state)
subordinate_there held id number key t same found = sym (ap (named_of number) (same ∙ found))

pub ruleset subordinate_wording = (no_subordinate, subordinate_there)

pub named_there : (t : Transaction) (number part : ℕ) (p : Participant) → Some (part, p) ≡ subordinate_of number t → p.id ≡ named_in number t
named_there t number part p is = ap (option_and_then (λ (s : ℕ × Participant). s.1.id)) is

pub named_nobody : (t : Transaction) (number : ℕ) → None ≡ subordinate_of number t → None ≡ named_in number t
named_nobody t number is = ap (option_and_then (λ (s : ℕ × Participant). s.1.id)) is

pub ruleset naming = (named_there, named_nobody)

-- What reaching hangs on

by_alike : (id : Option (List ℕ)) (part : ℕ) (key : Key) (e f : Connection) (w : Work) → f.number ≡ e.number → f.boxes ≡ e.boxes → f.role ≡ e.role → reach_by id part key f w ≡ reach_by id part key e w
by_alike None part key e f w number boxes role = closed_alike e f w number boxes role
by_alike (Some id) part key e f w number boxes role = ap (λ n. change n (taking (Subordinate key part)) (send n awaited.Reconnect (asked.Reconnect id) w)) number

reach_alike : (found : Option (ℕ × Participant)) (key : Key) (e f : Connection) (w : Work) → f.number ≡ e.number → f.boxes ≡ e.boxes → f.role ≡ e.role → f.peer ≡ e.peer → reach found key f w ≡ reach found key e w
reach_alike None key e f w number boxes role peer = closed_alike e f w number boxes role
reach_alike (Some s) key e f w number boxes role peer =
    ap (λ p. cond (is_owed_commit p key w.state s) (reach_by s.1.id s.0 key f w) (closed f w)) peer
    ∙ ap (λ v. cond (is_owed_commit e.peer key w.state s) v (closed f w)) (by_alike s.1.id s.0 key e f w number boxes role)
    ∙ ap (λ v. cond (is_owed_commit e.peer key w.state s) (reach_by s.1.id s.0 key e w) v) (closed_alike e f w number boxes role)

reconnect_alike : (place : ℕ) (found : Option Transaction) (e f : Connection) (w : Work) → f.number ≡ e.number → f.boxes ≡ e.boxes → f.role ≡ e.role → f.peer ≡ e.peer → reconnect_for found place f w ≡ reconnect_for found place e w
reconnect_alike place None e f w number boxes role peer = closed_alike e f w number boxes role
reconnect_alike place (Some t) e f w number boxes role peer =
    ap (λ v. cond (is_committed t.phase) v (closed f w)) (reach_alike (subordinate_of place t) t.key e f w number boxes role peer)
    ∙ ap (λ v. cond (is_committed t.phase) (reach (subordinate_of place t) t.key e w) v) (closed_alike e f w number boxes role)

-- Once it has gone on

aimed : (state : State) (id : List ℕ) (place : ℕ) (aim : Aim) → Some aim ≡ aim_in state (id, place) → (Some aim.key ≡ key_of state id) × (aim.subordinate ≡ place)
aimed state id place aim some = step (key_of state id) some where
  step : (o : Option Key) → Some aim ≡ option_map (aim_at place) o → (Some aim.key ≡ o) × (aim.subordinate ≡ place)
  step None is = absurd (none-some aim (sym is))
  step (Some k) is = let same = same_Some aim (aim_at place k) is in (ap (λ (a : Aim). Some a.key) same, ap (λ (a : Aim). a.subordinate) same)

module _ (a b d : Held) (number : ℕ) (c : Connection) (id : List ℕ) (place : ℕ) (found : connection_of number (work_of a).state ≡ Some c) (first : Does a b (change number (advanced command.Identify names.Identified) (work_of a))) where
  pub reaches_nobody : (role : Option Role) → role ≡ c.role → None ≡ aim_in (work_of a).state (id, place) → ((e : Connection) → connection_of number (work_of b).state ≡ Some e → Does b d (closed (record e { role = role }) (work_of b))) → Does a d (reconnect_for (identified_by id (work_of a).state) place c (go_on command.Identify names.Identified c (work_of a)))
  reaches_nobody role on none = pursues_nobody (λ o. reconnect_for o place) (reconnect_alike place) (λ e w. refl) a b d number c id found first role on (by (key_of (work_of a).state id) none) where
    by : (o : Option Key) → None ≡ option_map (aim_at place) o → None ≡ o
    by None is = refl
    by (Some k) is = absurd (none-some (aim_at place k) is)

  pub reaches_one : (role : Option Role) (aim : Aim) → role ≡ c.role → Some aim ≡ aim_in (work_of a).state (id, place) → ((e : Connection) → connection_of number (work_of b).state ≡ Some e → Does b d (reconnect_for (transaction_of aim.key (work_of b).state) aim.subordinate (record e { role = role }) (work_of b))) → Does a d (reconnect_for (identified_by id (work_of a).state) place c (go_on command.Identify names.Identified c (work_of a)))
  reaches_one role aim on some does =
      let found_aim = aimed (work_of a).state id place aim some in
      pursues_one (λ o. reconnect_for o place) (reconnect_alike place) (λ e w. refl) a b d number c id found first role aim.key on found_aim.0
      (λ e there. subst (λ n. Does b d (reconnect_for (transaction_of aim.key (work_of b).state) n (record e { role = role }) (work_of b))) found_aim.1 (does e there))

-- the word is that of the subordinate
worded_to_reach : (state : State) (a : Option Awaited) (id : List ℕ) (place : ℕ) → aimed_at a ≡ Some (id, place) → word_for a state ≡ named_of place (identified_by id state)
worded_to_reach state None id place is = absurd (none-some (id, place) is)
worded_to_reach state (Some (awaited.Identify purposes.Plain)) id place is = absurd (none-some (id, place) is)
worded_to_reach state (Some (awaited.Identify (purposes.Query other))) id place is = absurd (none-some (id, place) is)
worded_to_reach state (Some (awaited.Identify (purposes.Reconnect other at))) id place is = ap (λ (aim : List ℕ × ℕ). named_of aim.1 (identified_by aim.0 state)) (same_Some (other, at) (id, place) is)
worded_to_reach state (Some awaited.Push) id place is = absurd (none-some (id, place) is)
worded_to_reach state (Some awaited.Pull) id place is = absurd (none-some (id, place) is)
worded_to_reach state (Some awaited.Prepare) id place is = absurd (none-some (id, place) is)
worded_to_reach state (Some awaited.Commit) id place is = absurd (none-some (id, place) is)
worded_to_reach state (Some awaited.Abort) id place is = absurd (none-some (id, place) is)
worded_to_reach state (Some (awaited.Query key)) id place is = absurd (none-some (id, place) is)
worded_to_reach state (Some awaited.Reconnect) id place is = absurd (none-some (id, place) is)

pub word_aimed : (a b : Held) (number : ℕ) (c : Connection) (aim : Aim) (word : Option (List ℕ)) → connection_of number (work_of a).state ≡ Some c → Some aim ≡ option_and_then (aim_in (work_of a).state) (aimed_at c.awaited) → Does a b (change number (advanced command.Identify names.Identified) (work_of a)) → word ≡ word_at number (work_of a).state → word ≡ named_of aim.subordinate (transaction_of aim.key (work_of b).state)
word_aimed a b number c aim word found some first is =
    is ∙ ap (option_and_then (λ (d : Connection). word_for d.awaited (work_of a).state)) found ∙ by (aimed_at c.awaited) refl some where
      by : (aims : Option (List ℕ × ℕ)) → aimed_at c.awaited ≡ aims → Some aim ≡ option_and_then (aim_in (work_of a).state) aims → word_for c.awaited (work_of a).state ≡ named_of aim.subordinate (transaction_of aim.key (work_of b).state)
      by None at so = absurd (none-some aim (sym so))
      by (Some (id, place)) at so =
          let found_aim = aimed (work_of a).state id place aim so in
          worded_to_reach (work_of a).state c.awaited id place at ∙ said_keyed (named_of place) a b number id aim.key found_aim.0 first ∙ ap (λ n. named_of n (transaction_of aim.key (work_of b).state)) (sym found_aim.1)

-- the aim that was found
pub aim_none : (state : State) (id : List ℕ) (place : ℕ) → None ≡ key_of state id → None ≡ aim_in state (id, place)
aim_none state id place none = ap (option_map (aim_at place)) none

pub aim_some : (state : State) (id : List ℕ) (place : ℕ) (key : Key) → Some key ≡ key_of state id → Some (aim_at place key) ≡ aim_in state (id, place)
aim_some state id place key some = ap (option_map (aim_at place)) some

pub ruleset aiming = (aim_none, aim_some)

-- IDENTIFIED

greets_so : (version : ℕ) (id : List ℕ) (place : ℕ) (c : Connection) (w : Work) (spoken : Bool) → nat_le 3 version ≡ spoken → greeted version (purposes.Reconnect id place) c w ≡ cond spoken (reconnect_for (identified_by id w.state) place c (go_on command.Identify names.Identified c w)) (wrong c w)
greets_so version id place c w spoken is = ap (λ b. cond b (reconnect_for (identified_by id w.state) place c (go_on command.Identify names.Identified c w)) (wrong c w)) is

module _ (a b : Held) (version : ℕ) (id : List ℕ) (place : ℕ) (c : Connection) where
  pub reaches_greeted : 3 ≤ version → Does a b (reconnect_for (identified_by id (work_of a).state) place c (go_on command.Identify names.Identified c (work_of a))) → Does a b (greeted version (purposes.Reconnect id place) c (work_of a))
  reaches_greeted le does = let spoken : nat_le 3 version ≡ true = grind (arith, nat_tests, le) in subst (Does a b) (sym (greets_so version id place c (work_of a) true spoken)) does

  pub reaches_greeted_not : version < 3 → Does a b (wrong c (work_of a)) → Does a b (greeted version (purposes.Reconnect id place) c (work_of a))
  reaches_greeted_not less does = let spoken : nat_le 3 version ≡ false = grind (arith, nat_tests, less) in subst (Does a b) (sym (greets_so version id place c (work_of a) false spoken)) does

pub ruleset greeting_to_reach = (reaches_greeted, reaches_greeted_not)

-- Whether a subordinate is owed a commit

pub owes_nowhere : (held : Held) (key : Key) (peer : Option (List ℕ)) (number : ℕ) → transaction_of key (work_of held).state ≡ None → None ≡ option_and_then (owed_in peer number (work_of held).state) (transaction_of key (work_of held).state)
owes_nowhere held key peer number none = sym (ap (option_and_then (owed_in peer number (work_of held).state)) none)

module _ (held : Held) (key : Key) (t : Transaction) (open_is : transaction_of key (work_of held).state ≡ Some t) (peer : Option (List ℕ)) (number : ℕ) where
  owes_so : (committed : Bool) → is_committed t.phase ≡ committed → option_and_then (owed_in peer number (work_of held).state) (transaction_of key (work_of held).state) ≡ cond committed (option_and_then (owed_if peer t.key (work_of held).state) (subordinate_of number t)) None
  owes_so committed is =
      ap (option_and_then (owed_in peer number (work_of held).state)) open_is
      ∙ ap (λ b. cond b (option_and_then (owed_if peer t.key (work_of held).state) (subordinate_of number t)) None) is

  owes_one : is_committed t.phase ≡ true → (part : ℕ) (p : Participant) → Some (part, p) ≡ subordinate_of number t → (owed : Bool) → is_owed_commit peer key (work_of held).state (part, p) ≡ owed → cond owed (Some part) None ≡ option_and_then (owed_in peer number (work_of held).state) (transaction_of key (work_of held).state)
  owes_one is part p some owed so =
      ap (λ b. cond b (Some part) None) (sym so)
      ∙ ap (λ k. owed_if peer k (work_of held).state (part, p)) (key_is held key t open_is)
      ∙ ap (option_and_then (owed_if peer t.key (work_of held).state)) some
      ∙ sym (owes_so true is)

-- the same at the other side of a connection
module _ (held : Held) (number : ℕ) (c : Connection) (found : connection_of number (work_of held).state ≡ Some c) (key : Key) (t : Transaction) (open_is : transaction_of key (work_of held).state ≡ Some t) (subordinate : ℕ) (is : is_committed t.phase ≡ true) (part : ℕ) (p : Participant) (some : Some (part, p) ≡ subordinate_of subordinate t) where
  owes_at : (owed : Bool) → owed ≡ is_owed_commit c.peer key (work_of held).state (part, p) → (e : Connection) → connection_of number (work_of held).state ≡ Some e → cond owed (Some part) None ≡ option_and_then (owed_in e.peer subordinate (work_of held).state) (transaction_of key (work_of held).state)
  owes_at owed so e there =
      let same : c ≡ e = same_Some c e (sym found ∙ there) in
      subst (λ (d : Connection). cond owed (Some part) None ≡ option_and_then (owed_in d.peer subordinate (work_of held).state) (transaction_of key (work_of held).state)) same
      (owes_one held key t open_is c.peer subordinate is part p some owed (sym so))

  pub owes_there : true ≡ is_owed_commit c.peer key (work_of held).state (part, p) → (e : Connection) → connection_of number (work_of held).state ≡ Some e → Some part ≡ option_and_then (owed_in e.peer subordinate (work_of held).state) (transaction_of key (work_of held).state)
  owes_there so = owes_at true so

  pub owes_nothing : false ≡ is_owed_commit c.peer key (work_of held).state (part, p) → (e : Connection) → connection_of number (work_of held).state ≡ Some e → None ≡ option_and_then (owed_in e.peer subordinate (work_of held).state) (transaction_of key (work_of held).state)
  owes_nothing so = owes_at false so

pub ruleset owing_part = (owes_nowhere)

-- what comes of the transaction of a key, by the part that is owed a commit
abbrev when_owed : Option ℕ → Option (List ℕ) → Key → Connection → Work → Work
when_owed None id key connection work = closed connection work
when_owed (Some part) id key connection work = reach_by id part key connection work

reconnects_so : (o : Option Transaction) (number : ℕ) (key : Key) (e : Connection) (w : Work) → ((t : Transaction) → o ≡ Some t → key ≡ t.key) → reconnect_for o number e w ≡ when_owed (option_and_then (owed_in e.peer number w.state) o) (named_of number o) key e w
reconnects_so None number key e w own = refl
reconnects_so (Some t) number key e w own = if_committed (is_committed t.phase) ∙ ap (λ k. when_owed (owed_in e.peer number w.state t) (named_in number t) k e w) (sym (own t refl)) where
  if_owed : (s : ℕ × Participant) (owed : Bool) → cond owed (reach_by s.1.id s.0 t.key e w) (closed e w) ≡ when_owed (cond owed (Some s.0) None) s.1.id t.key e w
  if_owed s true = refl
  if_owed s false = refl

  if_there : (o : Option (ℕ × Participant)) → reach o t.key e w ≡ when_owed (option_and_then (owed_if e.peer t.key w.state) o) (option_and_then (λ (s : ℕ × Participant). s.1.id) o) t.key e w
  if_there None = refl
  if_there (Some s) = if_owed s (is_owed_commit e.peer t.key w.state s)

  if_committed : (committed : Bool) → cond committed (reach (subordinate_of number t) t.key e w) (closed e w) ≡ when_owed (cond committed (option_and_then (owed_if e.peer t.key w.state) (subordinate_of number t)) None) (named_in number t) t.key e w
  if_committed true = if_there (subordinate_of number t)
  if_committed false = refl

module _ (a b : Held) (key : Key) (subordinate : ℕ) (e : Connection) (role : Option Role) where
  reaches_so : (owed : Option ℕ) (id : Option (List ℕ)) → owed ≡ option_and_then (owed_in e.peer subordinate (work_of a).state) (transaction_of key (work_of a).state) → id ≡ named_of subordinate (transaction_of key (work_of a).state) → Does a b (when_owed owed id key (record e { role = role }) (work_of a)) → Does a b (reconnect_for (transaction_of key (work_of a).state) subordinate (record e { role = role }) (work_of a))
  reaches_so owed id is word = subst (Does a b) (ap (λ o. when_owed o id key (record e { role = role }) (work_of a)) is
      ∙ ap (λ o. when_owed (option_and_then (owed_in e.peer subordinate (work_of a).state) (transaction_of key (work_of a).state)) o key (record e { role = role }) (work_of a)) word
      ∙ sym (reconnects_so (transaction_of key (work_of a).state) subordinate key (record e { role = role }) (work_of a) (key_is a key)))

  pub reaches_part : (part : ℕ) → Some part ≡ option_and_then (owed_in e.peer subordinate (work_of a).state) (transaction_of key (work_of a).state) → a.making.word ≡ named_of subordinate (transaction_of key (work_of a).state) → Does a b (reach_by a.making.word part key (record e { role = role }) (work_of a)) → Does a b (reconnect_for (transaction_of key (work_of a).state) subordinate (record e { role = role }) (work_of a))
  reaches_part part is word does = reaches_so (Some part) a.making.word is word does

  pub reaches_not : None ≡ option_and_then (owed_in e.peer subordinate (work_of a).state) (transaction_of key (work_of a).state) → Does a b (closed (record e { role = role }) (work_of a)) → Does a b (reconnect_for (transaction_of key (work_of a).state) subordinate (record e { role = role }) (work_of a))
  reaches_not is does = reaches_so None (named_of subordinate (transaction_of key (work_of a).state)) is refl does

-- RECONNECT

module _ (a b : Held) (made : Made) (left : made ≡ record a.making { word = None }) (number part : ℕ) (key : Key) (e : Connection) (role : Option Role) where
  pub reaches_word : connection_of number (work_of a).state ≡ Some e → (id : List ℕ) → Some id ≡ a.making.word → Does (record a { making = made }) b (change number (taking (Subordinate key part)) (send number awaited.Reconnect (asked.Reconnect id) (work_of (record a { making = made })))) → Does a b (reach_by a.making.word part key (record e { role = role }) (work_of a))
  reaches_word found id some does =
      subst (λ w. Does a b (reach_by w part key (record e { role = role }) (work_of a))) some
      (subst (λ n. Does a b (change n (taking (Subordinate key part)) (send n awaited.Reconnect (asked.Reconnect id) (work_of a)))) (sym (found-number number (work_of a).state.connections e found))
      (took_words a made a.making.peer a.making.ours None left b (λ w. change number (taking (Subordinate key part)) (send number awaited.Reconnect (asked.Reconnect id) w)) does))

  pub reaches_wordless : None ≡ a.making.word → Does (record a { making = made }) b (closed (record e { role = role }) (work_of (record a { making = made }))) → Does a b (reach_by a.making.word part key (record e { role = role }) (work_of a))
  reaches_wordless none does =
      subst (λ w. Does a b (reach_by w part key (record e { role = role }) (work_of a))) none
      (took_words a made a.making.peer a.making.ours None left b (closed (record e { role = role })) does)

pub ruleset reaching_part = (reaches_word, reaches_wordless)
