-- A connection that was opened to ask for a transaction in doubt, case by case, and what goes for any that has a purpose.
use Rattle.std.proofs.Common.{◌≡◌, ◌≤◌, ◌<◌, Bool, true, false, cond, ℕ, List, [], ◌∷◌, Option, Some, None, refl, ap, arith, sym, subst, ◌∙◌}
use Rattle.std.specs.Prelude.{◌&&◌, find, nat_le, option_map}
use Rattle.std.specs.Option.{option_and_then, option_map_or}
use Rattle.std.proofs.lemmas.Bool.Decides.{nat_tests}
use Rattle.std.proofs.lemmas.Option.{none-some, same_Some}
use Rattle.tip_conn.specs.Table.{next_of}
use Rattle.tip_conn.specs.declared.state.State.{State as ConnectionState}
use Rattle.tip_conn.specs.declared.state.Turn.{Turn}
use Rattle.tip_line.specs.declared.command.CommandName.TheVariants as command
use Rattle.tip_line.specs.declared.response.ResponseName.TheVariants as names
use Rattle.tip_rows.specs.Keys.{Key}
use Rattle.tip_table.specs.Lists.{changed}
use Rattle.tip_machine.proofs.RuleWalks.{advanced-number}
use Rattle.tip_machine.proofs.Walks.{found-number}
use Rattle.tip_machine.specs.Changes.{change, send}
use Rattle.tip_machine.specs.Connections.{advanced, advanced_to, has_number}
use Rattle.tip_machine.specs.Failing.{closed, wrong}
use Rattle.tip_machine.specs.Responses.{ask_superior, go_on, greeted, is_in_doubt, query_for}
use Rattle.tip_machine.specs.States.{State, Work, connection_of, identified_by, transaction_of}
use Rattle.tip_machine.specs.Transactions.{is_decided_at}
use Rattle.tip_machine.specs.Types.{Connection, Transaction}
use Rattle.tip_machine.specs.declared.answer.Asked.TheVariants as asked
use Rattle.tip_machine.specs.declared.connection.Awaited.{Awaited}
use Rattle.tip_machine.specs.declared.connection.Awaited.TheVariants as awaited
use Rattle.tip_machine.specs.declared.connection.Purpose.TheVariants as purposes
use Rattle.tip_machine.specs.declared.connection.Role.{Role}
use Rattle.tip_machine.specs.declared.transaction.Origin.{Origin}
use Rattle.tip_machine.specs.declared.transaction.Origin.TheVariants as origin
use Rattle.tip_rules.proofs.Asking.{closed_alike}
use Rattle.tip_rules.proofs.Dials.{took_words}
use Rattle.tip_rules.proofs.Foreseeing.{by_id}
use Rattle.tip_rules.proofs.Outcomes.{key_is}
use Rattle.tip_rules.proofs.Responses.{goes_on}
use Rattle.tip_rules.proofs.Works.{then}
use Rattle.tip_rules.specs.Makings.{Made}
use Rattle.tip_rules.specs.Pursuing.{asked_for, key_of, superior_in, superior_of, word_at, word_for}
use Rattle.tip_rules.specs.Works.{Does, Held, work_of}
use Rattle.tip_outlook.specs.declared.noting.Note.TheVariants as note

-- What it says

pub no_superior : (held : Held) (id : List ℕ) → identified_by id (work_of held).state ≡ None → None ≡ superior_of (identified_by id (work_of held).state)
no_superior held id none = sym (ap superior_of none)

pub superior_there : (held : Held) (id : List ℕ) (key : Key) (t : Transaction) → identified_by id (work_of held).state ≡ transaction_of key (work_of held).state → transaction_of key (work_of held).state ≡ Some t → (word : Option (List ℕ)) → word ≡ superior_in t.origin → word ≡ superior_of (identified_by id (work_of held).state)
superior_there held id key t same found word is = is ∙ sym (ap superior_of (same ∙ found))

pub ruleset superior_wording = (no_superior, superior_there)

-- What asking hangs on

ask_alike : (from : Origin) (key : Key) (e f : Connection) (w : Work) → f.number ≡ e.number → f.boxes ≡ e.boxes → f.role ≡ e.role → ask_superior from key f w ≡ ask_superior from key e w
ask_alike origin.Root key e f w number boxes role = closed_alike e f w number boxes role
ask_alike (origin.Subordinate address superior) key e f w number boxes role = ap (λ n. send n (awaited.Query key) (asked.Query superior) w) number

query_alike : (found : Option Transaction) (e f : Connection) (w : Work) → f.number ≡ e.number → f.boxes ≡ e.boxes → f.role ≡ e.role → f.peer ≡ e.peer → query_for found f w ≡ query_for found e w
query_alike None e f w number boxes role peer = closed_alike e f w number boxes role
query_alike (Some t) e f w number boxes role peer =
    ap (λ p. cond (is_in_doubt w.state t && is_decided_at p t.origin) (ask_superior t.origin t.key f w) (closed f w)) peer
    ∙ ap (λ v. cond (is_in_doubt w.state t && is_decided_at e.peer t.origin) v (closed f w)) (ask_alike t.origin t.key e f w number boxes role)
    ∙ ap (λ v. cond (is_in_doubt w.state t && is_decided_at e.peer t.origin) (ask_superior t.origin t.key e w) v) (closed_alike e f w number boxes role)

found_changed_number : (number : ℕ) (f : Connection → Connection) (keeps : (c : Connection) → (f c).number ≡ c.number) (cs : List Connection) (c : Connection) → find (has_number number) cs ≡ Some c → find (has_number number) (changed (has_number number) f cs) ≡ Some (f c)
found_changed_number number f keeps [] c is = absurd (none-some c is)
found_changed_number number f keeps (x ∷ xs) c is = step (has_number number x) refl is (found_changed_number number f keeps xs c) where
  step : (this : Bool) → has_number number x ≡ this → cond this (Some x) (find (has_number number) xs) ≡ Some c → (find (has_number number) xs ≡ Some c → find (has_number number) (changed (has_number number) f xs) ≡ Some (f c)) →
      find (has_number number) (cond this (f x ∷ xs) (x ∷ changed (has_number number) f xs)) ≡ Some (f c)
  step true so here rest =
      let own : has_number number (f x) ≡ true = grind (arith, nat_tests, keeps x, so) in
      ap (λ b. cond b (Some (f x)) (find (has_number number) xs)) own ∙ ap (λ d. Some (f d)) (same_Some x c here)
  step false so there rest = ap (λ b. cond b (Some x) (find (has_number number) (changed (has_number number) f xs))) so ∙ rest there

record IsKept (e f : Connection) : Type 0 where
  number : f.number ≡ e.number
  boxes : f.boxes ≡ e.boxes
  peer : f.peer ≡ e.peer

kept_to : (to : Option (ConnectionState × Turn)) (c : Connection) → IsKept c (advanced_to to c)
kept_to None c = record { number = refl; boxes = refl; peer = refl }
kept_to (Some place) c = record { number = refl; boxes = refl; peer = refl }

-- the transaction of an identifier is that of its key, once the connection has gone on
open_then : (a b : Held) (number : ℕ) (id : List ℕ) (key : Key) (t : Transaction) → work_of b ≡ change number (advanced command.Identify names.Identified) (work_of a) → identified_by id (work_of a).state ≡ Some t → Some key ≡ Some t.key → transaction_of key (work_of b).state ≡ Some t
open_then a b number id key t own is so =
    ap (λ w. transaction_of key w.state) own ∙ ap (λ k. transaction_of k (work_of a).state) (same_Some key t.key so) ∙ by_id (work_of a).state.head.name id (work_of a).state.transactions t is

-- Once it has gone on, whatever it is to do about a transaction, if that is open

module _ (rule : Option Transaction → Connection → Work → Work)
    (alike : (found : Option Transaction) (e f : Connection) (w : Work) → f.number ≡ e.number → f.boxes ≡ e.boxes → f.role ≡ e.role → f.peer ≡ e.peer → rule found f w ≡ rule found e w)
    (ends : (e : Connection) (w : Work) → rule None e w ≡ closed e w)
    (a b d : Held) (number : ℕ) (c : Connection) (id : List ℕ) (found : connection_of number (work_of a).state ≡ Some c) (first : Does a b (change number (advanced command.Identify names.Identified) (work_of a))) where
  abbrev later : Connection
  later = advanced command.Identify names.Identified c

  there : connection_of number (work_of b).state ≡ Some later
  there = ap (λ w. connection_of number w.state) first.own ∙ found_changed_number number (advanced command.Identify names.Identified) (advanced-number command.Identify names.Identified) (work_of a).state.connections c found

  kept : IsKept c later
  kept = kept_to (next_of command.Identify c.state names.Identified) c

  -- what it comes to of the connection as it was
  pursues_so : (o : Option Transaction) → identified_by id (work_of a).state ≡ o → (role : Option Role) → role ≡ c.role → Does b d (rule o (record later { role = role }) (work_of b)) → Does a d (rule (identified_by id (work_of a).state) c (go_on command.Identify names.Identified c (work_of a)))
  pursues_so o is role on does =
      subst (λ p. Does a d (rule p c (go_on command.Identify names.Identified c (work_of a)))) (sym is)
      (subst (Does a d) (alike o c (record later { role = role }) (go_on command.Identify names.Identified c (work_of a)) kept.number kept.boxes on kept.peer)
      (then a b d (rule o (record later { role = role })) _ (goes_on a b number command.Identify names.Identified note.Nothing c found first) does))

  pub pursues_nobody : (role : Option Role) → role ≡ c.role → None ≡ option_map (λ t. t.key) (identified_by id (work_of a).state) → ((e : Connection) → connection_of number (work_of b).state ≡ Some e → Does b d (closed (record e { role = role }) (work_of b))) → Does a d (rule (identified_by id (work_of a).state) c (go_on command.Identify names.Identified c (work_of a)))
  pursues_nobody role on none does = step (identified_by id (work_of a).state) refl none where
    step : (o : Option Transaction) → identified_by id (work_of a).state ≡ o → None ≡ option_map (λ (t : Transaction). t.key) o → Does a d (rule (identified_by id (work_of a).state) c (go_on command.Identify names.Identified c (work_of a)))
    step None is so = pursues_so None is role on (subst (Does b d) (sym (ends (record later { role = role }) (work_of b))) (does later there))
    step (Some t) is so = absurd (none-some t.key so)

  pub pursues_one : (role : Option Role) (key : Key) → role ≡ c.role → Some key ≡ option_map (λ t. t.key) (identified_by id (work_of a).state) → ((e : Connection) → connection_of number (work_of b).state ≡ Some e → Does b d (rule (transaction_of key (work_of b).state) (record e { role = role }) (work_of b))) → Does a d (rule (identified_by id (work_of a).state) c (go_on command.Identify names.Identified c (work_of a)))
  pursues_one role key on some does = step (identified_by id (work_of a).state) refl some where
    step : (o : Option Transaction) → identified_by id (work_of a).state ≡ o → Some key ≡ option_map (λ (t : Transaction). t.key) o → Does a d (rule (identified_by id (work_of a).state) c (go_on command.Identify names.Identified c (work_of a)))
    step None is so = absurd (none-some key (sym so))
    step (Some t) is so = pursues_so (Some t) is role on (subst (λ o. Does b d (rule o (record later { role = role }) (work_of b))) (open_then a b number id key t first.own is so) (does later there))

module _ (a b d : Held) (number : ℕ) (c : Connection) (id : List ℕ) (found : connection_of number (work_of a).state ≡ Some c) (first : Does a b (change number (advanced command.Identify names.Identified) (work_of a))) where
  pub asks_nobody : (role : Option Role) → role ≡ c.role → None ≡ option_map (λ t. t.key) (identified_by id (work_of a).state) → ((e : Connection) → connection_of number (work_of b).state ≡ Some e → Does b d (closed (record e { role = role }) (work_of b))) → Does a d (query_for (identified_by id (work_of a).state) c (go_on command.Identify names.Identified c (work_of a)))
  asks_nobody = pursues_nobody query_for query_alike (λ e w. refl) a b d number c id found first

  pub asks_one : (role : Option Role) (key : Key) → role ≡ c.role → Some key ≡ option_map (λ t. t.key) (identified_by id (work_of a).state) → ((e : Connection) → connection_of number (work_of b).state ≡ Some e → Does b d (query_for (transaction_of key (work_of b).state) (record e { role = role }) (work_of b))) → Does a d (query_for (identified_by id (work_of a).state) c (go_on command.Identify names.Identified c (work_of a)))
  asks_one = pursues_one query_for query_alike (λ e w. refl) a b d number c id found first

-- the word is that of the transaction of the key
worded_to_ask : (state : State) (a : Option Awaited) (id : List ℕ) → asked_for a ≡ Some id → word_for a state ≡ superior_of (identified_by id state)
worded_to_ask state None id is = absurd (none-some id is)
worded_to_ask state (Some (awaited.Identify purposes.Plain)) id is = absurd (none-some id is)
worded_to_ask state (Some (awaited.Identify (purposes.Query other))) id is = ap (λ i. superior_of (identified_by i state)) (same_Some other id is)
worded_to_ask state (Some (awaited.Identify (purposes.Reconnect other place))) id is = absurd (none-some id is)
worded_to_ask state (Some awaited.Push) id is = absurd (none-some id is)
worded_to_ask state (Some awaited.Pull) id is = absurd (none-some id is)
worded_to_ask state (Some awaited.Prepare) id is = absurd (none-some id is)
worded_to_ask state (Some awaited.Commit) id is = absurd (none-some id is)
worded_to_ask state (Some awaited.Abort) id is = absurd (none-some id is)
worded_to_ask state (Some (awaited.Query key)) id is = absurd (none-some id is)
worded_to_ask state (Some awaited.Reconnect) id is = absurd (none-some id is)

-- the same of what is said of a transaction, once the connection has gone on
pub said_keyed : (says : Option Transaction → Option (List ℕ)) (a b : Held) (number : ℕ) (id : List ℕ) (key : Key) → Some key ≡ option_map (λ t. t.key) (identified_by id (work_of a).state) → Does a b (change number (advanced command.Identify names.Identified) (work_of a)) → says (identified_by id (work_of a).state) ≡ says (transaction_of key (work_of b).state)
said_keyed says a b number id key some first = step (identified_by id (work_of a).state) refl some where
  step : (o : Option Transaction) → identified_by id (work_of a).state ≡ o → Some key ≡ option_map (λ (t : Transaction). t.key) o → says (identified_by id (work_of a).state) ≡ says (transaction_of key (work_of b).state)
  step None is so = absurd (none-some key (sym so))
  step (Some t) is so = ap says (is ∙ sym (open_then a b number id key t first.own is so))

pub word_keyed : (a b : Held) (number : ℕ) (c : Connection) (key : Key) (word : Option (List ℕ)) → connection_of number (work_of a).state ≡ Some c → Some key ≡ option_and_then (key_of (work_of a).state) (asked_for c.awaited) → Does a b (change number (advanced command.Identify names.Identified) (work_of a)) → word ≡ word_at number (work_of a).state → word ≡ superior_of (transaction_of key (work_of b).state)
word_keyed a b number c key word found some first is =
    is ∙ ap (option_and_then (λ (d : Connection). word_for d.awaited (work_of a).state)) found ∙ by (asked_for c.awaited) refl some where
      by : (asks : Option (List ℕ)) → asked_for c.awaited ≡ asks → Some key ≡ option_and_then (key_of (work_of a).state) asks → word_for c.awaited (work_of a).state ≡ superior_of (transaction_of key (work_of b).state)
      by None at so = absurd (none-some key (sym so))
      by (Some id) at so = worded_to_ask (work_of a).state c.awaited id at ∙ said_keyed superior_of a b number id key so first

-- IDENTIFIED

greets_so : (version : ℕ) (id : List ℕ) (c : Connection) (w : Work) (spoken : Bool) → nat_le 3 version ≡ spoken → greeted version (purposes.Query id) c w ≡ cond spoken (query_for (identified_by id w.state) c (go_on command.Identify names.Identified c w)) (wrong c w)
greets_so version id c w spoken is = ap (λ b. cond b (query_for (identified_by id w.state) c (go_on command.Identify names.Identified c w)) (wrong c w)) is

module _ (a b : Held) (version : ℕ) (id : List ℕ) (c : Connection) where
  pub asks_greeted : 3 ≤ version → Does a b (query_for (identified_by id (work_of a).state) c (go_on command.Identify names.Identified c (work_of a))) → Does a b (greeted version (purposes.Query id) c (work_of a))
  asks_greeted le does = let spoken : nat_le 3 version ≡ true = grind (arith, nat_tests, le) in subst (Does a b) (sym (greets_so version id c (work_of a) true spoken)) does

  pub asks_greeted_not : version < 3 → Does a b (wrong c (work_of a)) → Does a b (greeted version (purposes.Query id) c (work_of a))
  asks_greeted_not less does = let spoken : nat_le 3 version ≡ false = grind (arith, nat_tests, less) in subst (Does a b) (sym (greets_so version id c (work_of a) false spoken)) does

pub ruleset greeting_to_ask = (asks_greeted, asks_greeted_not)

-- Of the transaction of a key

module _ (a b : Held) (number : ℕ) (key : Key) (e : Connection) (role : Option Role) (found : connection_of number (work_of a).state ≡ Some e) where
  about_so : (t : Transaction) (doubt here : Bool) → transaction_of key (work_of a).state ≡ Some t → is_in_doubt (work_of a).state t ≡ doubt → is_decided_at e.peer t.origin ≡ here → Does a b (cond (doubt && here) (ask_superior t.origin t.key (record e { role = role }) (work_of a)) (closed (record e { role = role }) (work_of a))) → Does a b (query_for (transaction_of key (work_of a).state) (record e { role = role }) (work_of a))
  about_so t doubt here open_is is at does = subst (λ o. Does a b (query_for o (record e { role = role }) (work_of a))) (sym open_is)
      (subst (λ x. Does a b (cond (x && is_decided_at e.peer t.origin) (ask_superior t.origin t.key (record e { role = role }) (work_of a)) (closed (record e { role = role }) (work_of a)))) (sym is)
      (subst (λ y. Does a b (cond (doubt && y) (ask_superior t.origin t.key (record e { role = role }) (work_of a)) (closed (record e { role = role }) (work_of a)))) (sym at) does))

  pub asks_about : option_map_or (is_in_doubt (work_of a).state) (transaction_of key (work_of a).state) false ≡ true → option_map_or (λ t. is_decided_at e.peer t.origin) (transaction_of key (work_of a).state) false ≡ true →
      ((f : Connection) (t : Transaction) → connection_of number (work_of a).state ≡ Some f → transaction_of key (work_of a).state ≡ Some t → Does a b (ask_superior t.origin t.key (record f { role = role }) (work_of a))) → Does a b (query_for (transaction_of key (work_of a).state) (record e { role = role }) (work_of a))
  asks_about doubt here does = step (transaction_of key (work_of a).state) refl doubt here where
    step : (o : Option Transaction) → transaction_of key (work_of a).state ≡ o → option_map_or (is_in_doubt (work_of a).state) o false ≡ true → option_map_or (λ (t : Transaction). is_decided_at e.peer t.origin) o false ≡ true → Does a b (query_for (transaction_of key (work_of a).state) (record e { role = role }) (work_of a))
    step None is so at = absurd (cc)
    step (Some t) is so at = about_so t true true is so at (does e t found is)

  pub asks_not : ((f : Connection) → connection_of number (work_of a).state ≡ Some f → Does a b (closed (record f { role = role }) (work_of a))) → (option_map_or (is_in_doubt (work_of a).state) (transaction_of key (work_of a).state) false && option_map_or (λ t. is_decided_at e.peer t.origin) (transaction_of key (work_of a).state) false) ≡ false → Does a b (query_for (transaction_of key (work_of a).state) (record e { role = role }) (work_of a))
  asks_not does not = step (transaction_of key (work_of a).state) refl not where
    closing : (x y : Bool) (t : Transaction) → (x && y) ≡ false → Does a b (cond (x && y) (ask_superior t.origin t.key (record e { role = role }) (work_of a)) (closed (record e { role = role }) (work_of a)))
    closing x y t off = subst (λ z. Does a b (cond z (ask_superior t.origin t.key (record e { role = role }) (work_of a)) (closed (record e { role = role }) (work_of a)))) (sym off) (does e found)

    step : (o : Option Transaction) → transaction_of key (work_of a).state ≡ o → (option_map_or (is_in_doubt (work_of a).state) o false && option_map_or (λ (t : Transaction). is_decided_at e.peer t.origin) o false) ≡ false → Does a b (query_for (transaction_of key (work_of a).state) (record e { role = role }) (work_of a))
    step None is so = subst (λ o. Does a b (query_for o (record e { role = role }) (work_of a))) (sym is) (does e found)
    step (Some t) is so = about_so t (is_in_doubt (work_of a).state t) (is_decided_at e.peer t.origin) is refl refl (closing (is_in_doubt (work_of a).state t) (is_decided_at e.peer t.origin) t so)

  pub asks_undoubted : ((f : Connection) → connection_of number (work_of a).state ≡ Some f → Does a b (closed (record f { role = role }) (work_of a))) → option_map_or (is_in_doubt (work_of a).state) (transaction_of key (work_of a).state) false ≡ false → Does a b (query_for (transaction_of key (work_of a).state) (record e { role = role }) (work_of a))
  asks_undoubted does off = asks_not does (ap (λ x. x && option_map_or (λ (t : Transaction). is_decided_at e.peer t.origin) (transaction_of key (work_of a).state) false) off)

  pub asks_elsewhere : ((f : Connection) → connection_of number (work_of a).state ≡ Some f → Does a b (closed (record f { role = role }) (work_of a))) → option_map_or (is_in_doubt (work_of a).state) (transaction_of key (work_of a).state) false ≡ true → option_map_or (λ t. is_decided_at e.peer t.origin) (transaction_of key (work_of a).state) false ≡ false → Does a b (query_for (transaction_of key (work_of a).state) (record e { role = role }) (work_of a))
  asks_elsewhere does doubt off = asks_not does (ap (λ x. x && option_map_or (λ (t : Transaction). is_decided_at e.peer t.origin) (transaction_of key (work_of a).state) false) doubt ∙ off)

pub ruleset asking_about = (asks_about, asks_undoubted, asks_elsewhere)

-- The question

module _ (a b : Held) (made : Made) (left : made ≡ record a.making { word = None }) (number : ℕ) (key : Key) (e : Connection) (t : Transaction) (role : Option Role) (found : connection_of number (work_of a).state ≡ Some e) (open_is : transaction_of key (work_of a).state ≡ Some t) (own : a.making.word ≡ superior_of (transaction_of key (work_of a).state)) where
  worded : a.making.word ≡ superior_in t.origin
  worded = own ∙ ap superior_of open_is

  pub asks_word : (superior : List ℕ) → Some superior ≡ a.making.word → Does (record a { making = made }) b (send number (awaited.Query key) (asked.Query superior) (work_of (record a { making = made }))) → Does a b (ask_superior t.origin t.key (record e { role = role }) (work_of a))
  asks_word superior some does = step t.origin refl where
    sent : Does a b (send number (awaited.Query key) (asked.Query superior) (work_of a))
    sent = took_words a made a.making.peer a.making.ours None left b (send number (awaited.Query key) (asked.Query superior)) does

    step : (from : Origin) → t.origin ≡ from → Does a b (ask_superior from t.key (record e { role = role }) (work_of a))
    step origin.Root is = absurd (none-some superior (sym (some ∙ worded ∙ ap superior_in is)))
    step (origin.Subordinate address other) is =
        subst (λ n. Does a b (send n (awaited.Query t.key) (asked.Query other) (work_of a))) (sym (found-number number (work_of a).state.connections e found))
        (subst (λ k. Does a b (send number (awaited.Query k) (asked.Query other) (work_of a))) (key_is a key t open_is)
        (subst (λ s. Does a b (send number (awaited.Query key) (asked.Query s) (work_of a))) (same_Some superior other (some ∙ worded ∙ ap superior_in is)) sent))

  pub asks_wordless : None ≡ a.making.word → Does (record a { making = made }) b (closed (record e { role = role }) (work_of (record a { making = made }))) → Does a b (ask_superior t.origin t.key (record e { role = role }) (work_of a))
  asks_wordless none does = step t.origin refl where
    shut : Does a b (closed (record e { role = role }) (work_of a))
    shut = took_words a made a.making.peer a.making.ours None left b (closed (record e { role = role })) does

    step : (from : Origin) → t.origin ≡ from → Does a b (ask_superior from t.key (record e { role = role }) (work_of a))
    step origin.Root is = shut
    step (origin.Subordinate address other) is = absurd (none-some other (none ∙ worded ∙ ap superior_in is))

pub ruleset asking_superior = (asks_word, asks_wordless)
