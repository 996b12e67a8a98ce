-- The transactions and the connections that a step leaves alone.
use Rattle.std.proofs.Common.{◌≡◌, ◌≢◌, ◌⊎◌, inl, inr, Bool, true, false, ℕ, ◌+◌, List, [], ◌∷◌, ◌++◌, Option, Some, None, cond, refl, ap, arith, sym, ◌∙◌, subst}
use Rattle.std.specs.Prelude.{◌&&◌, ◌==◌, find, is_none, length, map, nat_le, take}
use Rattle.std.specs.List.{flat_map, list_any}
use Rattle.std.specs.Option.{IfSome, option_map_or}
use Rattle.std.proofs.lemmas.Bool.{and_left, or_parts}
use Rattle.std.proofs.lemmas.Bool.Decides.{nat_tests}
use Rattle.std.proofs.lemmas.Option.{same_Some, none-some}
use Rattle.tip_branch.specs.Notes.{PartyNotes}
use Rattle.tip_branch.specs.declared.branch.Badge.{Badge}
use Rattle.std.proofs.lemmas.List.{append-nil, append_assoc}
use Rattle.tip_conn.specs.declared.state.State.{State as ConnectionState}
use Rattle.tip_conn.specs.declared.state.State.TheVariants.{Initial, Idle, Begun, Enlisted, Prepared, Error}
use Rattle.tip_line.specs.declared.command.CommandName.{CommandName}
use Rattle.tip_line.specs.declared.refusal.Refusal.{Refusal}
use Rattle.tip_line.specs.declared.refusal.Refusal.TheVariants.{Frozen, Full, Stranger}
use Rattle.tip_line.specs.declared.response.ResponseName.{ResponseName}
use Rattle.tip_rows.specs.Keys.{Key, is_same}
use Rattle.tip_rows.proofs.OrderLemmas.{same_key}
use Rattle.tip_table.specs.Lists.{changed, without}
use Rattle.tip_machine.specs.Types.{Answer, Connection, Event, PartyPlace, Transaction}
use Rattle.tip_machine.specs.Answers.{key_asked, key_in, key_said, response_name}
use Rattle.tip_machine.specs.Connections.{accepted, awaiting, dialled, has_number, is_on, is_superior_of, advanced}
use Rattle.tip_machine.specs.Transactions.{begun, has_key, next_key, standing_at}
use Rattle.tip_machine.specs.States.{Attempt, State, Work, connection_of, has_place, seated, transaction_of}
use Rattle.tip_machine.specs.Changes.{alter, change, end, refuse, tell}
use Rattle.tip_machine.specs.Commands.{make, making}
use Rattle.tip_machine.specs.Order.{in_turn, ordered, put_in, turn}
use Rattle.tip_machine.specs.Reactions.{Demand, Reacted, Reaction, answers, demanded, demanded_as, demands, react, reacted, reacts, stays, sent_by}
use Rattle.tip_machine.specs.Requests.{added, dial, hand_back, opened, strange}
use Rattle.tip_machine.specs.Steps.{attempt, chosen, entered, frozen, is_for, is_open, step, wanted, wants, AreOf, IsOff, IsOfKey, Names, SendsOne, TellsOfOne, TouchesOne}
use Rattle.tip_machine.specs.declared.answer.Asked.TheVariants as asked
use Rattle.tip_machine.specs.declared.answer.Item.{Item}
use Rattle.tip_machine.specs.declared.answer.Item.TheVariants.{Ask, Close}
use Rattle.tip_machine.specs.declared.answer.Said.{Said}
use Rattle.tip_machine.specs.declared.answer.Sent.{Sent}
use Rattle.tip_machine.specs.declared.connection.Awaited.{Awaited}
use Rattle.tip_machine.specs.declared.connection.Purpose.{Purpose}
use Rattle.tip_machine.specs.declared.connection.Role.{Role}
use Rattle.tip_machine.specs.declared.connection.Role.TheVariants.{Superior, Subordinate}
use Rattle.tip_machine.specs.declared.event.Event.TheVariants.{Open, Dial}
use Rattle.tip_machine.specs.declared.event.Change.{Change}
use Rattle.tip_machine.specs.declared.event.Outcome.{Outcome}
use Rattle.tip_machine.specs.declared.event.Outcome.TheVariants.{NoChange, Stored, Refused}
use Rattle.tip_machine.specs.declared.event.Seat.{Seat}
use Rattle.tip_machine.specs.declared.transaction.Origin.{Origin}
use Rattle.tip_machine.specs.declared.transaction.PartyPlace.TheVariants.{Here, Out, Spent}
use Rattle.tip_machine.proofs.Walks.{Closed, EndsAtOne, Is, IsPlain, either, or_any, seated-number, superior-on}
use Rattle.tip_machine.proofs.Lists.{find-added, find-changed, find-without, none-changed, none-map, none-without}
use Rattle.tip_machine.proofs.RuleWalks.{advanced-number}
use Rattle.tip_machine.proofs.AttemptWalks.{attempt-goes, each_event, is_opening}
use Rattle.tip_machine.proofs.Sending.{Sends, both, closed_by_sends}
use Rattle.tip_machine.proofs.Stepping.{returned-refusal, returned-silent}

-- Keys and numbers

same_turned : (key other : Key) → is_same key other ≡ false → is_same other key ≡ false
same_turned key other differ = grind (arith, nat_tests)

key_apart : (key other at : Key) → at ≡ key → is_same key other ≡ false → is_same other at ≡ false
key_apart key other at is differ = subst (λ p. is_same other p ≡ false) (sym is) (same_turned key other differ)

number_apart : (n other : ℕ) (c : Connection) → other ≢ n → has_number n c ≡ true → has_number other c ≡ false
number_apart n other c differ is = grind (arith, nat_tests)

-- Reactions

-- what holds of a connection, of each that goes on by the table and of each that awaits something, holds of one that reacted
module _ (P : Connection → Type 0) (c : Connection) (same : P c) where
  either-keeps : {T : Type 0} (f : T → Reacted) (o : Option T) → ((x : T) → P (f x).connection) → P (option_map_or f o (stays c)).connection
  either-keeps f None each = same
  either-keeps f (Some x) each = each x

  pub reacted-keeps : (reaction : Reaction) (key : Key) → ((command : CommandName) (response : ResponseName) → P (advanced command response c)) → ((awaited : Awaited) → P (awaiting awaited c)) → P (reacted reaction key c).connection
  reacted-keeps reaction key moves awaits = step (is_on key c) (went c.owed) where
    went : (owed : Option CommandName) → P (reacts reaction key owed c).connection
    went (Some command) = either-keeps (answers command c) (reaction.owed command) (λ said. moves command (response_name said))
    went None = either-keeps (demands key c) (demanded_as reaction c.role c) (λ demand. awaits demand.awaited)

    step : (b : Bool) → P (reacts reaction key c.owed c).connection → P (cond b (reacts reaction key c.owed c) (stays c)).connection
    step true p = p
    step false p = same

pub number-reacted : (key : Key) (reaction : Reaction) (c : Connection) → (reacted reaction key c).connection.number ≡ c.number
number-reacted key reaction c = reacted-keeps (λ d. d.number ≡ c.number) c refl reaction key (λ command response. advanced-number command response c) (λ awaited. refl)

pub stays_off : (b : Bool) (this : Reacted) (c : Connection) → b ≡ false → (cond b this (stays c)).connection ≡ c
stays_off true this c off = absurd (cc)
stays_off false this c off = refl

-- is it of this number, and on the transaction of this key?
abbrev is_there : Key → ℕ → Connection → Bool
is_there key n c = has_number n c && is_on key c

off_first : (test on : Bool) → test && on ≡ false → test ≡ true → on ≡ false
off_first true on off passes = off
off_first false on off passes = absurd (cc)

-- one of the number that is not on the transaction stays
reacted_off : (key : Key) (reaction : Reaction) (n : ℕ) (c : Connection) → is_there key n c ≡ false → has_number n c ≡ true → (reacted reaction key c).connection ≡ c
reacted_off key reaction n c off is = stays_off (is_on key c) (reacts reaction key c.owed c) c (off_first (has_number n c) (is_on key c) off is)

find-cons : (test : Connection → Bool) (b : Bool) (c d : Connection) (xs ys : Option Connection) → test d ≡ b → test c ≡ b → (b ≡ true → d ≡ c) → xs ≡ ys → cond (test d) (Some d) xs ≡ cond (test c) (Some c) ys
find-cons test true c d xs ys e f same rest = rw (e, f) (ap Some (same refl))
find-cons test false c d xs ys e f same rest = rw (e, f) rest

off-after : (b on more : Bool) → more ≡ b → (b ≡ true → on ≡ false) → more && on ≡ false
off-after true on more same off = rw same (off refl)
off-after false on more same off = rw same refl

module _ (key : Key) (reaction : Reaction) (n : ℕ) where
  abbrev become : Connection → Connection
  become c = (reacted reaction key c).connection

  number-become : (c : Connection) → has_number n (become c) ≡ has_number n c
  number-become c = ap (λ m. m == n) (number-reacted key reaction c)

  find-reacted : (cs : List Connection) → list_any (is_there key n) cs ≡ false → find (has_number n) (map become cs) ≡ find (has_number n) cs
  find-reacted [] off = refl
  find-reacted (c ∷ cs) off =
      let parts = or_parts (is_there key n c) (list_any (is_there key n) cs) off in
      find-cons (has_number n) (has_number n c) c (become c) _ _ (number-become c) refl (reacted_off key reaction n c parts.0) (find-reacted cs parts.1)

  become_off : (c : Connection) → is_there key n c ≡ false → is_there key n (become c) ≡ false
  become_off c off =
      off-after (has_number n c) (is_on key (become c)) (has_number n (become c)) (number-become c)
      (λ is. ap (is_on key) (reacted_off key reaction n c off is) ∙ off_first (has_number n c) (is_on key c) off is)

-- The connection of a superior

there_absurd : (key : Key) (n : ℕ) (d : Connection) → n ≡ d.number → is_on key d ≡ true → is_there key n d ≡ false → ⊥
there_absurd key n d same on off = grind (arith, nat_tests, same, on, off)

superior-first : (key : Key) (n : ℕ) (d c : Connection) (rest : Option Connection) (b : Bool) → is_superior_of key d ≡ b → is_there key n d ≡ false → (rest ≡ Some c → n ≢ c.number) → cond b (Some d) rest ≡ Some c → n ≢ c.number
superior-first key n d c rest true superior off later is = λ same. there_absurd key n d (same ∙ ap (λ (c : Connection). c.number) (sym (same_Some d c is))) (superior-on key d.role superior) off
superior-first key n d c rest false superior off later is = later is

superior-other : (key : Key) (n : ℕ) (cs : List Connection) (c : Connection) → list_any (is_there key n) cs ≡ false → find (is_superior_of key) cs ≡ Some c → n ≢ c.number
superior-other key n [] c off is = absurd (none-some c is)
superior-other key n (d ∷ cs) c off is =
    let parts = or_parts (is_there key n d) (list_any (is_there key n) cs) off in
    superior-first key n d c (find (is_superior_of key) cs) (is_superior_of key d) refl parts.0 (superior-other key n cs c parts.1) is

-- Rules

-- connections that the event does not name, and that are off the transaction, stay so and are told nothing
record Leaves (event : Event) (key : Key) (w v : Work) : Type 0 where
  transactions : (other : Key) → is_same key other ≡ false → transaction_of other v.state ≡ transaction_of other w.state
  connections : (n : ℕ) → ¬ Names event n → IsOff key n w.state → (connection_of n v.state ≡ connection_of n w.state) × IsOff key n v.state
  -- what is told
  new : List Sent
  sent : v.answer.sent ≡ w.answer.sent ++ new
  named : AreOf key new
  quiet : (n : ℕ) → ¬ Names event n → IsOff key n w.state → list_any (is_for n) new ≡ false

-- Lines

of_append : (key : Key) (xs ys : List Sent) → AreOf key xs → AreOf key ys → AreOf key (xs ++ ys)
of_append key [] ys these those = those
of_append key (x ∷ xs) ys these those = (these.0, of_append key xs ys these.1 those)

any_append : (n : ℕ) (xs ys : List Sent) → list_any (is_for n) xs ≡ false → list_any (is_for n) ys ≡ false → list_any (is_for n) (xs ++ ys) ≡ false
any_append n [] ys these those = those
any_append n (x ∷ xs) ys these those = let parts = or_parts (is_for n x) (list_any (is_for n) xs) these in rw (parts.0, any_append n xs ys parts.1 those) refl

-- one line on another connection
one_apart : (n other : ℕ) (item : Item) → other ≢ n → list_any (is_for other) (record { connection = n; item = item } ∷ []) ≡ false
one_apart n other item differ = grind (arith, nat_tests)

none_of : (key : Key) (o : Option Key) → o ≡ None → IfSome o (λ named. named ≡ key)
none_of key None is = tt
none_of key (Some k) is = absurd (none-some k (sym is))

some_of : (key : Key) (o : Option Key) → o ≡ Some key → IfSome o (λ named. named ≡ key)
some_of key None is = tt
some_of key (Some k) is = same_Some k key is

abbrev lines_on : Connection → List Item → List Sent
lines_on c items = map (λ item. record { connection = c.number; item = item }) items

lines_apart : (n : ℕ) (c : Connection) (items : List Item) → has_number n c ≡ false → list_any (is_for n) (lines_on c items) ≡ false
lines_apart n c [] differ = refl
lines_apart n c (item ∷ items) differ = rw (differ, lines_apart n c items differ) refl

left_off : (test : Bool) → test && true ≡ false → test ≡ false
left_off true off = absurd (cc)
left_off false off = refl

module _ (reaction : Reaction) (plain : IsPlain reaction) (key : Key) where
  said_of : (command : CommandName) (c : Connection) (o : Option Said) → IfSome o (λ said. key_said said ≡ None) → AreOf key (lines_on c (option_map_or (answers command c) o (stays c)).items)
  said_of command c None is = tt
  said_of command c (Some said) is = (none_of key (key_said said) is, tt)

  asked_of : (c : Connection) (o : Option Demand) → IfSome o (λ demand. key_asked (demand.asked key) ≡ Some key) → AreOf key (lines_on c (option_map_or (demands key c) o (stays c)).items)
  asked_of c None is = tt
  asked_of c (Some demand) is = (some_of key (key_asked (demand.asked key)) is, tt)

  demanded_in : (state : ConnectionState) → IfSome (demanded reaction state) (λ demand. key_asked (demand.asked key) ≡ Some key)
  demanded_in Initial = tt
  demanded_in Idle = tt
  demanded_in Begun = tt
  demanded_in Enlisted = plain.enlisted key
  demanded_in Prepared = plain.prepared key
  demanded_in Error = tt

  demanded_if : (b : Bool) (state : ConnectionState) → IfSome (cond b (demanded reaction state) None) (λ demand. key_asked (demand.asked key) ≡ Some key)
  demanded_if true state = demanded_in state
  demanded_if false state = tt

  demanded_of : (role : Option Role) (c : Connection) → IfSome (demanded_as reaction role c) (λ demand. key_asked (demand.asked key) ≡ Some key)
  demanded_of None c = tt
  demanded_of (Some (Superior other)) c = tt
  demanded_of (Some (Subordinate other part)) c = demanded_if (is_none c.awaited) c.state

  reacts_of : (owed : Option CommandName) (c : Connection) → AreOf key (lines_on c (reacts reaction key owed c).items)
  reacts_of (Some command) c = said_of command c (reaction.owed command) (plain.owed command)
  reacts_of None c = asked_of c (demanded_as reaction c.role c) (demanded_of c.role c)

  reacted_if : (b : Bool) (c : Connection) → AreOf key (lines_on c (cond b (reacts reaction key c.owed c) (stays c)).items)
  reacted_if true c = reacts_of c.owed c
  reacted_if false c = tt

  reacted_of : (cs : List Connection) → AreOf key (flat_map (sent_by reaction key) cs)
  reacted_of [] = tt
  reacted_of (c ∷ cs) = of_append key (sent_by reaction key c) (flat_map (sent_by reaction key) cs) (reacted_if (is_on key c) c) (reacted_of cs)

  quiet_if : (n : ℕ) (b : Bool) (c : Connection) → has_number n c && b ≡ false → list_any (is_for n) (lines_on c (cond b (reacts reaction key c.owed c) (stays c)).items) ≡ false
  quiet_if n true c off = lines_apart n c (reacts reaction key c.owed c).items (left_off (has_number n c) off)
  quiet_if n false c off = refl

  quiet_reacted : (n : ℕ) (cs : List Connection) → list_any (is_there key n) cs ≡ false → list_any (is_for n) (flat_map (sent_by reaction key) cs) ≡ false
  quiet_reacted n [] off = refl
  quiet_reacted n (c ∷ cs) off =
      let parts = or_parts (is_there key n c) (list_any (is_there key n) cs) off in
      any_append n (sent_by reaction key c) (flat_map (sent_by reaction key) cs) (quiet_if n (is_on key c) c parts.0) (quiet_reacted n cs parts.1)

module _ (event : Event) (key : Key) where
  -- where nothing is told
  still : (w v : Work) → v.answer.sent ≡ w.answer.sent → ((other : Key) → is_same key other ≡ false → transaction_of other v.state ≡ transaction_of other w.state) → ((n : ℕ) → ¬ Names event n → IsOff key n w.state → (connection_of n v.state ≡ connection_of n w.state) × IsOff key n v.state) → Leaves event key w v
  still w v same transactions connections = record {
    transactions = transactions;
    connections = connections;
    new = [];
    sent = same ∙ sym (append-nil w.answer.sent);
    named = tt;
    quiet = λ n unnamed off. refl;
  }

  says : (w : Work) (answer : Answer) → answer.sent ≡ w.answer.sent → Leaves event key w (record w { answer = answer })
  says w answer same = still w _ same (λ other differ. refl) (λ n unnamed off. (refl, off))

  goes_on : (a b c : Work) → Leaves event key a b → Leaves event key b c → Leaves event key a c
  goes_on a b c f g = record {
    transactions = λ other differ. g.transactions other differ ∙ f.transactions other differ;
    connections = λ n unnamed off. let first = f.connections n unnamed off in let second = g.connections n unnamed first.1 in (second.0 ∙ first.0, second.1);
    new = f.new ++ g.new;
    sent = g.sent ∙ ap (λ ts. ts ++ g.new) f.sent ∙ append_assoc a.answer.sent f.new g.new;
    named = of_append key f.new g.new f.named g.named;
    quiet = λ n unnamed off. any_append n f.new g.new (f.quiet n unnamed off) (g.quiet n unnamed (f.connections n unnamed off).1);
  }

  altered : (f : Transaction → Transaction) (w : Work) → ((t : Transaction) → (f t).key ≡ t.key) → Leaves event key w (alter key f w)
  altered f w same =
      still w _ refl
      (λ other differ. find-changed (has_key other) (has_key key) f w.state.transactions (λ t is. let at = sym (same_key key t.key is) in (key_apart key other t.key at differ, key_apart key other (f t).key (same t ∙ at) differ)))
      (λ n unnamed off. (refl, off))

  ended : (w : Work) → Leaves event key w (end key w)
  ended w =
      still w _ refl
      (λ other differ. find-without (has_key other) (has_key key) w.state.transactions (λ t is. key_apart key other t.key (sym (same_key key t.key is)) differ))
      (λ n unnamed off. (refl, off))

  added_to : (t : Transaction) (w : Work) → t.key ≡ key → Leaves event key w (record w { state = record w.state { transactions = w.state.transactions ++ t ∷ [] } })
  added_to t w is = still w _ refl (λ other differ. find-added (has_key other) w.state.transactions t (key_apart key other t.key is differ)) (λ n unnamed off. (refl, off))

  unnamed_other : (n other : ℕ) → Names event n → ¬ Names event other → other ≢ n
  unnamed_other n other named unnamed = λ same. unnamed (subst (Names event) (sym same) named)

  changed_at : (n : ℕ) (f : Connection → Connection) (w : Work) → Names event n → ((c : Connection) → (f c).number ≡ c.number) → Leaves event key w (record w { state = record w.state { connections = changed (has_number n) f w.state.connections } })
  changed_at n f w named same =
      still w _ refl (λ other differ. refl)
      (λ other unnamed off.
      let differ = unnamed_other n other named unnamed in
      let apart : (c : Connection) → has_number n c ≡ true → has_number other c ≡ false = λ c is. number_apart n other c differ is in
      let after : (c : Connection) → has_number n c ≡ true → has_number other (f c) ≡ false = λ c is. ap (λ m. m == other) (same c) ∙ apart c is in (
        find-changed (has_number other) (has_number n) f w.state.connections (λ c is. (apart c is, after c is)),
        none-changed (is_there key other) (has_number n) f w.state.connections (λ c is none. and_left (has_number other (f c)) (is_on key (f c)) (after c is)) off,
      ))

  -- taken out: one that others differ from
  taken_out : (n other : ℕ) (cs : List Connection) → other ≢ n → list_any (is_there key other) cs ≡ false → (find (has_number other) (without (has_number n) cs) ≡ find (has_number other) cs) × (list_any (is_there key other) (without (has_number n) cs) ≡ false)
  taken_out n other cs differ off = (find-without (has_number other) (has_number n) cs (λ c is. number_apart n other c differ is), none-without (is_there key other) (has_number n) cs off)

  taken : (n : ℕ) (w : Work) → Names event n → Leaves event key w (record w { state = record w.state { connections = without (has_number n) w.state.connections } })
  taken n w named = still w _ refl (λ other differ. refl) (λ other unnamed off. taken_out n other w.state.connections (unnamed_other n other named unnamed) off)

  displaced : (c : Connection) (w v : Work) → find (is_superior_of key) w.state.connections ≡ Some c → Leaves event key w v → Leaves event key w (record v { state = record v.state { connections = without (has_number c.number) v.state.connections } })
  displaced c w v is leaves = record {
    transactions = leaves.transactions;
    connections = λ other unnamed off.
        let before = leaves.connections other unnamed off in
        let out = taken_out c.number other v.state.connections (superior-other key other w.state.connections c off is) before.1 in
        (out.0 ∙ before.0, out.1);
    new = leaves.new;
    sent = leaves.sent;
    named = leaves.named;
    quiet = leaves.quiet;
  }

  tells_one : (n : ℕ) (item : Item) (w : Work) → Names event n → IfSome (key_in item) (Is key) → Leaves event key w (tell n item w)
  tells_one n item w named of = record {
    transactions = λ other differ. refl;
    connections = λ other unnamed off. (refl, off);
    new = record { connection = n; item = item } ∷ [];
    sent = refl;
    named = (of, tt);
    quiet = λ other unnamed off. one_apart n other item (unnamed_other n other named unnamed);
  }

  dismissed : (c : Connection) (w v : Work) → find (is_superior_of key) w.state.connections ≡ Some c → Leaves event key w v → Leaves event key w (tell c.number Close v)
  dismissed c w v is leaves =
      let closing = record { connection = c.number; item = Close } ∷ [] in
      record {
        transactions = leaves.transactions;
        connections = leaves.connections;
        new = leaves.new ++ closing;
        sent = ap (λ ts. ts ++ closing) leaves.sent ∙ append_assoc w.answer.sent leaves.new closing;
        named = of_append key leaves.new closing leaves.named (tt, tt);
        quiet = λ other unnamed off. any_append other leaves.new closing (leaves.quiet other unnamed off) (one_apart c.number other Close (superior-other key other w.state.connections c off is));
      }

  has_reacted : (reaction : Reaction) → IsPlain reaction → (w : Work) → Leaves event key w (react reaction key w)
  unfolding react
  has_reacted reaction plain w = record {
    transactions = λ other differ. refl;
    connections = λ n unnamed off. (find-reacted key reaction n w.state.connections off, none-map (is_there key n) (λ c. (reacted reaction key c).connection) w.state.connections (become_off key reaction n) off);
    new = flat_map (sent_by reaction key) w.state.connections;
    sent = refl;
    named = reacted_of reaction plain key w.state.connections;
    quiet = λ n unnamed off. quiet_reacted reaction plain key n w.state.connections off;
  }

  has_made : (from : Origin) (c : Connection) (w : Work) → Names event c.number → next_key w.state.head c ≡ key → Leaves event key w (make from c w)
  unfolding make
  has_made from c w named on =
      let next = next_key w.state.head c in
      let branches = length w.state.head.branches in
      let counted = change c.number (making branches next) w in
      goes_on w counted _ (changed_at c.number (making branches next) w named (λ c. refl)) (added_to (begun w.state.head next from (take branches c.boxes)) counted on)

  stands : (at : Key) (place : PartyPlace) (w : Work) → at ≡ key → Leaves event key w (alter at (standing_at place) w)
  stands at place w on = subst (λ p. Leaves event key w (alter p (standing_at place) w)) (sym on) (altered (standing_at place) w (λ t. refl))

  closed_by_leaves : Closed (Leaves event key) (Names event) (Is key)
  closed_by_leaves = record {
    same = λ w. says w w.answer refl;
    then = goes_on;
    tells = tells_one;
    dismisses = λ at c w v on is leaves. dismissed c w v (subst (λ p. find (is_superior_of p) w.state.connections ≡ Some c) on is) leaves;
    gives = λ errand party at w on here. let mid = alter at (standing_at (Out errand)) w in goes_on w mid _ (stands at (Out errand) w on) (says mid _ refl);
    lets = λ party at w on here. let mid = alter at (standing_at Spent) w in goes_on w mid _ (stands at Spent w on) (says mid _ refl);
    returns = λ party t w on has. stands t.key (Here party) w on;
    hands = λ w boxes. says w _ refl;
    alters = λ at f w on same stays. subst (λ p. Leaves event key w (alter p f w)) (sym on) (altered f w same);
    ends = λ at w on. subst (λ p. Leaves event key w (end p w)) (sym on) (ended w);
    makes = λ from c w named on is. has_made from c w named on;
    changes = λ n f w named same made. changed_at n f w named same;
    reacts = λ reaction at w plain on. subst (λ p. Leaves event key w (react reaction p w)) (sym on) (has_reacted reaction plain w);
    takes = taken;
    displaces = λ at c w v on is leaves. displaced c w v (subst (λ p. find (is_superior_of p) w.state.connections ≡ Some c) on is) leaves;
  }

-- Events

abbrev Touches : Event → State → Work → Type 0
Touches event state v = (key : Key) × TouchesOne key event state v.state × TellsOfOne key event state v.answer.sent × SendsOne key state v.answer

nothing : (key : Key) (event : Event) (state : State) → TellsOfOne key event state []
nothing key event state = record { named = tt; quiet = λ n le unnamed off. refl }

-- nobody goes out, and nobody is let go
sends_nobody : (key : Key) (state : State) (answer : Answer) → answer.work ≡ None → ((party : PartyNotes) → answer.refusal ≡ None → answer.spent ≡ Some party → ⊥) → SendsOne key state answer
sends_nobody key state answer none nobody = record { works = λ own party is. absurd (none-some party (sym none ∙ is)); spends = λ own quiet party is. absurd (nobody party quiet is) }

untouched : (event : Event) (old new : State) → new.connections ≡ old.connections → new.transactions ≡ old.transactions → TouchesOne (or_any None) event old new
untouched event old new connections transactions = record {
  transactions = λ other differ. ap (find (has_key other)) transactions;
  connections = λ n le unnamed off. ap (find (has_number n)) connections;
}

refused : (event : Event) (state : State) (why : Refusal) → Touches event state (refuse why (entered state))
refused event state why = (or_any None, untouched event state (entered state).state refl refl, nothing (or_any None) event state, sends_nobody (or_any None) state _ refl (λ party quiet is. none-some party is))

-- boxes are handed back
turned_down : (event : Event) (state : State) (boxes : List Badge) → Touches event state (hand_back boxes (refuse Full (entered state)))
turned_down event state boxes = (or_any None, untouched event state (entered state).state refl refl, nothing (or_any None) event state, sends_nobody (or_any None) state _ refl (λ party quiet is. none-some party is))

stranger : (event : Event) (state : State) (party : PartyNotes) → Touches event state (chosen (strange party (entered state)) NoChange)
stranger event state party = (or_any None, untouched event state (entered state).state refl refl, nothing (or_any None) event state, sends_nobody (or_any None) state _ refl (λ p quiet is. none-some Stranger (sym quiet)))

-- a connection more, with a number that was not given yet
added-touches : (event : Event) (new : ℕ → Connection) (state : State) → ((n : ℕ) → (new n).number ≡ n) → TouchesOne (or_any None) event state (added new (entered state)).state
unfolding added
added-touches event new state numbered = record {
  transactions = λ other differ. refl;
  connections = λ n le unnamed off. let last = numbered (state.head.given + 1) in find-added (has_number n) state.connections (new (state.head.given + 1)) (grind (arith, nat_tests, last, le));
}

opened-touches : (event : Event) (boxes : List Badge) (state : State) → Touches event state (opened boxes (entered state))
unfolding opened added
opened-touches event boxes state = either (Touches event state) (has_place (length boxes) (entered state).state) (added (accepted boxes) (entered state)) _ (or_any None, added-touches event (accepted boxes) state (λ n. refl), nothing (or_any None) event state, sends_nobody (or_any None) state _ refl (λ party quiet is. none-some party is)) (turned_down event state boxes)

-- what we say on it is all that is told
greets : (event : Event) (item : Item) (state : State) → key_in item ≡ None → TellsOfOne (or_any None) event state (record { connection = state.head.given + 1; item = item } ∷ [])
greets event item state none = record {
  named = (none_of (or_any None) (key_in item) none, tt);
  quiet = λ n le unnamed off. one_apart (state.head.given + 1) n item (λ same. omega (arith, le, same));
}

dial-touches : (event : Event) (address : List ℕ) (purpose : Purpose) (boxes : List Badge) (state : State) → Touches event state (dial address purpose boxes (entered state))
unfolding dial added
dial-touches event address purpose boxes state = either (Touches event state) (has_place (length boxes) (entered state).state) _ _ (or_any None, added-touches event (dialled address purpose boxes) state (λ n. refl), greets event (Ask (asked.Identify state.head.address address)) state refl, sends_nobody (or_any None) state _ refl (λ party quiet is. none-some party is)) (turned_down event state boxes)

-- a connection that was found by a seat of the event is one that it names
each : (event : Event) (state : State) (seat : Seat) → Names event seat.number → (found : Option Connection) → seated seat state ≡ found → IfSome found (λ c. Names event c.number)
each event state seat names None is = tt
each event state seat names (Some c) is = subst (Names event) (sym (seated-number seat state c is)) names

-- each rule
abbrev Goes : Event → Key → Work → Work → Type 0
Goes event key w v = Leaves event key w v × Sends key w v

closed : (event : Event) (key : Key) → Closed (Goes event key) (Names event) (Is key)
closed event key = both (Leaves event key) (Sends key) (Names event) (Is key) (closed_by_leaves event key) (closed_by_sends key (Names event))

-- nobody had gone out before
only : {P : Type 0} (party : PartyNotes) → (None ≡ Some party) ⊎ P → P
only party (inl same) = absurd (none-some party same)
only party (inr is) = is

left : (event : Event) (state : State) (key : Key) (v : Work) → Goes event key (entered state) v → Touches event state v
left event state key v goes = (
  key,
  record { transactions = goes.0.transactions; connections = λ n le unnamed off. (goes.0.connections n unnamed off).0 },
  record {
    named = subst (AreOf key) (sym goes.0.sent) goes.0.named;
    quiet = λ n le unnamed off. ap (list_any (is_for n)) goes.0.sent ∙ goes.0.quiet n unnamed off;
  },
  record {
    works = λ own party is. only party (goes.1.works own party is);
    spends = λ own quiet party is. only party (goes.1.spends own party is);
  },
)

-- and what is stored is of the same transaction
abbrev TouchesSo : Event → State → Outcome → Attempt → Type 0
TouchesSo event state outcome a = (touches : Touches event state (chosen a outcome)) × IsOfKey touches.0 (wanted a) outcome

left_so : (event : Event) (state : State) (outcome : Outcome) (a : Attempt) → EndsAtOne (Goes event) (entered state) a → TouchesSo event state outcome a
unfolding left
left_so event state outcome (Attempt.Done v) one = (left event state one.0 v one.1, tt)
left_so event state Stored (Attempt.Asks change stored refused) one = (left event state one.0.0 stored one.0.1, one.1)
left_so event state Refused (Attempt.Asks change stored refused) one = (left event state one.2.0 refused one.2.1, tt)
left_so event state NoChange (Attempt.Asks change stored refused) one = (left event state one.2.0 refused one.2.1, tt)

others : (event : Event) (state : State) (outcome : Outcome) → is_opening event ≡ false → TouchesSo event state outcome (attempt event (entered state))
others event state outcome not =
    attempt-goes (Goes event) (Names event) (closed event) (entered state) (TouchesSo event state outcome) (left_so event state outcome)
    (λ why. (refused event state why, tt)) (λ party. (stranger event state party, tt)) event not
    (λ seat names. each event (entered state).state seat names (seated seat (entered state).state) refl)

attempt-touches : (event : Event) (state : State) (outcome : Outcome) → TouchesSo event state outcome (attempt event (entered state))
attempt-touches event state outcome =
    each_event (λ event. TouchesSo event state outcome (attempt event (entered state)))
    (λ boxes. (opened-touches (Open boxes) boxes state, tt))
    (λ address purpose boxes. (dial-touches (Dial address purpose boxes) address purpose boxes state, tt))
    (λ event not. others event state outcome not)
    event

-- The order of lines

module _ (turn : Sent → ℕ) where
  of_put : (key : Key) (t : Sent) (ts : List Sent) → IfSome (key_in t.item) (λ named. named ≡ key) → AreOf key ts → AreOf key (put_in turn t ts)
  of_put key t [] of all = (of, tt)
  of_put key t (other ∷ ts) of all = step (nat_le (turn t) (turn other)) (of_put key t ts of all.1) where
    step : (b : Bool) → AreOf key (put_in turn t ts) → AreOf key (cond b (t ∷ other ∷ ts) (other ∷ put_in turn t ts))
    step true rest = (of, all)
    step false rest = (all.0, rest)

  of_turn : (key : Key) (ts : List Sent) → AreOf key ts → AreOf key (in_turn turn ts)
  of_turn key [] all = tt
  of_turn key (t ∷ ts) all = of_put key t (in_turn turn ts) all.0 (of_turn key ts all.1)

  any_put : (n : ℕ) (t : Sent) (ts : List Sent) → is_for n t ≡ false → list_any (is_for n) ts ≡ false → list_any (is_for n) (put_in turn t ts) ≡ false
  any_put n t [] first rest = rw first refl
  any_put n t (other ∷ ts) first rest = let parts = or_parts (is_for n other) (list_any (is_for n) ts) rest in step (nat_le (turn t) (turn other)) parts.0 parts.1 (any_put n t ts first parts.1) where
    step : (b : Bool) → is_for n other ≡ false → list_any (is_for n) ts ≡ false → list_any (is_for n) (put_in turn t ts) ≡ false → list_any (is_for n) (cond b (t ∷ other ∷ ts) (other ∷ put_in turn t ts)) ≡ false
    step true one others later = rw (first, one, others) refl
    step false one others later = rw (one, later) refl

  any_turn : (n : ℕ) (ts : List Sent) → list_any (is_for n) ts ≡ false → list_any (is_for n) (in_turn turn ts) ≡ false
  any_turn n [] none = refl
  any_turn n (t ∷ ts) none = let parts = or_parts (is_for n t) (list_any (is_for n) ts) none in any_put n t (in_turn turn ts) parts.0 (any_turn n ts parts.1)

ordered-touches : (event : Event) (state : State) (v : Work) → Touches event state v → Touches event state (ordered state v)
unfolding ordered
ordered-touches event state v touches = (
  touches.0,
  touches.1,
  record {
    named = of_turn (turn state) touches.0 v.answer.sent touches.2.named;
    quiet = λ n le unnamed off. any_turn (turn state) n v.answer.sent (touches.2.quiet n le unnamed off);
  },
  record { works = touches.3.works; spends = touches.3.spends },
)

frozen-touches : (event : Event) (state : State) → Touches event state (frozen event state)
frozen-touches event state = (or_any None, untouched event state state refl refl, subst (TellsOfOne (or_any None) event state) (sym (returned-silent Frozen event).0) (nothing (or_any None) event state), sends_nobody (or_any None) state _ (returned-silent Frozen event).1 (λ party quiet is. none-some Frozen (sym quiet ∙ returned-refusal Frozen event)))

-- what is touched, by the work that is done and the change that is wanted
abbrev TouchesAll : Event → State → Outcome → Work → Option Change → Type 0
TouchesAll event state outcome v change = (key : Key) × TouchesOne key event state v.state × TellsOfOne key event state v.answer.sent × SendsOne key state v.answer × IsOfKey key change outcome

went-touches : (event : Event) (state : State) (outcome : Outcome) (a : Attempt) → TouchesSo event state outcome a → TouchesAll event state outcome (ordered state (chosen a outcome)) (wanted a)
unfolding ordered-touches ordered
went-touches event state outcome a so = let touches = ordered-touches event state (chosen a outcome) so.0 in (so.0.0, touches.1, touches.2, touches.3, so.1)

step-touches : (b : Bool) (event : Event) (state : State) (outcome : Outcome) (a : Attempt) → TouchesSo event state outcome a → TouchesAll event state outcome (cond b (ordered state (chosen a outcome)) (frozen event state)) (cond b (wanted a) None)
step-touches true event state outcome a so = went-touches event state outcome a so
step-touches false event state outcome a so = let touches = frozen-touches event state in (touches.0, touches.1, touches.2, touches.3, tt)

pub touches : (state : State) (event : Event) (outcome : Outcome) →
    (key : Key) × TouchesOne key event state (step state event outcome).state × TellsOfOne key event state (step state event outcome).answer.sent × SendsOne key state (step state event outcome).answer × IsOfKey key (wants state event) outcome
touches state event outcome = step-touches (is_open state) event state outcome (attempt event (entered state)) (attempt-touches event state outcome)
