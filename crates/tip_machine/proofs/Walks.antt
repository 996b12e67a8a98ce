-- What holds of all rules at once: a relation between the work before a rule and after it, that each single change keeps.
use Rattle.std.proofs.Common.{◌≡◌, Bool, true, false, ℕ, List, [], ◌∷◌, Option, Some, None, cond, refl, sym, arith, subst}
use Rattle.std.specs.Prelude.{◌==◌, find, unwrap_or}
use Rattle.std.specs.Option.{IfSome}
use Rattle.std.proofs.lemmas.Bool.Decides.{nat_tests}
use Rattle.std.proofs.lemmas.Option.{same_Some, none-some}
use Rattle.tip_branch.specs.Notes.{PartyNotes}
use Rattle.tip_branch.specs.declared.branch.Badge.{Badge}
use Rattle.tip_rows.specs.Keys.{Key}
use Rattle.tip_rows.proofs.OrderLemmas.{same_key}
use Rattle.tip_table.specs.Lists.{changed, without}
use Rattle.tip_machine.specs.Types.{Connection, Transaction}
use Rattle.tip_machine.specs.Connections.{asks_for, has_number, is_superior_of, key_of, names}
use Rattle.tip_machine.specs.Transactions.{has_id, has_key, next_key, standing_at}
use Rattle.tip_machine.specs.States.{Attempt, State, Work, connection_of, seated, transaction_of}
use Rattle.tip_line.specs.declared.command.CommandName.{CommandName}
use Rattle.tip_machine.specs.Answers.{key_asked, key_in, key_said}
use Rattle.tip_machine.specs.Changes.{alter, attempt_on, change, end, on, tell}
use Rattle.tip_machine.specs.Commands.{make}
use Rattle.tip_machine.specs.Reactions.{Reaction, react}
use Rattle.tip_branch.specs.declared.member.Errand.{Errand}
use Rattle.tip_machine.specs.Proceeding.{give_out, let_go}
use Rattle.tip_machine.specs.declared.transaction.PartyPlace.TheVariants.{Here}
use Rattle.tip_machine.specs.Steps.{chosen, key_changed}
use Rattle.tip_machine.specs.declared.answer.Item.{Item}
use Rattle.tip_machine.specs.declared.answer.Item.TheVariants.{Close}
use Rattle.tip_machine.specs.declared.connection.Role.{Role}
use Rattle.tip_machine.specs.declared.connection.Role.TheVariants.{Superior, Subordinate}
use Rattle.tip_machine.specs.declared.event.Seat.{Seat}
use Rattle.tip_machine.specs.declared.transaction.Origin.{Origin}
use Rattle.tip_machine.specs.declared.event.Outcome.{Outcome}
use Rattle.tip_machine.specs.declared.event.Outcome.TheVariants.{NoChange, Stored, Refused}

-- a reaction says nothing of a transaction but what it demands for its own
pub record IsPlain (reaction : Reaction) : Type 0 where
  pub owed : (command : CommandName) → IfSome (reaction.owed command) (λ said. key_said said ≡ None)
  pub enlisted : (key : Key) → IfSome reaction.enlisted (λ demand. key_asked (demand.asked key) ≡ Some key)
  pub prepared : (key : Key) → IfSome reaction.prepared (λ demand. key_asked (demand.asked key) ≡ Some key)

-- a party is here, with the transaction of this key
pub record IsHere (key : Key) (party : PartyNotes) (state : State) : Type 0 where
  pub transaction : Transaction
  pub found : transaction_of key state ≡ Some transaction
  pub place : transaction.place ≡ Here party

-- May n: the connection of number n may be changed. On key: the transaction of that key may be, and connections on it
pub record Closed (R : Work → Work → Type 0) (May : ℕ → Type 0) (On : Key → Type 0) : Type 0 where
  pub same : (w : Work) → R w w
  pub then : (a b c : Work) → R a b → R b c → R a c
  pub tells : (n : ℕ) (item : Item) (w : Work) → May n → IfSome (key_in item) On → R w (tell n item w)
  -- the connection of a superior is closed, as it was found before
  pub dismisses : (key : Key) (c : Connection) (w v : Work) → On key → find (is_superior_of key) w.state.connections ≡ Some c → R w v → R w (tell c.number Close v)
  pub gives : (errand : Errand) (party : PartyNotes) (key : Key) (w : Work) → On key → IsHere key party w.state → R w (give_out errand party key w)
  pub lets : (party : PartyNotes) (key : Key) (w : Work) → On key → IsHere key party w.state → R w (let_go party key w)
  -- a party comes back to the transaction that it names
  pub returns : (party : PartyNotes) (t : Transaction) (w : Work) → On t.key → has_id w.state.head.name party.id t ≡ true → R w (alter t.key (standing_at (Here party)) w)
  pub hands : (w : Work) (boxes : Option (List Badge)) → R w (record w { answer = record w.answer { unused = boxes } })
  pub alters : (key : Key) (f : Transaction → Transaction) (w : Work) → On key → ((t : Transaction) → (f t).key ≡ t.key) → ((t : Transaction) → (f t).place ≡ t.place) → R w (alter key f w)
  pub ends : (key : Key) (w : Work) → On key → R w (end key w)
  pub makes : (from : Origin) (c : Connection) (w : Work) → May c.number → On (next_key w.state.head c) → connection_of c.number w.state ≡ Some c → R w (make from c w)
  pub changes : (n : ℕ) (f : Connection → Connection) (w : Work) → May n → ((c : Connection) → (f c).number ≡ c.number) → ((c : Connection) → (f c).made ≡ c.made) → R w (change n f w)
  pub reacts : (reaction : Reaction) (key : Key) (w : Work) → IsPlain reaction → On key → R w (react reaction key w)
  pub takes : (n : ℕ) (w : Work) → May n → R w (record w { state = record w.state { connections = without (has_number n) w.state.connections } })
  -- the connection of a superior is taken out, as it was found before
  pub displaces : (key : Key) (c : Connection) (w v : Work) → On key → find (is_superior_of key) w.state.connections ≡ Some c → R w v → R w (record v { state = record v.state { connections = without (has_number c.number) v.state.connections } })

-- either way
pub either : (P : Work → Type 0) (b : Bool) (this that : Work) → P this → P that → P (cond b this that)
either P true this that e f = e
either P false this that e f = f

-- for each outcome
abbrev pub Ends : (Work → Type 0) → Attempt → Type 0
Ends P (Attempt.Done work) = P work
Ends P (Attempt.Asks change stored refused) = P stored × P refused

-- the same, where the change is of a transaction that may be changed
abbrev pub EndsOn : (Key → Type 0) → (Work → Type 0) → Attempt → Type 0
EndsOn On P (Attempt.Done work) = P work
EndsOn On P (Attempt.Asks change stored refused) = On (key_changed change) × P stored × P refused

pub chosen_ends : (P : Work → Type 0) (attempt : Attempt) (outcome : Outcome) → Ends P attempt → P (chosen attempt outcome)
chosen_ends P (Attempt.Done work) outcome p = p
chosen_ends P (Attempt.Asks change stored refused) Stored p = p.0
chosen_ends P (Attempt.Asks change stored refused) Refused p = p.1
chosen_ends P (Attempt.Asks change stored refused) NoChange p = p.1

pub either_attempt : (P : Attempt → Type 0) (b : Bool) (this that : Attempt) → P this → P that → P (cond b this that)
either_attempt P true this that e f = e
either_attempt P false this that e f = f

pub either_ends : (P : Work → Type 0) (b : Bool) (this that : Attempt) → Ends P this → Ends P that → Ends P (cond b this that)
either_ends P = either_attempt (Ends P)

pub more_on : (On : Key → Type 0) (P Q : Work → Type 0) → ((w : Work) → P w → Q w) → (a : Attempt) → EndsOn On P a → EndsOn On Q a
more_on On P Q goes (Attempt.Done w) p = goes w p
more_on On P Q goes (Attempt.Asks change stored refused) p = (p.0, goes stored p.1, goes refused p.2)

pub more_ends : (P Q : Work → Type 0) → ((w : Work) → P w → Q w) → (a : Attempt) → Ends P a → Ends Q a
more_ends P Q goes (Attempt.Done w) p = goes w p
more_ends P Q goes (Attempt.Asks change stored refused) p = (goes stored p.0, goes refused p.1)

pub on_each : (P : Work → Type 0) (found : Option Transaction) (rule : Transaction → Work → Work) (work : Work) → P work → ((t : Transaction) → found ≡ Some t → P (rule t work)) → P (on found rule work)
on_each P None rule work none some = none
on_each P (Some t) rule work none some = some t refl

pub attempt_on_each : (P : Attempt → Type 0) (found : Option Transaction) (rule : Transaction → Work → Attempt) (work : Work) → P (Attempt.Done work) → ((t : Transaction) → found ≡ Some t → P (rule t work)) → P (attempt_on found rule work)
attempt_on_each P None rule work none some = none
attempt_on_each P (Some t) rule work none some = some t refl

-- Which transaction is touched

-- what is found passes
passes_first : {T : Type 0} (test : T → Bool) (y x : T) (rest : Option T) (b : Bool) → test y ≡ b → (rest ≡ Some x → test x ≡ true) → cond b (Some y) rest ≡ Some x → test x ≡ true
passes_first test y x rest true passes later is = subst (λ z. test z ≡ true) (same_Some y x is) passes
passes_first test y x rest false fails later is = later is

pub found_passes : {T : Type 0} (test : T → Bool) (xs : List T) (x : T) → find test xs ≡ Some x → test x ≡ true
found_passes test [] x is = absurd (none-some x is)
found_passes test (y ∷ ys) x is = passes_first test y x (find test ys) (test y) refl (found_passes test ys x) is

-- a connection that was found has the number
pub found-number : (n : ℕ) (cs : List Connection) (c : Connection) → find (has_number n) cs ≡ Some c → c.number ≡ n
found-number n cs c is = let passes = found_passes (has_number n) cs c is in grind (arith, nat_tests, passes)

seated_in : (b : Bool) (n : ℕ) (cs : List Connection) (c : Connection) → cond b (find (has_number n) cs) None ≡ Some c → find (has_number n) cs ≡ Some c
seated_in true n cs c is = is
seated_in false n cs c is = absurd (none-some c is)

pub seated-number : (seat : Seat) (state : State) (c : Connection) → seated seat state ≡ Some c → c.number ≡ seat.number
seated-number seat state c is = found-number seat.number state.connections c (seated_in (seat.epoch == state.head.epoch) seat.number state.connections c is)

-- a connection that was found by its seat is the one of its number
pub seated_there : (seat : Seat) (state : State) (c : Connection) → seated seat state ≡ Some c → connection_of c.number state ≡ Some c
seated_there seat state c is = subst (λ n. find (has_number n) state.connections ≡ Some c) (sym (seated-number seat state c is)) (seated_in (seat.epoch == state.head.epoch) seat.number state.connections c is)

-- a transaction that was found by its key has it
pub on_found : (On : Key → Type 0) (key : Key) (ts : List Transaction) (t : Transaction) → find (has_key key) ts ≡ Some t → On key → On t.key
on_found On key ts t is on = subst On (same_key key t.key (found_passes (has_key key) ts t is)) on

-- the connection of a superior is on its transaction
pub superior-on : (key : Key) (role : Option Role) → asks_for key role ≡ true → names key role ≡ true
superior-on key None asks = absurd (cc)
superior-on key (Some (Superior other)) asks = asks
superior-on key (Some (Subordinate other part)) asks = absurd (cc)

pub on_asked : (On : Key → Type 0) (key : Key) (role : Option Role) → asks_for key role ≡ true → On key → IfSome (key_of role) On
on_asked On key None asks on = absurd (cc)
on_asked On key (Some (Superior other)) asks on = subst On (same_key key other asks) on
on_asked On key (Some (Subordinate other part)) asks on = absurd (cc)

-- One transaction

abbrev pub Is : Key → Key → Type 0
Is key other = other ≡ key

-- this key, or any where none is touched
abbrev pub or_any : Option Key → Key
or_any found = unwrap_or found (record { epoch = 0; connection = 0; number = 0 })

pub is_or_any : (found : Option Key) → IfSome found (Is (or_any found))
is_or_any None = tt
is_or_any (Some key) = refl

-- of some one key
abbrev pub AtOne : (Key → Work → Work → Type 0) → Work → Work → Type 0
AtOne R w v = (key : Key) × R key w v

-- for each outcome, of some one key, which is that of a change that was stored
abbrev pub EndsAtOne : (Key → Work → Work → Type 0) → Work → Attempt → Type 0
EndsAtOne R w (Attempt.Done v) = AtOne R w v
EndsAtOne R w (Attempt.Asks change stored refused) = (one : AtOne R w stored) × (key_changed change ≡ one.0) × AtOne R w refused

pub at_one : (R : Key → Work → Work → Type 0) (w : Work) (key : Key) (a : Attempt) → EndsOn (Is key) (R key w) a → EndsAtOne R w a
at_one R w key (Attempt.Done v) p = (key, p)
at_one R w key (Attempt.Asks change stored refused) p = ((key, p.1), p.0, (key, p.2))

pub from_one : (R : Key → Work → Work → Type 0) (w : Work) (Q : Work → Type 0) → ((v : Work) → AtOne R w v → Q v) → (a : Attempt) → EndsAtOne R w a → Ends Q a
from_one R w Q goes (Attempt.Done v) one = goes v one
from_one R w Q goes (Attempt.Asks change stored refused) one = (goes stored one.0, goes refused one.2)

-- what was found and is changed is found
pub found_changed : (key : Key) (f : Transaction → Transaction) (ts : List Transaction) (t : Transaction) → find (has_key key) ts ≡ Some t → has_key key (f t) ≡ true → find (has_key key) (changed (has_key key) f ts) ≡ Some (f t)
found_changed key f [] t is same = absurd (none-some t is)
found_changed key f (x ∷ xs) t is same = step (has_key key x) refl (λ later. found_changed key f xs t later same) is where
  step : (b : Bool) → has_key key x ≡ b → (find (has_key key) xs ≡ Some t → find (has_key key) (changed (has_key key) f xs) ≡ Some (f t)) → cond b (Some x) (find (has_key key) xs) ≡ Some t → find (has_key key) (cond b (f x ∷ xs) (x ∷ changed (has_key key) f xs)) ≡ Some (f t)
  step true passes later is = let at = same_Some x t is in rw at (rw same refl)
  step false fails later is = rw fails (later is)

-- the transaction that is found by its key is there by its own
pub there_by_key : (key : Key) (ts : List Transaction) (t : Transaction) → find (has_key key) ts ≡ Some t → find (has_key t.key) ts ≡ Some t
there_by_key key ts t is = subst (λ k. find (has_key k) ts ≡ Some t) (same_key key t.key (found_passes (has_key key) ts t is)) is
