-- What becomes of a realm that gets a connection or a transaction more.
use Rattle.std.proofs.Common.{◌≡◌, ◌≢◌, ◌+◌, Bool, true, false, cond, ℕ, List, [], ◌∷◌, ◌++◌, length, map, refl, ap, sym, subst, ◌∙◌, Option, Some, None, zero, suc}
use Rattle.std.specs.Prelude.{find}
use Rattle.std.proofs.lemmas.Option.{none-some}
use Rattle.tip_branch.specs.declared.branch.Badge.{Badge}
use Rattle.tip_line.specs.declared.refusal.Refusal.TheVariants.{Full, Stale}
use Rattle.tip_table.specs.Kept.{Kept, StandsAt, capacity, of}
use Rattle.tip_table.specs.Lists.{IsFirst}
use Rattle.tip_machine.specs.Changes.{refuse}
use Rattle.tip_machine.specs.Connections.{accepted, has_number}
use Rattle.tip_machine.specs.Failing.{fail}
use Rattle.tip_machine.specs.Requests.{added, hand_back, lost, opened}
use Rattle.tip_machine.specs.States.{Work, connection_of, has_place, seated}
use Rattle.tip_machine.specs.Types.{Connection, seen}
use Rattle.tip_machine.specs.declared.event.Seat.{Seat}
use Rattle.tip_outlook.specs.Searches.{HeldTransaction}
use Rattle.tip_rules.specs.Works.{beginning, counting, Does, Held, joining, realm_of, showing, work_of}
use Rattle.tip_rules.proofs.Works.{then}

-- the first that passes is found
pub first_found : {T : Type 0} (test : T → Bool) (items : List T) (at : ℕ) → IsFirst test items at → find test items ≡ None → ⊥
first_found test [] at first none = first
first_found test (x ∷ xs) zero first none = none-some x (sym none ∙ ap (λ b. cond b (Some x) (find test xs)) first)
first_found test (x ∷ xs) (suc at) first none = first_found test xs at first.1 (sym (ap (λ b. cond b (Some x) (find test xs)) first.0) ∙ none)

-- a connection more
pub joined : (old : Held) (connection : Connection) (connections : Kept Connection) → of connections old.realm ≡ of old.connections old.realm ++ connection ∷ [] → ((other : ℕ) → other ≢ old.realm → of connections other ≡ of old.connections other) → capacity connections ≡ capacity old.connections →
    Does old (record old { connections = connections }) (joining connection (work_of old))
joined old connection connections added others room = record {
  own = ap (λ cs. record (work_of old) { state = record (work_of old).state { connections = cs } }) added;
  others = λ other differ. ap (λ cs. record (realm_of other old) { connections = cs }) (others other differ);
  realm = refl;
  count = refl;
  connections = room;
  transactions = refl;
  lines = refl;
  outcome = refl;
  endings = refl;
}

seen-more : (items : List HeldTransaction) (item : HeldTransaction) → map seen (items ++ item ∷ []) ≡ map seen items ++ seen item ∷ []
seen-more [] item = refl
seen-more (x ∷ xs) item = ap (λ ts. seen x ∷ ts) (seen-more xs item)

-- a transaction more
pub begun_more : (old : Held) (transaction : HeldTransaction) (transactions : Kept HeldTransaction) → of transactions old.realm ≡ of old.transactions old.realm ++ transaction ∷ [] → ((other : ℕ) → other ≢ old.realm → of transactions other ≡ of old.transactions other) → capacity transactions ≡ capacity old.transactions →
    Does old (record old { transactions = transactions }) (beginning (seen transaction) (work_of old))
begun_more old transaction transactions added others room = record {
  own = ap (λ ts. record (work_of old) { state = record (work_of old).state { transactions = ts } }) (ap (map seen) added ∙ seen-more (of old.transactions old.realm) transaction);
  others = λ other differ. ap (λ ts. record (realm_of other old) { transactions = map seen ts }) (others other differ);
  realm = refl;
  count = refl;
  connections = refl;
  transactions = room;
  lines = refl;
  outcome = refl;
  endings = refl;
}

opens_so : (boxes : List Badge) (w : Work) (room : Bool) → has_place (length boxes) w.state ≡ room → opened boxes w ≡ cond room (added (accepted boxes) w) (hand_back boxes (refuse Full w))
unfolding opened
opens_so boxes w room is = ap (λ b. cond b (added (accepted boxes) w) (hand_back boxes (refuse Full w))) is

pub opened_not : (a b : Held) (boxes : List Badge) → has_place (length boxes) (work_of a).state ≡ false → Does a b (hand_back boxes (refuse Full (work_of a))) → Does a b (opened boxes (work_of a))
opened_not a b boxes is does = subst (Does a b) (sym (opens_so boxes (work_of a) false is)) does

pub opened_all : (a b c d : Held) (boxes : List Badge) (seat : Seat) → has_place (length boxes) (work_of a).state ≡ true → seat ≡ record { epoch = (work_of a).state.head.epoch; number = (work_of a).state.head.given + 1 } →
    Does a b (counting (work_of a)) → Does b c (joining (accepted boxes seat.number) (work_of b)) → Does c d (showing seat (work_of c)) → Does a d (opened boxes (work_of a))
unfolding added
opened_all a b c d boxes seat is next first second third =
    subst (Does a d) (sym (opens_so boxes (work_of a) true is))
    (subst (λ s. Does a d (showing s (joining (accepted boxes s.number) (counting (work_of a))))) next
    (then a c d (showing seat) _ (then a b c (joining (accepted boxes seat.number)) _ first second) third))

pub ruleset joining_one = (joined)

pub ruleset opening = (opened_not, opened_all)

pub ruleset beginning_one = (begun_more)

-- A connection that is lost

pub lost_none : (a b : Held) (seat : Seat) → seated seat (work_of a).state ≡ None → Does a b (refuse Stale (work_of a)) → Does a b (lost (seated seat (work_of a).state) (work_of a))
unfolding lost
lost_none a b seat none does = subst (λ o. Does a b (lost o (work_of a))) (sym none) does

pub lost_there : (a b : Held) (seat : Seat) (place : ℕ) → StandsAt a.connections a.realm (has_number seat.number) place → seated seat (work_of a).state ≡ connection_of seat.number (work_of a).state → ((connection : Connection) → connection_of seat.number (work_of a).state ≡ Some connection → Does a b (fail connection (work_of a))) → Does a b (lost (seated seat (work_of a).state) (work_of a))
unfolding lost
lost_there a b seat place here same does = step (connection_of seat.number (work_of a).state) refl where
  step : (found : Option Connection) → connection_of seat.number (work_of a).state ≡ found → Does a b (lost (seated seat (work_of a).state) (work_of a))
  step None is = absurd (first_found (has_number seat.number) (of a.connections a.realm) here.at here.first is)
  step (Some connection) is = subst (λ o. Does a b (lost o (work_of a))) (sym (same ∙ is)) (does connection is)

pub ruleset losing = (lost_none)
