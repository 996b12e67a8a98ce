-- What the operations on the tables come to in the realm at hand.
use Rattle.std.proofs.Common.{◌≡◌, ◌≢◌, ◌≤◌, ◌<◌, ◌+◌, ◌-◌, Bool, true, false, cond, ℕ, List, [], ◌∷◌, ◌++◌, Option, Some, None, length, map, refl, ap, sym, subst, ◌∙◌, arith, Bor, append-nil, append_assoc}
use Rattle.std.specs.Prelude.{◌==◌, filter, find, is_some, option_map}
use Rattle.std.specs.List.{flat_map, list_any}
use Rattle.std.specs.Option.{option_copied, option_map_or}
use Rattle.std.proofs.lemmas.Option.{none-some, same_Some}
use Rattle.std.proofs.lemmas.Bool.Decides.{nat_tests}
use Rattle.std.proofs.lemmas.List.{length-append, length-map}
use Rattle.tip_line.specs.declared.command.CommandName.{CommandName}
use Rattle.tip_rows.specs.Keys.{Key, is_same}
use Rattle.tip_table.specs.Kept.{Kept, StandsAt, capacity, item_at, of, places, taken_out, with_item_at}
use Rattle.tip_table.specs.Lists.{changed, without}
use Rattle.tip_table.proofs.Standing.{capacity-written, change_none, stands_written, take_out, write, write_others}
use Rattle.tip_table.proofs.Standing.{found as found_first}
use Rattle.tip_table.specs.Visits.{MayVisit, notes_of}
use Rattle.tip_machine.specs.Changes.{alter, change, end, reply, tell}
use Rattle.tip_machine.proofs.Rising.{changed_twice}
use Rattle.tip_machine.proofs.RuleWalks.{advanced-number}
use Rattle.tip_machine.proofs.Walks.{found-number, found_changed, found_passes}
use Rattle.tip_machine.specs.Failing.{gone}
use Rattle.tip_machine.specs.Proceeding.{enter}
use Rattle.tip_txn.specs.declared.answer.Phase.{Phase}
use Rattle.tip_machine.specs.Connections.{advanced, has_number, is_on, taking}
use Rattle.tip_machine.specs.Reactions.{Demand, Reaction, answers, demanded_as, demands, react, reacted, reacts, sent_by, stays}
use Rattle.tip_machine.specs.States.{Work, connection_of, transaction_of}
use Rattle.tip_machine.specs.Transactions.{entering, has_key}
use Rattle.tip_machine.specs.Types.{Connection, Transaction, seen}
use Rattle.tip_machine.specs.Answers.{response_name}
use Rattle.tip_machine.specs.declared.answer.Item.TheVariants.{Say}
use Rattle.tip_machine.specs.declared.answer.Said.{Said}
use Rattle.tip_machine.specs.declared.connection.Role.{Role}
use Rattle.tip_rules.specs.Makings.{Made}
use Rattle.tip_outlook.specs.Searches.{is_keyed, HeldTransaction}
use Rattle.tip_rules.specs.Works.{Does, Held, IsIdle, lines_for, MayDispatch, realm_of, work_of}

-- Steps in a row

pub then : (a b c : Held) (rule : Work → Work) (work : Work) → Does a b work → Does b c (rule (work_of b)) → Does a c (rule work)
then a b c rule work first second = record {
  own = second.own ∙ ap rule first.own;
  others = λ other differ. second.others other (λ same. differ (same ∙ first.realm)) ∙ first.others other differ;
  realm = second.realm ∙ first.realm;
  count = second.count ∙ first.count;
  connections = second.connections ∙ first.connections;
  transactions = second.transactions ∙ first.transactions;
  lines = second.lines ∙ first.lines;
  outcome = second.outcome ∙ first.outcome;
  endings = second.endings ∙ first.endings;
}

pub nothing : (held : Held) → Does held held (work_of held)
nothing held = record { own = refl; others = λ other differ. refl; realm = refl; count = refl; connections = refl; transactions = refl; lines = refl; outcome = refl; endings = refl }

-- Lists that are seen through a view

module _ {T U : Type 0} (view : T → U) (test : U → Bool) where
  pub find-seen : (items : List T) → find test (map view items) ≡ option_map view (find (λ item. test (view item)) items)
  find-seen [] = refl
  find-seen (x ∷ xs) = grind (arith, find-seen xs)

  pub changed-seen : (f : U → U) (items : List T) (item value : T) → find (λ item. test (view item)) items ≡ Some item → view value ≡ f (view item) → map view (changed (λ item. test (view item)) (λ _. value) items) ≡ changed test f (map view items)
  changed-seen f [] item value is same = refl
  changed-seen f (x ∷ xs) item value is same = grind (arith, changed-seen f xs item value, is, same)

  pub without-seen : (items : List T) → map view (without (λ item. test (view item)) items) ≡ without test (map view items)
  without-seen [] = refl
  without-seen (x ∷ xs) = grind (arith, without-seen xs)

-- Transactions

-- where the transaction of a key stands, it is open
pub found_key : (held : Held) (key : Key) (place : Option ℕ) → ((place ≡ None → find (is_keyed key) (of held.transactions held.realm) ≡ None) × (find (is_keyed key) (of held.transactions held.realm) ≡ None → place ≡ None)) →
    (place ≡ None → transaction_of key (work_of held).state ≡ None) × (transaction_of key (work_of held).state ≡ None → place ≡ None)
found_key held key place both = (
  λ none. find-seen seen (has_key key) (of held.transactions held.realm) ∙ ap (option_map seen) (both.0 none),
  λ none. both.1 (unseen (find (is_keyed key) (of held.transactions held.realm)) (sym (find-seen seen (has_key key) (of held.transactions held.realm)) ∙ none)),
) where
  unseen : (o : Option HeldTransaction) → option_map seen o ≡ None → o ≡ None
  unseen None is = refl
  unseen (Some t) is = absurd (cc)

-- a transaction is written where it stands
pub altered : (old : Held) (key : Key) (f : Transaction → Transaction) (place : ℕ) (item value : HeldTransaction) → StandsAt old.transactions old.realm (is_keyed key) place → item_at old.transactions place ≡ Some item → seen value ≡ f (seen item) →
    Does old (record old { transactions = with_item_at old.transactions place value }) (alter key f (work_of old))
altered old key f place item value here is same =
    let first : find (is_keyed key) (of old.transactions old.realm) ≡ Some item = found_first old.transactions old.realm (is_keyed key) place here ∙ is in
    record {
      own = ap (λ ts. record (work_of old) { state = record (work_of old).state { transactions = ts } })
          (ap (map seen) (write old.transactions old.realm (is_keyed key) (λ _. value) place item value here is refl) ∙ changed-seen seen (has_key key) f (of old.transactions old.realm) item value first same);
      others = λ other differ. ap (λ ts. record (realm_of other old) { transactions = map seen ts }) (write_others old.transactions place value other (record { realm = old.realm; at = here.at }) here.there (λ is. differ (sym is)));
      realm = refl;
      count = refl;
      connections = refl;
      transactions = capacity-written old.transactions place value;
      lines = refl;
      outcome = refl;
      endings = refl;
    }

-- and stands there still
pub stays_at : (old : Held) (key : Key) (place : ℕ) (item value : HeldTransaction) → StandsAt old.transactions old.realm (is_keyed key) place → item_at old.transactions place ≡ Some item → value.key ≡ item.key → StandsAt (with_item_at old.transactions place value) old.realm (is_keyed key) place
stays_at old key place item value here is same = stands_written old.transactions old.realm (is_keyed key) place value here
    (ap (is_same key) same ∙ found_passes (is_keyed key) (of old.transactions old.realm) item (found_first old.transactions old.realm (is_keyed key) place here ∙ is))

pub ruleset writing = (altered, stays_at)

-- where it is not open, nothing is written
pub unaltered : (old : Held) (key : Key) (f : Transaction → Transaction) → transaction_of key (work_of old).state ≡ None → Does old old (alter key f (work_of old))
unaltered old key f none = record {
  own = ap (λ ts. record (work_of old) { state = record (work_of old).state { transactions = ts } }) (sym (change_none (has_key key) f (work_of old).state.transactions none));
  others = λ other differ. refl;
  realm = refl;
  count = refl;
  connections = refl;
  transactions = refl;
  lines = refl;
  outcome = refl;
  endings = refl;
}

-- what stands where the transaction of a key stands
pub standing_key : (held : Held) (key : Key) (place : ℕ) (item : HeldTransaction) → StandsAt held.transactions held.realm (is_keyed key) place → item_at held.transactions place ≡ Some item → transaction_of key (work_of held).state ≡ Some (seen item)
standing_key held key place item here is = find-seen seen (has_key key) (of held.transactions held.realm) ∙ ap (option_map seen) (found_first held.transactions held.realm (is_keyed key) place here ∙ is)

take_out_others : {T : Type 0} (kept : Kept T) (realm : ℕ) (test : T → Bool) (place other : ℕ) → StandsAt kept realm test place → other ≢ realm → taken_out (places kept place) other (of kept other) ≡ of kept other
take_out_others kept realm test place other here differ =
    let no : (realm == other) ≡ false = grind (arith, nat_tests) in
    rw (here.there, no) refl

-- it is taken out
pub ended : (old : Held) (key : Key) (place : ℕ) (transactions : Kept HeldTransaction) → StandsAt old.transactions old.realm (is_keyed key) place → ((realm : ℕ) → of transactions realm ≡ taken_out (places old.transactions place) realm (of old.transactions realm)) → capacity transactions ≡ capacity old.transactions →
    Does old (record old { transactions = transactions }) (end key (work_of old))
ended old key place transactions here left room = record {
  own = ap (λ ts. record (work_of old) { state = record (work_of old).state { transactions = ts } })
      (ap (map seen) (left old.realm ∙ take_out old.transactions old.realm (is_keyed key) place here) ∙ without-seen seen (has_key key) (of old.transactions old.realm));
  others = λ other differ. ap (λ ts. record (realm_of other old) { transactions = map seen ts }) (left other ∙ take_out_others old.transactions old.realm (is_keyed key) place other here differ);
  realm = refl;
  count = refl;
  connections = refl;
  transactions = room;
  lines = refl;
  outcome = refl;
  endings = refl;
}

-- Connections

-- a connection is written where it stands
pub changed_at : (old : Held) (number : ℕ) (f : Connection → Connection) (place : ℕ) (item value : Connection) → StandsAt old.connections old.realm (has_number number) place → item_at old.connections place ≡ Some item → value ≡ f item →
    Does old (record old { connections = with_item_at old.connections place value }) (change number f (work_of old))
changed_at old number f place item value here is same = record {
  own = ap (λ cs. record (work_of old) { state = record (work_of old).state { connections = cs } }) (write old.connections old.realm (has_number number) f place item value here is same);
  others = λ other differ. ap (λ cs. record (realm_of other old) { connections = cs }) (write_others old.connections place value other (record { realm = old.realm; at = here.at }) here.there (λ is. differ (sym is)));
  realm = refl;
  count = refl;
  connections = capacity-written old.connections place value;
  transactions = refl;
  lines = refl;
  outcome = refl;
  endings = refl;
}

-- a connection is taken out where it stands, and its boxes are handed back
pub removed : (old : Held) (number place : ℕ) (connections : Kept Connection) (made : Made) (connection there : Connection) → StandsAt old.connections old.realm (has_number number) place → connection_of number (work_of old).state ≡ Some connection → item_at old.connections place ≡ Some there →
    ((realm : ℕ) → of connections realm ≡ taken_out (places old.connections place) realm (of old.connections realm)) → capacity connections ≡ capacity old.connections → made ≡ record old.making { answer = record old.making.answer { unused = Some there.boxes } } →
    Does old (record old { connections = connections; making = made }) (gone connection (work_of old))
unfolding gone
removed old number place connections made connection there here found is left room back =
    let same : there ≡ connection = same_Some there connection (sym (found_first old.connections old.realm (has_number number) place here ∙ is) ∙ found) in
    let numbered : number ≡ connection.number = sym (found-number number (of old.connections old.realm) connection found) in
    record {
      own = ap (λ cs. record { state = record (work_of old).state { connections = cs }; answer = made.answer }) (left old.realm ∙ take_out old.connections old.realm (has_number number) place here ∙ ap (λ n. without (has_number n) (of old.connections old.realm)) numbered)
          ∙ ap (λ a. record { state = record (work_of old).state { connections = without (has_number connection.number) (of old.connections old.realm) }; answer = a }) (ap (λ m. m.answer) back ∙ ap (λ (c : Connection). record old.making.answer { unused = Some c.boxes }) same);
      others = λ other differ. ap (λ cs. record (realm_of other old) { connections = cs }) (left other ∙ take_out_others old.connections old.realm (has_number number) place other here differ);
      realm = refl;
      count = refl;
      connections = room;
      transactions = refl;
      lines = ap (λ m. length m.answer.sent + m.free) back;
      outcome = refl;
      endings = refl;
    }

-- Whether a party may go out

pub may_idle : (key : Key) (w : Work) → IsIdle w.answer → MayDispatch key w
may_idle key w idle t party found here = idle

-- what the transaction of a key was before one change of it
pub altered_from : (key : Key) (f : Transaction → Transaction) (w : Work) (t : Transaction) → ((u : Transaction) → (f u).key ≡ u.key) → transaction_of key (alter key f w).state ≡ Some t → (u : Transaction) × (transaction_of key w.state ≡ Some u) × (t ≡ f u)
altered_from key f w t keyed found = step (transaction_of key w.state) refl where
  step : (before : Option Transaction) → transaction_of key w.state ≡ before → (u : Transaction) × (transaction_of key w.state ≡ Some u) × (t ≡ f u)
  step None is = absurd (none-some t (sym is ∙ ap (find (has_key key)) (sym (change_none (has_key key) f w.state.transactions is)) ∙ found))
  step (Some u) is = (u, is, same_Some t (f u) (sym found ∙ found_changed key f w.state.transactions u is (ap (is_same key) (keyed u) ∙ found_passes (has_key key) w.state.transactions u is)))

pub may_entered : (a b : Held) (key : Key) (phase : Phase) → MayDispatch key (work_of a) → Does a b (enter phase key (work_of a)) → MayDispatch key (work_of b)
may_entered a b key phase may does = subst (MayDispatch key) (sym does.own) (λ t party found here.
    let before = altered_from key (entering phase) (work_of a) t (λ u. refl) found in
    may before.0 party before.1 (sym (ap (λ (u : Transaction). u.place) before.2) ∙ here))

pub may_reacted : (a b : Held) (key : Key) (reaction : Reaction) → MayDispatch key (work_of a) → Does a b (react reaction key (work_of a)) → MayDispatch key (work_of b)
unfolding react
may_reacted a b key reaction may does = subst (MayDispatch key) (sym does.own) (λ t party found here. let idle = may t party found here in record { work = idle.work; spent = idle.spent })

-- Replies

pub replied : (a b c : Held) (number : ℕ) (command : CommandName) (said : Said) → Does a b (tell number (Say said) (work_of a)) → Does b c (change number (advanced command (response_name said)) (work_of b)) → Does a c (reply number command said (work_of a))
unfolding reply
replied a b c number command said first second = then a b c (change number (advanced command (response_name said))) _ first second

-- the connection takes its role in the same breath
pub replied_as : (a b : Held) (number place : ℕ) (command : CommandName) (said : Said) (role : Role) (item value : Connection) → Does a b (tell number (Say said) (work_of a)) → StandsAt b.connections b.realm (has_number number) place → item_at b.connections place ≡ Some item → value ≡ taking role (advanced command (response_name said) item) →
    Does a (record b { connections = with_item_at b.connections place value }) (change number (taking role) (reply number command said (work_of a)))
unfolding reply
replied_as a b number place command said role item value first here is same =
    let g = advanced command (response_name said) in
    let both = then a b (record b { connections = with_item_at b.connections place value }) (change number (λ c. taking role (g c))) _ first (changed_at b number (λ c. taking role (g c)) place item value here is same) in
    let told = tell number (Say said) (work_of a) in
    subst (Does a (record b { connections = with_item_at b.connections place value })) (ap (λ cs. record told { state = record told.state { connections = cs } }) (sym (changed_twice number (taking role) g told.state.connections (advanced-number command (response_name said))))) both

-- Reactions

module _ (reaction : Reaction) (key : Key) where
  abbrev pub notes : Made → Connection → Made
  notes made connection = record made { answer = record made.answer { sent = made.answer.sent ++ sent_by reaction key connection }; free = made.free - length (sent_by reaction key connection) }

  abbrev pub may : Made → Connection → Type 0
  may made connection = is_on key connection ≡ true → 0 < made.free

  short : (owed : Option CommandName) (connection : Connection) → length (reacts reaction key owed connection).items ≤ 1
  short (Some command) connection = answered (reaction.owed command) where
    answered : (said : Option Said) → length (option_map_or (answers command connection) said (stays connection)).items ≤ 1
    answered None = omega arith
    answered (Some said) = omega arith
  short None connection = asked (demanded_as reaction connection.role connection) where
    asked : (demand : Option Demand) → length (option_map_or (demands key connection) demand (stays connection)).items ≤ 1
    asked None = omega arith
    asked (Some demand) = omega arith

  few : (connection : Connection) → length (sent_by reaction key connection) ≤ cond (is_on key connection) 1 0
  few connection = step (is_on key connection) refl where
    -- as a test of its own
    step : (on : Bool) → is_on key connection ≡ on → length (sent_by reaction key connection) ≤ cond (is_on key connection) 1 0
    step true is = rw (is, length-map (reacts reaction key connection.owed connection).items) (short connection.owed connection)
    step false is = rw is (omega arith)

  enough_left : (x : Connection) (xs : List Connection) (made : Made) → length (filter (is_on key) (x ∷ xs)) ≤ made.free → (length (sent_by reaction key x) ≤ made.free) × (length (filter (is_on key) xs) ≤ made.free - length (sent_by reaction key x))
  enough_left x xs made = step (is_on key x) (few x) where
    step : (on : Bool) → length (sent_by reaction key x) ≤ cond on 1 0 → length (cond on (x ∷ filter (is_on key) xs) (filter (is_on key) xs)) ≤ made.free → (length (sent_by reaction key x) ≤ made.free) × (length (filter (is_on key) xs) ≤ made.free - length (sent_by reaction key x))
    step true little enough = (omega (arith, little, enough), omega (arith, little, enough))
    step false little enough = (omega (arith, little, enough), omega (arith, little, enough))

  room_on : (x : Connection) (xs : List Connection) (made : Made) → length (filter (is_on key) (x ∷ xs)) ≤ made.free → is_on key x ≡ true → 0 < made.free
  room_on x xs made = step (is_on key x) where
    step : (on : Bool) → length (cond on (x ∷ filter (is_on key) xs) (filter (is_on key) xs)) ≤ made.free → on ≡ true → 0 < made.free
    step true enough is = omega (arith, enough)
    step false enough is = absurd (cc)

  pub may_react : (made : Made) (connections : List Connection) → length (filter (is_on key) connections) ≤ made.free → MayVisit may notes made connections
  may_react made [] enough = tt
  may_react made (x ∷ xs) enough = (room_on x xs made enough, may_react (notes made x) xs (enough_left x xs made enough).1)

  pub noted_all : (made : Made) (connections : List Connection) → (notes_of notes made connections).answer ≡ record made.answer { sent = made.answer.sent ++ flat_map (sent_by reaction key) connections }
  noted_all made [] = ap (λ lines. record made.answer { sent = lines }) (sym (append-nil made.answer.sent))
  noted_all made (x ∷ xs) = noted_all (notes made x) xs ∙ ap (λ lines. record made.answer { sent = lines }) (append_assoc made.answer.sent (sent_by reaction key x) (flat_map (sent_by reaction key) xs))

  pub noted_room : (made : Made) (connections : List Connection) → length (filter (is_on key) connections) ≤ made.free → length (notes_of notes made connections).answer.sent + (notes_of notes made connections).free ≡ length made.answer.sent + made.free
  noted_room made [] enough = refl
  noted_room made (x ∷ xs) enough =
      let left = enough_left x xs made enough in
      let more = length-append made.answer.sent (sent_by reaction key x) in
      noted_room (notes made x) xs left.1 ∙ omega (arith, left.0, more)

  pub reacted_all : (old : Held) (connections : Kept Connection) (made : Made) → lines_for key (work_of old).state ≤ old.making.free → of connections old.realm ≡ map (λ c. (reacted reaction key c).connection) (of old.connections old.realm) → made ≡ notes_of notes old.making (of old.connections old.realm) →
      ((other : ℕ) → other ≢ old.realm → of connections other ≡ of old.connections other) → capacity connections ≡ capacity old.connections → Does old (record old { connections = connections; making = made }) (react reaction key (work_of old))
  unfolding react
  reacted_all old connections made enough items notes others room = record {
    own = ap (λ cs. record { state = record (work_of old).state { connections = cs }; answer = made.answer }) items ∙ ap (λ a. record { state = record (work_of old).state { connections = map (λ c. (reacted reaction key c).connection) (of old.connections old.realm) }; answer = a }) (ap (λ m. m.answer) notes ∙ noted_all old.making (of old.connections old.realm));
    others = λ other differ. ap (λ cs. record (realm_of other old) { connections = cs }) (others other differ);
    realm = refl;
    count = refl;
    connections = room;
    transactions = refl;
    lines = ap (λ m. length m.answer.sent + m.free) notes ∙ noted_room old.making (of old.connections old.realm) enough;
    outcome = refl;
    endings = refl;
  }

pub gone_part : {A : Type 0} (found : Option (Bor A)) (there : Option A) → option_copied found ≡ there → is_some found ≡ false → there ≡ None
gone_part None there same is = sym same
gone_part (Some part) there same is = absurd (cc)

pub any_found : {T : Type 0} (test : T → Bool) (items : List T) → list_any test items ≡ is_some (find test items)
any_found test [] = refl
any_found test (x ∷ xs) = grind (arith, any_found test xs)
