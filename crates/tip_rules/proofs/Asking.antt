-- What the answer to QUERY comes to, case by case.
use Rattle.std.proofs.Common.{◌≡◌, ◌≤◌, ◌+◌, Bool, true, false, cond, ℕ, List, [], ◌∷◌, Option, Some, None, length, refl, ap, arith, sym, subst, ◌∙◌}
use Rattle.std.specs.Prelude.{◌&&◌, ◌||◌, filter, find, nat_lt, not}
use Rattle.std.specs.List.{list_any}
use Rattle.std.specs.Option.{option_map_or}
use Rattle.std.proofs.lemmas.Bool.Decides.{nat_tests}
use Rattle.std.proofs.lemmas.Option.{none-some, same_Some}
use Rattle.tip_conn.specs.Table.{next_of}
use Rattle.tip_conn.specs.declared.state.State.{State as ConnectionState}
use Rattle.tip_conn.specs.declared.state.State.TheVariants as states
use Rattle.tip_conn.specs.declared.state.Turn.{Turn}
use Rattle.tip_line.specs.declared.command.CommandName.TheVariants as command
use Rattle.tip_line.specs.declared.response.Response.{Response as AResponse}
use Rattle.tip_line.specs.declared.response.ResponseName.TheVariants as names
use Rattle.tip_rows.specs.Keys.{Key}
use Rattle.tip_table.specs.Lists.{changed}
use Rattle.tip_machine.proofs.Walks.{found-number, seated_there}
use Rattle.tip_machine.specs.Changes.{attempt_on, attempt_on_key, change, tell}
use Rattle.tip_machine.specs.Connections.{advanced, advanced_to, asks_for, has_number, is_idle, is_superior_of, role_in}
use Rattle.tip_machine.specs.Failing.{closed, fail, gone, missed}
use Rattle.tip_machine.specs.Proceeding.{abort}
use Rattle.tip_machine.specs.Responses.{go_on, is_in_doubt, presume_abort}
use Rattle.tip_machine.specs.States.{Attempt, Work, connection_of, transaction_of}
use Rattle.tip_machine.specs.Steps.{chosen}
use Rattle.tip_machine.specs.Transactions.{is_prepared}
use Rattle.tip_machine.specs.Types.{Connection, Transaction}
use Rattle.tip_machine.specs.declared.answer.Item.TheVariants.{Close}
use Rattle.tip_machine.specs.declared.connection.Role.{Role}
use Rattle.tip_machine.specs.declared.event.Change.{Change}
use Rattle.tip_machine.specs.declared.event.Change.TheVariants.{Remove}
use Rattle.tip_rules.proofs.Losing.{idle_gone, idle_told, room_gone_as, room_told}
use Rattle.tip_rules.proofs.Outcomes.{key_is}
use Rattle.tip_rules.proofs.Responses.{gone_idle, gone_key, gone_lines_as, goes_on}
use Rattle.tip_rules.proofs.Superiors.{IsAlike, advanced-alike, alike_after, gone_alike}
use Rattle.tip_rules.proofs.Works.{nothing, then}
use Rattle.tip_outlook.specs.Noting.{querying}
use Rattle.tip_outlook.specs.Wanting.{forgotten}
use Rattle.tip_rules.specs.Works.{Does, Held, work_of}
use Rattle.tip_outlook.specs.declared.noting.Note.TheVariants as note

-- Closing

-- what closing means hangs on the number, the boxes and the role alone
pub closed_alike : (e f : Connection) (w : Work) → f.number ≡ e.number → f.boxes ≡ e.boxes → f.role ≡ e.role → closed f w ≡ closed e w
unfolding closed fail
closed_alike e f w number boxes role =
    ap (λ n. missed f.role (gone f (tell n Close w))) number
    ∙ ap (missed f.role) (gone_alike e f (tell e.number Close w) number boxes)
    ∙ ap (λ r. missed r (gone e (tell e.number Close w))) role

pub closed_as : (a b c d : Held) (number : ℕ) (role : Option Role) (connection : Connection) → connection_of number (work_of a).state ≡ Some connection → Does a b (tell number Close (work_of a)) → Does b c (gone connection (work_of b)) → Does c d (missed role (work_of c)) → Does a d (closed (record connection { role = role }) (work_of a))
unfolding closed fail gone
closed_as a b c d number role connection found first second third =
    subst (λ n. Does a d (missed role (gone connection (tell n Close (work_of a))))) (sym (found-number number (work_of a).state.connections connection found))
    (then a c d (missed role) _ (then a b c (gone connection) _ first second) third)

pub told_room : (a b : Held) (number lines : ℕ) → Does a b (tell number Close (work_of a)) → lines + 1 ≤ a.making.free → lines ≤ b.making.free
told_room a b number lines does enough = room_told a b number lines Close does enough

pub ruleset closing_as = (told_room, idle_told, room_gone_as, idle_gone, closed_as)

-- Doubt

module _ (s : Held) (key : Key) where
  pub doubt_none : transaction_of key (work_of s).state ≡ None → false ≡ option_map_or (is_in_doubt (work_of s).state) (transaction_of key (work_of s).state) false
  doubt_none none = sym (ap (λ o. option_map_or (is_in_doubt (work_of s).state) o false) none)

  module _ (t : Transaction) (found : transaction_of key (work_of s).state ≡ Some t) where
    doubt_is : option_map_or (is_in_doubt (work_of s).state) (transaction_of key (work_of s).state) false ≡ (is_prepared t.phase && not (list_any (is_superior_of key) (work_of s).state.connections))
    doubt_is = ap (λ o. option_map_or (is_in_doubt (work_of s).state) o false) found ∙ ap (λ k. is_prepared t.phase && not (list_any (is_superior_of k) (work_of s).state.connections)) (sym (key_is s key t found))

    pub doubt_over : is_prepared t.phase ≡ false → false ≡ option_map_or (is_in_doubt (work_of s).state) (transaction_of key (work_of s).state) false
    doubt_over not_prepared = sym (doubt_is ∙ ap (λ b. b && not (list_any (is_superior_of key) (work_of s).state.connections)) not_prepared)

    pub doubt_by : (there : Bool) → is_prepared t.phase ≡ true → there ≡ list_any (is_superior_of key) (work_of s).state.connections → not there ≡ option_map_or (is_in_doubt (work_of s).state) (transaction_of key (work_of s).state) false
    doubt_by there prepared is = ap not is ∙ sym (doubt_is ∙ ap (λ b. b && not (list_any (is_superior_of key) (work_of s).state.connections)) prepared)

pub ruleset doubting = (doubt_none, doubt_over, doubt_by)

-- The answer

module _ (a b : Held) (number : ℕ) (key : Key) (c : Connection) (said : AResponse) (found : connection_of number (work_of a).state ≡ Some c) where
  pub query_exists : (exists : Bool) → exists ≡ true → Does a b (change number (advanced command.Query names.QueriedExists) (work_of a)) → Does a b (chosen (querying (Some exists) key said c (work_of a)) a.outcome)
  query_exists exists is first = subst (λ e. Does a b (chosen (querying (Some e) key said c (work_of a)) a.outcome)) (sym is) (goes_on a b number command.Query names.QueriedExists note.Nothing c found first)

  module _ (first : Does a b (change number (advanced command.Query names.QueriedNotFound) (work_of a))) where
    query_not : (exists : Bool) (d : Held) → exists ≡ false → Does b d (chosen (attempt_on_key key (presume_abort c) (work_of b)) b.outcome) → Does a d (chosen (querying (Some exists) key said c (work_of a)) a.outcome)
    query_not exists d is second =
        let went = goes_on a b number command.Query names.QueriedNotFound note.Nothing c found first in
        subst (λ e. Does a d (chosen (querying (Some e) key said c (work_of a)) a.outcome)) (sym is)
        (subst (λ o. Does a d (chosen (attempt_on_key key (presume_abort c) (go_on command.Query names.QueriedNotFound c (work_of a))) o)) first.outcome
        (then a b d (λ w. chosen (attempt_on_key key (presume_abort c) w) b.outcome) _ went second))

    pub query_over : (exists : Bool) → exists ≡ false → option_map_or (is_in_doubt (work_of b).state) (transaction_of key (work_of b).state) false ≡ false → Does a b (chosen (querying (Some exists) key said c (work_of a)) a.outcome)
    query_over exists is over = query_not exists b is (step (transaction_of key (work_of b).state) refl over) where
      step : (o : Option Transaction) → transaction_of key (work_of b).state ≡ o → option_map_or (is_in_doubt (work_of b).state) o false ≡ false → Does b b (chosen (attempt_on_key key (presume_abort c) (work_of b)) b.outcome)
      step None at off = subst (λ o. Does b b (chosen (attempt_on o (presume_abort c) (work_of b)) b.outcome)) (sym at) (nothing b)
      step (Some t) at off = subst (λ o. Does b b (chosen (attempt_on o (presume_abort c) (work_of b)) b.outcome)) (sym at)
          (subst (λ e. Does b b (chosen (cond e (Attempt.Asks (Remove t.key) (abort t.key (work_of b)) (closed c (work_of b))) (Attempt.Done (work_of b))) b.outcome)) (sym off) (nothing b))

    pub query_doubt : (exists : Bool) (d : Held) (role : Option Role) → exists ≡ false → option_map_or (is_in_doubt (work_of b).state) (transaction_of key (work_of b).state) false ≡ true → role ≡ c.role →
        ((connection : Connection) (change : Change) → connection_of number (work_of b).state ≡ Some connection → Does b d (chosen (Attempt.Asks change (abort key (work_of b)) (closed (record connection { role = role }) (work_of b))) b.outcome)) → Does a d (chosen (querying (Some exists) key said c (work_of a)) a.outcome)
    query_doubt exists d role is doubt on does = query_not exists d is (step (transaction_of key (work_of b).state) refl doubt) where
      after : (f : Connection) × ((connection_of number (work_of b).state ≡ Some f) × IsAlike c f)
      after =
          let there = alike_after number number (advanced command.Query names.QueriedNotFound) (advanced-alike command.Query names.QueriedNotFound) (work_of a).state.connections c found in
          (there.0, (ap (λ w. connection_of number w.state) first.own ∙ there.1.0, there.1.1))

      at_last : (t : Transaction) → transaction_of key (work_of b).state ≡ Some t → Does b d (chosen (Attempt.Asks (Remove t.key) (abort t.key (work_of b)) (closed c (work_of b))) b.outcome)
      at_last t at =
          subst (λ w. Does b d (chosen (Attempt.Asks (Remove t.key) (abort t.key (work_of b)) w) b.outcome)) (closed_alike c (record after.0 { role = role }) (work_of b) after.1.1.number after.1.1.boxes on)
          (subst (λ k. Does b d (chosen (Attempt.Asks (Remove t.key) (abort k (work_of b)) (closed (record after.0 { role = role }) (work_of b))) b.outcome)) (key_is b key t at)
          (does after.0 (Remove t.key) after.1.0))

      step : (o : Option Transaction) → transaction_of key (work_of b).state ≡ o → option_map_or (is_in_doubt (work_of b).state) o false ≡ true → Does b d (chosen (attempt_on_key key (presume_abort c) (work_of b)) b.outcome)
      step None at so = absurd (cc)
      step (Some t) at so = subst (λ o. Does b d (chosen (attempt_on o (presume_abort c) (work_of b)) b.outcome)) (sym at)
          (subst (λ e. Does b d (chosen (cond e (Attempt.Asks (Remove t.key) (abort t.key (work_of b)) (closed c (work_of b))) (Attempt.Done (work_of b))) b.outcome)) (sym so) (at_last t at))

pub ruleset ending_query = (gone_idle, gone_key, gone_lines_as, query_exists, query_over, query_doubt)

-- A superior, once the connection has gone on

any_count : {T : Type 0} (test : T → Bool) (items : List T) → list_any test items ≡ nat_lt 0 (length (filter test items))
any_count test [] = refl
any_count test (x ∷ xs) = step (test x) (any_count test xs) where
  step : (b : Bool) → list_any test xs ≡ nat_lt 0 (length (filter test xs)) → (b || list_any test xs) ≡ nat_lt 0 (length (cond b (x ∷ filter test xs) (filter test xs)))
  step true rest = grind (arith, nat_tests)
  step false rest = rest

one_passes : {T : Type 0} (has test : T → Bool) (items : List T) (c : T) → find has items ≡ Some c → test c ≡ true → list_any test items ≡ true
one_passes has test [] c is on = absurd (none-some c is)
one_passes has test (x ∷ xs) c is on = step (has x) is (one_passes has test xs c) where
  step : (this : Bool) → cond this (Some x) (find has xs) ≡ Some c → (find has xs ≡ Some c → test c ≡ true → list_any test xs ≡ true) → (test x || list_any test xs) ≡ true
  step true here rest = ap (λ b. b || list_any test xs) (ap test (same_Some x c here) ∙ on)
  step false there rest = grind (arith, rest there on)

module _ {T : Type 0} (has test : T → Bool) (f : T → T) (c : T) (fewer : test (f c) ≡ true → test c ≡ true) where
  any_after : (items : List T) → find has items ≡ Some c → list_any test (changed has f items) ≡ cond (test c && not (test (f c))) (nat_lt 1 (length (filter test items))) (nat_lt 0 (length (filter test items)))
  any_after [] is = absurd (none-some c is)
  any_after (x ∷ xs) is = step (has x) refl is (any_after xs) where
    own : x ≡ c → list_any test (f x ∷ xs) ≡ cond (test c && not (test (f c))) (nat_lt 1 (length (filter test (x ∷ xs)))) (nat_lt 0 (length (filter test (x ∷ xs))))
    own same = rw same (by (test c) refl (test (f c)) refl (any_count test xs)) where
      by : (on : Bool) → test c ≡ on → (still : Bool) → test (f c) ≡ still → list_any test xs ≡ nat_lt 0 (length (filter test xs)) → (test (f c) || list_any test xs) ≡ cond (test c && not (test (f c))) (nat_lt 1 (length (cond (test c) (c ∷ filter test xs) (filter test xs)))) (nat_lt 0 (length (cond (test c) (c ∷ filter test xs) (filter test xs))))
      by true at true after rest = rw (at, after) (grind (arith, nat_tests))
      by true at false after rest = rw (at, after) (rest ∙ grind (arith, nat_tests))
      by false at true after rest = absurd (let no = sym at ∙ fewer after in cc)
      by false at false after rest = rw (at, after) rest

    step : (this : Bool) → has x ≡ this → cond this (Some x) (find has xs) ≡ Some c → (find has xs ≡ Some c → list_any test (changed has f xs) ≡ cond (test c && not (test (f c))) (nat_lt 1 (length (filter test xs))) (nat_lt 0 (length (filter test xs)))) →
        list_any test (cond this (f x ∷ xs) (x ∷ changed has f xs)) ≡ cond (test c && not (test (f c))) (nat_lt 1 (length (filter test (x ∷ xs)))) (nat_lt 0 (length (filter test (x ∷ xs))))
    step true so here rest = own (same_Some x c here)
    step false so there rest = by (test x) refl (test c && not (test (f c))) refl (rest there) where
      by : (on : Bool) → test x ≡ on → (leaves : Bool) → (test c && not (test (f c))) ≡ leaves → list_any test (changed has f xs) ≡ cond (test c && not (test (f c))) (nat_lt 1 (length (filter test xs))) (nat_lt 0 (length (filter test xs))) →
          (test x || list_any test (changed has f xs)) ≡ cond (test c && not (test (f c))) (nat_lt 1 (length (cond (test x) (x ∷ filter test xs) (filter test xs)))) (nat_lt 0 (length (cond (test x) (x ∷ filter test xs) (filter test xs))))
      by true at true so later = rw (at, so) (sym (sym (any_count test xs) ∙ one_passes has test xs c there (left (test c) (not (test (f c))) so)) ∙ grind (arith, nat_tests)) where
        left : (p q : Bool) → (p && q) ≡ true → p ≡ true
        left true q is = refl
        left false q is = absurd (cc)
      by true at false so later = rw (at, so) (grind (arith, nat_tests))
      by false at leaves so later = rw at later

kept_superior : (key : Key) (at : ConnectionState) (role : Option Role) → asks_for key (role_in at role) ≡ true → asks_for key role ≡ true
kept_superior key states.Initial role is = is
kept_superior key states.Idle role is = absurd (cc)
kept_superior key states.Begun role is = is
kept_superior key states.Enlisted role is = is
kept_superior key states.Prepared role is = is
kept_superior key states.Error role is = is

superior_before : (key : Key) (to : Option (ConnectionState × Turn)) (c : Connection) → is_superior_of key (advanced_to to c) ≡ true → is_superior_of key c ≡ true
superior_before key None c is = is
superior_before key (Some place) c is = kept_superior key place.0 c.role is

pub superiors_then : (held : Held) (key : Key) (c : Connection) → connection_of c.number (work_of held).state ≡ Some c → list_any (is_superior_of key) (forgotten c (work_of held).state).connections
    ≡ cond (is_superior_of key c && not (is_superior_of key (advanced command.Query names.QueriedNotFound c))) (nat_lt 1 (length (filter (is_superior_of key) (work_of held).state.connections))) (nat_lt 0 (length (filter (is_superior_of key) (work_of held).state.connections)))
superiors_then held key c found = any_after (has_number c.number) (is_superior_of key) (advanced command.Query names.QueriedNotFound) c (superior_before key (next_of command.Query c.state names.QueriedNotFound) c) (work_of held).state.connections found

pub ruleset superior_then = (superiors_then)

never_both : (b : Bool) → (b && false) ≡ (b && not b)
never_both true = refl
never_both false = refl

leaves_at : (key : Key) (at : ConnectionState) (role : Option Role) → (asks_for key role && is_idle at) ≡ (asks_for key role && not (asks_for key (role_in at role)))
leaves_at key states.Initial role = never_both (asks_for key role)
leaves_at key states.Idle role = refl
leaves_at key states.Begun role = never_both (asks_for key role)
leaves_at key states.Enlisted role = never_both (asks_for key role)
leaves_at key states.Prepared role = never_both (asks_for key role)
leaves_at key states.Error role = never_both (asks_for key role)

leaves_by : (key : Key) (to : Option (ConnectionState × Turn)) (c : Connection) → (is_superior_of key c && option_map_or (λ place. is_idle place.0) to false) ≡ (is_superior_of key c && not (is_superior_of key (advanced_to to c)))
leaves_by key None c = never_both (is_superior_of key c)
leaves_by key (Some place) c = leaves_at key place.0 c.role

pub leaves_so : (key : Key) (c : Connection) (asks idle : Bool) → asks ≡ asks_for key c.role → idle ≡ option_map_or (λ place. is_idle place.0) (next_of command.Query c.state names.QueriedNotFound) false → (asks && idle) ≡ (is_superior_of key c && not (is_superior_of key (advanced command.Query names.QueriedNotFound c)))
leaves_so key c asks idle asking idling = ap (λ b. b && idle) asking ∙ ap (λ b. asks_for key c.role && b) idling ∙ leaves_by key (next_of command.Query c.state names.QueriedNotFound) c

pub ruleset leaving = (leaves_so)

pub found_itself : (held : Held) (number : ℕ) (c : Connection) → connection_of number (work_of held).state ≡ Some c → connection_of c.number (work_of held).state ≡ Some c
found_itself held number c found = subst (λ n. connection_of n (work_of held).state ≡ Some c) (sym (found-number number (work_of held).state.connections c found)) found

pub ruleset itself = (found_itself, seated_there)
