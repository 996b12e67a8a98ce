-- A part has said something: what is noted of it is shown.
use Rattle.std.proofs.Common.{◌≡◌, Bool, true, false, ℕ, zero, suc, ◌+◌, List, [], ◌∷◌, ◌++◌, Option, Some, None, cond, refl, ap, subst, sym, arith, ◌∙◌}
use Rattle.std.specs.Prelude.{◌&&◌, ◌||◌, find, is_none, not, slice_get}
use Rattle.std.specs.List.{list_all, list_any}
use Rattle.std.specs.Option.{option_and_then, option_map_or}
use Rattle.std.specs.Str.{bytes_eq}
use Rattle.std.proofs.lemmas.Bool.{and_from, and_parts, both_ways, or_left, or_right}
use Rattle.std.proofs.lemmas.List.Folds.{list_any-append}
use Rattle.std.proofs.lemmas.Option.{none-some, same_Some}
use Rattle.tip_conn.specs.declared.state.Side.{Side}
use Rattle.tip_conn.specs.declared.state.Side.TheVariants.{Primary, Secondary}
use Rattle.tip_conn.specs.declared.state.State.{State as ConnectionState}
use Rattle.tip_line.specs.declared.response.Response.{Response}
use Rattle.tip_line.specs.declared.response.Response.TheVariants as responses
use Rattle.tip_rows.specs.Keys.{Key}
use Rattle.tip_rows.proofs.MemoryLemmas.{bytes_eq-self}
use Rattle.tip_txn.specs.Parts.{acknowledged, changed_at, is_pair, is_text}
use Rattle.tip_txn.specs.declared.answer.Ballot.{Ballot}
use Rattle.tip_txn.specs.declared.answer.Phase.{Phase}
use Rattle.tip_txn.specs.declared.answer.Phase.TheVariants.{Committed}
use Rattle.tip_txn.specs.declared.part.Participant.{Participant}
use Rattle.tip_machine.specs.Agreement.{has_acknowledged, is_acknowledgement, part_of, part_on}
use Rattle.tip_machine.specs.Agreement.Traces.{Came, Moment, heard_in}
use Rattle.tip_machine.specs.Answers.{identifier}
use Rattle.tip_machine.specs.Changes.{alter}
use Rattle.tip_machine.specs.Connections.{is_part_of}
use Rattle.tip_machine.specs.Invariants.{IsSound}
use Rattle.tip_machine.specs.Invariants.Links.{Link, acts_as, link}
use Rattle.tip_machine.specs.Invariants.Links.Link.{Awaits}
use Rattle.tip_machine.specs.Invariants.Phases.{is_part, is_part_in, is_party, is_transaction, may_have_acknowledged}
use Rattle.tip_machine.specs.Moves.{World}
use Rattle.tip_machine.specs.States.{Work, connection_of, identified_by, transaction_of}
use Rattle.tip_machine.specs.Steps.{entered}
use Rattle.tip_machine.specs.Transactions.{has_key, noting, pair_of, pairs}
use Rattle.tip_machine.specs.Types.{Connection, PartyPlace, Transaction}
use Rattle.tip_machine.specs.declared.connection.Awaited.{Awaited}
use Rattle.tip_machine.specs.declared.connection.Awaited.TheVariants.{Commit, Prepare, Push, Reconnect}
use Rattle.tip_machine.specs.declared.connection.Role.{Role}
use Rattle.tip_machine.specs.declared.connection.Role.TheVariants.{Subordinate}
use Rattle.tip_agreement.proofs.Answering.{PartOf, is_partly, link_now, never_asked, never_pushed, part_now}
use Rattle.tip_agreement.proofs.Around.{Whole}
use Rattle.tip_agreement.proofs.Bounded.{found_by_id, in_bounds}
use Rattle.tip_agreement.proofs.Closing.{InTable, in_table, part_there, stands_there}
use Rattle.tip_agreement.proofs.Concluding.{same_pairs_noted}
use Rattle.tip_agreement.proofs.Events.{entered_whole}
use Rattle.tip_agreement.proofs.Moving.{sound_whole}
use Rattle.tip_agreement.proofs.Owned.{have_parts, in_phase, key_found, parts_from}
use Rattle.tip_agreement.proofs.Bases.{base_altered, base_entered, there}
use Rattle.tip_agreement.proofs.Happening.{note_of}
use Rattle.tip_agreement.proofs.Keeping.{AreCared, AreShown, Base, in_all, is_shown}
use Rattle.tip_agreement.proofs.Walking.{In, in_found}

-- The part of a place

part_fits : (table : Link → Participant → Bool) (start m : ℕ) (parts : List Participant) (key : Key) (cs : List Connection) (p : Participant) → parts_from table start parts key cs ≡ true → slice_get parts m ≡ Some p → table (link (find (is_part_of key (m + start)) cs)) p ≡ true
part_fits table start m [] key cs p all at = absurd (none-some p at)
part_fits table start zero (q ∷ parts) key cs p all at =
    let first : start ≡ zero + start = omega arith in
    subst (λ n. table (link (find (is_part_of key n) cs)) p ≡ true) first (subst (λ x. table (link (find (is_part_of key start) cs)) x ≡ true) (same_Some q p at) (and_parts (table (link (find (is_part_of key start) cs)) q) (parts_from table (start + 1) parts key cs) all).0)
part_fits table start (suc m) (q ∷ parts) key cs p all at =
    let next : m + (start + 1) ≡ suc m + start = omega arith in
    subst (λ n. table (link (find (is_part_of key n) cs)) p ≡ true) next (part_fits table (start + 1) m parts key cs p (and_parts (table (link (find (is_part_of key start) cs)) q) (parts_from table (start + 1) parts key cs) all).1 at)

pub behind_local : (table : Link → Participant → Bool) (party : PartyPlace → Option Ballot → Bool) (place : PartyPlace) (m : ℕ) (parts : List Participant) (key : Key) (cs : List Connection) (p : Participant) → have_parts table party place parts key cs ≡ true → slice_get parts (suc m) ≡ Some p → table (link (find (is_part_of key (suc m)) cs)) p ≡ true
behind_local table party place m [] key cs p all at = absurd (cc)
behind_local table party place m (local ∷ parts) key cs p all at =
    let next : m + 1 ≡ suc m = omega arith in
    subst (λ n. table (link (find (is_part_of key n) cs)) p ≡ true) next (part_fits table 1 m parts key cs p (and_parts (party place local.answer) (parts_from table 1 parts key cs) all).1 at)

-- where one part is noted
noted_all : (test : Participant → Bool) (m : ℕ) (note : Participant → Participant) (parts : List Participant) → list_all test parts ≡ true → ((p : Participant) → slice_get parts m ≡ Some p → test p ≡ true → test (note p) ≡ true) → list_all test (changed_at m note parts) ≡ true
noted_all test m note [] all may = refl
noted_all test zero note (p ∷ parts) all may = let both = and_parts (test p) (list_all test parts) all in and_from _ _ (may p refl both.0) both.1
noted_all test (suc m) note (p ∷ parts) all may = let both = and_parts (test p) (list_all test parts) all in and_from _ _ both.0 (noted_all test m note parts both.1 may)

-- what is noted is of a part
pub noted_partly : (a : Awaited) (r : Response) (note : Participant → Participant) → note_of a r ≡ Some note → is_partly a ≡ true
noted_partly Push r note so = refl
noted_partly Prepare r note so = refl
noted_partly Commit r note so = refl
noted_partly Reconnect r note so = refl
noted_partly a r note so = absurd (none-some note so)

-- once committed, a part only acknowledges
committed_note : (a : Awaited) (r : Response) (note : Participant → Participant) → note_of a r ≡ Some note → (at : ConnectionState) (answer : Option Ballot) → is_part Committed (Awaits at (Some a)) answer ≡ true → note ≡ acknowledged
committed_note Commit responses.Committed note so at answer fits = sym (same_Some acknowledged note so)
committed_note Reconnect responses.NotReconnected note so at answer fits = sym (same_Some acknowledged note so)
committed_note Push r note so at answer fits = absurd (never_pushed at answer fits)
committed_note Prepare r note so at answer fits = absurd (never_asked at answer fits)
committed_note a r note so at answer fits = absurd (none-some note so)

pub primary : (c : Connection) (a : Awaited) → c.awaited ≡ Some a → (side : Side) → acts_as side c ≡ true → side ≡ Primary
primary c a waits Primary acts = refl
primary c a waits Secondary acts = absurd (let wrong : false ≡ true = sym (ap is_none waits) ∙ acts in cc)

key_in_role : Key → Option Role → Key
key_in_role other (Some (Subordinate key part)) = key
key_in_role other role = other

part_in_role : Option Role → ℕ
part_in_role (Some (Subordinate key part)) = part
part_in_role role = 0

-- A CONNECTION OF A PART that is awaited
module _ (world : World) (sound : IsSound world) (c : Connection) (here : connection_of c.number world.state ≡ Some c) (key : Key) (part : ℕ) (on : c.role ≡ Some (Subordinate key part)) (a : Awaited) (waits : c.awaited ≡ Some a) (partly : is_partly a ≡ true) where
  abbrev realm : List ℕ
  realm = world.state.head.name

  w : Work
  w = entered world.state

  whole : Whole w.state
  unfolding w
  whole = entered_whole world.state (sound_whole world sound)

  side : c.side ≡ Primary
  unfolding w
  side = primary c a waits c.side (stands_there c w whole here).acts

  its : PartOf c w.state
  unfolding w
  its = part_now c w whole here a side waits partly

  same_key_of : its.transaction.key ≡ key
  unfolding key_in_role
  same_key_of = ap (key_in_role key) (sym its.on ∙ on)

  same_part : suc its.place ≡ part
  unfolding part_in_role
  same_part = ap part_in_role (sym its.on ∙ on)

  -- what it is in the table of parts
  its_fits : is_part its.transaction.phase (Awaits c.state (Some a)) its.held.part.answer ≡ true
  unfolding w
  its_fits = (in_table its.transaction.phase (Awaits c.state (Some a)) its.held.part (subst (λ l. is_part_in its.transaction.phase l its.held.part ≡ true) (link_now c w whole here a side waits partly) its.held.holds)).fits

  -- the part that is noted, as its table says
  module _ (t : Transaction) (found : transaction_of key world.state ≡ Some t) where
    one : its.transaction ≡ t
    unfolding w
    one = same_Some its.transaction t (sym its.found ∙ (ap (λ k. transaction_of k world.state) same_key_of ∙ found))

    key_is : key ≡ t.key
    key_is = key_found key t world.state found

    found_own : transaction_of t.key world.state ≡ Some t
    found_own = subst (λ k. transaction_of k world.state ≡ Some t) key_is found

    listed : In t world.state.transactions
    listed = in_found (has_key key) world.state.transactions t found

    pub fits : (p : Participant) → slice_get t.parts part ≡ Some p → InTable t.phase (Awaits c.state (Some a)) p
    unfolding w
    fits p is =
        let parts = (in_phase t.key t world.state found_own (in_all (is_transaction world.state) world.state.transactions t sound.transactions listed)).owned.parts in
        let role : c.role ≡ Some (Subordinate t.key (suc its.place)) = on ∙ (λ i. Some (Subordinate (key_is i) (sym same_part i))) in
        let link_is = ap link (part_there its.place t c w whole here found_own role) ∙ link_now c w whole here a side waits partly in
        in_table t.phase (Awaits c.state (Some a)) p (subst (λ l. is_part_in t.phase l p ≡ true) link_is (behind_local (is_part_in t.phase) (is_party t.phase) t.place its.place t.parts t.key world.state.connections p parts (subst (λ n. slice_get t.parts n ≡ Some p) (sym same_part) is)))

    pub fits_somewhere : (answer : Option Ballot) × (is_part t.phase (Awaits c.state (Some a)) answer ≡ true)
    fits_somewhere = (its.held.part.answer, subst (λ (x : Transaction). is_part x.phase (Awaits c.state (Some a)) its.held.part.answer ≡ true) one its_fits)

    abbrev pub id : List ℕ
    id = identifier realm t.key

  -- WHAT IS HEARD of it
  module _ (moments : List Moment) (moment : Moment) (at : moment.world ≡ world)
      (shown : AreShown world.state.head.name (moments ++ moment ∷ []) world.state.transactions) (cared : AreCared world.state.head.name (moments ++ moment ∷ []) world.state.head.epoch world.state.transactions world.errands world.rows)
      (r : Response) (note : Participant → Participant) (so : note_of a r ≡ Some note) (heard : heard_in moment ≡ Some (record { connection = c; response = r })) where
    abbrev all : List Moment
    all = moments ++ moment ∷ []

    module _ (t : Transaction) (found : transaction_of key world.state ≡ Some t) where
      is_on : (p : Participant) → slice_get t.parts part ≡ Some p → part_on realm (id t found) c moment.world.state ≡ Some p
      is_on p is =
          let known = found_by_id (id t found) world.state t (in_bounds world.state sound.bounded).spelled (found_own t found) (bytes_eq-self (id t found)) in
          let spells : part_of realm (id t found) c.role ≡ Some part = ap (part_of realm (id t found)) on ∙ ap (λ b. cond b (Some part) None) (subst (λ k. bytes_eq (id t found) (identifier realm k) ≡ true) (sym (key_is t found)) (bytes_eq-self (id t found))) in
          (λ i. option_and_then (λ part. option_and_then (λ (t : Transaction). slice_get t.parts part) (identified_by (id t found) (at i).state)) (spells i)) ∙ (ap (option_and_then (λ (t : Transaction). slice_get t.parts part)) known ∙ is)

      acknowledges : is_acknowledgement (Some a) r ≡ true → (p : Participant) → slice_get t.parts part ≡ Some p → list_all (λ pair. list_any (has_acknowledged realm (id t found) pair) all) (pair_of p.address p.id) ≡ true
      acknowledges is p there = step p.address p.id refl refl where
        pair_heard : (address subordinate : List ℕ) → p.address ≡ Some address → p.id ≡ Some subordinate → has_acknowledged realm (id t found) (address, subordinate) moment ≡ true
        pair_heard address subordinate x y =
            let test = λ (came : Came). is_acknowledgement came.connection.awaited came.response && option_map_or (is_pair address subordinate) (part_on realm (id t found) came.connection moment.world.state) false in
            ap (λ o. option_map_or test o false) heard ∙ and_from _ _ (ap (λ o. is_acknowledgement o r) waits ∙ is) (ap (λ o. option_map_or (is_pair address subordinate) o false) (is_on p there) ∙ and_from _ _ (ap (is_text address) x ∙ bytes_eq-self address) (ap (is_text subordinate) y ∙ bytes_eq-self subordinate))

        step : (address subordinate : Option (List ℕ)) → p.address ≡ address → p.id ≡ subordinate → list_all (λ pair. list_any (has_acknowledged realm (id t found) pair) all) (pair_of address subordinate) ≡ true
        step (Some address) (Some subordinate) x y = and_from _ _ (list_any-append (has_acknowledged realm (id t found) (address, subordinate)) moments (moment ∷ []) ∙ or_right (list_any (has_acknowledged realm (id t found) (address, subordinate)) moments) _ (or_left (has_acknowledged realm (id t found) (address, subordinate) moment) _ (pair_heard address subordinate x y))) refl
        step None subordinate x y = refl
        step (Some address) None x y = refl

      -- what is noted of it is shown
      note_shown : (b : Awaited) (s : Response) → b ≡ a → s ≡ r → note_of b s ≡ Some note → (p : Participant) → slice_get t.parts part ≡ Some p → is_shown realm all (id t found) p ≡ true → is_shown realm all (id t found) (note p) ≡ true
      note_shown Push (responses.Pushed name) this that so p there is = subst (λ f. is_shown realm all (id t found) (f p) ≡ true) (same_Some _ note so) (or_left (not p.acknowledged) _ (unacknowledged (not p.acknowledged) (subst (λ x. not p.acknowledged || may_have_acknowledged t.phase (Awaits c.state (Some x)) p.answer ≡ true) (sym this) (fits t found p there).told))) where
        never_yet : (f : Phase) (answer : Option Ballot) → may_have_acknowledged f (Awaits c.state (Some Push)) answer ≡ false
        never_yet Committed answer = refl
        never_yet f answer = refl

        unacknowledged : (b : Bool) → b || may_have_acknowledged t.phase (Awaits c.state (Some Push)) p.answer ≡ true → b ≡ true
        unacknowledged true is = refl
        unacknowledged false is = absurd (both_ways _ (never_yet t.phase p.answer) is)
      note_shown Push (responses.AlreadyPushed name) this that so p there is = subst (λ f. is_shown realm all (id t found) (f p) ≡ true) (same_Some _ note so) is
      note_shown Push responses.NotPushed this that so p there is = subst (λ f. is_shown realm all (id t found) (f p) ≡ true) (same_Some _ note so) is
      note_shown Prepare responses.Prepared this that so p there is = subst (λ f. is_shown realm all (id t found) (f p) ≡ true) (same_Some _ note so) is
      note_shown Prepare responses.Aborted this that so p there is = subst (λ f. is_shown realm all (id t found) (f p) ≡ true) (same_Some _ note so) is
      note_shown Prepare responses.ReadOnly this that so p there is = subst (λ f. is_shown realm all (id t found) (f p) ≡ true) (same_Some _ note so) is
      note_shown Commit responses.Committed this that so p there is = subst (λ f. is_shown realm all (id t found) (f p) ≡ true) (same_Some _ note so) (acknowledges (λ i. is_acknowledgement (Some (sym this i)) (sym that i)) p there)
      note_shown Reconnect responses.NotReconnected this that so p there is = subst (λ f. is_shown realm all (id t found) (f p) ≡ true) (same_Some _ note so) (acknowledges (λ i. is_acknowledgement (Some (sym this i)) (sym that i)) p there)
      note_shown b s this that so p there is = absurd (none-some note so)

      pairs_stay : t.phase ≡ Committed → pairs (noting part note t) ≡ pairs t
      unfolding w
      pairs_stay committed = unchanged its.held.part.answer (subst (λ f. is_part f (Awaits c.state (Some a)) its.held.part.answer ≡ true) (ap (λ (x : Transaction). x.phase) (one t found) ∙ committed) its_fits) where
        unchanged : (answer : Option Ballot) → is_part Committed (Awaits c.state (Some a)) answer ≡ true → pairs (noting part note t) ≡ pairs t
        unchanged answer fits = subst (λ f. pairs (noting part f t) ≡ pairs t) (sym (committed_note a r note so c.state answer fits)) (subst (λ n. pairs (noting n acknowledged t) ≡ pairs t) same_part (same_pairs_noted its.place acknowledged t (λ p. (refl, refl, refl))))

    pub base_noted : Base realm all world.state.head.epoch (alter key (noting part note) (entered world.state)) world.errands world.rows
    base_noted =
        let base = base_entered world sound all shown cared in
        base_altered realm all world.state.head.epoch (entered world.state) world.errands world.errands world.rows key (noting part note) (λ t. refl) (λ party is. is) base (λ t found. record {
          own = λ p is. base.own t p (listed t found) is;
          free = λ p is. base.free t p (listed t found) is;
          shown = noted_all (is_shown realm all (identifier realm t.key)) part note t.parts (shown t (listed t found)) (note_shown t found a r refl refl so);
          cared = cared t (listed t found);
          pairs_so = pairs_stay t found;
          phase = refl;
        })
