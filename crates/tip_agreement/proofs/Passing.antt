-- Each transaction after a move is one from before it, with what its parts have answered, or a new one.
use Rattle.std.proofs.Common.{◌≡◌, true, ℕ, zero, suc, ◌+◌, List, [], ◌∷◌, ◌++◌, Option, Some, None, cond, refl, ap, subst, sym, arith, ◌∙◌, ◌⊎◌, inl, inr}
use Rattle.std.specs.Prelude.{◌==◌, length, map, nat_le, not, option_map, take}
use Rattle.std.specs.List.{list_any}
use Rattle.std.specs.Option.{option_map_or, option_to_list}
use Rattle.std.specs.Str.{bytes_eq}
use Rattle.std.proofs.lemmas.Bool.{and_from, and_parts, both_ways, not-true, or_left, or_right}
use Rattle.std.proofs.lemmas.Bool.Decides.{nat_tests}
use Rattle.std.proofs.lemmas.List.Folds.{list_any-append}
use Rattle.std.proofs.lemmas.Option.{none-some}
use Rattle.tip_branch.specs.Members.{fresh_members}
use Rattle.tip_branch.specs.Notes.{PartyNotes, given}
use Rattle.tip_branch.specs.declared.branch.Badge.{Badge}
use Rattle.tip_branch.specs.declared.member.Errand.{Errand}
use Rattle.tip_line.specs.declared.refusal.Refusal.{Refusal}
use Rattle.tip_rows.specs.Keys.{Key, is_same}
use Rattle.tip_txn.specs.Parts.{answer_at}
use Rattle.tip_txn.specs.Transactions.{local_party}
use Rattle.tip_txn.specs.declared.answer.Ballot.{Ballot}
use Rattle.tip_txn.specs.declared.answer.Phase.TheVariants.{Aborted}
use Rattle.tip_txn.specs.declared.part.Participant.{Participant}
use Rattle.tip_machine.specs.Agreement.{is_willing}
use Rattle.tip_machine.specs.Agreement.Traces.{Moment, came_in, heard_in, is_refusal}
use Rattle.tip_machine.specs.Answers.{identifier}
use Rattle.tip_machine.specs.Changes.{alter}
use Rattle.tip_machine.specs.Honest.{brings_no_party}
use Rattle.tip_machine.specs.Invariants.{IsSound}
use Rattle.tip_machine.specs.Invariants.Links.{are_distinct}
use Rattle.tip_machine.specs.Moves.{Move, World}
use Rattle.tip_machine.specs.Order.{ordered}
use Rattle.tip_machine.specs.Outputs.{Output, brought, drops_of, outputs}
use Rattle.tip_machine.specs.Starting.{are_counted_from}
use Rattle.tip_machine.specs.States.{Attempt, Work}
use Rattle.tip_machine.specs.Steps.{attempt, chosen, entered, is_open, wanted}
use Rattle.tip_machine.specs.Transactions.{has_key, noting}
use Rattle.tip_machine.specs.Types.{Event, PartyPlace, Transaction}
use Rattle.tip_machine.specs.declared.event.Outcome.{Outcome}
use Rattle.tip_machine.specs.declared.event.Outcome.TheVariants.{NoChange, Refused, Stored}
use Rattle.tip_machine.specs.declared.transaction.PartyPlace.TheVariants.{Here, Out, Spent}
use Rattle.tip_agreement.proofs.Apart.{all_more}
use Rattle.tip_agreement.proofs.Events.{entered_whole}
use Rattle.tip_agreement.proofs.Keys.{key_self, keys_of}
use Rattle.tip_agreement.proofs.Moving.{sound_whole}
use Rattle.tip_agreement.proofs.PartAnswers.{Answers, answers_stay, chosen_walks, none_heard, quiet_heard, says_answers}
use Rattle.tip_agreement.proofs.Ballots.{covers, covers_same, forgotten_same}
use Rattle.tip_agreement.proofs.Bases.{base_entered}
use Rattle.tip_agreement.proofs.Coming.{named}
use Rattle.tip_agreement.proofs.Happening.{EndsSo, Made, Quietly, Says, happens_so}
use Rattle.tip_agreement.proofs.Hearing.{base_noted, noted_partly}
use Rattle.tip_agreement.proofs.Keeping.{Base, in_append, in_key, in_option, sent_from}
use Rattle.tip_agreement.proofs.Linking.{number_self}
use Rattle.tip_agreement.proofs.Walking.{In, IsOpen, Leaves, Walks, in_changed, in_found, lasts_same, open_same, open_then}
use Rattle.tip_agreement.proofs.Willing.{heard_answer, or_else}
use Rattle.tip_agreement.proofs.Witnessed.{In_world, Stands, heard_so, refused_stands}
use Rattle.tip_machine.proofs.Walks.{seated_there}

-- THE BRANCHES OF A REALM are members of the party of each transaction that was made in this start, wherever it is
pub record Covers (now : ℕ) (branches : List (ℕ × List ℕ)) (errands : List PartyNotes) (id : List ℕ) (place : PartyPlace) : Type 0 where
  pub here : (party : PartyNotes) → place ≡ Here party → covers party.members branches ≡ true
  pub out : (party : PartyNotes) → In party errands → bytes_eq id party.id ≡ true → (party.epoch == now) ≡ true → covers party.members branches ≡ true

pub covers_on : (now : ℕ) (branches : List (ℕ × List ℕ)) (errands : List PartyNotes) (work : Option PartyNotes) (id : List ℕ) (old new : PartyPlace) → Covers now branches errands id old → Leaves old new → ((party : PartyNotes) → work ≡ Some party → bytes_eq id party.id ≡ true → (p : PartyNotes) × (e : Errand) × (old ≡ Here p) × (party ≡ given p e)) → Covers now branches (errands ++ option_to_list work) id new
covers_on now branches errands work id old new was leaves sent = record { here = here leaves; out = out } where
  here : Leaves old new → (party : PartyNotes) → new ≡ Here party → covers party.members branches ≡ true
  here (inl same) party at = was.here party (sym same ∙ at)
  here (inr left) party at = absurd (elim left.2 [ inl gone ↦ let wrong : Out gone.0 ≡ Here party = sym gone.1 ∙ at in cc | inr spent ↦ let wrong : Spent ≡ Here party = sym spent.0 ∙ at in cc ])

  out : (party : PartyNotes) → In party (errands ++ option_to_list work) → bytes_eq id party.id ≡ true → (party.epoch == now) ≡ true → covers party.members branches ≡ true
  out party there named this = elim (in_append errands (option_to_list work) party there) [
    | inl before ↦ was.out party before named this
    | inr going ↦
        let from = sent party (in_option work party going) named in
        subst (λ (q : PartyNotes). covers q.members branches ≡ true) (sym from.3) (covers_same from.0.members (given from.0 from.1).members branches (forgotten_same from.0.members) (was.here from.0 from.2))
  ]

pub covers_fewer : (now : ℕ) (branches : List (ℕ × List ℕ)) (errands fewer : List PartyNotes) (id : List ℕ) (place : PartyPlace) → ((party : PartyNotes) → In party fewer → In party errands) → Covers now branches errands id place → Covers now branches fewer id place
covers_fewer now branches errands fewer id place sub was = record { here = was.here; out = λ party is. was.out party (sub party is) }

-- A TRANSACTION AFTER A MOVE
pub record Follows (realm : List ℕ) (now : ℕ) (branches : List (ℕ × List ℕ)) (Called : Transaction → Type 0) (moment : Moment) (errands : List PartyNotes) (t u : Transaction) : Type 0 where
  pub key : u.key ≡ t.key
  pub live : IsOpen t u
  pub answers : (u.phase ≡ Aborted → ⊥) → (t.key.epoch == now) ≡ true → Answers (Called t) realm (identifier realm t.key) moment t.parts u.parts
  pub covered : (t.key.epoch == now) ≡ true → Covers now branches errands (identifier realm t.key) u.place

pub record New (now : ℕ) (branches : List (ℕ × List ℕ)) (ts : List Transaction) (u : Transaction) : Type 0 where
  pub absent : (t : Transaction) → In t ts → t.key ≡ u.key → ⊥
  pub unheard : (q : ℕ) → answer_at u.parts q ≡ None
  pub covered : (party : PartyNotes) → u.place ≡ Here party → covers party.members branches ≡ true
  pub place : (party : PartyNotes) × (u.place ≡ Here party)
  pub epoch : (u.key.epoch == now) ≡ true

pub record Passed (realm : List ℕ) (now : ℕ) (branches : List (ℕ × List ℕ)) (Called : Transaction → Type 0) (moment : Moment) (errands : List PartyNotes) (ts : List Transaction) (u : Transaction) : Type 0 where
  pub before : Transaction
  pub listed : In before ts
  pub follows : Follows realm now branches Called moment errands before u

-- A NEW ONE

suc_le : (a b : ℕ) → nat_le (suc a) (suc b) ≡ true → nat_le a b ≡ true
suc_le a b is = grind (arith, nat_tests, is)

fresh_cover : (start : ℕ) (branches : List (ℕ × List ℕ)) (boxes : List Badge) → are_counted_from start branches ≡ true → nat_le (length branches) (length boxes) ≡ true → covers (fresh_members start (take (length branches) boxes)) branches ≡ true
fresh_cover start [] boxes counted room = refl
fresh_cover start (b ∷ branches) [] counted room = absurd (never (length branches) room) where
  never : (n : ℕ) → nat_le (suc n) 0 ≡ true → ⊥
  never n is = grind (arith, nat_tests, is)
fresh_cover start (b ∷ branches) (box ∷ boxes) counted room =
    let parts = and_parts (b.0 == start) (are_counted_from (start + 1) branches) counted in
    and_from _ _ (or_left (start == b.0) _ (turned start b.0 parts.0))
    (all_more (λ branch. list_any (λ m. m.number == branch.0) (fresh_members (start + 1) (take (length branches) boxes))) (λ branch. list_any (λ m. m.number == branch.0) (fresh_members start (take (length (b ∷ branches)) (box ∷ boxes)))) branches (λ x is. or_right (start == x.0) _ is) (fresh_cover (start + 1) branches boxes parts.1 (suc_le (length branches) (length boxes) room))) where
      turned : (s n : ℕ) → (n == s) ≡ true → (s == n) ≡ true
      turned s n is = grind (arith, nat_tests, is)

apart_last : (ts : List Transaction) (u : Transaction) → are_distinct is_same (keys_of (ts ++ u ∷ [])) ≡ true → (t : Transaction) → In t ts → t.key ≡ u.key → ⊥
apart_last [] u apart t there same = there
apart_last (x ∷ ts) u apart t there same = step there (apart_last ts u parts.1 t) where
  parts : (not (list_any (is_same x.key) (keys_of (ts ++ u ∷ []))) ≡ true) × (are_distinct is_same (keys_of (ts ++ u ∷ [])) ≡ true)
  parts = and_parts (not (list_any (is_same x.key) (keys_of (ts ++ u ∷ [])))) (are_distinct is_same (keys_of (ts ++ u ∷ []))) apart

  last_in : (ys : List Transaction) → In u (ys ++ u ∷ [])
  last_in [] = inl refl
  last_in (y ∷ ys) = inr (last_in ys)

  step : (t ≡ x) ⊎ In t ts → (In t ts → t.key ≡ u.key → ⊥) → ⊥
  step (inl is) later = both_ways (is_same x.key u.key) (in_key x.key (ts ++ u ∷ []) u (not-true _ parts.0) (last_in ts)) (subst (λ k. is_same x.key k ≡ true) (ap (λ (y : Transaction). y.key) (sym is) ∙ same) (key_self x.key))
  step (inr is) later = later is same

module _ (world : World) (sound : IsSound world) (branches : List (ℕ × List ℕ)) (declared : world.state.head.branches ≡ branches) (counted : are_counted_from 1 branches ≡ true) where
  abbrev realm : List ℕ
  realm = world.state.head.name

  abbrev now : ℕ
  now = world.state.head.epoch

  made_new : (v : Work) → Made (entered world.state) v → are_distinct is_same (keys_of v.state.transactions) ≡ true → (u : Transaction) → In u v.state.transactions → (In u world.state.transactions) ⊎ New now branches world.state.transactions u
  made_new v made apart u there = elim (in_append world.state.transactions _ u (subst (In u) made.transactions there)) [
    | inl old ↦ inl old
    | inr new ↦ elim new [
      | inl is ↦ inr (subst (New now branches world.state.transactions) (sym is) (record {
        absent = apart_last world.state.transactions _ (subst (λ ts. are_distinct is_same (keys_of ts) ≡ true) made.transactions apart);
        unheard = unanswered;
        covered = λ party at. subst (λ (p : PartyNotes). covers p.members branches ≡ true) (ap (party_in party) at) (subst (λ bs. covers (fresh_members 1 (take (length bs) made.connection.boxes)) branches ≡ true) (sym declared) (fresh_cover 1 branches made.connection.boxes counted (subst (λ bs. nat_le (length bs) (length made.connection.boxes) ≡ true) declared made.room)));
        place = (_, refl);
        epoch = number_self world.state.head.epoch;
      }))
      | inr none ↦ absurd none
    ]
  ] where
    party_in : PartyNotes → PartyPlace → PartyNotes
    party_in other (Here p) = p
    party_in other place = other

    unanswered : (q : ℕ) → answer_at (local_party ∷ []) q ≡ None
    unanswered zero = refl
    unanswered (suc q) = refl

  -- one that stays
  module _ (Called : Transaction → Type 0) (moment : Moment) where
    pub stays_follows : (errands : List PartyNotes) (u : Transaction) → In u world.state.transactions → ((q : ℕ) → heard_answer realm (identifier realm u.key) q moment ≡ None) → ((u.key.epoch == now) ≡ true → Covers now branches errands (identifier realm u.key) u.place) → Passed realm now branches Called moment errands world.state.transactions u
    stays_follows errands u there none covered = record {
      before = u;
      listed = there;
      follows = record {
        key = refl;
        live = open_same u u refl;
        answers = λ live this. record { parts = λ q least. sym (ap (λ h. or_else h (answer_at u.parts q)) (none q)); local = λ a is. inl is; more = λ q is. is };
        covered = covered;
      };
    }

    -- AN EVENT of its own
    module _ (mine : List Moment) (was : In_world world (mine ++ moment ∷ [])) (met : moment.world ≡ world) where
      abbrev all : List Moment
      all = mine ++ moment ∷ []

      ends_walk : (w : Work) (a : Attempt) (outcome : Outcome) → EndsSo w a → Walks w (chosen a outcome) ⊎ Made w (chosen a outcome)
      ends_walk w (Attempt.Done v) outcome goes = goes
      ends_walk w (Attempt.Asks change stored refused) Stored goes = inl goes.0
      ends_walk w (Attempt.Asks change stored refused) Refused goes = inl goes.1
      ends_walk w (Attempt.Asks change stored refused) NoChange goes = inl goes.1

      module _ (event : Event) (outcome : Outcome) (room : is_open world.state ≡ true) (move : moment.move ≡ Move.Step event outcome) (none : brings_no_party event ≡ true) where
        abbrev tried : Attempt
        tried = attempt event (entered world.state)

        abbrev v : Work
        v = chosen tried outcome

        abbrev Goes_on : Transaction → Type 0
        Goes_on u = Passed realm now branches Called moment (world.errands ++ option_to_list v.answer.work) world.state.transactions u ⊎ New now branches world.state.transactions u

        refusing : moment.shown ≡ outputs event (wanted tried) outcome (ordered world.state v).answer → (why : Refusal) → v.answer.refusal ≡ Some why → list_any is_refusal moment.shown ≡ true
        unfolding ordered
        refusing shows why is =
            let rest = option_to_list (option_map Output.Opened v.answer.opened) ++ (brought event ++ (option_to_list (option_map (λ c. Output.Changed c outcome) (wanted tried)) ++ (map Output.Sent (ordered world.state v).answer.sent ++ (option_to_list (option_map (λ (party : PartyNotes). Output.Works party.id party.errand) v.answer.work) ++ option_map_or drops_of v.answer.spent [])))) in
            ap (list_any is_refusal) shows ∙ (list_any-append is_refusal (option_to_list (option_map Output.Refused v.answer.refusal)) rest ∙ or_left (list_any is_refusal (option_to_list (option_map Output.Refused v.answer.refusal))) _ (ap (λ o. list_any is_refusal (option_to_list (option_map Output.Refused o))) is))

        module _ (shows : moment.shown ≡ outputs event (wanted tried) outcome (ordered world.state v).answer) (covered : (t : Transaction) → In t world.state.transactions → (t.key.epoch == now) ≡ true → Covers now branches world.errands (identifier realm t.key) t.place)
            (apart : are_distinct is_same (keys_of v.state.transactions) ≡ true) (well : (u : Transaction) → In u v.state.transactions → (u.phase ≡ Aborted → ⊥) → (q : ℕ) (a : Ballot) → answer_at u.parts q ≡ Some a → is_willing a ≡ true) where
          base : Base realm all now (entered world.state) world.errands world.rows
          base = base_entered world sound all was.shown was.cared

          no_work : v.answer.work ≡ None → (t : Transaction) → In t world.state.transactions → (t.key.epoch == now) ≡ true → Covers now branches (world.errands ++ option_to_list v.answer.work) (identifier realm t.key) t.place
          no_work idle t listed this = covers_on now branches world.errands v.answer.work (identifier realm t.key) t.place t.place (covered t listed this) (inl refl) (λ party is named. absurd (none-some party (sym idle ∙ is)))

          quietly_passes : Quietly event (entered world.state) tried → (u : Transaction) → In u v.state.transactions → Goes_on u
          quietly_passes quietly u there = elim (ends_walk (entered world.state) tried outcome quietly.goes) [
            | inl walks ↦
                let wasu = walks.each u there in
                let t = wasu.before in
                inl (record {
                  before = t;
                  listed = wasu.there;
                  follows = record {
                    key = wasu.key;
                    live = wasu.live;
                    answers = λ live this. answers_stay (Called t) realm (identifier realm t.key) moment t.parts u.parts (quiet_heard world sound event outcome tried moment met move quietly (refusing shows) t u wasu.there there wasu.key live) wasu.parts (well u there live);
                    covered = λ this. covers_on now branches world.errands v.answer.work (identifier realm t.key) t.place u.place (covered t wasu.there this) wasu.place (sent_from realm all now (entered world.state) world.errands world.rows base v walks t wasu.there);
                  };
                })
            | inr made ↦ elim (made_new v made apart u there) [
              | inr new ↦ inr new
              | inl old ↦ inl (record {
                before = u;
                listed = old;
                follows = record {
                  key = refl;
                  live = open_same u u refl;
                  answers = λ live this. answers_stay (Called u) realm (identifier realm u.key) moment u.parts u.parts (quiet_heard world sound event outcome tried moment met move quietly (refusing shows) u u old there refl live) (lasts_same u.parts) (well u there live);
                  covered = no_work made.work u old;
                };
              })
            ]
          ]

          heard_nothing : list_any is_refusal moment.shown ≡ true → (id : List ℕ) (q : ℕ) → heard_answer realm id q moment ≡ None
          heard_nothing refused id q = none_heard realm id q moment (ap (λ b. cond b None (came_in moment.move moment.world.state)) refused)

          stands_passes : (why : Refusal) → v.answer.refusal ≡ Some why → Stands world.state.transactions tried outcome → (u : Transaction) → In u v.state.transactions → Goes_on u
          stands_passes why is stands u there =
              let old = subst (In u) stands.transactions there in
              inl (stays_follows (world.errands ++ option_to_list v.answer.work) u old (heard_nothing (refusing shows why is) (identifier realm u.key)) (no_work stands.work u old))

          says_passes : (says : Says event (entered world.state) tried) → heard_in moment ≡ Some (record { connection = says.connection; response = says.noted.response }) → (u : Transaction) → In u v.state.transactions → Goes_on u
          says_passes says heard u there =
              let noted = says.noted in
              let w = alter noted.key (noting noted.part noted.note) (entered world.state) in
              let walks = chosen_walks w tried outcome noted.goes in
              let wasu = walks.each u there in
              let noted_base = base_noted world sound says.connection (seated_there says.seat world.state says.connection says.there) noted.key noted.part noted.on noted.awaited noted.waits (noted_partly noted.awaited noted.response noted.note noted.so) mine moment met was.shown was.cared noted.response noted.note noted.so heard in
              let of = from_noted noted.key noted.part noted.note wasu.before wasu.there in
              let t = of.0 in
              let same : u.key ≡ t.key = wasu.key ∙ of.2 in
              inl (record {
                before = t;
                listed = of.1;
                follows = record {
                  key = same;
                  live = open_then t wasu.before u (open_same t wasu.before of.3) wasu.live;
                  answers = λ live this. says_answers world sound event outcome tried moment met move says heard (Called t) u there (well u there live) wasu t of.1 same;
                  covered = λ this. subst (λ k. Covers now branches (world.errands ++ option_to_list v.answer.work) (identifier realm k) u.place) of.2 (covers_on now branches world.errands v.answer.work (identifier realm wasu.before.key) wasu.before.place u.place (subst (λ p. Covers now branches world.errands (identifier realm wasu.before.key) p) (sym of.4) (subst (λ k. Covers now branches world.errands (identifier realm k) t.place) (sym of.2) (covered t of.1 this))) wasu.place (sent_from realm all now w world.errands world.rows noted_base v walks wasu.before wasu.there));
                };
              }) where
                from_noted : (key : Key) (part : ℕ) (note : Participant → Participant) (b : Transaction) → In b (alter key (noting part note) (entered world.state)).state.transactions → (t : Transaction) × (In t world.state.transactions) × (b.key ≡ t.key) × (b.phase ≡ t.phase) × (b.place ≡ t.place)
                from_noted key part note b is = elim (in_changed (has_key key) (noting part note) world.state.transactions b is) [
                  | inl old ↦ (b, old, refl, refl, refl)
                  | inr new ↦ (new.0, in_found (has_key key) world.state.transactions new.0 new.1, ap (λ (x : Transaction). x.key) new.2, ap (λ (x : Transaction). x.phase) new.2, ap (λ (x : Transaction). x.place) new.2)
                ]

          pub event_passes : (u : Transaction) → In u v.state.transactions → Goes_on u
          unfolding ordered
          event_passes u there = elim (happens_so (entered world.state) (entered_whole world.state (sound_whole world sound)) event none) [
            | inl quietly ↦ quietly_passes quietly u there
            | inr says ↦ by_refusal says v.answer.refusal refl
          ] where
            by_refusal : (says : Says event (entered world.state) tried) (why : Option Refusal) → v.answer.refusal ≡ why → Goes_on u
            by_refusal says (Some why) is = stands_passes why is (refused_stands world sound mine moment met event outcome room why is) u there
            by_refusal says None is = says_passes says (heard_so world sound mine moment met event outcome room move shows was says is) u there
