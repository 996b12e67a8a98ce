-- What is noted of a part that answered, and what follows, leaves a realm whole.
use Rattle.std.proofs.Common.{◌≡◌, Bool, true, false, ℕ, ◌+◌, suc, zero, List, [], ◌∷◌, Option, Some, None, cond, refl, ap, subst, ◌∙◌, ◌⊎◌, inl, inr}
use Rattle.std.specs.Prelude.{find, map}
use Rattle.std.specs.List.{list_any}
use Rattle.std.proofs.lemmas.Bool.{and_from, and_parts, and_right, or_from}
use Rattle.tip_rows.specs.Keys.{Key}
use Rattle.tip_branch.specs.declared.member.Errand.TheVariants as errand
use Rattle.tip_conn.specs.declared.state.State.TheVariants as state
use Rattle.tip_txn.specs.Parts.{changed_at}
use Rattle.tip_txn.specs.declared.answer.Ballot.{Ballot}
use Rattle.tip_txn.specs.declared.answer.Ballot.TheVariants.{Yes, ReadOnly}
use Rattle.tip_txn.specs.declared.answer.Decision.{Decision}
use Rattle.tip_txn.specs.declared.answer.Decision.TheVariants as decisions
use Rattle.tip_txn.specs.declared.answer.Phase.{Phase}
use Rattle.tip_txn.specs.declared.answer.Phase.TheVariants.{Active, Asking, Prepared, Committed, Aborted}
use Rattle.tip_txn.specs.declared.part.Participant.{Participant}
use Rattle.tip_machine.specs.Changes.{alter, change}
use Rattle.tip_machine.specs.Connections.{asks_for, has_number, is_part_of, is_superior_of, reaches}
use Rattle.tip_machine.specs.Invariants.Links.{Link, link}
use Rattle.tip_machine.specs.Invariants.Links.Link.{Gone, Awaits}
use Rattle.tip_machine.specs.Invariants.Phases.{has_come_to, has_its_address, is_part, is_part_in, is_party, is_superior}
use Rattle.tip_machine.specs.Proceeding.{proceed}
use Rattle.tip_machine.specs.States.{State, Work, connection_of, transaction_of}
use Rattle.tip_machine.specs.Transactions.{decision, decision_of, noting, refuses}
use Rattle.tip_machine.specs.Types.{Connection, PartyPlace, Transaction}
use Rattle.tip_machine.specs.declared.connection.Awaited.TheVariants as awaited
use Rattle.tip_machine.specs.declared.connection.Role.{Role}
use Rattle.tip_machine.specs.declared.connection.Role.TheVariants.{Subordinate}
use Rattle.tip_machine.specs.declared.transaction.PartyPlace.TheVariants.{Here, Out}
use Rattle.tip_agreement.proofs.Aborting.{may_abort_above, may_abort_part, may_abort_party, own_as}
use Rattle.tip_agreement.proofs.Around.{Around, Whole, alter_around, around_of, beside, found_altered, set, stands}
use Rattle.tip_agreement.proofs.Closing.{have_noted, in_table, known, noted_length, other_place, stoppable_above, stoppable_parts, stoppable_party, untold_in}
use Rattle.tip_agreement.proofs.Deciding.{may_commit, may_commit_part}
use Rattle.tip_agreement.proofs.Found.{find_apart, find_at}
use Rattle.tip_agreement.proofs.Keys.{key_self}
use Rattle.tip_agreement.proofs.Owned.{InPhase, Owned, from_as, have_parts, once_part, own_still, parts_from, place_self}
use Rattle.tip_agreement.proofs.Proceeding.{AllWhole, Follows, may_ask, may_ask_part, may_ask_party, proceed_whole}
use Rattle.tip_agreement.proofs.Sound.{found_once}
use Rattle.tip_agreement.proofs.Proceeding.Follows.{OfActive, OfAsking, OfCommitted, OfAborted}

-- An active transaction waits

none_refuse : (place : ℕ) (parts : List Participant) (key : Key) (cs : List Connection) → parts_from (is_part_in Active) place parts key cs ≡ true → list_any refuses (map (λ (part : Participant). part.answer) parts) ≡ false
none_refuse place [] key cs all = refl
none_refuse place (p ∷ parts) key cs all =
    let both = and_parts (is_part_in Active _ p) (parts_from (is_part_in Active) (place + 1) parts key cs) all in
    let fits = in_table Active (link (find (is_part_of key place) cs)) p both.0 in
    or_from _ _ (agreeable (link (find (is_part_of key place) cs)) p.answer fits.fits) (none_refuse (place + 1) parts key cs both.1) where
      agreeable : (l : Link) (answer : Option Ballot) → is_part Active l answer ≡ true → refuses answer ≡ false
      agreeable (Awaits state.Idle (Some awaited.Push)) None is = refl
      agreeable (Awaits state.Enlisted None) None is = refl
      agreeable Gone (Some ReadOnly) is = refl
      agreeable l answer is = absurd (cc)

pub active_decides : (place : PartyPlace) (parts : List Participant) (key : Key) (cs : List Connection) → have_parts (is_part_in Active) (is_party Active) place parts key cs ≡ true → decision (map (λ (part : Participant). part.answer) parts) ≡ decisions.Wait
active_decides place [] key cs all = absurd (cc)
active_decides place (local ∷ parts) key cs all =
    let both = and_parts (is_party Active place local.answer) (parts_from (is_part_in Active) 1 parts key cs) all in
    step place local.answer both.0 (none_refuse 1 parts key cs both.1) where
      step : (place : PartyPlace) (answer : Option Ballot) → is_party Active place answer ≡ true → list_any refuses (map (λ (part : Participant). part.answer) parts) ≡ false → decision (answer ∷ map (λ (part : Participant). part.answer) parts) ≡ decisions.Wait
      step (Here party) None is none = rw none refl
      step place answer is none = absurd (cc)

-- The tables from which a phase goes on

abbrev pub part_before : Phase → Link → Participant → Bool
part_before Active link part = is_part_in Active link part
part_before Asking link part = may_ask_part link part
part_before Prepared link part = false
part_before Committed link part = may_commit_part link part
part_before Aborted link part = may_abort_part link part

-- nothing is noted of a part in doubt
abbrev pub is_going : Phase → Bool
is_going Active = true
is_going Asking = true
is_going Prepared = false
is_going Committed = true
is_going Aborted = true

asking_before : (link : Link) (answer : Option Ballot) → is_part Asking link answer ≡ true → may_ask link answer ≡ true
asking_before (Awaits state.Idle (Some awaited.Push)) None is = refl
asking_before (Awaits state.Enlisted (Some awaited.Prepare)) None is = refl
asking_before (Awaits state.Prepared None) (Some Yes) is = refl
asking_before Gone (Some Yes) is = refl
asking_before Gone (Some ReadOnly) is = refl
asking_before link answer is = absurd (cc)

committed_before : (link : Link) (answer : Option Ballot) → is_part Committed link answer ≡ true → may_commit link answer ≡ true
committed_before (Awaits state.Prepared (Some awaited.Commit)) (Some Yes) is = refl
committed_before (Awaits state.Idle (Some awaited.Reconnect)) (Some Yes) is = refl
committed_before Gone (Some Yes) is = refl
committed_before Gone (Some ReadOnly) is = refl
committed_before link answer is = absurd (cc)

pub before_part : (phase : Phase) → is_going phase ≡ true → (link : Link) (part : Participant) → is_part_in phase link part ≡ true → part_before phase link part ≡ true
before_part Active can link part is = is
before_part Asking can link part is = let a = in_table Asking link part is in and_from _ _ (and_from _ _ (asking_before link part.answer a.fits) (untold_in Asking refl part link a.told)) a.named
before_part Prepared can link part is = absurd (cc)
before_part Committed can link part is = let a = in_table Committed link part is in and_from _ _ (and_from _ _ (committed_before link part.answer a.fits) a.told) a.named
before_part Aborted can link part is = stoppable_parts Aborted refl link part is

pub asking_party : (place : PartyPlace) (answer : Option Ballot) → is_party Asking place answer ≡ true → may_ask_party place answer ≡ true
asking_party (Out errand.Vote) None is = refl
asking_party (Here party) (Some Yes) is = is
asking_party (Here party) (Some ReadOnly) is = is
asking_party place answer is = absurd (cc)

same_answers : (m : ℕ) (f : Participant → Participant) (parts : List Participant) → ((p : Participant) → (f p).answer ≡ p.answer) → map (λ (part : Participant). part.answer) (changed_at m f parts) ≡ map (λ (part : Participant). part.answer) parts
same_answers m f [] same = refl
same_answers zero f (p ∷ parts) same = ap (λ a. a ∷ map (λ (part : Participant). part.answer) parts) (same p)
same_answers (suc m) f (p ∷ parts) same = ap (λ rest. p.answer ∷ rest) (same_answers m f parts same)

pub commit_agreed : (d : Decision) → has_come_to Committed d ≡ true → d ≡ decisions.Commit
commit_agreed decisions.Commit is = refl
commit_agreed decisions.Wait is = absurd (cc)
commit_agreed decisions.Abort is = absurd (cc)
commit_agreed decisions.ReadOnly is = absurd (cc)

-- what becomes of the connection: its role stays or is left, and it stands
pub record Becomes (s : State) (c d : Connection) : Type 0 where
  pub role : (d.role ≡ c.role) ⊎ (d.role ≡ None)
  pub stand : stands s d ≡ true

module _ (m : ℕ) (t : Transaction) (c : Connection) (w : Work) (whole : Whole w.state) (there : connection_of c.number w.state ≡ Some c) (found : transaction_of t.key w.state ≡ Some t) (on : c.role ≡ Some (Subordinate t.key (suc m))) (f : Connection → Connection) (becomes : Becomes w.state c (f c)) (note : Participant → Participant) where
  abbrev went : Work
  went = change c.number f w

  abbrev noted : Work
  noted = alter t.key (noting (suc m) note) went

  then_on : (test : Option Role → Bool) → test None ≡ false → test c.role ≡ false → test (f c).role ≡ false
  then_on test none fails = elim becomes.role [ inl same ↦ ap test same ∙ fails | inr left ↦ ap test left ∙ none ]

  goes_on : InPhase t.key t w.state
  goes_on = known t.key t c w whole there found

  on_part : is_part_of t.key (suc m) c ≡ true
  on_part = ap (reaches t.key (suc m)) on ∙ and_from _ _ (key_self t.key) (place_self (suc m))

  around_went : Around t.key went.state
  around_went = set t.key w.state c.number f c there (ap (beside t.key) on ∙ key_self t.key) becomes.role becomes.stand (around_of t.key w.state whole)

  around_noted : Around t.key noted.state
  around_noted = alter_around t.key went.state (noting (suc m) note) (λ t. refl) (λ t. noted_length (suc m) note t.parts) around_went

  above_went : find (is_superior_of t.key) went.state.connections ≡ find (is_superior_of t.key) w.state.connections
  above_went = find_apart (is_superior_of t.key) (has_number c.number) f w.state.connections c there (ap (asks_for t.key) on) (then_on (asks_for t.key) refl (ap (asks_for t.key) on))

  others_went : (place : ℕ) → ¬ (place ≡ suc m) → find (is_part_of t.key place) went.state.connections ≡ find (is_part_of t.key place) w.state.connections
  others_went place differs = find_apart (is_part_of t.key place) (has_number c.number) f w.state.connections c there (apart place differs) (then_on (reaches t.key place) refl (apart place differs)) where
    apart : (place : ℕ) → ¬ (place ≡ suc m) → is_part_of t.key place c ≡ false
    apart place differs = ap (reaches t.key place) on ∙ and_right _ _ (other_place place m differs)

  part_was : find (is_part_of t.key (suc m)) w.state.connections ≡ Some c
  part_was = found_once (is_part_of t.key (suc m)) (has_number c.number) w.state.connections c (once_part t.key (suc m) w.state.connections whole.apart) there on_part

  part_went : find (is_part_of t.key (suc m)) went.state.connections ≡ cond (is_part_of t.key (suc m) (f c)) (Some (f c)) None
  part_went = find_at (is_part_of t.key (suc m)) (has_number c.number) f w.state.connections c (once_part t.key (suc m) w.state.connections whole.apart) there on_part

  module _ (new : Link) (is_new : link (cond (is_part_of t.key (suc m) (f c)) (Some (f c)) None) ≡ new) where
    parts_noted : (table : Link → Participant → Bool) (party : PartyPlace → Option Ballot → Bool) → ((l : Link) (p : Participant) → is_part_in t.phase l p ≡ true → table l p ≡ true) → ((answer : Option Ballot) → is_party t.phase t.place answer ≡ true → party t.place answer ≡ true) → ((p : Participant) → is_part_in t.phase (link (Some c)) p ≡ true → table new (note p) ≡ true) → have_parts table party t.place (changed_at (suc m) note t.parts) t.key went.state.connections ≡ true
    parts_noted table party more local here = have_noted t.key w.state.connections went.state.connections (suc m) (is_part_in t.phase) table others_went more note m (is_party t.phase) party t.place t.parts refl local (λ p at fits. ap (λ o. table (link o) (note p)) part_went ∙ (ap (λ l. table l (note p)) is_new ∙ here p (subst (λ o. is_part_in t.phase (link o) p ≡ true) part_was fits))) goes_on.owned.parts

    owned_noted : (above : Link → Bool) (table : Link → Participant → Bool) (party : PartyPlace → Option Ballot → Bool) → ((l : Link) → is_superior t.phase t.origin l ≡ true → above l ≡ true) → have_parts table party t.place (changed_at (suc m) note t.parts) t.key went.state.connections ≡ true → Owned above table party t.key (noting (suc m) note t) noted.state
    owned_noted above table party up parts = record {
      found = found_altered t.key went.state (noting (suc m) note) (λ t. refl) t found;
      above = ap (λ o. above (link o)) above_went ∙ up _ goes_on.owned.above;
      parts = parts;
      own = own_still w.state noted.state (noting (suc m) note t) t.place refl refl ∙ own_as w.state t (noting (suc m) note t) t.place refl ∙ goes_on.owned.own;
    }

    -- by the phase
    noted_follows : (phase : Phase) → t.phase ≡ phase → is_going phase ≡ true → ((p : Participant) → is_part_in phase (link (Some c)) p ≡ true → part_before phase new (note p) ≡ true) → (phase ≡ Committed → (p : Participant) → (note p).answer ≡ p.answer) → Follows (noting (suc m) note t) noted.state
    noted_follows Active is can here keeps =
        let parts = parts_noted (is_part_in Active) (is_party Active) (λ l p fits. subst (λ f. is_part_in f l p ≡ true) is fits) (λ answer fits. subst (λ f. is_party f t.place answer ≡ true) is fits) (λ p fits. here p (subst (λ f. is_part_in f (link (Some c)) p ≡ true) is fits)) in
        let owned = owned_noted (is_superior Active t.origin) (is_part_in Active) (is_party Active) (λ l fits. subst (λ f. is_superior f t.origin l ≡ true) is fits) parts in
        OfActive is (from_as Active t.key (noting (suc m) note t) noted.state is owned (ap (λ o. has_its_address Active t.origin o) above_went ∙ subst (λ f. has_its_address f t.origin (find (is_superior_of t.key) w.state.connections) ≡ true) is goes_on.address) (rw (active_decides t.place (changed_at (suc m) note t.parts) t.key went.state.connections parts) refl) refl)
    noted_follows Asking is can here keeps = OfAsking is (owned_noted (is_superior Asking t.origin) may_ask_part may_ask_party (λ l fits. subst (λ f. is_superior f t.origin l ≡ true) is fits) (parts_noted may_ask_part may_ask_party (λ l p fits. before_part Asking refl l p (subst (λ f. is_part_in f l p ≡ true) is fits)) (λ answer fits. asking_party t.place answer (subst (λ f. is_party f t.place answer ≡ true) is fits)) (λ p fits. here p (subst (λ f. is_part_in f (link (Some c)) p ≡ true) is fits))))
    noted_follows Prepared is can here keeps = absurd (cc)
    noted_follows Committed is can here keeps = OfCommitted is (ap decision (same_answers (suc m) note t.parts (keeps refl)) ∙ commit_agreed (decision_of t) (subst (λ f. has_come_to f (decision_of t) ≡ true) is goes_on.come)) (owned_noted (is_superior Committed t.origin) may_commit_part (is_party Committed) (λ l fits. subst (λ f. is_superior f t.origin l ≡ true) is fits) (parts_noted may_commit_part (is_party Committed) (λ l p fits. before_part Committed refl l p (subst (λ f. is_part_in f l p ≡ true) is fits)) (λ answer fits. subst (λ f. is_party f t.place answer ≡ true) is fits) (λ p fits. here p (subst (λ f. is_part_in f (link (Some c)) p ≡ true) is fits))))
    noted_follows Aborted is can here keeps = OfAborted is (owned_noted (may_abort_above t.origin) may_abort_part may_abort_party (λ l fits. stoppable_above Aborted refl t.origin l (subst (λ f. is_superior f t.origin l ≡ true) is fits)) (parts_noted may_abort_part may_abort_party (λ l p fits. stoppable_parts Aborted refl l p (subst (λ f. is_part_in f l p ≡ true) is fits)) (λ answer fits. stoppable_party Aborted refl t.place answer (subst (λ f. is_party f t.place answer ≡ true) is fits)) (λ p fits. here p (subst (λ f. is_part_in f (link (Some c)) p ≡ true) is fits))))

    pub noted_whole : is_going t.phase ≡ true → ((p : Participant) → is_part_in t.phase (link (Some c)) p ≡ true → part_before t.phase new (note p) ≡ true) → (t.phase ≡ Committed → (p : Participant) → (note p).answer ≡ p.answer) → AllWhole (proceed t.key noted)
    noted_whole can here keeps = proceed_whole t.key (noting (suc m) note t) noted (found_altered t.key went.state (noting (suc m) note) (λ t. refl) t found) around_noted (noted_follows t.phase refl can here keeps)
