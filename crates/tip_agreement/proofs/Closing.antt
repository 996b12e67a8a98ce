-- A connection that is lost or closed leaves a realm whole.
use Rattle.std.proofs.Common.{◌≡◌, ◌<◌, Bool, true, false, ℕ, ◌+◌, suc, zero, List, [], ◌∷◌, Option, Some, None, cond, refl, ap, subst, sym, arith, ◌∙◌}
use Rattle.std.specs.Prelude.{◌&&◌, ◌||◌, ◌==◌, not, find, is_some, length, nat_le, nat_lt, slice_get}
use Rattle.std.specs.List.{list_all}
use Rattle.std.specs.Option.{option_and_then, option_map_or}
use Rattle.std.proofs.lemmas.Bool.{and_from, and_parts, and_right, false_from_ne_true, not_from_false, or_left, or_right}
use Rattle.std.proofs.lemmas.Bool.Decides.{nat_tests}
use Rattle.tip_rows.specs.Keys.{Key}
use Rattle.tip_branch.specs.declared.member.Errand.TheVariants as errand
use Rattle.tip_conn.specs.declared.state.State.TheVariants as state
use Rattle.tip_line.specs.declared.command.CommandName.TheVariants as command
use Rattle.tip_table.specs.Lists.{without}
use Rattle.tip_txn.specs.Parts.{answer_at, answered, changed_at, is_yes}
use Rattle.tip_txn.specs.declared.answer.Ballot.{Ballot}
use Rattle.tip_txn.specs.declared.answer.Ballot.TheVariants.{Yes, ReadOnly, Lost}
use Rattle.tip_txn.specs.declared.answer.Phase.{Phase}
use Rattle.tip_txn.specs.declared.answer.Phase.TheVariants.{Active, Asking, Prepared, Committed, Aborted}
use Rattle.tip_txn.specs.declared.part.Participant.{Participant}
use Rattle.tip_machine.specs.Connections.{asks_for, has_number, is_on, is_part_of, is_superior_of, names, reaches}
use Rattle.tip_machine.specs.Changes.{alter, on, tell}
use Rattle.tip_machine.specs.Failing.{closed, fail, gone, lost_unanswered, missed, part_lost, superior_lost, wrong}
use Rattle.tip_machine.specs.Invariants.Links.{Link, link}
use Rattle.tip_machine.specs.Invariants.Links.Link.{Gone, Owes, Awaits}
use Rattle.tip_machine.specs.Invariants.Phases.{has_its_address, is_over, is_transaction, is_named, is_part, is_part_in, is_party, is_superior, may_have_acknowledged}
use Rattle.tip_machine.specs.States.{State, Work, connection_of, transaction_of}
use Rattle.tip_machine.specs.Proceeding.{abort}
use Rattle.tip_machine.specs.Transactions.{has_key, noting}
use Rattle.tip_machine.specs.Types.{Connection, PartyPlace, Transaction}
use Rattle.tip_machine.specs.declared.answer.Item.TheVariants.{Say, Close}
use Rattle.tip_machine.specs.declared.answer.Said.TheVariants as said
use Rattle.tip_machine.specs.declared.connection.Awaited.TheVariants as awaited
use Rattle.tip_machine.specs.declared.connection.Role.{Role}
use Rattle.tip_machine.specs.declared.connection.Role.TheVariants.{Superior, Subordinate}
use Rattle.tip_machine.specs.declared.transaction.Origin.{Origin}
use Rattle.tip_machine.specs.declared.transaction.Origin.TheVariants as origin
use Rattle.tip_machine.specs.declared.transaction.PartyPlace.TheVariants.{Here, Out, Spent}
use Rattle.tip_agreement.proofs.Aborting.{aborted_whole, own_as, may_abort, may_abort_above, may_abort_part, may_abort_party}
use Rattle.tip_agreement.proofs.Apart.{all_found, all_more}
use Rattle.tip_agreement.proofs.Found.{any_left, find_gone, find_left}
use Rattle.tip_agreement.proofs.Sound.{found_once}
use Rattle.tip_agreement.proofs.Reacting.{Standing, standing}
use Rattle.tip_agreement.proofs.Around.{Alike, Around, Whole, alter_around, altered, around_of, found_altered, is_placed, same_transaction, stands, beside, taken, whole_of, with_connections, le_self}
use Rattle.tip_agreement.proofs.Keys.{key_self}
use Rattle.tip_agreement.proofs.Owned.{InPhase, Owned, from_phase, have_parts, in_phase, key_found, once_part, once_superior, own_still, parts_from, place_self}

-- Parts, where the connection of one of them changes

module _ (key : Key) (cs new : List Connection) (at : ℕ) (table table' : Link → Participant → Bool) (same : (place : ℕ) → ¬ (place ≡ at) → find (is_part_of key place) new ≡ find (is_part_of key place) cs) (more : (l : Link) (p : Participant) → table l p ≡ true → table' l p ≡ true) where
  parts_beyond : (start : ℕ) (parts : List Participant) → at < start → parts_from table start parts key cs ≡ true → parts_from table' start parts key new ≡ true
  parts_beyond start [] less all = refl
  parts_beyond start (p ∷ parts) less all =
      let both = and_parts (table (link (find (is_part_of key start) cs)) p) (parts_from table (start + 1) parts key cs) all in
      and_from _ _ (ap (λ o. table' (link o) p) (same start (apart less)) ∙ more _ p both.0) (parts_beyond (start + 1) parts (further less) both.1) where
        apart : at < start → ¬ (start ≡ at)
        apart less is = omega (arith, less, is)

        further : at < start → at < start + 1
        further less = omega (arith, less)

  parts_noted : (f : Participant → Participant) (m start : ℕ) (parts : List Participant) → at ≡ start + m → ((p : Participant) → slice_get parts m ≡ Some p → table (link (find (is_part_of key at) cs)) p ≡ true → table' (link (find (is_part_of key at) new)) (f p) ≡ true) → parts_from table start parts key cs ≡ true → parts_from table' start (changed_at m f parts) key new ≡ true
  parts_noted f m start [] is here all = refl
  parts_noted f zero start (p ∷ parts) is here all =
      let both = and_parts (table (link (find (is_part_of key start) cs)) p) (parts_from table (start + 1) parts key cs) all in
      let first : at ≡ start = omega (arith, is) in
      and_from _ _ (subst (λ n. table' (link (find (is_part_of key n) new)) (f p) ≡ true) first (here p refl (subst (λ n. table (link (find (is_part_of key n) cs)) p ≡ true) (sym first) both.0))) (parts_beyond (start + 1) parts (omega (arith, is)) both.1)
  parts_noted f (suc m) start (p ∷ parts) is here all =
      let both = and_parts (table (link (find (is_part_of key start) cs)) p) (parts_from table (start + 1) parts key cs) all in
      and_from _ _ (ap (λ o. table' (link o) p) (same start (apart is)) ∙ more _ p both.0) (parts_noted f m (start + 1) parts (omega (arith, is)) here both.1) where
        apart : at ≡ start + suc m → ¬ (start ≡ at)
        apart is so = omega (arith, is, so)

  pub have_noted : (f : Participant → Participant) (m : ℕ) (party party' : PartyPlace → Option Ballot → Bool) (place : PartyPlace) (parts : List Participant) → at ≡ suc m → ((answer : Option Ballot) → party place answer ≡ true → party' place answer ≡ true) → ((p : Participant) → slice_get parts (suc m) ≡ Some p → table (link (find (is_part_of key at) cs)) p ≡ true → table' (link (find (is_part_of key at) new)) (f p) ≡ true) → have_parts table party place parts key cs ≡ true → have_parts table' party' place (changed_at (suc m) f parts) key new ≡ true
  have_noted f m party party' place [] is local here all = absurd (cc)
  have_noted f m party party' place (l ∷ parts) is local here all =
      let both = and_parts (party place l.answer) (parts_from table 1 parts key cs) all in
      and_from _ _ (local l.answer both.0) (parts_noted f m 1 parts (omega (arith, is)) here both.1)

  -- none of them
  pub have_same : (party party' : PartyPlace → Option Ballot → Bool) (place : PartyPlace) (parts : List Participant) → at ≡ 0 → ((answer : Option Ballot) → party place answer ≡ true → party' place answer ≡ true) → have_parts table party place parts key cs ≡ true → have_parts table' party' place parts key new ≡ true
  have_same party party' place [] is local all = absurd (cc)
  have_same party party' place (l ∷ parts) is local all =
      let both = and_parts (party place l.answer) (parts_from table 1 parts key cs) all in
      and_from _ _ (local l.answer both.0) (parts_beyond 1 parts (omega (arith, is)) both.1)

pub noted_length : (m : ℕ) (f : Participant → Participant) (parts : List Participant) → nat_le (length parts) (length (changed_at m f parts)) ≡ true
noted_length m f parts = subst (λ n. nat_le (length parts) n ≡ true) (sym (same m parts)) (le_self (length parts)) where
  same : (m : ℕ) (parts : List Participant) → length (changed_at m f parts) ≡ length parts
  same m [] = refl
  same zero (p ∷ parts) = refl
  same (suc m) (p ∷ parts) = ap suc (same m parts)

pub changed_none : (m : ℕ) (parts : List Participant) → changed_at m (λ p. p) parts ≡ parts
changed_none m [] = refl
changed_none zero (p ∷ parts) = refl
changed_none (suc m) (p ∷ parts) = ap (λ ps. p ∷ ps) (changed_none m parts)

-- Tables of what is aborted then

abbrev pub is_stoppable : Phase → Bool
is_stoppable Active = true
is_stoppable Asking = true
is_stoppable Prepared = false
is_stoppable Committed = false
is_stoppable Aborted = true

active_may_abort : (link : Link) (answer : Option Ballot) → is_part Active link answer ≡ true → may_abort link answer ≡ true
active_may_abort (Awaits state.Idle (Some awaited.Push)) None is = refl
active_may_abort (Awaits state.Enlisted None) None is = refl
active_may_abort Gone answer is = refl
active_may_abort link answer is = absurd (cc)

asking_may_abort : (link : Link) (answer : Option Ballot) → is_part Asking link answer ≡ true → may_abort link answer ≡ true
asking_may_abort (Awaits state.Idle (Some awaited.Push)) None is = refl
asking_may_abort (Awaits state.Enlisted (Some awaited.Prepare)) None is = refl
asking_may_abort (Awaits state.Prepared None) (Some Yes) is = refl
asking_may_abort Gone answer is = refl
asking_may_abort link answer is = absurd (cc)

aborted_may_abort : (link : Link) (answer : Option Ballot) → is_part Aborted link answer ≡ true → may_abort link answer ≡ true
aborted_may_abort (Awaits state.Idle (Some awaited.Push)) None is = refl
aborted_may_abort (Awaits state.Enlisted (Some awaited.Prepare)) None is = refl
aborted_may_abort (Awaits state.Enlisted (Some awaited.Abort)) None is = refl
aborted_may_abort (Awaits state.Prepared (Some awaited.Abort)) (Some Yes) is = refl
aborted_may_abort Gone answer is = refl
aborted_may_abort link answer is = absurd (cc)

stoppable_part : (phase : Phase) → is_stoppable phase ≡ true → (link : Link) (answer : Option Ballot) → is_part phase link answer ≡ true → may_abort link answer ≡ true
stoppable_part Active can link answer is = active_may_abort link answer is
stoppable_part Asking can link answer is = asking_may_abort link answer is
stoppable_part Prepared can link answer is = absurd (cc)
stoppable_part Committed can link answer is = absurd (cc)
stoppable_part Aborted can link answer is = aborted_may_abort link answer is

pub untold_in : (phase : Phase) → is_stoppable phase ≡ true → (part : Participant) (link : Link) → not part.acknowledged || may_have_acknowledged phase link part.answer ≡ true → not part.acknowledged ≡ true
untold_in Active can part link is = step (not part.acknowledged) is where
  step : (b : Bool) → b || false ≡ true → b ≡ true
  step true is = refl
  step false is = is
untold_in Asking can part link is = step (not part.acknowledged) is where
  step : (b : Bool) → b || false ≡ true → b ≡ true
  step true is = refl
  step false is = is
untold_in Aborted can part link is = step (not part.acknowledged) is where
  step : (b : Bool) → b || false ≡ true → b ≡ true
  step true is = refl
  step false is = is
untold_in Prepared can part link is = absurd (cc)
untold_in Committed can part link is = absurd (cc)

pub gone_may_abort : (from : Origin) → may_abort_above from Gone ≡ true
gone_may_abort origin.Root = refl
gone_may_abort (origin.Subordinate address superior) = refl

-- what is known of a part
pub record InTable (phase : Phase) (link : Link) (part : Participant) : Type 0 where
  pub fits : is_part phase link part.answer ≡ true
  pub told : not part.acknowledged || may_have_acknowledged phase link part.answer ≡ true
  pub named : is_named link part ≡ true

pub in_table : (phase : Phase) (link : Link) (part : Participant) → is_part_in phase link part ≡ true → InTable phase link part
in_table phase link part is =
    let a = and_parts (is_part phase link part.answer && (not part.acknowledged || may_have_acknowledged phase link part.answer)) (is_named link part) is in
    let b = and_parts (is_part phase link part.answer) (not part.acknowledged || may_have_acknowledged phase link part.answer) a.0 in
    record { fits = b.0; told = b.1; named = a.1 }

pub stoppable_parts : (phase : Phase) → is_stoppable phase ≡ true → (link : Link) (part : Participant) → is_part_in phase link part ≡ true → may_abort_part link part ≡ true
stoppable_parts phase can link part is = let a = in_table phase link part is in and_from _ _ (and_from _ _ (stoppable_part phase can link part.answer a.fits) (untold_in phase can part link a.told)) a.named

pub stoppable_party : (phase : Phase) → is_stoppable phase ≡ true → (place : PartyPlace) (answer : Option Ballot) → is_party phase place answer ≡ true → may_abort_party place answer ≡ true
stoppable_party phase can (Here party) answer is = refl
stoppable_party phase can Spent answer is = refl
stoppable_party phase can (Out errand.Vote) answer is = refl
stoppable_party phase can (Out errand.Abort) answer is = refl
stoppable_party Active can (Out errand) answer is = absurd (cc)
stoppable_party Asking can (Out errand) answer is = absurd (cc)
stoppable_party Aborted can (Out errand) answer is = absurd (cc)
stoppable_party Prepared can (Out errand) answer is = absurd (cc)
stoppable_party Committed can (Out errand) answer is = absurd (cc)

active_above : (from : Origin) (link : Link) → is_superior Active from link ≡ true → may_abort_above from link ≡ true
active_above origin.Root (Owes state.Begun None) is = refl
active_above (origin.Subordinate address superior) (Awaits state.Idle (Some awaited.Pull)) is = refl
active_above (origin.Subordinate address superior) (Owes state.Enlisted None) is = refl
active_above from link is = absurd (cc)

asking_above : (from : Origin) (link : Link) → is_superior Asking from link ≡ true → may_abort_above from link ≡ true
asking_above origin.Root (Owes state.Begun (Some command.Commit)) is = refl
asking_above (origin.Subordinate (Some address) superior) (Owes state.Enlisted (Some command.Prepare)) is = refl
asking_above (origin.Subordinate address superior) (Owes state.Enlisted (Some command.Commit)) is = refl
asking_above from link is = absurd (cc)

aborted_above : (from : Origin) (link : Link) → is_superior Aborted from link ≡ true → may_abort_above from link ≡ true
aborted_above origin.Root (Owes state.Begun None) is = refl
aborted_above (origin.Subordinate address superior) (Awaits state.Idle (Some awaited.Pull)) is = refl
aborted_above (origin.Subordinate address superior) (Owes state.Enlisted None) is = refl
aborted_above from Gone is = gone_may_abort from
aborted_above from link is = absurd (cc)

pub stoppable_above : (phase : Phase) → is_stoppable phase ≡ true → (from : Origin) (link : Link) → is_superior phase from link ≡ true → may_abort_above from link ≡ true
stoppable_above Active can from link is = active_above from link is
stoppable_above Asking can from link is = asking_above from link is
stoppable_above Prepared can from link is = absurd (cc)
stoppable_above Committed can from link is = absurd (cc)
stoppable_above Aborted can from link is = aborted_above from link is

-- named where it is gone, as it was
gone_named : (link : Link) (part : Participant) → may_abort link part.answer ≡ true → is_named link part ≡ true → is_named Gone part ≡ true
gone_named link part is named = step link part.answer refl is named where
  unsaid : (answer : Option Ballot) → part.answer ≡ answer → is_yes answer ≡ false → is_named Gone part ≡ true
  unsaid answer at none = or_left _ _ (not_from_false _ (ap is_yes at ∙ none))

  step : (link : Link) (answer : Option Ballot) → part.answer ≡ answer → may_abort link answer ≡ true → is_named link part ≡ true → is_named Gone part ≡ true
  step (Awaits state.Idle (Some awaited.Push)) None at is named = unsaid None at refl
  step (Awaits state.Enlisted None) None at is named = unsaid None at refl
  step (Awaits state.Enlisted (Some awaited.Prepare)) None at is named = unsaid None at refl
  step (Awaits state.Enlisted (Some awaited.Abort)) None at is named = unsaid None at refl
  step (Awaits state.Prepared None) (Some Yes) at is named = or_right _ _ named
  step (Awaits state.Prepared (Some awaited.Abort)) (Some Yes) at is named = or_right _ _ named
  step Gone answer at is named = named
  step link answer at is named = absurd (cc)

gone_part_aborts : (link : Link) (part : Participant) → may_abort_part link part ≡ true → may_abort_part Gone part ≡ true
gone_part_aborts link part is =
    let a = and_parts (may_abort link part.answer && not part.acknowledged) (is_named link part) is in
    let b = and_parts (may_abort link part.answer) (not part.acknowledged) a.0 in
    and_from _ _ b.1 (gone_named link part b.0 a.1)

lost_part_aborts : (link : Link) (part : Participant) → may_abort_part link part ≡ true → may_abort_part Gone (answered Lost part) ≡ true
lost_part_aborts link part is = and_from _ _ (and_parts (may_abort link part.answer) (not part.acknowledged) (and_parts (may_abort link part.answer && not part.acknowledged) (is_named link part) is).0).1 refl

-- Tables of what goes on without the connection

may_more : (phase : Phase) (link : Link) (answer : Option Ballot) → may_have_acknowledged phase link answer ≡ true → may_have_acknowledged phase Gone answer ≡ true
may_more Committed Gone (Some Yes) is = refl
may_more phase link answer is = absurd (cc)

told_still : (b : Bool) (phase : Phase) (link : Link) (answer : Option Ballot) → b || may_have_acknowledged phase link answer ≡ true → b || may_have_acknowledged phase Gone answer ≡ true
told_still true phase link answer is = refl
told_still false phase link answer is = may_more phase link answer is

-- one that has answered is as its phase says without its connection
part_gone : (phase : Phase) (link : Link) (answer : Option Ballot) (part : Participant) → part.answer ≡ answer → is_part phase link answer ≡ true → is_some answer ≡ true → is_named link part ≡ true → (is_part phase Gone answer ≡ true) × (is_named Gone part ≡ true)
part_gone Active (Awaits state.Idle (Some awaited.Push)) None part at is some named = absurd (cc)
part_gone Active (Awaits state.Enlisted None) None part at is some named = absurd (cc)
part_gone Active Gone (Some ReadOnly) part at is some named = (refl, named)
part_gone Asking (Awaits state.Idle (Some awaited.Push)) None part at is some named = absurd (cc)
part_gone Asking (Awaits state.Enlisted (Some awaited.Prepare)) None part at is some named = absurd (cc)
part_gone Asking (Awaits state.Prepared None) (Some Yes) part at is some named = (refl, or_right _ _ named)
part_gone Asking Gone (Some Yes) part at is some named = (refl, named)
part_gone Asking Gone (Some ReadOnly) part at is some named = (refl, named)
part_gone Prepared (Awaits state.Prepared None) (Some Yes) part at is some named = (refl, or_right _ _ named)
part_gone Prepared Gone (Some Yes) part at is some named = (refl, named)
part_gone Prepared Gone (Some ReadOnly) part at is some named = (refl, named)
part_gone Committed (Awaits state.Prepared (Some awaited.Commit)) (Some Yes) part at is some named = (refl, or_right _ _ named)
part_gone Committed (Awaits state.Idle (Some awaited.Reconnect)) (Some Yes) part at is some named = (refl, or_right _ _ named)
part_gone Committed Gone (Some Yes) part at is some named = (refl, named)
part_gone Committed Gone (Some ReadOnly) part at is some named = (refl, named)
part_gone Aborted (Awaits state.Idle (Some awaited.Push)) None part at is some named = absurd (cc)
part_gone Aborted (Awaits state.Enlisted (Some awaited.Prepare)) None part at is some named = absurd (cc)
part_gone Aborted (Awaits state.Enlisted (Some awaited.Abort)) None part at is some named = absurd (cc)
part_gone Aborted (Awaits state.Prepared (Some awaited.Abort)) (Some Yes) part at is some named = (refl, or_right _ _ named)
part_gone Aborted Gone answer part at is some named = (refl, named)
part_gone phase link answer part at is some named = absurd (cc)

parts_gone : (phase : Phase) (link : Link) (part : Participant) → is_part_in phase link part ≡ true → is_some part.answer ≡ true → is_part_in phase Gone part ≡ true
parts_gone phase link part is some =
    let a = in_table phase link part is in
    let after = part_gone phase link part.answer part refl a.fits some a.named in
    and_from _ _ (and_from _ _ after.0 (told_still (not part.acknowledged) phase link part.answer a.told)) after.1

-- each has answered where it is decided
answered_prepared : (link : Link) (answer : Option Ballot) → is_part Prepared link answer ≡ true → is_some answer ≡ true
answered_prepared link (Some answer) is = refl
answered_prepared (Awaits state.Prepared None) None is = absurd (cc)
answered_prepared link None is = absurd (cc)

answered_committed : (link : Link) (answer : Option Ballot) → is_part Committed link answer ≡ true → is_some answer ≡ true
answered_committed link (Some answer) is = refl
answered_committed (Awaits state.Prepared (Some awaited.Commit)) None is = absurd (cc)
answered_committed (Awaits state.Idle (Some awaited.Reconnect)) None is = absurd (cc)
answered_committed link None is = absurd (cc)

-- in doubt, a transaction goes on without its superior
doubt_alone : (from : Origin) (link : Link) → is_superior Prepared from link ≡ true → is_superior Prepared from Gone ≡ true
doubt_alone (origin.Subordinate (Some address) superior) link is = refl
doubt_alone from link is = absurd (cc)

-- The connection is taken out

module _ (key : Key) (t : Transaction) (c : Connection) (w : Work) (whole : Whole w.state) (there : connection_of c.number w.state ≡ Some c) (found : transaction_of key w.state ≡ Some t) where
  abbrev left : State
  left = with_connections key w.state (without (has_number c.number) w.state.connections)

  pub known : InPhase key t w.state
  known = in_phase key t w.state found (all_found (is_transaction w.state) (has_key key) w.state.transactions t whole.transactions found)

  module _ (on : c.role ≡ Some (Superior key)) where
    pub above_there : find (is_superior_of key) w.state.connections ≡ Some c
    above_there = found_once (is_superior_of key) (has_number c.number) w.state.connections c (once_superior key w.state.connections whole.apart) there (ap (asks_for key) on ∙ key_self key)

    around_left : Around key left
    around_left = taken key w.state c.number c there (ap (beside key) on ∙ key_self key) (around_of key w.state whole)

    above_gone : find (is_superior_of key) left.connections ≡ None
    above_gone = find_gone (is_superior_of key) (has_number c.number) w.state.connections c (once_superior key w.state.connections whole.apart) there (ap (asks_for key) on ∙ key_self key)

    parts_left : (place : ℕ) → find (is_part_of key place) left.connections ≡ find (is_part_of key place) w.state.connections
    parts_left place = find_left (is_part_of key place) (has_number c.number) w.state.connections c there (ap (reaches key place) on)

    owned_alone : (above : Link → Bool) (table : Link → Participant → Bool) (party : PartyPlace → Option Ballot → Bool) → above Gone ≡ true → ((l : Link) (p : Participant) → is_part_in t.phase l p ≡ true → table l p ≡ true) → ((answer : Option Ballot) → is_party t.phase t.place answer ≡ true → party t.place answer ≡ true) → Owned above table party key t left
    owned_alone above table party up down local = record {
      found = found;
      above = ap (λ o. above (link o)) above_gone ∙ up;
      parts = have_same key w.state.connections left.connections 0 (is_part_in t.phase) table (λ place differs. parts_left place) down (is_party t.phase) party t.place t.parts refl local known.owned.parts;
      own = own_still w.state left t t.place refl refl ∙ known.owned.own;
    }

    stops : is_stoppable t.phase ≡ true → Whole (abort key (gone c w)).state
    unfolding gone
    stops can = aborted_whole key t (gone c w) around_left (owned_alone (may_abort_above t.origin) may_abort_part may_abort_party (gone_may_abort t.origin) (stoppable_parts t.phase can) (stoppable_party t.phase can t.place))

    waits : (phase : Phase) → t.phase ≡ phase → is_superior phase t.origin Gone ≡ true → has_its_address phase t.origin None ≡ true → not (is_over phase left t) ≡ true → Whole (gone c w).state
    unfolding gone
    waits phase is above address over = whole_of key left t found (from_phase key t left (record {
      owned = owned_alone (is_superior t.phase t.origin) (is_part_in t.phase) (is_party t.phase) (ap (λ f. is_superior f t.origin Gone) is ∙ above) (λ l p fits. fits) (λ answer fits. fits);
      address = ap (λ o. has_its_address t.phase t.origin o) above_gone ∙ (ap (λ f. has_its_address f t.origin None) is ∙ address);
      come = known.come;
      over = ap (λ f. not (is_over f left t)) is ∙ over;
    })) around_left

    pub superior_lost_whole : (phase : Phase) → t.phase ≡ phase → Whole (superior_lost phase key (gone c w)).state
    superior_lost_whole Active is = stops (ap is_stoppable is)
    superior_lost_whole Asking is = stops (ap is_stoppable is)
    superior_lost_whole Aborted is = stops (ap is_stoppable is)
    superior_lost_whole Prepared is = waits Prepared is (doubt_alone t.origin _ (subst (λ f. is_superior f t.origin (link (find (is_superior_of key) w.state.connections)) ≡ true) is known.owned.above)) refl refl
    superior_lost_whole Committed is = waits Committed is (committed_alone t.origin) refl refl where
      committed_alone : (from : Origin) → is_superior Committed from Gone ≡ true
      committed_alone origin.Root = refl
      committed_alone (origin.Subordinate address superior) = refl

-- The connection of a part is taken out

pub other_place : (place m : ℕ) → ¬ (place ≡ suc m) → (place == suc m) ≡ false
other_place place m differs = false_from_ne_true (place == suc m) (λ same. differs (grind (arith, nat_tests, same)))

module _ (m : ℕ) (t : Transaction) (c : Connection) (w : Work) (whole : Whole w.state) (there : connection_of c.number w.state ≡ Some c) (found : transaction_of t.key w.state ≡ Some t) (on : c.role ≡ Some (Subordinate t.key (suc m))) where
  pub part_of : InPhase t.key t w.state
  part_of = known t.key t c w whole there found

  part_on : is_part_of t.key (suc m) c ≡ true
  part_on = ap (reaches t.key (suc m)) on ∙ and_from _ _ (key_self t.key) (place_self (suc m))

  pub part_there : find (is_part_of t.key (suc m)) w.state.connections ≡ Some c
  part_there = found_once (is_part_of t.key (suc m)) (has_number c.number) w.state.connections c (once_part t.key (suc m) w.state.connections whole.apart) there part_on

  around_part : Around t.key (left t.key t c w whole there found)
  around_part = taken t.key w.state c.number c there (ap (beside t.key) on ∙ key_self t.key) (around_of t.key w.state whole)

  part_left : find (is_part_of t.key (suc m)) (left t.key t c w whole there found).connections ≡ None
  part_left = find_gone (is_part_of t.key (suc m)) (has_number c.number) w.state.connections c (once_part t.key (suc m) w.state.connections whole.apart) there part_on

  others_left : (place : ℕ) → ¬ (place ≡ suc m) → find (is_part_of t.key place) (left t.key t c w whole there found).connections ≡ find (is_part_of t.key place) w.state.connections
  others_left place differs = find_left (is_part_of t.key place) (has_number c.number) w.state.connections c there (ap (reaches t.key place) on ∙ and_right _ _ (other_place place m differs))

  above_left : find (is_superior_of t.key) (left t.key t c w whole there found).connections ≡ find (is_superior_of t.key) w.state.connections
  above_left = find_left (is_superior_of t.key) (has_number c.number) w.state.connections c there (ap (asks_for t.key) on)

  -- the parts then, with something noted of this one
  parts_then : (f : Participant → Participant) (table : Link → Participant → Bool) (party : PartyPlace → Option Ballot → Bool) → ((l : Link) (p : Participant) → is_part_in t.phase l p ≡ true → table l p ≡ true) → ((answer : Option Ballot) → is_party t.phase t.place answer ≡ true → party t.place answer ≡ true) → ((l : Link) (p : Participant) → answer_at t.parts (suc m) ≡ p.answer → is_part_in t.phase l p ≡ true → table Gone (f p) ≡ true) → have_parts table party t.place (changed_at (suc m) f t.parts) t.key (left t.key t c w whole there found).connections ≡ true
  parts_then f table party down local here = have_noted t.key w.state.connections (left t.key t c w whole there found).connections (suc m) (is_part_in t.phase) table others_left down f m (is_party t.phase) party t.place t.parts refl local (λ p at fits. ap (λ o. table (link o) (f p)) part_left ∙ here (link (find (is_part_of t.key (suc m)) w.state.connections)) p (ap (option_and_then (λ (p : Participant). p.answer)) at) fits) part_of.owned.parts

  part_stops : is_stoppable t.phase ≡ true → Whole (abort t.key (gone c w)).state
  unfolding gone
  part_stops can = aborted_whole t.key t (gone c w) around_part (record {
    found = found;
    above = ap (λ o. may_abort_above t.origin (link o)) above_left ∙ stoppable_above t.phase can t.origin _ part_of.owned.above;
    parts = subst (λ ps. have_parts may_abort_part may_abort_party t.place ps t.key (left t.key t c w whole there found).connections ≡ true) (changed_none (suc m) t.parts) (parts_then (λ p. p) may_abort_part may_abort_party (stoppable_parts t.phase can) (stoppable_party t.phase can t.place) (λ l p at fits. gone_part_aborts l p (stoppable_parts t.phase can l p fits)));
    own = own_still w.state (left t.key t c w whole there found) t t.place refl refl ∙ part_of.owned.own;
  })

  part_refuses : is_stoppable t.phase ≡ true → Whole (abort t.key (alter t.key (noting (suc m) (answered Lost)) (gone c w))).state
  unfolding gone
  part_refuses can = aborted_whole t.key (noting (suc m) (answered Lost) t) (alter t.key (noting (suc m) (answered Lost)) (gone c w)) (alter_around t.key gone_from (noting (suc m) (answered Lost)) (λ t. refl) (λ t. noted_length (suc m) (answered Lost) t.parts) around_part) (record {
    found = found_altered t.key gone_from (noting (suc m) (answered Lost)) (λ t. refl) t found;
    above = ap (λ o. may_abort_above t.origin (link o)) above_left ∙ stoppable_above t.phase can t.origin _ part_of.owned.above;
    parts = parts_then (answered Lost) may_abort_part may_abort_party (stoppable_parts t.phase can) (stoppable_party t.phase can t.place) (λ l p at fits. lost_part_aborts l p (stoppable_parts t.phase can l p fits));
    own = own_still w.state (altered t.key gone_from (noting (suc m) (answered Lost))) (noting (suc m) (answered Lost) t) t.place refl refl ∙ own_as w.state t (noting (suc m) (answered Lost) t) t.place refl ∙ part_of.owned.own;
  }) where
    gone_from : State
    gone_from = left t.key t c w whole there found

  part_waits : ((l : Link) (p : Participant) → answer_at t.parts (suc m) ≡ p.answer → is_part_in t.phase l p ≡ true → is_some p.answer ≡ true) → not (is_over t.phase (left t.key t c w whole there found) t) ≡ true → Whole (gone c w).state
  unfolding gone
  part_waits some over = whole_of t.key (left t.key t c w whole there found) t found (from_phase t.key t (left t.key t c w whole there found) (record {
    owned = record {
      found = found;
      above = ap (λ o. is_superior t.phase t.origin (link o)) above_left ∙ part_of.owned.above;
      parts = subst (λ ps. have_parts (is_part_in t.phase) (is_party t.phase) t.place ps t.key (left t.key t c w whole there found).connections ≡ true) (changed_none (suc m) t.parts) (parts_then (λ p. p) (is_part_in t.phase) (is_party t.phase) (λ l p fits. fits) (λ answer fits. fits) (λ l p at fits. parts_gone t.phase l p fits (some l p at fits)));
      own = own_still w.state (left t.key t c w whole there found) t t.place refl refl ∙ part_of.owned.own;
    };
    address = ap (λ o. has_its_address t.phase t.origin o) above_left ∙ part_of.address;
    come = part_of.come;
    over = over;
  })) around_part

  unanswered_whole : is_stoppable t.phase ≡ true → ((l : Link) (p : Participant) → answer_at t.parts (suc m) ≡ p.answer → is_some (answer_at t.parts (suc m)) ≡ true → is_some p.answer ≡ true) → not (is_over t.phase (left t.key t c w whole there found) t) ≡ true → Whole (lost_unanswered (suc m) t (gone c w)).state
  unanswered_whole can some over = step (is_some (answer_at t.parts (suc m))) refl where
    step : (b : Bool) → is_some (answer_at t.parts (suc m)) ≡ b → Whole (cond b (gone c w) (abort t.key (alter t.key (noting (suc m) (answered Lost)) (gone c w)))).state
    step true is = part_waits (λ l p at fits. some l p at is) over
    step false is = part_refuses can

  part_lost_whole : (phase : Phase) → t.phase ≡ phase → Whole (part_lost phase (suc m) t (gone c w)).state
  part_lost_whole Active is = unanswered_whole (ap is_stoppable is) (λ l p at some. ap is_some (sym at) ∙ some) (ap (λ f. not (is_over f (left t.key t c w whole there found) t)) is)
  part_lost_whole Asking is = unanswered_whole (ap is_stoppable is) (λ l p at some. ap is_some (sym at) ∙ some) (ap (λ f. not (is_over f (left t.key t c w whole there found) t)) is)
  part_lost_whole Prepared is = part_waits (λ l p at fits. answered_prepared l p.answer (in_table Prepared l p (subst (λ f. is_part_in f l p ≡ true) is fits)).fits) (ap (λ f. not (is_over f (left t.key t c w whole there found) t)) is)
  part_lost_whole Committed is = part_waits (λ l p at fits. answered_committed l p.answer (in_table Committed l p (subst (λ f. is_part_in f l p ≡ true) is fits)).fits) (ap (λ f. not (is_over f (left t.key t c w whole there found) t)) is)
  part_lost_whole Aborted is = part_stops (ap is_stoppable is)

-- A connection on no transaction is taken out

alone_left : (c : Connection) (s : State) → connection_of c.number s ≡ Some c → c.role ≡ None → (other : Key) → Alike other s (with_connections other s (without (has_number c.number) s.connections))
alone_left c s there none other = record {
  epoch = refl;
  name = refl;
  superior = find_left (is_superior_of other) (has_number c.number) s.connections c there (ap (asks_for other) none);
  part = λ place. find_left (is_part_of other place) (has_number c.number) s.connections c there (ap (reaches other place) none);
  on = any_left (is_on other) (has_number c.number) s.connections c there (ap (names other) none);
}

-- what is alike for each transaction is whole as before
pub whole_alike : (s new : State) → new.transactions ≡ s.transactions → ((other : Key) → Alike other s new) → Whole s → list_all (is_transaction new) s.transactions ≡ true
whole_alike s new same alike whole = all_more (is_transaction s) (is_transaction new) s.transactions (λ t is. same_transaction s new t (alike t.key) ∙ is) whole.transactions

alone_whole : (c : Connection) (w : Work) → connection_of c.number w.state ≡ Some c → c.role ≡ None → Whole w.state → Whole (gone c w).state
unfolding gone
alone_whole c w there none whole =
    let key : Key = record { epoch = 0; connection = 0; number = 0 } in
    let around = taken key w.state c.number c there (ap (beside key) none) (around_of key w.state whole) in
    record {
      keys = around.keys;
      apart = around.apart;
      standing = around.standing;
      transactions = whole_alike w.state (gone c w).state refl (alone_left c w.state there none) whole;
    }

-- a connection that is there stands
pub stands_there : (c : Connection) (w : Work) → Whole w.state → connection_of c.number w.state ≡ Some c → Standing w.state c
stands_there c w whole there = standing w.state c (all_found (stands w.state) (has_number c.number) w.state.connections c whole.standing there)

-- What follows where it is gone

module _ (c : Connection) (w : Work) (whole : Whole w.state) (there : connection_of c.number w.state ≡ Some c) where
  placed_at : is_placed w.state c.role ≡ true
  placed_at = (stands_there c w whole there).placed

  superior_gone : (key : Key) (found : Option Transaction) → transaction_of key w.state ≡ found → is_some found ≡ true → c.role ≡ Some (Superior key) → Whole (on found (λ t. superior_lost t.phase key) (gone c w)).state
  superior_gone key None is some role = absurd (cc)
  superior_gone key (Some t) is some role = superior_lost_whole key t c w whole there is role t.phase refl

  part_gone_from : (key : Key) (place : ℕ) (found : Option Transaction) → transaction_of key w.state ≡ found → nat_le 1 place ≡ true → is_some found ≡ true → c.role ≡ Some (Subordinate key place) → Whole (on found (λ t. part_lost t.phase place t) (gone c w)).state
  part_gone_from key place None is least some role = absurd (cc)
  part_gone_from key zero (Some t) is least some role = absurd (cc)
  part_gone_from key (suc m) (Some t) is least some role =
      let same = key_found key t w.state is in
      part_lost_whole m t c w whole there (subst (λ k. transaction_of k w.state ≡ Some t) same is) (subst (λ k. c.role ≡ Some (Subordinate k (suc m))) same role) t.phase refl

  some_range : (found : Option Transaction) (place : ℕ) → option_map_or (λ (t : Transaction). nat_lt place (length t.parts)) found false ≡ true → is_some found ≡ true
  some_range None place is = absurd (cc)
  some_range (Some t) place is = refl

  missed_whole : (role : Option Role) → c.role ≡ role → is_placed w.state role ≡ true → Whole (missed role (gone c w)).state
  unfolding gone
  missed_whole None role placed = alone_whole c w there role whole
  missed_whole (Some (Superior key)) role placed = superior_gone key (transaction_of key w.state) refl placed role
  missed_whole (Some (Subordinate key place)) role placed =
      let parts = and_parts (nat_le 1 place) (option_map_or (λ (t : Transaction). nat_lt place (length t.parts)) (transaction_of key w.state) false) placed in
      part_gone_from key place (transaction_of key w.state) refl parts.0 (some_range (transaction_of key w.state) place parts.1) role

  -- A CONNECTION FAILS, and all is whole
  pub fail_whole : Whole (fail c w).state
  unfolding fail
  fail_whole = missed_whole c.role refl placed_at

pub closed_whole : (c : Connection) (w : Work) → Whole w.state → connection_of c.number w.state ≡ Some c → Whole (closed c w).state
unfolding closed
closed_whole c w whole there = fail_whole c (tell c.number Close w) whole there

pub wrong_whole : (c : Connection) (w : Work) → Whole w.state → connection_of c.number w.state ≡ Some c → Whole (wrong c w).state
unfolding wrong
wrong_whole c w whole there = closed_whole c (tell c.number (Say said.Error) w) whole there
