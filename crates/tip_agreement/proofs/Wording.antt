-- The word on a transaction while an event is done: what was given before, and what its answer gives so far.
use Rattle.std.proofs.Common.{◌≡◌, Bool, true, false, ℕ, List, [], ◌∷◌, ◌++◌, Option, Some, None, cond, refl, ap, ◌∙◌}
use Rattle.std.specs.Prelude.{◌&&◌, ◌||◌, not, find, flat_map, is_none, map}
use Rattle.std.specs.List.{list_any}
use Rattle.std.specs.Option.{IfSome, option_map_or}
use Rattle.std.specs.Str.{bytes_eq}
use Rattle.std.proofs.lemmas.Bool.{and_from, and_parts, both_ways, or_from, or_left, or_right}
use Rattle.std.proofs.lemmas.List.Folds.{list_any-append}
use Rattle.tip_branch.specs.Members.{is_active}
use Rattle.tip_branch.specs.Notes.{PartyNotes}
use Rattle.tip_branch.specs.declared.member.Errand.TheVariants as errand
use Rattle.tip_conn.specs.declared.state.State.{State as ConnectionState}
use Rattle.tip_conn.specs.declared.state.State.TheVariants as ConnectionStates
use Rattle.tip_conn.specs.declared.state.State.TheVariants.{Initial, Idle, Begun, Enlisted, Error}
use Rattle.tip_line.specs.declared.command.CommandName.{CommandName}
use Rattle.tip_rows.specs.Keys.{Key}
use Rattle.tip_txn.specs.declared.answer.Phase.{Phase}
use Rattle.tip_txn.specs.declared.answer.Phase.TheVariants.{Active, Asking, Prepared, Committed, Aborted}
use Rattle.tip_machine.specs.Agreement.Verdicts.{Verdict, is_abort, is_commit, of_item}
use Rattle.tip_machine.specs.Answers.{identifier}
use Rattle.tip_machine.specs.Connections.{is_on}
use Rattle.tip_machine.specs.Reactions.{Demand, Reacted, Reaction, answers, demanded, demanded_as, demands, reacts, sent_by, stays}
use Rattle.tip_machine.specs.States.{Work}
use Rattle.tip_machine.specs.Transactions.{has_key}
use Rattle.tip_machine.specs.Types.{Connection, PartyPlace, Transaction, Answer}
use Rattle.tip_machine.specs.Changes.{tell}
use Rattle.tip_machine.specs.declared.answer.Asked.{Asked}
use Rattle.tip_machine.specs.declared.answer.Item.TheVariants.{Ask, Close, Say}
use Rattle.tip_machine.specs.declared.answer.Sent.{Sent}
use Rattle.tip_machine.specs.declared.answer.Said.{Said}
use Rattle.tip_machine.specs.declared.connection.Role.{Role}
use Rattle.tip_machine.specs.declared.connection.Role.TheVariants.{Superior, Subordinate}
use Rattle.tip_machine.specs.declared.transaction.PartyPlace.TheVariants.{Here, Out, Spent}
use Rattle.tip_agreement.specs.Truth.{Word, fits, fits_in, is_lost, will_tell, will_vote}

-- LESS SAID FITS TOO

pub record Less (v w : Word) : Type 0 where
  pub commit : v.commit ≡ true → w.commit ≡ true
  pub abort : v.abort ≡ true → w.abort ≡ true
  pub awaited : v.awaited ≡ true → w.awaited ≡ true

pub not_less : (a b : Bool) → (a ≡ true → b ≡ true) → not b ≡ true → not a ≡ true
not_less true true goes is = is
not_less true false goes is = absurd (both_ways false refl (goes refl))
not_less false b goes is = refl

lost_less : (place : PartyPlace) (a b : Bool) → (a ≡ true → b ≡ true) → is_lost place b ≡ true → is_lost place a ≡ true
lost_less (Out errand.Vote) a b goes is = not_less a b goes is
lost_less (Out errand.Idle) a b goes is = is
lost_less (Out errand.Commit) a b goes is = is
lost_less (Out errand.Abort) a b goes is = is
lost_less (Here party) a b goes is = is
lost_less Spent a b goes is = is

pub or_less : (a b x y : Bool) → (a ≡ true → x ≡ true) → (b ≡ true → y ≡ true) → a || b ≡ true → x || y ≡ true
or_less true b x y first second is = or_left x y (first refl)
or_less false b x y first second is = or_right x y (second is)

pub and_less : (a b x y : Bool) → (a ≡ true → x ≡ true) → (b ≡ true → y ≡ true) → a && b ≡ true → x && y ≡ true
and_less a b x y first second is = let parts = and_parts a b is in and_from x y (first parts.0) (second parts.1)

in_less : (phase : Phase) (place : PartyPlace) (v w : Word) → Less v w → fits_in phase place w ≡ true → fits_in phase place v ≡ true
in_less Active place v w less is = and_less _ _ _ _ (not_less v.commit w.commit less.commit) (not_less v.abort w.abort less.abort) is
in_less Asking place v w less is = and_less _ _ _ _ (not_less v.commit w.commit less.commit) (or_less _ _ _ _ (not_less v.abort w.abort less.abort) (lost_less place v.awaited w.awaited less.awaited)) is
in_less Prepared place v w less is = and_less _ _ _ _ (not_less v.commit w.commit less.commit) (not_less v.abort w.abort less.abort) is
in_less Committed place v w less is = not_less v.abort w.abort less.abort is
in_less Aborted place v w less is = not_less v.commit w.commit less.commit is

pub fits_less : (found : Option Transaction) (v w : Word) → Less v w → fits found w ≡ true → fits found v ≡ true
fits_less None v w less is = not_less (v.commit && v.abort) (w.commit && w.abort) (and_less _ _ _ _ less.commit less.abort) is
fits_less (Some t) v w less is = in_less t.phase t.place v w less is

-- with nothing more
pub or_none : (b : Bool) → b || false ≡ b
or_none true = refl
or_none false = refl

-- where nothing more is there, less is true
pub no_second : (a b c : Bool) → b ≡ false → a || b ≡ true → a || c ≡ true
no_second a b c none = or_less a b a c (λ is. is) (λ is. absurd (both_ways b none is))

pub no_third : (a b c d : Bool) → c ≡ false → a || (b || c) ≡ true → a || (b || d) ≡ true
no_third a b c d none = or_less a (b || c) a (b || d) (λ is. is) (no_second b c d none)

pub no_third_of_four : (a b c d r : Bool) → c ≡ false → a || (b || (c || r)) ≡ true → a || (b || (d || r)) ≡ true
no_third_of_four a b c d r none = or_less a (b || (c || r)) a (b || (d || r)) (λ is. is) (or_less b (c || r) b (d || r) (λ is. is) (or_less c r d r (λ is. absurd (both_ways c none is)) (λ is. is)))

pub no_fourth : (a b c r s : Bool) → r ≡ false → a || (b || (c || r)) ≡ true → a || (b || (c || s)) ≡ true
no_fourth a b c r s none = or_less a (b || (c || r)) a (b || (c || s)) (λ is. is) (no_third b c r s none)

-- ON ITS WORK

-- a line tells such a verdict on the transaction of this identifier
abbrev pub says : (Verdict → Bool) → List ℕ → List ℕ → Sent → Bool
says test realm id sent = option_map_or test (of_item realm id sent.item) false

abbrev pub are_said : (Verdict → Bool) → List ℕ → List ℕ → List Sent → Bool
are_said test realm id sent = list_any (says test realm id) sent

-- a party of this transaction is let go with active branches
abbrev pub rolls_back : List ℕ → Option PartyNotes → Bool
rolls_back id spent = option_map_or (λ party. bytes_eq id party.id && list_any is_active party.members) spent false

-- by what was said, the party that goes out, and the one that is let go
abbrev pub word_in : Word → ℕ → List ℕ → Bool → Bool → Option PartyNotes → Option PartyNotes → Word
word_in before now id committed aborted work spent = record {
  commit = before.commit || (committed || option_map_or (will_tell is_commit now id) work false);
  abort = before.abort || (aborted || (option_map_or (will_tell is_abort now id) work false || rolls_back id spent));
  awaited = before.awaited || option_map_or (will_vote now id) work false;
}

abbrev pub fits_so : Word → Key → List ℕ → ℕ → List Transaction → Bool → Bool → Option PartyNotes → Option PartyNotes → Bool
fits_so before key realm now transactions committed aborted work spent = fits (find (has_key key) transactions) (word_in before now (identifier realm key) committed aborted work spent)

-- THE FACT ON WORK, for one transaction
abbrev pub Fits : Word → Key → Work → Type 0
Fits before key w =
    let id = identifier w.state.head.name key in
    fits_so before key w.state.head.name w.state.head.epoch w.state.transactions (are_said is_commit w.state.head.name id w.answer.sent) (are_said is_abort w.state.head.name id w.answer.sent) w.answer.work w.answer.spent ≡ true

abbrev pub word_at : Word → Key → Work → Word
word_at before key w =
    let id = identifier w.state.head.name key in
    word_in before w.state.head.epoch id (are_said is_commit w.state.head.name id w.answer.sent) (are_said is_abort w.state.head.name id w.answer.sent) w.answer.work w.answer.spent

-- an answer says such a verdict of this identifier, or lets a party of it go
abbrev pub is_of : List ℕ → Option PartyNotes → Bool
is_of id party = option_map_or (λ party. bytes_eq id party.id) party false

abbrev pub speaks_of : (Verdict → Bool) → List ℕ → List ℕ → Answer → Bool
speaks_of test realm id answer = are_said test realm id answer.sent || is_of id answer.spent

-- no verdict more is said
abbrev pub Quiet : List Sent → List Sent → Type 0
Quiet old new = (test : Verdict → Bool) (realm id : List ℕ) → are_said test realm id new ≡ are_said test realm id old

pub silent : (xs : List Sent) → Quiet xs xs
silent xs test realm id = refl

pub one_more : (xs : List Sent) (x : Sent) → ((realm id : List ℕ) → of_item realm id x.item ≡ None) → Quiet xs (xs ++ x ∷ [])
one_more xs x none test realm id = list_any-append (says test realm id) xs (x ∷ []) ∙ ap (λ o. are_said test realm id xs || (option_map_or test o false || false)) (none realm id) ∙ or_none (are_said test realm id xs)

pub says_more : (w : Work) (number : ℕ) (said : Said) → Quiet w.answer.sent (tell number (Say said) w).answer.sent
says_more w number said = one_more w.answer.sent (record { connection = number; item = Say said }) (λ realm id. refl)

pub closes_more : (w : Work) (number : ℕ) → Quiet w.answer.sent (tell number Close w).answer.sent
closes_more w number = one_more w.answer.sent (record { connection = number; item = Close }) (λ realm id. refl)

pub asks_more : (w : Work) (number : ℕ) (asked : Asked) → ((realm id : List ℕ) → of_item realm id (Ask asked) ≡ None) → Quiet w.answer.sent (tell number (Ask asked) w).answer.sent
asks_more w number asked none = one_more w.answer.sent (record { connection = number; item = Ask asked }) none

pub quiet_then : (a b c : List Sent) → Quiet a b → Quiet b c → Quiet a c
quiet_then a b c first next test realm id = next test realm id ∙ first test realm id

pub fits_still : (before : Word) (key : Key) (w v : Work) → v.state.head.epoch ≡ w.state.head.epoch → v.state.head.name ≡ w.state.head.name → v.state.transactions ≡ w.state.transactions → v.answer.work ≡ w.answer.work → v.answer.spent ≡ w.answer.spent → Quiet w.answer.sent v.answer.sent → Fits before key w → Fits before key v
fits_still before key w v epoch name transactions work spent quiet is =
    (λ i. fits_so before key v.state.head.name v.state.head.epoch v.state.transactions (quiet is_commit v.state.head.name (identifier v.state.head.name key) i) (quiet is_abort v.state.head.name (identifier v.state.head.name key) i) v.answer.work v.answer.spent)
    ∙ (λ i. fits_so before key (name i) (epoch i) (transactions i) (are_said is_commit (name i) (identifier (name i) key) w.answer.sent) (are_said is_abort (name i) (identifier (name i) key) w.answer.sent) (work i) (spent i))
    ∙ is

-- REACTIONS

-- what it demands tells no such verdict on the transaction of this identifier
pub record IsMute (test : Verdict → Bool) (realm id : List ℕ) (reaction : Reaction) (key : Key) : Type 0 where
  pub enlisted : IfSome reaction.enlisted (λ demand. option_map_or test (of_item realm id (Ask (demand.asked key))) false ≡ false)
  pub prepared : IfSome reaction.prepared (λ demand. option_map_or test (of_item realm id (Ask (demand.asked key))) false ≡ false)

module _ (test : Verdict → Bool) (realm id : List ℕ) (reaction : Reaction) (key : Key) (mute : IsMute test realm id reaction key) where
  abbrev Holds : Demand → Type 0
  Holds demand = option_map_or test (of_item realm id (Ask (demand.asked key))) false ≡ false

  mute_at : (at : ConnectionState) → IfSome (demanded reaction at) Holds
  mute_at Initial = tt
  mute_at Idle = tt
  mute_at Begun = tt
  mute_at Enlisted = mute.enlisted
  mute_at ConnectionStates.Prepared = mute.prepared
  mute_at Error = tt

  abbrev is_said_by : Connection → Reacted → Bool
  is_said_by c became = are_said test realm id (map (λ item. record { connection = c.number; item = item }) became.items)

  demanded_mute : (c : Connection) (found : Option Demand) → IfSome found Holds → is_said_by c (option_map_or (demands key c) found (stays c)) ≡ false
  demanded_mute c None holds = refl
  demanded_mute c (Some demand) holds = or_from _ _ holds refl

  role_mute : (c : Connection) (role : Option Role) → IfSome (demanded_as reaction role c) Holds
  role_mute c None = tt
  role_mute c (Some (Superior at)) = tt
  role_mute c (Some (Subordinate at part)) = step (is_none c.awaited) where
    step : (b : Bool) → IfSome (cond b (demanded reaction c.state) None) Holds
    step true = mute_at c.state
    step false = tt

  answered_mute : (c : Connection) (command : CommandName) (said : Option Said) → is_said_by c (option_map_or (answers command c) said (stays c)) ≡ false
  answered_mute c command None = refl
  answered_mute c command (Some said) = refl

  reacts_mute : (c : Connection) (owed : Option CommandName) → is_said_by c (reacts reaction key owed c) ≡ false
  reacts_mute c (Some command) = answered_mute c command (reaction.owed command)
  reacts_mute c None = demanded_mute c (demanded_as reaction c.role c) (role_mute c c.role)

  one_mute : (c : Connection) → are_said test realm id (sent_by reaction key c) ≡ false
  one_mute c = step (is_on key c) where
    step : (b : Bool) → is_said_by c (cond b (reacts reaction key c.owed c) (stays c)) ≡ false
    step true = reacts_mute c c.owed
    step false = refl

  all_mute : (cs : List Connection) → are_said test realm id (flat_map (sent_by reaction key) cs) ≡ false
  all_mute [] = refl
  all_mute (c ∷ cs) = list_any-append (says test realm id) (sent_by reaction key c) (flat_map (sent_by reaction key) cs) ∙ or_from _ _ (one_mute c) (all_mute cs)

  pub mute_said : (sent : List Sent) (cs : List Connection) → are_said test realm id (sent ++ flat_map (sent_by reaction key) cs) ≡ are_said test realm id sent
  mute_said sent cs = list_any-append (says test realm id) sent (flat_map (sent_by reaction key) cs) ∙ ap (λ b. are_said test realm id sent || b) (all_mute cs) ∙ or_none (are_said test realm id sent)
