-- A subordinate that is enlisted, by its PULL or by our PUSH, leaves a realm whole.
use Rattle.std.proofs.Common.{◌≡◌, ◌<◌, Bool, true, false, ℕ, List, [], ◌∷◌, ◌++◌, Option, Some, None, refl, ap, subst, sym, arith, ◌∙◌}
use Rattle.std.specs.Prelude.{◌==◌, find, length, nat_le, nat_lt, suc}
use Rattle.std.specs.List.{list_any}
use Rattle.std.proofs.lemmas.Bool.{and_from}
use Rattle.std.proofs.lemmas.Bool.Decides.{nat_tests}
use Rattle.tip_rows.specs.Keys.{Key}
use Rattle.tip_txn.specs.declared.answer.Ballot.{Ballot}
use Rattle.tip_txn.specs.declared.answer.Phase.{Phase}
use Rattle.tip_txn.specs.declared.answer.Phase.TheVariants.{Active, Asking, Prepared, Committed, Aborted}
use Rattle.tip_txn.specs.declared.part.Participant.{Participant}
use Rattle.tip_machine.specs.Changes.{alter, change}
use Rattle.tip_machine.specs.Connections.{is_part_of, is_superior_of, taking}
use Rattle.tip_machine.specs.Invariants.Links.{Link, is_connected, link, link_on}
use Rattle.tip_machine.specs.Invariants.Phases.{has_its_address, is_part_in, is_party, is_superior, is_transaction}
use Rattle.tip_machine.specs.States.{State, Work, connection_of, transaction_of}
use Rattle.tip_machine.specs.Transactions.{enlisting, has_key, is_active}
use Rattle.tip_machine.specs.Types.{Connection, PartyPlace, Transaction}
use Rattle.tip_machine.specs.declared.connection.Role.TheVariants.{Subordinate}
use Rattle.tip_machine.proofs.Rising.{changed_twice}
use Rattle.tip_agreement.proofs.Aborting.{own_as}
use Rattle.tip_agreement.proofs.Apart.{all_found}
use Rattle.tip_agreement.proofs.Around.{Around, Whole, alter_around, altered, around_of, asks_as, found_altered, stands, whole_of}
use Rattle.tip_agreement.proofs.Joining.{above_beside, around_part, have_more, joined, none_part, others_beside, part_joined}
use Rattle.tip_agreement.proofs.Owned.{InPhase, from_as, have_parts, in_phase, own_still}
use Rattle.tip_agreement.proofs.Responding.{active_decides}

pub only_active : (phase : Phase) → is_active phase ≡ true → phase ≡ Active
only_active Active is = refl
only_active Asking is = absurd (cc)
only_active Prepared is = absurd (cc)
only_active Committed is = absurd (cc)
only_active Aborted is = absurd (cc)

one_longer : (parts : List Participant) (p : Participant) → (nat_le (length parts) (length (parts ++ p ∷ [])) ≡ true) × (nat_lt (length parts) (length (parts ++ p ∷ [])) ≡ true)
one_longer [] p = (refl, refl)
one_longer (q ∷ parts) p = let both = one_longer parts p in (more (length parts) (length (parts ++ p ∷ [])) both.0, further (length parts) (length (parts ++ p ∷ [])) both.1) where
  more : (m n : ℕ) → nat_le m n ≡ true → nat_le (suc m) (suc n) ≡ true
  more m n le = grind (arith, nat_tests, le)

  further : (m n : ℕ) → nat_lt m n ≡ true → nat_lt (suc m) (suc n) ≡ true
  further m n less = grind (arith, nat_tests, less)

-- the local part stands before
has_local : (party : PartyPlace → Option Ballot → Bool) (table : Link → Participant → Bool) (place : PartyPlace) (parts : List Participant) (key : Key) (cs : List Connection) → have_parts table party place parts key cs ≡ true → nat_le 1 (length parts) ≡ true
has_local party table place [] key cs all = absurd (cc)
has_local party table place (local ∷ parts) key cs all = least (length parts) where
  least : (n : ℕ) → nat_le 1 (suc n) ≡ true
  least n = grind (arith, nat_tests)

module _ (t : Transaction) (c : Connection) (w : Work) (whole : Whole w.state) (there : connection_of c.number w.state ≡ Some c) (found : transaction_of t.key w.state ≡ Some t) (active : t.phase ≡ Active) (none : c.role ≡ None) (p : Participant) where
  abbrev place : ℕ
  place = length t.parts

  abbrev listed : State
  listed = altered t.key w.state (enlisting p)

  known : InPhase t.key t w.state
  known = in_phase t.key t w.state found (all_found (is_transaction w.state) (has_key t.key) w.state.transactions t whole.transactions found)

  now_found : transaction_of t.key listed ≡ Some (enlisting p t)
  now_found = found_altered t.key w.state (enlisting p) (λ t. refl) t found

  around_listed : Around t.key listed
  around_listed = alter_around t.key w.state (enlisting p) (λ t. refl) (λ t. (one_longer t.parts p).0) (around_of t.key w.state whole)

  -- the connection becomes what the answer, or the question, makes of it, and takes its role
  module _ (g : Connection → Connection) (same : (d : Connection) → (g d).number ≡ d.number) (d : Connection) (becomes : taking (Subordinate t.key place) (g c) ≡ d) (role : d.role ≡ Some (Subordinate t.key place)) (connected : is_connected d ≡ true) (asks : asks_as d.role d.side ≡ true) (fits : is_part_in Active (link_on d.side d) p ≡ true) where
    taken_on : Connection → Connection
    taken_on e = taking (Subordinate t.key place) (g e)

    becomes_so : taken_on c ≡ d
    unfolding taken_on
    becomes_so = becomes

    parts_known : have_parts (is_part_in t.phase) (is_party t.phase) t.place t.parts t.key w.state.connections ≡ true
    parts_known = known.owned.parts

    stands_on : stands listed (taken_on c) ≡ true
    stands_on = subst (λ e. stands listed e ≡ true) (sym becomes_so) (and_from _ _ (and_from _ _ connected asks) (rw role (and_from _ _ (has_local (is_party t.phase) (is_part_in t.phase) t.place t.parts t.key w.state.connections parts_known) (rw now_found (one_longer t.parts p).1))))

    takes_on : (taken_on c).role ≡ Some (Subordinate t.key place)
    takes_on = ap (λ (e : Connection). e.role) becomes_so ∙ role

    nobody : list_any (is_part_of t.key place) w.state.connections ≡ false
    nobody = none_part t.key t w.state found whole.standing

    abbrev settled_in : State
    settled_in = joined t.key listed taken_on c there none stands_on around_listed

    above_still : find (is_superior_of t.key) settled_in.connections ≡ find (is_superior_of t.key) w.state.connections
    above_still = above_beside t.key listed taken_on c there none stands_on around_listed place takes_on nobody

    there_now : find (is_part_of t.key place) settled_in.connections ≡ Some d
    there_now = part_joined t.key listed taken_on c there none stands_on around_listed place takes_on nobody ∙ ap Some becomes_so

    others_still : (other : ℕ) → other < place → find (is_part_of t.key other) settled_in.connections ≡ find (is_part_of t.key other) w.state.connections
    others_still other less = others_beside t.key listed taken_on c there none stands_on around_listed place takes_on nobody other (apart other place less) where
      apart : (m n : ℕ) → m < n → (m == n) ≡ false
      apart m n less = grind (arith, nat_tests, less)

    parts_now : have_parts (is_part_in Active) (is_party Active) t.place (t.parts ++ p ∷ []) t.key settled_in.connections ≡ true
    parts_now = have_more (is_part_in Active) t.key w.state.connections settled_in.connections p (is_party Active) t.place t.parts others_still (rw there_now fits) (subst (λ f. have_parts (is_part_in f) (is_party f) t.place t.parts t.key w.state.connections ≡ true) active parts_known)

    is_still : is_transaction settled_in (enlisting p t) ≡ true
    is_still = from_as Active t.key (enlisting p t) settled_in active (record {
      found = now_found;
      above = rw above_still (subst (λ f. is_superior f t.origin (link (find (is_superior_of t.key) w.state.connections)) ≡ true) active known.owned.above);
      parts = parts_now;
      own = own_still w.state settled_in (enlisting p t) t.place refl refl ∙ own_as w.state t (enlisting p t) t.place refl ∙ known.owned.own;
    }) (rw above_still (subst (λ f. has_its_address f t.origin (find (is_superior_of t.key) w.state.connections) ≡ true) active known.address)) (rw (active_decides t.place (t.parts ++ p ∷ []) t.key settled_in.connections parts_now) refl) refl

    pub enlisted_whole : Whole (change c.number (taking (Subordinate t.key place)) (alter t.key (enlisting p) (change c.number g w))).state
    unfolding taken_on
    enlisted_whole = subst (λ cs. Whole (record listed { connections = cs })) (sym (changed_twice c.number (taking (Subordinate t.key place)) g w.state.connections same)) (whole_of t.key settled_in (enlisting p t) now_found is_still (around_part t.key listed taken_on c there none stands_on around_listed place takes_on nobody))
