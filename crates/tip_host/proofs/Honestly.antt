-- What happens at a host leaves its realms honest.
use Rattle.std.proofs.Common.{◌≡◌, ◌≢◌, ◌∙◌, ◌==◌, ◌+◌, ◌^◌, ◌<◌, ◌++◌, ◌∷◌, [], ℕ, zero, suc, Bool, true, false, cond, List, Option, Some, None, append_assoc, append-nil, arith, length, refl, ap, sym, subst, inl, inr}
use Rattle.std.specs.Prelude.{IfSome, IsSomeAnd, remove, slice_get}
use Rattle.std.specs.Option.{option_and_then, option_map, option_to_list}
use Rattle.std.proofs.lemmas.Bool.Decides.{nat_tests}
use Rattle.std.proofs.lemmas.Option.{none-some, same_Some}
use Rattle.tip_branch.specs.Notes.{PartyNotes}
use Rattle.tip_core.specs.Hosted.{Hosted, Steps, realm}
use Rattle.tip_honest.proofs.Hosting.{all_elsewhere, all_lost, all_same, all_stepped}
use Rattle.tip_honest.proofs.Standing.{stands_for_last}
use Rattle.tip_honest.specs.Honesty.{AreHonest, Journal, StandsFor}
use Rattle.tip_honest.specs.Hosts.{AreAllHonest, AreOthersKept, Brings, HasCome, IsHonestAt, IsSame}
use Rattle.tip_journal.proofs.HistoryLemmas.{length-changed_at, within-current}
use Rattle.tip_journal.specs.Journal.{with_entry}
use Rattle.tip_journal.specs.Journals.{current, entries_of, last_number, last_of, with_current, with_last}
use Rattle.tip_kept.specs.Keeping.{rows_at}
use Rattle.tip_line.specs.declared.refusal.Refusal.TheVariants.{NoRealm}
use Rattle.tip_machine.proofs.Stepping.{returned-silent}
use Rattle.tip_machine.specs.Moves.{behind_first, picked, rows_after}
use Rattle.tip_machine.specs.States.{State}
use Rattle.tip_machine.specs.Steps.{fits, is_open, wants}
use Rattle.tip_machine.specs.Types.{Answer, Event}
use Rattle.tip_machine.specs.declared.event.Change.{Change}
use Rattle.tip_machine.specs.declared.event.Outcome.{Outcome}
use Rattle.tip_table.proofs.Standing.{take_out}
use Rattle.tip_table.specs.Kept.{Kept, of}
use Rattle.tip_host.proofs.Behind.{come_over, last_of-behind, lost_over, same_over, slice_get-behind, some_entered}
use Rattle.tip_host.proofs.Journals.{length_bare, number_bare}
use Rattle.tip_host.specs.Books.{AreCounted, Books, IsHonest, IsSeen, Writes, behind, known_by, known_over, left_in, out_of, retired_at}
use Rattle.tip_host.specs.Works.{BringsAt, WasSent, is_errand_of, left_out, standing_at}
use Rattle.tip_host.specs.Entries.{Enters, Noted, bare, takes_entry}

-- WHAT IS KNOWN of a realm that is there

module _ (core : Hosted) (books : Books) (honest : IsHonest core books) (place : ℕ) (state : State) (here : realm core place ≡ Some state) where
  -- its own journals are honest, behind those that were let go
  own_honest : (own : List Journal) × (slice_get (bare books.journals) place ≡ Some own) × (0 < length own) × AreHonest (record { state = state; rows = rows_at books.rows place; errands = out_of books place }) (honest.gone place ++ own)
  own_honest = by (slice_get (bare books.journals) place) refl (honest.some place) (subst (IsHonestAt (Some state) (out_of books place) (rows_at books.rows place)) (slice_get-behind honest.gone (bare books.journals) place) (subst (λ s. IsHonestAt s (out_of books place) (rows_at books.rows place) (slice_get (behind honest.gone (bare books.journals)) place)) here (honest.all place))) where
    by : (found : Option (List Journal)) → slice_get (bare books.journals) place ≡ found → IfSome found (λ own. 0 < length own) → IsHonestAt (Some state) (out_of books place) (rows_at books.rows place) (option_map (λ own. honest.gone place ++ own) found) → (own : List Journal) × (slice_get (bare books.journals) place ≡ Some own) × (0 < length own) × AreHonest (record { state = state; rows = rows_at books.rows place; errands = out_of books place }) (honest.gone place ++ own)
    by None there some is = absurd is
    by (Some own) there some is = (own, there, some, is)

  -- it stands where its current journal leads
  pub stands_here : IsSomeAnd (current (bare books.journals) place) (StandsFor state)
  stands_here =
      let (own, there, some, are) = own_honest in
      subst (λ found. IsSomeAnd (option_and_then last_of found) (StandsFor state)) (sym there) (subst (λ j. IsSomeAnd j (StandsFor state)) (last_of-behind (honest.gone place) own some) (stands_for_last _ (honest.gone place ++ own) are))

  counted : (j : Option Journal) → IsSomeAnd j (StandsFor state) → entries_of j ≡ state.head.entries
  counted None is = absurd is
  counted (Some journal) is = is.count

  pub number_is : last_number (bare books.journals) place ≡ state.head.entries
  number_is = counted (current (bare books.journals) place) stands_here

  pub is_within : place < length books.journals
  is_within = subst (λ n. place < n) (length_bare books.journals) (within-current (StandsFor state) (bare books.journals) place stands_here)

-- an entry more has a number
few_as : (core : Hosted) (old : Books) (after : List (List Journal)) (place : ℕ) → IsHonest core old → bare after ≡ bare old.journals → (s : Option State) → realm core place ≡ s → takes_entry s ≡ true → ((state : State) → s ≡ Some state → state.head.entries + 1 < 2 ^ 32) → last_number after place + 1 < 2 ^ 32
few_as core old after place honest same None here takes few = absurd (cc)
few_as core old after place honest same (Some state) here takes few =
    let number : last_number after place ≡ state.head.entries = sym (number_bare after place) ∙ ap (λ js. last_number js place) same ∙ number_is core old honest place state here in
    subst (λ n. n + 1 < 2 ^ 32) (sym number) (few state refl)

pub few_so : (core : Hosted) (old : Books) (after : List (List Journal)) (place : ℕ) → IsHonest core old → bare after ≡ bare old.journals → takes_entry (realm core place) ≡ true → ((state : State) → realm core place ≡ Some state → state.head.entries + 1 < 2 ^ 32) → last_number after place + 1 < 2 ^ 32
few_so core old after place honest same takes few = few_as core old after place honest same (realm core place) refl takes few

-- WHO COMES BACK

-- from the first of two lists
picked_front : (at : ℕ) (out work : List PartyNotes) (party : PartyNotes) → slice_get out at ≡ Some party → picked at (out ++ work) ≡ party ∷ (remove out at ++ work)
picked_front at [] work party there = absurd (none-some party there)
picked_front zero (p ∷ out) work party there = ap (λ x. x ∷ (out ++ work)) (same_Some p party there)
picked_front (suc at) (p ∷ out) work party there = ap (behind_first p) (picked_front at out work party there)

-- those of the realm at hand, and of another, that stay out
module _ (out : Kept PartyNotes) (place : ℕ) where
  left_here : (spot at : ℕ) (sent : PartyNotes) → WasSent out place sent spot at → left_in (Some spot) out place ≡ remove (of out place) at
  left_here spot at sent was = let own : (place == place) ≡ true = grind (arith, nat_tests) in rw (was.0, own) refl

  -- who came back was the first with its identifier and epoch
  pub left_first : (spot at : ℕ) (sent : PartyNotes) → WasSent out place sent spot at → left_in (Some spot) out place ≡ left_out (Some sent) (of out place)
  left_first spot at sent was = take_out out place (is_errand_of sent) spot (record { at = at; there = was.0; first = was.2 })

  pub stands_there : (spot at : ℕ) (sent : PartyNotes) → WasSent out place sent spot at → standing_at out (Some spot) ≡ Some sent
  stands_there spot at sent was = ap (λ o. option_and_then (λ i. slice_get (of out i.realm) i.at) o) was.0 ∙ was.1

  pub left_standing : (event : Event) (back : Option ℕ) → BringsAt out place event back → left_in back out place ≡ left_out (standing_at out back) (of out place)
  left_standing event None brings = refl
  left_standing event (Some spot) (at, sent, was, from) = left_first spot at sent was ∙ ap (λ o. left_out o (of out place)) (sym (stands_there spot at sent was))

  pub left_there : (event : Event) (back : Option ℕ) → BringsAt out place event back → (other : ℕ) → other ≢ place → left_in back out other ≡ of out other
  left_there event None brings other differ = refl
  left_there event (Some spot) (at, sent, was, from) other differ = let no : (place == other) ≡ false = grind (arith, nat_tests) in rw (was.0, no) refl

-- nobody comes back where nobody is out
nobody_back : (out : Kept PartyNotes) (place : ℕ) (event : Event) (back : Option ℕ) → BringsAt out place event back → of out place ≡ [] → left_in back out place ≡ []
nobody_back out place event None brings none = none
nobody_back out place event (Some spot) (at, sent, was, from) none = absurd (none-some sent (sym (ap (λ xs. slice_get xs at) none) ∙ was.1))

no_front : (xs ys : List PartyNotes) → xs ++ ys ≡ [] → xs ≡ []
no_front [] ys none = refl
no_front (x ∷ xs) ys none = absurd (cc)

-- ONE EVENT

module _ (core core' : Hosted) (old between new : Books) (place : ℕ) (event : Event) (change : Option Change) (outcome : Outcome) (back : Option ℕ) (answer : Answer) (noted noted' : List Noted) (number : Option ℕ) (took : Bool)
    (steps : Steps core core' place event outcome answer) (seen : IsSeen old between) (brings : BringsAt old.out place event back) (writes : Writes between new place change outcome back answer)
    (took_is : took ≡ takes_entry (realm core place)) (enters : Enters took (bare between.journals) (bare new.journals) noted noted' place (record { event = event; outcome = outcome }) number) where
  out_at : (other : ℕ) → of new.out other ≡ left_in back old.out other
  out_at other = writes.out other ∙ ap (λ o. left_in back o other) seen.out

  -- every other realm keeps what it has
  pub others_kept : AreOthersKept place (known_by core old) (known_by core' new)
  others_kept other differ = (
    steps.others other differ,
    (λ i. ((out_at other ∙ left_there old.out place event back brings other differ) i) ++ ((writes.other_work other differ ∙ seen.work other) i)),
    writes.other_rows other differ ∙ seen.rows other,
  )

  entered_as : (b : Bool) → took ≡ b → (now : Bool) → b ≡ now → bare new.journals ≡ cond now (with_current place (with_entry (record { event = event; outcome = outcome })) (bare old.journals)) (bare old.journals)
  entered_as true is true same = (subst (λ b. Enters b (bare between.journals) (bare new.journals) noted noted' place (record { event = event; outcome = outcome }) number) is enters).0 ∙ ap (with_current place (with_entry (record { event = event; outcome = outcome }))) seen.journals
  entered_as true is false same = absurd (cc)
  entered_as false is true same = absurd (cc)
  entered_as false is false same = (subst (λ b. Enters b (bare between.journals) (bare new.journals) noted noted' place (record { event = event; outcome = outcome }) number) is enters).0 ∙ seen.journals

  left : List PartyNotes
  left = left_in back old.out place ++ of old.work place

  brings_as : (b : Option ℕ) → BringsAt old.out place event b → Brings (out_of old place) event (left_in b old.out place ++ of old.work place)
  brings_as None none = inl (none, refl)
  brings_as (Some spot) (at, sent, was, (answers, can, is)) = inr (at, sent, answers, picked_front at (of old.out place) (of old.work place) sent was.1 ∙ ap (λ xs. sent ∷ (xs ++ of old.work place)) (sym (left_here old.out place spot at sent was)), can, is)

  out_now : out_of new place ≡ left ++ option_to_list answer.work
  unfolding left
  out_now = (λ i. (out_at place i) ++ ((writes.work ∙ ap (λ xs. xs ++ option_to_list answer.work) (seen.work place)) i)) ∙ sym (append_assoc (left_in back old.out place) (of old.work place) (option_to_list answer.work))

  pub comes_so : (state : State) → realm core place ≡ Some state → fits (wants state event) outcome ≡ true → change ≡ wants state event → HasCome (known_by core old) (known_by core' new) place event outcome state
  unfolding left
  comes_so state here fit wanted =
      let own = steps.own state here in
      record {
        here = here;
        after = own.1;
        fit = fit;
        left = left;
        brings = brings_as back brings;
        out_is = out_now ∙ ap (λ (a : Answer). left ++ option_to_list a.work) own.0;
        rows_are = writes.rows ∙ ap (rows_after change outcome) (seen.rows place) ∙ ap (λ c. rows_after c outcome (rows_at old.rows place)) wanted;
        entered = entered_as took refl (is_open state) (took_is ∙ ap takes_entry here);
        others = others_kept;
      }

  -- a realm that is not there
  absent_out : (honest : IsHonest core old) → realm core place ≡ None → out_of new place ≡ out_of old place
  absent_out honest absent =
      let none : out_of old place ≡ [] = nobody (slice_get (behind honest.gone (bare old.journals)) place) (subst (λ s. IsHonestAt s (out_of old place) (rows_at old.rows place) (slice_get (behind honest.gone (bare old.journals)) place)) absent (honest.all place)) in
      let silent : option_to_list answer.work ≡ [] = ap (λ (a : Answer). option_to_list a.work) (steps.absent absent).0 ∙ ap option_to_list (returned-silent NoRealm event).1 in
      (λ i. ((out_at place ∙ nobody_back old.out place event back brings (no_front (of old.out place) (of old.work place) none) ∙ sym (no_front (of old.out place) (of old.work place) none)) i) ++ ((writes.work ∙ ap (λ xs. of between.work place ++ xs) silent ∙ append-nil (of between.work place) ∙ seen.work place) i)) where
        nobody : (found : Option (List Journal)) → IsHonestAt None (out_of old place) (rows_at old.rows place) found → out_of old place ≡ []
        nobody None is = is
        nobody (Some js) is = absurd is

  journals_count : (b : Bool) → took ≡ b → length new.journals ≡ length old.journals
  journals_count true is =
      sym (length_bare new.journals)
      ∙ ap length ((subst (λ b. Enters b (bare between.journals) (bare new.journals) noted noted' place (record { event = event; outcome = outcome }) number) is enters).0)
      ∙ length-changed_at (bare between.journals) place (with_last (with_entry (record { event = event; outcome = outcome })))
      ∙ ap length seen.journals
      ∙ length_bare old.journals
  journals_count false is = sym (length_bare new.journals) ∙ ap length ((subst (λ b. Enters b (bare between.journals) (bare new.journals) noted noted' place (record { event = event; outcome = outcome }) number) is enters).0) ∙ ap length seen.journals ∙ length_bare old.journals

  -- IT LEAVES ALL REALMS HONEST
  pub then_honest : IsHonest core old → ((state : State) → realm core place ≡ Some state → fits (wants state event) outcome ≡ true) → ((state : State) → realm core place ≡ Some state → change ≡ wants state event) → IsHonest core' new
  then_honest honest fit wanted = record {
    gone = honest.gone;
    all = by (realm core place) refl;
    counted = λ other. subst (λ rs. AreCounted (retired_at rs other) (honest.gone other)) (sym (writes.retired ∙ seen.retired)) (honest.counted other);
    some = some_now took refl;
    each = writes.count ∙ seen.count ∙ honest.each ∙ sym (journals_count took refl);
    counts = ap length (writes.retired ∙ seen.retired) ∙ honest.counts ∙ sym (journals_count took refl);
  } where
    some_now : (b : Bool) → took ≡ b → (other : ℕ) → IfSome (slice_get (bare new.journals) other) (λ own. 0 < length own)
    some_now true is = subst (λ js. (other : ℕ) → IfSome (slice_get js other) (λ own. 0 < length own)) (sym (entered_as true is true refl)) (some_entered (bare old.journals) place (with_entry (record { event = event; outcome = outcome })) honest.some)
    some_now false is = subst (λ js. (other : ℕ) → IfSome (slice_get js other) (λ own. 0 < length own)) (sym (entered_as false is false refl)) honest.some

    by : (s : Option State) → realm core place ≡ s → AreAllHonest (known_over honest.gone core' new)
    by (Some state) here = all_stepped (known_over honest.gone core old) (known_over honest.gone core' new) place honest.all event outcome state (come_over honest.gone core core' old new place event outcome state (honest.some place) (comes_so state here (fit state here) (wanted state here)))
    by None absent = all_elsewhere (known_over honest.gone core old) (known_over honest.gone core' new) place honest.all absent (steps.absent absent).1 (absent_out honest absent) (ap (behind honest.gone) (entered_as took refl false (took_is ∙ ap takes_entry absent))) others_kept

-- NOTHING HAS HAPPENED

pub seen_same : (core core' : Hosted) (old new : Books) → ((place : ℕ) → realm core' place ≡ realm core place) → IsSeen old new → IsSame (known_by core old) (known_by core' new)
seen_same core core' old new realms seen = record {
  realms = realms;
  out = λ place. (λ i. of (seen.out i) place ++ seen.work place i);
  rows = seen.rows;
  journals = seen.journals;
}

pub still_honest : (core core' : Hosted) (old new : Books) → IsSame (known_by core old) (known_by core' new) → length new.rows ≡ length old.rows → new.retired ≡ old.retired → IsHonest core old → IsHonest core' new
still_honest core core' old new same count retired honest = record {
  gone = honest.gone;
  all = all_same (known_over honest.gone core old) (known_over honest.gone core' new) (same_over honest.gone core core' old new same) honest.all;
  counted = λ place. subst (λ rs. AreCounted (retired_at rs place) (honest.gone place)) (sym retired) (honest.counted place);
  some = subst (λ js. (place : ℕ) → IfSome (slice_get js place) (λ own. 0 < length own)) (sym same.journals) honest.some;
  each = count ∙ honest.each ∙ journals_count;
  counts = ap length retired ∙ honest.counts ∙ journals_count;
} where
  journals_count : length old.journals ≡ length new.journals
  journals_count = sym (length_bare old.journals) ∙ sym (ap length same.journals) ∙ length_bare new.journals

-- WHO IS LOST is out no more, and every other realm's parties are out still
pub left_apart : (out' out : Kept PartyNotes) (place spot at : ℕ) (sent : PartyNotes) → WasSent out place sent spot at → ((realm : ℕ) → of out' realm ≡ left_in (Some spot) out realm) → (other : ℕ) → other ≢ place → of out' other ≡ of out other
left_apart out' out place spot at sent was left other differ = left other ∙ (let no : (place == other) ≡ false = grind (arith, nat_tests) in rw (was.0, no) refl)

pub lost_honest : (core : Hosted) (books : Books) (out' : Kept PartyNotes) (place spot at : ℕ) (sent : PartyNotes) → IsHonest core books → WasSent books.out place sent spot at → ((realm : ℕ) → of out' realm ≡ left_in (Some spot) books.out realm) → IsHonest core (record books { out = out' })
lost_honest core books out' place spot at sent honest was left = record {
  gone = honest.gone;
  all = all_lost (known_over honest.gone core books) (known_over honest.gone core (record books { out = out' })) place honest.all (lost_over honest.gone core core books (record books { out = out' }) place (record {
    spot = at;
    party = sent;
    was = picked_front at (of books.out place) (of books.work place) sent was.1 ∙ ap (λ xs. sent ∷ (xs ++ of books.work place)) (sym (left place ∙ left_here books.out place spot at sent was));
    realm_is = refl;
    rows_are = refl;
    same = refl;
    others = λ other differ. (refl, ap (λ xs. xs ++ of books.work other) (left_apart out' books.out place spot at sent was left other differ), refl);
  }));
  counted = honest.counted;
  some = honest.some;
  each = honest.each;
  counts = honest.counts;
}

-- so all realms are honest, whether it was out or not
pub given_up_honest : (core : Hosted) (old new : Books) (place : ℕ) (gone : Bool) (sent : PartyNotes) → IsHonest core old →
    (gone ≡ true → (spot : ℕ) × (at : ℕ) × WasSent old.out place sent spot at × ((other : ℕ) → of new.out other ≡ left_in (Some spot) old.out other)) →
    (gone ≡ false → new ≡ old) → new ≡ record old { out = new.out } → IsHonest core new
given_up_honest core old new place true sent honest lost same rest = let is = lost refl in subst (IsHonest core) (sym rest) (lost_honest core old new.out place is.0 is.1 sent honest is.2 is.3)
given_up_honest core old new place false sent honest lost same rest = subst (IsHonest core) (sym (same refl)) honest

-- and of the realm at hand all are out but it
pub given_up_left : (old new : Kept PartyNotes) (place : ℕ) (sent : PartyNotes) → (spot : ℕ) × (at : ℕ) × WasSent old place sent spot at × ((other : ℕ) → of new other ≡ left_in (Some spot) old other) → of new place ≡ left_out (Some sent) (of old place)
given_up_left old new place sent is = is.3 place ∙ left_first old place is.0 is.1 sent is.2
