-- Realms that begin are honest.
use Rattle.std.proofs.Common.{◌≡◌, ◌≢◌, ◌∙◌, ◌+◌, ◌<◌, ◌++◌, ◌∷◌, [], ℕ, zero, suc, true, List, Option, Some, None, get_or, length, map, take, refl, ap, arith, sym, subst, inl, inr}
use Rattle.std.specs.Prelude.{IfSome, slice_get}
use Rattle.std.specs.Option.{option_map, option_map_or}
use Rattle.std.proofs.lemmas.Bool.{and_parts, cases_eq}
use Rattle.std.proofs.lemmas.List.{length-map, map-append, take_more}
use Rattle.std.proofs.lemmas.Option.{none-some, same_Some}
use Rattle.tip_core.specs.Hosted.{Hosted, realm}
use Rattle.tip_stored.specs.Recovering.{AreAnew, all_adopted, recovered}
use Rattle.tip_honest.proofs.Boxes.{begins_honest}
use Rattle.tip_honest.specs.Honesty.{AreHonest, Journal, rows_of}
use Rattle.tip_honest.specs.Hosts.{HasHonestRun, IsHonestAt}
use Rattle.tip_journal.specs.Journal.{begun}
use Rattle.tip_journal.specs.Retiring.{Retired, none_retired}
use Rattle.tip_kept.specs.Keeping.{RealmRows, rows_at}
use Rattle.tip_machine.specs.Recovery.{Loaded, restarted}
use Rattle.tip_machine.specs.States.{State}
use Rattle.tip_machine.specs.declared.head.Head.{Head}
use Rattle.tip_recovery.specs.Adopting.{Recovery, Unfinished, are_adopted, loaded, stored_of}
use Rattle.tip_rows.specs.Logs.{is_rising}
use Rattle.tip_host.proofs.Behind.{behind-none, run_behind, whole_run}
use Rattle.tip_host.specs.Books.{AreCounted, Books, HasRunBehind, IsHonest, out_of, retired_at}
use Rattle.tip_host.specs.Entries.{bare}
use Rattle.tip_host.specs.Openings.{AreTaken, IsTaken, opened}

pub bare_opened : (realms : List Recovery) → bare (map opened realms) ≡ map opened realms
bare_opened [] = refl
bare_opened (recovery ∷ realms) = ap (λ js. opened recovery ∷ js) (bare_opened realms)

pub history_opened : (realms : List Recovery) (place : ℕ) → slice_get (map opened realms) place ≡ option_map opened (slice_get realms place)
history_opened [] place = refl
history_opened (recovery ∷ realms) zero = refl
history_opened (recovery ∷ realms) (suc place) = history_opened realms place

-- no journal was let go
none_opened : (realms : List Recovery) (place : ℕ) → retired_at (map (λ recovery. none_retired) realms) place ≡ none_retired
none_opened [] place = refl
none_opened (recovery ∷ realms) zero = refl
none_opened (recovery ∷ realms) (suc place) = none_opened realms place

-- the rows of what is loaded are the stored rows
pub rows_again : (rows : List Unfinished) → rows_of (map loaded rows) ≡ stored_of rows
rows_again [] = refl
rows_again (row ∷ rows) = ap (λ rs. (row.key, row.row) ∷ rs) (rows_again rows)

adopted_at : (realms : List Recovery) (place : ℕ) → all_adopted realms ≡ true → IfSome (slice_get realms place) (λ recovery. are_adopted recovery.rows ≡ true)
adopted_at [] place all = tt
adopted_at (recovery ∷ realms) zero all = (and_parts (are_adopted recovery.rows) (all_adopted realms) all).0
adopted_at (recovery ∷ realms) (suc place) all = adopted_at realms place (and_parts (are_adopted recovery.rows) (all_adopted realms) all).1

-- what was taken of a realm that is among them
taken_at : (rows : List RealmRows) (realms : List Recovery) → AreTaken (length realms) rows realms → (place : ℕ) (recovery : Recovery) → slice_get realms place ≡ Some recovery → IsTaken rows place recovery
taken_at rows realms taken place recovery there = subst (λ found. IfSome found (IsTaken rows place)) there (taken place (within realms place there)) where
  within : (rs : List Recovery) (n : ℕ) → slice_get rs n ≡ Some recovery → n < length rs
  within [] n is = absurd (none-some recovery is)
  within (r ∷ rs) zero is = omega arith
  within (r ∷ rs) (suc n) is = omega (arith, within rs n is)

-- One realm more is taken

taken_one : (realms : List Recovery) (n : ℕ) (d : Recovery) → n < length realms → map opened (take n realms) ++ opened (get_or realms n d) ∷ [] ≡ map opened (take (n + 1) realms)
taken_one [] n d within = absurd (omega (arith, within))
taken_one (recovery ∷ realms) zero d within = refl
taken_one (recovery ∷ realms) (suc n) d within =
    let next : suc (n + 1) ≡ suc n + 1 = omega arith in
    ap (λ js. opened recovery ∷ js) (taken_one realms n d (omega (arith, within))) ∙ ap (λ k. map opened (take k (recovery ∷ realms))) next

pub journals_more : (old new : List (List Journal)) (realms : List Recovery) (n : ℕ) (item : Recovery) (epoch : ℕ) (start : List Loaded) → old ≡ map opened (take n realms) → n < length realms → item ≡ get_or realms n item → epoch ≡ item.epoch → start ≡ map loaded item.rows → new ≡ old ++ (begun epoch start ∷ []) ∷ [] → new ≡ map opened (take (n + 1) realms)
journals_more old new realms n item epoch start before within at epoch_is start_is is =
    is ∙ (λ i. before i ++ (begun (epoch_is i) (start_is i) ∷ []) ∷ []) ∙ ap (λ (r : Recovery). map opened (take n realms) ++ opened r ∷ []) at ∙ taken_one realms n item within

pub retired_more : (old new : List Retired) (realms : List Recovery) (n : ℕ) (one : Retired) → old ≡ map (λ recovery. none_retired) (take n realms) → n < length realms → one ≡ none_retired → new ≡ old ++ one ∷ [] → new ≡ map (λ recovery. none_retired) (take (n + 1) realms)
retired_more old new realms n one before within none is =
    is ∙ (λ i. before i ++ none i ∷ []) ∙ sym (map-append (λ recovery. none_retired) (take n realms) (get_or realms n (first realms n within) ∷ [])) ∙ ap (map (λ recovery. none_retired)) (sym (take_more realms n (first realms n within) within)) where
      first : (rs : List Recovery) (k : ℕ) → k < length rs → Recovery
      first [] k inside = absurd (omega (arith, inside))
      first (r ∷ rs) k inside = r

at_get : (realms : List Recovery) (n : ℕ) (d : Recovery) → n < length realms → slice_get realms n ≡ Some (get_or realms n d)
at_get [] n d within = absurd (omega (arith, within))
at_get (recovery ∷ realms) zero d within = refl
at_get (recovery ∷ realms) (suc n) d within = at_get realms n d (omega (arith, within))

taken_before : (old new : List RealmRows) (place : ℕ) → rows_at new place ≡ rows_at old place → (found : Option Recovery) → IfSome found (IsTaken old place) → IfSome found (IsTaken new place)
taken_before old new place same None is = tt
taken_before old new place same (Some recovery) is = record { kept = same ∙ is.kept; rising = is.rising; boxed = is.boxed }

pub taken_more : (old new : List RealmRows) (realms : List Recovery) (n : ℕ) (item : Recovery) → AreTaken n old realms → length old ≡ n → n < length realms → item ≡ get_or realms n item → IsTaken new n item → ((place : ℕ) → place ≢ length old → rows_at new place ≡ rows_at old place) → AreTaken (n + 1) new realms
taken_more old new realms n item before count within at own others place less = elim (cases_eq place n) [
  | inl same ↦ subst (λ p. IfSome (slice_get realms p) (IsTaken new p)) (sym same) (subst (λ found. IfSome found (IsTaken new n)) (sym (at_get realms n item within ∙ ap Some (sym at))) own)
  | inr differ ↦ taken_before old new place (others place (λ e. differ (e ∙ count))) (slice_get realms place) (before place (let apart : place ≢ n = differ in omega (arith, less, apart)))
]

module _ (core now : Hosted) (realms : List Recovery) (books : Books) (begins : books.journals ≡ map opened realms) (none : books.retired ≡ map (λ recovery. none_retired) realms) (taken : AreTaken (length realms) books.rows realms) (count : length books.rows ≡ length realms) (nobody : (place : ℕ) → out_of books place ≡ [])
    (made : (place : ℕ) → realm now place ≡ recovered (slice_get realms place) (realm core place)) (anew : AreAnew realms now) (adopted : all_adopted realms ≡ true) where
  history : (place : ℕ) → slice_get (bare books.journals) place ≡ option_map opened (slice_get realms place)
  history place = ap (λ js. slice_get (bare js) place) begins ∙ ap (λ js. slice_get js place) (bare_opened realms) ∙ history_opened realms place

  honest_at : (place : ℕ) (found : Option Recovery) → slice_get realms place ≡ found → (s : Option State) → realm now place ≡ s → IsHonestAt s [] (rows_at books.rows place) (option_map opened found)
  honest_at place None there None is = refl
  honest_at place None there (Some state) is = absurd (none-some state (sym (ap (λ f. recovered f (realm core place)) there) ∙ sym (made place) ∙ is))
  honest_at place (Some recovery) there None is = absurd (none-some recovery (sym (anew.others place is) ∙ there))
  honest_at place (Some recovery) there (Some state) is =
      let own = anew.each place state is in
      let took = taken_at books.rows realms taken place recovery there in
      let own_is : own.0 ≡ recovery = same_Some own.0 recovery (sym own.1 ∙ there) in
      let boxed = took.boxed (subst (λ found. IfSome found (λ r. are_adopted r.rows ≡ true)) there (adopted_at realms place adopted)) in
      let start = map loaded recovery.rows in
      let rows = rows_again recovery.rows in
      let was = made_of (realm core place) (sym is ∙ made place ∙ ap (λ f. recovered f (realm core place)) there) in
      let begins : AreHonest (record { state = state; rows = rows_of start; errands = [] }) (begun state.head.epoch start ∷ []) = begins_honest state start (ap is_rising rows ∙ took.rising) boxed was own.3 own.4 in
      subst (λ e. AreHonest (record { state = state; rows = rows_at books.rows place; errands = [] }) (begun e start ∷ [])) (own.2 ∙ ap (λ (r : Recovery). r.epoch) own_is)
      (subst (λ rs. AreHonest (record { state = state; rows = rs; errands = [] }) (begun state.head.epoch start ∷ [])) (rows ∙ sym took.kept) begins) where
        made_of : (was : Option State) → Some state ≡ recovered (Some recovery) was → state ≡ restarted state.head (map loaded recovery.rows)
        made_of None same = absurd (none-some state (sym same))
        made_of (Some first) same =
            let is : state ≡ restarted first.head (map loaded recovery.rows) = same_Some state _ same in
            is ∙ ap (λ (h : Head). restarted h (map loaded recovery.rows)) (sym (ap (λ (s : State). s.head) is))

  -- A HOST THAT OPENS
  pub opens_honest : IsHonest now books
  opens_honest = record {
    gone = λ place. [];
    all = λ place. subst (λ js. IsHonestAt (realm now place) (out_of books place) (rows_at books.rows place) js) (sym (ap (λ js. slice_get js place) (behind-none (bare books.journals)) ∙ history place)) (subst (λ es. IsHonestAt (realm now place) es (rows_at books.rows place) (option_map opened (slice_get realms place))) (sym (nobody place)) (honest_at place (slice_get realms place) refl (realm now place) refl));
    counted = λ place. subst (λ r. AreCounted r []) (sym (ap (λ rs. retired_at rs place) none ∙ none_opened realms place)) (record { starts = refl; entries = refl });
    some = λ place. subst (λ o. IfSome o (λ own. 0 < length own)) (sym (history place)) (some_opened (slice_get realms place));
    each = count ∙ sym journals_count;
    counts = ap length none ∙ length-map realms (λ recovery. none_retired) ∙ sym journals_count;
  } where
    journals_count : length books.journals ≡ length realms
    journals_count = ap length begins ∙ length-map realms opened

    some_opened : (found : Option Recovery) → IfSome (option_map opened found) (λ own. 0 < length own)
    some_opened None = tt
    some_opened (Some recovery) = omega arith

  -- and each realm's journal is of a run
  pub opened_run : (place : ℕ) → HasHonestRun (realm now place) (out_of books place) (rows_at books.rows place) (slice_get (bare books.journals) place)
  opened_run place =
      whole_run (realm now place) (out_of books place) (rows_at books.rows place) (slice_get (bare books.journals) place)
      (subst (λ r. HasRunBehind r (realm now place) (out_of books place) (rows_at books.rows place) (slice_get (bare books.journals) place)) (ap (λ rs. retired_at rs place) none ∙ none_opened realms place) (run_behind now books opens_honest place))

-- its kept rows are those that were read
pub rows_opened : (rows : List RealmRows) (realms : List Recovery) → AreTaken (length realms) rows realms → length rows ≡ length realms → (place : ℕ) → rows_at rows place ≡ option_map_or (λ recovery. stored_of recovery.rows) (slice_get realms place) []
rows_opened rows realms taken count place = by (slice_get realms place) refl where
  past : (kept : List RealmRows) (rs : List Recovery) (n : ℕ) → length kept ≡ length rs → slice_get rs n ≡ None → rows_at kept n ≡ []
  past [] rs n same none = refl
  past (k ∷ kept) [] n same none = absurd (omega (arith, same))
  past (k ∷ kept) (r ∷ rs) zero same none = absurd (none-some r (sym none))
  past (k ∷ kept) (r ∷ rs) (suc n) same none = past kept rs n (omega (arith, same)) none

  by : (found : Option Recovery) → slice_get realms place ≡ found → rows_at rows place ≡ option_map_or (λ (recovery : Recovery). stored_of recovery.rows) found []
  by None there = past rows realms place count there
  by (Some recovery) there = (taken_at rows realms taken place recovery there).kept
