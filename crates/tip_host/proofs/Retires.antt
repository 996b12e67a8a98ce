-- A host that lets go of a journal.
use Rattle.std.proofs.Common.{◌≡◌, ◌≢◌, ◌<◌, ◌+◌, ◌^◌, ◌++◌, ◌∷◌, ◌∙◌, ◌==◌, ◌⊎◌, ℕ, zero, suc, true, false, cond, List, [], Option, Some, None, Result, Ok, Err, append_assoc, arith, get_or, length, length-append, map, refl, ap, sym, subst, inl, inr}
use Rattle.std.specs.Prelude.{IfSome, OnErr, OnOk, drop, slice_get, unwrap_or}
use Rattle.std.specs.Option.{option_map}
use Rattle.std.proofs.lemmas.Bool.{cases_eq}
use Rattle.std.proofs.lemmas.Bool.Decides.{nat_tests}
use Rattle.std.proofs.lemmas.List.Sums.{sum_by_push}
use Rattle.std.proofs.lemmas.Option.{slice_get-map, slice_get_read, slice_get_within}
use Rattle.tip_core.specs.Hosted.{Hosted, realm}
use Rattle.tip_honest.specs.Honesty.{Journal}
use Rattle.tip_honest.specs.Hosts.{IsHonestAt}
use Rattle.tip_journal.proofs.HistoryLemmas.{length-changed_at, slice_get-changed_at, slice_get-changed_other}
use Rattle.tip_journal.proofs.Retirings.{Ended, ended-is}
use Rattle.tip_journal.specs.Journal.{with_room}
use Rattle.tip_journal.specs.Journals.{changed_at}
use Rattle.tip_journal.specs.Pass.{Held}
use Rattle.tip_journal.specs.Retiring.{IsRetired, Retired, ended_at, none_retired, with_retired}
use Rattle.tip_journal.specs.declared.retiring.RetireFault.{RetireFault}
use Rattle.tip_kept.specs.Keeping.{rows_at}
use Rattle.tip_machine.specs.States.{State}
use Rattle.tip_honest.specs.declared.entry.Entry.{Entry}
use Rattle.tip_host.proofs.Behind.{slice_get-behind}
use Rattle.tip_host.proofs.Starts.{few_starts}
use Rattle.tip_host.specs.Books.{AreCounted, Books, CanCount, IsHonest, LetsGo, behind, out_of, retired_at}
use Rattle.tip_host.specs.Entries.{bare}

-- the count of one more
counted_more : (retired : Retired) (gone : List Journal) (journal : Journal) (entries : ℕ) → entries ≡ length journal.entries → AreCounted retired gone → AreCounted (with_retired entries retired) (gone ++ with_room 0 journal ∷ [])
counted_more retired gone journal entries count is = record {
  starts = omega (arith, length-append gone (with_room 0 journal ∷ []), is.starts);
  entries = omega (arith, sum_by_push (λ (j : Journal). length j.entries) gone (with_room 0 journal), is.entries, count);
}

retired_here : (retired : List Retired) (at : ℕ) (change : Retired → Retired) → at < length retired → retired_at (changed_at at change retired) at ≡ change (retired_at retired at)
retired_here [] at change within = absurd (omega (arith, within))
retired_here (r ∷ retired) zero change within = refl
retired_here (r ∷ retired) (suc at) change within = retired_here retired at change (omega (arith, within))

retired_there : (retired : List Retired) (at other : ℕ) (change : Retired → Retired) → other ≢ at → retired_at (changed_at at change retired) other ≡ retired_at retired other
retired_there retired at other change differ = ap (λ o. unwrap_or o none_retired) (slice_get-changed_other retired at other change differ)

-- what is counted of a realm, read
pub retired_read : (retired : List Retired) (at : ℕ) (x : Retired) → at < length retired → x ≡ get_or retired at x → retired_at retired at ≡ x
retired_read retired at x within read = ap (λ o. unwrap_or o none_retired) (slice_get_read retired (length retired) at x refl within read)

-- The realm's oldest journal that is kept, which has ended

module _ (core : Hosted) (old : Books) (place epoch : ℕ) (journal : Journal) (honest : IsHonest core old) (was : ended_at old.journals place epoch ≡ Some journal) where
  ended : Ended old.journals place epoch journal
  ended = ended-is old.journals place epoch journal was

  -- those that are kept of its realm
  were : slice_get (bare old.journals) place ≡ Some (with_room 0 journal ∷ map (with_room 0) (ended.next ∷ ended.later))
  were = slice_get-map (map (with_room 0)) old.journals place ∙ ap (option_map (map (with_room 0))) ended.are

  -- what is counted of the realm is there
  within : place < length old.retired
  within = omega (arith, honest.counts, slice_get_within old.journals place _ ended.are)

  -- one more can be counted
  few : (retired_at old.retired place).starts + 1 < 2 ^ 32
  few = by (realm core place) (honest.all place) where
    own : List Journal
    own = with_room 0 journal ∷ map (with_room 0) (ended.next ∷ ended.later)

    all_are : slice_get (behind honest.gone (bare old.journals)) place ≡ Some (honest.gone place ++ own)
    all_are = slice_get-behind honest.gone (bare old.journals) place ∙ ap (option_map (λ js. honest.gone place ++ js)) were

    by : (s : Option State) → IsHonestAt s (out_of old place) (rows_at old.rows place) (slice_get (behind honest.gone (bare old.journals)) place) → (retired_at old.retired place).starts + 1 < 2 ^ 32
    by s is = of s (subst (IsHonestAt s (out_of old place) (rows_at old.rows place)) all_are is) where
      of : (s : Option State) → IsHonestAt s (out_of old place) (rows_at old.rows place) (Some (honest.gone place ++ own)) → (retired_at old.retired place).starts + 1 < 2 ^ 32
      of None is = absurd is
      of (Some state) is = omega (arith, few_starts _ (honest.gone place ++ own) is, length-append (honest.gone place) own, (honest.counted place).starts)

  pub can_count : CanCount old.retired place
  can_count = (within, few)

pub can_count_so : (core : Hosted) (old : Books) (place epoch : ℕ) → IsHonest core old → IfSome (ended_at old.journals place epoch) (λ journal. CanCount old.retired place)
can_count_so core old place epoch honest = by (ended_at old.journals place epoch) refl where
  by : (found : Option Journal) → ended_at old.journals place epoch ≡ found → IfSome found (λ journal. CanCount old.retired place)
  by None none = tt
  by (Some journal) was = can_count core old place epoch journal honest was

-- It is let go

module _ (core : Hosted) (old new : Books) (place epoch entries : ℕ) (before after : List (Held Entry)) (honest : IsHonest core old) (retires : IsRetired old.journals new.journals before after place epoch entries) where
  abbrev journal : Journal
  journal = retires.journal

  abbrev own : Ended old.journals place epoch journal
  own = ended core old place epoch journal honest retires.was

  -- those that were let go by now
  abbrev gone : ℕ → List Journal
  gone other = cond (other == place) (honest.gone place ++ with_room 0 journal ∷ []) (honest.gone other)

  gone_here : gone place ≡ honest.gone place ++ with_room 0 journal ∷ []
  gone_here = let same : (place == place) ≡ true = grind (arith, nat_tests) in rw same refl

  gone_there : (other : ℕ) → other ≢ place → gone other ≡ honest.gone other
  gone_there other differ = let no : (other == place) ≡ false = grind (arith, nat_tests) in rw no refl

  -- the realm's kept journals now
  are : slice_get (bare new.journals) place ≡ Some (map (with_room 0) (own.next ∷ own.later))
  are = ap (λ js. slice_get (bare js) place) retires.gone ∙ slice_get-map (map (with_room 0)) (changed_at place (drop 1) old.journals) place ∙ ap (option_map (map (with_room 0))) (slice_get-changed_at old.journals place (drop 1) ∙ ap (option_map (drop 1)) own.are)

  same_there : (other : ℕ) → other ≢ place → slice_get (bare new.journals) other ≡ slice_get (bare old.journals) other
  same_there other differ =
      ap (λ js. slice_get (bare js) other) retires.gone ∙ slice_get-map (map (with_room 0)) (changed_at place (drop 1) old.journals) other
      ∙ ap (option_map (map (with_room 0))) (slice_get-changed_other old.journals place other (drop 1) differ) ∙ sym (slice_get-map (map (with_room 0)) old.journals other)

  -- together they are what they were
  same_all : (other : ℕ) → slice_get (behind gone (bare new.journals)) other ≡ slice_get (behind honest.gone (bare old.journals)) other
  same_all other = slice_get-behind gone (bare new.journals) other ∙ by (cases_eq other place) ∙ sym (slice_get-behind honest.gone (bare old.journals) other) where
    here : option_map (λ own. gone place ++ own) (slice_get (bare new.journals) place) ≡ option_map (λ own. honest.gone place ++ own) (slice_get (bare old.journals) place)
    here =
        ap (option_map (λ own. gone place ++ own)) are
        ∙ ap (λ g. Some (g ++ map (with_room 0) (own.next ∷ own.later))) gone_here
        ∙ ap Some (append_assoc (honest.gone place) (with_room 0 journal ∷ []) (map (with_room 0) (own.next ∷ own.later)))
        ∙ sym (ap (option_map (λ own. honest.gone place ++ own)) (were core old place epoch journal honest retires.was))

    by : (other ≡ place) ⊎ (other ≢ place) → option_map (λ own. gone other ++ own) (slice_get (bare new.journals) other) ≡ option_map (λ own. honest.gone other ++ own) (slice_get (bare old.journals) other)
    by (inl same) = subst (λ p. option_map (λ own. gone p ++ own) (slice_get (bare new.journals) p) ≡ option_map (λ own. honest.gone p ++ own) (slice_get (bare old.journals) p)) (sym same) here
    by (inr differ) = (λ i. option_map (λ own. gone_there other differ i ++ own) (same_there other differ i))

  -- THE REALM IS HONEST STILL
  retired_honest : new ≡ record old { journals = new.journals; retired = new.retired } → new.retired ≡ changed_at place (with_retired entries) old.retired → IsHonest core new
  retired_honest rest counts = record {
    gone = gone;
    all = λ other. subst (IsHonestAt (realm core other) (out_of new other) (rows_at new.rows other)) (sym (same_all other)) (subst (λ (b : Books). IsHonestAt (realm core other) (out_of b other) (rows_at b.rows other) (slice_get (behind honest.gone (bare old.journals)) other)) (sym rest) (honest.all other));
    counted = λ other. counted_at other (cases_eq other place);
    some = λ other. some_at other (cases_eq other place);
    each = ap (λ (b : Books). length b.rows) rest ∙ honest.each ∙ sym journals_count;
    counts = ap length counts ∙ length-changed_at old.retired place (with_retired entries) ∙ honest.counts ∙ sym journals_count;
  } where
    journals_count : length new.journals ≡ length old.journals
    journals_count = ap length retires.gone ∙ length-changed_at old.journals place (drop 1)

    counted_at : (other : ℕ) → (other ≡ place) ⊎ (other ≢ place) → AreCounted (retired_at new.retired other) (gone other)
    counted_at other (inl same) =
        subst (λ p. AreCounted (retired_at new.retired p) (gone p)) (sym same)
        (subst (λ r. AreCounted r (gone place)) (sym (ap (λ rs. retired_at rs place) counts ∙ retired_here old.retired place (with_retired entries) (within core old place epoch journal honest retires.was)))
        (subst (AreCounted (with_retired entries (retired_at old.retired place))) (sym gone_here) (counted_more (retired_at old.retired place) (honest.gone place) journal entries retires.count (honest.counted place))))
    counted_at other (inr differ) =
        subst (λ r. AreCounted r (gone other)) (sym (ap (λ rs. retired_at rs other) counts ∙ retired_there old.retired place other (with_retired entries) differ))
        (subst (AreCounted (retired_at old.retired other)) (sym (gone_there other differ)) (honest.counted other))

    some_at : (other : ℕ) → (other ≡ place) ⊎ (other ≢ place) → IfSome (slice_get (bare new.journals) other) (λ own. 0 < length own)
    some_at other (inl same) = subst (λ p. IfSome (slice_get (bare new.journals) p) (λ own. 0 < length own)) (sym same) (subst (λ o. IfSome o (λ own. 0 < length own)) (sym are) (omega arith))
    some_at other (inr differ) = subst (λ o. IfSome o (λ own. 0 < length own)) (sym (same_there other differ)) (honest.some other)

-- SO ALL REALMS ARE HONEST, whether one was let go or not
pub let_go_honest : (core : Hosted) (old new : Books) (place epoch : ℕ) (before after : List (Held Entry)) (result : Result (Unit {0}) RetireFault) → IsHonest core old → OnOk result (LetsGo old new place epoch before after) → OnErr result (new ≡ old) → new ≡ record old { journals = new.journals; retired = new.retired } → IsHonest core new
let_go_honest core old new place epoch before after (Ok done) honest gone same rest = retired_honest core old new place epoch gone.entries before after honest gone.retires rest gone.counted
let_go_honest core old new place epoch before after (Err fault) honest gone same rest = subst (IsHonest core) (sym same) honest
