-- Journals that were let go, in front of those that are kept.
use Rattle.std.proofs.Common.{◌≡◌, ◌<◌, ◌+◌, ◌-◌, ◌++◌, ◌∷◌, ◌∙◌, ℕ, zero, suc, Bool, true, false, cond, List, [], Option, Some, None, append_assoc, arith, length, length-append, refl, ap, sym, subst, inl, inr}
use Rattle.std.specs.Prelude.{IfSome, slice_get}
use Rattle.std.specs.Option.{option_map}
use Rattle.std.proofs.lemmas.Bool.{cases_eq}
use Rattle.tip_core.specs.Hosted.{Hosted, realm}
use Rattle.tip_honest.proofs.Chained.{last_behind}
use Rattle.tip_honest.proofs.Hosting.{run_at}
use Rattle.tip_honest.specs.Honesty.{Journal}
use Rattle.tip_honest.specs.Hosts.{HasCome, HasHonestRun, IsLost, IsRenewed, IsSame}
use Rattle.tip_branch.specs.Notes.{PartyNotes}
use Rattle.tip_honest.specs.declared.entry.Entry.{Entry}
use Rattle.tip_journal.proofs.HistoryLemmas.{length-changed_at, slice_get-changed_at, slice_get-changed_other}
use Rattle.tip_journal.specs.Journal.{begun, with_entry}
use Rattle.tip_journal.specs.Journals.{changed_at, last_of, renewed, with_current, with_last}
use Rattle.tip_journal.specs.Retiring.{none_retired}
use Rattle.tip_kept.specs.Keeping.{rows_at}
use Rattle.tip_machine.specs.Recovery.{Loaded}
use Rattle.tip_machine.specs.States.{State}
use Rattle.tip_machine.specs.Steps.{is_open}
use Rattle.tip_machine.specs.Types.{Event}
use Rattle.tip_machine.specs.declared.event.Outcome.{Outcome}
use Rattle.tip_rows.specs.Keys.{Key}
use Rattle.tip_rows.specs.declared.row.Row.{Row}
use Rattle.tip_host.specs.Books.{Books, HasRunBehind, IsHonest, behind, known_by, known_over, out_of, retired_at}
use Rattle.tip_host.specs.Entries.{bare}

pub slice_get-behind : (gone : ℕ → List Journal) (kept : List (List Journal)) (place : ℕ) → slice_get (behind gone kept) place ≡ option_map (λ own. gone place ++ own) (slice_get kept place)
slice_get-behind gone [] place = refl
slice_get-behind gone (own ∷ kept) zero = refl
slice_get-behind gone (own ∷ kept) (suc place) = slice_get-behind (λ p. gone (suc p)) kept place

pub last_of-behind : (gone own : List Journal) → 0 < length own → last_of (gone ++ own) ≡ last_of own
last_of-behind [] own some = refl
last_of-behind (j ∷ gone) own some =
    let more : 0 < length (gone ++ own) = omega (arith, length-append gone own, some) in
    let place : length (j ∷ (gone ++ own)) - 1 ≡ suc (length (gone ++ own) - 1) = omega (arith, more) in
    ap (slice_get (j ∷ (gone ++ own))) place ∙ last_of-behind gone own some

-- where none was let go
pub behind-none : (kept : List (List Journal)) → behind (λ place. []) kept ≡ kept
behind-none [] = refl
behind-none (own ∷ kept) = ap (λ js. own ∷ js) (behind-none kept)

-- an entry of the current journal
behind-entered : (gone : ℕ → List Journal) (kept : List (List Journal)) (place : ℕ) (change : Journal → Journal) → IfSome (slice_get kept place) (λ own. 0 < length own) → behind gone (with_current place change kept) ≡ with_current place change (behind gone kept)
behind-entered gone [] place change some = refl
behind-entered gone (own ∷ kept) zero change some = ap (λ h. h ∷ behind (λ p. gone (suc p)) kept) (sym (last_behind change (gone 0) own some))
behind-entered gone (own ∷ kept) (suc place) change some = ap (λ hs. (gone 0 ++ own) ∷ hs) (behind-entered (λ p. gone (suc p)) kept place change some)

-- a journal more
behind-renewed : (gone : ℕ → List Journal) (kept : List (List Journal)) (place : ℕ) (journal : Journal) → behind gone (renewed place journal kept) ≡ renewed place journal (behind gone kept)
behind-renewed gone [] place journal = refl
behind-renewed gone (own ∷ kept) zero journal = ap (λ h. h ∷ behind (λ p. gone (suc p)) kept) (sym (append_assoc (gone 0) own (journal ∷ [])))
behind-renewed gone (own ∷ kept) (suc place) journal = ap (λ hs. (gone 0 ++ own) ∷ hs) (behind-renewed (λ p. gone (suc p)) kept place journal)

-- What is known by all journals, as what is known by those that are kept

module _ (gone : ℕ → List Journal) (core core' : Hosted) (old new : Books) where
  pub same_over : IsSame (known_by core old) (known_by core' new) → IsSame (known_over gone core old) (known_over gone core' new)
  same_over same = record { realms = same.realms; out = same.out; rows = same.rows; journals = ap (behind gone) same.journals }

  pub lost_over : (place : ℕ) → IsLost (known_by core old) (known_by core' new) place → IsLost (known_over gone core old) (known_over gone core' new) place
  lost_over place is = record { spot = is.spot; party = is.party; was = is.was; realm_is = is.realm_is; rows_are = is.rows_are; same = ap (behind gone) is.same; others = is.others }

  entered_over : (place : ℕ) (entry : Entry) → IfSome (slice_get (bare old.journals) place) (λ own. 0 < length own) → (b : Bool) → bare new.journals ≡ cond b (with_current place (with_entry entry) (bare old.journals)) (bare old.journals) → behind gone (bare new.journals) ≡ cond b (with_current place (with_entry entry) (behind gone (bare old.journals))) (behind gone (bare old.journals))
  entered_over place entry some true is = ap (behind gone) is ∙ behind-entered gone (bare old.journals) place (with_entry entry) some
  entered_over place entry some false is = ap (behind gone) is

  pub come_over : (place : ℕ) (event : Event) (outcome : Outcome) (state : State) → IfSome (slice_get (bare old.journals) place) (λ own. 0 < length own) → HasCome (known_by core old) (known_by core' new) place event outcome state → HasCome (known_over gone core old) (known_over gone core' new) place event outcome state
  come_over place event outcome state some is = record {
    here = is.here;
    after = is.after;
    fit = is.fit;
    left = is.left;
    brings = is.brings;
    out_is = is.out_is;
    rows_are = is.rows_are;
    entered = entered_over place (record { event = event; outcome = outcome }) some (is_open state) is.entered;
    others = is.others;
  }

  pub renewed_over : (place : ℕ) (state : State) (start : List Loaded) → IsRenewed (known_by core old) (known_by core' new) place state start → IsRenewed (known_over gone core old) (known_over gone core' new) place state start
  renewed_over place state start is = record {
    here = is.here;
    of_rows = is.of_rows;
    rising = is.rising;
    boxed = is.boxed;
    rises = is.rises;
    after = is.after;
    out_is = is.out_is;
    rows_are = is.rows_are;
    begun = ap (behind gone) is.begun ∙ behind-renewed gone (bare old.journals) place (begun (state.head.epoch + 1) start);
    others = is.others;
  }

-- A realm keeps a journal

some_changed : (journals : List (List Journal)) (at : ℕ) (change : List Journal → List Journal) → ((own : List Journal) → 0 < length own → 0 < length (change own)) → ((place : ℕ) → IfSome (slice_get journals place) (λ own. 0 < length own)) → (place : ℕ) → IfSome (slice_get (changed_at at change journals) place) (λ own. 0 < length own)
some_changed journals at change keeps some place = elim (cases_eq place at) [
  | inl same ↦ subst (λ p. IfSome (slice_get (changed_at at change journals) p) (λ own. 0 < length own)) (sym same) (subst (λ o. IfSome o (λ own. 0 < length own)) (sym (slice_get-changed_at journals at change)) (by (slice_get journals at) (some at)))
  | inr differ ↦ subst (λ o. IfSome o (λ own. 0 < length own)) (sym (slice_get-changed_other journals at place change differ)) (some place)
] where
  by : (found : Option (List Journal)) → IfSome found (λ own. 0 < length own) → IfSome (option_map change found) (λ own. 0 < length own)
  by None is = tt
  by (Some own) is = keeps own is

pub some_entered : (journals : List (List Journal)) (at : ℕ) (change : Journal → Journal) → ((place : ℕ) → IfSome (slice_get journals place) (λ own. 0 < length own)) → (place : ℕ) → IfSome (slice_get (with_current at change journals) place) (λ own. 0 < length own)
some_entered journals at change some = some_changed journals at (with_last change) (λ own is. omega (arith, length-changed_at own (length own - 1) change, is)) some

pub some_renewed : (journals : List (List Journal)) (at : ℕ) (journal : Journal) → ((place : ℕ) → IfSome (slice_get journals place) (λ own. 0 < length own)) → (place : ℕ) → IfSome (slice_get (renewed at journal journals) place) (λ own. 0 < length own)
some_renewed journals at journal some = some_changed journals at (λ own. own ++ journal ∷ []) (λ own is. omega (arith, length-append own (journal ∷ []), is)) some

-- What its journals say

pub run_behind : (core : Hosted) (books : Books) → IsHonest core books → (place : ℕ) → HasRunBehind (retired_at books.retired place) (realm core place) (out_of books place) (rows_at books.rows place) (slice_get (bare books.journals) place)
run_behind core books honest place = record {
  gone = honest.gone place;
  counted = honest.counted place;
  run = subst (HasHonestRun (realm core place) (out_of books place) (rows_at books.rows place)) (slice_get-behind honest.gone (bare books.journals) place) (run_at (known_over honest.gone core books) honest.all place);
}

-- Where none was let go

none_gone : (gone : List Journal) → 0 ≡ length gone → gone ≡ []
none_gone [] none = refl
none_gone (j ∷ gone) none = absurd (omega (arith, none))

pub whole_run : (state : Option State) (out : List PartyNotes) (rows : List (Key × Row)) (kept : Option (List Journal)) → HasRunBehind none_retired state out rows kept → HasHonestRun state out rows kept
whole_run state out rows kept is = subst (HasHonestRun state out rows) (ap (λ gone. option_map (λ own. gone ++ own) kept) (none_gone is.gone is.counted.starts) ∙ by kept) is.run where
  by : (found : Option (List Journal)) → option_map (λ own. [] ++ own) found ≡ found
  by None = refl
  by (Some own) = refl
