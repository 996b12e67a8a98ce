-- A realm that starts again at a host.
use Rattle.std.proofs.Common.{◌≡◌, ◌≢◌, ◌<◌, ◌+◌, ◌==◌, ◌++◌, ◌∷◌, ◌∙◌, if◌then◌else◌, ℕ, zero, suc, Bool, false, true, List, [], Option, None, Some, Result, Ok, Err, length, length-append, map, ap, arith, refl, subst, sym, inr}
use Rattle.std.specs.Prelude.{◌↔◌, IfErr, IfOk, IfSome, IsSomeAnd, OnOk, slice_get}
use Rattle.std.specs.Option.{option_and_then, option_map}
use Rattle.std.specs.Cmp.{unsigned_Decides}
use Rattle.std.proofs.lemmas.Bool.Decides.{nat_tests}
use Rattle.std.proofs.lemmas.Option.{none-some, same_Some}
use Rattle.tip_core.specs.Hosted.{Hosted, realm}
use Rattle.tip_honest.proofs.Hosting.{all_renewed}
use Rattle.tip_honest.specs.Honesty.{Journal, StandsFor, are_boxed}
use Rattle.tip_honest.specs.Hosts.{IsRenewed}
use Rattle.tip_journal.proofs.HistoryLemmas.{length-changed_at}
use Rattle.tip_journal.proofs.LawLemmas.{renewed-current, renewed-withdrawn}
use Rattle.tip_journal.specs.Journal.{Written, begun, with_room}
use Rattle.tip_journal.specs.Journals.{IsWithdrawable, changed_at, current, last_of, renewed, without_last}
use Rattle.tip_machine.specs.Moves.{risen}
use Rattle.tip_kept.specs.Keeping.{rows_at}
use Rattle.tip_machine.specs.Recovery.{restarted}
use Rattle.tip_machine.specs.States.{State}
use Rattle.tip_machine.specs.declared.head.Head.{Head}
use Rattle.tip_stored.specs.Renewing.{IsReasonToRenew}
use Rattle.tip_stored.specs.declared.renewing.RenewFault.{RenewFault}
use Rattle.tip_stored.specs.declared.renewing.RenewFault.TheVariants.{Stopped}
use Rattle.tip_recovery.specs.Adopting.{Recovery, Unfinished, loaded, stored_of}
use Rattle.tip_rows.specs.Keys.{Key}
use Rattle.tip_rows.specs.declared.row.Row.{Row}
use Rattle.tip_rows.specs.Logs.{Log, is_rising, last_epoch}
use Rattle.tip_table.specs.Kept.{of}
use Rattle.tip_host.proofs.Behind.{renewed_over, some_renewed}
use Rattle.tip_host.proofs.Journals.{bare_renewed, current_bare}
use Rattle.tip_host.proofs.Honestly.{stands_here}
use Rattle.tip_host.proofs.Beginning.{rows_again}
use Rattle.tip_host.specs.Books.{AreCounted, Books, IsHonest, known_by, known_over, out_of, retired_at}
use Rattle.tip_host.specs.Entries.{bare}
use Rattle.tip_host.specs.Renewals.{IsReason, next_epoch}

abbrev after : Head → Option ℕ
after head = if head.epoch == last_epoch then None else Some (head.epoch + 1)

next_as : (s : Option State) → option_and_then after (option_map (λ (state : State). state.head) s) ≡ next_epoch false s
next_as None = refl
next_as (Some state) = refl

pub next_is : (heads : List Head) (place : ℕ) (s : Option State) → slice_get heads place ≡ option_map (λ (state : State). state.head) s → (result : Option ℕ) → result ≡ option_and_then after (slice_get heads place) → (stopped : Bool) → stopped ≡ false → result ≡ next_epoch stopped s
next_is heads place s here result is stopped running = is ∙ ap (option_and_then after) here ∙ next_as s ∙ ap (λ b. next_epoch b s) (sym running)

-- The realm that may start again

chosen_epoch : (state : State) (epoch : ℕ) (b : Bool) → Some epoch ≡ (if b then None else Some (state.head.epoch + 1)) → epoch ≡ state.head.epoch + 1
chosen_epoch state epoch true is = absurd (none-some epoch (sym is))
chosen_epoch state epoch false is = same_Some epoch (state.head.epoch + 1) is

pub next_state : (stopped : Bool) (s : Option State) (epoch : ℕ) → Some epoch ≡ next_epoch stopped s → (state : State) × (s ≡ Some state) × (epoch ≡ state.head.epoch + 1)
next_state true s epoch is = absurd (none-some epoch (sym is))
next_state false None epoch is = absurd (none-some epoch (sym is))
next_state false (Some state) epoch is = (state, refl, chosen_epoch state epoch (state.head.epoch == last_epoch) is)

none_chosen : (state : State) (b : Bool) → None ≡ (if b then None else Some (state.head.epoch + 1)) → b ≡ true
none_chosen state true is = refl
none_chosen state false is = absurd (none-some (state.head.epoch + 1) is)

-- where none may, it is refused
pub never_renewed : {T E : Type 0} (result : Result T E) (stopped : Bool) (s : Option State) (Q : State → T → Type 0) → None ≡ next_epoch stopped s → OnOk result (s ≢ None) → OnOk result (stopped ≡ false) → ((state : State) → s ≡ Some state → IfOk result (Q state)) → ((state : State) (x : T) → Q state x → state.head.epoch < last_epoch) → (P : Type 0) → OnOk result P
never_renewed (Err fault) stopped s Q none here running renewed rises P = tt
never_renewed (Ok x) true s Q none here running renewed rises P = absurd (cc)
never_renewed (Ok x) false None Q none here running renewed rises P = absurd (here refl)
never_renewed (Ok x) false (Some state) Q none here running renewed rises P =
    absurd (let last = none_chosen state (state.head.epoch == last_epoch) none in let less = rises state x (renewed state refl) in grind (arith, nat_tests))

later_as : (state : State) (epoch : ℕ) → epoch ≡ state.head.epoch + 1 → (j : Option Journal) → IsSomeAnd (option_map (with_room 0) j) (StandsFor state) → IsSomeAnd j (λ journal. journal.epoch < epoch)
later_as state epoch is None stands = absurd stands
later_as state epoch is (Some journal) stands = omega (arith, stands.epoch, is)

pub later_so : (core : Hosted) (books : Books) (place : ℕ) (stopped : Bool) (epoch : ℕ) → IsHonest core books → Some epoch ≡ next_epoch stopped (realm core place) → IsSomeAnd (current books.journals place) (λ journal. journal.epoch < epoch)
later_so core books place stopped epoch honest is =
    let found = next_state stopped (realm core place) epoch is in
    later_as found.0 epoch found.2 (current books.journals place) (subst (λ j. IsSomeAnd j (StandsFor found.0)) (current_bare books.journals place) (stands_here core books honest place found.0 found.1))

-- Its journals

some_last : {S E : Type 0} (P : Written S E → Type 0) (history : List (Written S E)) → IsSomeAnd (last_of history) P → 0 < length history
some_last P [] some = absurd some
some_last P (x ∷ history) some = omega arith

pub withdrawable : {S E : Type 0} (P : Written S E → Type 0) (journals : List (List (Written S E))) (place : ℕ) (epoch : ℕ) (start : S) → IsSomeAnd (current journals place) P → IsSomeAnd (slice_get (renewed place (begun epoch start) journals) place) IsWithdrawable
withdrawable P [] place epoch start some = absurd some
withdrawable P (history ∷ journals) zero epoch start some = record {
  earlier = omega (arith, length-append history (begun epoch start ∷ []), some_last P history some);
  empty = subst (λ j. IsSomeAnd j (λ journal. journal.entries ≡ [])) (sym (renewed-current (history ∷ []) 0 (begun epoch start) (omega arith))) refl;
}
withdrawable P (history ∷ journals) (suc place) epoch start some = withdrawable P journals place epoch start some

-- THE REALM IS RENEWED by its stored rows
module _ (core core' : Hosted) (old begun_now new : Books) (place : ℕ) (state : State) (epoch : ℕ) (rows : List Unfinished) (honest : IsHonest core old) (here : realm core place ≡ Some state) (later : epoch ≡ state.head.epoch + 1)
    (same : rows_at old.rows place ≡ stored_of rows) (rising : is_rising (stored_of rows) ≡ true) (boxed : are_boxed (map loaded rows) ≡ true) (rises : state.head.epoch < last_epoch)
    (own : realm core' place ≡ Some (restarted (risen state.head) (map loaded rows))) (others : (other : ℕ) → other ≢ place → realm core' other ≡ realm core other)
    (begins : begun_now.journals ≡ renewed place (begun epoch (map loaded rows)) old.journals) (journals : new.journals ≡ begun_now.journals) (retired : new.retired ≡ old.retired) (kept : new.rows ≡ old.rows) (work : new.work ≡ old.work) (out : new.out ≡ old.out) where
  begins_bare : bare new.journals ≡ renewed place (begun (state.head.epoch + 1) (map loaded rows)) (bare old.journals)
  begins_bare = ap bare (journals ∙ begins) ∙ bare_renewed old.journals place (begun epoch (map loaded rows)) ∙ ap (λ e. renewed place (begun e (map loaded rows)) (bare old.journals)) later

  same_out : (other : ℕ) → out_of new other ≡ out_of old other
  same_out other = λ i. of (out i) other ++ of (work i) other

  -- as far as the host knows it
  pub renewed_known : IsRenewed (known_by core old) (known_by core' new) place state (map loaded rows)
  renewed_known = record {
    here = here;
    of_rows = rows_again rows ∙ sym same;
    rising = ap is_rising (rows_again rows) ∙ rising;
    boxed = boxed;
    rises = rises;
    after = own;
    out_is = same_out place;
    rows_are = ap (λ k. rows_at k place) kept;
    begun = begins_bare;
    others = λ other differ. (others other differ, same_out other, ap (λ k. rows_at k other) kept);
  }

  pub renewed_honest : IsHonest core' new
  renewed_honest = record {
    gone = honest.gone;
    all = all_renewed (known_over honest.gone core old) (known_over honest.gone core' new) place honest.all state (map loaded rows) (renewed_over honest.gone core core' old new place state (map loaded rows) renewed_known);
    counted = λ other. subst (λ rs. AreCounted (retired_at rs other) (honest.gone other)) (sym retired) (honest.counted other);
    some = subst (λ js. (other : ℕ) → IfSome (slice_get js other) (λ own. 0 < length own)) (sym begins_bare) (some_renewed (bare old.journals) place (begun (state.head.epoch + 1) (map loaded rows)) honest.some);
    each = ap length kept ∙ honest.each ∙ sym journals_count;
    counts = ap length retired ∙ honest.counts ∙ sym journals_count;
  } where
    journals_count : length new.journals ≡ length old.journals
    journals_count = ap length (journals ∙ begins) ∙ length-changed_at old.journals place (λ history. history ++ begun epoch (map loaded rows) ∷ [])

-- an epoch that can rise is not the last
not_last : (state : State) (epoch : ℕ) (b : Bool) → Some epoch ≡ (if b then None else Some (state.head.epoch + 1)) → b ≡ false
not_last state epoch true is = absurd (none-some epoch (sym is))
not_last state epoch false is = refl

pub can_rise : (stopped : Bool) (s : Option State) (epoch : ℕ) (state : State) → Some epoch ≡ next_epoch stopped s → s ≡ Some state → state.head.epoch ≢ last_epoch
can_rise true s epoch state is here last = absurd (none-some epoch (sym is))
can_rise false None epoch state is here last = absurd (none-some state here)
can_rise false (Some own) epoch state is here last =
    let differs = not_last own epoch (own.head.epoch == last_epoch) is in
    let end : own.head.epoch ≡ last_epoch = ap (λ (s : State). s.head.epoch) (same_Some own state here) ∙ last in
    absurd (grind (arith, nat_tests))

-- what the stored core says of a fault, where no epoch may rise
unable : (stopped : Bool) (state : State) → None ≡ next_epoch stopped (Some state) → state.head.epoch ≢ last_epoch → stopped ≡ true
unable true state none not_last = refl
unable false state none not_last = absurd (not_last ((unsigned_Decides state.head.epoch last_epoch).0 (none_chosen state (state.head.epoch == last_epoch) none)))

pub as_core_says : {T : Type 0} (result : Result T (RenewFault × Recovery)) (stopped : Bool) (s : Option State) (log : Log) (state : State) (rows : List (Key × Row)) (recovery : Recovery) → None ≡ next_epoch stopped s → s ≡ Some state → IfErr result (λ fault. (fault.0 ≡ Stopped) ↔ (stopped ≡ true)) →
    IfErr result (λ fault. IsReasonToRenew log state recovery fault.0) → IfErr result (λ fault. IsReason log state rows recovery fault.0)
as_core_says (Ok x) stopped s log state rows recovery none here stopping reason = tt
as_core_says (Err fault) stopped s log state rows recovery none here stopping reason = inr (λ not_last runs. absurd (runs (stopping.1 (unable stopped state (subst (λ found. None ≡ next_epoch stopped found) here none) not_last))), reason)

-- a journal that was begun and is withdrawn leaves all as it was
pub withdrawn : (old begun_now new : Books) (place epoch : ℕ) (rows : List Unfinished) → begun_now.journals ≡ renewed place (begun epoch (map loaded rows)) old.journals → begun_now ≡ record old { journals = begun_now.journals } → new ≡ record begun_now { journals = changed_at place without_last begun_now.journals } → new ≡ old
withdrawn old begun_now new place epoch rows begins rest is =
    is
    ∙ ap (λ (b : Books). record b { journals = changed_at place without_last begun_now.journals }) rest
    ∙ ap (λ js. record old { journals = js }) (ap (changed_at place without_last) begins ∙ renewed-withdrawn old.journals place (begun epoch (map loaded rows)))
