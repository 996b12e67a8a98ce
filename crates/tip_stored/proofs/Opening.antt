-- A store that is led along a way of logs, call by call.
use Rattle.std.proofs.Common.{arith, ◌≡◌, ℕ, zero, suc, ◌+◌, ◌<◌, Bool, true, false, List, [], ◌∷◌, ◌++◌, Some, None, length, take, get_or, refl, ap, sym, subst, ◌∙◌, inl, inr}
use Rattle.std.specs.Prelude.{Err, IfErr, IsErrAnd, Ok, OnErr, OnOk, Result, is_err, not, option_map, slice_get}
use Rattle.std.specs.List.{list_all}
use Rattle.std.specs.Str.{bytes_eq}
use Rattle.std.proofs.lemmas.Bool.{and_from, and_parts}
use Rattle.tip_machine.specs.Heads.{is_other, starting}
use Rattle.tip_machine.specs.States.{started}
use Rattle.tip_stored.specs.Recovering.{HasBegun}
use Rattle.std.proofs.lemmas.List.{take_all, take_more}
use Rattle.std.proofs.lemmas.Option.{none-some, same_Some}
use Rattle.tip_rows.specs.Logs.{IsSpoiled, Keeping, LeavesOne, Log, counted, with_known}
use Rattle.tip_recovery.specs.Adopting.{Recovery}
use Rattle.tip_stored.specs.Loading.{AreKnown, AreRead, AreTheirs, Goes, IsBad, IsIts, IsKnown, IsRead, IsReason, IsReasonToRead, IsReasonToReadAll, Never, Stays, known_all, names_differ, names_of, opened, start_of, starts_of}
use Rattle.tip_stored.specs.declared.loading.LoadFault.{LoadFault}
use Rattle.tip_stored.specs.declared.loading.LoadFault.TheVariants as load
use Rattle.tip_stored.specs.declared.realm_spec.RealmSpec.{RealmSpec}
use Rattle.tip_stored.proofs.Parts.{opened_epoch, opened_spoiled}

-- one more is known
known_more : (names : List (List ℕ)) (name : List ℕ) (log : Log) → known_all (names ++ name ∷ []) log ≡ with_known name (known_all names log)
known_more [] name log = refl
known_more (n ∷ names) name log = known_more names name (with_known n log)

name_at : (specs : List RealmSpec) (i : ℕ) (spec : RealmSpec) → get_or (names_of specs) i spec.name ≡ (get_or specs i spec).name
name_at [] i spec = refl
name_at (s ∷ specs) zero spec = refl
name_at (s ∷ specs) (suc i) spec = name_at specs i spec

length-names_of : (specs : List RealmSpec) → length (names_of specs) ≡ length specs
length-names_of [] = refl
length-names_of (s ∷ specs) = ap suc (length-names_of specs)

front_more : (specs : List RealmSpec) (i : ℕ) (spec : RealmSpec) → i < length specs → spec ≡ get_or specs i spec → take (i + 1) (names_of specs) ≡ take i (names_of specs) ++ spec.name ∷ []
front_more specs i spec less is =
    take_more (names_of specs) i spec.name (subst (λ n. i < n) (sym (length-names_of specs)) less)
    ∙ ap (λ name. take i (names_of specs) ++ name ∷ []) (name_at specs i spec ∙ ap (λ (s : RealmSpec). s.name) (sym is))

pub knows : (specs : List RealmSpec) (i : ℕ) (spec : RealmSpec) → i < length specs → spec ≡ get_or specs i spec → (log now : Log) → AreKnown (take i (names_of specs)) log now → AreKnown (take (i + 1) (names_of specs)) log (with_known spec.name now)
knows specs i spec less is log now are = ap (with_known spec.name) are ∙ sym (ap (λ names. known_all names log) (front_more specs i spec less is) ∙ known_more (take i (names_of specs)) spec.name log)

-- all of them are the first of them
pub all_known : (names : List (List ℕ)) (log now : Log) → AreKnown names log now → IsKnown names log now
all_known names log now are = (length names, are ∙ sym (ap (λ ns. known_all ns log) (take_all (length names) names (omega arith))))

-- what holds, holds of an error
pub of_err : {T E P : Type 0} (result : Result T E) → P → OnErr result P
of_err (Ok x) holds = tt
of_err (Err e) holds = holds

-- a fault that is handed on
pub handed_on : {T E : Type 0} (P : E → Type 0) (result : Result T E) (fault : E) → IsErrAnd result (λ other. other ≡ fault) → P fault → IfErr result P
handed_on P (Ok x) fault is holds = tt
handed_on P (Err other) fault is holds = subst P (sym is) holds

pub where_ok : {T E P : Type 0} (result : Result T E) (failed : Bool) → failed ≡ is_err result → failed ≡ false → OnOk result P → P
where_ok (Ok x) failed is is_not holds = holds
where_ok (Err e) failed is is_not holds = absurd (cc)

module _ {S : Type 0} (kept : Keeping S) where
  -- where no call was made yet
  pub at_first : (end way : Log → Log → Type 0) (store : S) → ((log : Log) → end log log) → Goes kept false end way store store
  at_first end way store here = record {
    rows = λ log stood. (log, here log, stood);
    counts = refl;
    truth = λ is. is;
    stop = λ log stood is left leaves. inl leaves;
    due = λ log stood realm. refl;
  }

  -- one call more, that makes of each log its next one, and of which a stop may leave the changed one
  pub led_on : (end end' way way' : Log → Log → Type 0) (next change : Log → Log) (refused : Bool) (old mid new : S) → Goes kept false end way old mid
      → ((log : Log) → kept.stands mid log → kept.stands new (next log)) → kept.faults new ≡ counted refused (kept.faults mid) → (kept.is_true new → kept.is_true mid) → LeavesOne kept change mid new → ((log : Log) → kept.stands mid log → (realm : List ℕ) → kept.is_due new realm ≡ kept.is_due mid realm)
      → ((log now : Log) → end log now → end' log (next now)) → ((log now : Log) → end log now → way' log (change now)) → ((log now : Log) → way log now → way' log now)
      → Goes kept refused end' way' old new
  led_on end end' way way' next change refused old mid new goes rows counts truth stop due ends on wider = record {
    rows = λ log stood. let now = goes.rows log stood in (next now.0, ends log now.0 now.1, rows now.0 now.2);
    counts = counts ∙ ap (counted refused) goes.counts;
    truth = λ is. goes.truth (truth is);
    stop = λ log stood is left leaves.
        let now = goes.rows log stood in
        elim (stop now.0 now.2 is left leaves) [
          | inl before ↦ elim (goes.stop log stood (truth is) left before) [
            | inl first ↦ inl first
            | inr there ↦ inr (wider log left there)
          ]
          | inr same ↦ inr (subst (way' log) (sym same) (on log now.0 now.1))
        ];
    due = λ log stood realm. let now = goes.rows log stood in due now.0 now.2 realm ∙ goes.due log stood realm;
  }

  -- what stays where it was led
  pub then_stays : (end way : Log → Log → Type 0) (refused : Bool) (old mid new : S) → Goes kept false end way old mid → Goes kept refused Stays Never mid new → Goes kept refused end way old new
  then_stays end way refused old mid new first next = record {
    rows = λ log stood. let there = first.rows log stood in let here = next.rows there.0 there.2 in (here.0, subst (end log) (sym here.1) there.1, here.2);
    counts = next.counts ∙ ap (counted refused) first.counts;
    truth = λ is. first.truth (next.truth is);
    stop = λ log stood is left leaves.
        let there = first.rows log stood in
        elim (next.stop there.0 there.2 is left leaves) [
          | inl before ↦ first.stop log stood (next.truth is) left before
          | inr never ↦ absurd never
        ];
    due = λ log stood realm. let there = first.rows log stood in next.due there.0 there.2 realm ∙ first.due log stood realm;
  }

  -- it ends on the way too
  pub ends_on : (end end' way : Log → Log → Type 0) (refused : Bool) (old new : S) → Goes kept refused end way old new → ((log now : Log) → end log now → end' log now) → Goes kept refused end' way old new
  ends_on end end' way refused old new goes wider = record {
    rows = λ log stood. let there = goes.rows log stood in (there.0, wider log there.0 there.1, there.2);
    counts = goes.counts;
    truth = goes.truth;
    stop = goes.stop;
    due = goes.due;
  }

  pub stands_still : (way : Log → Log → Type 0) (refused : Bool) (old new : S) (log : Log) → Goes kept refused Stays way old new → kept.stands old log → kept.stands new log
  stands_still way refused old new log goes stood = let there = goes.rows log stood in subst (kept.stands new) there.1 there.2

-- What was read

pub theirs_more : (specs : List RealmSpec) (realms : List Recovery) (spec : RealmSpec) (recovery : Recovery) → AreTheirs specs realms → IsIts spec.name recovery → AreTheirs (specs ++ spec ∷ []) (realms ++ recovery ∷ [])
theirs_more [] [] spec recovery own is = (is, tt)
theirs_more [] (r ∷ realms) spec recovery own is = absurd own
theirs_more (s ∷ specs) [] spec recovery own is = absurd own
theirs_more (s ∷ specs) (r ∷ realms) spec recovery own is = (own.0, theirs_more specs realms spec recovery own.1 is)

pub read_more : (log : Log) (specs : List RealmSpec) (realms : List Recovery) (spec : RealmSpec) (recovery : Recovery) → AreRead log specs realms → IsRead log spec.name recovery → AreRead log (specs ++ spec ∷ []) (realms ++ recovery ∷ [])
read_more log [] [] spec recovery read is = (is, tt)
read_more log [] (r ∷ realms) spec recovery read is = absurd read
read_more log (s ∷ specs) [] spec recovery read is = absurd read
read_more log (s ∷ specs) (r ∷ realms) spec recovery read is = (read.0, read_more log specs realms spec recovery read.1 is)

-- the next realm of the list
pub next_spec : (specs : List RealmSpec) (i : ℕ) (spec : RealmSpec) → i < length specs → spec ≡ get_or specs i spec → take i specs ++ spec ∷ [] ≡ take (i + 1) specs
next_spec specs i spec less is = ap (λ s. take i specs ++ s ∷ []) is ∙ sym (take_more specs i spec less)

-- Realms that are to start

pub has_its : (specs rest : List RealmSpec) (spec : RealmSpec) (realms : List Recovery) → AreTheirs (specs ++ spec ∷ rest) realms → length specs < length realms
has_its [] rest spec [] own = absurd own
has_its [] rest spec (r ∷ realms) own = omega arith
has_its (s ∷ specs) rest spec [] own = absurd own
has_its (s ∷ specs) rest spec (r ∷ realms) own = let more = has_its specs rest spec realms own.1 in omega arith

pub its_epoch : (specs rest : List RealmSpec) (spec : RealmSpec) (realms : List Recovery) (d : Recovery) → AreTheirs (specs ++ spec ∷ rest) realms → 0 < (get_or realms (length specs) d).epoch
its_epoch [] rest spec [] d own = absurd own
its_epoch [] rest spec (r ∷ realms) d own = own.0.epoch
its_epoch (s ∷ specs) rest spec [] d own = absurd own
its_epoch (s ∷ specs) rest spec (r ∷ realms) d own = its_epoch specs rest spec realms d own.1

pub start_more : (specs rest : List RealmSpec) (spec : RealmSpec) (realms : List Recovery) (d : Recovery) → AreTheirs (specs ++ spec ∷ rest) realms → starts_of (specs ++ spec ∷ []) realms ≡ starts_of specs realms ++ start_of spec (get_or realms (length specs) d).epoch ∷ []
start_more [] rest spec [] d own = absurd own
start_more [] rest spec (r ∷ realms) d own = refl
start_more (s ∷ specs) rest spec [] d own = absurd own
start_more (s ∷ specs) rest spec (r ∷ realms) d own = ap (λ starts. start_of s r.epoch ∷ starts) (start_more specs rest spec realms d own.1)

passes_behind : (test : RealmSpec → Bool) (specs rest : List RealmSpec) (spec : RealmSpec) → list_all test (specs ++ spec ∷ rest) ≡ true → test spec ≡ true
passes_behind test [] rest spec all = (and_parts (test spec) (list_all test rest) all).0
passes_behind test (s ∷ specs) rest spec all = passes_behind test specs rest spec (and_parts (test s) (list_all test (specs ++ spec ∷ rest)) all).1

-- no realm before it has its name
pub is_new : (specs rest : List RealmSpec) (spec : RealmSpec) (realms : List Recovery) → names_differ (specs ++ spec ∷ rest) ≡ true → list_all (is_other spec.name) (starts_of specs realms) ≡ true
is_new [] rest spec realms differ = refl
is_new (s ∷ specs) rest spec [] differ = refl
is_new (s ∷ specs) rest spec (r ∷ realms) differ =
    let both = and_parts (list_all (λ (other : RealmSpec). not (bytes_eq s.name other.name)) (specs ++ spec ∷ rest)) (names_differ (specs ++ spec ∷ rest)) differ in
    and_from (not (bytes_eq s.name spec.name)) (list_all (is_other spec.name) (starts_of specs realms)) (passes_behind (λ other. not (bytes_eq s.name other.name)) specs rest spec both.0) (is_new specs rest spec realms both.1)

-- each realm has just started, and these are its rows
pub has_begun : (specs : List RealmSpec) (realms : List Recovery) → AreTheirs specs realms → (place : ℕ) → HasBegun (option_map (λ start. started (starting start)) (slice_get (starts_of specs realms) place)) (slice_get realms place)
has_begun [] [] own place = refl
has_begun [] (r ∷ realms) own place = absurd own
has_begun (s ∷ specs) [] own place = absurd own
has_begun (s ∷ specs) (r ∷ realms) own zero = (start_of s r.epoch, refl, record { name = sym own.0.name; epoch = refl })
has_begun (s ∷ specs) (r ∷ realms) own (suc place) = has_begun specs realms own.1 place

-- Each realm at its place

pub named_at : (specs : List RealmSpec) (place : ℕ) (spec : RealmSpec) → slice_get specs place ≡ Some spec → slice_get (names_of specs) place ≡ Some spec.name
named_at [] place spec here = absurd (none-some spec here)
named_at (s ∷ specs) zero spec here = ap (λ (x : RealmSpec). Some x.name) (same_Some s spec here)
named_at (s ∷ specs) (suc place) spec here = named_at specs place spec here

pub read_at : (log : Log) (specs : List RealmSpec) (realms : List Recovery) (place : ℕ) (spec : RealmSpec) → AreRead log specs realms → slice_get specs place ≡ Some spec → (recovery : Recovery) × (slice_get realms place ≡ Some recovery) × IsRead log spec.name recovery
read_at log [] realms place spec read here = absurd (none-some spec here)
read_at log (s ∷ specs) [] place spec read here = absurd read
read_at log (s ∷ specs) (r ∷ realms) zero spec read here = (r, refl, subst (λ (x : RealmSpec). IsRead log x.name r) (same_Some s spec here) read.0)
read_at log (s ∷ specs) (r ∷ realms) (suc place) spec read here = read_at log specs realms place spec read.1 here

pub start_at : (specs : List RealmSpec) (realms : List Recovery) (place : ℕ) (spec : RealmSpec) (recovery : Recovery) → slice_get specs place ≡ Some spec → slice_get realms place ≡ Some recovery → slice_get (starts_of specs realms) place ≡ Some (start_of spec recovery.epoch)
start_at [] realms place spec recovery here there = absurd (none-some spec here)
start_at (s ∷ specs) [] place spec recovery here there = absurd (none-some recovery there)
start_at (s ∷ specs) (r ∷ realms) zero spec recovery here there = ap (λ (x : RealmSpec). Some (start_of x r.epoch)) (same_Some s spec here) ∙ ap (λ (x : Recovery). Some (start_of spec x.epoch)) (same_Some r recovery there)
start_at (s ∷ specs) (r ∷ realms) (suc place) spec recovery here there = start_at specs realms place spec recovery here there

pub no_start : (specs : List RealmSpec) (realms : List Recovery) (place : ℕ) → slice_get specs place ≡ None → slice_get (starts_of specs realms) place ≡ None
no_start [] realms place none = refl
no_start (s ∷ specs) [] place none = refl
no_start (s ∷ specs) (r ∷ realms) zero none = absurd (none-some s (sym none))
no_start (s ∷ specs) (r ∷ realms) (suc place) none = no_start specs realms place none

-- Why they were not read

-- one of them was not
pub of_one : (specs : List RealmSpec) (place : ℕ) (spec : RealmSpec) (log : Log) (fault : LoadFault) → slice_get specs place ≡ Some spec → IsReasonToRead log spec.name fault → IsReasonToReadAll specs log fault
of_one specs place spec log load.Refused here is = tt
of_one specs place spec log load.EpochEnd here is = absurd is
of_one specs place spec log load.BadRow here is = (place, spec, here, is)
of_one specs place spec log load.Memory here is = tt
of_one specs place spec log load.BadRealm here is = absurd is

-- where realms start each has an epoch
spoiled : (specs : List RealmSpec) (place : ℕ) (spec : RealmSpec) (log : Log) → slice_get specs place ≡ Some spec → IsBad (opened (names_of specs) log) spec.name → IsSpoiled log spec.name
spoiled specs place spec log here (inl bad) = opened_spoiled (names_of specs) log spec.name bad
spoiled specs place spec log here (inr none) = absurd (opened_epoch (names_of specs) place log spec.name (named_at specs place spec here) none)

pub not_started : {T : Type 0} (specs : List RealmSpec) (log : Log) (result : Result T LoadFault) → IfErr result (IsReasonToReadAll specs (opened (names_of specs) log)) → IfErr result (IsReason specs log)
not_started specs log (Ok x) is = tt
not_started specs log (Err load.Refused) is = tt
not_started specs log (Err load.EpochEnd) is = absurd is
not_started specs log (Err load.BadRow) is = (is.0, is.1, is.2, spoiled specs is.0 is.1 log is.2 is.3)
not_started specs log (Err load.Memory) is = tt
not_started specs log (Err load.BadRealm) is = absurd is
