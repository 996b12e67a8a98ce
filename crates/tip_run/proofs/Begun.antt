-- Realms that start from what is stored of them, with boxes for each row.
use Rattle.std.proofs.Common.{◌≡◌, ◌≢◌, ◌<◌, ◌+◌, ◌∷◌, ◌==◌, ◌∙◌, ℕ, zero, suc, Bool, true, false, cond, List, [], Option, Some, None, arith, length, map, inl, inr, refl, ap, subst, sym}
use Rattle.std.specs.Prelude.{◌&&◌, IfErr, IfOk, is_none, is_some, nat_lt, not, option_map, slice_get, MatchOption, Result, Ok, Err}
use Rattle.std.specs.Cmp.{unsigned_Decides}
use Rattle.std.specs.Option.{option_map_or}
use Rattle.std.proofs.lemmas.Bool.{and_from, and_parts, true≢false}
use Rattle.std.proofs.lemmas.Bool.Decides.{nat_tests}
use Rattle.std.proofs.lemmas.Option.{none-some, same_Some}
use Rattle.tip_branch.specs.declared.branch.Badge.{Badge}
use Rattle.tip_core.specs.Hosted.{realm}
use Rattle.tip_host.proofs.Beginning.{bare_opened, history_opened}
use Rattle.tip_host.specs.Entries.{bare}
use Rattle.tip_host.specs.Hosts.{Host}
use Rattle.tip_host.specs.Openings.{IsOpened, opened as journals_opened}
use Rattle.tip_journal.specs.Journal.{begun}
use Rattle.tip_kept.specs.Keeping.{rows_at}
use Rattle.tip_machine.proofs.Storing.{same_rows}
use Rattle.tip_machine.specs.Heads.{starting}
use Rattle.tip_machine.specs.Recovery.{restarted}
use Rattle.tip_machine.specs.States.{State, started}
use Rattle.tip_recovery.specs.Adopting.{Recovery, Unfinished, adopted_all, are_adopted, are_for, are_for_all, loaded, stored_of, unadopted, waits, with_boxes}
use Rattle.tip_recovery.proofs.Looking.{stored-unadopted}
use Rattle.tip_rows.specs.Keys.{Key}
use Rattle.tip_rows.specs.Logs.{IsPart, Keeping, Log, counted, last_epoch, raised_number}
use Rattle.tip_rows.specs.Rows.{branches_of}
use Rattle.tip_rows.specs.declared.row.Row.{Row}
use Rattle.tip_stored.proofs.Opening.{named_at, read_at, start_at}
use Rattle.tip_stored.proofs.Parts.{can_open, number_of, opened_known, opened_part}
use Rattle.tip_stored.specs.Loading.{AreTheirs, Goes, IsOnTheWay, Loads, Never, Stays, names_of, opened, start_of}
use Rattle.tip_stored.specs.Recovering.{Recovering, adopted_each, all_adopted, are_for_each, recovered}
use Rattle.tip_stored.specs.declared.realm_spec.RealmSpec.{RealmSpec}
use Rattle.tip_run.proofs.Given.{boxes_at, given_all, given_boxes, given_stored, gives}
use Rattle.tip_run.specs.Giving.{AreEachGiven, AreGiven}
use Rattle.tip_run.specs.Halts.{HandsBack, IsWhyNotBegun, IsWhyNotHappened, IsWhyNotRestarted, MayBeLeft, is_refusal}
use Rattle.tip_run.specs.declared.halt.RunFault.{RunFault}
use Rattle.tip_run.specs.declared.halt.RunFault.TheVariants as fault
use Rattle.tip_run.specs.Starts.{AreDeclared, HasBoxes, HasStarted, IsBegun, IsRestarted, first_of}
use Rattle.tip_run.specs.declared.halt.Stuck.{Stuck}

-- A realm that is there

pub is_there : (found : Option State) → found ≢ None → (state : State) × (found ≡ Some state)
is_there None some = absurd (some refl)
is_there (Some state) some = (state, refl)

-- what a store shows that was only read
pub reads_still : {S : Type 0} (kept : Keeping S) (old mid : S) (refused : Bool) (log : Log) → Goes kept refused Stays Never old mid → kept.stands old log → kept.stands mid log
reads_still kept old mid refused log goes stood = let way = goes.rows log stood in subst (kept.stands mid) way.1 way.2

-- Boxes

nothing : (boxes : Option (List Badge)) (count : ℕ) → is_none boxes ≡ true → MatchOption boxes (Unit {0}) (λ b. length b ≡ count)
nothing None count none = tt
nothing (Some boxes) count none = absurd (true≢false (sym none))

-- rows for which boxes fit have had none
unboxed : (lots : List (List Badge)) (rows : List Unfinished) → are_for_all lots rows ≡ true → AreGiven rows rows
unboxed lots [] fits = tt
unboxed [] (row ∷ rows) fits = absurd (true≢false (sym fits))
unboxed (lot ∷ lots) (row ∷ rows) fits =
    let parts = and_parts (are_for lot row) (are_for_all lots rows) fits in
    (record { key = refl; row = refl; fits = nothing row.boxes (length (branches_of row.row)) (and_parts (length lot == length (branches_of row.row)) (is_none row.boxes) parts.0).1 }, unboxed lots rows parts.1)

pub given_to : (lots : List (List Badge)) (rows : List Unfinished) → are_for_all lots rows ≡ true → AreGiven rows (adopted_all lots rows)
given_to lots rows fits = given_all lots rows rows (unboxed lots rows fits) fits

pub given_to_each : (boxes : List (List (List Badge))) (realms : List Recovery) → are_for_each boxes realms ≡ true → AreEachGiven realms (adopted_each boxes realms)
given_to_each [] [] fits = tt
given_to_each [] (recovery ∷ realms) fits = absurd (true≢false (sym fits))
given_to_each (lots ∷ boxes) [] fits = absurd (true≢false (sym fits))
given_to_each (lots ∷ boxes) (recovery ∷ realms) fits =
    let parts = and_parts (are_for_all lots recovery.rows) (are_for_each boxes realms) fits in
    ((refl, given_to lots recovery.rows parts.0), given_to_each boxes realms parts.1)

-- and they wait for none any more

not_both : (x : Bool) → not (x && false) ≡ true
not_both true = refl
not_both false = refl

waits_no_more : (lot : List Badge) (row : Unfinished) → are_for lot row ≡ true → not (waits (with_boxes lot row)) ≡ true
waits_no_more [] row fits = by (branches_of row.row) (and_parts (0 == length (branches_of row.row)) (is_none row.boxes) fits).0 where
  by : {T : Type 0} (branches : List T) → (0 == length branches) ≡ true → not (not (length branches == 0) && is_none row.boxes) ≡ true
  by [] none = refl
  by (branch ∷ branches) none = absurd (omega (arith, (unsigned_Decides 0 (length (branch ∷ branches))).0 none))
waits_no_more (box ∷ lot) row fits = not_both (not (length (branches_of row.row) == 0))

all_wait_no_more : (lots : List (List Badge)) (rows : List Unfinished) → are_for_all lots rows ≡ true → are_adopted (adopted_all lots rows) ≡ true
all_wait_no_more [] [] fits = refl
all_wait_no_more [] (row ∷ rows) fits = absurd (true≢false (sym fits))
all_wait_no_more (lot ∷ lots) [] fits = refl
all_wait_no_more (lot ∷ lots) (row ∷ rows) fits =
    let parts = and_parts (are_for lot row) (are_for_all lots rows) fits in
    and_from (not (waits (with_boxes lot row))) (are_adopted (adopted_all lots rows)) (waits_no_more lot row parts.0) (all_wait_no_more lots rows parts.1)

pub none_waits : (boxes : List (List (List Badge))) (realms : List Recovery) → are_for_each boxes realms ≡ true → all_adopted (adopted_each boxes realms) ≡ true
none_waits [] [] fits = refl
none_waits [] (recovery ∷ realms) fits = absurd (true≢false (sym fits))
none_waits (lots ∷ boxes) [] fits = refl
none_waits (lots ∷ boxes) (recovery ∷ realms) fits =
    let parts = and_parts (are_for_all lots recovery.rows) (are_for_each boxes realms) fits in
    and_from (are_adopted (adopted_all lots recovery.rows)) (all_adopted (adopted_each boxes realms)) (all_wait_no_more lots recovery.rows parts.0) (none_waits boxes realms parts.1)

-- One realm

-- a realm that was loaded has its boxes
given_at : (read realms : List Recovery) (place : ℕ) (recovery : Recovery) → AreEachGiven read realms → slice_get read place ≡ Some recovery → (given : Recovery) × (slice_get realms place ≡ Some given) × (given.epoch ≡ recovery.epoch) × AreGiven recovery.rows given.rows
given_at [] [] place recovery are here = absurd (none-some recovery here)
given_at [] (g ∷ realms) place recovery are here = absurd are
given_at (r ∷ read) [] place recovery are here = absurd are
given_at (r ∷ read) (g ∷ realms) zero recovery are here = let same = same_Some r recovery here in (g, refl, are.0.0 ∙ ap (λ (x : Recovery). x.epoch) same, subst (λ (x : Recovery). AreGiven x.rows g.rows) same are.0.1)
given_at (r ∷ read) (g ∷ realms) (suc place) recovery are here = given_at read realms place recovery are.1 here

adopted_at : (realms : List Recovery) (place : ℕ) (recovery : Recovery) → slice_get realms place ≡ Some recovery → all_adopted realms ≡ true → are_adopted recovery.rows ≡ true
adopted_at [] place recovery here all = absurd (none-some recovery here)
adopted_at (r ∷ realms) zero recovery here all = subst (λ (x : Recovery). are_adopted x.rows ≡ true) (same_Some r recovery here) (and_parts (are_adopted r.rows) (all_adopted realms) all).0
adopted_at (r ∷ realms) (suc place) recovery here all = adopted_at realms place recovery here (and_parts (are_adopted r.rows) (all_adopted realms) all).1

-- a realm is among those that begin exactly where it was declared
pub among : (specs : List RealmSpec) (read realms : List Recovery) (place : ℕ) → AreTheirs specs read → AreEachGiven read realms → (slice_get specs place ≡ None → slice_get realms place ≡ None) × ((spec : RealmSpec) → slice_get specs place ≡ Some spec → (given : Recovery) × (slice_get realms place ≡ Some given))
among [] [] [] place their given = (λ none. refl, λ spec here. absurd (none-some spec here))
among [] [] (g ∷ realms) place their given = absurd given
among [] (r ∷ read) realms place their given = absurd their
among (s ∷ specs) [] realms place their given = absurd their
among (s ∷ specs) (r ∷ read) [] place their given = absurd given
among (s ∷ specs) (r ∷ read) (g ∷ realms) zero their given = (λ none. absurd (none-some s (sym none)), λ spec here. (g, refl))
among (s ∷ specs) (r ∷ read) (g ∷ realms) (suc place) their given = among specs read realms place their.1 given.1

-- the journal with which it begins
pub first_journals : {S : Type 0} (recovering : _) (host : Host S) → IsOpened recovering host → (place : ℕ) → slice_get (bare host.books.journals) place ≡ option_map journals_opened (slice_get recovering.realms place)
first_journals recovering host is place = ap (λ js. slice_get (bare js) place) is.journals ∙ ap (λ js. slice_get js place) (bare_opened recovering.realms) ∙ history_opened recovering.realms place

module _ {S : Type 0} (kept : Keeping S) where
  pub has_started : (specs : List RealmSpec) (store : S) (new : Host S) (log : Log) (place : ℕ) (spec : RealmSpec) (epoch : ℕ) (rows : List (Key × Row)) → IsBegun kept specs store new → kept.is_true new.stored.store → kept.stands store log → slice_get specs place ≡ Some spec → IsPart log spec.name epoch rows → HasStarted kept spec epoch rows new place
  has_started specs store new log place spec epoch rows is truth stood here part =
      let name = spec.name in
      let names = names_of specs in
      let loaded_true : kept.is_true is.loaded.store = subst kept.is_true is.opened.store truth in
      let named = named_at specs place spec here in
      let way = is.loads.ok.rows log stood in
      let read = read_at (opened names log) specs is.loaded.realms place spec (is.loads.read log stood loaded_true) here in
      let own = opened_part names place log name epoch rows named part in
      let below : epoch < last_epoch = can_open names place log name epoch rows named part (is.loads.risen log stood loaded_true name) in
      let less : nat_lt epoch last_epoch ≡ true = grind (arith, nat_tests, below) in
      let number : raised_number epoch ≡ epoch + 1 = ap (λ b. cond b (epoch + 1) epoch) less in
      let raised : read.0.epoch ≡ epoch + 1 = number_of (sym read.2.part.epoch ∙ own.epoch) ∙ number in
      let same : read.0.rows ≡ map (unadopted name) rows = read.2.unadopted ∙ ap (map (unadopted name)) (same_rows read.2.rows rows read.2.part.rising own.rising (λ key. read.2.part.same key ∙ sym (own.same key))) in
      let given = given_at is.loaded.realms is.realms place read.0 is.given read.1 in
      let gave : AreGiven (map (unadopted name) rows) given.0.rows = subst (λ r. AreGiven r given.0.rows) same given.3 in
      let have = given_boxes name rows given.0.rows gave (adopted_at is.realms place given.0 given.1 is.opened.adopted) in
      let boxes = boxes_at given.0.rows in
      let all = gives rows given.0.rows have part.rising in
      let rows_same : rows_at new.books.rows place ≡ rows = is.opened.rows place ∙ ap (λ r. option_map_or (λ (recovery : Recovery). stored_of recovery.rows) r []) given.1 ∙ given_stored (map (unadopted name) rows) given.0.rows gave ∙ stored-unadopted name rows in
      record {
        boxes = boxes;
        adopted = all.0;
        rises = below;
        state = is.opened.realms place ∙ ap (λ r. recovered r (realm is.loaded.core place)) given.1
            ∙ ap (recovered (Some given.0)) (is.loads.realms place ∙ ap (option_map (λ start. started (starting start))) (start_at specs is.loaded.realms place spec read.0 here read.1))
            ∙ ap (λ e. Some (restarted (starting (start_of spec e)) (map loaded given.0.rows))) raised
            ∙ ap (λ r. Some (restarted (starting (start_of spec (epoch + 1))) r)) (sym all.1);
        rows_are = rows_same;
        out = is.opened.out place;
        journal = first_journals _ new is.opened place ∙ ap (option_map journals_opened) given.1 ∙ (λ i. Some (begun ((given.2 ∙ raised) i) (sym all.1 i) ∷ []));
        stored = record {
          log = way.0;
          stood = subst (λ s. kept.stands s way.0) (sym is.opened.store) way.2;
          rows = subst (IsPart way.0 name (epoch + 1)) (sym rows_same) (subst (λ l. IsPart l name (epoch + 1) rows) (sym way.1) (subst (λ e. IsPart (opened names log) name e rows) number own));
          known = ap (λ (l : Log). is_some (l.epochs name)) way.1 ∙ opened_known names place log name epoch rows named part;
        };
        honest = record { start = first_of spec epoch boxes rows; first = record { boxes = boxes; adopted = all.0; state = refl; given = refl; entries = refl; errands = refl }; moves = []; run = refl; led = refl; kept = refl };
        from = refl;
        begins = λ head before once. record { head = head; rows = before; boxes = boxes; adopted = all.0; state = refl; known_once = once; errands = refl };
      }

-- The realms of a host that ends start again over the store that it leaves
module _ {S : Type 0} (kept : Keeping S) (old : Host S) (specs : List RealmSpec) (store : S) (boxes : List (List (List Badge))) (declared : AreDeclared old specs) (same : store ≡ old.stored.store) where
  pub begun_again : {E : Type 0} (result : Result (Host S) E) → IfOk result (λ host. (is : IsBegun kept specs store host) × HasBoxes is boxes) → IfOk result (λ again. (is : IsRestarted kept old again) × HasBoxes is.begins boxes)
  begun_again (Ok host) begun = let is = subst (λ s. (is : IsBegun kept specs s host) × HasBoxes is boxes) same begun in (record { specs = specs; declared = declared; begins = is.0 }, is.1)
  begun_again (Err why) begun = tt

  pub not_again : {T : Type 0} (result : Result T (Stuck S)) → IfErr result (λ stuck. IsWhyNotBegun kept specs store boxes stuck.store stuck.fault) → IfErr result (λ stuck. IsWhyNotRestarted kept old boxes stuck.store stuck.fault)
  not_again (Ok host) why = tt
  not_again (Err stuck) why = inr (specs, declared, subst (λ s. IsWhyNotBegun kept specs s boxes stuck.store stuck.fault) same why)

  -- the store of a start that was not made
  pub hands_back : {T : Type 0} (result : Result T (Stuck S)) → IfErr result (λ stuck. kept.is_true stuck.store → kept.is_true store) → ((log : Log) → kept.stands store log → IfErr result (λ stuck. (now : Log) × IsOnTheWay (names_of specs) log now × kept.stands stuck.store now)) → IfErr result (λ stuck. kept.faults stuck.store ≡ counted (is_refusal stuck.fault) (kept.faults store)) → IfErr result (λ stuck. HandsBack kept old true stuck.store stuck.fault)
  hands_back (Ok host) truth rows counts = tt
  hands_back (Err stuck) truth rows counts = record {
    truth = λ reliable. subst kept.is_true same (truth reliable);
    counts = counts ∙ ap (λ s. counted (is_refusal stuck.fault) (kept.faults s)) same;
    rows = λ log stood.
        let way = rows log (subst (λ s. kept.stands s log) (sym same) stood) in
        (way.0, inr (specs, declared, way.1), way.2);
  }

-- The store of realms that were loaded, and do not begin
module _ {S : Type 0} (kept : Keeping S) (specs : List RealmSpec) (store : S) (loaded : Recovering S) (loads : Loads kept specs store (Ok loaded)) (left : S) (same : left ≡ loaded.store) where
  pub loaded_true : kept.is_true left → kept.is_true store
  loaded_true truth = loads.ok.truth (subst kept.is_true same truth)

  pub loaded_counts : kept.faults left ≡ kept.faults store
  loaded_counts = ap kept.faults same ∙ loads.ok.counts

  pub loaded_rows : (log : Log) → kept.stands store log → (now : Log) × IsOnTheWay (names_of specs) log now × kept.stands left now
  loaded_rows log stood = let way = loads.ok.rows log stood in (way.0, inr way.1, subst (λ s. kept.stands s way.0) (sym same) way.2)

-- The store of a host that ends, since a move was not made: it is as it was, or may be relied on no less
pub ended_back : {S : Type 0} (kept : Keeping S) (old : Host S) (restarts : Bool) (left : S) (why : RunFault) → (kept.is_true left → kept.is_true old.stored.store) → ((log : Log) → kept.stands old.stored.store log → kept.stands left log) → kept.faults left ≡ counted (is_refusal why) (kept.faults old.stored.store) → HandsBack kept old restarts left why
ended_back kept old restarts left why truth rows counts = record { truth = truth; counts = counts; rows = λ log stood. (log, same restarts log, rows log stood) } where
  same : (restarts : Bool) (log : Log) → MayBeLeft old restarts log log
  same true log = inl refl
  same false log = refl

-- an event that did not happen was refused by no store
pub not_refused : (why : RunFault) → IsWhyNotHappened why → is_refusal why ≡ false
not_refused fault.Memory happened = refl
not_refused (fault.Load why) happened = absurd happened
not_refused (fault.Renew why) happened = absurd happened
not_refused fault.Boxes happened = absurd happened

-- so its store has counted nothing
pub ended_uncounted : {S : Type 0} (kept : Keeping S) (old left : S) (why : RunFault) → left ≡ old → IsWhyNotHappened why → kept.faults left ≡ counted (is_refusal why) (kept.faults old)
ended_uncounted kept old left why same happened = ap kept.faults same ∙ ap (λ refused. counted refused (kept.faults old)) (sym (not_refused why happened))
