-- What a call leaves of the log, and what a stop after it leaves.
use Rattle.std.proofs.Common.{◌≡◌, ◌⊎◌, inl, inr, ℕ, List, [], ◌∷◌, map, filter, Bool, false, if◌then◌else◌, Option, Some, None, Ok, Err, Result, MatchResult, IfOk, IfErr, OnOk, IsTrue, Vec, refl, sym, ap, subst, subst₂, ◌∙◌, arith, append-nil}
use Rattle.std.specs.List.Sorted.{IsPermutation}
use Rattle.std.specs.declared.alloc.Global.{Global}
use Rattle.std.proofs.lemmas.Bool.{cases_Bool}
use Rattle.sqlite.specs.Order.{Row}
use Rattle.sqlite.specs.Tree.{Trees}
use Rattle.sqlite.specs.Term.{Term, col}
use Rattle.sqlite.specs.Program.{overlay}
use Rattle.sqlite.specs.Clock.{timed}
use Rattle.sqlite.specs.Listing.{understood}
use Rattle.sqlite.specs.Schema.{Schema}
use Rattle.sqlite.specs.Does.{Tally, Does}
use Rattle.sqlite.specs.Effect.{Database}
use Rattle.sqlite.specs.Command.{Command}
use Rattle.sqlite.specs.declared.run.Mode.{Mode}
use Rattle.sqlite.specs.declared.error.Error.{Error}
use Rattle.sqlite.specs.State.{State, HasCleanDisk, Survives, mode_of, shows_rows, IsUnchanged, IsRolledBack, Runs, Writes, Executes, ExecutesIn, IsNotRun, RunsCommand, CommitsBy, MayCommit, MayWrite, Shown, FailsToQuery, FailsToShow, CommitsShowing}
use Rattle.sqlite.proofs.Callers.{IsPlain, command_of, statement_of, runs_as, reads_as, never_commits}
use Rattle.sqlite_value.specs.declared.keys.Key.{Key}
use Rattle.sqlite_rules.specs.Lists.{Has}
use Rattle.sqlite_rules.proofs.ListLemmas.{has_filtered}
use Rattle.tip_rows.specs.Logs.{Log}
use Rattle.tip_sql.specs.Tables.{log_schema}
use Rattle.tip_sql.specs.Places.{AreRealms, AreRows, all_rows, id_shown}
use Rattle.tip_sql.specs.Standing.{log_of, IsOurs, IsLeft, Changes, Shows, ShowsIds}
use Rattle.tip_sql.proofs.Texts.{Queries}
use Rattle.tip_sql.proofs.Queries.{plain_answer, passes, shows}
use Rattle.tip_sql.proofs.Facts.{same_filter, same_map}

-- ---- any statement

-- a statement that is refused leaves the database, or rolls it back
refused_leaves : (sql : List ℕ) (params : Row) (old new : State) (e : Error) → Executes sql params old new (Err e) → IsUnchanged old new ⊎ IsRolledBack old new
unfolding ExecutesIn IsNotRun
refused_leaves sql params old new e (inl (inl same)) = inl same.1
refused_leaves sql params old new e (inl (inr fails)) = inr fails.3
refused_leaves sql params old new e (inr ran) = elim (cases_Bool (shows_rows false ran.0)) [
  | inl shown ↦ inl (rw shown at ran.2).1
  | inr runs ↦ leaves ran.0 (timed params ran.0.formats ran.1.now) (rw runs at ran.2)
]
  where
    leaves : (c : _) (given : Row) → RunsCommand old new sql c given (Err e) → IsUnchanged old new ⊎ IsRolledBack old new
    leaves c given (inl same) = inl same.1
    leaves c given (inr fails) = inr fails.3

-- what it may commit, where its meaning is known
commits_as : (sql : List ℕ) (params : Row) (s : State) (schema : Schema) (has : s.now.schema ≡ schema) (command : Command) → command_of (understood schema sql) ≡ command → IsPlain (understood schema sql)
    → (db : Trees) → CommitsBy sql params s db → MayCommit s None command (statement_of sql (understood schema sql)) params db
unfolding CommitsBy
commits_as sql params s schema has command is plain db h =
    let known = sym h.1.is ∙ ap (λ s. understood s sql) has in
    let bare = subst IsPlain (sym known) plain in
    subst₂ (λ k t. MayCommit s None k t params db) (ap command_of known ∙ is) (ap (statement_of sql) known) (rw (bare.0, bare.1, append-nil params) at h.2)

-- a database that is as it was, or was rolled back, shows what it did
left_shown : (old new : State) → IsOurs old → IsUnchanged old new ⊎ IsRolledBack old new → IsTrue new.is_open → IsLeft new (log_of old.now.trees)
left_shown old new was (inl same) opens = (
  record {
    is_open = opens;
    schema = ap (λ (d : Database). d.schema) same.0.now_is ∙ was.schema;
    settled = same.0.committed_is ∙ was.settled ∙ sym same.0.now_is;
    autocommit = same.0.mode ∙ was.autocommit;
    realms = subst (λ (d : Database). AreRealms (d.trees 0)) (sym same.0.now_is) was.realms;
    rows = subst (λ (d : Database). AreRows (d.trees 2)) (sym same.0.now_is) was.rows;
  },
  ap (λ (d : Database). log_of d.trees) same.0.now_is,
)
left_shown old new was (inr back) opens =
    let u = back.undone opens in
    let now : new.now ≡ old.now = u.0 ∙ was.settled in (
      record {
        is_open = opens;
        schema = ap (λ (d : Database). d.schema) now ∙ was.schema;
        settled = u.1 ∙ sym u.0;
        autocommit = back.autocommit;
        realms = subst (λ (d : Database). AreRealms (d.trees 0)) (sym now) was.realms;
        rows = subst (λ (d : Database). AreRows (d.trees 2)) (sym now) was.rows;
      },
      ap (λ (d : Database). log_of d.trees) now,
    )

-- ---- a change

-- what a command makes of a database that has the two tables
pub record Leads (change : Log → Log) (db after : Database) : Type 0 where
  pub schema : after.schema ≡ log_schema
  pub realms : AreRealms (after.trees 0)
  pub rows : AreRows (after.trees 2)
  pub log : log_of after.trees ≡ change (log_of db.trees)

-- the text is this command, which writes, and what it makes of a database
pub record Means (sql : List ℕ) (params : Row) (command : Command) (change : Log → Log) : Type 1 where
  pub is : command_of (understood log_schema sql) ≡ command
  pub plain : IsPlain (understood log_schema sql)
  pub ran : (old new : State) (text : List ℕ) (count : ℕ) → Runs old new None command text params count → Writes old new None command text params count
  pub only : (s : State) (text : List ℕ) (db : Trees) → MayCommit s None command text params db → MayWrite s None command text params db
  pub does : (limit : Option ℕ) (mode : Mode) (db after : Database) (tally : Tally) (text : List ℕ) → db.schema ≡ log_schema → AreRealms (db.trees 0) → AreRows (db.trees 2)
      → Does limit mode params db text None command (Ok (tally, after)) → Leads change db after

pub was_clean : (old new : State) (Commits : Trees → Type 0) → Survives old new Commits → HasCleanDisk new → HasCleanDisk old
was_clean old new Commits survives clean = omega (arith, survives.clean)

module _ (sql : List ℕ) (params : Row) (command : Command) (change : Log → Log) (means : Means sql params command change) (old new : State) where
  made : (r : Result ℕ Error) → IsOurs old → Executes sql params old new r
      → MatchResult r (λ _. IsLeft new (change (log_of old.now.trees))) (λ _. IsTrue new.is_open → IsLeft new (log_of old.now.trees))
  made (Ok count) was h =
      let text = statement_of sql (understood log_schema sql) in
      let w = means.ran old new text count (runs_as sql params old new log_schema was.schema command means.is means.plain count h) in
      let it = means.does old.step_limit (mode_of old) old.now new.now w.tally text was.schema was.realms was.rows w.changed in (
        record {
          is_open = w.shown.is_open;
          schema = it.schema;
          settled = w.shown.committed_is ∙ ap (λ (b : Bool). if b then old.committed else new.now) was.autocommit;
          autocommit = w.shown.mode ∙ was.autocommit;
          realms = it.realms;
          rows = it.rows;
        },
        it.log,
      )
  made (Err e) was h = left_shown old new was (refused_leaves sql params old new e h)

  changes_with : (r : Result ℕ Error) → (HasCleanDisk new → Executes sql params old new r) → Survives old new (CommitsBy sql params old) → Changes change old new r
  changes_with r runs survives = record {
    truth = was_clean old new _ survives;
    made = λ clean was. made r was (runs clean);
    leaves = λ clean was left may. elim (survives.crash clean may.0 may.1) [
      | inl before ↦ inl (may.0, before, may.2)
      | inr commits ↦
          let text = statement_of sql (understood log_schema sql) in
          let it = means.only old text may.0 (commits_as sql params old log_schema was.schema command means.is means.plain may.0 commits) in
          inr (sym may.2 ∙ ap log_of it.5 ∙ (means.does old.step_limit (mode_of old) old.now it.2 it.1 text was.schema was.realms was.rows it.3).log)
    ];
  }

  -- with these parameters, as they were bound
  pub changes : (bound : Row) → bound ≡ params → (r : Result ℕ Error) → (HasCleanDisk new → Executes sql bound old new r) → Survives old new (CommitsBy sql bound old) → Changes change old new r
  changes bound same r runs survives =
      changes_with r (subst (λ row. HasCleanDisk new → Executes sql row old new r) same runs) (subst (λ row. Survives old new (CommitsBy sql row old)) same survives)

-- what was not done leaves all as it was
pub nothing_done : (change : Log → Log) (s : State) (e : Error) → Changes {T = ℕ} change s s (Err e)
nothing_done change s e = record { truth = λ clean. clean; made = λ clean was opens. (was, refl); leaves = λ clean was left may. inl may }

-- ---- a query

-- a query that shows rows leaves the database
shown_same : (sql : List ℕ) (params : Row) (old new : State) (schema : Schema) (rows : List Row) → old.now.schema ≡ schema → IsPlain (understood schema sql) → Shown sql params old new rows → IsUnchanged old new
unfolding Shown
shown_same sql params old new schema rows has plain h =
    let known = sym h.1.is ∙ ap (λ s. understood s sql) has in
    let bare = subst IsPlain (sym known) plain in
    let it = rw (bare.0) at h.2 in
    it.3

-- and so does one that fails, unless it is rolled back
fails_leaves : (sql : List ℕ) (params : Row) (old new : State) (e : Error) → FailsToQuery sql params old new e → IsUnchanged old new ⊎ IsRolledBack old new
unfolding FailsToQuery IsNotRun
fails_leaves sql params old new e (inl (inl same)) = inl same.1
fails_leaves sql params old new e (inl (inr fails)) = inr fails.3
fails_leaves sql params old new e (inr (c, it, h)) = go c.returning h
  where
    leaves : (given : Row) → RunsCommand old new sql c given (Err e) → IsUnchanged old new ⊎ IsRolledBack old new
    leaves given (inl same) = inl same.1
    leaves given (inr fails) = inr fails.3

    go : (r : Option _) → FailsToShow old new sql c (timed params c.formats it.now) e r → IsUnchanged old new ⊎ IsRolledBack old new
    go None h = inl h.3
    go (Some what) h = leaves _ h

module _ (sql : List ℕ) (tree : ℕ) (terms shown : List Term) (order : List (Term × Key)) (names : List (List ℕ)) (is : Queries sql tree terms shown order names) (whole : (db : Trees) → overlay db [] tree ≡ db tree)
    (params : Row) (test : Row → Bool) (f : Row → Row) (agree : (s : State) → IsOurs s → (r : Row) → Has (s.now.trees tree) r → (passes terms params r ≡ test r) × (shows shown params r ≡ f r)) (old new : State) where
  answer : IsOurs old → (rows : List Row) → Shown sql params old new rows → IsPermutation (map f (filter test (old.now.trees tree))) rows
  answer was rows h =
      let read = reads_as sql params old new log_schema was.schema _ is.is is.plain is.unlisted rows h in
      let rows_in = old.now.trees tree in
      let moved = plain_answer tree terms shown order old.now.trees params rows (whole old.now.trees) read.answer in
      let tests = same_filter (passes terms params) test rows_in (λ r has. (agree old was r has).0) in
      let maps = same_map (shows shown params) f (filter test rows_in) (λ r has. (agree old was r (kept r has)).1) in
      subst (λ l. IsPermutation l rows) (ap (map (shows shown params)) tests ∙ maps) moved
    where
      kept : (r : Row) → Has (filter test (old.now.trees tree)) r → Has (old.now.trees tree) r
      kept r has = (has_filtered test (old.now.trees tree) r has).0

  same : (r : Result (Vec Row Global) Error) → IsOurs old → IfOk r (λ rows. Shown sql params old new rows.items) → IfErr r (FailsToQuery sql params old new) → IsTrue new.is_open → IsLeft new (log_of old.now.trees)
  same (Ok rows) was ok err = left_shown old new was (inl (shown_same sql params old new log_schema rows.items was.schema is.plain ok))
  same (Err e) was ok err = left_shown old new was (fails_leaves sql params old new e err)

  shown_rows : (r : Result (Vec Row Global) Error) → IsOurs old → IfOk r (λ rows. Shown sql params old new rows.items) → IfOk r (λ rows. IsPermutation (map f (filter test (old.now.trees tree))) rows.items)
  shown_rows (Ok rows) was ok = answer was rows.items ok
  shown_rows (Err e) was ok = tt

  opens : (r : Result (Vec Row Global) Error) → IsOurs old → IfOk r (λ rows. Shown sql params old new rows.items) → OnOk r (IsTrue new.is_open)
  opens (Ok rows) was ok = (shown_same sql params old new log_schema rows.items was.schema is.plain ok).0.is_open
  opens (Err e) was ok = tt

  queries_with : (r : Result (Vec Row Global) Error) → (HasCleanDisk new → IfOk r (λ rows. Shown sql params old new rows.items)) → (HasCleanDisk new → IfErr r (FailsToQuery sql params old new))
      → Survives old new (CommitsShowing sql params old) → Shows tree test f old new r
  queries_with r ok err survives = record {
    truth = was_clean old new _ survives;
    shown = λ clean was. shown_rows r was (ok clean);
    same = λ clean was. same r was (ok clean) (err clean);
    opens = λ clean was. opens r was (ok clean);
    leaves = λ clean was left may. elim (survives.crash clean may.0 may.1) [
      | inl before ↦ (may.0, before, may.2)
      | inr commits ↦ absurd (never_commits sql params old may.0 (subst (λ s. IsPlain (understood s sql)) (sym was.schema) is.plain) commits)
    ];
  }

  -- with these parameters, as they were bound
  pub queries : (bound : Row) → bound ≡ params → (r : Result (Vec Row Global) Error) → (HasCleanDisk new → IfOk r (λ rows. Shown sql bound old new rows.items)) → (HasCleanDisk new → IfErr r (FailsToQuery sql bound old new))
      → Survives old new (CommitsShowing sql bound old) → Shows tree test f old new r
  queries bound same r ok err survives =
      queries_with r (subst (λ row. HasCleanDisk new → IfOk r (λ rows. Shown sql row old new rows.items)) same ok) (subst (λ row. HasCleanDisk new → IfErr r (FailsToQuery sql row old new)) same err)
      (subst (λ row. Survives old new (CommitsShowing sql row old)) same survives)

-- the rowids of a tree, where no more is known than the schema
pub ids_shown : (sql : List ℕ) (tree : ℕ) (order : List (Term × Key)) (names : List (List ℕ)) → Queries sql tree [] (col 1 0 ∷ []) order names → ((db : Trees) → overlay db [] tree ≡ db tree) → (old new : State) (r : Result (Vec Row Global) Error)
    → (HasCleanDisk new → IfOk r (λ rows. Shown sql [] old new rows.items)) → Survives old new (CommitsShowing sql [] old) → ShowsIds tree old new r
ids_shown sql tree order names is whole old new r ok survives = record { truth = was_clean old new _ survives; shown = λ clean has. go r has (ok clean) }
  where
    go : (r : Result (Vec Row Global) Error) → old.now.schema ≡ log_schema → IfOk r (λ rows. Shown sql [] old new rows.items) → IfOk r (λ rows. IsUnchanged old new × IsPermutation (map id_shown (filter all_rows (old.now.trees tree))) rows.items)
    go (Ok rows) has h =
        let read = reads_as sql [] old new log_schema has _ is.is is.plain is.unlisted rows.items h in
        let moved = plain_answer tree [] (col 1 0 ∷ []) order old.now.trees [] rows.items (whole old.now.trees) read.answer in
        (shown_same sql [] old new log_schema rows.items has is.plain h, moved)
    go (Err e) has h = tt
