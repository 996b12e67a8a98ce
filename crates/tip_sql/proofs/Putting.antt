-- INSERT INTO txn .. ON CONFLICT DO UPDATE.
use Rattle.std.proofs.Common.{◌≡◌, inl, inr, ℕ, ℤ, List, [], ◌∷◌, ◌++◌, map, filter, drop, true, false, Option, Some, None, Ok, refl, sym, ap, subst, ◌∙◌}
use Rattle.std.specs.Ordering.{is_eq}
use Rattle.std.proofs.lemmas.Bool.{cases_Bool, and_parts, and_from}
use Rattle.sqlite.specs.declared.types.Value.TheVariants.{Null, Int, Text}
use Rattle.sqlite.specs.Order.{Row, value_cmp}
use Rattle.sqlite.specs.Source.TheVariants.{Values}
use Rattle.sqlite_schema.specs.declared.command.Conflict.TheVariants.{Abort}
use Rattle.sqlite_schema.specs.declared.schema.Keys.{Keys}
use Rattle.sqlite.specs.Edit.{Edit, edit_of, next_rowid, with_rowid, without_all, put_all, is_taken, are_fresh, id_in, Applies}
use Rattle.sqlite.specs.Cast.{cast_row}
use Rattle.sqlite.specs.Rowids.TheVariants.{Chosen, Given}
use Rattle.sqlite.specs.Does.{Tally, Does}
use Rattle.sqlite.specs.Rows.{Written, nothing, count_of, shown, Task, Edited, Updates, Tries, TriesEach, InsertsOr, Puts}
use Rattle.sqlite.specs.Tree.{Trees, rowid, has_rowid, put_row}
use Rattle.sqlite.specs.Effect.{Database}
use Rattle.sqlite.specs.declared.run.Mode.{Mode}
use Rattle.sqlite.proofs.Callers.{one_step}
use Rattle.std.proofs.lemmas.List.Sorted.{IsPermutation-sym}
use Rattle.sqlite_rules.specs.Calls.{ids_of}
use Rattle.sqlite_rules.specs.Keys.{AreConflicts, conflicts}
use Rattle.sqlite_rules.specs.Lists.{Has}
use Rattle.sqlite_rules.proofs.ListLemmas.{some_from, has_filtered, has_kept}
use Rattle.sqlite_rules.proofs.TableLemmas.{put_has, has_put, put_all_has, put_all_adds, put_all_keeps, without_all_has}
use Rattle.sqlite_value.proofs.OrderLemmas.{value_cmp-Int}
use Rattle.tip_sql.specs.Tables.{log_schema, txn_table, txn_row}
use Rattle.tip_sql.specs.Places.{Place, place_in, is_at, same_place, AreRows}
use Rattle.tip_sql.proofs.Effects.{Sets}
use Rattle.tip_sql.proofs.Steps.{went, same_value, not_two, cast_int, cast_null, numbered_given}
use Rattle.tip_sql.proofs.Texts.{put_terms, put_clause, put_command, reset_query, reset_query_filter, reset_query_shown}
use Rattle.tip_sql.proofs.Facts.{same_int, int_same, not_true, is_place, place_same, left_stays, taken_goes, has_mapped, mapped_has}
use Rattle.tip_sql.proofs.Queries.{plain_answer, passes, shows, has_moved}
use Rattle.tip_sql.proofs.Tests.{conflict_is, int_eq}

abbrev pub txn_task : Option ℕ → Keys → Row → Task
txn_task limit keys params = record { limit = limit; keys = keys; schema = log_schema; table = txn_table; params = params }

abbrev pub given : Place → List ℕ → Row
given q text = Text q.0 ∷ Int q.1 ∷ Int q.2 ∷ Int q.3 ∷ Text text ∷ []

pub cast_txn : (id : ℤ) (q : Place) (text : List ℕ) → cast_row txn_table (txn_row id q.0 q.1 q.2 q.3 text) ≡ txn_row id q.0 q.1 q.2 q.3 text
cast_txn id q text = rw (cast_int id, cast_int q.1, cast_int q.2, cast_int q.3) refl

fresh_row : (rows : List Row) (q : Place) (text : List ℕ)
    → with_rowid Chosen rows (cast_row txn_table (Null ∷ given q text)) ≡ txn_row (next_rowid rows) q.0 q.1 q.2 q.3 text
fresh_row rows q text = rw (cast_null, cast_int q.1, cast_int q.2, cast_int q.3) refl

-- no foreign key acts on the table
pub one_edit : (keys : Keys) (db next : Trees) (edit : Edit) → edit.table ≡ txn_table → Edited log_schema keys db edit (Ok next) → Applies log_schema keys db edit next
one_edit keys db next edit is h = one_step log_schema keys db next edit refl h

-- an id and a rowid
pub has_id : (id other : ℤ) (q : Place) (text : List ℕ) → has_rowid id (txn_row other q.0 q.1 q.2 q.3 text) ≡ true → other ≡ id
has_id id other q text e = same_int other id (sym (ap is_eq (value_cmp-Int other id)) ∙ e)

pub id_has : (id : ℤ) (q : Place) (text : List ℕ) → has_rowid id (txn_row id q.0 q.1 q.2 q.3 text) ≡ true
id_has id q text = ap is_eq (value_cmp-Int id id) ∙ int_same id

module _ (limit : Option ℕ) (keys : Keys) (q : Place) (text : List ℕ) (db : Trees) (rows : AreRows (db 2)) where
  abbrev task : Task
  task = txn_task limit keys (given q text)

  abbrev new : Row
  new = txn_row (next_rowid (db 2)) q.0 q.1 q.2 q.3 text

  -- none stood at the place
  put_in : (one : Written) → ((r : Row) → Has (db 2) r → is_at q r ≡ false) → Puts task new db (Ok one) → Sets (db 2) (one.trees 2) q text × (one.trees 0 ≡ db 0)
  put_in one none h =
      let out = went h in
      let step = one_edit keys db out.0 (edit_of db txn_table [] Given 0 (new ∷ [])) refl out.1 in
      let is : one.trees ≡ out.0 = ap (λ (w : Written). w.trees) (same_value out.2) in
      let same : cast_row txn_table new ≡ new = cast_txn (next_rowid (db 2)) q text in
      let now : one.trees 2 ≡ put_row new (db 2) = ap (λ (t : Trees). t 2) is ∙ step.rows ∙ ap (λ r. put_row r (db 2)) same in
      let fresh : are_fresh (db 2) (new ∷ []) ≡ true = ap (λ r. are_fresh (db 2) (r ∷ [])) (sym same) ∙ step.fresh in
      let free : is_taken (db 2) new ≡ false = not_true _ (and_parts _ _ fresh).0 in (
        record {
          id = next_rowid (db 2);
          here = subst (λ l. Has l new) (sym now) (has_put new (db 2));
          others = λ r has. elim (put_has new (db 2) r (subst (λ l. Has l r) now has)) [ inl isnew ↦ inl isnew | inr old ↦ inr (old, none r old) ];
          kept = λ r has off. subst (λ l. Has l r) (sym now) (put_all_keeps (new ∷ []) (db 2) r fresh has);
          apart = λ r has off clash.
              let taken = some_from (λ x. is_eq (value_cmp (rowid x) (rowid new))) (db 2) r has (ap (λ v. is_eq (value_cmp v (rowid new))) (sym clash) ∙ ap is_eq (value_cmp-Int (next_rowid (db 2)) (next_rowid (db 2))) ∙ int_same (next_rowid (db 2))) in
              let e : true ≡ false = sym taken ∙ free in cc;
        },
        ap (λ (t : Trees). t 0) is ∙ step.tables.0 not_two,
      )

  -- one did
  reset : (one : Written) (id : ℤ) (was : List ℕ) → Has (db 2) (txn_row id q.0 q.1 q.2 q.3 was)
      → Updates task (record { lets = []; body = reset_query }) (given q text ++ Int id ∷ shown txn_table new) db (Ok one) → Sets (db 2) (one.trees 2) q text × (one.trees 0 ≡ db 0)
  reset one id was has h =
      let params = given q text ++ Int id ∷ shown txn_table new in
      let old = txn_row id q.0 q.1 q.2 q.3 was in
      let now = txn_row id q.0 q.1 q.2 q.3 text in
      let p = passes reset_query_filter params in
      let f = shows reset_query_shown params in
      let asked = went h in
      let moved = plain_answer 2 reset_query_filter reset_query_shown [] db params asked.0 refl asked.1.answer in
      let out = went asked.2 in
      let edit = edit_of db txn_table (ids_of asked.0) Given 1 asked.0 in
      let step = one_edit keys db out.0 edit refl out.1 in
      let trees : one.trees ≡ out.0 = ap (λ (w : Written). w.trees) (same_value out.2) in
      -- the query finds that row alone
      let passing : p old ≡ true = and_from _ _ (int_eq id id ∙ int_same id) refl in
      let at_id = λ (r : Row) (h : Has (db 2) r) (e : rowid r ≡ Int id). (let e : r ≡ old = rows.apart r old h has e in e) in
      let only = λ (r : Row) (h : Has (db 2) r) (e : p r ≡ true). (let e : r ≡ old =
      (let it = rows.shaped r h in
      let is = subst (λ x. p x ≡ true) it.is e in
      at_id r h (ap rowid it.is ∙ ap Int (same_int it.id id (sym (int_eq it.id id) ∙ (and_parts _ _ is).0)))) in e) in
      let each = λ (r : Row) (h : Has asked.0 r). (let e : r ≡ f old =
      (let m = has_mapped f (filter p (db 2)) r (has_moved _ _ r (IsPermutation-sym _ _ moved) h) in
      let k = has_filtered p (db 2) m.0 m.1 in
      m.2 ∙ ap f (only m.0 k.0 k.1)) in e) in
      let first : Has asked.0 (f old) = has_moved _ _ (f old) moved (mapped_has f (filter p (db 2)) old (has_kept p (db 2) old has passing)) in
      let cast = λ (s : Row). cast_row txn_table (drop 1 s) in
      let casts : cast (f old) ≡ now = cast_txn id q text in
      let news : edit.news ≡ map cast asked.0 = numbered_given _ _ in
      let new_is = λ (r : Row) (h : Has edit.news r). (let e : r ≡ now =
      (let m = has_mapped cast asked.0 r (subst (λ l. Has l r) news h) in m.2 ∙ ap cast (each m.0 m.1) ∙ casts) in e) in
      let id_is = λ (n : ℤ) (h : Has (ids_of asked.0) n). (let e : n ≡ id =
      (let m = has_mapped (λ s. id_in (rowid s)) asked.0 n h in m.2 ∙ ap (λ s. id_in (rowid s)) (each m.0 m.1)) in e) in
      let has_it : Has (ids_of asked.0) id = mapped_has (λ s. id_in (rowid s)) asked.0 (f old) first in
      let table : one.trees 2 ≡ put_all (without_all (db 2) (ids_of asked.0)) edit.news = ap (λ (t : Trees). t 2) trees ∙ step.rows in
      let away = λ (r : Row) (h : Has (db 2) r) (off : is_at q r ≡ false) (e : rowid r ≡ Int id). (let e : ⊥ =
      (let clash : true ≡ false = sym (ap (is_at q) (at_id r h e) ∙ place_same q) ∙ off in cc) in e) in (
        record {
          id = id;
          here = subst (λ l. Has l now) (sym table) (put_all_adds edit.news _ now step.fresh (subst (λ l. Has l now) (sym news) (subst (Has (map cast asked.0)) casts (mapped_has cast asked.0 (f old) first))));
          others = λ r h. elim (put_all_has edit.news _ r (subst (λ l. Has l r) table h)) [
            | inl isnew ↦ inl (new_is r isnew)
            | inr left ↦
                let was_in = without_all_has (ids_of asked.0) (db 2) r left in
                let gone = taken_goes (ids_of asked.0) (db 2) r id has_it left in
                inr (
                  was_in,
                  elim (cases_Bool (is_at q r)) [
                    | inl at_q ↦ absurd (let clash : true ≡ false = sym (ap (has_rowid id) (rows.keyed r old was_in has (is_place _ _ at_q)) ∙ id_has id q was) ∙ gone in cc)
                    | inr off ↦ off
                  ],
                )
          ];
          kept = λ r h off. subst (λ l. Has l r) (sym table) (put_all_keeps edit.news _ r step.fresh (left_stays (ids_of asked.0) (db 2) r h (λ n hn. elim (cases_Bool (has_rowid n r)) [
            | inl is_id ↦
                let it = rows.shaped r h in
                absurd (away r h off (ap rowid it.is ∙ ap Int (has_id n it.id it.place it.text (subst (λ x. has_rowid n x ≡ true) it.is is_id) ∙ id_is n hn)))
            | inr off_id ↦ off_id
          ])));
          apart = λ r h off e. away r h off (sym e);
        },
        ap (λ (t : Trees). t 0) trees ∙ step.tables.0 not_two,
      )

  none_there : AreConflicts (Some (1 ∷ 2 ∷ 3 ∷ 4 ∷ [])) log_schema.indexes txn_table (db 2) new [] → (r : Row) → Has (db 2) r → is_at q r ≡ false
  none_there conf r has = elim (cases_Bool (is_at q r)) [
    | inl at_q ↦
        let it = rows.shaped r has in
        let clash : conflicts (Some (1 ∷ 2 ∷ 3 ∷ 4 ∷ [])) log_schema.indexes txn_table new r ≡ true =
        subst (λ x. conflicts (Some (1 ∷ 2 ∷ 3 ∷ 4 ∷ [])) log_schema.indexes txn_table new x ≡ true) (sym it.is)
        (conflict_is (next_rowid (db 2)) it.id q it.place text it.text ∙ sym (ap (λ x. same_place x q) (ap place_in it.is)) ∙ at_q) in
        absurd (conf.complete r has clash)
    | inr off ↦ off
  ]

  tried : (one : Written) → Tries task Abort (put_clause ∷ []) new db (Ok one) → Sets (db 2) (one.trees 2) q text × (one.trees 0 ≡ db 0)
  tried one (inl refused) = absurd (let e = refused.1 in cc)
  tried one (inr (None, fine, ([], conf, ([], conf2, met)))) = put_in one (none_there conf) met
  tried one (inr (None, fine, ([], conf, ((x ∷ more), conf2, met)))) = put_in one (none_there conf) met
  tried one (inr (None, fine, ((there ∷ found), conf, met))) =
      let s = conf.sound there (inl refl) in
      let it = rows.shaped s.0 s.1 in
      let same : same_place it.place q ≡ true = sym (conflict_is (next_rowid (db 2)) it.id q it.place text it.text) ∙ subst (λ x. conflicts (Some (1 ∷ 2 ∷ 3 ∷ 4 ∷ [])) log_schema.indexes txn_table new x ≡ true) it.is s.2 in
      let place : it.place ≡ q = is_place _ _ same in
      let row : s.0 ≡ txn_row it.id q.0 q.1 q.2 q.3 it.text = it.is ∙ ap (λ (p : Place). txn_row it.id p.0 p.1 p.2 p.3 it.text) place in
      let id : rowid there ≡ Int it.id = ap rowid s.3 ∙ ap rowid it.is in
      reset one it.id it.text (subst (Has (db 2)) row s.1)
      (subst (λ v. Updates task (record { lets = []; body = reset_query }) (given q text ++ v ∷ shown txn_table new) db (Ok one)) id met)
  tried one (inr (Some why, bad, refused)) = absurd (let e = refused in cc)

  -- the whole statement
  pub inserted : (done : Written) → InsertsOr task Abort (put_clause ∷ []) (Values put_terms 6) db (Ok done) → Sets (db 2) (done.trees 2) q text × (done.trees 0 ≡ db 0)
  inserted done h =
      let got = went h in
      let all : got.0 ≡ (Null ∷ given q text) ∷ [] = got.1.1 in
      let counter = went got.2 in
      let each = went counter.2 in
      let counted = went each.2 in
      let one = went (subst (λ rs. TriesEach task Abort (put_clause ∷ []) rs (count_of counter.0) (nothing db) (Ok each.0)) all each.1) in
      let it = tried one.0 (subst (λ r. Tries task Abort (put_clause ∷ []) r db (Ok one.0)) (fresh_row (db 2) q text) one.1) in
      let is : done.trees ≡ one.0.trees = ap (λ (d : Written). d.trees) (same_value counted.2) ∙ same_value counted.1 ∙ ap (λ (d : Written × ℤ). d.0.trees) (same_value one.2) in
      (subst (λ l. Sets (db 2) l q text) (sym (ap (λ (t : Trees). t 2) is)) it.0, ap (λ (t : Trees). t 0) is ∙ it.1)

-- what the command makes of a database
pub put_does : (limit : Option ℕ) (mode : Mode) (db after : Database) (tally : Tally) (sql : List ℕ) (q : Place) (text : List ℕ) → db.schema ≡ log_schema → AreRows (db.trees 2)
    → Does limit mode (given q text) db sql None (put_command) (Ok (tally, after))
    → (after.schema ≡ log_schema) × Sets (db.trees 2) (after.trees 2) q text × (after.trees 0 ≡ db.trees 0)
put_does limit mode db after tally sql q text has rows h =
    let done = went (subst (λ s. Does limit mode (given q text) (record db { schema = s }) sql None put_command (Ok (tally, after))) has h) in
    let now = ap (λ (p : Tally × Database). p.1) (same_value (went (went done.2).2).2) in
    let ran = inserted limit mode.keys q text db.trees rows done.0 done.1 in
    let trees = ap (λ (d : Database). d.trees) now in
    (ap (λ (d : Database). d.schema) now, subst (λ (d : Trees). Sets (db.trees 2) (d 2) q text) (sym trees) ran.0, ap (λ (t : Trees). t 0) trees ∙ ran.1)
