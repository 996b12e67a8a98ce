-- DELETE FROM txn.
use Rattle.std.proofs.Common.{◌≡◌, inl, inr, ℕ, List, [], ◌∷◌, filter, true, false, Option, None, Ok, refl, sym, ap, subst, ◌∙◌}
use Rattle.std.proofs.lemmas.List.Sorted.{IsPermutation-sym}
use Rattle.std.proofs.lemmas.Bool.{cases_Bool}
use Rattle.sqlite.specs.declared.types.Value.TheVariants.{Int, Text}
use Rattle.sqlite.specs.Order.{Row}
use Rattle.sqlite_schema.specs.declared.schema.Keys.{Keys}
use Rattle.sqlite.specs.Edit.{edit_of, without_all, id_in}
use Rattle.sqlite.specs.Rowids.TheVariants.{Given}
use Rattle.sqlite.specs.Rows.{Written, Deletes}
use Rattle.sqlite.specs.Does.{Tally, Does}
use Rattle.sqlite.specs.Effect.{Database}
use Rattle.sqlite.specs.declared.run.Mode.{Mode}
use Rattle.sqlite.specs.Tree.{Trees, rowid, has_rowid}
use Rattle.sqlite_rules.specs.Calls.{ids_of}
use Rattle.sqlite_rules.specs.Lists.{Has}
use Rattle.sqlite_rules.proofs.ListLemmas.{has_filtered, has_kept}
use Rattle.sqlite_rules.proofs.TableLemmas.{without_all_has}
use Rattle.tip_sql.specs.Tables.{log_schema, txn_table}
use Rattle.tip_sql.specs.Places.{Place, is_at, IsTxnRow, AreRows}
use Rattle.tip_sql.proofs.Effects.{Clears}
use Rattle.tip_sql.proofs.Texts.{remove_command, remove_query, remove_query_filter, remove_query_shown}
use Rattle.tip_sql.proofs.Facts.{left_stays, taken_goes, has_mapped, mapped_has}
use Rattle.tip_sql.proofs.Queries.{plain_answer, passes, shows, has_moved}
use Rattle.tip_sql.proofs.Tests.{text_eq, int_eq, and_all}
use Rattle.tip_sql.proofs.Steps.{went, same_value, not_two}
use Rattle.tip_sql.proofs.Putting.{one_edit, txn_task, has_id, id_has}

abbrev pub asked : Place → Row
asked q = Text q.0 ∷ Int q.1 ∷ Int q.2 ∷ Int q.3 ∷ []

passes_is : (q : Place) (r : Row) → IsTxnRow r → passes remove_query_filter (asked q) r ≡ is_at q r
passes_is q r it = subst (λ x. passes remove_query_filter (asked q) x ≡ is_at q x) (sym it.is)
    (rw (text_eq it.place.0 q.0, int_eq it.place.1 q.1, int_eq it.place.2 q.2, int_eq it.place.3 q.3, and_all) refl)

module _ (limit : Option ℕ) (keys : Keys) (q : Place) (db : Trees) (rows : AreRows (db 2)) where
  pub deleted : (one : Written) → Deletes (txn_task limit keys (asked q)) (record { lets = []; body = remove_query }) db (Ok one) → Clears (db 2) (one.trees 2) q × (one.trees 0 ≡ db 0)
  deleted one h =
      let p = passes remove_query_filter (asked q) in
      let f = shows remove_query_shown (asked q) in
      let found = went h in
      let moved = plain_answer 2 remove_query_filter remove_query_shown [] db (asked q) found.0 refl found.1.answer in
      let out = went found.2 in
      let edit = edit_of db txn_table (ids_of found.0) Given 0 [] in
      let step = one_edit keys db out.0 edit refl out.1 in
      let trees : one.trees ≡ out.0 = ap (λ (w : Written). w.trees) (same_value out.2) in
      let table : one.trees 2 ≡ without_all (db 2) (ids_of found.0) = ap (λ (t : Trees). t 2) trees ∙ step.rows in
      let id = λ (s : Row). id_in (rowid s) in (
        record {
          others = λ r h.
              let left = subst (λ l. Has l r) table h in
              let was = without_all_has (ids_of found.0) (db 2) r left in
              let it = rows.shaped r was in (
                was,
                elim (cases_Bool (is_at q r)) [
                  | inl at_q ↦
                      let shown : Has found.0 (f r) = has_moved _ _ (f r) moved (mapped_has f (filter p (db 2)) r (has_kept p (db 2) r was (passes_is q r it ∙ at_q))) in
                      let gone = taken_goes (ids_of found.0) (db 2) r (id (f r)) (mapped_has id found.0 (f r) shown) left in
                      let clash : true ≡ false = sym (ap (λ x. has_rowid (id_in (rowid x)) x) it.is ∙ id_has it.id it.place it.text) ∙ gone in
                      absurd (let e = clash in cc)
                  | inr off ↦ off
                ],
              );
          kept = λ r h off. subst (λ l. Has l r) (sym table) (left_stays (ids_of found.0) (db 2) r h (λ n hn. elim (cases_Bool (has_rowid n r)) [
            | inl is_id ↦
                let m = has_mapped id found.0 n hn in
                let k = has_mapped f (filter p (db 2)) m.0 (has_moved _ _ m.0 (IsPermutation-sym _ _ moved) m.1) in
                let w = has_filtered p (db 2) k.0 k.1 in
                let it = rows.shaped r h in
                let its = rows.shaped k.0 w.0 in
                let n_is : n ≡ its.id = m.2 ∙ ap id k.2 ∙ ap id_in (ap rowid its.is) in
                let same : r ≡ k.0 = rows.apart r k.0 h w.0 (ap rowid it.is ∙ ap Int (has_id n it.id it.place it.text (subst (λ x. has_rowid n x ≡ true) it.is is_id) ∙ n_is) ∙ sym (ap rowid its.is)) in
                absurd (let clash : true ≡ false = sym (ap (is_at q) same ∙ sym (passes_is q k.0 its) ∙ w.1) ∙ off in cc)
            | inr off_id ↦ off_id
          ]));
        },
        ap (λ (t : Trees). t 0) trees ∙ step.tables.0 not_two,
      )

-- what the command makes of a database
pub remove_does : (limit : Option ℕ) (mode : Mode) (db after : Database) (tally : Tally) (sql : List ℕ) (q : Place) → db.schema ≡ log_schema → AreRows (db.trees 2)
    → Does limit mode (asked q) db sql None remove_command (Ok (tally, after)) → (after.schema ≡ log_schema) × Clears (db.trees 2) (after.trees 2) q × (after.trees 0 ≡ db.trees 0)
remove_does limit mode db after tally sql q has rows h =
    let done = went (subst (λ s. Does limit mode (asked q) (record db { schema = s }) sql None remove_command (Ok (tally, after))) has h) in
    let now = ap (λ (p : Tally × Database). p.1) (same_value (went (went done.2).2).2) in
    let ran = deleted limit mode.keys q db.trees rows done.0 done.1 in
    let trees = ap (λ (d : Database). d.trees) now in
    (ap (λ (d : Database). d.schema) now, subst (λ (d : Trees). Clears (db.trees 2) (d 2) q) (sym trees) ran.0, ap (λ (t : Trees). t 0) trees ∙ ran.1)
