-- UPDATE realm SET epoch = epoch + 1.
use Rattle.std.proofs.Common.{◌≡◌, inl, inr, ℕ, ◌<◌, ◌+◌, ℤ, pos, negsuc, ◌+ℤ◌, List, [], ◌∷◌, map, filter, drop, Bool, true, false, Option, None, Ok, refl, sym, ap, subst, subst₂, ◌∙◌, arith}
use Rattle.std.proofs.lemmas.List.Sorted.{IsPermutation-sym}
use Rattle.std.proofs.lemmas.Bool.{cases_Bool, and_parts}
use Rattle.std.proofs.lemmas.Bool.Decides.{nat_tests}
use Rattle.std.specs.Ordering.{is_eq, is_ge, is_lt, int_cmp}
use Rattle.sqlite.specs.declared.types.Value.TheVariants.{Int, Text}
use Rattle.sqlite.specs.Order.{Row, value_cmp}
use Rattle.sqlite.specs.Ops.{fits_i64, binary, is_true}
use Rattle.sqlite.specs.Collation.TheVariants.{Binary}
use Rattle.sqlite_sql.specs.declared.ops.BinaryOp.TheVariants as by
use Rattle.sqlite_sql.specs.declared.ops.CompareOp.TheVariants.{Lt, Ge}
use Rattle.sqlite_sql.specs.declared.ops.ArithOp.TheVariants.{Add}
use Rattle.sqlite_value.proofs.OrderLemmas.{value_cmp-Int}
use Rattle.sqlite_schema.specs.declared.schema.Keys.{Keys}
use Rattle.sqlite.specs.Edit.{edit_of, without_all, put_all, id_in, Applies}
use Rattle.sqlite.specs.Cast.{cast_row}
use Rattle.sqlite.specs.Rowids.TheVariants.{Given}
use Rattle.sqlite.specs.Rows.{Written, Task, Updates}
use Rattle.sqlite.specs.Does.{Tally, Does}
use Rattle.sqlite.specs.Effect.{Database}
use Rattle.sqlite.specs.Term.{Term}
use Rattle.sqlite.specs.declared.run.Mode.{Mode}
use Rattle.sqlite.specs.Tree.{Trees, rowid, has_rowid}
use Rattle.sqlite.proofs.Callers.{one_step}
use Rattle.sqlite_rules.specs.Calls.{ids_of}
use Rattle.sqlite_rules.specs.Lists.{Has}
use Rattle.sqlite_rules.proofs.ListLemmas.{has_filtered, has_kept}
use Rattle.sqlite_rules.proofs.TableLemmas.{put_all_has, put_all_adds, put_all_keeps, without_all_has}
use Rattle.tip_sql.specs.Tables.{log_schema, realm_table}
use Rattle.tip_sql.specs.Places.{IsRealmRow, AreRealms}
use Rattle.tip_sql.proofs.Effects.{can_rise, one_can_rise, risen, Raises}
use Rattle.tip_sql.proofs.Texts.{raise_command, raise_query, raise_shown, can_rise_terms, one_can_rise_terms}
use Rattle.tip_sql.proofs.Facts.{left_stays, taken_goes, same_int, int_same, has_mapped, mapped_has}
use Rattle.tip_sql.proofs.Tests.{truth_back, and_all, text_eq}
use Rattle.tip_sql.proofs.Queries.{plain_answer, passes, shows, has_moved}
use Rattle.tip_sql.proofs.Steps.{went, same_value, not_two, cast_int, numbered_given}

abbrev pub realm_task : Option ℕ → Keys → Row → Task
realm_task limit keys params = record { limit = limit; keys = keys; schema = log_schema; table = realm_table; params = params }

int_ge : (m n : ℤ) → is_true (binary (by.Compare Ge Binary) (Int m) (Int n)) ≡ is_ge (int_cmp m n)
unfolding binary
int_ge m n = truth_back (is_ge (value_cmp (Int m) (Int n))) ∙ ap is_ge (value_cmp-Int m n)

int_lt : (m n : ℤ) → is_true (binary (by.Compare Lt Binary) (Int m) (Int n)) ≡ is_lt (int_cmp m n)
unfolding binary
int_lt m n = truth_back (is_lt (value_cmp (Int m) (Int n))) ∙ ap is_lt (value_cmp-Int m n)

below : (n : ℕ) → is_lt (int_cmp (pos n) (pos 4294967295)) ≡ true → n < 4294967295
below n e = grind (arith, nat_tests)

-- one more, which 64 bits hold
add_one : (e : ℤ) → is_ge (int_cmp e (pos 0)) ≡ true → is_lt (int_cmp e (pos 4294967295)) ≡ true → binary (by.Arith Add) (Int e) (Int (pos 1)) ≡ Int (e +ℤ pos 1)
unfolding binary
add_one (pos n) low high =
    let under : n < 4294967295 = below n high in
    let fits : fits_i64 (pos (n + 1)) ≡ true = grind (arith, nat_tests) in
    rw fits refl
add_one (negsuc n) low high = absurd (let e : false ≡ true = low in cc)

pub all_pass : (r : Row) → IsRealmRow r → passes can_rise_terms [] r ≡ can_rise r
all_pass r it = subst (λ x. passes can_rise_terms [] x ≡ can_rise x) (sym it.is) (rw (int_ge it.epoch (pos 0), int_lt it.epoch (pos 4294967295), and_all) refl)

pub one_passes : (realm : List ℕ) (r : Row) → IsRealmRow r → passes one_can_rise_terms (Text realm ∷ []) r ≡ one_can_rise realm r
one_passes realm r it = subst (λ x. passes one_can_rise_terms (Text realm ∷ []) x ≡ one_can_rise realm x) (sym it.is)
    (rw (text_eq it.name realm, int_ge it.epoch (pos 0), int_lt it.epoch (pos 4294967295), and_all) refl)

shown_is : (params : Row) (r : Row) → IsRealmRow r → can_rise r ≡ true → cast_row realm_table (drop 1 (shows raise_shown params r)) ≡ risen r
shown_is params r it up =
    let e = and_parts _ _ (subst (λ x. can_rise x ≡ true) it.is up) in
    subst (λ x. cast_row realm_table (drop 1 (shows raise_shown params x)) ≡ risen x) (sym it.is) (rw (add_one it.epoch e.0 e.1, cast_int it.id, cast_int (it.epoch +ℤ pos 1)) refl)

has_id : (id : ℤ) (r : Row) (it : IsRealmRow r) → has_rowid id r ≡ true → it.id ≡ id
has_id id r it e = same_int it.id id (sym (ap is_eq (value_cmp-Int it.id id)) ∙ subst (λ x. has_rowid id x ≡ true) it.is e)

own_id : (r : Row) (it : IsRealmRow r) → has_rowid (id_in (rowid r)) r ≡ true
own_id r it = subst (λ x. has_rowid (id_in (rowid x)) x ≡ true) (sym it.is) (ap is_eq (value_cmp-Int it.id it.id) ∙ int_same it.id)

module _ (filter_terms : List Term) (params : Row) (up : Row → Bool) (passes_is : (r : Row) → IsRealmRow r → passes filter_terms params r ≡ up r) (rises : (r : Row) → up r ≡ true → can_rise r ≡ true)
    (limit : Option ℕ) (keys : Keys) (db : Trees) (rows : AreRealms (db 0)) where
  pub raises : (one : Written) → Updates (realm_task limit keys params) (record { lets = []; body = raise_query filter_terms }) params db (Ok one) → Raises up (db 0) (one.trees 0) × (one.trees 2 ≡ db 2)
  raises one h =
      let p = passes filter_terms params in
      let f = shows raise_shown params in
      let found = went h in
      let moved = plain_answer 0 filter_terms raise_shown [] db params found.0 refl found.1.answer in
      let out = went found.2 in
      let edit = edit_of db realm_table (ids_of found.0) Given 1 found.0 in
      let step : Applies log_schema keys db edit out.0 = one_step log_schema keys db out.0 edit refl out.1 in
      let trees : one.trees ≡ out.0 = ap (λ (w : Written). w.trees) (same_value out.2) in
      let cast = λ (s : Row). cast_row realm_table (drop 1 s) in
      let id = λ (s : Row). id_in (rowid s) in
      let news : edit.news ≡ map cast found.0 = numbered_given _ _ in
      let table : one.trees 0 ≡ put_all (without_all (db 0) (ids_of found.0)) edit.news = ap (λ (t : Trees). t 0) trees ∙ step.rows in
      let shown = λ (r : Row) (h : Has (db 0) r) (e : p r ≡ true). (let it : Has found.0 (f r) = has_moved _ _ (f r) moved (mapped_has f (filter p (db 0)) r (has_kept p (db 0) r h e)) in it) in
      let source = λ (s : Row) (h : Has found.0 s). has_mapped f (filter p (db 0)) s (has_moved _ _ s (IsPermutation-sym _ _ moved) h) in (
        record {
          raised = λ r h rose.
              let it = rows.shaped r h in
              let got = mapped_has cast found.0 (f r) (shown r h (passes_is r it ∙ rose)) in
              subst (λ l. Has l (risen r)) (sym table) (put_all_adds edit.news _ (risen r) step.fresh (subst (λ l. Has l (risen r)) (sym news) (subst (Has (map cast found.0)) (shown_is params r it (rises r rose)) got)));
          kept = λ r h stays. subst (λ l. Has l r) (sym table) (put_all_keeps edit.news _ r step.fresh (left_stays (ids_of found.0) (db 0) r h (λ n hn. elim (cases_Bool (has_rowid n r)) [
            | inl is_id ↦
                let m = has_mapped id found.0 n hn in
                let k = source m.0 m.1 in
                let w = has_filtered p (db 0) k.0 k.1 in
                let its = rows.shaped k.0 w.0 in
                let it = rows.shaped r h in
                let n_is : n ≡ its.id = m.2 ∙ ap id k.2 ∙ ap id_in (ap rowid its.is) in
                let same : r ≡ k.0 = rows.apart r k.0 h w.0 (ap rowid it.is ∙ ap Int (has_id n r it is_id ∙ n_is) ∙ sym (ap rowid its.is)) in
                absurd (let clash : true ≡ false = sym (ap up same ∙ sym (passes_is k.0 its) ∙ w.1) ∙ stays in cc)
            | inr off_id ↦ off_id
          ])));
          from = λ y h. elim (put_all_has edit.news _ y (subst (λ l. Has l y) table h)) [
            | inl isnew ↦
                let m = has_mapped cast found.0 y (subst (λ l. Has l y) news isnew) in
                let k = source m.0 m.1 in
                let w = has_filtered p (db 0) k.0 k.1 in
                let it = rows.shaped k.0 w.0 in
                let rose : up k.0 ≡ true = sym (passes_is k.0 it) ∙ w.1 in
                (k.0, w.0, inl (rose, m.2 ∙ ap cast k.2 ∙ shown_is params k.0 it (rises k.0 rose)))
            | inr left ↦
                let was = without_all_has (ids_of found.0) (db 0) y left in
                let it = rows.shaped y was in (
                  y,
                  was,
                  inr (
                    elim (cases_Bool (up y)) [
                      | inl rose ↦
                          let gone = taken_goes (ids_of found.0) (db 0) y (id (f y)) (mapped_has id found.0 (f y) (shown y was (passes_is y it ∙ rose))) left in
                          absurd (let clash : true ≡ false = sym (own_id y it) ∙ gone in cc)
                      | inr stays ↦ stays
                    ],
                    refl,
                  ),
                )
          ];
        },
        ap (λ (t : Trees). t 2) trees ∙ step.tables.1.0 apart_too,
      )
    where
      apart_too : ◌≡◌ {A = ℕ} 2 0 → ⊥
      apart_too e = not_two (sym e)

  -- what the command makes of a database
  pub raise_does : (mode : Mode) (start after : Database) (tally : Tally) (sql : List ℕ) → mode.keys ≡ keys → start.trees ≡ db → start.schema ≡ log_schema
      → Does limit mode params start sql None (raise_command filter_terms) (Ok (tally, after)) → (after.schema ≡ log_schema) × Raises up (db 0) (after.trees 0) × (after.trees 2 ≡ db 2)
  raise_does mode start after tally sql same_keys same_trees has h =
      let done = went (subst (λ s. Does limit mode params (record start { schema = s }) sql None (raise_command filter_terms) (Ok (tally, after))) has h) in
      let now = ap (λ (p : Tally × Database). p.1) (same_value (went (went done.2).2).2) in
      let ran = raises done.0 (subst₂ (λ k d. Updates (realm_task limit k params) (record { lets = []; body = raise_query filter_terms }) params d (Ok done.0)) same_keys same_trees done.1) in
      let trees = ap (λ (d : Database). d.trees) now in
      (ap (λ (d : Database). d.schema) now, subst (λ (d : Trees). Raises up (db 0) (d 0)) (sym trees) ran.0, ap (λ (t : Trees). t 2) trees ∙ ran.1)
