-- INSERT INTO realm .. ON CONFLICT DO NOTHING.
use Rattle.std.proofs.Common.{◌≡◌, inl, inr, ℕ, ℤ, pos, List, [], ◌∷◌, true, false, Option, Some, None, Ok, refl, sym, ap, subst, ◌∙◌}
use Rattle.std.specs.Str.{bytes_eq}
use Rattle.std.specs.Ordering.{is_eq}
use Rattle.std.proofs.lemmas.Bool.{cases_Bool, and_parts}
use Rattle.sqlite.specs.declared.types.Value.TheVariants.{Null, Int, Text}
use Rattle.sqlite.specs.Order.{Row, value_cmp}
use Rattle.sqlite.specs.Source.TheVariants.{Values}
use Rattle.sqlite_schema.specs.declared.command.Conflict.TheVariants.{Abort}
use Rattle.sqlite_schema.specs.declared.schema.Keys.{Keys}
use Rattle.sqlite.specs.Edit.{edit_of, next_rowid, with_rowid, is_taken, are_fresh}
use Rattle.sqlite.specs.Cast.{cast_row}
use Rattle.sqlite.specs.Rowids.TheVariants.{Chosen, Given}
use Rattle.sqlite.specs.Does.{Tally, Does}
use Rattle.sqlite.specs.Rows.{Written, nothing, count_of, Tries, TriesEach, InsertsOr, Puts}
use Rattle.sqlite.specs.Tree.{Trees, rowid, put_row}
use Rattle.sqlite.specs.Effect.{Database}
use Rattle.sqlite.specs.declared.run.Mode.{Mode}
use Rattle.sqlite.proofs.Callers.{one_step}
use Rattle.sqlite_rules.specs.Keys.{AreConflicts, conflicts}
use Rattle.sqlite_rules.specs.Lists.{Has}
use Rattle.sqlite_rules.proofs.ListLemmas.{some_from}
use Rattle.sqlite_rules.proofs.TableLemmas.{put_has, has_put, put_all_keeps}
use Rattle.sqlite_value.proofs.OrderLemmas.{value_cmp-Int}
use Rattle.tip_sql.specs.Tables.{log_schema, realm_table, realm_row}
use Rattle.tip_sql.specs.Places.{is_named, AreRealms}
use Rattle.tip_sql.proofs.Effects.{Knows}
use Rattle.tip_sql.proofs.Steps.{went, same_value, not_two, cast_int, cast_null}
use Rattle.tip_sql.proofs.Texts.{know_terms, know_clause, know_command}
use Rattle.tip_sql.proofs.Facts.{int_same, not_true}
use Rattle.tip_sql.proofs.Tests.{name_conflict_is}
use Rattle.tip_sql.proofs.Raising.{realm_task}

abbrev pub named : List ℕ → Row
named realm = Text realm ∷ []

cast_realm : (id : ℤ) (realm : List ℕ) (epoch : ℤ) → cast_row realm_table (realm_row id realm epoch) ≡ realm_row id realm epoch
cast_realm id realm epoch = rw (cast_int id, cast_int epoch) refl

fresh_row : (rows : List Row) (realm : List ℕ) → with_rowid Chosen rows (cast_row realm_table (Null ∷ Text realm ∷ Int (pos 0) ∷ [])) ≡ realm_row (next_rowid rows) realm (pos 0)
fresh_row rows realm = rw (cast_null, cast_int (pos 0)) refl

not_zero : ◌≡◌ {A = ℕ} 2 0 → ⊥
not_zero e = not_two (sym e)

module _ (limit : Option ℕ) (keys : Keys) (realm : List ℕ) (db : Trees) (rows : AreRealms (db 0)) where
  abbrev new : Row
  new = realm_row (next_rowid (db 0)) realm (pos 0)

  -- none had the name
  put_in : (one : Written) → ((r : Row) → Has (db 0) r → is_named realm r ≡ false) → Puts (realm_task limit keys (named realm)) new db (Ok one)
      → Knows (db 0) (one.trees 0) realm × (one.trees 2 ≡ db 2)
  put_in one none h =
      let out = went h in
      let step = one_step log_schema keys db out.0 (edit_of db realm_table [] Given 0 (new ∷ [])) refl out.1 in
      let is : one.trees ≡ out.0 = ap (λ (w : Written). w.trees) (same_value out.2) in
      let same : cast_row realm_table new ≡ new = cast_realm (next_rowid (db 0)) realm (pos 0) in
      let now : one.trees 0 ≡ put_row new (db 0) = ap (λ (t : Trees). t 0) is ∙ step.rows ∙ ap (λ r. put_row r (db 0)) same in
      let fresh : are_fresh (db 0) (new ∷ []) ≡ true = ap (λ r. are_fresh (db 0) (r ∷ [])) (sym same) ∙ step.fresh in
      let free : is_taken (db 0) new ≡ false = not_true _ (and_parts _ _ fresh).0 in (
        inr (
          none,
          record {
            id = next_rowid (db 0);
            here = subst (λ l. Has l new) (sym now) (has_put new (db 0));
            others = λ r has. put_has new (db 0) r (subst (λ l. Has l r) now has);
            kept = λ r has. subst (λ l. Has l r) (sym now) (put_all_keeps (new ∷ []) (db 0) r fresh has);
            apart = λ r has clash.
                let taken = some_from (λ x. is_eq (value_cmp (rowid x) (rowid new))) (db 0) r has (ap (λ v. is_eq (value_cmp v (rowid new))) (sym clash) ∙ ap is_eq (value_cmp-Int (next_rowid (db 0)) (next_rowid (db 0))) ∙ int_same (next_rowid (db 0))) in
                let e : true ≡ false = sym taken ∙ free in cc;
          },
        ),
        ap (λ (t : Trees). t 2) is ∙ step.tables.1.0 not_zero,
      )

  none_there : AreConflicts (Some (1 ∷ [])) log_schema.indexes realm_table (db 0) new [] → (r : Row) → Has (db 0) r → is_named realm r ≡ false
  none_there conf r has = elim (cases_Bool (is_named realm r)) [
    | inl same ↦
        let it = rows.shaped r has in
        let clash : conflicts (Some (1 ∷ [])) log_schema.indexes realm_table new r ≡ true =
        subst (λ x. conflicts (Some (1 ∷ [])) log_schema.indexes realm_table new x ≡ true) (sym it.is)
        (name_conflict_is (next_rowid (db 0)) it.id it.name realm (pos 0) it.epoch ∙ sym (ap (λ x. is_named realm x) it.is) ∙ same) in
        absurd (conf.complete r has clash)
    | inr off ↦ off
  ]

  tried : (one : Written) → Tries (realm_task limit keys (named realm)) Abort (know_clause ∷ []) new db (Ok one) → Knows (db 0) (one.trees 0) realm × (one.trees 2 ≡ db 2)
  tried one (inl refused) = absurd (let e = refused.1 in cc)
  tried one (inr (None, fine, ([], conf, ([], conf2, met)))) = put_in one (none_there conf) met
  tried one (inr (None, fine, ([], conf, ((x ∷ more), conf2, met)))) = put_in one (none_there conf) met
  tried one (inr (None, fine, ((there ∷ found), conf, met))) =
      let s = conf.sound there (inl refl) in
      let it = rows.shaped s.0 s.1 in
      let same : bytes_eq it.name realm ≡ true =
      sym (name_conflict_is (next_rowid (db 0)) it.id it.name realm (pos 0) it.epoch) ∙ subst (λ x. conflicts (Some (1 ∷ [])) log_schema.indexes realm_table new x ≡ true) it.is s.2 in
      let trees : one.trees ≡ db = ap (λ (w : Written). w.trees) (same_value met) in
      (inl (s.0, s.1, ap (λ x. is_named realm x) it.is ∙ same, ap (λ (t : Trees). t 0) trees), ap (λ (t : Trees). t 2) trees)
  tried one (inr (Some why, bad, refused)) = absurd (let e = refused in cc)

  -- the whole statement
  known : (done : Written) → InsertsOr (realm_task limit keys (named realm)) Abort (know_clause ∷ []) (Values know_terms 3) db (Ok done) → Knows (db 0) (done.trees 0) realm × (done.trees 2 ≡ db 2)
  known done h =
      let got = went h in
      let all : got.0 ≡ (Null ∷ Text realm ∷ Int (pos 0) ∷ []) ∷ [] = got.1.1 in
      let counter = went got.2 in
      let each = went counter.2 in
      let counted = went each.2 in
      let task = realm_task limit keys (named realm) in
      let one = went (subst (λ rs. TriesEach task Abort (know_clause ∷ []) rs (count_of counter.0) (nothing db) (Ok each.0)) all each.1) in
      let it = tried one.0 (subst (λ r. Tries task Abort (know_clause ∷ []) r db (Ok one.0)) (fresh_row (db 0) realm) one.1) in
      let is : done.trees ≡ one.0.trees = ap (λ (d : Written). d.trees) (same_value counted.2) ∙ same_value counted.1 ∙ ap (λ (d : Written × ℤ). d.0.trees) (same_value one.2) in
      (subst (λ l. Knows (db 0) l realm) (sym (ap (λ (t : Trees). t 0) is)) it.0, ap (λ (t : Trees). t 2) is ∙ it.1)

-- what the command makes of a database
pub know_does : (limit : Option ℕ) (mode : Mode) (db after : Database) (tally : Tally) (sql : List ℕ) (realm : List ℕ) → db.schema ≡ log_schema → AreRealms (db.trees 0)
    → Does limit mode (named realm) db sql None know_command (Ok (tally, after)) → (after.schema ≡ log_schema) × Knows (db.trees 0) (after.trees 0) realm × (after.trees 2 ≡ db.trees 2)
know_does limit mode db after tally sql realm has rows h =
    let done = went (subst (λ s. Does limit mode (named realm) (record db { schema = s }) sql None know_command (Ok (tally, after))) has h) in
    let now = ap (λ (p : Tally × Database). p.1) (same_value (went (went done.2).2).2) in
    let ran = known limit mode.keys realm db.trees rows done.0 done.1 in
    let trees = ap (λ (d : Database). d.trees) now in
    (ap (λ (d : Database). d.schema) now, subst (λ (d : Trees). Knows (db.trees 0) (d 0) realm) (sym trees) ran.0, ap (λ (t : Trees). t 2) trees ∙ ran.1)
