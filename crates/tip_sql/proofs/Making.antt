-- The two tables, made in a database that lacks them.
use Rattle.std.proofs.Common.{◌≡◌, ℕ, List, [], false, if◌then◌else◌, ◌==◌, None, Ok, Err, Result, OnOk, codes, refl, sym, ap, subst, ◌∙◌}
use Rattle.std.specs.Prelude.{option_and_then}
use Rattle.std.specs.List.{list_any}
use Rattle.sqlite.specs.Table.{Table}
use Rattle.sqlite.specs.Schema.{Schema}
use Rattle.sqlite.specs.Command.TheVariants.{CreateTable}
use Rattle.sqlite.specs.Compile.{table_defined_by}
use Rattle.sqlite.specs.Change.{created, next_tree, KeepsRows}
use Rattle.sqlite.specs.Does.{Tally, lacks_sequence}
use Rattle.sqlite.specs.declared.error.Error.{Error}
use Rattle.sqlite.specs.Listing.{understood}
use Rattle.sqlite.specs.Effect.{Database}
use Rattle.sqlite.specs.State.{State, HasCleanDisk, Writes, Executes, Survives, CommitsBy}
use Rattle.sqlite_tied.specs.Compute.{everything}
use Rattle.sqlite.proofs.Callers.{IsPlain, command_of, statement_of, runs_as}
use Rattle.tip_sql.specs.Tables.{no_schema, half_schema, log_schema, realm_table, txn_table}
use Rattle.tip_sql.specs.Places.{epoch_at, text_at, is_stray}
use Rattle.tip_sql.specs.Standing.{place_of, row_of, is_no_row, log_of, trees_in, found_in, Takes}
use Rattle.tip_sql.proofs.Steps.{went, same_value}
use Rattle.tip_sql.proofs.Outcomes.{was_clean}

abbrev pub realm_text : List ℕ
realm_text = codes "CREATE TABLE realm (name TEXT PRIMARY KEY, epoch INTEGER NOT NULL) STRICT"

abbrev pub txn_text : List ℕ
txn_text = codes "CREATE TABLE txn (realm TEXT, epoch INTEGER, conn INTEGER, num INTEGER, text TEXT NOT NULL, PRIMARY KEY (realm, epoch, conn, num)) STRICT"

realm_is : (command_of (understood no_schema realm_text) ≡ CreateTable) × (statement_of realm_text (understood no_schema realm_text) ≡ realm_text) × (table_defined_by realm_text ≡ Ok realm_table)
unfolding understood everything
realm_is = (refl, refl, refl)

txn_is : (command_of (understood half_schema txn_text) ≡ CreateTable) × (statement_of txn_text (understood half_schema txn_text) ≡ txn_text) × (table_defined_by txn_text ≡ Ok (record txn_table { tree = 0 }))
unfolding understood everything
txn_is = (refl, refl, refl)

realm_plain : IsPlain (understood no_schema realm_text)
unfolding understood everything
realm_plain = (refl, refl)

txn_plain : IsPlain (understood half_schema txn_text)
unfolding understood everything
txn_plain = (refl, refl)

module _ (text : List ℕ) (schema : Schema) (table : Table) (is : command_of (understood schema text) ≡ CreateTable) (same_text : statement_of text (understood schema text) ≡ text) (defined : table_defined_by text ≡ Ok table)
    (plain : IsPlain (understood schema text)) (unsequenced : lacks_sequence (created schema table) ≡ false) where
  makes : (old new : State) (count : ℕ) → old.now.schema ≡ schema → Executes text [] old new (Ok count)
      → (new.now.schema ≡ created schema table) × (new.now.trees (next_tree schema) ≡ []) × KeepsRows schema.tables old.now.trees new.now.trees
  makes old new count has h =
      let w = subst (λ t. Writes old new None CreateTable t [] count) same_text (runs_as text [] old new schema has CreateTable is plain count h) in
      let all = went w.changed in
      let first = went all.1 in
      let made = first.1 in
      let both : Ok made.table ≡ Ok table = sym made.defined ∙ defined in
      let same : made.table ≡ table = cc in
      let schema_is : first.0.schema ≡ created schema table = made.is ∙ ap (λ s. created s made.table) has ∙ ap (created schema) same in
      let none : lacks_sequence first.0.schema ≡ false = ap lacks_sequence schema_is ∙ unsequenced in
      let now : new.now ≡ first.0 = ap (λ (p : Tally × Database). p.1) (same_value all.2) ∙ same_value (rw none at first.2) in (
        ap (λ (d : Database). d.schema) now ∙ schema_is,
        ap (λ (d : Database). d.trees (next_tree schema)) now ∙ subst (λ s. first.0.trees (next_tree s) ≡ []) has made.empty,
        subst (λ (d : Database). KeepsRows schema.tables old.now.trees d.trees) (sym now) (subst (λ (s : Schema). KeepsRows s.tables old.now.trees first.0.trees) has made.others),
      )

half_is : created no_schema realm_table ≡ half_schema
unfolding everything
half_is = refl

whole_is : created half_schema (record txn_table { tree = 0 }) ≡ log_schema
unfolding everything
whole_is = refl

-- the log is found in these two trees
found_same : (a b : Database) → trees_in a 0 ≡ trees_in b 0 → trees_in a 2 ≡ trees_in b 2 → found_in a ≡ found_in b
found_same a b realms rows = λ i. record {
  epochs = epoch_at (realms i);
  rows = λ r k. option_and_then row_of (text_at (rows i) (place_of r k));
  unreadable = λ r k. is_no_row (text_at (rows i) (place_of r k));
  strays = λ r. list_any (is_stray r) (rows i);
}

-- the trees that are there, where the schema is known
trees_with : (db : Database) (schema : Schema) (t : ℕ) → db.schema ≡ schema → trees_in db t ≡ (if list_any (λ (table : Table). table.tree == t) schema.tables then db.trees t else [])
trees_with db schema t is = ap (λ (s : Schema). if list_any (λ (table : Table). table.tree == t) s.tables then db.trees t else []) is

pub realms_made : (old new : State) (r : Result ℕ Error) → old.now.schema ≡ no_schema → (HasCleanDisk new → Executes realm_text [] old new r) → Survives old new (CommitsBy realm_text [] old) → Takes half_schema old new r
realms_made old new r has runs survives = record { truth = was_clean old new _ survives; taken = λ clean. go r (runs clean) }
  where
    go : (r : Result ℕ Error) → Executes realm_text [] old new r → OnOk r ((new.now.schema ≡ half_schema) × (found_in new.now ≡ found_in old.now))
    go (Ok count) h =
        let it = makes realm_text no_schema realm_table realm_is.0 realm_is.1 realm_is.2 realm_plain refl old new count has h in
        let schema : new.now.schema ≡ half_schema = it.0 ∙ half_is in
        (schema, found_same new.now old.now (trees_with new.now half_schema 0 schema ∙ it.1 ∙ sym (trees_with old.now no_schema 0 has)) (trees_with new.now half_schema 2 schema ∙ sym (trees_with old.now no_schema 2 has)))
    go (Err e) h = tt

pub rows_made : (old new : State) (r : Result ℕ Error) → old.now.schema ≡ half_schema → (HasCleanDisk new → Executes txn_text [] old new r) → Survives old new (CommitsBy txn_text [] old) → Takes log_schema old new r
rows_made old new r has runs survives = record { truth = was_clean old new _ survives; taken = λ clean. go r (runs clean) }
  where
    go : (r : Result ℕ Error) → Executes txn_text [] old new r → OnOk r ((new.now.schema ≡ log_schema) × (found_in new.now ≡ found_in old.now))
    go (Ok count) h =
        let it = makes txn_text half_schema (record txn_table { tree = 0 }) txn_is.0 txn_is.1 txn_is.2 txn_plain refl old new count has h in
        let schema : new.now.schema ≡ log_schema = it.0 ∙ whole_is in
        (schema, found_same new.now old.now (trees_with new.now log_schema 0 schema ∙ it.2.0 ∙ sym (trees_with old.now half_schema 0 has)) (trees_with new.now log_schema 2 schema ∙ it.1 ∙ sym (trees_with old.now half_schema 2 has)))
    go (Err e) h = tt

-- an answer that keeps no count
pub no_count : {T U E : Type 0} (schema : Schema) (old new : State) (x : T) (u : U) → Takes {T = T} {E = E} schema old new (Ok x) → Takes {T = U} {E = E} schema old new (Ok u)
no_count schema old new x u takes = record { truth = takes.truth; taken = takes.taken }

on_both : {T E : Type 0} (r : Result T E) (P Q R : Type 0) → (P → Q → R) → OnOk r P → Q → OnOk r R
on_both (Ok x) P Q R make p q = make p q
on_both (Err e) P Q R make p q = tt

pub then_takes : {T U E F : Type 0} (first second : Schema) (a b c : State) (x : T) (r : Result U F) → Takes {T = T} {E = E} first a b (Ok x) → Takes second b c r → Takes second a c r
then_takes first second a b c x r one two = record {
  truth = λ clean. one.truth (two.truth clean);
  taken = λ clean. on_both r ((c.now.schema ≡ second) × (found_in c.now ≡ found_in b.now)) ((b.now.schema ≡ first) × (found_in b.now ≡ found_in a.now)) ((c.now.schema ≡ second) × (found_in c.now ≡ found_in a.now))
      (λ h k. (h.0, h.1 ∙ k.1)) (two.taken clean) (one.taken (two.truth clean));
}

pub already : {T E : Type 0} (s : State) (x : T) → s.now.schema ≡ log_schema → Takes {T = T} {E = E} log_schema s s (Ok x)
already s x has = record { truth = λ clean. clean; taken = λ clean. (has, refl) }

pub not_taken : {T E : Type 0} (schema : Schema) (a b : State) (e : E) → (HasCleanDisk b → HasCleanDisk a) → Takes {T = T} {E = E} schema a b (Err e)
not_taken schema a b e truth = record { truth = truth; taken = λ clean. tt }

pub found_whole : (db : Database) → db.schema ≡ log_schema → found_in db ≡ log_of db.trees
found_whole db has =
    let realms = trees_with db log_schema 0 has in
    let rows = trees_with db log_schema 2 has in
    λ i. record {
      epochs = epoch_at (realms i);
      rows = λ r k. option_and_then row_of (text_at (rows i) (place_of r k));
      unreadable = λ r k. is_no_row (text_at (rows i) (place_of r k));
      strays = λ r. list_any (is_stray r) (rows i);
    }

-- both steps, where the second is known to follow the first while the disk returned what was written
pub then_made : (a b c : State) (x : ℕ) (r : Result ℕ Error) → Takes {T = ℕ} {E = Error} half_schema a b (Ok x) → (b.now.schema ≡ half_schema → Takes log_schema b c r) → (HasCleanDisk c → HasCleanDisk b) → Takes log_schema a c r
then_made a b c x r one two truth = record {
  truth = λ clean. one.truth (truth clean);
  taken = λ clean.
      let mid = one.taken (truth clean) in
      (then_takes half_schema log_schema a b c x r one (two mid.0)).taken clean;
}
