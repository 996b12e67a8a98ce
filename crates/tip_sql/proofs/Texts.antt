-- What the texts mean, where the database has the two tables.
use Rattle.std.proofs.Common.{◌≡◌, ℕ, codes, refl, List, [], ◌∷◌, false, None, Some, pos, negsuc}
use Rattle.sqlite_tied.specs.Compute.{everything}
use Rattle.sqlite.specs.Listing.{understood, reads_listing}
use Rattle.sqlite.specs.Term.{Term, lit, col, op2}
use Rattle.sqlite_sql.specs.declared.ops.BinaryOp.TheVariants as by
use Rattle.sqlite_sql.specs.declared.ops.CompareOp.TheVariants.{Eq, Lt, Ge}
use Rattle.sqlite_sql.specs.declared.ops.ArithOp.TheVariants.{Add}
use Rattle.sqlite.specs.Collation.TheVariants.{Binary}
use Rattle.sqlite_value.specs.Keys.{ascending}
use Rattle.sqlite_value.specs.declared.keys.Key.{Key}
use Rattle.sqlite.specs.Query.{Query, inner, end}
use Rattle.sqlite_schema.specs.declared.command.Upsert.{Upsert}
use Rattle.sqlite.specs.declared.types.Value.TheVariants.{Null, Int}
use Rattle.sqlite.specs.Source.TheVariants.{Values}
use Rattle.sqlite_schema.specs.declared.command.Conflict.TheVariants.{Abort}
use Rattle.sqlite.specs.Command.{Command}
use Rattle.sqlite.specs.Command.TheVariants.{InsertOr, Select, Update, Delete}
use Rattle.sqlite.proofs.Callers.{IsPlain, command_of}
use Rattle.tip_sql.specs.Tables.{log_schema}

abbrev pub know_text : List ℕ
know_text = codes "INSERT INTO realm (name, epoch) VALUES (?1, 0) ON CONFLICT (name) DO NOTHING"

abbrev pub raise_all_text : List ℕ
raise_all_text = codes "UPDATE realm SET epoch = epoch + 1 WHERE epoch >= 0 AND epoch < 4294967295"

abbrev pub raise_one_text : List ℕ
raise_one_text = codes "UPDATE realm SET epoch = epoch + 1 WHERE name = ?1 AND epoch >= 0 AND epoch < 4294967295"

abbrev pub put_text : List ℕ
put_text = codes "INSERT INTO txn (realm, epoch, conn, num, text) VALUES (?1, ?2, ?3, ?4, ?5) ON CONFLICT (realm, epoch, conn, num) DO UPDATE SET text = ?5"

abbrev pub remove_text : List ℕ
remove_text = codes "DELETE FROM txn WHERE realm = ?1 AND epoch = ?2 AND conn = ?3 AND num = ?4"

abbrev pub ends_text : List ℕ
ends_text = codes "SELECT name FROM realm WHERE epoch = 4294967295"

abbrev pub epoch_text : List ℕ
epoch_text = codes "SELECT epoch FROM realm WHERE name = ?1"

abbrev pub rows_text : List ℕ
rows_text = codes "SELECT epoch, conn, num, text FROM txn WHERE realm = ?1 ORDER BY epoch, conn, num"

abbrev pub names_text : List ℕ
names_text = codes "SELECT name FROM realm ORDER BY name"

abbrev pub realm_ids_text : List ℕ
realm_ids_text = codes "SELECT rowid FROM realm ORDER BY rowid"

abbrev pub txn_ids_text : List ℕ
txn_ids_text = codes "SELECT rowid FROM txn ORDER BY rowid"

-- a query over one table, with no LIMIT
abbrev pub plain_query : ℕ → List Term → List Term → List (Term × Key) → Query
plain_query t filter shown order = record {
  from = inner t end;
  filter = filter;
  group = None;
  project = shown;
  distinct = false;
  collations = [];
  order = order;
  limit = lit (Int (negsuc 0));
  offset = lit (Int (pos 0));
}

abbrev pub is_equal : ℕ → Term → Term
is_equal place value = op2 (by.Compare Eq Binary) (col 1 place) value

abbrev pub by_place : ℕ → Term × Key
by_place place = (col 1 place, ascending Binary)

-- ---- changes

abbrev pub know_terms : List Term
know_terms = lit Null ∷ col 0 0 ∷ lit (Int (pos 0)) ∷ []

abbrev pub know_clause : Upsert
know_clause = record { target = Some (1 ∷ []); update = None }

abbrev pub know_command : Command
know_command = InsertOr 0 Abort (Values know_terms 3) (know_clause ∷ [])

pub know_is : command_of (understood log_schema know_text) ≡ know_command
unfolding understood everything
know_is = refl

pub know_plain : IsPlain (understood log_schema know_text)
unfolding understood everything
know_plain = (refl, refl)

abbrev pub raise_shown : List Term
raise_shown = col 1 0 ∷ col 1 0 ∷ col 1 1 ∷ op2 (by.Arith Add) (col 1 2) (lit (Int (pos 1))) ∷ []

abbrev pub can_rise_terms : List Term
can_rise_terms = op2 (by.Compare Ge Binary) (col 1 2) (lit (Int (pos 0))) ∷ op2 (by.Compare Lt Binary) (col 1 2) (lit (Int (pos 4294967295))) ∷ []

abbrev pub raise_query : List Term → Query
raise_query filter = plain_query 0 filter raise_shown []

abbrev pub raise_command : List Term → Command
raise_command filter = Update 0 (record { lets = []; body = raise_query filter })

pub raise_all_is : command_of (understood log_schema raise_all_text) ≡ raise_command can_rise_terms
unfolding understood everything
raise_all_is = refl

pub raise_all_plain : IsPlain (understood log_schema raise_all_text)
unfolding understood everything
raise_all_plain = (refl, refl)

abbrev pub one_can_rise_terms : List Term
one_can_rise_terms = is_equal 1 (col 0 0) ∷ can_rise_terms

pub raise_one_is : command_of (understood log_schema raise_one_text) ≡ raise_command one_can_rise_terms
unfolding understood everything
raise_one_is = refl

pub raise_one_plain : IsPlain (understood log_schema raise_one_text)
unfolding understood everything
raise_one_plain = (refl, refl)

abbrev pub put_terms : List Term
put_terms = lit Null ∷ col 0 0 ∷ col 0 1 ∷ col 0 2 ∷ col 0 3 ∷ col 0 4 ∷ []

abbrev pub reset_query_filter : List Term
reset_query_filter = is_equal 0 (col 0 5) ∷ []

abbrev pub reset_query_shown : List Term
reset_query_shown = col 1 0 ∷ col 1 0 ∷ col 1 1 ∷ col 1 2 ∷ col 1 3 ∷ col 1 4 ∷ col 0 4 ∷ []

abbrev pub reset_query : Query
reset_query = plain_query 2 reset_query_filter reset_query_shown []

abbrev pub put_clause : Upsert
put_clause = record { target = Some (1 ∷ 2 ∷ 3 ∷ 4 ∷ []); update = Some (record { lets = []; body = reset_query }) }

abbrev pub put_command : Command
put_command = InsertOr 1 Abort (Values put_terms 6) (put_clause ∷ [])

pub put_is : command_of (understood log_schema put_text) ≡ put_command
unfolding understood everything
put_is = refl

pub put_plain : IsPlain (understood log_schema put_text)
unfolding understood everything
put_plain = (refl, refl)

abbrev pub remove_query_filter : List Term
remove_query_filter = is_equal 1 (col 0 0) ∷ is_equal 2 (col 0 1) ∷ is_equal 3 (col 0 2) ∷ is_equal 4 (col 0 3) ∷ []

abbrev pub remove_query_shown : List Term
remove_query_shown = col 1 0 ∷ []

abbrev pub remove_query : Query
remove_query = plain_query 2 remove_query_filter remove_query_shown []

abbrev pub remove_command : Command
remove_command = Delete 1 (record { lets = []; body = remove_query })

pub remove_is : command_of (understood log_schema remove_text) ≡ remove_command
unfolding understood everything
remove_is = refl

pub remove_plain : IsPlain (understood log_schema remove_text)
unfolding understood everything
remove_plain = (refl, refl)

-- ---- queries

-- the text is this query over one table, which shows columns of these names
pub record Queries (sql : List ℕ) (tree : ℕ) (filter shown : List Term) (order : List (Term × Key)) (names : List (List ℕ)) : Type 0 where
  pub is : command_of (understood log_schema sql) ≡ Select (record { lets = []; body = plain_query tree filter shown order }) names
  pub plain : IsPlain (understood log_schema sql)
  pub unlisted : reads_listing log_schema sql ≡ false

pub ends_are : Queries ends_text 0 (is_equal 2 (lit (Int (pos 4294967295))) ∷ []) (col 1 1 ∷ []) [] (codes "name" ∷ [])
unfolding understood everything
ends_are = record { is = refl; plain = (refl, refl); unlisted = refl }

pub epoch_is : Queries epoch_text 0 (is_equal 1 (col 0 0) ∷ []) (col 1 2 ∷ []) [] (codes "epoch" ∷ [])
unfolding understood everything
epoch_is = record { is = refl; plain = (refl, refl); unlisted = refl }

pub rows_are : Queries rows_text 2 (is_equal 1 (col 0 0) ∷ []) (col 1 2 ∷ col 1 3 ∷ col 1 4 ∷ col 1 5 ∷ []) (by_place 2 ∷ by_place 3 ∷ by_place 4 ∷ [])
    (codes "epoch" ∷ codes "conn" ∷ codes "num" ∷ codes "text" ∷ [])
unfolding understood everything
rows_are = record { is = refl; plain = (refl, refl); unlisted = refl }

pub names_are : Queries names_text 0 [] (col 1 1 ∷ []) (by_place 1 ∷ []) (codes "name" ∷ [])
unfolding understood everything
names_are = record { is = refl; plain = (refl, refl); unlisted = refl }

pub realm_ids_are : Queries realm_ids_text 0 [] (col 1 0 ∷ []) (by_place 0 ∷ []) (codes "rowid" ∷ [])
unfolding understood everything
realm_ids_are = record { is = refl; plain = (refl, refl); unlisted = refl }

pub txn_ids_are : Queries txn_ids_text 2 [] (col 1 0 ∷ []) (by_place 0 ∷ []) (codes "rowid" ∷ [])
unfolding understood everything
txn_ids_are = record { is = refl; plain = (refl, refl); unlisted = refl }
