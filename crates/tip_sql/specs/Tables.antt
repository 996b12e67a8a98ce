-- The two tables, as the texts that make them are understood (ours).
use Rattle.std.specs.Prelude.{codes, List, ℕ, ℤ, [], ◌∷◌, true, false, None}
use Rattle.sqlite.specs.Order.{Row}
use Rattle.sqlite.specs.declared.types.Value.TheVariants.{Null, Int, Text as Words}
use Rattle.sqlite.specs.Collation.TheVariants.{Binary}
use Rattle.sqlite.specs.Kind.{Kind}
use Rattle.sqlite.specs.Kind.TheVariants.{Integer, Text}
use Rattle.sqlite.specs.Schema.{Schema}
use Rattle.sqlite.specs.Table.{Table}
use Rattle.sqlite_schema.specs.declared.schema.Column.{Column}
use Rattle.sqlite_schema.specs.declared.schema.Index.{Index}
use Rattle.sqlite_value.specs.declared.keys.Order.{Order}

abbrev pub no_schema : Schema
no_schema = record { tables = []; indexes = []; views = [] }

-- a column of a STRICT table that may not be NULL, as those of a primary key may not
abbrev pub strict : List ℕ → Kind → Column
strict name kind = record { name = name; kind = kind; is_strict = true; not_null = true; default = Null; collation = Binary }

-- each place in the order of its octets, the least first
abbrev pub binary_order : Order
binary_order = record { digits = 0 }

-- the table of known realms: a name and an epoch
abbrev pub realm_table : Table
realm_table = record {
  name = codes "realm";
  tree = 0;
  columns = strict (codes "name") Text ∷ strict (codes "epoch") Integer ∷ [];
  key = None;
  primary = 1 ∷ [];
  uniques = (1 ∷ []) ∷ [];
  orders = binary_order ∷ [];
  checks = [];
  references = [];
  computed = [];
  stamps = record { places = []; terms = []; formats = [] };
  is_counted = false;
}

-- the table of rows: a realm, the three numbers of a key, and a text
abbrev pub txn_table : Table
txn_table = record {
  name = codes "txn";
  tree = 2;
  columns = strict (codes "realm") Text ∷ strict (codes "epoch") Integer ∷ strict (codes "conn") Integer ∷ strict (codes "num") Integer
      ∷ strict (codes "text") Text ∷ [];
  key = None;
  primary = 1 ∷ 2 ∷ 3 ∷ 4 ∷ [];
  uniques = (1 ∷ 2 ∷ 3 ∷ 4 ∷ []) ∷ [];
  orders = binary_order ∷ [];
  checks = [];
  references = [];
  computed = [];
  stamps = record { places = []; terms = []; formats = [] };
  is_counted = false;
}

-- a table with this primary key and no other rule
abbrev pub keyed : Table → List ℕ → Table
keyed table places = record {
  name = table.name;
  tree = table.tree;
  columns = table.columns;
  key = None;
  primary = places;
  uniques = places ∷ [];
  orders = binary_order ∷ [];
  checks = [];
  references = [];
  computed = [];
  stamps = record { places = []; terms = []; formats = [] };
  is_counted = false;
}

-- the index that each primary key has
abbrev pub plain_index : List ℕ → ℕ → ℕ → List ℕ → Index
plain_index name tree table places = record { name = name; tree = tree; table = table; columns = places; order = binary_order; is_unique = true }

abbrev pub realm_index : Index
realm_index = plain_index (codes "sqlite_autoindex_realm_1") 1 0 (1 ∷ [])

abbrev pub txn_index : Index
txn_index = plain_index (codes "sqlite_autoindex_txn_1") 3 2 (1 ∷ 2 ∷ 3 ∷ 4 ∷ [])

-- the first table alone, and both
abbrev pub half_schema : Schema
half_schema = record { tables = realm_table ∷ []; indexes = realm_index ∷ []; views = [] }

abbrev pub log_schema : Schema
log_schema = record { tables = realm_table ∷ txn_table ∷ []; indexes = realm_index ∷ txn_index ∷ []; views = [] }

-- a row of either table: its rowid and its columns
abbrev pub realm_row : ℤ → List ℕ → ℤ → Row
realm_row id name epoch = Int id ∷ Words name ∷ Int epoch ∷ []

abbrev pub txn_row : ℤ → List ℕ → ℤ → ℤ → ℤ → List ℕ → Row
txn_row id realm epoch conn num text = Int id ∷ Words realm ∷ Int epoch ∷ Int conn ∷ Int num ∷ Words text ∷ []
