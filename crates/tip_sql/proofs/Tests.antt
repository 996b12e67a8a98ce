-- What a comparison says of texts and numbers.
use Rattle.std.proofs.Common.{◌≡◌, ℕ, ℤ, List, [], ◌∷◌, Bool, true, false, ◌&&◌, ◌||◌, Some, refl, ap, ◌∙◌}
use Rattle.std.specs.Ordering.{is_eq, int_cmp}
use Rattle.std.specs.Str.{bytes_eq}
use Rattle.std.proofs.lemmas.Map.Text.{is_eq-slice_cmp}
use Rattle.sqlite.specs.declared.types.Value.TheVariants.{Int, Text}
use Rattle.sqlite.specs.Order.{value_cmp}
use Rattle.sqlite.specs.Collation.TheVariants.{Binary}
use Rattle.sqlite_sql.specs.declared.ops.BinaryOp.TheVariants as by
use Rattle.sqlite_sql.specs.declared.ops.CompareOp.TheVariants.{Eq}
use Rattle.sqlite.specs.Ops.{binary, is_true, from_truth}
use Rattle.sqlite_value.specs.Keys.{first_key}
use Rattle.sqlite_value.proofs.OrderLemmas.{value_cmp-Int, value_cmp-Text}
use Rattle.sqlite_rules.specs.Keys.{conflicts}
use Rattle.tip_sql.specs.Tables.{realm_row, realm_table, txn_row, txn_table, log_schema}
use Rattle.tip_sql.specs.Places.{Place, same_place}

pub truth_back : (b : Bool) → is_true (from_truth (Some b)) ≡ b
truth_back true = refl
truth_back false = refl

pub text_eq : (s t : List ℕ) → is_true (binary (by.Compare Eq Binary) (Text s) (Text t)) ≡ bytes_eq s t
unfolding binary
text_eq s t = truth_back (is_eq (value_cmp (Text s) (Text t))) ∙ ap is_eq (value_cmp-Text s t) ∙ is_eq-slice_cmp s t

pub int_eq : (m n : ℤ) → is_true (binary (by.Compare Eq Binary) (Int m) (Int n)) ≡ is_eq (int_cmp m n)
unfolding binary
int_eq m n = truth_back (is_eq (value_cmp (Int m) (Int n))) ∙ ap is_eq (value_cmp-Int m n)

pub or_none : (b : Bool) → b || false ≡ b
or_none true = refl
or_none false = refl

pub and_all : (b : Bool) → b && true ≡ b
and_all true = refl
and_all false = refl

-- the key of the table is the place
pub conflict_is : (id other : ℤ) (q p : Place) (s t : List ℕ)
    → conflicts (Some (1 ∷ 2 ∷ 3 ∷ 4 ∷ [])) log_schema.indexes txn_table (txn_row id q.0 q.1 q.2 q.3 s) (txn_row other p.0 p.1 p.2 p.3 t) ≡ same_place p q
unfolding first_key
conflict_is id other q p s t = rw (text_eq p.0 q.0, int_eq p.1 q.1, int_eq p.2 q.2, int_eq p.3 q.3, and_all, or_none) refl

pub name_conflict_is : (id other : ℤ) (name realm : List ℕ) (e f : ℤ)
    → conflicts (Some (1 ∷ [])) log_schema.indexes realm_table (realm_row id realm e) (realm_row other name f) ≡ bytes_eq name realm
unfolding first_key
name_conflict_is id other name realm e f = rw (text_eq name realm, and_all, or_none) refl
