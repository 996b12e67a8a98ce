-- A connection that is found to be ours.
use Rattle.std.proofs.Common.{◌≡◌, List, map, filter, Bool, true, false, not, Vec, Ok, IsTrue, refl, sym, ap, subst, ◌∙◌}
use Rattle.std.specs.List.Sorted.{IsPermutation}
use Rattle.std.specs.declared.alloc.Global.{Global}
use Rattle.std.specs.Bool.{OnTrue}
use Rattle.std.specs.Ordering.{is_lt, int_cmp}
use Rattle.sqlite.specs.Order.{Row}
use Rattle.sqlite.specs.Effect.{Database}
use Rattle.sqlite.specs.State.{State, IsLive}
use Rattle.sqlite_catalog.specs.Listing.{IsSound}
use Rattle.sqlite_rules.specs.Lists.{Has}
use Rattle.tip_sql.specs.Tables.{log_schema}
use Rattle.tip_sql.specs.Places.{AreRealms, AreRows, number_at, id_shown, all_rows}
use Rattle.tip_sql.specs.Reading.{rises}
use Rattle.tip_sql.specs.Standing.{log_of, ShowsIds, Checks}
use Rattle.tip_sql.proofs.Keeping.{on_true}
use Rattle.tip_sql.proofs.Shapes.{has_id, AreIds, are_ids, are_realms, are_rows}

not_in : (b : Bool) → true ≡ not b → b ≡ false
not_in true e = absurd (let clash = e in cc)
not_in false e = refl

-- rows that were read as rowids
pub ids_in : (tree rows shown : List Row) (b : Bool) → b ≡ true → shown ≡ rows → IsPermutation (map id_shown (filter all_rows tree)) rows → OnTrue b ((row : Row) → Has shown row → has_id row)
    → OnTrue b (rises (λ m n. is_lt (int_cmp m n)) (map number_at shown) ≡ true) → AreIds tree
ids_in tree rows shown b is same moved numbers rising =
    are_ids tree shown (subst (IsPermutation (map id_shown (filter all_rows tree))) (sym same) moved) (on_true b _ is numbers) (on_true b _ is rising)

pub checked : (a b c : State) (v1 v2 : Vec Row Global) (auto : Bool) → a.now.schema ≡ log_schema → IsLive a → ShowsIds 0 a b (Ok v1) → ShowsIds 2 b c (Ok v2)
    → ((tree : List Row) → IsPermutation (map id_shown (filter all_rows tree)) v1.items → AreIds tree) → ((tree : List Row) → IsPermutation (map id_shown (filter all_rows tree)) v2.items → AreIds tree)
    → auto ≡ not c.in_transaction → (IsTrue auto → IsTrue c.is_open → c.now ≡ c.committed) → Checks a c auto
checked a b c v1 v2 auto has live one two realm_ids row_ids value settled = record {
  truth = λ clean. one.truth (two.truth clean);
  ours = λ clean is.
      let first = one.shown (two.truth clean) has in
      let mid : b.now ≡ a.now = first.0.0.now_is in
      let second = two.shown clean (ap (λ (d : Database). d.schema) mid ∙ has) in
      let now : c.now ≡ a.now = second.0.0.now_is ∙ mid in
      let sound : IsSound log_schema a.now.trees = subst (λ s. IsSound s a.now.trees) has (live first.0.0.was_open).0 in
      let realms : AreRealms (a.now.trees 0) = are_realms a.now.trees sound.obeys (realm_ids (a.now.trees 0) first.1) in
      let rows : AreRows (a.now.trees 2) = are_rows a.now.trees sound.obeys (row_ids (a.now.trees 2) (subst (λ (d : Database). IsPermutation (map id_shown (filter all_rows (d.trees 2))) v2.items) mid second.1)) in (
        record {
          is_open = second.0.0.is_open;
          schema = ap (λ (d : Database). d.schema) now ∙ has;
          settled = sym (settled is second.0.0.is_open);
          autocommit = not_in c.in_transaction (sym is ∙ value);
          realms = subst (λ (d : Database). AreRealms (d.trees 0)) (sym now) realms;
          rows = subst (λ (d : Database). AreRows (d.trees 2)) (sym now) rows;
        },
        ap (λ (d : Database). log_of d.trees) now,
      );
}
