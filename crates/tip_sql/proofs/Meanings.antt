-- What each statement means for the log.
use Rattle.std.proofs.Common.{◌≡◌, inl, inr, ℕ, pos, List, [], ◌∷◌, true, Some, None, refl, sym, subst, ◌<◌, ◌^◌, arith}
use Rattle.std.proofs.lemmas.Bool.{and_parts}
use Rattle.std.proofs.lemmas.Bool.Decides.{nat_tests}
use Rattle.sqlite.specs.Order.{Row as SqlRow}
use Rattle.sqlite.specs.Tree.{Trees}
use Rattle.sqlite.specs.declared.types.Value.TheVariants.{Int}
use Rattle.sqlite.specs.State.{State, MayCommit, MayWrite}
use Rattle.sqlite_rules.specs.Lists.{Has}
use Rattle.tip_rows.specs.Keys.{Key}
use Rattle.tip_rows.specs.Logs.{with_row, without_row, with_known, with_all_raised, with_raised}
use Rattle.tip_rows.specs.declared.row.Row.{Row}
use Rattle.tip_sql.specs.Places.{AreRealms, AreRows, IsRealmRow, IsTxnRow, is_named, is_last, all_rows, name_shown, epoch_shown, row_shown, has_key, is_key_number}
use Rattle.tip_sql.specs.Standing.{place_of, row_of, IsOurs}
use Rattle.sqlite.specs.Term.{lit, col}
use Rattle.tip_sql.proofs.Texts.{is_equal}
use Rattle.tip_sql.proofs.Queries.{passes, shows}
use Rattle.tip_sql.proofs.Tests.{text_eq, int_eq, and_all}
use Rattle.tip_sql.proofs.Effects.{can_rise, one_can_rise}
use Rattle.tip_sql.proofs.Texts.{know_text, know_is, know_plain, know_command, raise_all_text, raise_all_is, raise_all_plain, raise_command, can_rise_terms, raise_one_text, raise_one_is, raise_one_plain, one_can_rise_terms, put_text, put_is, put_plain, put_command, remove_text, remove_is, remove_plain, remove_command}
use Rattle.tip_sql.proofs.Knowing.{named, know_does}
use Rattle.tip_sql.proofs.Raising.{raise_does, all_pass, one_passes}
use Rattle.tip_sql.proofs.Putting.{given, put_does}
use Rattle.tip_sql.proofs.Removing.{asked, remove_does}
use Rattle.tip_sql.proofs.RealmFacts.{known_realms, raised_realms}
use Rattle.tip_sql.proofs.RowFacts.{set_rows, cleared_rows}
use Rattle.tip_sql.proofs.LogFacts.{log_set, log_cleared, log_known, log_raised_all, log_raised}
use Rattle.tip_sql.proofs.Outcomes.{Means}

pub know_means : (realm : List ℕ) → Means know_text (named realm) know_command (with_known realm)
know_means realm = record {
  is = know_is;
  plain = know_plain;
  ran = λ old new text count w. w;
  only = λ s text db may. only s text db may;
  does = λ limit mode db after tally text has realms rows h.
      let it = know_does limit mode db after tally text realm has realms h in record {
        schema = it.0;
        realms = known_realms (db.trees 0) (after.trees 0) realm realms it.1;
        rows = subst AreRows (sym it.2) rows;
        log = log_known db.trees after.trees realms it.2 realm it.1;
      };
}
  where
    only : (s : State) (text : List ℕ) (db : Trees) → MayCommit s None know_command text (named realm) db → MayWrite s None know_command text (named realm) db
    only s text db (inl (inl never, same)) = absurd (let e = never in cc)
    only s text db (inl (inr never, same)) = absurd (let e = never.2 in cc)
    only s text db (inr it) = it

pub raise_all_means : Means raise_all_text [] (raise_command can_rise_terms) with_all_raised
raise_all_means = record {
  is = raise_all_is;
  plain = raise_all_plain;
  ran = λ old new text count w. w;
  only = λ s text db may. only s text db may;
  does = λ limit mode db after tally text has realms rows h.
      let it = raise_does can_rise_terms [] can_rise all_pass (λ r up. up) limit mode.keys db.trees realms mode db after tally text refl refl has h in record {
        schema = it.0;
        realms = raised_realms can_rise (db.trees 0) (after.trees 0) realms it.1;
        rows = subst AreRows (sym it.2) rows;
        log = log_raised_all db.trees after.trees realms it.2 it.1;
      };
}
  where
    only : (s : State) (text : List ℕ) (db : Trees) → MayCommit s None (raise_command can_rise_terms) text [] db → MayWrite s None (raise_command can_rise_terms) text [] db
    only s text db (inl (inl never, same)) = absurd (let e = never in cc)
    only s text db (inl (inr never, same)) = absurd (let e = never.2 in cc)
    only s text db (inr it) = it

pub raise_one_means : (realm : List ℕ) → Means raise_one_text (named realm) (raise_command one_can_rise_terms) (with_raised realm)
raise_one_means realm = record {
  is = raise_one_is;
  plain = raise_one_plain;
  ran = λ old new text count w. w;
  only = λ s text db may. only s text db may;
  does = λ limit mode db after tally text has realms rows h.
      let it = raise_does one_can_rise_terms (named realm) (one_can_rise realm) (one_passes realm) (λ r up. (and_parts _ _ up).1) limit mode.keys db.trees realms mode db after tally text refl refl has h in record {
        schema = it.0;
        realms = raised_realms (one_can_rise realm) (db.trees 0) (after.trees 0) realms it.1;
        rows = subst AreRows (sym it.2) rows;
        log = log_raised db.trees after.trees realms it.2 realm it.1;
      };
}
  where
    only : (s : State) (text : List ℕ) (db : Trees) → MayCommit s None (raise_command one_can_rise_terms) text (named realm) db → MayWrite s None (raise_command one_can_rise_terms) text (named realm) db
    only s text db (inl (inl never, same)) = absurd (let e = never in cc)
    only s text db (inl (inr never, same)) = absurd (let e = never.2 in cc)
    only s text db (inr it) = it

key_number : (n : ℕ) → 0 < n → n < 2 ^ 32 → is_key_number (pos n) ≡ true
key_number n low high = grind (arith, nat_tests)

-- the numbers of a key fit
pub key_fits : (realm : List ℕ) (key : Key) → 0 < key.epoch → key.epoch < 2 ^ 32 → 0 < key.connection → key.connection < 2 ^ 32 → 0 < key.number → key.number < 2 ^ 32 → has_key (place_of realm key) ≡ true
key_fits realm key a b c d e f = rw (key_number key.epoch a b, key_number key.connection c d, key_number key.number e f) refl

pub put_means : (realm : List ℕ) (key : Key) (text : List ℕ) (row : Row) → has_key (place_of realm key) ≡ true → row_of text ≡ Some row → Means put_text (given (place_of realm key) text) put_command (with_row realm key row)
put_means realm key text row fits reads = record {
  is = put_is;
  plain = put_plain;
  ran = λ old new sql count w. w;
  only = λ s sql db may. only s sql db may;
  does = λ limit mode db after tally sql has realms rows h.
      let it = put_does limit mode db after tally sql (place_of realm key) text has rows h in record {
        schema = it.0;
        realms = subst AreRealms (sym it.2) realms;
        rows = set_rows (db.trees 2) (after.trees 2) (place_of realm key) text rows it.1;
        log = log_set db.trees after.trees realm key fits rows it.2 text row reads it.1;
      };
}
  where
    only : (s : State) (sql : List ℕ) (db : Trees) → MayCommit s None put_command sql (given (place_of realm key) text) db → MayWrite s None put_command sql (given (place_of realm key) text) db
    only s sql db (inl (inl never, same)) = absurd (let e = never in cc)
    only s sql db (inl (inr never, same)) = absurd (let e = never.2 in cc)
    only s sql db (inr it) = it

pub remove_means : (realm : List ℕ) (key : Key) → has_key (place_of realm key) ≡ true → Means remove_text (asked (place_of realm key)) remove_command (without_row realm key)
remove_means realm key fits = record {
  is = remove_is;
  plain = remove_plain;
  ran = λ old new sql count w. w;
  only = λ s sql db may. only s sql db may;
  does = λ limit mode db after tally sql has realms rows h.
      let it = remove_does limit mode db after tally sql (place_of realm key) has rows h in record {
        schema = it.0;
        realms = subst AreRealms (sym it.2) realms;
        rows = cleared_rows (db.trees 2) (after.trees 2) (place_of realm key) rows it.1;
        log = log_cleared db.trees after.trees realm key fits rows it.2 it.1;
      };
}
  where
    only : (s : State) (sql : List ℕ) (db : Trees) → MayCommit s None remove_command sql (asked (place_of realm key)) db → MayWrite s None remove_command sql (asked (place_of realm key)) db
    only s sql db (inl (inl never, same)) = absurd (let e = never in cc)
    only s sql db (inl (inr never, same)) = absurd (let e = never.2 in cc)
    only s sql db (inr it) = it

-- ---- what the queries test and show

last_passes : (r : SqlRow) → IsRealmRow r → passes (is_equal 2 (lit (Int (pos 4294967295))) ∷ []) [] r ≡ is_last r
last_passes r it = subst (λ x. passes (is_equal 2 (lit (Int (pos 4294967295))) ∷ []) [] x ≡ is_last x) (sym it.is) (rw (int_eq it.epoch (pos 4294967295), and_all) refl)

pub ends_agree : (s : State) → IsOurs s → (r : SqlRow) → Has (s.now.trees 0) r → (passes (is_equal 2 (lit (Int (pos 4294967295))) ∷ []) [] r ≡ is_last r) × (shows (col 1 1 ∷ []) [] r ≡ name_shown r)
ends_agree s was r has = (last_passes r (was.realms.shaped r has), refl)

name_passes : (realm : List ℕ) (r : SqlRow) → IsRealmRow r → passes (is_equal 1 (col 0 0) ∷ []) (named realm) r ≡ is_named realm r
name_passes realm r it = subst (λ x. passes (is_equal 1 (col 0 0) ∷ []) (named realm) x ≡ is_named realm x) (sym it.is) (rw (text_eq it.name realm, and_all) refl)

pub epoch_agrees : (realm : List ℕ) (s : State) → IsOurs s → (r : SqlRow) → Has (s.now.trees 0) r → (passes (is_equal 1 (col 0 0) ∷ []) (named realm) r ≡ is_named realm r) × (shows (col 1 2 ∷ []) (named realm) r ≡ epoch_shown r)
epoch_agrees realm s was r has = (name_passes realm r (was.realms.shaped r has), refl)

realm_passes : (realm : List ℕ) (r : SqlRow) → IsTxnRow r → passes (is_equal 1 (col 0 0) ∷ []) (named realm) r ≡ is_named realm r
realm_passes realm r it = subst (λ x. passes (is_equal 1 (col 0 0) ∷ []) (named realm) x ≡ is_named realm x) (sym it.is) (rw (text_eq it.place.0 realm, and_all) refl)

pub rows_agree : (realm : List ℕ) (s : State) → IsOurs s → (r : SqlRow) → Has (s.now.trees 2) r
    → (passes (is_equal 1 (col 0 0) ∷ []) (named realm) r ≡ is_named realm r) × (shows (col 1 2 ∷ col 1 3 ∷ col 1 4 ∷ col 1 5 ∷ []) (named realm) r ≡ row_shown r)
rows_agree realm s was r has = (realm_passes realm r (was.rows.shaped r has), refl)

pub names_agree : (s : State) → IsOurs s → (r : SqlRow) → Has (s.now.trees 0) r → (passes [] [] r ≡ all_rows r) × (shows (col 1 1 ∷ []) [] r ≡ name_shown r)
names_agree s was r has = (refl, refl)
