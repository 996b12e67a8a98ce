-- What queries read of the log.
use Rattle.std.proofs.Common.{◌≡◌, ◌⊎◌, inl, inr, ℕ, List, [], ◌∷◌, map, filter, Bool, true, false, ◌↔◌, Some, None, Vec, Result, Ok, Err, IfOk, IsTrue, refl, sym, ap, subst, ◌∙◌}
use Rattle.std.specs.List.Sorted.{IsPermutation}
use Rattle.std.specs.declared.alloc.Global.{Global}
use Rattle.sqlite.specs.Order.{Row as SqlRow}
use Rattle.sqlite.specs.State.{State, HasCleanDisk}
use Rattle.sqlite.specs.declared.error.Error.{Error}
use Rattle.sqlite_rules.specs.Lists.{Has}
use Rattle.tip_rows.specs.Keys.{Key}
use Rattle.tip_rows.specs.Logs.{Log, is_rising, IsPart, IsSpoiled}
use Rattle.tip_rows.specs.declared.row.Row.{Row}
use Rattle.tip_rows.specs.declared.log.LoadFault.{LoadFault}
use Rattle.tip_rows.specs.declared.log.LoadFault.TheVariants.{Refused, BadRow}
use Rattle.tip_sql.specs.Places.{is_named, epoch_shown, row_shown}
use Rattle.tip_sql.specs.Reading.{epoch_in, entry_in}
use Rattle.tip_sql.specs.Standing.{log_of, IsOurs, IsLeft, Shows}
use Rattle.tip_sql.specs.Sql.{Looks}
use Rattle.tip_rows.specs.Logs.{AreNames, HasBadName, are_rising_names, last_epoch}
use Rattle.tip_rows.specs.declared.log.Loaded.{Loaded}
use Rattle.tip_line.specs.declared.realm.Realm.{Realm}
use Rattle.tip_sql.specs.Places.{all_rows, is_last, name_shown}
use Rattle.tip_sql.specs.Reading.{realm_in, has_some}
use Rattle.tip_sql.specs.Sql.{IsEnded}
use Rattle.tip_sql.proofs.Loading.{epoch_read, epoch_bad, ends_read, ends_shown, spoiled, same_rows, no_strays, all_readable}
use Rattle.tip_sql.proofs.Naming.{bad_name, known_names, no_bad_name, one_ends, none_ends}

-- the rows that a query showed
abbrev IsShown : ℕ → (SqlRow → Bool) → (SqlRow → SqlRow) → State → List SqlRow → Type 0
IsShown tree test f s rows = IsPermutation (map f (filter test (s.now.trees tree))) rows

module _ {T : Type 0} (Good : Log → T → Type 0) (Bad : Log → Type 0) (tree : ℕ) (test : SqlRow → Bool) (f : SqlRow → SqlRow) (old new : State) where
  -- a query that fails is a refusal
  pub refused_look : (r : Result (Vec SqlRow Global) Error) → Shows tree test f old new r → Looks Good Bad old new (Err Refused)
  refused_look r shows = record {
    truth = shows.truth;
    good = λ clean was. tt;
    bad = λ clean was bad. absurd (let clash = bad in cc);
    same = shows.same;
    opens = λ clean was refused. absurd (let clash = refused in cc);
    leaves = shows.leaves;
  }

  pub read_look : (rows : Vec SqlRow Global) (r : Result T LoadFault) → Shows tree test f old new (Ok rows)
      → (IsOurs old → IsShown tree test f old rows.items → IfOk r (Good (log_of old.now.trees)) × (r ≡ Err BadRow → Bad (log_of old.now.trees))) → Looks Good Bad old new r
  read_look rows r shows reads = record {
    truth = shows.truth;
    good = λ clean was. (reads was (shows.shown clean was)).0;
    bad = λ clean was. (reads was (shows.shown clean was)).1;
    same = shows.same;
    opens = λ clean was _. shows.opens clean was;
    leaves = shows.leaves;
  }

module _ {T : Type 0} (Good : Log → T → Type 0) (Bad : Log → Type 0) (first second : ℕ) (test test2 : SqlRow → Bool) (f f2 : SqlRow → SqlRow) (a b c : State) (rows : Vec SqlRow Global)
    (one : Shows first test f a b (Ok rows)) where
  -- the connection between two queries
  between : HasCleanDisk b → IsOurs a → IsLeft b (log_of a.now.trees)
  between clean was = one.same clean was (one.opens clean was)

  pub refused_second : (r : Result (Vec SqlRow Global) Error) → Shows second test2 f2 b c r → Looks Good Bad a c (Err Refused)
  refused_second r two = record {
    truth = λ clean. one.truth (two.truth clean);
    good = λ clean was. tt;
    bad = λ clean was bad. absurd (let clash = bad in cc);
    same = λ clean was opens. let mid = between (two.truth clean) was in let end = two.same clean mid.0 opens in (end.0, end.1 ∙ mid.1);
    opens = λ clean was refused. absurd (let clash = refused in cc);
    leaves = λ clean was left may. one.leaves (two.truth clean) was left (two.leaves clean (between (two.truth clean) was).0 left may);
  }

  pub read_both : (rows2 : Vec SqlRow Global) (r : Result T LoadFault) → Shows second test2 f2 b c (Ok rows2)
      → (IsOurs a → IsOurs b → log_of b.now.trees ≡ log_of a.now.trees → IsShown first test f a rows.items → IsShown second test2 f2 b rows2.items → IfOk r (Good (log_of a.now.trees)) × (r ≡ Err BadRow → Bad (log_of a.now.trees)))
      → Looks Good Bad a c r
  read_both rows2 r two reads = record {
    truth = λ clean. one.truth (two.truth clean);
    good = λ clean was. (all clean was).0;
    bad = λ clean was. (all clean was).1;
    same = λ clean was opens. let mid = between (two.truth clean) was in let end = two.same clean mid.0 opens in (end.0, end.1 ∙ mid.1);
    opens = λ clean was _. two.opens clean (between (two.truth clean) was).0;
    leaves = λ clean was left may. one.leaves (two.truth clean) was left (two.leaves clean (between (two.truth clean) was).0 left may);
  }
    where
      all : HasCleanDisk c → IsOurs a → IfOk r (Good (log_of a.now.trees)) × (r ≡ Err BadRow → Bad (log_of a.now.trees))
      all clean was = let mid = between (two.truth clean) was in reads was mid.0 mid.1 (one.shown (two.truth clean) was) (two.shown clean mid.0)

-- ---- a load

module _ (realm : List ℕ) (a b : State) (epochs rows : List SqlRow) (was : IsOurs a) (mid : IsOurs b) (same : log_of b.now.trees ≡ log_of a.now.trees)
    (first : IsShown 0 (is_named realm) epoch_shown a epochs) (second : IsShown 2 (is_named realm) row_shown b rows) where
  pub part_read : (number : ℕ) (entries : List (Key × Row)) → epoch_in epochs ≡ Some number → map Some entries ≡ map entry_in rows → is_rising entries ≡ true → IsPart (log_of a.now.trees) realm number entries
  part_read number entries reads read rising =
      let e = epoch_read (a.now.trees 0) epochs realm was.realms first number reads in record {
        epoch = e.0;
        rising = rising;
        same = λ key. same_rows (b.now.trees 2) rows realm mid.rows second entries read key ∙ ap (λ (l : Log). l.rows realm key) same;
        sound = λ spoiled. elim spoiled [
          | inl bad ↦ let z = e.1 bad.0 bad.1 in bad.2 number z.1 z.0
          | inr others ↦ elim others [
            | inl strays ↦ no_strays (b.now.trees 2) rows realm mid.rows second entries read (ap (λ (l : Log). l.strays realm) same ∙ strays)
            | inr none ↦ all_readable (b.now.trees 2) rows realm mid.rows second entries read none.0 (ap (λ (l : Log). l.unreadable realm none.0) same ∙ none.1)
          ]
        ];
      }

  pub part_bad : (epoch_in epochs ≡ None) ⊎ ((row : SqlRow) × Has rows row × (entry_in row ≡ None)) → IsSpoiled (log_of a.now.trees) realm
  part_bad (inl none) = inl (epoch_bad (a.now.trees 0) epochs realm was.realms first none)
  part_bad (inr bad) = subst (λ (l : Log). IsSpoiled l realm) same (spoiled (b.now.trees 2) rows realm mid.rows second ((log_of b.now.trees).epochs realm) bad.0 bad.1 bad.2)

-- three facts of an answer make one
all_three : {T : Type 0} (P Q R G : T → Type 0) (r : Result T LoadFault) → ((x : T) → P x → Q x → R x → G x) → IfOk r P → IfOk r Q → IfOk r R → IfOk r G
all_three P Q R G (Ok x) make p q s = make x p q s
all_three P Q R G (Err e) make p q s = tt

pub part_look : (realm : List ℕ) (a b c : State) (v1 v2 : Vec SqlRow Global) (epochs rows : List SqlRow) (r : Result (Loaded Global) LoadFault) → Shows 0 (is_named realm) epoch_shown a b (Ok v1) → Shows 2 (is_named realm) row_shown b c (Ok v2)
    → epochs ≡ v1.items → rows ≡ v2.items → IfOk r (λ l. epoch_in epochs ≡ Some l.epoch) → IfOk r (λ l. map Some l.rows.items ≡ map entry_in rows) → IfOk r (λ l. is_rising l.rows.items ≡ true)
    → (r ≡ Err BadRow → (epoch_in epochs ≡ None) ⊎ ((row : SqlRow) × Has rows row × (entry_in row ≡ None)))
    → Looks (λ log l. IsPart log realm l.epoch l.rows.items) (λ log. IsSpoiled log realm) a c r
part_look realm a b c v1 v2 epochs rows r one two epochs_are rows_are reads read rising bad =
    read_both (λ log l. IsPart log realm l.epoch l.rows.items) (λ log. IsSpoiled log realm) 0 2 (is_named realm) (is_named realm) epoch_shown row_shown a b c v1 one v2 r two (λ was mid same first second.
    let first2 = subst (IsShown 0 (is_named realm) epoch_shown a) (sym epochs_are) first in
    let second2 = subst (IsShown 2 (is_named realm) row_shown b) (sym rows_are) second in (
      all_three (λ l. epoch_in epochs ≡ Some l.epoch) (λ l. map Some l.rows.items ≡ map entry_in rows) (λ l. is_rising l.rows.items ≡ true) (λ l. IsPart (log_of a.now.trees) realm l.epoch l.rows.items) r
          (λ l p q s. part_read realm a b epochs rows was mid same first2 second2 l.epoch l.rows.items p q s) reads read rising,
      λ is. part_bad realm a b epochs rows was mid same first2 second2 (bad is),
    ))

pub names_look : (a b : State) (v : Vec SqlRow Global) (rows : List SqlRow) (r : Result (Vec Realm Global) LoadFault) → Shows 0 all_rows name_shown a b (Ok v) → rows ≡ v.items
    → IfOk r (λ names. map Some names.items ≡ map realm_in rows) → IfOk r (λ names. are_rising_names names.items ≡ true) → (r ≡ Err BadRow → (row : SqlRow) × Has rows row × (realm_in row ≡ None))
    → Looks (λ log names. AreNames log names.items) HasBadName a b r
names_look a b v rows r shows rows_are read rising bad =
    read_look (λ log names. AreNames log names.items) HasBadName 0 all_rows name_shown a b v r shows (λ was shown.
    let shown2 = subst (IsShown 0 all_rows name_shown a) (sym rows_are) shown in
    let tree = a.now.trees 0 in (
      all_three (λ names. map Some names.items ≡ map realm_in rows) (λ names. are_rising_names names.items ≡ true) (λ names. Unit {0}) (λ names. AreNames (log_of a.now.trees) names.items) r
          (λ names p q s. record { rising = q; known = known_names tree rows was.realms shown2 names.items p; sound = λ h. no_bad_name tree rows was.realms shown2 names.items p h.0 h.1 h.2 }) read rising (nothing r),
      λ is. let x = bad is in bad_name tree rows was.realms shown2 x.0 x.1 x.2,
    ))
  where
    nothing : (r : Result (Vec Realm Global) LoadFault) → IfOk r (λ names. Unit {0})
    nothing (Ok names) = tt
    nothing (Err e) = tt

pub one_look : (a b : State) (v : Vec SqlRow Global) (rows : List SqlRow) (some : Bool) → Shows 0 is_last name_shown a b (Ok v) → rows ≡ v.items → some ≡ has_some rows → Looks (λ log. IsEnded None log) (λ log. ⊥) a b (Ok some)
one_look a b v rows some shows rows_are is =
    read_look (λ log. IsEnded None log) (λ log. ⊥) 0 is_last name_shown a b v (Ok some) shows (λ was shown. (ended was (subst (IsShown 0 is_last name_shown a) (sym rows_are) shown) rows refl, λ bad. let clash = bad in cc))
  where
    ended : IsOurs a → IsShown 0 is_last name_shown a rows → (xs : List SqlRow) → rows ≡ xs → IsEnded None (log_of a.now.trees) some
    ended was shown [] xs_are = let e : some ≡ false = is ∙ ap has_some xs_are in rw e (none_ends (a.now.trees 0) rows was.realms shown xs_are)
    ended was shown (x ∷ more) xs_are = let e : some ≡ true = is ∙ ap has_some xs_are in rw e (one_ends (a.now.trees 0) rows was.realms shown x more xs_are)

pub realm_look : (realm : List ℕ) (a b : State) (v : Vec SqlRow Global) (rows : List SqlRow) (is_end : Bool) → Shows 0 (is_named realm) epoch_shown a b (Ok v) → rows ≡ v.items → IsTrue is_end ↔ (epoch_in rows ≡ Some last_epoch)
    → Looks (λ log. IsEnded (Some realm) log) (λ log. ⊥) a b (Ok is_end)
realm_look realm a b v rows is_end shows rows_are tells =
    read_look (λ log. IsEnded (Some realm) log) (λ log. ⊥) 0 (is_named realm) epoch_shown a b v (Ok is_end) shows (λ was shown.
    (ended was (subst (IsShown 0 (is_named realm) epoch_shown a) (sym rows_are) shown) is_end refl, λ bad. let clash = bad in cc))
  where
    ended : IsOurs a → IsShown 0 (is_named realm) epoch_shown a rows → (b : Bool) → is_end ≡ b → IsEnded (Some realm) (log_of a.now.trees) b
    ended was shown true is = ends_read (a.now.trees 0) rows realm was.realms shown (tells.0 is)
    ended was shown false is = λ ends. let some : is_end ≡ true = tells.1 (ends_shown (a.now.trees 0) rows realm was.realms shown ends) in let clash : true ≡ false = sym some ∙ is in cc
