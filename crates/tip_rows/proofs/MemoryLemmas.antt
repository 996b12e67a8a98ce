-- What changes of the rows in memory do to the log that they show.
use Rattle.std.proofs.Common.{◌≡◌, ℕ, ℤ, pos, List, [], ◌∷◌, map, Bool, true, false, ◌&&◌, if◌then◌else◌, Option, Some, None, option_map, unwrap_or, find, is_some, refl, sym, ap, ◌∙◌, arith, rules, inl, inr}
use Rattle.std.specs.List.{list_all, list_any}
use Rattle.std.specs.Str.{bytes_eq}
use Rattle.std.proofs.lemmas.Bool.{cases_Bool}
use Rattle.std.proofs.lemmas.Bool.Decides.{nat_tests}
use Rattle.std.proofs.lemmas.Slice.Eq.{bytes_eq-Decides}
use Rattle.std.specs.Ordering.{nat_cmp}
use Rattle.std.specs.declared.cmp.Ordering.TheVariants.{Equal}
use Rattle.tip_line.proofs.StopLemmas.{and_left, and_right}
use Rattle.tip_rows.specs.Logs.{Log, with_all_raised, with_raised, raised, last_epoch, IsSpent, name_before, are_rising_names, with_known, with_epoch}
use Rattle.tip_rows.specs.Logs as logs
use Rattle.tip_rows.specs.Memory.{Stored, is_named, epoch_in, due_in, log_in, IsKept, raised_known, raised_named, epoch_named, refusing_named, is_at_end}
use Rattle.tip_rows.specs.declared.memory.Known.{Known}

-- rows in memory are in their order, and stand for this log
pub record Shows (known : List Known) (rows : List Stored) (log : Log) : Type 0 where
  pub kept : IsKept known rows
  pub same : log_in known rows ≡ log

pub same_text : (xs ys : List ℕ) → bytes_eq xs ys ≡ true → xs ≡ ys
same_text xs ys h = (bytes_eq-Decides xs ys).0 h

pub bytes_eq-self : (xs : List ℕ) → bytes_eq xs xs ≡ true
bytes_eq-self xs = (bytes_eq-Decides xs xs).1 refl

pub bytes_eq-sym : (xs ys : List ℕ) → bytes_eq xs ys ≡ bytes_eq ys xs
bytes_eq-sym xs ys = elim (cases_Bool (bytes_eq xs ys)) [
  | inl same ↦ let e : xs ≡ ys = same_text xs ys same in rw e refl
  | inr other ↦ elim (cases_Bool (bytes_eq ys xs)) [
    | inl same ↦ let e : ys ≡ xs = same_text ys xs same in rw e refl
    | inr both ↦ rw (other, both) refl
  ]
]

-- rows in memory that are in their order stand for the log that is read off them
pub shows : (known : List Known) (rows : List Stored) (log : Log) → IsKept known rows → log_in known rows ≡ log → Shows known rows log
shows known rows log kept same = record { kept = kept; same = same }

-- a change of known realms that keeps their names
find-map : (change : Known → Known) → ((k : Known) → (change k).realm ≡ k.realm) → (known : List Known) (realm : List ℕ) → find (is_named realm) (map change known) ≡ option_map change (find (is_named realm) known)
find-map change keeps [] realm = refl
find-map change keeps (k ∷ known) realm = elim (cases_Bool (bytes_eq k.realm realm)) [
  | inl own ↦ rw (ap (λ (n : List ℕ). bytes_eq n realm) (keeps k) ∙ own, own) refl
  | inr other ↦ rw (ap (λ (n : List ℕ). bytes_eq n realm) (keeps k) ∙ other, other) (find-map change keeps known realm)
]

names-map : (change : Known → Known) → ((k : Known) → (change k).realm ≡ k.realm) → (known : List Known) → map (λ (k : Known). k.realm) (map change known) ≡ map (λ (k : Known). k.realm) known
names-map change keeps [] = refl
names-map change keeps (k ∷ known) = ap (λ (n : List ℕ). n ∷ map (λ (k : Known). k.realm) (map change known)) (keeps k) ∙ ap (λ (ns : List (List ℕ)). k.realm ∷ ns) (names-map change keeps known)

-- known realms that keep their names are still kept
kept-names : (known new : List Known) (rows : List Stored) → map (λ (k : Known). k.realm) new ≡ map (λ (k : Known). k.realm) known → IsKept known rows → IsKept new rows
kept-names known new rows names kept = record { names = rw names kept.names; realms = rw names kept.realms; placed = kept.placed }

refusing-realm : (realm : List ℕ) (b : Bool) (k : Known) → (refusing_named realm b k).realm ≡ k.realm
refusing-realm realm b k = elim (cases_Bool (bytes_eq k.realm realm)) [ inl own ↦ rw own refl | inr other ↦ rw other refl ]

refusing-epoch : (realm : List ℕ) (b : Bool) (k : Known) → (refusing_named realm b k).epoch ≡ k.epoch
refusing-epoch realm b k = elim (cases_Bool (bytes_eq k.realm realm)) [ inl own ↦ rw own refl | inr other ↦ rw other refl ]

raised-realm : (realm : List ℕ) (k : Known) → (raised_named realm k).realm ≡ k.realm
raised-realm realm k = elim (cases_Bool (bytes_eq k.realm realm)) [ inl own ↦ rw own refl | inr other ↦ rw other refl ]

epoch-map : (change : Known → Known) (raise : ℤ → ℤ) → ((k : Known) → (change k).realm ≡ k.realm) → ((k : Known) → pos (change k).epoch ≡ raise (pos k.epoch)) → (known : List Known) (realm : List ℕ) → epoch_in (map change known) realm ≡ option_map raise (epoch_in known realm)
epoch-map change raise keeps raises known realm = ap (option_map (λ (k : Known). pos k.epoch)) (find-map change keeps known realm) ∙ over (find (is_named realm) known) where
  over : (o : Option Known) → option_map (λ (k : Known). pos k.epoch) (option_map change o) ≡ option_map raise (option_map (λ (k : Known). pos k.epoch) o)
  over None = refl
  over (Some k) = ap (λ (z : ℤ). Some z) (raises k)

option-same : (o : Option ℤ) → option_map (λ (z : ℤ). z) o ≡ o
option-same None = refl
option-same (Some z) = refl

-- a demanded or spent refusal changes no epoch and no row
pub epoch-refusing : (realm : List ℕ) (b : Bool) (known : List Known) (r : List ℕ) → epoch_in (map (refusing_named realm b) known) r ≡ epoch_in known r
epoch-refusing realm b known r = epoch-map (refusing_named realm b) (λ z. z) (refusing-realm realm b) (λ k. ap pos (refusing-epoch realm b k)) known r ∙ option-same (epoch_in known r)

pub Shows-refusing : (realm : List ℕ) (b : Bool) (known : List Known) (rows : List Stored) (log : Log) → Shows known rows log → Shows (map (refusing_named realm b) known) rows log
Shows-refusing realm b known rows log shown =
    let names = names-map (refusing_named realm b) (refusing-realm realm b) known in
    let same : log_in (map (refusing_named realm b) known) rows ≡ log_in known rows = λ i. record (log_in known rows) { epochs = λ r. epoch-refusing realm b known r i } in
    record { kept = kept-names known (map (refusing_named realm b) known) rows names shown.kept; same = same ∙ shown.same }

-- what is due after a refusal was demanded or spent
due-own : (b : Bool) (known : List Known) (realm : List ℕ) → due_in (map (refusing_named realm b) known) realm ≡ (is_some (find (is_named realm) known) && b)
due-own b [] realm = refl
due-own b (k ∷ known) realm = elim (cases_Bool (bytes_eq k.realm realm)) [
  | inl own ↦ rw (own, own) refl
  | inr other ↦ rw (other, other) (due-own b known realm)
]

due-other : (realm : List ℕ) (b : Bool) (known : List Known) (r : List ℕ) → bytes_eq realm r ≡ false → due_in (map (refusing_named realm b) known) r ≡ due_in known r
due-other realm b [] r apart = refl
due-other realm b (k ∷ known) r apart = elim (cases_Bool (bytes_eq k.realm r)) [
  | inl own ↦
      let e : k.realm ≡ r = same_text k.realm r own in
      let not_named : bytes_eq k.realm realm ≡ false = rw e (bytes_eq-sym r realm ∙ apart) in
      rw (not_named, own) refl
  | inr other ↦ rw (ap (λ (n : List ℕ). bytes_eq n r) (refusing-realm realm b k) ∙ other, other) (due-other realm b known r apart)
]

no_and : (b : Bool) → (b && false) ≡ false
no_and true = refl
no_and false = refl

pub due-spent : (realm : List ℕ) (known : List Known) → IsSpent (due_in known) (due_in (map (refusing_named realm false) known)) realm
due-spent realm known r = elim (cases_Bool (bytes_eq realm r)) [
  | inl own ↦ let e : realm ≡ r = same_text realm r own in rw (own, e) (due-own false known r ∙ no_and (is_some (find (is_named r) known)))
  | inr other ↦ rw other (due-other realm false known r other)
]

pub undue-spent : (realm : List ℕ) (known : List Known) → due_in known realm ≡ false → IsSpent (due_in known) (due_in known) realm
undue-spent realm known none r = elim (cases_Bool (bytes_eq realm r)) [
  | inl own ↦ let e : realm ≡ r = same_text realm r own in rw own (rw (← e) none)
  | inr other ↦ rw other refl
]

and_true : (o : Option Known) → (is_some o && true) ≡ is_some (option_map (λ (k : Known). pos k.epoch) o)
and_true None = refl
and_true (Some k) = refl

pub due-demanded : (realm : List ℕ) (known : List Known) (r : List ℕ) → due_in (map (refusing_named realm true) known) r ≡ (if bytes_eq realm r then is_some (epoch_in known r) else due_in known r)
due-demanded realm known r = elim (cases_Bool (bytes_eq realm r)) [
  | inl own ↦ let e : realm ≡ r = same_text realm r own in rw (own, e) (due-own true known r ∙ and_true (find (is_named r) known))
  | inr other ↦ rw other (due-other realm true known r other)
]

-- epochs rise
due-raised : (change : Known → Known) → ((k : Known) → (change k).realm ≡ k.realm) → ((k : Known) → (change k).is_refusing ≡ k.is_refusing) → (known : List Known) (r : List ℕ) → due_in (map change known) r ≡ due_in known r
due-raised change keeps same known r = ap (λ (o : Option Known). unwrap_or (option_map (λ (k : Known). k.is_refusing) o) false) (find-map change keeps known r) ∙ over (find (is_named r) known) where
  over : (o : Option Known) → unwrap_or (option_map (λ (k : Known). k.is_refusing) (option_map change o)) false ≡ unwrap_or (option_map (λ (k : Known). k.is_refusing) o) false
  over None = refl
  over (Some k) = same k

pub due-raised_all : (known : List Known) (r : List ℕ) → due_in (map raised_known known) r ≡ due_in known r
due-raised_all known r = due-raised raised_known (λ k. refl) (λ k. refl) known r

pub Shows-raised_all : (known : List Known) (rows : List Stored) (log : Log) → Shows known rows log → Shows (map raised_known known) rows (with_all_raised log)
Shows-raised_all known rows log shown =
    let names = names-map raised_known (λ k. refl) known in
    let same : log_in (map raised_known known) rows ≡ with_all_raised (log_in known rows) = λ i. record (log_in known rows) { epochs = λ r. epoch-map raised_known raised (λ k. refl) (λ k. refl) known r i } in
    record { kept = kept-names known (map raised_known known) rows names shown.kept; same = same ∙ ap with_all_raised shown.same }

raised-refusing : (realm : List ℕ) (k : Known) → (raised_named realm k).is_refusing ≡ k.is_refusing
raised-refusing realm k = elim (cases_Bool (bytes_eq k.realm realm)) [ inl own ↦ rw own refl | inr other ↦ rw other refl ]

pub due-raised_named : (realm : List ℕ) (known : List Known) (r : List ℕ) → due_in (map (raised_named realm) known) r ≡ due_in known r
due-raised_named realm known r = due-raised (raised_named realm) (raised-realm realm) (raised-refusing realm) known r

epoch-raised_named : (realm : List ℕ) (known : List Known) (r : List ℕ) → epoch_in (map (raised_named realm) known) r ≡ (if bytes_eq realm r then option_map raised (epoch_in known r) else epoch_in known r)
epoch-raised_named realm [] r = elim (cases_Bool (bytes_eq realm r)) [ inl own ↦ rw own refl | inr other ↦ rw other refl ]
epoch-raised_named realm (k ∷ known) r = elim (cases_Bool (bytes_eq k.realm r)) [
  | inl own ↦
      let e : k.realm ≡ r = same_text k.realm r own in
      elim (cases_Bool (bytes_eq realm r)) [
        | inl mine ↦ let named : bytes_eq k.realm realm ≡ true = rw e (bytes_eq-sym r realm ∙ mine) in rw (named, own, mine) refl
        | inr not_mine ↦ let not_named : bytes_eq k.realm realm ≡ false = rw e (bytes_eq-sym r realm ∙ not_mine) in rw (not_named, own, not_mine) refl
      ]
  | inr other ↦ rw (ap (λ (n : List ℕ). bytes_eq n r) (raised-realm realm k) ∙ other, other) (epoch-raised_named realm known r)
]

pub Shows-raised_named : (realm : List ℕ) (known : List Known) (rows : List Stored) (log : Log) → Shows known rows log → Shows (map (raised_named realm) known) rows (with_raised realm log)
Shows-raised_named realm known rows log shown =
    let names = names-map (raised_named realm) (raised-realm realm) known in
    let same : log_in (map (raised_named realm) known) rows ≡ with_raised realm (log_in known rows) = λ i. record (log_in known rows) { epochs = λ r. epoch-raised_named realm known r i } in
    record { kept = kept-names known (map (raised_named realm) known) rows names shown.kept; same = same ∙ ap (with_raised realm) shown.same }

-- no epoch is at its end where none of the list is
pub none_at_end : (known : List Known) → list_any is_at_end known ≡ false → (realm : List ℕ) → ¬ (epoch_in known realm ≡ Some (pos last_epoch))
none_at_end [] none realm at = cc
none_at_end (k ∷ known) none realm at = elim (cases_Bool (is_at_end k)) [
  | inl ended ↦ cc
  | inr going ↦
      let rest : list_any is_at_end known ≡ false = (rw going at none) in
      elim (cases_Bool (bytes_eq k.realm realm)) [
        | inl own ↦ let here : Some (pos k.epoch) ≡ Some (pos last_epoch) = rw own at at in let same : k.epoch ≡ last_epoch = cc in absurd (grind (arith, nat_tests))
        | inr other ↦ let there : epoch_in known realm ≡ Some (pos last_epoch) = rw other at at in none_at_end known rest realm there
      ]
]

-- a realm that is known behind others has another name than they
named-behind : (name : List ℕ) (known : List Known) (realm : List ℕ) (z : ℤ) → list_all (name_before name) (map (λ (k : Known). k.realm) known) ≡ true → epoch_in known realm ≡ Some z → name_before name realm ≡ true
named-behind name [] realm z all at = cc
named-behind name (k ∷ known) realm z all at = elim (cases_Bool (bytes_eq k.realm realm)) [
  | inl own ↦ ap (name_before name) (sym (same_text k.realm realm own)) ∙ and_left (name_before name k.realm) (list_all (name_before name) (map (λ (k : Known). k.realm) known)) all
  | inr other ↦
      let there : epoch_in known realm ≡ Some z = rw other at at in
      named-behind name known realm z (and_right (name_before name k.realm) (list_all (name_before name) (map (λ (k : Known). k.realm) known)) all) there
]

nat_cmp-self : (n : ℕ) → nat_cmp n n ≡ Equal
nat_cmp-self n = search rules

pub name_before-self : (name : List ℕ) → name_before name name ≡ false
name_before-self [] = refl
name_before-self (x ∷ name) = rw (nat_cmp-self x) (name_before-self name)

-- one of the known realms is at its end where one of the list is
pub one_at_end : (known : List Known) → are_rising_names (map (λ (k : Known). k.realm) known) ≡ true → list_any is_at_end known ≡ true → (realm : List ℕ) × (epoch_in known realm ≡ Some (pos last_epoch))
one_at_end [] rising some = cc
one_at_end (k ∷ known) rising some = elim (cases_Bool (is_at_end k)) [
  | inl ended ↦
      let last : k.epoch ≡ last_epoch = grind (arith, nat_tests) in
      (k.realm, simp (bytes_eq-self k.realm) (ap (λ (n : ℕ). Some (pos n)) last))
  | inr going ↦
      let rest : list_any is_at_end known ≡ true = rw going at some in
      let found = one_at_end known (and_right (list_all (name_before k.realm) (map (λ (k : Known). k.realm) known)) (are_rising_names (map (λ (k : Known). k.realm) known)) rising) rest in
      let before = named-behind k.realm known found.0 (pos last_epoch) (and_left (list_all (name_before k.realm) (map (λ (k : Known). k.realm) known)) (are_rising_names (map (λ (k : Known). k.realm) known)) rising) found.1 in
      elim (cases_Bool (bytes_eq k.realm found.0)) [
        | inl own ↦ cc (ap (λ (n : List ℕ). name_before n found.0) (same_text k.realm found.0 own), name_before-self found.0, before)
        | inr other ↦ (found.0, simp other found.1)
      ]
]

-- an epoch is set
epoch-realm : (realm : List ℕ) (n : ℕ) (k : Known) → (epoch_named realm n k).realm ≡ k.realm
epoch-realm realm n k = elim (cases_Bool (bytes_eq k.realm realm)) [ inl own ↦ rw own refl | inr other ↦ rw other refl ]

epoch-set : (realm : List ℕ) (n : ℕ) (known : List Known) (r : List ℕ) → epoch_in (map (epoch_named realm n) known) r ≡ (if bytes_eq realm r then option_map (λ _. pos n) (epoch_in known r) else epoch_in known r)
epoch-set realm n [] r = elim (cases_Bool (bytes_eq realm r)) [ inl own ↦ rw own refl | inr other ↦ rw other refl ]
epoch-set realm n (k ∷ known) r = elim (cases_Bool (bytes_eq k.realm r)) [
  | inl own ↦
      let e : k.realm ≡ r = same_text k.realm r own in
      elim (cases_Bool (bytes_eq realm r)) [
        | inl mine ↦ let named : bytes_eq k.realm realm ≡ true = rw e (bytes_eq-sym r realm ∙ mine) in rw (named, own, mine) refl
        | inr not_mine ↦ let not_named : bytes_eq k.realm realm ≡ false = rw e (bytes_eq-sym r realm ∙ not_mine) in rw (not_named, own, not_mine) refl
      ]
  | inr other ↦ rw (ap (λ (n : List ℕ). bytes_eq n r) (epoch-realm realm n k) ∙ other, other) (epoch-set realm n known r)
]

known_set : (o : Option ℤ) (n : ℕ) → option_map (λ _. pos n) (logs.known o) ≡ Some (pos n)
known_set None n = refl
known_set (Some z) n = refl

set_twice : (b : Bool) (o : Option ℤ) (n : ℕ) → (if b then option_map (λ _. pos n) (if b then logs.known o else o) else (if b then logs.known o else o)) ≡ (if b then Some (pos n) else o)
set_twice true o n = known_set o n
set_twice false o n = refl

pub Shows-set : (realm : List ℕ) (n : ℕ) (known : List Known) (rows : List Stored) (log : Log) → Shows known rows (with_known realm log) → Shows (map (epoch_named realm n) known) rows (with_epoch realm n log)
Shows-set realm n known rows log shown =
    let names = names-map (epoch_named realm n) (epoch-realm realm n) known in
    let epochs : (r : List ℕ) → epoch_in (map (epoch_named realm n) known) r ≡ (if bytes_eq realm r then Some (pos n) else log.epochs r) =
    λ r. epoch-set realm n known r ∙ ap (λ (l : Log). if bytes_eq realm r then option_map (λ _. pos n) (l.epochs r) else l.epochs r) shown.same ∙ set_twice (bytes_eq realm r) (log.epochs r) n in
    let others : log_in known rows ≡ with_known realm log = shown.same in
    record {
      kept = kept-names known (map (epoch_named realm n) known) rows names shown.kept;
      same = λ i. record { epochs = λ r. epochs r i; rows = (others i).rows; unreadable = (others i).unreadable; strays = (others i).strays };
    }

set-refusing : (realm : List ℕ) (n : ℕ) (k : Known) → (epoch_named realm n k).is_refusing ≡ k.is_refusing
set-refusing realm n k = elim (cases_Bool (bytes_eq k.realm realm)) [ inl own ↦ rw own refl | inr other ↦ rw other refl ]

pub due-set : (realm : List ℕ) (n : ℕ) (known : List Known) (r : List ℕ) → due_in (map (epoch_named realm n) known) r ≡ due_in known r
due-set realm n known r = due-raised (epoch_named realm n) (epoch-realm realm n) (set-refusing realm n) known r
