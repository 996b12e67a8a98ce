-- What is stored of a realm: after a change of rows, and in the log in which realms start.
use Rattle.std.proofs.Common.{◌≡◌, ◌≢◌, ℕ, zero, suc, ◌+◌, ◌<◌, ◌≤◌, Bool, true, false, cond, List, [], ◌∷◌, Option, Some, None, negsuc, inl, inr, refl, ap, arith, sym, subst, ◌∙◌}
use Rattle.std.specs.Prelude.{◌&&◌, ◌==◌, ℤ, is_some, pos, nat_lt, option_map, slice_get, unwrap_or}
use Rattle.std.specs.Str.{bytes_eq}
use Rattle.std.proofs.lemmas.Bool.{cases_lt}
use Rattle.std.proofs.lemmas.Bool.Decides.{nat_tests}
use Rattle.std.proofs.lemmas.Option.{none-some, same_Some}
use Rattle.std.proofs.lemmas.Slice.Eq.{bytes_eq-Decides}
use Rattle.tip_rows.specs.Keys.{Key, is_same}
use Rattle.tip_rows.specs.Logs.{Log, IsAtEnd, IsPart, IsSpoiled, known, last_epoch, raised, raised_number, with_all_raised, with_at, with_known, with_raised}
use Rattle.tip_rows.specs.declared.row.Row.{Row}
use Rattle.tip_machine.proofs.Storing.{put_at, removed_at, rising_put, rising_removed}
use Rattle.tip_machine.specs.Moves.{rows_after}
use Rattle.tip_machine.specs.declared.event.Change.{Change}
use Rattle.tip_machine.specs.declared.event.Change.TheVariants.{Put, Remove}
use Rattle.tip_machine.specs.declared.event.Outcome.{Outcome}
use Rattle.tip_machine.specs.declared.event.Outcome.TheVariants.{NoChange, Stored, Refused}
use Rattle.tip_stored.specs.Keeping.{log_after}
use Rattle.tip_stored.specs.Loading.{known_all, opened}

itself : (name : List ℕ) → bytes_eq name name ≡ true
itself name = (bytes_eq-Decides name name).1 refl

-- A change of rows

module _ (name : List ℕ) (key : Key) (row : Option Row) (log : Log) where
  -- what was whole stays so
  not_spoiled : (other : List ℕ) → ¬ IsSpoiled log other → ¬ IsSpoiled (with_at name key row log) other
  not_spoiled other sound (inl bad) = sound (inl bad)
  not_spoiled other sound (inr (inl stray)) = sound (inr (inl stray))
  not_spoiled other sound (inr (inr unread)) = sound (inr (inr (unread.0, before (bytes_eq name other) (is_same key unread.0) unread.1))) where
    before : (a b : Bool) → cond (a && b) false (log.unreadable other unread.0) ≡ true → log.unreadable other unread.0 ≡ true
    before true true is = absurd (cc)
    before true false is = is
    before false b is = is

  -- at its own keys
  own_row : (k : Key) → (with_at name key row log).rows name k ≡ cond (is_same key k) row (log.rows name k)
  own_row k = rw (itself name) refl

  other_row : (other : List ℕ) (k : Key) → bytes_eq name other ≡ false → (with_at name key row log).rows other k ≡ log.rows other k
  other_row other k differ = rw differ refl

  other_stays : (other : List ℕ) (epoch : ℕ) (rows : List (Key × Row)) → bytes_eq name other ≡ false → IsPart log other epoch rows → IsPart (with_at name key row log) other epoch rows
  other_stays other epoch rows differ part = record {
    epoch = part.epoch;
    rising = part.rising;
    same = λ k. part.same k ∙ sym (other_row other k differ);
    sound = not_spoiled other part.sound;
  }

pub part_after : (name : List ℕ) (change : Option Change) (outcome : Outcome) (log : Log) (epoch : ℕ) (rows : List (Key × Row)) → IsPart log name epoch rows → IsPart (log_after name change outcome log) name epoch (rows_after change outcome rows)
part_after name None NoChange log epoch rows part = part
part_after name None Stored log epoch rows part = part
part_after name None Refused log epoch rows part = part
part_after name (Some change) NoChange log epoch rows part = part
part_after name (Some change) Refused log epoch rows part = part
part_after name (Some (Put key row)) Stored log epoch rows part = record {
  epoch = part.epoch;
  rising = rising_put key row rows part.rising;
  same = λ k. put_at key row k rows ∙ ap (cond (is_same key k) (Some row)) (part.same k) ∙ sym (own_row name key (Some row) log k);
  sound = not_spoiled name key (Some row) log name part.sound;
}
part_after name (Some (Remove key)) Stored log epoch rows part = record {
  epoch = part.epoch;
  rising = rising_removed key rows part.rising;
  same = λ k. removed_at key k rows part.rising ∙ ap (cond (is_same key k) None) (part.same k) ∙ sym (own_row name key None log k);
  sound = not_spoiled name key None log name part.sound;
}

-- what is stored of another realm
pub part_stays : (name : List ℕ) (change : Option Change) (outcome : Outcome) (log : Log) (other : List ℕ) (epoch : ℕ) (rows : List (Key × Row)) → bytes_eq name other ≡ false → IsPart log other epoch rows → IsPart (log_after name change outcome log) other epoch rows
part_stays name None NoChange log other epoch rows differ part = part
part_stays name None Stored log other epoch rows differ part = part
part_stays name None Refused log other epoch rows differ part = part
part_stays name (Some change) NoChange log other epoch rows differ part = part
part_stays name (Some change) Refused log other epoch rows differ part = part
part_stays name (Some (Put key row)) Stored log other epoch rows differ part = other_stays name key (Some row) log other epoch rows differ part
part_stays name (Some (Remove key)) Stored log other epoch rows differ part = other_stays name key None log other epoch rows differ part

-- and the realms known, with their epochs
pub epochs_stay : (name : List ℕ) (change : Option Change) (outcome : Outcome) (log : Log) → (log_after name change outcome log).epochs ≡ log.epochs
epochs_stay name None outcome log = refl
epochs_stay name (Some (Put key row)) Stored log = refl
epochs_stay name (Some (Remove key)) Stored log = refl
epochs_stay name (Some change) NoChange log = refl
epochs_stay name (Some change) Refused log = refl

-- A start

known_number : (stored : Option ℤ) → unwrap_or (known stored) (pos 0) ≡ unwrap_or stored (pos 0)
known_number None = refl
known_number (Some number) = refl

known_sound : (stored : Option ℤ) (z : ℤ) → known stored ≡ Some z → ((n : ℕ) → n ≤ last_epoch → z ≢ pos n) → stored ≡ Some z
known_sound None z is past = absurd (past 0 (omega arith) (sym (same_Some (pos 0) z is)))
known_sound (Some number) z is past = is

part_known : (name : List ℕ) (log : Log) (other : List ℕ) (epoch : ℕ) (rows : List (Key × Row)) → IsPart log other epoch rows → IsPart (with_known name log) other epoch rows
part_known name log other epoch rows part = record {
  epoch = number (bytes_eq name other) ∙ part.epoch;
  rising = part.rising;
  same = part.same;
  sound = sound;
} where
  number : (b : Bool) → unwrap_or (cond b (known (log.epochs other)) (log.epochs other)) (pos 0) ≡ unwrap_or (log.epochs other) (pos 0)
  number true = known_number (log.epochs other)
  number false = refl

  was : (b : Bool) (z : ℤ) → cond b (known (log.epochs other)) (log.epochs other) ≡ Some z → ((n : ℕ) → n ≤ last_epoch → z ≢ pos n) → log.epochs other ≡ Some z
  was true z is past = known_sound (log.epochs other) z is past
  was false z is past = is

  sound : ¬ IsSpoiled (with_known name log) other
  sound (inl bad) = part.sound (inl (bad.0, was (bytes_eq name other) bad.0 bad.1 bad.2, bad.2))
  sound (inr more) = part.sound (inr more)

-- a realm that is known has its number
known_is : (stored : Option ℤ) (epoch : ℕ) → unwrap_or stored (pos 0) ≡ pos epoch → known stored ≡ Some (pos epoch)
known_is None epoch is = ap Some is
known_is (Some number) epoch is = ap Some is

known_here : (name : List ℕ) (log : Log) (epoch : ℕ) (rows : List (Key × Row)) → IsPart log name epoch rows → (with_known name log).epochs name ≡ Some (pos epoch)
known_here name log epoch rows part = rw (itself name) (known_is (log.epochs name) epoch part.epoch)

known_still : (names : List (List ℕ)) (log : Log) (name : List ℕ) (number : ℤ) → log.epochs name ≡ Some number → (known_all names log).epochs name ≡ Some number
known_still [] log name number is = is
known_still (n ∷ names) log name number is = known_still names (with_known n log) name number (still (bytes_eq n name)) where
  still : (b : Bool) → cond b (known (log.epochs name)) (log.epochs name) ≡ Some number
  still true = rw is refl
  still false = is

-- one of the names is known, and what is stored of it is as it was
record IsKnownPart (log : Log) (name : List ℕ) (epoch : ℕ) (rows : List (Key × Row)) : Type 0 where
  pub part : IsPart log name epoch rows
  pub number : log.epochs name ≡ Some (pos epoch)

part_known_all : (names : List (List ℕ)) (log : Log) (name : List ℕ) (epoch : ℕ) (rows : List (Key × Row)) → IsPart log name epoch rows → IsPart (known_all names log) name epoch rows
part_known_all [] log name epoch rows part = part
part_known_all (n ∷ names) log name epoch rows part = part_known_all names (with_known n log) name epoch rows (part_known n log name epoch rows part)

known_part : (names : List (List ℕ)) (place : ℕ) (log : Log) (name : List ℕ) (epoch : ℕ) (rows : List (Key × Row)) → slice_get names place ≡ Some name → IsPart log name epoch rows → IsKnownPart (known_all names log) name epoch rows
known_part [] place log name epoch rows here part = absurd (cc)
known_part (n ∷ names) zero log name epoch rows here part = record {
  part = part_known_all (n ∷ names) log name epoch rows part;
  number = known_still names (with_known n log) name (pos epoch) (subst (λ x. (with_known x log).epochs name ≡ Some (pos epoch)) (sym (same_Some n name here)) (known_here name log epoch rows part));
}
known_part (n ∷ names) (suc place) log name epoch rows here part = known_part names place (with_known n log) name epoch rows here (part_known n log name epoch rows part)

pub number_of : {a b : ℕ} → pos a ≡ pos b → a ≡ b
number_of same = cc

-- a number that is stored is one of the epochs
in_range : (log : Log) (name : List ℕ) (epoch : ℕ) (rows : List (Key × Row)) → IsKnownPart log name epoch rows → epoch ≤ last_epoch
in_range log name epoch rows is = elim (cases_lt last_epoch epoch) [
  | inl past ↦ absurd (is.part.sound (inl (pos epoch, is.number, λ n within same. apart past n within (number_of same))))
  | inr within ↦ within
] where
  apart : last_epoch < epoch → (n : ℕ) → n ≤ last_epoch → epoch ≡ n → ⊥
  apart past n within same = omega (arith)

-- where the realm's epoch rises, whatever becomes of others
rising_part : (log : Log) (epochs : List ℕ → Option ℤ) (name : List ℕ) (epoch : ℕ) (rows : List (Key × Row)) → epochs name ≡ option_map raised (log.epochs name) → IsKnownPart log name epoch rows → IsPart (record log { epochs = epochs }) name (raised_number epoch) rows
rising_part log epochs name epoch rows rises is = record {
  epoch = ap (λ stored. unwrap_or stored (pos 0)) number;
  rising = is.part.rising;
  same = is.part.same;
  sound = sound;
} where
  number : epochs name ≡ Some (pos (raised_number epoch))
  number = rises ∙ ap (option_map raised) is.number

  below : (b : Bool) → nat_lt epoch last_epoch ≡ b → cond b (epoch + 1) epoch ≤ last_epoch
  below true less = grind (arith, nat_tests)
  below false more = in_range log name epoch rows is

  sound : ¬ IsSpoiled (record log { epochs = epochs }) name
  sound (inl bad) = bad.2 (raised_number epoch) (below (nat_lt epoch last_epoch) refl) (sym (same_Some (pos (raised_number epoch)) bad.0 (sym number ∙ bad.1)))
  sound (inr more) = is.part.sound (inr more)

raised_part : (log : Log) (name : List ℕ) (epoch : ℕ) (rows : List (Key × Row)) → IsKnownPart log name epoch rows → IsPart (with_all_raised log) name (raised_number epoch) rows
raised_part log name epoch rows is = rising_part log (λ r. option_map raised (log.epochs r)) name epoch rows refl is

-- IN THE LOG IN WHICH REALMS START each of them has its rows still, and its epoch has risen
pub opened_part : (names : List (List ℕ)) (place : ℕ) (log : Log) (name : List ℕ) (epoch : ℕ) (rows : List (Key × Row)) → slice_get names place ≡ Some name → IsPart log name epoch rows → IsPart (opened names log) name (raised_number epoch) rows
opened_part names place log name epoch rows here part = raised_part (known_all names log) name epoch rows (known_part names place log name epoch rows here part)

pub opened_known : (names : List (List ℕ)) (place : ℕ) (log : Log) (name : List ℕ) (epoch : ℕ) (rows : List (Key × Row)) → slice_get names place ≡ Some name → IsPart log name epoch rows → is_some ((opened names log).epochs name) ≡ true
opened_known names place log name epoch rows here part = ap (λ stored. is_some (option_map raised stored)) (known_part names place log name epoch rows here part).number

known_some : (stored : Option ℤ) → (z : ℤ) × (known stored ≡ Some z)
known_some None = (pos 0, refl)
known_some (Some z) = (z, refl)

known_has : (names : List (List ℕ)) (place : ℕ) (log : Log) (name : List ℕ) → slice_get names place ≡ Some name → (z : ℤ) × ((known_all names log).epochs name ≡ Some z)
known_has [] place log name here = absurd (cc)
known_has (n ∷ names) zero log name here =
    let first = known_some (log.epochs name) in
    (first.0, known_still names (with_known n log) name first.0 (subst (λ x. (with_known x log).epochs name ≡ Some first.0) (sym (same_Some n name here)) (rw (itself name) first.1)))
known_has (n ∷ names) (suc place) log name here = known_has names place (with_known n log) name here

raised_apart : (z : ℤ) → raised z ≢ pos 0
raised_apart (negsuc n) is = absurd (cc)
raised_apart (pos n) is = by (nat_lt n last_epoch) refl (number_of {a = raised_number n} {b = 0} is) where
  by : (b : Bool) → nat_lt n last_epoch ≡ b → cond b (n + 1) n ≢ 0
  by true less is = absurd (omega (arith, is))
  by false more is = let none : n ≡ 0 = is in absurd (grind (arith, nat_tests))

-- and it has an epoch
pub opened_epoch : (names : List (List ℕ)) (place : ℕ) (log : Log) (name : List ℕ) → slice_get names place ≡ Some name → unwrap_or ((opened names log).epochs name) (pos 0) ≢ pos 0
opened_epoch names place log name here none =
    let known = known_has names place log name here in
    raised_apart known.0 (sym (ap (λ (stored : Option ℤ). unwrap_or (option_map raised stored) (pos 0)) known.1) ∙ none)

-- A number that is no epoch then was none before

abbrev IsNoEpoch : ℤ → Type 0
IsNoEpoch z = (n : ℕ) → n ≤ last_epoch → z ≢ pos n

raised_past : (number z : ℤ) → raised number ≡ z → IsNoEpoch z → number ≡ z
raised_past (negsuc n) z is past = is
raised_past (pos n) z is past = by (nat_lt n last_epoch) refl is where
  by : (b : Bool) → nat_lt n last_epoch ≡ b → pos (cond b (n + 1) n) ≡ z → pos n ≡ z
  by true less is = absurd (past (n + 1) (grind (arith, nat_tests)) (sym is))
  by false more is = is

risen_past : (stored : Option ℤ) (z : ℤ) → option_map raised stored ≡ Some z → IsNoEpoch z → stored ≡ Some z
risen_past None z is past = absurd (none-some z is)
risen_past (Some number) z is past = ap Some (raised_past number z (same_Some (raised number) z is) past)

known_past : (names : List (List ℕ)) (log : Log) (name : List ℕ) (z : ℤ) → (known_all names log).epochs name ≡ Some z → IsNoEpoch z → log.epochs name ≡ Some z
known_past [] log name z is past = is
known_past (n ∷ names) log name z is past = was (bytes_eq n name) (known_past names (with_known n log) name z is past) where
  was : (b : Bool) → cond b (known (log.epochs name)) (log.epochs name) ≡ Some z → log.epochs name ≡ Some z
  was true is = known_sound (log.epochs name) z is past
  was false is = is

same_strays : (names : List (List ℕ)) (log : Log) → (known_all names log).strays ≡ log.strays
same_strays [] log = refl
same_strays (n ∷ names) log = same_strays names (with_known n log)

same_unreadable : (names : List (List ℕ)) (log : Log) → (known_all names log).unreadable ≡ log.unreadable
same_unreadable [] log = refl
same_unreadable (n ∷ names) log = same_unreadable names (with_known n log)

-- so what is spoiled then was so before
pub opened_spoiled : (names : List (List ℕ)) (log : Log) (name : List ℕ) → IsSpoiled (opened names log) name → IsSpoiled log name
opened_spoiled names log name (inl bad) = inl (bad.0, known_past names log name bad.0 (risen_past ((known_all names log).epochs name) bad.0 bad.1 bad.2) bad.2, bad.2)
opened_spoiled names log name (inr (inl stray)) = inr (inl (sym (ap (λ (s : List ℕ → Bool). s name) (same_strays names log)) ∙ stray))
opened_spoiled names log name (inr (inr unread)) = inr (inr (unread.0, sym (ap (λ (u : List ℕ → Key → Bool). u name unread.0) (same_unreadable names log)) ∙ unread.1))

-- where no known epoch is at its end, that of a realm can rise
pub can_open : (names : List (List ℕ)) (place : ℕ) (log : Log) (name : List ℕ) (epoch : ℕ) (rows : List (Key × Row)) → slice_get names place ≡ Some name → IsPart log name epoch rows → ¬ IsAtEnd (known_all names log) name → epoch < last_epoch
can_open names place log name epoch rows here part not_end =
    let is = known_part names place log name epoch rows here part in
    elim (cases_lt epoch last_epoch) [
      | inl less ↦ less
      | inr last ↦ absurd (not_end (is.number ∙ ap (λ e. Some (pos e)) (at_last (in_range (known_all names log) name epoch rows is) last)))
    ] where
      at_last : epoch ≤ last_epoch → last_epoch ≤ epoch → epoch ≡ last_epoch
      at_last within last = omega (arith)

-- what is stored of a realm that is known is so with its number
known_number_is : (stored : Option ℤ) (epoch : ℕ) → is_some stored ≡ true → unwrap_or stored (pos 0) ≡ pos epoch → stored ≡ Some (pos epoch)
known_number_is None epoch known is = absurd (cc)
known_number_is (Some z) epoch known is = ap Some is

is_known : (log : Log) (name : List ℕ) (epoch : ℕ) (rows : List (Key × Row)) → IsPart log name epoch rows → is_some (log.epochs name) ≡ true → IsKnownPart log name epoch rows
is_known log name epoch rows part known = record { part = part; number = known_number_is (log.epochs name) epoch known part.epoch }

-- WHERE THE EPOCH OF ONE REALM RISES it has its rows still, and the others have theirs with their epochs
pub renewed_part : (log : Log) (name : List ℕ) (epoch : ℕ) (rows : List (Key × Row)) → IsPart log name epoch rows → is_some (log.epochs name) ≡ true → IsPart (with_raised name log) name (raised_number epoch) rows
renewed_part log name epoch rows part known = rising_part log (with_raised name log).epochs name epoch rows (rw (itself name) refl) (is_known log name epoch rows part known)

pub renewed_others : (log : Log) (name other : List ℕ) (epoch : ℕ) (rows : List (Key × Row)) → bytes_eq name other ≡ false → IsPart log other epoch rows → IsPart (with_raised name log) other epoch rows
renewed_others log name other epoch rows differ part = record {
  epoch = ap (λ stored. unwrap_or stored (pos 0)) same_epoch ∙ part.epoch;
  rising = part.rising;
  same = part.same;
  sound = sound;
} where
  same_epoch : (with_raised name log).epochs other ≡ log.epochs other
  same_epoch = rw differ refl

  sound : ¬ IsSpoiled (with_raised name log) other
  sound (inl bad) = part.sound (inl (bad.0, sym same_epoch ∙ bad.1, bad.2))
  sound (inr more) = part.sound (inr more)

pub renewed_known : (log : Log) (name other : List ℕ) → is_some ((with_raised name log).epochs other) ≡ is_some (log.epochs other)
renewed_known log name other = by (bytes_eq name other) (log.epochs other) where
  by : (b : Bool) (stored : Option ℤ) → is_some (cond b (option_map raised stored) stored) ≡ is_some stored
  by true None = refl
  by true (Some z) = refl
  by false stored = refl

-- an epoch that is known and is not the last one can rise
pub rises : (log : Log) (name : List ℕ) (epoch : ℕ) (rows : List (Key × Row)) → IsPart log name epoch rows → is_some (log.epochs name) ≡ true → (epoch == last_epoch) ≡ false → raised_number epoch ≡ epoch + 1
rises log name epoch rows part known not_last = by (nat_lt epoch last_epoch) refl where
  within : epoch ≤ last_epoch
  within = in_range log name epoch rows (is_known log name epoch rows part known)

  by : (b : Bool) → nat_lt epoch last_epoch ≡ b → cond b (epoch + 1) epoch ≡ epoch + 1
  by true less = refl
  by false more = let here = within in absurd (grind (arith, nat_tests))
