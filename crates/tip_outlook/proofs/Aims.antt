-- What is sought by its key has the link of that key.
use Rattle.std.proofs.Common.{◌≡◌, Bool, true, false, inl, inr, refl, subst, ℕ, List, Option, Some, None, ap, sym, ◌∙◌}
use Rattle.std.specs.Prelude.{◌==◌, ◌||◌, option_map}
use Rattle.std.proofs.lemmas.Bool.{and_parts, cases_Bool}
use Rattle.tip_rows.specs.Keys.{Key, is_same}
use Rattle.tip_rows.proofs.OrderLemmas.{same_key}
use Rattle.tip_machine.specs.Connections.{asks_for, is_on, is_part_of, is_superior_of, key_of, link_of, names, reaches}
use Rattle.tip_machine.specs.Order.{is_among}
use Rattle.tip_machine.specs.declared.connection.Role.{Role}
use Rattle.tip_machine.specs.declared.connection.Role.TheVariants.{Superior, Subordinate}
use Rattle.tip_outlook.specs.Searches.{AimsAt, AimsOn, IsKeyOf, is_keyed, is_named}

of_same : (key other : Key) → is_same key other ≡ true → link_of other ≡ link_of key
of_same key other is = ap link_of (sym (same_key key other is))

module _ (key : Key) where
  by_name : (role : Option Role) → names key role ≡ true → option_map link_of (key_of role) ≡ Some (link_of key)
  by_name None is = absurd (cc)
  by_name (Some (Superior other)) is = ap Some (of_same key other is)
  by_name (Some (Subordinate other part)) is = ap Some (of_same key other is)

  by_superior : (role : Option Role) → asks_for key role ≡ true → option_map link_of (key_of role) ≡ Some (link_of key)
  by_superior None is = absurd (cc)
  by_superior (Some (Superior other)) is = ap Some (of_same key other is)
  by_superior (Some (Subordinate other part)) is = absurd (cc)

  by_part : (part : ℕ) (role : Option Role) → reaches key part role ≡ true → option_map link_of (key_of role) ≡ Some (link_of key)
  by_part part None is = absurd (cc)
  by_part part (Some (Superior other)) is = absurd (cc)
  by_part part (Some (Subordinate other place)) is = ap Some (of_same key other (and_parts (is_same key other) (part == place) is).0)

  pub on : AimsOn (is_on key) (Some (link_of key))
  on connection fits is = by_name connection.role is

  pub superior : AimsOn (is_superior_of key) (Some (link_of key))
  superior connection fits is = by_superior connection.role is

  pub part : (place : ℕ) → AimsOn (is_part_of key place) (Some (link_of key))
  part place connection fits is = by_part place connection.role is

  pub keyed : AimsAt (is_keyed key) (Some (link_of key))
  keyed transaction fits is = ap Some (of_same key transaction.key is)

-- the transaction of an identifier has the key of which that was made
pub named : (realm id : List ℕ) (made_of : Option Key) → IsKeyOf realm id made_of → AimsAt (is_named realm id) (option_map link_of made_of)
named realm id None of = tt
named realm id (Some key) of = λ transaction fits is. ap Some (of_same key transaction.key (of transaction.key fits.0 fits.1 fits.2 fits.3 ∙ is))

-- those on one of two transactions, which are one or of which one is none
pub among-own : (key : Key) → AimsOn (is_among (record { own = Some key; named = None })) (Some (link_of key))
among-own key connection fits is = on key connection fits (or_none (is_on key connection) is) where
  or_none : (b : Bool) → (b || false) ≡ true → b ≡ true
  or_none true is = refl
  or_none false is = is

pub among-named : (key : Key) → AimsOn (is_among (record { own = None; named = Some key })) (Some (link_of key))
among-named key connection fits is = on key connection fits is

pub among-both : (own named : Key) → is_same own named ≡ true → AimsOn (is_among (record { own = Some own; named = Some named })) (Some (link_of own))
among-both own named same connection fits is = elim (cases_Bool (is_on own connection)) [
  | inl first ↦ on own connection fits first
  | inr second ↦ subst (λ key. option_map link_of (key_of connection.role) ≡ Some (link_of key)) (sym (same_key own named same)) (on named connection fits (simp second at is))
]

pub ruleset among = (among-own, among-named, among-both)
