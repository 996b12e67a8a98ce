use Rattle.std.proofs.Common.{◌≡◌, ◌∙◌, Some, None, ap, arith, subst, sym, ◌<◌, ℕ, List, get_or, length, true}
use Rattle.std.specs.Prelude.{vec_capacity, ◌≤◌, false, is_some, remove, unwrap_or}
use Rattle.std.specs.Option.{option_copied}
use Rattle.std.proofs.lemmas.Grind.{common_steps}
use Rattle.std.proofs.lemmas.Option.{same_Some}
use Rattle.slab.specs.Slab.{get, with_value, Slab}
use Rattle.tip_table.specs.declared.table.Entry.{Entry}
use Rattle.tip_table.specs.Links.{IsRelisted, MayList, relisted, is_earlier, listed_in, made_in}
use Rattle.tip_table.proofs.Relisting.{may_again, now, struck}
use Rattle.tip_table.specs.Entries.{is_among, realm_in}
use Rattle.tip_table.proofs.Linking.{stands_there}
use Rattle.tip_table.proofs.links.strike.Goals as goal

-- ONE THAT IS LISTED is found where its rank says, and struck there
module _ {T : Type 0} {slots : Slab (Entry T)} {links seen : List ℕ} {room key link at : ℕ} {entry : Entry T}
    (may : MayList slots links room key) (is : get slots key ≡ Some entry) (is_listed : entry.listed ≡ Some link) (is_seen : seen ≡ links)
    (before : (i : ℕ) → i < at → is_earlier entry.realm link entry.made (get slots (get_or seen i 0)) ≡ true)
    (behind : (i : ℕ) → at ≤ i → i < length seen → is_earlier entry.realm link entry.made (get slots (get_or seen i 0)) ≡ false) where
  listed_there : (at < length links) × (get_or links at 0 ≡ key)
  listed_there =
      let listed : listed_in (get slots key) ≡ Some link = ap listed_in is ∙ is_listed in
      let among : is_among links key ≡ true = may.among ∙ ap is_some listed in
      let realm : entry.realm ≡ realm_in (get slots key) = ap realm_in (sym is) in
      let made : entry.made ≡ made_in (get slots key) = ap made_in (sym is) in
      let its : link ≡ unwrap_or (listed_in (get slots key)) 0 = ap (λ o. unwrap_or o 0) (sym listed) in
      stands_there slots links key at may.are.sorted among
      (λ i less. rw (← realm, ← made, ← its, ← is_seen) (before i less))
      (λ i least less. rw (← realm, ← made, ← its, ← is_seen) (behind i least (subst (λ ks. i < length ks) (sym is_seen) less)))

  is_struck : {after : List ℕ} → after ≡ remove links at → IsRelisted key None slots links (with_value slots key (relisted None entry)) after
  is_struck after_is = subst (IsRelisted key None slots links (now slots links key entry is None)) (sym after_is) (struck slots links key entry is at may.are listed_there.0 listed_there.1)

pub remove-requires : goal.remove-requires
remove-requires g c =
    let within = (listed_there c.requires (sym c.get.ensures ∙ ap option_copied c.in-Some.is) c.in-Some-listed.is c.deref.ensures.value c.rank-at.ensures.before c.rank-at.ensures.behind).0 in
    grind (arith, common_steps, within)

pub returns-in-Some-listed-clause-struck : goal.returns-in-Some-listed-clause-struck
returns-in-Some-listed-clause-struck g c =
    let is : get c.args.slots.now c.args.key ≡ Some c.in-Some.entry.now = sym c.get.ensures ∙ ap option_copied c.in-Some.is in
    let same : c.index_mut.result.now ≡ c.in-Some.entry.now = same_Some _ _ (sym c.index_mut.ensures.value ∙ is) in
    subst (λ (e : Entry g.row.T.Denot). IsRelisted c.args.key None c.args.slots.now c.args.links.now.items (with_value c.args.slots.now c.args.key (relisted None e)) c.remove.new.self.items) (sym same)
    (is_struck c.requires is c.in-Some-listed.is c.deref.ensures.value c.rank-at.ensures.before c.rank-at.ensures.behind c.remove.ensures.items)

pub returns-in-Some-listed-clause-may : goal.returns-in-Some-listed-clause-may
returns-in-Some-listed-clause-may g c =
    let is : get c.args.slots.now c.args.key ≡ Some c.in-Some.entry.now = sym c.get.ensures ∙ ap option_copied c.in-Some.is in
    let within = (listed_there c.requires is c.in-Some-listed.is c.deref.ensures.value c.rank-at.ensures.before c.rank-at.ensures.behind).0 in
    let same : c.index_mut.result.now ≡ c.in-Some.entry.now = same_Some _ _ (sym c.index_mut.ensures.value ∙ is) in
    let done = is_struck c.requires is c.in-Some-listed.is c.deref.ensures.value c.rank-at.ensures.before c.rank-at.ensures.behind c.remove.ensures.items in
    subst (λ (e : Entry g.row.T.Denot). MayList (with_value c.args.slots.now c.args.key (relisted None e)) c.remove.new.self.items (vec_capacity c.remove.new.self) c.args.key) (sym same)
    (may_again c.args.slots.now _ c.args.links.now.items c.remove.new.self.items (vec_capacity c.remove.new.self) c.args.key (subst (λ n. MayList c.args.slots.now c.args.links.now.items n c.args.key) (sym c.remove.ensures.capacity) c.requires) done (grind (arith, common_steps)))
