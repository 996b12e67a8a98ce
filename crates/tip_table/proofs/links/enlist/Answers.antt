use Rattle.std.proofs.Common.{◌≡◌, ◌∙◌, ◌<◌, ◌≤◌, Some, ap, arith, false, get_or, insert, length, subst, sym, true}
use Rattle.std.specs.Prelude.{vec_capacity}
use Rattle.std.specs.Option.{option_copied}
use Rattle.std.proofs.lemmas.Grind.{common_steps}
use Rattle.std.proofs.lemmas.Option.{same_Some}
use Rattle.slab.specs.Slab.{get}
use Rattle.tip_table.specs.declared.table.Entry.{Entry}
use Rattle.tip_table.specs.Links.{IsRelisted, is_earlier}
use Rattle.tip_table.proofs.Relisting.{enlisted, now}
use Rattle.tip_table.proofs.links.enlist.Goals as goal

pub returns-clause-listed : goal.returns-clause-listed
returns-clause-listed g c =
    let slots = c.args.slots.now in
    let links = c.args.links.now.items in
    let key = c.args.key in
    let at = c.rank-at.result in
    let entry = c.index_mut.result.now in
    let is : get slots key ≡ Some entry = c.index_mut.ensures.value in
    let same : c.in-Some.entry.now ≡ entry = same_Some _ _ (sym (ap option_copied c.in-Some.is) ∙ c.get.ensures ∙ is) in
    let items : c.insert.new.self.items ≡ insert links at key = grind (arith, common_steps) in
    let value = c.deref.ensures.value in
    subst (IsRelisted key (Some c.args.link) slots links (now slots links key entry is (Some c.args.link))) (sym items)
    (enlisted slots links key entry is c.args.link at (vec_capacity c.args.links.now) c.requires.may c.requires.apart (subst (λ ks. at ≤ length ks) value c.rank-at.ensures.within)
    (λ i less. subst (λ ks. is_earlier entry.realm c.args.link entry.made (get slots (get_or ks i 0)) ≡ true) value (subst (λ (e : Entry g.row.T.Denot). is_earlier e.realm c.args.link e.made (get slots (get_or c.deref.result.now i 0)) ≡ true) same (c.rank-at.ensures.before i less)))
    (λ i least less. subst (λ ks. is_earlier entry.realm c.args.link entry.made (get slots (get_or ks i 0)) ≡ false) value (subst (λ (e : Entry g.row.T.Denot). is_earlier e.realm c.args.link e.made (get slots (get_or c.deref.result.now i 0)) ≡ false) same (c.rank-at.ensures.behind i least (subst (λ ks. i < length ks) (sym value) less)))))
