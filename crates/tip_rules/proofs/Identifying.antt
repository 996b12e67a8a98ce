-- How the transaction of an identifier is found.
use Rattle.std.proofs.Common.{◌≡◌, ◌≢◌, ◌<◌, length, get_or, Bool, true, false, cond, ℕ, zero, suc, List, [], ◌∷◌, Option, Some, None, refl, ap, arith, sym, subst, ◌∙◌, ◌↔◌}
use Rattle.std.specs.Prelude.{◌==◌, find, map, option_map}
use Rattle.std.specs.Option.{option_map_or}
use Rattle.std.specs.Str.{bytes_eq}
use Rattle.std.proofs.lemmas.Bool.{false_from_ne_true}
use Rattle.std.proofs.lemmas.Bool.Decides.{nat_tests}
use Rattle.std.proofs.lemmas.Option.{same_Some}
use Rattle.tip_branch.specs.Notes.{PartyNotes}
use Rattle.tip_rows.specs.Keys.{Key, is_same}
use Rattle.tip_rows.proofs.OrderLemmas.{same_key}
use Rattle.tip_table.specs.Kept.{Kept, StandsAt, item_at, of}
use Rattle.tip_table.specs.Lists.{IsFirst}
use Rattle.tip_table.proofs.Standing.{found as found_first}
use Rattle.tip_machine.proofs.Walks.{found_passes}
use Rattle.tip_machine.specs.Answers.{identifier}
use Rattle.tip_machine.specs.Commands.{exists}
use Rattle.tip_machine.specs.Order.{key_found}
use Rattle.tip_machine.specs.Requests.{owner}
use Rattle.tip_machine.specs.States.{identified_by, transaction_of}
use Rattle.tip_machine.specs.declared.head.Head.{Head}
use Rattle.tip_txn.specs.Transactions.{exists_in}
use Rattle.tip_machine.specs.Transactions.{has_id, has_key, is_known}
use Rattle.tip_machine.specs.Types.{Transaction, seen}
use Rattle.tip_outlook.specs.Searches.{HeldTransaction, is_keyed, is_named, is_pushed}
use Rattle.tip_rules.specs.Works.{Held, work_of}
use Rattle.tip_rules.proofs.Beginnings.{head_there}
use Rattle.tip_rules.proofs.Works.{find-seen}

-- In the table

first_weaker : {T : Type 0} (p q : T → Bool) (items : List T) (at : ℕ) → ((x : T) → q x ≡ true → p x ≡ true) → IsFirst p items at → ((x : T) → find p items ≡ Some x → q x ≡ true) → IsFirst q items at
first_weaker p q [] at weak first there = first
first_weaker p q (x ∷ xs) zero weak first there = there x (ap (λ b. cond b (Some x) (find p xs)) first)
first_weaker p q (x ∷ xs) (suc at) weak first there = (false_from_ne_true _ (λ is. differs (sym first.0 ∙ weak x is)), first_weaker p q xs at weak first.1 (λ y found. there y (ap (λ b. cond b (Some x) (find p xs)) first.0 ∙ found))) where
  differs : false ≡ true → ⊥
  differs same = absurd (cc)

pub named_none : (held : Held) (id : List ℕ) → (find (is_named (work_of held).state.head.name id) (of held.transactions held.realm) ≡ None) ↔ (identified_by id (work_of held).state ≡ None)
named_none held id = (λ none. seen_none ∙ ap (option_map seen) none, λ none. unseen (find (is_named (work_of held).state.head.name id) (of held.transactions held.realm)) (sym seen_none ∙ none)) where
  seen_none : identified_by id (work_of held).state ≡ option_map seen (find (is_named (work_of held).state.head.name id) (of held.transactions held.realm))
  seen_none = find-seen seen (has_id (work_of held).state.head.name id) (of held.transactions held.realm)

  unseen : (o : Option HeldTransaction) → option_map seen o ≡ None → o ≡ None
  unseen None same = refl
  unseen (Some t) same = absurd (cc)

-- where it was sought by the realm's own name
pub sought_here : (held : Held) (name id : List ℕ) (place : ℕ) → name ≡ (work_of held).state.head.name → StandsAt held.transactions held.realm (is_named name id) place → StandsAt held.transactions held.realm (is_named (work_of held).state.head.name id) place
sought_here held name id place same here = subst (λ n. StandsAt held.transactions held.realm (is_named n id) place) same here

pub sought_none : (held : Held) (name id : List ℕ) → name ≡ (work_of held).state.head.name → (find (is_named name id) (of held.transactions held.realm) ≡ None) ↔ (identified_by id (work_of held).state ≡ None)
sought_none held name id same = subst (λ n. (find (is_named n id) (of held.transactions held.realm) ≡ None) ↔ (identified_by id (work_of held).state ≡ None)) (sym same) (named_none held id)

module _ (held : Held) (id : List ℕ) (place : ℕ) (item : HeldTransaction) (here : StandsAt held.transactions held.realm (is_named (work_of held).state.head.name id) place) (is : item_at held.transactions place ≡ Some item) where
  found_named : find (is_named (work_of held).state.head.name id) (of held.transactions held.realm) ≡ Some item
  found_named = found_first held.transactions held.realm (is_named (work_of held).state.head.name id) place here ∙ is

  pub named_key : StandsAt held.transactions held.realm (is_keyed item.key) place
  named_key = record {
    at = here.at;
    there = here.there;
    first = first_weaker (is_named (work_of held).state.head.name id) (is_keyed item.key) (of held.transactions held.realm) here.at
        (λ x same. subst (λ k. bytes_eq id (identifier (work_of held).state.head.name k) ≡ true) (same_key item.key x.key same) (found_passes (is_named (work_of held).state.head.name id) (of held.transactions held.realm) item found_named))
        here.first (λ x found. ap (λ (t : HeldTransaction). is_same item.key t.key) (same_Some x item (sym found ∙ found_named)) ∙ grind (arith, nat_tests));
  }

  pub named_same : identified_by id (work_of held).state ≡ transaction_of item.key (work_of held).state
  named_same = find-seen seen (has_id (work_of held).state.head.name id) (of held.transactions held.realm) ∙ ap (option_map seen) found_named
      ∙ sym (find-seen seen (has_key item.key) (of held.transactions held.realm) ∙ ap (option_map seen) (found_first held.transactions held.realm (is_keyed item.key) place named_key ∙ is))

pub ruleset identifying = (named_key, named_same, sought_here, sought_none)

-- its key alone
module _ (transactions : Kept HeldTransaction) (realm : ℕ) (name id : List ℕ) where
  key_so : (found : Option HeldTransaction) → find (is_named name id) (of transactions realm) ≡ found → key_found (find (has_id name id) (map seen (of transactions realm))) ≡ key_found (option_map seen found)
  key_so found is = ap key_found (find-seen seen (has_id name id) (of transactions realm) ∙ ap (option_map seen) is)

  pub key_none : find (is_named name id) (of transactions realm) ≡ None → None ≡ key_found (find (has_id name id) (map seen (of transactions realm)))
  key_none none = sym (key_so None none)

  pub key_there : (place : ℕ) (item : HeldTransaction) → StandsAt transactions realm (is_named name id) place → item_at transactions place ≡ Some item → Some item.key ≡ key_found (find (has_id name id) (map seen (of transactions realm)))
  key_there place item here is = sym (key_so (Some item) (found_first transactions realm (is_named name id) place here ∙ is))

pub ruleset keying = (key_none, key_there)

-- By the superior that pushed it, or that it was pulled from

module _ (held : Held) (peer : Option (List ℕ)) (superior : List ℕ) where
  known_so : (found : Option HeldTransaction) → find (is_pushed peer superior) (of held.transactions held.realm) ≡ found → option_map (λ (t : Transaction). t.key) (find (is_known peer superior) (work_of held).state.transactions) ≡ option_map (λ (t : Transaction). t.key) (option_map seen found)
  known_so found is = ap (option_map (λ (t : Transaction). t.key)) (find-seen seen (is_known peer superior) (of held.transactions held.realm) ∙ ap (option_map seen) is)

  pub known_none : find (is_pushed peer superior) (of held.transactions held.realm) ≡ None → None ≡ option_map (λ (t : Transaction). t.key) (find (is_known peer superior) (work_of held).state.transactions)
  known_none none = sym (known_so None none)

  pub known_there : (place : ℕ) (item : HeldTransaction) → StandsAt held.transactions held.realm (is_pushed peer superior) place → item_at held.transactions place ≡ Some item → Some item.key ≡ option_map (λ (t : Transaction). t.key) (find (is_known peer superior) (work_of held).state.transactions)
  known_there place item here is = sym (known_so (Some item) (found_first held.transactions held.realm (is_pushed peer superior) place here ∙ is))

pub ruleset knowing = (known_none, known_there)

-- By a party

-- an epoch that is not the realm's
pub unowned : (held : Held) (party : PartyNotes) (head : Head) → held.realm < length held.heads.items → head ≡ get_or held.heads.items held.realm head → party.epoch ≢ head.epoch → owner party (work_of held).state ≡ None
unowned held party head inside is differ =
    let same : head.epoch ≡ (work_of held).state.head.epoch = ap (λ (h : Head). h.epoch) (head_there held head inside is) in
    let no : (party.epoch == (work_of held).state.head.epoch) ≡ false = grind (arith, nat_tests, same, differ) in
    ap (λ b. cond b (identified_by party.id (work_of held).state) None) no

pub owned : (held : Held) (party : PartyNotes) (head : Head) → held.realm < length held.heads.items → head ≡ get_or held.heads.items held.realm head → party.epoch ≡ head.epoch → owner party (work_of held).state ≡ identified_by party.id (work_of held).state
owned held party head inside is equal =
    let same : head.epoch ≡ (work_of held).state.head.epoch = ap (λ (h : Head). h.epoch) (head_there held head inside is) in
    let so : (party.epoch == (work_of held).state.head.epoch) ≡ true = grind (arith, nat_tests, same, equal) in
    ap (λ b. cond b (identified_by party.id (work_of held).state) None) so

pub ruleset owning = (unowned, owned)

-- Whether it exists

pub exists_there : (held : Held) (id : List ℕ) (key : Key) (here : Transaction) → identified_by id (work_of held).state ≡ transaction_of key (work_of held).state → transaction_of key (work_of held).state ≡ Some here → exists_in here.phase ≡ option_map_or exists (identified_by id (work_of held).state) false
exists_there held id key here same there = sym (ap (λ (o : Option Transaction). option_map_or exists o false) (same ∙ there))

pub exists_none : (held : Held) (id : List ℕ) → identified_by id (work_of held).state ≡ None → false ≡ option_map_or exists (identified_by id (work_of held).state) false
exists_none held id none = sym (ap (λ (o : Option Transaction). option_map_or exists o false) none)

pub ruleset existing = (exists_there, exists_none)
