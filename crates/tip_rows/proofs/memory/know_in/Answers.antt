use Rattle.std.proofs.Common.{◌≡◌, true, false, ◌∙◌, sym, get_or, Some, None, position}
use Rattle.std.specs.Str.{bytes_eq}
use Rattle.std.proofs.lemmas.List.Quantifiers.{position-Some}
use Rattle.tip_rows.specs.Memory.{is_from}
use Rattle.tip_rows.proofs.PartLemmas.{position-None}
use Rattle.tip_rows.proofs.NameLemmas.{newly, known_already, known_before, known_at_end}
use Rattle.tip_rows.proofs.memory.know_in.Goals as goal

pub returns-in-Some-clause-ok : goal.returns-in-Some-clause-ok
returns-in-Some-clause-ok g c =
    let known = c.args.known.now.items in
    let d = c.index.result.now in
    let at : position (is_from c.args.realm.now) known ≡ Some c.in-Some.place = rw (← c.deref.ensures.value, ← c.as_str.ensures.same) (sym c.in-Some.ensures) in
    let found = position-Some (is_from c.args.realm.now) known c.in-Some.place d at in
    let same : bytes_eq (get_or known c.in-Some.place d).realm c.args.realm.now ≡ true = rw (← c.index.ensures) (sym c.is_named.ensures ∙ c.if-is_named.true) in
    known_already (newly c.args.realm.now) d known c.in-Some.place found.0 found.1 found.2 same

pub returns-in_ok-insert-in-Some-2-clause-ok : goal.returns-in_ok-insert-in-Some-2-clause-ok
returns-in_ok-insert-in-Some-2-clause-ok g c =
    let known = c.args.known.now.items in
    let d = c.index.result.now in
    let at : position (is_from c.args.realm.now) known ≡ Some c.in-Some.place = rw (← c.deref.ensures.value, ← c.as_str.ensures.same) (sym c.in-Some.ensures) in
    let found = position-Some (is_from c.args.realm.now) known c.in-Some.place d at in
    let same : bytes_eq (get_or known c.in-Some.place d).realm c.args.realm.now ≡ false = rw (← c.index.ensures) (sym c.is_named.ensures ∙ c.if-is_named.false) in
    rw (c.in_ok-insert-in-Some-2.ensures.items, c.in_ok-newly_known-in-Some-2.ensures) (known_before (newly c.args.realm.now) d known c.in-Some.place found.0 found.1 found.2 same)

pub returns-in_ok-push-in-None-clause-ok : goal.returns-in_ok-push-in-None-clause-ok
returns-in_ok-push-in-None-clause-ok g c =
    let known = c.args.known.now.items in
    let k = newly c.args.realm.now in
    let at : position (is_from c.args.realm.now) known ≡ None = rw (← c.deref.ensures.value, ← c.as_str.ensures.same) (sym c.in-None.ensures) in
    rw (c.in_ok-push-in-None.ensures.items, c.in_ok-newly_known-in-None.ensures) (known_at_end k k known (position-None (is_from c.args.realm.now) known k at))
