-- The store has refused to read, or what it has is no row.
use Rattle.std.proofs.Common.{◌≡◌, ◌∙◌, Err, ap, inl, inr, option_map, refl, subst, sym, true}
use Rattle.tip_actor.specs.declared.fault.ActFault.TheVariants.{Memory}
use Rattle.tip_rows.specs.Logs.{IsPart, counted, is_refused_load}
use Rattle.tip_scene.proofs.Blaming.{refuses}
use Rattle.tip_scene.proofs.Wanting.{counts_meant, counts_unmeant}
use Rattle.tip_scene.specs.Boxes.{is_meant}
use Rattle.tip_scene.proofs.counting.count_more.Goals as goal

pub returns-in-Err-Refused-clause-unread : goal.returns-in-Err-Refused-clause-unread
returns-in-Err-Refused-clause-unread g c = λ is. inl (refuses g.S.RowLog.keeping c.args.store.now c.load.new.self (c.load.ensures.counts ∙ ap (λ r. counted (is_refused_load r) (g.S.RowLog.keeping.faults c.args.store.now)) (c.in-Err-Refused.is ∙ ap Err c.in-Err-Refused.field-0-is)))

pub returns-in-Err-BadRow-clause-unread : goal.returns-in-Err-BadRow-clause-unread
returns-in-Err-BadRow-clause-unread g c = λ is. inr (0, c.args.realm.now, refl, λ log stood truth. c.load.ensures.bad_row log stood truth (c.in-Err-BadRow.is ∙ ap Err c.in-Err-BadRow.field-0-is))

-- What is counted

pub returns-then-not-is_meant-clause-wanted : goal.returns-then-not-is_meant-clause-wanted
returns-then-not-is_meant-clause-wanted g c = λ log epoch rows stood part truth. counts_unmeant (option_map (λ name. name.now) c.args.only) c.args.realm.now rows c.args.count (sym c.is_meant.ensures ∙ c.if-not-is_meant.true)

pub returns-in-Ok-clause-wanted : goal.returns-in-Ok-clause-wanted
returns-in-Ok-clause-wanted g c = λ log epoch rows stood part.
    let meant : is_meant (option_map (λ name. name.now) c.args.only) c.args.realm.now ≡ true = sym c.is_meant.ensures ∙ c.if-not-is_meant.false in
    counts_meant (option_map (λ name. name.now) c.args.only) c.args.realm.now rows c.args.count log epoch c.in-Ok.loaded.epoch c.deref.result.now c.add_branches.result Memory c.ok_or.result meant c.add_branches.ensures c.ok_or.ensures.value part
    (λ truth. subst (IsPart log c.args.realm.now c.in-Ok.loaded.epoch) (sym c.deref.ensures.value) (c.in-Ok.ensures.part log stood truth))

-- Memory has ended, and nothing was refused

pub returns-in-Err-Memory-clause-spared : goal.returns-in-Err-Memory-clause-spared
returns-in-Err-Memory-clause-spared g c = λ is. c.load.ensures.counts ∙ ap (λ r. counted (is_refused_load r) (g.S.RowLog.keeping.faults c.args.store.now)) (c.in-Err-Memory.is ∙ ap Err c.in-Err-Memory.field-0-is)
