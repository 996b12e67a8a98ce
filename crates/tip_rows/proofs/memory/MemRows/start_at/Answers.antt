use Rattle.std.proofs.Common.{refl, ◌∙◌}
use Rattle.tip_rows.proofs.MemoryLemmas.{shows, Shows-set, due-set}
use Rattle.tip_rows.proofs.NameLemmas.{newly, Shows-known, due-known}
use Rattle.tip_rows.specs.Memory.{known_in}
use Rattle.tip_rows.proofs.memory.MemRows.start_at.Goals as goal

pub invariant_of-self-2 : goal.invariant_of-self-2
invariant_of-self-2 g c = rw (c.set_known_epoch.ensures, c.in_ok-know_in.ensures.ok) (Shows-set c.args.realm.now c.args.epoch _ _ _ (Shows-known c.args.realm.now _ _ _ c.in_ok-know_in.ensures.realm (shows _ _ _ c.self.invariant refl))).kept

pub returns-clause-started : goal.returns-clause-started
returns-clause-started g c = rw (c.set_known_epoch.ensures, c.in_ok-know_in.ensures.ok, ← c.self.view_is) (Shows-set c.args.realm.now c.args.epoch _ _ _ (Shows-known c.args.realm.now _ _ _ c.in_ok-know_in.ensures.realm (shows _ _ _ c.self.invariant refl))).same

pub returns-clause-due : goal.returns-clause-due
returns-clause-due g c = λ r. rw (c.set_known_epoch.ensures, c.in_ok-know_in.ensures.ok, ← c.self.view_is) (due-set c.args.realm.now c.args.epoch (known_in (newly c.args.realm.now) c.self.inside.known.items) r ∙ due-known c.args.realm.now c.self.inside.known.items r c.self.invariant.names)
