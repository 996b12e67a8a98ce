use Rattle.std.proofs.Common.{◌≤◌, ◌<◌, ◌∙◌, ap, arith, List, length, rules, sym, subst}
use Rattle.std.proofs.lemmas.Result.{IfOk-weaker}
use Rattle.std.specs.Global.{Vec}
use Rattle.tip_table.specs.Kept.{Kept, of}
use Rattle.tip_machine.specs.Types.{Connection}
use Rattle.tip_machine.specs.States.{State}
use Rattle.tip_machine.specs.declared.head.Head.{Head}
use Rattle.tip_rules.specs.Works.{state_in}
use Rattle.tip_core.proofs.Naming.{named_alike}
use Rattle.tip_core.proofs.Stepping.{alike, hosted, room_for_it, still_counted}
use Rattle.tip_core.proofs.machine.Core.room.Goals as goal

pub invariant_of-self-2 : goal.invariant_of-self-2
invariant_of-self-2 g c = (
  still_counted c.self.inside.realms c.room.new.self c.room.ensures.heads c.room.ensures.realms c.self.invariant.0,
  named_alike (hosted c.self.inside.realms c.self.inside.turns.capacity) (hosted c.room.new.self c.reserve.new.self.capacity) (alike c.self.inside.realms c.room.new.self c.room.ensures.heads c.room.ensures.realms c.self.inside.turns.capacity c.reserve.new.self.capacity) c.self.invariant.1,
  c.room.ensures.count ∙ c.self.invariant.2 ∙ sym (ap (λ (hs : Vec Head). length hs.items) c.room.ensures.heads),
)

pub returns-clause-ok : goal.returns-clause-ok
returns-clause-ok g c =
    let here : c.args.realm < length c.self.inside.realms.heads.items = search rules in
    let inside : c.args.realm < length c.room.new.self.heads.items = subst (λ (hs : List Head). c.args.realm < length hs) (sym (ap (λ h. h.items) c.room.ensures.heads)) here in
    let enough : length (state_in c.args.realm c.room.new.self).connections ≤ c.reserve.new.self.capacity = subst (λ (s : State). length s.connections ≤ c.reserve.new.self.capacity) (sym (c.room.ensures.realms c.args.realm)) (let its = ap (λ (connections : Kept Connection). length (of connections c.args.realm)) c.connections.ensures in omega (arith, c.in_ok-reserve.ensures.ok, c.count.ensures, its)) in
    IfOk-weaker c.room.result _ _ (λ room suits. room_for_it c.room.new.self c.reserve.new.self.capacity c.args.realm c.args.event.now room inside enough suits) c.room.ensures.ok
