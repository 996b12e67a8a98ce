use Rattle.std.proofs.Common.{◌≡◌, ◌∙◌, None, ap, length, rules, subst, sym}
use Rattle.std.specs.Global.{Vec}
use Rattle.std.proofs.lemmas.Result.{on_ok_weaker}
use Rattle.tip_machine.specs.States.{State}
use Rattle.tip_machine.specs.declared.head.Head.{Head}
use Rattle.tip_rules.specs.Works.{Tables}
use Rattle.tip_core.specs.Hosted.{realm}
use Rattle.tip_core.proofs.Naming.{named_alike}
use Rattle.tip_core.proofs.Stepping.{alike, hosted, past, still_counted}
use Rattle.tip_core.proofs.TakingUp.{all_same}
use Rattle.tip_core.proofs.machine.Core.reserve.Goals as goal

pub returns-then-realm-len-clause-ok : goal.returns-then-realm-len-clause-ok
returns-then-realm-len-clause-ok g c = λ here. absurd (here (subst (λ h. realm h c.args.realm ≡ None) c.self.view_is (past c.self.inside.realms c.self.inside.turns.capacity c.args.realm (search rules))))

pub invariant_of-self : goal.invariant_of-self
invariant_of-self g c =
    let old = c.self.inside.realms in
    let new = c.reserve.new.realms in
    let turns = c.self.inside.turns.capacity in
    let same = all_same old new c.reserve.ensures.heads c.args.realm (ap (λ (s : State). s.connections) c.reserve.ensures.same) c.reserve.ensures.others c.reserve.ensures.same in (
      still_counted old new c.reserve.ensures.heads same c.self.invariant.0,
      named_alike (hosted old turns) (hosted new turns) (alike old new c.reserve.ensures.heads same turns turns) c.self.invariant.1,
      c.reserve.ensures.count ∙ c.self.invariant.2 ∙ sym (ap (λ (hs : Vec Head). length hs.items) c.reserve.ensures.heads),
    )

pub returns-clause-realms : goal.returns-clause-realms
returns-clause-realms g c =
    let old = c.self.inside.realms in
    let new = c.reserve.new.realms in
    let turns = c.self.inside.turns.capacity in
    rw (← c.self.view_is) (alike old new c.reserve.ensures.heads (all_same old new c.reserve.ensures.heads c.args.realm (ap (λ (s : State). s.connections) c.reserve.ensures.same) c.reserve.ensures.others c.reserve.ensures.same) turns turns)

pub returns-clause-ok : goal.returns-clause-ok
returns-clause-ok g c = on_ok_weaker c.reserve.result (λ enough here. enough) c.reserve.ensures.ok

pub returns-clause-others : goal.returns-clause-others
returns-clause-others g c = rw (← c.self.view_is) (λ other differ. ap (λ (t : Tables). t.transactions.free) (c.reserve.ensures.others other differ))

pub returns-clause-named : goal.returns-clause-named
returns-clause-named g c =
    let old = c.self.inside.realms in
    let new = c.reserve.new.realms in
    let turns = c.self.inside.turns.capacity in
    named_alike (hosted old turns) (hosted new turns) (alike old new c.reserve.ensures.heads (all_same old new c.reserve.ensures.heads c.args.realm (ap (λ (s : State). s.connections) c.reserve.ensures.same) c.reserve.ensures.others c.reserve.ensures.same) turns turns) c.self.invariant.1
