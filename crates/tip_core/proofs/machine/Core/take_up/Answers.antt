use Rattle.std.proofs.Common.{◌≡◌, ◌+◌, ◌++◌, ◌∙◌, List, None, Some, ap, length, rules, subst, sym}
use Rattle.std.specs.Global.{Vec}
use Rattle.std.proofs.lemmas.Option.{none-some}
use Rattle.tip_machine.specs.States.{State}
use Rattle.tip_machine.specs.declared.head.Head.{Head}
use Rattle.tip_recovery.specs.Adopting.{AreOf, Unfinished}
use Rattle.tip_rules.specs.Works.{Tables, state_in, tables_in}
use Rattle.tip_core.specs.Hosted.{realm}
use Rattle.tip_core.specs.Recovering.{reopened_all, taking_up}
use Rattle.tip_core.proofs.Stepping.{inside, past}
use Rattle.tip_core.proofs.TakingUp.{counts_stay, names_stay, others_same, own_taken}
use Rattle.tip_core.proofs.machine.Core.take_up.Goals as goal

-- where there is no realm
pub returns-then-realm-len-clause-own : goal.returns-then-realm-len-clause-own
returns-then-realm-len-clause-own g c = λ state is is_of. absurd (none-some state (sym (subst (λ h. realm h c.args.realm ≡ None) c.self.view_is (past c.self.inside.realms c.self.inside.turns.capacity c.args.realm (search rules))) ∙ is))

pub returns-then-realm-len-clause-room : goal.returns-then-realm-len-clause-room
returns-then-realm-len-clause-room g c = λ here. absurd (here (subst (λ h. realm h c.args.realm ≡ None) c.self.view_is (past c.self.inside.realms c.self.inside.turns.capacity c.args.realm (search rules))))

pub invariant_of-self : goal.invariant_of-self
invariant_of-self g c =
    let old = c.self.inside.realms in
    let new = c.reopen_in.new.realms in (
      counts_stay old new c.reopen_in.ensures.heads c.args.realm c.reopen_in.ensures.connections c.reopen_in.ensures.others c.self.invariant.0,
      names_stay old new c.reopen_in.ensures.heads c.args.realm c.reopen_in.ensures.connections c.reopen_in.ensures.others c.self.inside.turns.capacity c.self.invariant.1,
      c.reopen_in.ensures.count ∙ c.self.invariant.2 ∙ sym (ap (λ (hs : Vec Head). length hs.items) c.reopen_in.ensures.heads),
    )

pub returns-clause-own : goal.returns-clause-own
returns-clause-own g c = λ state is is_of.
    let old = c.self.inside.realms in
    let new = c.reopen_in.new.realms in
    let turns = c.self.inside.turns.capacity in
    let its = inside old turns c.args.realm state (subst (λ h. realm h c.args.realm ≡ Some state) (sym c.self.view_is) is) in
    let head = (state_in c.args.realm old).head in
    let rows : c.into_rows.result.items ≡ c.args.recovery.rows = c.into_rows.ensures.same in
    let name : head.name ≡ c.args.recovery.realm = ap (λ (s : State). s.head.name) (sym its.1) ∙ is_of.name in
    let epoch : head.epoch ≡ c.args.recovery.epoch = ap (λ (s : State). s.head.epoch) (sym its.1) ∙ is_of.epoch in
    let theirs : AreOf head.name c.into_rows.result.items = subst (AreOf head.name) (sym rows) (subst (λ realm. AreOf realm c.args.recovery.rows) (sym name) c.into_rows.ensures.own) in
    let joined = c.reopen_in.ensures.own head theirs (epoch ∙ sym c.epoch-epoch.ensures) in
    own_taken old new c.reopen_in.ensures.heads c.args.realm c.reopen_in.ensures.connections c.reopen_in.ensures.others turns c.args.recovery.rows its.0 (joined ∙ ap (λ (l : List Unfinished). (state_in c.args.realm old).transactions ++ reopened_all head l) rows)
    ∙ ap (λ (s : State). Some (taking_up c.args.recovery.rows s)) (sym its.1)

pub returns-clause-others : goal.returns-clause-others
returns-clause-others g c = rw (← c.self.view_is) (others_same c.self.inside.realms c.reopen_in.new.realms c.reopen_in.ensures.heads c.args.realm c.reopen_in.ensures.connections c.reopen_in.ensures.others c.self.inside.turns.capacity)

pub returns-clause-room : goal.returns-clause-room
returns-clause-room g c = rw (← c.self.view_is) (λ here. ap (λ (rows : List Unfinished). (tables_in c.args.realm c.reopen_in.new.realms).transactions.free + length rows) (sym c.into_rows.ensures.same) ∙ c.reopen_in.ensures.room)

pub returns-clause-room_of_others : goal.returns-clause-room_of_others
returns-clause-room_of_others g c = rw (← c.self.view_is) (λ other differ. ap (λ (t : Tables). t.transactions.free) (c.reopen_in.ensures.others other differ))

pub returns-clause-named : goal.returns-clause-named
returns-clause-named g c = names_stay c.self.inside.realms c.reopen_in.new.realms c.reopen_in.ensures.heads c.args.realm c.reopen_in.ensures.connections c.reopen_in.ensures.others c.self.inside.turns.capacity c.self.invariant.1
