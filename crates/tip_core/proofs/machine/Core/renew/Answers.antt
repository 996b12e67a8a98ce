-- The realms where one has started again.
use Rattle.std.proofs.Common.{◌≡◌, ◌<◌, ◌∙◌, Some, ap, length, map, subst, sym}
use Rattle.tip_rows.specs.Logs.{last_epoch}
use Rattle.tip_recovery.specs.Adopting.{loaded}
use Rattle.tip_machine.specs.Recovery.{restarted}
use Rattle.tip_machine.specs.Moves.{risen}
use Rattle.tip_machine.specs.States.{State}
use Rattle.tip_core.specs.Hosted.{realm, tables_at}
use Rattle.tip_core.specs.Renewing.{HasRoom}
use Rattle.tip_core.specs.Recovering.{IsOf}
use Rattle.tip_core.proofs.Renewals.{counts_renewed, names_renewed, others_renewed, own_renewed, was_so}
use Rattle.tip_core.proofs.Stepping.{inside}
use Rattle.tip_core.proofs.machine.Core.renew.Goals as goal

pub renew-requires-clause-here : goal.renew-requires-clause-here
renew-requires-clause-here g c = (inside c.self.inside.realms c.self.inside.turns.capacity c.args.realm c.requires.here.0 (subst (λ h. realm h c.args.realm ≡ Some c.requires.here.0) (sym c.self.view_is) c.requires.here.1)).0

pub renew-requires-clause-tables : goal.renew-requires-clause-tables
renew-requires-clause-tables g c = subst (λ n. c.args.realm < n) (sym c.self.invariant.2) (inside c.self.inside.realms c.self.inside.turns.capacity c.args.realm c.requires.here.0 (subst (λ h. realm h c.args.realm ≡ Some c.requires.here.0) (sym c.self.view_is) c.requires.here.1)).0

pub renew-requires-clause-room : goal.renew-requires-clause-room
renew-requires-clause-room g c = subst (λ h. HasRoom (tables_at c.args.realm h) c.args.realm (length c.args.recovery.rows) c.args.room) (sym c.self.view_is) c.requires.room

pub renew-requires-clause-epoch : goal.renew-requires-clause-epoch
renew-requires-clause-epoch g c = subst (λ (s : State). s.head.epoch < last_epoch) (inside c.self.inside.realms c.self.inside.turns.capacity c.args.realm c.requires.here.0 (subst (λ h. realm h c.args.realm ≡ Some c.requires.here.0) (sym c.self.view_is) c.requires.here.1)).1 c.requires.here.2

pub invariant_of-self : goal.invariant_of-self
invariant_of-self g c =
    let old = c.self.inside.realms in
    let turns = c.self.inside.turns.capacity in
    let here = (inside old turns c.args.realm c.requires.here.0 (subst (λ h. realm h c.args.realm ≡ Some c.requires.here.0) (sym c.self.view_is) c.requires.here.1)).0 in (
      counts_renewed old c.renew.new.realms turns turns c.args.realm here c.renew.ensures.head c.renew.ensures.others c.renew.ensures.count c.renew.ensures.none c.self.invariant.0,
      names_renewed old c.renew.new.realms turns turns c.args.realm here c.renew.ensures.head c.renew.ensures.others c.renew.ensures.count c.self.invariant.1,
      c.renew.ensures.tables ∙ c.self.invariant.2 ∙ sym c.renew.ensures.count,
    )

pub returns-clause-own : goal.returns-clause-own
returns-clause-own g c =
    let old = c.self.inside.realms in
    let turns = c.self.inside.turns.capacity in
    let here = (inside old turns c.args.realm c.requires.here.0 (subst (λ h. realm h c.args.realm ≡ Some c.requires.here.0) (sym c.self.view_is) c.requires.here.1)).0 in
    λ state is is_of.
    let there = subst (λ h. realm h c.args.realm ≡ Some state) (sym c.self.view_is) is in
    let was = was_so old c.renew.new.realms turns turns c.args.realm here c.renew.ensures.head c.renew.ensures.others c.renew.ensures.count state there in
    let same = c.renew.ensures.own (subst (λ (s : State). IsOf c.args.recovery (risen s.head)) (sym was) is_of) ∙ ap (λ (s : State). restarted (risen s.head) (map loaded c.args.recovery.rows)) was in
    own_renewed old c.renew.new.realms turns turns c.args.realm here c.renew.ensures.head c.renew.ensures.others c.renew.ensures.count state (restarted (risen state.head) (map loaded c.args.recovery.rows)) there same

pub returns-clause-others : goal.returns-clause-others
returns-clause-others g c =
    let old = c.self.inside.realms in
    let turns = c.self.inside.turns.capacity in
    let here = (inside old turns c.args.realm c.requires.here.0 (subst (λ h. realm h c.args.realm ≡ Some c.requires.here.0) (sym c.self.view_is) c.requires.here.1)).0 in
    rw (← c.self.view_is) (others_renewed old c.renew.new.realms turns turns c.args.realm here c.renew.ensures.head c.renew.ensures.others c.renew.ensures.count)

pub returns-clause-connections : goal.returns-clause-connections
returns-clause-connections g c = λ state is.
    let there = subst (λ h. realm h c.args.realm ≡ Some state) (sym c.self.view_is) is in
    c.renew.ensures.connections ∙ ap (λ (s : State). s.connections) (sym (inside c.self.inside.realms c.self.inside.turns.capacity c.args.realm state there).1)

pub returns-clause-transactions : goal.returns-clause-transactions
returns-clause-transactions g c = λ state is.
    let there = subst (λ h. realm h c.args.realm ≡ Some state) (sym c.self.view_is) is in
    c.renew.ensures.transactions ∙ ap (λ (s : State). s.transactions) (sym (inside c.self.inside.realms c.self.inside.turns.capacity c.args.realm state there).1)

pub returns-clause-named : goal.returns-clause-named
returns-clause-named g c =
    let old = c.self.inside.realms in
    let turns = c.self.inside.turns.capacity in
    let here = (inside old turns c.args.realm c.requires.here.0 (subst (λ h. realm h c.args.realm ≡ Some c.requires.here.0) (sym c.self.view_is) c.requires.here.1)).0 in
    names_renewed old c.renew.new.realms turns turns c.args.realm here c.renew.ensures.head c.renew.ensures.others c.renew.ensures.count c.self.invariant.1
