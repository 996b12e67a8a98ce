use Rattle.std.proofs.Common.{◌≡◌, ◌∙◌, Some, ap, rules, sym}
use Rattle.std.specs.Option.{option_map}
use Rattle.tip_core.specs.Hosted.{realm}
use Rattle.tip_kept.specs.Keeping.{rows_at}
use Rattle.tip_machine.specs.States.{State}
use Rattle.tip_host.proofs.Ending.{shown_so}
use Rattle.tip_host.specs.Hosts.{Host}
use Rattle.tip_host.proofs.host.Host.shows.Goals as goal

pub returns-clause-shown : goal.returns-clause-shown
returns-clause-shown g c = λ yes.
    let epochs : c.epoch.result ≡ Some c.epoch-2.result = search rules in
    shown_so g.S.RowLog.keeping c.args.self.now.stored.store c.doubts.new.self.stored.store (realm c.args.self.now.stored.core c.args.realm) (rows_at c.args.self.now.books.rows c.args.realm) c.in_ok-recovery.recovery
    (ap (λ (d : Host _). option_map (λ (state : State). state.head.epoch) (realm d.stored.core c.args.realm)) (sym c.doubts.ensures.rest) ∙ sym c.epoch.ensures ∙ epochs ∙ ap Some c.epoch-2.ensures)
    (ap (λ (d : Host _). rows_at d.books.rows c.args.realm) (sym (c.self.view_is ∙ c.doubts.ensures.rest)) ∙ c.are_stored.ensures.same.0 yes)
    c.in_ok-recovery.ensures.read
