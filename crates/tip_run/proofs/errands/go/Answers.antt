-- The party that was taken out comes back.
use Rattle.std.proofs.Common.{◌≡◌, ◌≢◌, ◌∙◌, ◌++◌, ◌∷◌, [], ℕ, List, Some, ap, refl, subst, sym}
use Rattle.std.specs.Prelude.{IfSome, option_map}
use Rattle.std.proofs.lemmas.Bool.{true≢false}
use Rattle.tip_branch.specs.Notes.{PartyNotes}
use Rattle.tip_host.specs.Hosts.{IsOut, Serves}
use Rattle.tip_host.specs.Works.{Takes}
use Rattle.tip_host.specs.declared.host.HostFault.{HostFault}
use Rattle.tip_host.specs.declared.host.HostFault.TheVariants as faults
use Rattle.tip_machine.specs.Returns.{event_of}
use Rattle.tip_machine.specs.Types.{Event}
use Rattle.tip_table.specs.Kept.{of}
use Rattle.tip_run.proofs.Taking.{found_alone}
use Rattle.tip_run.specs.Moves.{at_work}
use Rattle.tip_run.proofs.errands.go.Goals as goal

pub returns-in-Ok-clause-made : goal.returns-in-Ok-clause-made
returns-in-Ok-clause-made g c = λ earlier.
    let sent = c.in-Some.work.sent in
    let came = c.done.ensures.came in
    let host = c.take_work.new.self in
    let here : c.done.result.realm ≡ c.args.realm = c.done.ensures.realm ∙ subst (λ found. IfSome found (λ work. work.realm ≡ c.args.realm)) c.in-Some.is c.in_ok-work.ensures.realm in
    record {
      sent = sent;
      between = at_work host c.args.pass.now.noted earlier;
      taken = record {
        takes = subst (λ found. Takes c.args.realm (option_map (λ party. party.sent) found) c.args.host.now.books.work host.books.work c.args.host.now.books.out host.books.out) c.in-Some.is c.in_ok-work.ensures.takes;
        rest = ap (λ h. at_work h c.args.pass.now.noted earlier) c.in_ok-work.ensures.rest;
      };
      back = came.0;
      can = came.1;
      done = came.2;
      comes = record {
        reply = c.in-Ok.reply;
        serves =
            subst (λ (p : PartyNotes). Serves g.S.RowLog.keeping host c.come_back.new.self c.args.pass.now.noted c.come_back.new.pass.noted c.args.realm (event_of sent came.0) (Some p) c.in-Ok.reply) c.done.ensures.sent
            (subst (λ (e : Event). Serves g.S.RowLog.keeping host c.come_back.new.self c.args.pass.now.noted c.come_back.new.pass.noted c.args.realm e (Some c.done.result.sent) c.in-Ok.reply) came.3
            (subst (λ p. Serves g.S.RowLog.keeping host c.come_back.new.self c.args.pass.now.noted c.come_back.new.pass.noted p c.done.result.event (Some c.done.result.sent) c.in-Ok.reply) here c.in-Ok.ensures.serves));
        says = c.of.ensures;
        stopped = c.in-Ok.ensures.stopped;
        earlier = refl;
      };
    }

memory_alone : (fault : HostFault) → fault ≢ faults.Stopped → fault ≢ faults.PassMismatch → fault ≢ faults.NotOut → fault ≡ faults.Memory
memory_alone faults.Stopped stopped mismatch out = absurd (stopped refl)
memory_alone faults.PassMismatch stopped mismatch out = absurd (mismatch refl)
memory_alone faults.NotOut stopped mismatch out = absurd (out refl)
memory_alone faults.Memory stopped mismatch out = refl

pub wanting-requires : goal.wanting-requires
wanting-requires g c =
    let sent = c.in-Some.work.sent in
    let old = c.args.host.now in
    let host = c.take_work.new.self in
    let here : c.done.result.realm ≡ c.args.realm = c.done.ensures.realm ∙ subst (λ found. IfSome found (λ work. work.realm ≡ c.args.realm)) c.in-Some.is c.in_ok-work.ensures.realm in
    let takes = subst (λ found. Takes c.args.realm (option_map (λ party. party.sent) found) old.books.work host.books.work old.books.out host.books.out) c.in-Some.is c.in_ok-work.ensures.takes in
    let out : IsOut host c.args.realm sent = found_alone sent (of host.books.out c.args.realm) (takes.goes ∙ ap (λ (o : List PartyNotes). o ++ sent ∷ []) (c.requires.rest.taken c.args.realm)) in
    let is_out : IsOut host c.done.result.realm c.done.result.sent = subst (λ (p : ℕ). IsOut host p c.done.result.sent) (sym here) (subst (IsOut host c.args.realm) (sym c.done.ensures.sent) out) in
    memory_alone _
    (λ is. true≢false (sym (c.in-Err.ensures.stopping.0 is) ∙ ap (λ h. h.stored.is_stopped) c.in_ok-work.ensures.rest ∙ c.requires.rest.running))
    c.in-Err.ensures.matching
    (λ is. c.in-Err.ensures.not_out is is_out)
