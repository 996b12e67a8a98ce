use Rattle.std.proofs.Common.{subst, sym}
use Rattle.std.specs.Prelude.{is_some}
use Rattle.tip_host.specs.Entries.{Enters, bare}
use Rattle.tip_host.proofs.serving.finish.Goals as goal

pub returns-clause-enters : goal.returns-clause-enters
returns-clause-enters g c = rw (← c.books.view_is) (λ event are.
    subst (Enters (is_some c.args.ready.noting) (bare c.books.inside.journals) (bare c.enter-entry.new.journals) c.args.pass.now.noted c.enter-entry.new.pass.noted c.args.realm (record { event = event; outcome = c.args.happened.outcome })) (sym c.of-reply.ensures.entry) (c.enter-entry.ensures event are))
