-- A realm that is there, by what was read of it.
use Rattle.std.proofs.Common.{◌≡◌, Some, subst, sym}
use Rattle.std.proofs.lemmas.Result.{IfOk-weaker}
use Rattle.tip_core.specs.Hosted.{realm as realm_at}
use Rattle.tip_stored.specs.Loading.{Never}
use Rattle.tip_stored.specs.Renewing.{IsCurrent}
use Rattle.tip_stored.proofs.Opening.{stands_still}
use Rattle.tip_stored.proofs.Renewals.{some_there, stays}
use Rattle.tip_stored.proofs.renewing.StoredCore+S+Core.renew.Goals as goal

pub renew_by-requires-clause-here : goal.renew_by-requires-clause-here
renew_by-requires-clause-here g c =
    let found = some_there (realm_at c.args.self.now.core c.args.realm) c.in-Ok.ensures.here in
    let epoch = c.in-Ok.ensures.epoch found.0 found.1 in
    (found.0, subst (λ core. realm_at core c.args.realm ≡ Some found.0) (sym c.prepare.ensures.core) found.1, c.in-Ok.ensures.named found.0 found.1, epoch.0, epoch.1)

pub returns-in-Ok-clause-renewed : goal.returns-in-Ok-clause-renewed
returns-in-Ok-clause-renewed g c = λ state there.
    let still = subst (λ core. realm_at core c.args.realm ≡ Some state) (sym c.prepare.ensures.core) there in
    let read = c.in-Ok.ensures.read state there in
    IfOk-weaker c.renew_by.result _ _ (λ left own. record {
      fresh = read.0;
      epoch = read.1;
      rises = (c.in-Ok.ensures.epoch state there).1;
      again = read.2;
      adopted = c.in-Ok.ensures.adopted;
      read = λ log stood true_now. read.3 log stood ((c.renew_by.ensures.store state still).truth true_now);
      state_is = own;
    }) (c.renew_by.ensures.renewed state still)

pub returns-in-Ok-clause-reason : goal.returns-in-Ok-clause-reason
returns-in-Ok-clause-reason g c = λ log state stood there truth.
    let still = subst (λ core. realm_at core c.args.realm ≡ Some state) (sym c.prepare.ensures.core) there in
    let between = (c.renew_by.ensures.store state still).truth truth in
    let now = stands_still g.S.RowLog.keeping Never _ c.args.self.now.store c.prepare.new.self.store log c.prepare.ensures.store stood in
    let read = c.in-Ok.ensures.read state there in
    let current : IsCurrent log state c.args.recovery = record {
      fresh = read.0;
      read = read.3 log stood between;
      its = read.4;
      epoch = read.1;
      rises = (c.in-Ok.ensures.epoch state there).1;
      again = read.2;
    } in
    stays log state c.args.recovery current c.in-Ok.ensures.adopted c.renew_by.result (c.renew_by.ensures.reason log state now still truth)
