use Rattle.std.proofs.Common.{List, subst}
use Rattle.tip_stored.specs.Loading.{IsReason}
use Rattle.tip_stored.specs.declared.realm_spec.RealmSpec.{RealmSpec}
use Rattle.tip_stored.proofs.loading.load.Goals as goal

pub returns-in-Err-clause-reason : goal.returns-in-Err-clause-reason
returns-in-Err-clause-reason g c = λ log stood is. subst (λ (specs : List RealmSpec). IsReason specs log c.in-Err.fault) c.deref.ensures.value (c.in-Err.ensures.reason log stood is)
