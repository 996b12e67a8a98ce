use Rattle.std.proofs.Common.{◌≡◌, ◌++◌, ◌∷◌, ◌∙◌, [], List, Some, ap, arith, false, take, subst, sym}
use Rattle.std.specs.Prelude.{slice_get}
use Rattle.std.proofs.lemmas.Grind.{common_steps}
use Rattle.std.proofs.lemmas.Option.{slice_get-get_or}
use Rattle.tip_stored.specs.Loading.{AreTheirs, AreRead, IsReasonToReadAll, Never, Stays, is_bad_realm}
use Rattle.tip_stored.specs.declared.loading.LoadFault.{LoadFault}
use Rattle.tip_stored.specs.declared.realm_spec.RealmSpec.{RealmSpec}
use Rattle.tip_stored.proofs.Opening.{handed_on, of_one, theirs_more, next_spec, read_more, stands_still, then_stays}
use Rattle.tip_stored.proofs.loading.read_all.Goals as goal

pub loop-spec-preserved : goal.loop-spec-preserved
loop-spec-preserved g c =
    let next = next_spec c.args.specs.now c.loop-spec.spec-index c.spec-item.result (omega arith) c.spec-item.is in record {
      goes = then_stays g.S.RowLog.keeping Stays Never false c.args.store.now c.loop-spec.store c.read.new.store c.loop-spec.invariant.goes c.in_ok-read.ensures.goes;
      own = rw c.push_reserved.ensures.items (subst (λ (specs : List RealmSpec). AreTheirs specs (c.loop-spec.realms.items ++ c.in_ok-read.field-0 ∷ [])) next (theirs_more (take c.loop-spec.spec-index c.args.specs.now) c.loop-spec.realms.items c.spec-item.result c.in_ok-read.field-0 c.loop-spec.invariant.own c.in_ok-read.ensures.own));
      read = λ log stood is.
          rw c.push_reserved.ensures.items (subst (λ (specs : List RealmSpec). AreRead log specs (c.loop-spec.realms.items ++ c.in_ok-read.field-0 ∷ [])) next (read_more log (take c.loop-spec.spec-index c.args.specs.now) c.loop-spec.realms.items c.spec-item.result c.in_ok-read.field-0
          (c.loop-spec.invariant.read log stood (c.in_ok-read.ensures.goes.truth is))
          (c.in_ok-read.ensures.read log (stands_still g.S.RowLog.keeping Never false c.args.store.now c.loop-spec.store log c.loop-spec.invariant.goes stood) is)));
      settled = λ settled is. c.in_ok-read.ensures.settled is;
      count = grind (arith, common_steps);
      room = grind (arith, common_steps);
    }

pub returns-in_err-read-clause-reason : goal.returns-in_err-read-clause-reason
returns-in_err-read-clause-reason g c = λ log stood is.
    let here : slice_get c.args.specs.now c.loop-spec.spec-index ≡ Some c.spec-item.result = slice_get-get_or c.args.specs.now c.loop-spec.spec-index c.spec-item.result (omega arith) ∙ ap Some (sym c.spec-item.is) in
    handed_on (IsReasonToReadAll c.args.specs.now log) c.from_residual-in_err-read.result c.in_err-read.field-0.0 c.from_residual-in_err-read.ensures.1
    (of_one c.args.specs.now c.loop-spec.spec-index c.spec-item.result log c.in_err-read.field-0.0 here
    (c.in_err-read.ensures.reason log (stands_still g.S.RowLog.keeping Never false c.args.store.now c.loop-spec.store log c.loop-spec.invariant.goes stood) is))

pub returns-in_err-read-clause-fault : goal.returns-in_err-read-clause-fault
returns-in_err-read-clause-fault g c = handed_on (λ (fault : LoadFault). is_bad_realm fault ≡ false) c.from_residual-in_err-read.result c.in_err-read.field-0.0 c.from_residual-in_err-read.ensures.1 c.in_err-read.ensures.fault
