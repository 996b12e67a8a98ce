use Rattle.std.proofs.Common.{◌+◌, List, ℕ, arith, take, true, false}
use Rattle.tip_rows.specs.Logs.{with_known}
use Rattle.tip_stored.specs.Loading.{AreKnown, IsKnown, names_of}
use Rattle.tip_stored.proofs.Opening.{knows, led_on, of_err}
use Rattle.tip_stored.proofs.loading.know_all.Goals as goal

pub loop-spec-preserved : goal.loop-spec-preserved
loop-spec-preserved g c =
    let names : List (List ℕ) = names_of c.args.specs.now in
    led_on g.S.RowLog.keeping (AreKnown (take c.loop-spec.spec-index names)) (AreKnown (take (c.loop-spec.spec-index + 1) names)) (IsKnown names) (IsKnown names) (with_known c.spec-item.result.name) (with_known c.spec-item.result.name) false
    c.args.store.now c.loop-spec.store c.know.new.self c.loop-spec.invariant c.in_ok-know.ensures.stands c.in_ok-know.ensures.counts c.in_ok-know.ensures.truth c.in_ok-know.ensures.stop c.in_ok-know.ensures.due
    (knows c.args.specs.now c.loop-spec.spec-index c.spec-item.result (omega arith) c.spec-item.is)
    (λ log now are. (c.loop-spec.spec-index + 1, knows c.args.specs.now c.loop-spec.spec-index c.spec-item.result (omega arith) c.spec-item.is log now are))
    (λ log now is. is)

pub returns-in_err-know-clause-err : goal.returns-in_err-know-clause-err
returns-in_err-know-clause-err g c =
    let names : List (List ℕ) = names_of c.args.specs.now in
    of_err c.from_residual.result (led_on g.S.RowLog.keeping (AreKnown (take c.loop-spec.spec-index names)) (IsKnown names) (IsKnown names) (IsKnown names) (λ log. log) (with_known c.spec-item.result.name) true
    c.args.store.now c.loop-spec.store c.know.new.self c.loop-spec.invariant c.in_err-know.ensures.stands c.in_err-know.ensures.counts c.in_err-know.ensures.truth c.in_err-know.ensures.stop c.in_err-know.ensures.due
    (λ log now are. (c.loop-spec.spec-index, are))
    (λ log now are. (c.loop-spec.spec-index + 1, knows c.args.specs.now c.loop-spec.spec-index c.spec-item.result (omega arith) c.spec-item.is log now are))
    (λ log now is. is))
