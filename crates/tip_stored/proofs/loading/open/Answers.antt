use Rattle.std.proofs.Common.{List, ℕ, ap, inl, inr, true, false}
use Rattle.tip_rows.specs.Logs.{with_all_raised}
use Rattle.tip_stored.specs.Loading.{AreKnown, IsKnown, IsOnTheWay, names_of}
use Rattle.tip_stored.proofs.Opening.{all_known, led_on, where_ok}
use Rattle.tip_stored.proofs.loading.open.Goals as goal

pub returns-in-Err-Refused-clause-err : goal.returns-in-Err-Refused-clause-err
returns-in-Err-Refused-clause-err g c =
    let names : List (List ℕ) = names_of c.args.specs.now in
    let counts = rw c.in-Err-Refused.field-0-is at c.in-Err-Refused.ensures.counts in
    led_on g.S.RowLog.keeping (AreKnown names) (IsOnTheWay names) (IsKnown names) (IsOnTheWay names) (λ log. log) with_all_raised true
    c.args.store.now c.know_all.new.store c.raise_epochs.new.self (where_ok c.know_all.result c.is_err.result c.is_err.ensures.value c.if-is_err.false c.know_all.ensures.ok) c.in-Err-Refused.ensures.stands counts c.in-Err-Refused.ensures.truth c.in-Err-Refused.ensures.stop (λ log stood realm. c.in-Err-Refused.ensures.due realm)
    (λ log now are. inl (all_known names log now are))
    (λ log now are. inr (ap with_all_raised are))
    (λ log now is. inl is)

pub returns-in-Err-EpochEnd-clause-err : goal.returns-in-Err-EpochEnd-clause-err
returns-in-Err-EpochEnd-clause-err g c =
    let names : List (List ℕ) = names_of c.args.specs.now in
    let counts = rw c.in-Err-EpochEnd.field-0-is at c.in-Err-EpochEnd.ensures.counts in
    led_on g.S.RowLog.keeping (AreKnown names) (IsOnTheWay names) (IsKnown names) (IsOnTheWay names) (λ log. log) with_all_raised false
    c.args.store.now c.know_all.new.store c.raise_epochs.new.self (where_ok c.know_all.result c.is_err.result c.is_err.ensures.value c.if-is_err.false c.know_all.ensures.ok) c.in-Err-EpochEnd.ensures.stands counts c.in-Err-EpochEnd.ensures.truth c.in-Err-EpochEnd.ensures.stop (λ log stood realm. c.in-Err-EpochEnd.ensures.due realm)
    (λ log now are. inl (all_known names log now are))
    (λ log now are. inr (ap with_all_raised are))
    (λ log now is. inl is)
