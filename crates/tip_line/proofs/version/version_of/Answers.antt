use Rattle.std.proofs.Common.{◌≡◌, get_or, true, arith}
use Rattle.std.specs.Char.{is_ascii_digit}
use Rattle.tip_line.proofs.NumberLemmas.{small_power, read_more}
use Rattle.tip_line.proofs.version.version_of.Goals as goal

pub overflow_mul-version : goal.overflow_mul-version
overflow_mul-version c = omega (arith, small_power c.loop-digit.version c.loop-digit.digit-index c.loop-digit.invariant.small (omega arith))

pub overflow_add-version : goal.overflow_add-version
overflow_add-version c = omega (arith, small_power c.loop-digit.version c.loop-digit.digit-index c.loop-digit.invariant.small (omega arith))

pub loop-digit-preserved : goal.loop-digit-preserved
loop-digit-preserved c =
    let digit : is_ascii_digit (get_or c.args.word.now c.loop-digit.digit-index 0) ≡ true = cc in
    rw c.from.ensures (read_more c.args.word.now c.loop-digit.digit-index c.loop-digit.version c.loop-digit.invariant c.loop-digit-test.true digit)
