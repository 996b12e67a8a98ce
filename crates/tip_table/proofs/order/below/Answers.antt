use Rattle.std.proofs.Common.{◌≡◌, ◌<◌, ◌+◌, ◌-◌, ◌/◌, ◌∙◌, true, false, length, get_or, arith, sym}
use Rattle.std.specs.Prelude.{nat_lt}
use Rattle.std.proofs.lemmas.Bool.Decides.{nat_tests}
use Rattle.slab.specs.Slab.{get}
use Rattle.tip_table.specs.Entries.{count_below, placed_at, realm_in}
use Rattle.tip_table.proofs.OwnLemmas.{count_below-within, splits}
use Rattle.tip_table.proofs.SlotLemmas.{length-placed}
use Rattle.tip_table.proofs.order.below.Goals as goal

pub loop-low-init : goal.loop-low-init
loop-low-init g c =
    let within = count_below-within c.args.bound (placed_at c.args.slots.now c.args.keys.now) in
    let all = length-placed c.args.slots.now c.args.keys.now c.requires.there in
    record { low = omega arith; high = omega (arith, within, all); within = omega arith }

pub bounds-keys-middle : goal.bounds-keys-middle
bounds-keys-middle g c = let invariant = c.loop-low.invariant in omega (arith, invariant.within, c.loop-low-test.true)

pub loop-low-preserved-then-realm_at-bound : goal.loop-low-preserved-then-realm_at-bound
loop-low-preserved-then-realm_at-bound g c =
    let invariant = c.loop-low.invariant in
    let middle = c.loop-low.low + (c.loop-low.high - c.loop-low.low) / 2 in
    let within : middle < length c.args.keys.now = omega (arith, invariant.within, c.loop-low-test.true) in
    let split = splits c.args.slots.now c.args.keys.now c.args.bound middle 0 c.requires.there c.requires.by_realm within in
    let yes : nat_lt (realm_in (get c.args.slots.now (get_or c.args.keys.now middle 0))) c.args.bound ≡ true = grind (arith, nat_tests, c.realm_at.ensures, c.if-realm_at-bound.true) in
    let less : nat_lt middle (count_below c.args.bound (placed_at c.args.slots.now c.args.keys.now)) ≡ true = sym split ∙ yes in
    record { low = grind (arith, nat_tests, less); high = invariant.high; within = invariant.within }

pub loop-low-preserved : goal.loop-low-preserved
loop-low-preserved g c =
    let invariant = c.loop-low.invariant in
    let middle = c.loop-low.low + (c.loop-low.high - c.loop-low.low) / 2 in
    let within : middle < length c.args.keys.now = omega (arith, invariant.within, c.loop-low-test.true) in
    let split = splits c.args.slots.now c.args.keys.now c.args.bound middle 0 c.requires.there c.requires.by_realm within in
    let no : nat_lt (realm_in (get c.args.slots.now (get_or c.args.keys.now middle 0))) c.args.bound ≡ false = grind (arith, nat_tests, c.realm_at.ensures, c.if-realm_at-bound.false) in
    let more : nat_lt middle (count_below c.args.bound (placed_at c.args.slots.now c.args.keys.now)) ≡ false = sym split ∙ no in
    record { low = invariant.low; high = grind (arith, nat_tests, more); within = omega (arith, within) }

pub returns-clause-count : goal.returns-clause-count
returns-clause-count g c = let invariant = c.loop-low.invariant in omega (arith, invariant.low, invariant.high, c.loop-low-test.false)

pub returns-clause-within : goal.returns-clause-within
returns-clause-within g c = let invariant = c.loop-low.invariant in omega (arith, invariant.low, invariant.high, invariant.within)
