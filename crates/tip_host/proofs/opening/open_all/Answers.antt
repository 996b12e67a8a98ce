use Rattle.std.proofs.Common.{◌+◌, ◌∙◌, ap, map, rules, sym}
use Rattle.tip_honest.specs.Honesty.{are_boxed}
use Rattle.tip_kept.specs.Keeping.{rows_at}
use Rattle.tip_recovery.specs.Adopting.{are_adopted, loaded, stored_of}
use Rattle.tip_host.proofs.Beginning.{journals_more, retired_more, taken_more}
use Rattle.tip_host.proofs.opening.open_all.Goals as goal

pub loop-recovery-preserved : goal.loop-recovery-preserved
loop-recovery-preserved g c =
    let invariant = c.loop-recovery.invariant in
    let item = c.recovery-item.result in
    record {
      journals = journals_more c.loop-recovery.journals c.declare.new.self c.args.realms.now c.loop-recovery.recovery-index item c.epoch.result c.in_ok-opening.opening invariant.journals c.loop-recovery-test.true c.recovery-item.is c.epoch.ensures (c.in_ok-opening.ensures.same ∙ ap (map loaded) c.rows.ensures.same) c.in_ok-declare.ensures.ok;
      count = c.in_ok-declare-2.ensures.count ∙ ap (λ n. n + 1) invariant.count;
      retired = retired_more c.loop-recovery.retired.items c.push.new.self.items c.args.realms.now c.loop-recovery.recovery-index c.none.result invariant.retired c.loop-recovery-test.true c.none.ensures (search rules);
      taken = taken_more c.loop-recovery.rows c.declare-in-loop-recovery.new.self c.args.realms.now c.loop-recovery.recovery-index item invariant.taken invariant.count c.loop-recovery-test.true c.recovery-item.is
          (record {
            kept = ap (rows_at c.declare-in-loop-recovery.new.self) (sym invariant.count) ∙ c.in_ok-declare-2.ensures.own ∙ ap stored_of c.rows-in-loop-recovery-2.ensures.same;
            rising = c.rows.ensures.rising;
            boxed = λ all. ap are_boxed (sym (c.in_ok-opening.ensures.same ∙ ap (map loaded) c.rows.ensures.same)) ∙ c.in_ok-opening.ensures.boxed (ap are_adopted c.rows.ensures.same ∙ all);
          })
          c.declare-in-loop-recovery.ensures.others;
    }
