use Rattle.std.proofs.Common.{rules, ◌≡◌, ◌+◌, ◌-◌, [], take, drop, true, subst, ap, sym, ◌∙◌, arith, length}
use Rattle.std.proofs.lemmas.List.{length-drop}
use Rattle.std.specs.List.{list_all}
use Rattle.tip_line.specs.Octets.{is_space}
use Rattle.tip_line.specs.Reading.{Leaves}
use Rattle.tip_line.specs.Buffered.{pending}
use Rattle.tip_line.proofs.ReadingLemmas.{leaves_blank, leaves_after}
use Rattle.tip_line.proofs.buffer.Buffer.find.Goals as goal

pub passing-preserved : goal.passing-preserved
passing-preserved g c =
    let before = pending c.passing.self in
    let len = c.in-Ended.len in
    let start = c.stop.new.self.start in
    let same : pending c.stop.new.self ≡ before = cc (ap (λ (v : _). v.items) c.stop.ensures.octets) in
    let whole : start + len - start ≡ len = omega arith in
    let blank : list_all is_space (take len before) ≡ true = cc (whole, c.deref.ensures.value, c.is_blank.ensures) in
    let left : pending c.pass_line.new.self ≡ drop (len + 1) before = c.pass_line.ensures.passed ∙ ap (drop (len + 1)) same in
    record {
      reading = search rules;
      octets = search rules;
      fewer = omega (arith, ap length left, length-drop (len + 1) before);
      passed = leaves_after (pending c.args.self.now) before [] (pending c.pass_line.new.self) c.passing.invariant.passed (subst (λ o. Leaves before [] o) (sym left) (leaves_blank before len c.in-Ended.ensures.stop blank));
    }
