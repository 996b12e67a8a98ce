use Rattle.std.proofs.Common.{sym, ◌∙◌, ap, []}
use Rattle.tip_rows.specs.Reading.{subordinate_in, subordinates_onto}
use Rattle.tip_rows.proofs.PartsLemmas.{subordinate_taken, subordinate_refused, refused_by, pushed}
use Rattle.tip_rows.proofs.reading.subordinates_of.Goals as goal

pub returns-in_err-subordinate : goal.returns-in_err-subordinate
returns-in_err-subordinate g c =
    refused_by _ c.in_err-subordinate.field-0.0 (subordinate_in c.in-Some.word.now c.in_ok-next.next.now) (subordinates_onto [] c.args.words) c.from_residual-in_err-subordinate.ensures c.in_err-subordinate.ensures
    (λ none. sym c.loop-word.invariant ∙ subordinate_refused c.loop-word.items.items c.in-Some.word.now c.in_ok-next.next.now c.loop-word.words c.next.new.self c.required.new.words c.in-Some.ensures c.in_ok-next.ensures none)

pub loop-word-preserved : goal.loop-word-preserved
loop-word-preserved g c =
    let items = pushed _ _ _ _ _ c.push.ensures.items c.is_err.ensures.negation c.if-is_err.false in
    let taken = subordinate_taken c.loop-word.items.items c.in-Some.word.now c.in_ok-next.next.now c.in_ok-subordinate.subordinate c.loop-word.words c.next.new.self c.required.new.words c.in-Some.ensures c.in_ok-next.ensures c.in_ok-subordinate.ensures in
    ap (λ is. subordinates_onto is c.required.new.words) items ∙ sym taken ∙ c.loop-word.invariant
