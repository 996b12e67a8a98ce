use Rattle.std.proofs.Common.{sym, ◌∙◌, ap}
use Rattle.std.specs.Str.{bytes_eq}
use Rattle.tip_rows.specs.Reading.{branch_in, branches_onto, items_in}
use Rattle.tip_rows.proofs.PartsLemmas.{branch_taken, branch_refused, items_marked, items_failed, pushed}
use Rattle.tip_rows.proofs.reading.items_of.Goals as goal

pub returns-in_err-branch : goal.returns-in_err-branch
returns-in_err-branch g c =
    items_failed (λ items. items.items) c.from_residual.result c.in_err-branch.field-0.0 (branch_in c.args.version c.in-Some.part.now) (items_in c.args.version c.args.word.now) c.from_residual.ensures c.in_err-branch.ensures
    (λ none. items_marked c.args.version c.args.word.now (ap (bytes_eq c.args.word.now) (sym c.as_slice.ensures) ∙ sym c.eq.ensures ∙ c.if-eq.false) ∙ sym c.loop-part.invariant ∙ branch_refused c.args.version c.loop-part.items.items c.in-Some.part.now c.loop-part.parts c.next.new.self c.in-Some.ensures none)

pub loop-part-preserved : goal.loop-part-preserved
loop-part-preserved g c =
    let items = pushed _ _ _ _ _ c.push.ensures.items c.is_err.ensures.negation c.if-is_err.false in
    let taken = branch_taken c.args.version c.loop-part.items.items c.in-Some.part.now c.loop-part.parts c.next.new.self c.in_ok-branch.branch c.in-Some.ensures c.in_ok-branch.ensures in
    ap (λ is. branches_onto c.args.version is c.next.new.self) items ∙ sym taken ∙ c.loop-part.invariant
