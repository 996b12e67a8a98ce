use Rattle.std.proofs.Common.{◌≡◌, ◌+◌, [], ◌∷◌, ◌++◌, take, drop, true, false, sym, ap, ◌∙◌, subst}
use Rattle.std.specs.Prelude.{All, IsTrue}
use Rattle.std.proofs.lemmas.List.{take_all, take_more}
use Rattle.tip_journal.specs.Audit.{AreAudited}
use Rattle.tip_journal.specs.Sheets.{Marked}
use Rattle.tip_journal.proofs.Lists.{cut-at}
use Rattle.tip_journal.proofs.Walk.{Walked, audited-walked, walked-audited, walked-goes, walked-next, walked-start, walked-step}
use Rattle.tip_journal.proofs.auditing.audit.Goals as goal

pub loop-place-init : goal.loop-place-init
loop-place-init g c = subst (Walked c.args.journals.now [] 0 []) (sym c.in_ok-sheets.ensures.blank) (walked-start c.args.journals.now)

pub returns-then-not-mark-clause-mismatch : goal.returns-then-not-mark-clause-mismatch
returns-then-not-mark-clause-mismatch g c = λ _ audited.
    let passes = c.args.passes.now in
    let noted = c.noted-noted-items.result.now in
    let held = c.index-passes-place.result in
    let place = c.loop-place.place in
    let index = c.loop-noted.noted-index in
    let rest = cut-at passes place held c.loop-noted.invariant.there c.index-passes-place.is in
    let after = sym c.noted-noted-items.ensures ∙ cut-at noted index c.noted-item.result c.loop-noted-test.true c.noted-item.is in
    let can = walked-goes c.args.journals.now (take place passes) place (take index noted) c.noted-item.result c.loop-noted.sheets.items held (drop (index + 1) noted) (drop (place + 1) passes) c.loop-noted.invariant.walked after (subst (AreAudited c.args.journals.now) rest audited) in
    let both : true ≡ false = sym (c.mark.ensures.can.1 can) ∙ c.if-not-mark.true in
    cc

pub loop-noted-preserved : goal.loop-noted-preserved
loop-noted-preserved g c =
    let noted = c.noted-noted-items.result.now in
    let index = c.loop-noted.noted-index in
    let more = take_more noted index c.noted-item.result c.loop-noted-test.true ∙ ap (λ x. take index noted ++ x ∷ []) (sym c.noted-item.is) in
    record {
      there = c.loop-noted.invariant.there;
      walked =
          subst (λ xs. Walked c.args.journals.now (take c.loop-place.place c.args.passes.now) c.loop-place.place xs c.mark.new.sheets.items) (sym more)
          (walked-step c.args.journals.now (take c.loop-place.place c.args.passes.now) c.loop-place.place (take index noted) c.noted-item.result c.loop-noted.sheets.items c.mark.new.sheets.items c.in_ok-sheets.ensures.histories c.loop-noted.invariant.walked (c.mark.ensures.can.0 c.if-not-mark.false) (c.mark.ensures.new c.if-not-mark.false));
    }

pub loop-place-preserved : goal.loop-place-preserved
loop-place-preserved g c =
    let passes = c.args.passes.now in
    let noted = c.noted-noted-items.result.now in
    let held = c.index-passes-place.result in
    let place = c.loop-place.place in
    let whole = take_all c.loop-noted.noted-index noted c.loop-noted-test.false ∙ c.noted-noted-items.ensures in
    let more = take_more passes place held c.loop-noted.invariant.there ∙ ap (λ p. take place passes ++ p ∷ []) (sym c.index-passes-place.is) in
    subst (λ ps. Walked c.args.journals.now ps (place + 1) [] c.loop-noted.sheets.items) (sym more)
    (walked-next c.args.journals.now (take place passes) place held c.loop-noted.sheets.items
    (subst (λ xs. Walked c.args.journals.now (take place passes) place xs c.loop-noted.sheets.items) whole c.loop-noted.invariant.walked))

pub returns-then-not-are_full-clause-mismatch : goal.returns-then-not-are_full-clause-mismatch
returns-then-not-are_full-clause-mismatch g c = λ _ audited.
    let whole = take_all c.loop-place.place c.args.passes.now c.loop-place-test.false in
    let full = audited-walked c.args.journals.now c.args.passes.now c.loop-place.place c.loop-place.sheets.items (subst (λ ps. Walked c.args.journals.now ps c.loop-place.place [] c.loop-place.sheets.items) whole c.loop-place.invariant) audited in
    let yes : IsTrue c.are_full.result = c.are_full.ensures.1 (subst (All (All (λ (sheet : Marked). All (λ mark. mark ≡ true) sheet.marks))) (sym c.deref.ensures.value) full) in
    let both : true ≡ false = sym yes ∙ c.if-not-are_full.true in
    cc

pub returns-clause-audited : goal.returns-clause-audited
returns-clause-audited g c =
    let whole = take_all c.loop-place.place c.args.passes.now c.loop-place-test.false in
    walked-audited c.args.journals.now c.args.passes.now c.loop-place.place c.loop-place.sheets.items
    (subst (λ ps. Walked c.args.journals.now ps c.loop-place.place [] c.loop-place.sheets.items) whole c.loop-place.invariant)
    (subst (All (All (λ (sheet : Marked). All (λ mark. mark ≡ true) sheet.marks))) c.deref.ensures.value (c.are_full.ensures.0 c.if-not-are_full.false))
