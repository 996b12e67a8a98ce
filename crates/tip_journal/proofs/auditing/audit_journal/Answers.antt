use Rattle.std.proofs.Common.{◌≡◌, ◌+◌, [], ◌∷◌, ◌++◌, take, drop, true, false, sym, ap, ◌∙◌, subst}
use Rattle.std.specs.Prelude.{IsTrue}
use Rattle.std.proofs.lemmas.List.{take_all, take_more}
use Rattle.tip_journal.specs.Audit.{IsAudited}
use Rattle.tip_journal.proofs.Lists.{cut-at}
use Rattle.tip_journal.proofs.Marks.{Stands, audited-full, full-audited, never-refused, stands-blank, stands-more, stands-next}
use Rattle.tip_journal.proofs.auditing.audit_journal.Goals as goal

pub loop-place-init : goal.loop-place-init
loop-place-init g c = let journal = c.args.journal.now in subst (Stands c.args.realm journal.epoch journal.entries [] 0 []) (sym c.in_ok-sheet.ensures) (stands-blank c.args.realm journal.epoch journal.entries)

pub returns-then-not-mark_own-clause-mismatch : goal.returns-then-not-mark_own-clause-mismatch
returns-then-not-mark_own-clause-mismatch g c = λ _ audited.
    let journal = c.args.journal.now in
    let passes = c.args.passes.now in
    let noted = c.noted-noted-items.result.now in
    let held = c.index-passes-place.result in
    let place = c.loop-place.place in
    let index = c.loop-noted.noted-index in
    let rest = cut-at passes place held c.loop-noted.invariant.there c.index-passes-place.is in
    let after = sym c.noted-noted-items.ensures ∙ cut-at noted index c.noted-item.result c.loop-noted-test.true c.noted-item.is in
    let yes = never-refused c.args.realm journal.epoch journal.entries (take place passes) place (take index noted) c.noted-item.result c.loop-noted.sheet c.mark_own.new.sheet c.mark_own.result c.loop-noted.invariant.stands c.mark_own.ensures.can c.mark_own.ensures.new c.mark_own.ensures.others
    held (drop (index + 1) noted) (drop (place + 1) passes) after (subst (IsAudited c.args.realm journal.epoch journal.entries) rest audited) in
    let both : true ≡ false = sym yes ∙ c.if-not-mark_own.true in
    cc

pub loop-noted-preserved : goal.loop-noted-preserved
loop-noted-preserved g c =
    let journal = c.args.journal.now in
    let passes = c.args.passes.now in
    let noted = c.noted-noted-items.result.now in
    let place = c.loop-place.place in
    let index = c.loop-noted.noted-index in
    let more = take_more noted index c.noted-item.result c.loop-noted-test.true ∙ ap (λ x. take index noted ++ x ∷ []) (sym c.noted-item.is) in
    record {
      there = c.loop-noted.invariant.there;
      stands =
          subst (λ xs. Stands c.args.realm journal.epoch journal.entries (take place passes) place xs c.mark_own.new.sheet) (sym more)
          (stands-more c.args.realm journal.epoch journal.entries (take place passes) place (take index noted) c.noted-item.result c.loop-noted.sheet c.mark_own.new.sheet c.mark_own.result c.loop-noted.invariant.stands c.mark_own.ensures.can c.mark_own.ensures.new c.mark_own.ensures.others c.if-not-mark_own.false);
    }

pub loop-place-preserved : goal.loop-place-preserved
loop-place-preserved g c =
    let journal = c.args.journal.now in
    let passes = c.args.passes.now in
    let noted = c.noted-noted-items.result.now in
    let held = c.index-passes-place.result in
    let place = c.loop-place.place in
    let whole = take_all c.loop-noted.noted-index noted c.loop-noted-test.false ∙ c.noted-noted-items.ensures in
    let more = take_more passes place held c.loop-noted.invariant.there ∙ ap (λ p. take place passes ++ p ∷ []) (sym c.index-passes-place.is) in
    subst (λ ps. Stands c.args.realm journal.epoch journal.entries ps (place + 1) [] c.loop-noted.sheet) (sym more)
    (stands-next c.args.realm journal.epoch journal.entries (take place passes) place held c.loop-noted.sheet
    (subst (λ xs. Stands c.args.realm journal.epoch journal.entries (take place passes) place xs c.loop-noted.sheet) whole c.loop-noted.invariant.stands))

pub returns-then-not-is_full-clause-mismatch : goal.returns-then-not-is_full-clause-mismatch
returns-then-not-is_full-clause-mismatch g c = λ _ audited.
    let journal = c.args.journal.now in
    let whole = take_all c.loop-place.place c.args.passes.now c.loop-place-test.false in
    let stands = subst (λ ps. Stands c.args.realm journal.epoch journal.entries ps c.loop-place.place [] c.loop-place.sheet) whole c.loop-place.invariant in
    let full = full-audited c.args.realm journal.epoch journal.entries c.args.passes.now c.loop-place.place c.loop-place.sheet stands audited in
    let yes : IsTrue c.is_full.result = c.is_full.ensures.1 full in
    let both : true ≡ false = sym yes ∙ c.if-not-is_full.true in
    cc

pub returns-clause-audited : goal.returns-clause-audited
returns-clause-audited g c =
    let journal = c.args.journal.now in
    let whole = take_all c.loop-place.place c.args.passes.now c.loop-place-test.false in
    let stands = subst (λ ps. Stands c.args.realm journal.epoch journal.entries ps c.loop-place.place [] c.loop-place.sheet) whole c.loop-place.invariant in
    audited-full c.args.realm journal.epoch journal.entries c.args.passes.now c.loop-place.place c.loop-place.sheet stands (c.is_full.ensures.0 c.if-not-is_full.false)
