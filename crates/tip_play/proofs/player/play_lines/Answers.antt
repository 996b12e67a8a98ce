-- Lines that are read and played, one after another.
use Rattle.std.proofs.Common.{◌≡◌, ◌+◌, ◌∙◌, ◌++◌, ◌∷◌, [], ap, arith, if◌then◌else◌, inl, length, map, refl, subst, sym, Err, Ok}
use Rattle.std.proofs.lemmas.Result.{err_from_is_err_and}
use Rattle.tip_scene.specs.Stages.{IsStage, store_of}
use Rattle.script_lines.specs.Lines.{Reads}
use Rattle.tip_actor.specs.Acting.{boxes_of}
use Rattle.tip_branch.specs.Lots.{AreIn, badges_of}
use Rattle.tip_branch.specs.declared.branch.Phase.TheVariants.{Active}
use Rattle.tip_scene.specs.Boxes.{AreWilling, willing_branch}
use Rattle.tip_scene.specs.Wanting.{wanted_at_start, wanted_by}
use Rattle.tip_script.specs.Scripts.{move_of, plans_of}
use Rattle.tip_play.specs.Transcripts.{IsFront, IsReadTo, Transcribes, in_memory}
use Rattle.tip_scene.proofs.Dealing.{join}
use Rattle.tip_play.proofs.Making.{all_alike, all_made, fresh_active, fresh_known, fresh_of, no_other, one_alike, one_longer, one_made, read_of, when_ok}
use Rattle.tip_play.proofs.Leaving.{at_end, fault_beyond, fault_between, fault_coming, fault_end, fault_first, fault_line}
use Rattle.tip_play.proofs.Reading.{Goes, HasEnded, HasRead, IsCoveredBy, LeavesFrom, a_line, closes_on, ended_at, goes_front, goes_on, gone, grows_last, leaves_end, leaves_more, leaves_none, leaves_still, line_covered, line_fails, no_line, no_number, not_come, reads_none, relying, stands_so, still_going, trusts_back}
use Rattle.tip_play.proofs.Blaming.{blames_back, blames_back_err, is_err_of, refused_here, spares_back}
use Rattle.tip_play.proofs.player.play_lines.Goals as goal

pub loop-number-init : goal.loop-number-init
loop-number-init g c = record {
  numbered = omega arith;
  sound = c.new-stage.ensures.sound;
  truth = λ is. subst g.S.RowLog.keeping.is_true c.new-stage.ensures.store is;
  counts = λ may. ap g.S.RowLog.keeping.faults c.new-stage.ensures.store;
  rest = λ basis may on covers is. leaves_none g.S.RowLog.keeping basis c.args.store c.new-stage.result c.new-stage.ensures.store;
  goes = λ basis may on covers is. reads_none g.S.RowLog.keeping basis c.new-stage.result (g.R.Read.remaining c.args.input.now) (g.W.Write.contents c.args.output.now) (c.new-stage.ensures.none basis on);
}

pub returns-then-is_beyond-clause-truth : goal.returns-then-is_beyond-clause-truth
returns-then-is_beyond-clause-truth g c = λ is. c.loop-number.invariant.truth (subst g.S.RowLog.keeping.is_true c.shut.ensures is)

pub returns-then-is_beyond-clause-transcribes : goal.returns-then-is_beyond-clause-transcribes
returns-then-is_beyond-clause-transcribes g c = λ basis may on.
    let whole = g.R.Read.remaining c.args.input.now in
    let left = g.R.Read.remaining c.loop-number.input in
    let old = g.W.Write.contents c.args.output.now in
    let new = g.W.Write.contents c.loop-number.output in
    relying g.S.RowLog.keeping basis whole (λ script. IsReadTo basis script left old new) (g.S.RowLog.keeping.is_true c.shut.result)
    (λ covers is. no_number g.S.RowLog.keeping basis c.loop-number.is_over c.loop-number.stage c.loop-number.number whole left old new (c.is_beyond.ensures.yes c.if-is_beyond.true) (c.loop-number.invariant.goes basis may on covers (subst g.S.RowLog.keeping.is_true c.shut.ensures is)))

pub returns-in-Err-clause-truth : goal.returns-in-Err-clause-truth
returns-in-Err-clause-truth g c = λ is. c.loop-number.invariant.truth (c.next.ensures.truth (subst g.S.RowLog.keeping.is_true c.shut-in-Err.ensures is))

pub returns-in-Err-clause-transcribes : goal.returns-in-Err-clause-transcribes
returns-in-Err-clause-transcribes g c = λ basis may on.
    let whole = g.R.Read.remaining c.args.input.now in
    let left' = g.R.Read.remaining c.next.new.input in
    let old = g.W.Write.contents c.args.output.now in
    let new = g.W.Write.contents c.loop-number.output in
    relying g.S.RowLog.keeping basis whole (λ script. Transcribes basis script left' old new (Err c.in-Err.fault)) (g.S.RowLog.keeping.is_true c.shut-in-Err.result)
    (λ covers is. not_come g.S.RowLog.keeping basis c.loop-number.is_over c.loop-number.stage c.loop-number.number whole (g.R.Read.remaining c.loop-number.input) left' old new c.next.new.line.octets.items c.in-Err.fault
    (c.loop-number.invariant.goes basis may on covers (c.next.ensures.truth (subst g.S.RowLog.keeping.is_true c.shut-in-Err.ensures is))) c.in-Err.ensures.coming)

pub loop-kind-init : goal.loop-kind-init
loop-kind-init g c = record { same = refl; made = ap (map (read_of (λ s. s.standing))) c.new-boxes.ensures.items }

pub loop-kind-preserved : goal.loop-kind-preserved
loop-kind-preserved g c =
    let old = c.loop-kind.boxes.items in
    let pushed = when_ok c.add_box.result (sym c.is_err.ensures.value ∙ c.if-is_err.false) c.add_box.ensures in
    record {
      same = refl;
      made = one_made c.deref-kind-items.result.now c.loop-kind.kind-index (map (read_of (λ s. s.standing)) old) (map (read_of (λ s. s.standing)) c.add_box.new.boxes.items) c.loop-kind-test.true c.loop-kind.invariant.made
          (one_alike _ (λ s. s.standing) no_other (λ box value. refl) old c.add_box.new.boxes.items (fresh_of c.plan_of-plan.result) pushed ∙ ap (λ p. map (read_of (λ s. s.standing)) old ++ fresh_of p ∷ []) c.plan_of-plan.ensures);
    }

pub loop-preserved : goal.loop-preserved
loop-preserved g c =
    let old = c.loop.pool.items in
    let pushed = when_ok c.add_box-in-loop.result (sym c.is_err-in-loop.ensures.value ∙ c.if-is_err-2.false) c.add_box-in-loop.ensures in
    let more = one_alike _ (λ s. s.standing) no_other (λ box value. refl) old c.add_box-in-loop.new.boxes.items willing_branch pushed in
    record {
      same = refl;
      counted = one_longer (read_of (λ s. s.standing)) old c.add_box-in-loop.new.boxes.items willing_branch more ∙ ap (λ n. n + 1) c.loop.invariant.counted;
      made = subst AreWilling (sym more) (join (map (read_of (λ s. s.standing)) old) willing_branch c.loop.invariant.made refl);
    }

pub returns-in_default-new-clause-transcribes : goal.returns-in_default-new-clause-transcribes
returns-in_default-new-clause-transcribes g c = λ basis may on.
    let whole = g.R.Read.remaining c.args.input.now in
    let old = g.W.Write.contents c.args.output.now in
    let new = g.W.Write.contents c.loop-number.output in
    relying g.S.RowLog.keeping basis whole (λ script. IsFront basis script old new) (g.S.RowLog.keeping.is_true c.shut-in_default-new.result)
    (λ covers is. goes_front g.S.RowLog.keeping basis c.loop-number.is_over c.loop-number.stage c.loop-number.number whole (g.R.Read.remaining c.loop-number.input) old new
    (c.loop-number.invariant.goes basis may on covers (c.next.ensures.truth (subst g.S.RowLog.keeping.is_true c.shut-in_default-new.ensures is))))

pub returns-then-is_err-clause-transcribes : goal.returns-then-is_err-clause-transcribes
returns-then-is_err-clause-transcribes g c = λ basis may on.
    let whole = g.R.Read.remaining c.args.input.now in
    let old = g.W.Write.contents c.args.output.now in
    let new = g.W.Write.contents c.loop-number.output in
    relying g.S.RowLog.keeping basis whole (λ script. IsFront basis script old new) (g.S.RowLog.keeping.is_true c.shut-then-is_err.result)
    (λ covers is. goes_front g.S.RowLog.keeping basis c.loop-number.is_over c.loop-number.stage c.loop-number.number whole (g.R.Read.remaining c.loop-number.input) old new
    (c.loop-number.invariant.goes basis may on covers (c.next.ensures.truth (subst g.S.RowLog.keeping.is_true c.shut-then-is_err.ensures is))))

pub returns-in_default-new-2-clause-transcribes : goal.returns-in_default-new-2-clause-transcribes
returns-in_default-new-2-clause-transcribes g c = λ basis may on.
    let whole = g.R.Read.remaining c.args.input.now in
    let old = g.W.Write.contents c.args.output.now in
    let new = g.W.Write.contents c.loop-number.output in
    relying g.S.RowLog.keeping basis whole (λ script. IsFront basis script old new) (g.S.RowLog.keeping.is_true c.shut-in_default-new-2.result)
    (λ covers is. goes_front g.S.RowLog.keeping basis c.loop-number.is_over c.loop-number.stage c.loop-number.number whole (g.R.Read.remaining c.loop-number.input) old new
    (c.loop-number.invariant.goes basis may on covers (c.next.ensures.truth (subst g.S.RowLog.keeping.is_true c.shut-in_default-new-2.ensures is))))

pub returns-then-is_err-2-clause-transcribes : goal.returns-then-is_err-2-clause-transcribes
returns-then-is_err-2-clause-transcribes g c = λ basis may on.
    let whole = g.R.Read.remaining c.args.input.now in
    let old = g.W.Write.contents c.args.output.now in
    let new = g.W.Write.contents c.loop-number.output in
    relying g.S.RowLog.keeping basis whole (λ script. IsFront basis script old new) (g.S.RowLog.keeping.is_true c.shut-then-is_err-2.result)
    (λ covers is. goes_front g.S.RowLog.keeping basis c.loop-number.is_over c.loop-number.stage c.loop-number.number whole (g.R.Read.remaining c.loop-number.input) old new
    (c.loop-number.invariant.goes basis may on covers (c.next.ensures.truth (subst g.S.RowLog.keeping.is_true c.shut-then-is_err-2.ensures is))))

pub finish-requires-clause-willing : goal.finish-requires-clause-willing
finish-requires-clause-willing g c = subst AreWilling (sym (all_alike _ (λ s. s.standing) no_other (λ box value. refl) c.loop.pool.items)) c.loop.invariant.made

pub act-requires-clause-willing : goal.act-requires-clause-willing
act-requires-clause-willing g c = subst AreWilling (sym (all_alike _ (λ s. s.standing) no_other (λ box value. refl) c.loop.pool.items)) c.loop.invariant.made

pub act-requires-clause-active : goal.act-requires-clause-active
act-requires-clause-active g c =
    let letters = c.deref-kind-items.result.now in
    subst (AreIn Active) (sym (all_alike _ (λ s. s.standing) no_other (λ box value. refl) c.loop-kind.boxes.items ∙ all_made letters c.loop-kind.kind-index _ c.loop-kind-test.false c.loop-kind.invariant.made)) (fresh_active (plans_of letters))

pub loop-init : goal.loop-init
loop-init g c = record { same = refl; counted = ap length c.new-pool.ensures.items; made = subst (λ l. AreWilling (map (read_of (λ s. s.standing)) l)) (sym c.new-pool.ensures.items) tt }

pub returns-then-is_over-clause-truth : goal.returns-then-is_over-clause-truth
returns-then-is_over-clause-truth g c =
    trusts_back g.S.RowLog.keeping in_memory c.args.store _ (λ store. store) c.finish.result c.finish.ensures.truth
    (λ is. c.loop-number.invariant.truth (c.next.ensures.truth (subst (λ s. g.S.RowLog.keeping.is_true (store_of s)) (c.loop.invariant.same ∙ c.loop-kind.invariant.same) is)))

pub returns-then-is_over-clause-transcribes : goal.returns-then-is_over-clause-transcribes
returns-then-is_over-clause-transcribes g c = λ basis may on.
    let whole = g.R.Read.remaining c.args.input.now in
    let left = g.R.Read.remaining c.loop-number.input in
    let left' = g.R.Read.remaining c.next.new.input in
    let old = g.W.Write.contents c.args.output.now in
    let mid = g.W.Write.contents c.loop-number.output in
    let new = g.W.Write.contents c.finish.new.output in
    let stage = c.loop-number.stage in
    let over = c.loop-number.is_over in
    let same = no_line g.S.RowLog.keeping basis over left left' c.loop-number.number c.next.new.line.octets.items c.in-Ok-next.coming c.if-is_over.true c.in-Ok-next.ensures.coming in
    closes_on g.S.RowLog.keeping basis stage whole left' old mid new c.finish.result (trusts_back g.S.RowLog.keeping basis (store_of stage) _ (λ store. store) c.finish.result c.finish.ensures.truth (λ is. c.next.ensures.truth (subst (λ s. g.S.RowLog.keeping.is_true (store_of s)) (c.loop.invariant.same ∙ c.loop-kind.invariant.same) is)))
    (λ covers is. subst (λ l. HasEnded g.S.RowLog.keeping basis stage whole l old mid) (sym same) (gone g.S.RowLog.keeping basis over stage c.loop-number.number whole left old mid c.if-is_over.true (c.loop-number.invariant.goes basis may on covers is)))
    (λ now is. c.finish.ensures.closes basis now (subst (λ s. IsStage g.S.RowLog.keeping basis s now) (sym (c.loop.invariant.same ∙ c.loop-kind.invariant.same)) (c.next.ensures.stands basis now is)))

pub returns-in_err-stage-clause-truth : goal.returns-in_err-stage-clause-truth
returns-in_err-stage-clause-truth g c =
    let e = err_from_is_err_and c.from_residual.result c.from_residual.ensures.1 in
    rw (e.1, e.2) (λ is. c.loop-number.invariant.truth (c.next.ensures.truth (subst (λ s. g.S.RowLog.keeping.is_true (store_of s)) (c.loop.invariant.same ∙ c.loop-kind.invariant.same) (c.in_err-stage.ensures.truth is))))

pub returns-in_err-stage-clause-transcribes : goal.returns-in_err-stage-clause-transcribes
returns-in_err-stage-clause-transcribes g c = λ basis may on.
    let e = err_from_is_err_and c.from_residual.result c.from_residual.ensures.1 in
    let whole = g.R.Read.remaining c.args.input.now in
    let left = g.R.Read.remaining c.loop-number.input in
    let left' = g.R.Read.remaining c.next.new.input in
    let old = g.W.Write.contents c.args.output.now in
    let mid = g.W.Write.contents c.loop-number.output in
    let new = g.W.Write.contents c.act.new.output in
    let stage = c.loop-number.stage in
    let text = c.as_slice-text.result.now in
    let why = c.in_err-stage.field-0.0 in
    let letters = c.deref-kind-items.result.now in
    let come = a_line g.S.RowLog.keeping basis c.loop-number.is_over left left' c.loop-number.number c.next.new.line.octets.items c.in-Ok-next.coming c.if-is_over.false c.in-Ok-next.ensures.coming in
    let reads : Reads left left' text (Ok c.in-Ok-next.coming.end) = subst (λ l. Reads left left' l (Ok c.in-Ok-next.coming.end)) (sym c.as_slice-text.ensures) come.0 in
    rw (e.1, e.2) (relying g.S.RowLog.keeping basis whole (λ script. Transcribes basis script left' old new (Err why.0)) (g.S.RowLog.keeping.is_true why.1)
    (λ covers is.
    let going = still_going g.S.RowLog.keeping basis c.loop-number.is_over stage c.loop-number.number whole left old mid c.if-is_over.false (c.loop-number.invariant.goes basis may on covers (c.next.ensures.truth (subst (λ s. g.S.RowLog.keeping.is_true (store_of s)) (c.loop.invariant.same ∙ c.loop-kind.invariant.same) (c.in_err-stage.ensures.truth is)))) in
    line_fails g.S.RowLog.keeping basis stage c.loop-number.number whole left left' old mid new text c.in-Ok-next.coming.end why.0
    going come.1 reads
    (λ now there. c.in_err-stage.ensures.acts basis now may (subst (λ s. IsStage g.S.RowLog.keeping basis s now) (sym (c.loop.invariant.same ∙ c.loop-kind.invariant.same)) (c.next.ensures.stands basis now there)) (λ move said. ap badges_of (all_alike _ (λ s. s.standing) no_other (λ box value. refl) c.loop-kind.boxes.items ∙ all_made letters c.loop-kind.kind-index _ c.loop-kind-test.false c.loop-kind.invariant.made) ∙ fresh_known (plans_of letters) ∙ ap (λ l. boxes_of (plans_of l)) c.deref-kind-items.ensures.value ∙ ap boxes_of (come.2 move (ap move_of (sym c.as_slice-text.ensures) ∙ said)))
    (line_covered g.S.RowLog.keeping basis stage c.loop-number.number whole left left' old mid text c.in-Ok-next.coming.end going covers come.1 reads) is)))

pub loop-number-preserved : goal.loop-number-preserved
loop-number-preserved g c =
    let beyond = c.is_beyond.ensures.no c.if-is_beyond.false c.if-is_over.false in
    let before = c.loop-number.invariant.numbered in
    let back = λ (is : g.S.RowLog.keeping.is_true (store_of c.in_ok-stage.stage)). c.next.ensures.truth (subst (λ s. g.S.RowLog.keeping.is_true (store_of s)) (c.loop.invariant.same ∙ c.loop-kind.invariant.same) (c.in_ok-stage.ensures.truth is)) in
    record {
      numbered = omega (arith, beyond, before);
      sound = c.in_ok-stage.ensures.sound;
      truth = λ is. c.loop-number.invariant.truth (back is);
      counts = λ may. c.in_ok-stage.ensures.counts may ∙ ap (λ s. g.S.RowLog.keeping.faults (store_of s)) (sym (c.loop.invariant.same ∙ c.loop-kind.invariant.same)) ∙ c.in-Ok-next.ensures.counts ∙ c.loop-number.invariant.counts may;
      rest = λ basis may on covers is.
          let kept = g.S.RowLog.keeping in
          let whole = g.R.Read.remaining c.args.input.now in
          let left = g.R.Read.remaining c.loop-number.input in
          let left' = g.R.Read.remaining c.next.new.input in
          let stage = c.loop-number.stage in
          let letters = c.deref-kind-items.result.now in
          let same = c.loop.invariant.same ∙ c.loop-kind.invariant.same in
          let come = a_line kept basis c.loop-number.is_over left left' c.loop-number.number c.next.new.line.octets.items c.in-Ok-next.coming c.if-is_over.false c.in-Ok-next.ensures.coming in
          let at = stands_so kept basis c.loop-number.is_over stage c.loop-number.number whole left (g.W.Write.contents c.args.output.now) (g.W.Write.contents c.loop-number.output) (c.loop-number.invariant.goes basis may on covers (back is)) in
          let before = leaves_still kept basis c.args.store stage c.next.new.stage c.next.ensures.names c.next.ensures.stood (c.loop-number.invariant.rest basis may on covers (back is)) in
          leaves_more kept basis c.args.store _ c.in_ok-stage.stage (subst (LeavesFrom kept basis c.args.store) (sym same) before)
          (c.in_ok-stage.ensures.leaves basis at.0 may (subst (λ s. IsStage kept basis s at.0) (sym same) (c.next.ensures.stands basis at.0 at.1)) (λ move said. ap badges_of (all_alike _ (λ s. s.standing) no_other (λ box value. refl) c.loop-kind.boxes.items ∙ all_made letters c.loop-kind.kind-index _ c.loop-kind-test.false c.loop-kind.invariant.made) ∙ fresh_known (plans_of letters) ∙ ap (λ l. boxes_of (plans_of l)) c.deref-kind-items.ensures.value ∙ ap boxes_of (come.2 move (ap move_of (sym c.as_slice-text.ensures) ∙ said))) is);
      goes = λ basis may on covers is.
          let whole = g.R.Read.remaining c.args.input.now in
          let left = g.R.Read.remaining c.loop-number.input in
          let left' = g.R.Read.remaining c.next.new.input in
          let old = g.W.Write.contents c.args.output.now in
          let mid = g.W.Write.contents c.loop-number.output in
          let new = g.W.Write.contents c.act.new.output in
          let stage = c.loop-number.stage in
          let text = c.as_slice-text.result.now in
          let letters = c.deref-kind-items.result.now in
          let come = a_line g.S.RowLog.keeping basis c.loop-number.is_over left left' c.loop-number.number c.next.new.line.octets.items c.in-Ok-next.coming c.if-is_over.false c.in-Ok-next.ensures.coming in
          let reads : Reads left left' text (Ok c.in-Ok-next.coming.end) = subst (λ l. Reads left left' l (Ok c.in-Ok-next.coming.end)) (sym c.as_slice-text.ensures) come.0 in
          let going = still_going g.S.RowLog.keeping basis c.loop-number.is_over stage c.loop-number.number whole left old mid c.if-is_over.false (c.loop-number.invariant.goes basis may on covers (back is)) in
          goes_on g.S.RowLog.keeping basis c.is_last-is_over.result stage c.in_ok-stage.stage c.loop-number.number whole left left' old mid new text c.in-Ok-next.coming.end
          going come.1 c.is_last-is_over.ensures.yes c.is_last-is_over.ensures.no reads
          (λ now there. c.in_ok-stage.ensures.acts basis now may (subst (λ s. IsStage g.S.RowLog.keeping basis s now) (sym (c.loop.invariant.same ∙ c.loop-kind.invariant.same)) (c.next.ensures.stands basis now there)) (λ move said. ap badges_of (all_alike _ (λ s. s.standing) no_other (λ box value. refl) c.loop-kind.boxes.items ∙ all_made letters c.loop-kind.kind-index _ c.loop-kind-test.false c.loop-kind.invariant.made) ∙ fresh_known (plans_of letters) ∙ ap (λ l. boxes_of (plans_of l)) c.deref-kind-items.ensures.value ∙ ap boxes_of (come.2 move (ap move_of (sym c.as_slice-text.ensures) ∙ said)))
          (line_covered g.S.RowLog.keeping basis stage c.loop-number.number whole left left' old mid text c.in-Ok-next.coming.end going covers come.1 reads) is);
    }

-- The store is blamed

pub returns-in-Err-clause-blames : goal.returns-in-Err-clause-blames
returns-in-Err-clause-blames g c = λ asks basis may on script whole covers is truth.
    let kept = g.S.RowLog.keeping in
    let left = subst kept.is_true c.shut-in-Err.ensures truth in
    let now = stands_so kept basis c.loop-number.is_over c.loop-number.stage c.loop-number.number (g.R.Read.remaining c.args.input.now) (g.R.Read.remaining c.loop-number.input) (g.W.Write.contents c.args.output.now) (g.W.Write.contents c.loop-number.output) (c.loop-number.invariant.goes basis may on (script, whole, covers) (c.next.ensures.truth left)) in
    inl (refused_here kept c.args.store (store_of c.loop-number.stage) (store_of c.next.new.stage) _ (c.loop-number.invariant.counts asks) c.shut-in-Err.ensures (c.next.ensures.blames basis now.0 now.1 (is_err_of c.next.result c.in-Err.fault _ c.in-Err.is is) left))

pub returns-then-is_over-clause-blames : goal.returns-then-is_over-clause-blames
returns-then-is_over-clause-blames g c = λ asks basis may on script whole covers.
    let kept = g.S.RowLog.keeping in
    let same = c.loop.invariant.same ∙ c.loop-kind.invariant.same in
    blames_back kept basis c.args.store _ (λ store. store) c.finish.result c.finish.ensures.truth (ap (λ s. kept.faults (store_of s)) (sym same) ∙ c.in-Ok-next.ensures.counts ∙ c.loop-number.invariant.counts asks) (λ left.
    let now = stands_so kept basis c.loop-number.is_over c.loop-number.stage c.loop-number.number (g.R.Read.remaining c.args.input.now) (g.R.Read.remaining c.loop-number.input) (g.W.Write.contents c.args.output.now) (g.W.Write.contents c.loop-number.output) (c.loop-number.invariant.goes basis may on (script, whole, covers) (c.next.ensures.truth (subst (λ s. kept.is_true (store_of s)) same left))) in
    let wanted : c.in-Ok-next.coming.wanted.willing ≡ wanted_at_start basis now.0 = c.in-Ok-next.ensures.wanted basis now.0 now.1 (subst (λ s. kept.is_true (store_of s)) same left) ∙ ap (λ b. if b then wanted_at_start basis now.0 else wanted_by basis now.0 (move_of c.next.new.line.octets.items)) c.if-is_over.true in
    let made = c.loop-test.false in
    let counted = c.loop.invariant.counted in
    c.finish.ensures.blames basis now.0 (subst (λ s. IsStage kept basis s now.0) (sym same) (c.next.ensures.stands basis now.0 now.1)) (omega (arith, wanted, made, counted)))

pub returns-in_err-stage-clause-blames : goal.returns-in_err-stage-clause-blames
returns-in_err-stage-clause-blames g c = λ asks basis may on script whole covers.
    let e = err_from_is_err_and c.from_residual.result c.from_residual.ensures.1 in
    let kept = g.S.RowLog.keeping in
    let same = c.loop.invariant.same ∙ c.loop-kind.invariant.same in
    rw (e.1, e.2) (blames_back_err kept basis c.args.store _ c.in_err-stage.field-0.0 c.in_err-stage.ensures.truth (ap (λ s. kept.faults (store_of s)) (sym same) ∙ c.in-Ok-next.ensures.counts ∙ c.loop-number.invariant.counts asks) (λ left.
    let now = stands_so kept basis c.loop-number.is_over c.loop-number.stage c.loop-number.number (g.R.Read.remaining c.args.input.now) (g.R.Read.remaining c.loop-number.input) (g.W.Write.contents c.args.output.now) (g.W.Write.contents c.loop-number.output) (c.loop-number.invariant.goes basis may on (script, whole, covers) (c.next.ensures.truth (subst (λ s. kept.is_true (store_of s)) same left))) in
    let wanted : c.in-Ok-next.coming.wanted.willing ≡ wanted_by basis now.0 (move_of c.as_slice-text.result.now) = c.in-Ok-next.ensures.wanted basis now.0 now.1 (subst (λ s. kept.is_true (store_of s)) same left) ∙ ap (λ b. if b then wanted_at_start basis now.0 else wanted_by basis now.0 (move_of c.next.new.line.octets.items)) c.if-is_over.false ∙ ap (λ l. wanted_by basis now.0 (move_of l)) (sym c.as_slice-text.ensures) in
    let made = c.loop-test.false in
    let counted = c.loop.invariant.counted in
    c.in_err-stage.ensures.blames asks basis now.0 (subst (λ s. IsStage kept basis s now.0) (sym same) (c.next.ensures.stands basis now.0 now.1)) (omega (arith, wanted, made, counted))))

-- What is left of the store

pub returns-then-is_over-clause-leaves : goal.returns-then-is_over-clause-leaves
returns-then-is_over-clause-leaves g c = λ basis may on script whole covers.
    let kept = g.S.RowLog.keeping in
    let same = c.loop.invariant.same ∙ c.loop-kind.invariant.same in
    let stage = c.loop-number.stage in
    leaves_end kept basis _ script _ c.args.store _ _ c.finish.result refl c.finish.ensures.truth
    (λ left.
    let at = c.next.ensures.truth (subst (λ s. kept.is_true (store_of s)) same left) in
    let from = subst (LeavesFrom kept basis c.args.store) (sym same) (leaves_still kept basis c.args.store stage c.next.new.stage c.next.ensures.names c.next.ensures.stood (c.loop-number.invariant.rest basis may on (script, whole, covers) at)) in
    let so = gone kept basis c.loop-number.is_over stage c.loop-number.number (g.R.Read.remaining c.args.input.now) (g.R.Read.remaining c.loop-number.input) (g.W.Write.contents c.args.output.now) (g.W.Write.contents c.loop-number.output) c.if-is_over.true (c.loop-number.invariant.goes basis may on (script, whole, covers) (c.next.ensures.truth (subst (λ s. kept.is_true (store_of s)) same left))) in
    (so.played.now, subst (λ s. IsStage kept basis s so.played.now) (sym same) (c.next.ensures.stands basis so.played.now so.played.stands), ended_at kept basis stage (g.R.Read.remaining c.args.input.now) (g.R.Read.remaining c.loop-number.input) (g.W.Write.contents c.args.output.now) (g.W.Write.contents c.loop-number.output) script whole so, (from.starts, from.others)))
    (grows_last kept basis _)
    (λ now is. at_end kept basis now _ c.finish.result (c.finish.ensures.leaves basis now is))

-- What is left of it where a line may not stand in its script

pub returns-in-Err-clause-faults : goal.returns-in-Err-clause-faults
returns-in-Err-clause-faults g c = λ basis may on script is covers.
    let kept = g.S.RowLog.keeping in
    let left = g.R.Read.remaining c.loop-number.input in
    let left' = g.R.Read.remaining c.next.new.input in
    let old = g.W.Write.contents c.args.output.now in
    let new = g.W.Write.contents c.loop-number.output in
    let stage = c.loop-number.stage in
    let known : IsCoveredBy basis (g.R.Read.remaining c.args.input.now) = (script, is, covers) in
    let back = λ (so : kept.is_true c.shut-in-Err.result). c.next.ensures.truth (subst kept.is_true c.shut-in-Err.ensures so) in
    fault_coming kept basis c.loop-number.is_over stage c.next.new.stage c.loop-number.number script left left' old new c.next.new.line.octets.items c.in-Err.fault c.args.store c.shut-in-Err.result c.shut-in-Err.ensures c.in-Err.ensures.coming
    (λ so. subst (λ w. Goes kept basis c.loop-number.is_over stage c.loop-number.number w left old new) is (c.loop-number.invariant.goes basis may on known (back so)))
    (λ so. leaves_still kept basis c.args.store stage c.next.new.stage c.next.ensures.names c.next.ensures.stood (c.loop-number.invariant.rest basis may on known (back so)))
    (c.next.ensures.stands basis)

pub returns-then-is_over-clause-faults : goal.returns-then-is_over-clause-faults
returns-then-is_over-clause-faults g c = λ basis may on script is covers.
    let kept = g.S.RowLog.keeping in
    let whole = g.R.Read.remaining c.args.input.now in
    let left = g.R.Read.remaining c.loop-number.input in
    let old = g.W.Write.contents c.args.output.now in
    let mid = g.W.Write.contents c.loop-number.output in
    let stage = c.loop-number.stage in
    let known : IsCoveredBy basis whole = (script, is, covers) in
    let same = c.loop.invariant.same ∙ c.loop-kind.invariant.same in
    fault_end kept basis script c.args.store _ mid (g.W.Write.contents c.finish.new.output) c.finish.result c.finish.ensures.truth
    (λ there.
    let at = c.next.ensures.truth (subst (λ s. kept.is_true (store_of s)) same there) in
    let from = subst (LeavesFrom kept basis c.args.store) (sym same) (leaves_still kept basis c.args.store stage c.next.new.stage c.next.ensures.names c.next.ensures.stood (c.loop-number.invariant.rest basis may on known at)) in
    let so = gone kept basis c.loop-number.is_over stage c.loop-number.number whole left old mid c.if-is_over.true (c.loop-number.invariant.goes basis may on known at) in
    (so.played.now, subst (λ s. IsStage kept basis s so.played.now) (sym same) (c.next.ensures.stands basis so.played.now so.played.stands), ended_at kept basis stage whole left old mid script is so, (from.starts, from.others)))
    (c.finish.ensures.closes basis)
    (c.finish.ensures.leaves basis)

pub returns-in_err-stage-clause-faults : goal.returns-in_err-stage-clause-faults
returns-in_err-stage-clause-faults g c = λ basis may on script is covers.
    let e = err_from_is_err_and c.from_residual.result c.from_residual.ensures.1 in
    let kept = g.S.RowLog.keeping in
    let whole = g.R.Read.remaining c.args.input.now in
    let left = g.R.Read.remaining c.loop-number.input in
    let left' = g.R.Read.remaining c.next.new.input in
    let old = g.W.Write.contents c.args.output.now in
    let mid = g.W.Write.contents c.loop-number.output in
    let new = g.W.Write.contents c.act.new.output in
    let stage = c.loop-number.stage in
    let number = c.loop-number.number in
    let text = c.as_slice-text.result.now in
    let why = c.in_err-stage.field-0.0 in
    let letters = c.deref-kind-items.result.now in
    let known : IsCoveredBy basis (g.R.Read.remaining c.args.input.now) = (script, is, covers) in
    let same = c.loop.invariant.same ∙ c.loop-kind.invariant.same in
    let come = a_line kept basis c.loop-number.is_over left left' number c.next.new.line.octets.items c.in-Ok-next.coming c.if-is_over.false c.in-Ok-next.ensures.coming in
    let reads : Reads left left' text (Ok c.in-Ok-next.coming.end) = subst (λ l. Reads left left' l (Ok c.in-Ok-next.coming.end)) (sym c.as_slice-text.ensures) come.0 in
    let back = λ (so : kept.is_true why.1). c.next.ensures.truth (subst (λ s. kept.is_true (store_of s)) same (c.in_err-stage.ensures.truth so)) in
    let going = λ (so : kept.is_true why.1). still_going kept basis c.loop-number.is_over stage number whole left old mid c.if-is_over.false (c.loop-number.invariant.goes basis may on known (back so)) in
    rw (e.1, e.2) (fault_line kept basis stage _ number script left left' old mid new text c.in-Ok-next.coming.end c.args.store why come.1 reads
    (λ so. subst (λ w. HasRead kept basis stage number w left old mid) is (going so))
    (λ so. subst (LeavesFrom kept basis c.args.store) (sym same) (leaves_still kept basis c.args.store stage c.next.new.stage c.next.ensures.names c.next.ensures.stood (c.loop-number.invariant.rest basis may on known (back so))))
    (λ now there. subst (λ s. IsStage kept basis s now) (sym same) (c.next.ensures.stands basis now there))
    (λ so now there. c.in_err-stage.ensures.acts basis now may there (λ move said. ap badges_of (all_alike _ (λ s. s.standing) no_other (λ box value. refl) c.loop-kind.boxes.items ∙ all_made letters c.loop-kind.kind-index _ c.loop-kind-test.false c.loop-kind.invariant.made) ∙ fresh_known (plans_of letters) ∙ ap (λ l. boxes_of (plans_of l)) c.deref-kind-items.ensures.value ∙ ap boxes_of (come.2 move (ap move_of (sym c.as_slice-text.ensures) ∙ said)))
    (line_covered kept basis stage number whole left left' old mid text c.in-Ok-next.coming.end (going so) known come.1 reads) so)
    (λ so now there. c.in_err-stage.ensures.faults basis now may there (λ move said. ap badges_of (all_alike _ (λ s. s.standing) no_other (λ box value. refl) c.loop-kind.boxes.items ∙ all_made letters c.loop-kind.kind-index _ c.loop-kind-test.false c.loop-kind.invariant.made) ∙ fresh_known (plans_of letters) ∙ ap (λ l. boxes_of (plans_of l)) c.deref-kind-items.ensures.value ∙ ap boxes_of (come.2 move (ap move_of (sym c.as_slice-text.ensures) ∙ said)))
    (line_covered kept basis stage number whole left left' old mid text c.in-Ok-next.coming.end (going so) known come.1 reads)))

-- there are no more numbers
pub returns-then-is_beyond-clause-faults : goal.returns-then-is_beyond-clause-faults
returns-then-is_beyond-clause-faults g c = λ basis may on script is covers.
    let kept = g.S.RowLog.keeping in
    let left = g.R.Read.remaining c.loop-number.input in
    let old = g.W.Write.contents c.args.output.now in
    let new = g.W.Write.contents c.loop-number.output in
    let stage = c.loop-number.stage in
    let known : IsCoveredBy basis (g.R.Read.remaining c.args.input.now) = (script, is, covers) in
    let back = λ (so : kept.is_true c.shut.result). subst kept.is_true c.shut.ensures so in
    fault_beyond kept basis c.loop-number.is_over stage c.loop-number.number script left old new c.args.store c.shut.result c.shut.ensures (c.is_beyond.ensures.yes c.if-is_beyond.true)
    (λ so. subst (λ w. Goes kept basis c.loop-number.is_over stage c.loop-number.number w left old new) is (c.loop-number.invariant.goes basis may on known (back so)))
    (λ so. c.loop-number.invariant.rest basis may on known (back so))

-- Memory ended before a line was begun

pub returns-in_default-clause-faults : goal.returns-in_default-clause-faults
returns-in_default-clause-faults g c = λ basis may on script is covers truth. fault_first g.S.RowLog.keeping basis script c.args.store

pub returns-in_default-new-clause-faults : goal.returns-in_default-new-clause-faults
returns-in_default-new-clause-faults g c = λ basis may on script is covers.
    let kept = g.S.RowLog.keeping in
    let left = g.R.Read.remaining c.loop-number.input in
    let old = g.W.Write.contents c.args.output.now in
    let new = g.W.Write.contents c.loop-number.output in
    let stage = c.loop-number.stage in
    let known : IsCoveredBy basis (g.R.Read.remaining c.args.input.now) = (script, is, covers) in
    let back = λ (so : kept.is_true c.shut-in_default-new.result). c.next.ensures.truth (subst kept.is_true c.shut-in_default-new.ensures so) in
    fault_between kept basis c.loop-number.is_over stage c.next.new.stage c.loop-number.number script left old new c.args.store c.shut-in_default-new.result c.shut-in_default-new.ensures
    (λ so. subst (λ w. Goes kept basis c.loop-number.is_over stage c.loop-number.number w left old new) is (c.loop-number.invariant.goes basis may on known (back so)))
    (λ so. leaves_still kept basis c.args.store stage c.next.new.stage c.next.ensures.names c.next.ensures.stood (c.loop-number.invariant.rest basis may on known (back so)))
    (c.next.ensures.stands basis)

pub returns-then-is_err-clause-faults : goal.returns-then-is_err-clause-faults
returns-then-is_err-clause-faults g c = λ basis may on script is covers.
    let kept = g.S.RowLog.keeping in
    let left = g.R.Read.remaining c.loop-number.input in
    let old = g.W.Write.contents c.args.output.now in
    let new = g.W.Write.contents c.loop-number.output in
    let stage = c.loop-number.stage in
    let known : IsCoveredBy basis (g.R.Read.remaining c.args.input.now) = (script, is, covers) in
    let back = λ (so : kept.is_true c.shut-then-is_err.result). c.next.ensures.truth (subst kept.is_true c.shut-then-is_err.ensures so) in
    fault_between kept basis c.loop-number.is_over stage c.next.new.stage c.loop-number.number script left old new c.args.store c.shut-then-is_err.result c.shut-then-is_err.ensures
    (λ so. subst (λ w. Goes kept basis c.loop-number.is_over stage c.loop-number.number w left old new) is (c.loop-number.invariant.goes basis may on known (back so)))
    (λ so. leaves_still kept basis c.args.store stage c.next.new.stage c.next.ensures.names c.next.ensures.stood (c.loop-number.invariant.rest basis may on known (back so)))
    (c.next.ensures.stands basis)

pub returns-in_default-new-2-clause-faults : goal.returns-in_default-new-2-clause-faults
returns-in_default-new-2-clause-faults g c = λ basis may on script is covers.
    let kept = g.S.RowLog.keeping in
    let left = g.R.Read.remaining c.loop-number.input in
    let old = g.W.Write.contents c.args.output.now in
    let new = g.W.Write.contents c.loop-number.output in
    let stage = c.loop-number.stage in
    let known : IsCoveredBy basis (g.R.Read.remaining c.args.input.now) = (script, is, covers) in
    let back = λ (so : kept.is_true c.shut-in_default-new-2.result). c.next.ensures.truth (subst kept.is_true c.shut-in_default-new-2.ensures so) in
    fault_between kept basis c.loop-number.is_over stage c.next.new.stage c.loop-number.number script left old new c.args.store c.shut-in_default-new-2.result c.shut-in_default-new-2.ensures
    (λ so. subst (λ w. Goes kept basis c.loop-number.is_over stage c.loop-number.number w left old new) is (c.loop-number.invariant.goes basis may on known (back so)))
    (λ so. leaves_still kept basis c.args.store stage c.next.new.stage c.next.ensures.names c.next.ensures.stood (c.loop-number.invariant.rest basis may on known (back so)))
    (c.next.ensures.stands basis)

pub returns-then-is_err-2-clause-faults : goal.returns-then-is_err-2-clause-faults
returns-then-is_err-2-clause-faults g c = λ basis may on script is covers.
    let kept = g.S.RowLog.keeping in
    let left = g.R.Read.remaining c.loop-number.input in
    let old = g.W.Write.contents c.args.output.now in
    let new = g.W.Write.contents c.loop-number.output in
    let stage = c.loop-number.stage in
    let known : IsCoveredBy basis (g.R.Read.remaining c.args.input.now) = (script, is, covers) in
    let back = λ (so : kept.is_true c.shut-then-is_err-2.result). c.next.ensures.truth (subst kept.is_true c.shut-then-is_err-2.ensures so) in
    fault_between kept basis c.loop-number.is_over stage c.next.new.stage c.loop-number.number script left old new c.args.store c.shut-then-is_err-2.result c.shut-then-is_err-2.ensures
    (λ so. subst (λ w. Goes kept basis c.loop-number.is_over stage c.loop-number.number w left old new) is (c.loop-number.invariant.goes basis may on known (back so)))
    (λ so. leaves_still kept basis c.args.store stage c.next.new.stage c.next.ensures.names c.next.ensures.stood (c.loop-number.invariant.rest basis may on known (back so)))
    (c.next.ensures.stands basis)

-- Memory has ended, and nothing was refused

pub returns-in-Err-clause-spares : goal.returns-in-Err-clause-spares
returns-in-Err-clause-spares g c = λ asks short. ap g.S.RowLog.keeping.faults c.shut-in-Err.ensures ∙ c.next.ensures.spared (is_err_of c.next.result c.in-Err.fault _ c.in-Err.is short) ∙ c.loop-number.invariant.counts asks

pub returns-in_default-new-clause-spares : goal.returns-in_default-new-clause-spares
returns-in_default-new-clause-spares g c = λ asks short. ap g.S.RowLog.keeping.faults c.shut-in_default-new.ensures ∙ c.in-Ok-next.ensures.counts ∙ c.loop-number.invariant.counts asks

pub returns-then-is_err-clause-spares : goal.returns-then-is_err-clause-spares
returns-then-is_err-clause-spares g c = λ asks short. ap g.S.RowLog.keeping.faults c.shut-then-is_err.ensures ∙ c.in-Ok-next.ensures.counts ∙ c.loop-number.invariant.counts asks

pub returns-in_default-new-2-clause-spares : goal.returns-in_default-new-2-clause-spares
returns-in_default-new-2-clause-spares g c = λ asks short. ap g.S.RowLog.keeping.faults c.shut-in_default-new-2.ensures ∙ c.in-Ok-next.ensures.counts ∙ c.loop-number.invariant.counts asks

pub returns-then-is_err-2-clause-spares : goal.returns-then-is_err-2-clause-spares
returns-then-is_err-2-clause-spares g c = λ asks short. ap g.S.RowLog.keeping.faults c.shut-then-is_err-2.ensures ∙ c.in-Ok-next.ensures.counts ∙ c.loop-number.invariant.counts asks

pub returns-then-is_over-clause-spares : goal.returns-then-is_over-clause-spares
returns-then-is_over-clause-spares g c = λ asks.
    let kept = g.S.RowLog.keeping in
    let same = c.loop.invariant.same ∙ c.loop-kind.invariant.same in
    spares_back kept c.args.store _ c.finish.result (ap (λ s. kept.faults (store_of s)) (sym same) ∙ c.in-Ok-next.ensures.counts ∙ c.loop-number.invariant.counts asks) c.finish.ensures.spares

pub returns-in_err-stage-clause-spares : goal.returns-in_err-stage-clause-spares
returns-in_err-stage-clause-spares g c = λ asks.
    let e = err_from_is_err_and c.from_residual.result c.from_residual.ensures.1 in
    let kept = g.S.RowLog.keeping in
    let same = c.loop.invariant.same ∙ c.loop-kind.invariant.same in
    rw (e.1, e.2) (λ short. c.in_err-stage.ensures.spares asks short ∙ ap (λ s. kept.faults (store_of s)) (sym same) ∙ c.in-Ok-next.ensures.counts ∙ c.loop-number.invariant.counts asks)
