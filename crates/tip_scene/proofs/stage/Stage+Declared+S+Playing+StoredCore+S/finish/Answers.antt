-- The realms could not start.
use Rattle.std.proofs.Common.{◌≡◌, ◌≤◌, length, subst, sym}
use Rattle.tip_actor.specs.declared.fault.ActFault.TheVariants.{Memory, Store}
use Rattle.tip_scene.specs.Blaming.{Accuses, IsBlamed, starting_from}
use Rattle.tip_scene.specs.Leaving.{HaltsAtEnd, IsLeft}
use Rattle.tip_scene.proofs.Halting.{halts_last}
use Rattle.tip_scene.proofs.Leaving.{left_first, left_then}
use Rattle.std.proofs.lemmas.Result.{err_from_is_err_and}
use Rattle.tip_scene.specs.Stages.{IsStage, store_of}
use Rattle.tip_scene.specs.Wanting.{wanted_at_start}
use Rattle.tip_scene.proofs.Blaming.{start_accused}
use Rattle.tip_scene.proofs.stage.Stage+Declared+S+Playing+StoredCore+S.finish.Goals as goal

pub returns-in_err-playing-in-Declaring-clause-blames : goal.returns-in_err-playing-in-Declaring-clause-blames
returns-in_err-playing-in-Declaring-clause-blames g c = λ basis stage is enough.
    let e = err_from_is_err_and c.from_residual.result c.from_residual.ensures.1 in
    let kept = g.S.RowLog.keeping in
    rw (e.1, e.2) (subst (λ s. Accuses kept Store (IsBlamed kept basis (store_of s)) c.in_err-playing-in-Declaring.field-0.0) (sym c.in-Declaring.is)
    (start_accused kept Store basis c.in-Declaring.declared stage (λ now. wanted_at_start basis now ≤ length c.args.pool.now.items) c.in_err-playing-in-Declaring.field-0.0 (subst (λ s. IsStage kept basis s stage) c.in-Declaring.is is) enough
    (λ declarations declared fit. c.in_err-playing-in-Declaring.ensures.blames basis declarations declared fit)))

pub returns-in_ok-playing-in-Declaring-clause-leaves : goal.returns-in_ok-playing-in-Declaring-clause-leaves
returns-in_ok-playing-in-Declaring-clause-leaves g c = λ basis stage is truth.
    let kept = g.S.RowLog.keeping in
    let store = subst kept.is_true c.shut.ensures truth in
    subst (λ s. IsLeft kept (starting_from basis stage) (store_of s) c.shut.result) (sym c.in-Declaring.is)
    (left_first kept basis c.in-Declaring.declared stage c.in_ok-playing-in-Declaring.playing c.shut.result c.shut.ensures (subst (λ s. IsStage kept basis s stage) c.in-Declaring.is is) (λ declarations declared. c.in_ok-playing-in-Declaring.ensures.scene basis declarations declared store) (c.in_ok-playing-in-Declaring.ensures.leaves store))

pub returns-in-Playing-clause-leaves : goal.returns-in-Playing-clause-leaves
returns-in-Playing-clause-leaves g c = λ basis stage is truth.
    let kept = g.S.RowLog.keeping in
    subst (λ s. IsLeft kept (starting_from basis stage) (store_of s) c.shut-in-Playing.result) (sym c.in-Playing.is)
    (left_then kept basis c.in-Playing.playing stage c.shut-in-Playing.result c.shut-in-Playing.ensures (subst (λ s. IsStage kept basis s stage) c.in-Playing.is is))

pub returns-in_err-playing-in-Declaring-clause-halts : goal.returns-in_err-playing-in-Declaring-clause-halts
returns-in_err-playing-in-Declaring-clause-halts g c = λ basis stage is.
    let kept = g.S.RowLog.keeping in
    let e = err_from_is_err_and c.from_residual.result c.from_residual.ensures.1 in
    let why = c.in_err-playing-in-Declaring.field-0.0 in
    rw (e.1, e.2) (subst (λ s. HaltsAtEnd kept stage (store_of s) why.1) (sym c.in-Declaring.is) (halts_last kept basis c.in-Declaring.declared stage why.1 (subst (λ s. IsStage kept basis s stage) c.in-Declaring.is is) c.in_err-playing-in-Declaring.ensures.halts))

-- Memory has ended, and nothing was refused
pub returns-in_err-playing-in-Declaring-clause-spares : goal.returns-in_err-playing-in-Declaring-clause-spares
returns-in_err-playing-in-Declaring-clause-spares g c =
    let kept = g.S.RowLog.keeping in
    let why = c.in_err-playing-in-Declaring.field-0.0 in
    let e = err_from_is_err_and c.from_residual.result c.from_residual.ensures.1 in
    rw (e.1, e.2) (subst (λ s. why.0 ≡ Memory → kept.faults why.1 ≡ kept.faults (store_of s)) (sym c.in-Declaring.is) c.in_err-playing-in-Declaring.ensures.spares)
