-- A line before and after the realms have started.
use Rattle.std.proofs.Common.{◌≡◌, ◌≤◌, Some, length, subst, string_bytes, sym}
use Rattle.tip_scene.specs.Blaming.{Accuses, Blames, IsBlamed, Spares}
use Rattle.tip_scene.specs.declared.fault.LineFault.TheVariants.{Memory, Store}
use Rattle.tip_script.specs.Moves.{move_by}
use Rattle.tip_scene.specs.Stages.{IsStage, store_of}
use Rattle.std.proofs.lemmas.Result.{err_from_is_err_and}
use Rattle.tip_scene.proofs.Blaming.{declared_at, of_declared, of_playing, play_accused}
use Rattle.std.specs.Prelude.{Err, IfErr, IfOk}
use Rattle.tip_scene.specs.Leaving.{HaltsAt, LeavesAtFault, LeavesOthers, scene_at}
use Rattle.tip_scene.proofs.Halting.{halts_at_work}
use Rattle.tip_scene.specs.declared.stage.Stage.TheVariants.{Playing as AtWork}
use Rattle.tip_scene.proofs.Leaving.{fault_at_work, of_rest}
use Rattle.tip_scene.proofs.Staging.{obeys_first, plays_on}
use Rattle.tip_scene.proofs.Wanting.{enough_at_work}
use Rattle.tip_scene.specs.Wanting.{wanted_by}
use Rattle.tip_scene.proofs.stage.Stage+Declared+S+Playing+StoredCore+S.obey.Goals as goal

pub returns-in-Declaring-clause-acts : goal.returns-in-Declaring-clause-acts
returns-in-Declaring-clause-acts g c = λ basis now is may boxes covers. obeys_first g.S.RowLog.keeping basis c.in-Declaring.declared (string_bytes c.args.printed.now) (string_bytes c.declare.new.printed) (move_by c.args.instruction) c.declare.result now (subst (λ s. IsStage g.S.RowLog.keeping basis s now) c.in-Declaring.is is) (λ declarations declared. c.declare.ensures.acts basis declarations declared may boxes covers)

pub returns-in_ok-playing-in-Playing-clause-acts : goal.returns-in_ok-playing-in-Playing-clause-acts
returns-in_ok-playing-in-Playing-clause-acts g c = λ basis now is may boxes covers. plays_on g.S.RowLog.keeping basis c.in-Playing.playing c.in_ok-playing-in-Playing.playing (string_bytes c.args.printed.now) (string_bytes c.act.new.printed) (move_by c.args.instruction) now (subst (λ s. IsStage g.S.RowLog.keeping basis s now) c.in-Playing.is is) (λ scene kept. c.in_ok-playing-in-Playing.ensures.moves scene kept may boxes)

pub returns-in_err-playing-in-Playing-clause-blames : goal.returns-in_err-playing-in-Playing-clause-blames
returns-in_err-playing-in-Playing-clause-blames g c = λ may basis stage is enough.
    let e = err_from_is_err_and c.from_residual.result c.from_residual.ensures.1 in
    let kept = g.S.RowLog.keeping in
    let boxes = length c.args.pool.now.items in
    let move = move_by c.args.instruction in
    rw (e.1, e.2) (subst (λ s. Accuses kept Store (IsBlamed kept basis (store_of s)) c.in_err-playing-in-Playing.field-0.0) (sym c.in-Playing.is)
    (play_accused kept Store basis c.in-Playing.playing stage (λ now. wanted_by basis now (Some move) ≤ boxes) c.in_err-playing-in-Playing.field-0.0 (subst (λ s. IsStage kept basis s stage) c.in-Playing.is is) enough
    (λ scene stands fit. c.in_err-playing-in-Playing.ensures.blames may scene stands (enough_at_work basis move scene boxes fit))))

pub returns-in-Declaring-clause-blames : goal.returns-in-Declaring-clause-blames
returns-in-Declaring-clause-blames g c = λ may basis stage is.
    let kept = g.S.RowLog.keeping in
    let boxes = length c.args.pool.now.items in
    let move = move_by c.args.instruction in
    let declared = c.in-Declaring.declared in
    subst (λ s. wanted_by basis stage (Some move) ≤ boxes → Blames kept Store (IsBlamed kept basis (store_of s)) c.declare.result) (sym c.in-Declaring.is)
    (declared_at kept basis declared stage (λ now. wanted_by basis now (Some move) ≤ boxes → Blames kept Store (IsBlamed kept basis declared.store) c.declare.result) (subst (λ s. IsStage kept basis s stage) c.in-Declaring.is is) (λ declarations stands. c.declare.ensures.blames may basis declarations stands))

pub returns-in-Declaring-clause-leaves : goal.returns-in-Declaring-clause-leaves
returns-in-Declaring-clause-leaves g c = λ basis stage is may boxes.
    subst (λ s. IfOk c.declare.result (λ now. g.S.RowLog.keeping.is_true (store_of now) → LeavesOthers g.S.RowLog.keeping s now)) (sym c.in-Declaring.is)
    (of_declared g.S.RowLog.keeping basis c.in-Declaring.declared stage (subst (λ s. IsStage g.S.RowLog.keeping basis s stage) c.in-Declaring.is is) (λ declarations declared. c.declare.ensures.leaves basis declarations declared may boxes))

pub returns-in_ok-playing-in-Playing-clause-leaves : goal.returns-in_ok-playing-in-Playing-clause-leaves
returns-in_ok-playing-in-Playing-clause-leaves g c = λ basis stage is may boxes truth.
    subst (λ s. LeavesOthers g.S.RowLog.keeping s (AtWork c.in_ok-playing-in-Playing.playing)) (sym c.in-Playing.is)
    (of_rest g.S.RowLog.keeping c.in-Playing.playing c.in_ok-playing-in-Playing.playing (of_playing g.S.RowLog.keeping basis c.in-Playing.playing stage (subst (λ s. IsStage g.S.RowLog.keeping basis s stage) c.in-Playing.is is) (λ scene kept. c.in_ok-playing-in-Playing.ensures.leaves scene kept may boxes truth)))

-- A line that may not stand here

pub returns-in-Declaring-clause-faults : goal.returns-in-Declaring-clause-faults
returns-in-Declaring-clause-faults g c = λ basis stage is.
    let kept = g.S.RowLog.keeping in
    let at = subst (λ s. IsStage kept basis s stage) c.in-Declaring.is is in
    subst (λ s. LeavesAtFault kept (scene_at basis stage (move_by c.args.instruction)) (store_of s) c.declare.result) (sym c.in-Declaring.is) (declared_at kept basis c.in-Declaring.declared stage (λ now. LeavesAtFault kept (scene_at basis now (move_by c.args.instruction)) c.in-Declaring.declared.store c.declare.result) at (λ declarations declared. c.declare.ensures.faults basis declarations declared))

pub returns-in_err-playing-in-Playing-clause-faults : goal.returns-in_err-playing-in-Playing-clause-faults
returns-in_err-playing-in-Playing-clause-faults g c = λ basis stage is.
    let kept = g.S.RowLog.keeping in
    let e = err_from_is_err_and c.from_residual.result c.from_residual.ensures.1 in
    rw (e.1, e.2) (subst (λ s. LeavesAtFault kept (scene_at basis stage (move_by c.args.instruction)) (store_of s) (Err c.in_err-playing-in-Playing.field-0.0)) (sym c.in-Playing.is) (fault_at_work kept basis c.in-Playing.playing stage (move_by c.args.instruction) c.in_err-playing-in-Playing.field-0.0 (subst (λ s. IsStage kept basis s stage) c.in-Playing.is is) c.in_err-playing-in-Playing.ensures.stays))

-- However far it has come

pub returns-in-Declaring-clause-halts : goal.returns-in-Declaring-clause-halts
returns-in-Declaring-clause-halts g c = λ basis stage is may boxes.
    let kept = g.S.RowLog.keeping in
    let move = move_by c.args.instruction in
    let declared = c.in-Declaring.declared in
    subst (λ s. IfErr c.declare.result (λ fault. kept.is_true fault.1 → HaltsAt kept basis stage move (store_of s) fault.1)) (sym c.in-Declaring.is)
    (declared_at kept basis declared stage (λ now. IfErr c.declare.result (λ fault. kept.is_true fault.1 → HaltsAt kept basis now move declared.store fault.1)) (subst (λ s. IsStage kept basis s stage) c.in-Declaring.is is) (λ declarations stands. c.declare.ensures.halts basis declarations stands may boxes))

pub returns-in_err-playing-in-Playing-clause-halts : goal.returns-in_err-playing-in-Playing-clause-halts
returns-in_err-playing-in-Playing-clause-halts g c = λ basis stage is may boxes.
    let kept = g.S.RowLog.keeping in
    let move = move_by c.args.instruction in
    let why = c.in_err-playing-in-Playing.field-0.0 in
    let e = err_from_is_err_and c.from_residual.result c.from_residual.ensures.1 in
    rw (e.1, e.2) (λ truth. subst (λ s. HaltsAt kept basis stage move (store_of s) why.1) (sym c.in-Playing.is) (halts_at_work kept basis c.in-Playing.playing stage move why.1 (subst (λ s. IsStage kept basis s stage) c.in-Playing.is is) (λ scene stands. c.in_err-playing-in-Playing.ensures.halts scene stands may boxes truth)))

-- Memory has ended, and nothing was refused

pub returns-in-Declaring-clause-spares : goal.returns-in-Declaring-clause-spares
returns-in-Declaring-clause-spares g c = λ may. subst (λ s. Spares g.S.RowLog.keeping Memory (store_of s) c.declare.result) (sym c.in-Declaring.is) (c.declare.ensures.spares may)

pub returns-in_err-playing-in-Playing-clause-spares : goal.returns-in_err-playing-in-Playing-clause-spares
returns-in_err-playing-in-Playing-clause-spares g c = λ may.
    let kept = g.S.RowLog.keeping in
    let why = c.in_err-playing-in-Playing.field-0.0 in
    let e = err_from_is_err_and c.from_residual.result c.from_residual.ensures.1 in
    rw (e.1, e.2) (subst (λ s. why.0 ≡ Memory → kept.faults why.1 ≡ kept.faults (store_of s)) (sym c.in-Playing.is) (c.in_err-playing-in-Playing.ensures.spares may))
