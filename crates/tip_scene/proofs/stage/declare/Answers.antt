-- A declaration, or the start of the realms.
use Rattle.std.proofs.Common.{◌≡◌, ◌∙◌, true, Err, None, Ok, Some, ap, length, refl, sym, string_bytes, subst}
use Rattle.std.proofs.lemmas.Result.{err_from_is_err_and}
use Rattle.tip_line.specs.Fields.{fields_of}
use Rattle.tip_scene.specs.Acts.{Declaring, acts, declared, is_covered, labelled, scene_of}
use Rattle.tip_scene.specs.Stages.{ActsSo}
use Rattle.tip_scene.specs.declared.stage.Stage.TheVariants as stage
use Rattle.tip_script.specs.Moves.{move_by}
use Rattle.tip_scene.specs.Leaving.{LeavesAtFault, LeavesOthers, scene_at}
use Rattle.tip_scene.proofs.Leaving.{declared_stays, fault_first, fault_stays, first_rest}
use Rattle.tip_scene.proofs.Blaming.{act_memory, at_fault, never_asked, play_accused_at, told_on}
use Rattle.tip_scene.specs.Blaming.{IsAtFault, IsBlamed}
use Rattle.tip_scene.specs.Boxes.{box_count}
use Rattle.tip_scene.specs.Faults.{of_act_fault}
use Rattle.tip_scene.specs.Wanting.{wanted_again}
use Rattle.tip_scene.proofs.Wanting.{enough_at_first, enough_first, enough_then}
use Rattle.tip_scene.proofs.Halting.{halts_first, halts_starting, halts_unbegun}
use Rattle.tip_scene.proofs.Staging.{declared_covered, declares_not, declares_so, fails_first, labelled_covered, plays_first, starting_declared, starts_declared}
use Rattle.tip_scene.proofs.stage.declare.Goals.{in-Realm, in-Labels}
use Rattle.tip_scene.proofs.stage.declare.Goals as goal

pub returns-in_err-playing-in_default : goal.returns-in_err-playing-in_default
returns-in_err-playing-in_default g c =
    let e = err_from_is_err_and c.from_residual.result c.from_residual.ensures.1 in
    rw (e.1, e.2) (record {
      sound = tt;
      truth = λ reliable. c.in-Ok.ensures.truth (c.in_err-playing-in_default.ensures.truth reliable);
      acts = λ basis declarations is may boxes covers. fails_first g.S.RowLog.keeping basis declarations (string_bytes c.args.printed.now) (string_bytes c.start.new.printed) (string_bytes c.act.new.printed) c.args.instruction c.in_default.not-Realm c.in_default.not-Labels c.in_err-playing-in_default.field-0.0
          (λ reliable. c.in-Ok.ensures.text basis declarations is (c.in_err-playing-in_default.ensures.truth reliable))
          (λ reliable. c.in_err-playing-in_default.ensures.moves (scene_of basis declarations) (c.in-Ok.ensures.scene basis declarations is (c.in_err-playing-in_default.ensures.truth reliable)) may boxes);
      leaves = λ basis declarations is may boxes. tt;
      halts = λ basis declarations is may boxes truth.
          let before = c.in_err-playing-in_default.ensures.truth truth in
          halts_first g.S.RowLog.keeping basis declarations (move_by c.args.instruction) c.args.declared.store c.in-Ok.playing.stored_core.store _ (starting_declared c.args.instruction c.in_default.not-Realm c.in_default.not-Labels) (c.in-Ok.ensures.leaves before)
          (c.in_err-playing-in_default.ensures.halts (scene_of basis declarations) (c.in-Ok.ensures.scene basis declarations is before) may boxes truth);
      counts = λ may. tt;
      spares = λ may short. c.in_err-playing-in_default.ensures.spares may short ∙ c.in-Ok.ensures.counts;
      faults = λ basis declarations is. fault_first g.S.RowLog.keeping basis declarations c.args.declared c.in-Ok.playing (move_by c.args.instruction) c.in_err-playing-in_default.field-0.0
          (starts_declared basis declarations c.args.instruction c.in_default.not-Realm c.in_default.not-Labels) c.in_err-playing-in_default.ensures.truth (c.in-Ok.ensures.scene basis declarations is) c.in-Ok.ensures.leaves c.in_err-playing-in_default.ensures.stays;
      blames = λ may basis declarations is enough.
          let scene = scene_of basis declarations in
          let fits = enough_at_first basis declarations (length c.args.pool.now.items) c.args.instruction c.in_default.not-Realm c.in_default.not-Labels enough in
          play_accused_at g.S.RowLog.keeping _ basis c.in-Ok.playing scene c.args.declared.store c.in_err-playing-in_default.field-0.0 c.in_err-playing-in_default.ensures.truth c.in-Ok.ensures.counts (c.in-Ok.ensures.scene basis declarations is)
          (λ truth stands. c.in_err-playing-in_default.ensures.blames may scene stands (enough_then (box_count None scene) (wanted_again (move_by c.args.instruction) scene) (length c.args.pool.now.items) (length c.start.new.pool.items) fits (c.in-Ok.ensures.left basis declarations is truth)));
    })

pub returns-in_default : goal.returns-in_default
returns-in_default g c = record {
  sound = c.in_ok-playing-in_default.ensures.running;
  truth = λ truth. c.in-Ok.ensures.truth (c.in_ok-playing-in_default.ensures.truth truth);
  acts = λ basis declarations is may boxes covers. plays_first g.S.RowLog.keeping basis declarations (string_bytes c.args.printed.now) (string_bytes c.start.new.printed) (string_bytes c.act.new.printed) c.args.instruction c.in_default.not-Realm c.in_default.not-Labels c.in_ok-playing-in_default.playing
      (λ truth. (let before = c.in_ok-playing-in_default.ensures.truth truth in (c.in-Ok.ensures.text basis declarations is before, c.in_ok-playing-in_default.ensures.moves (scene_of basis declarations) (c.in-Ok.ensures.scene basis declarations is before) may boxes truth)));
  leaves = λ basis declarations is may boxes truth. (let before = c.in_ok-playing-in_default.ensures.truth truth in first_rest g.S.RowLog.keeping c.args.declared c.in-Ok.playing c.in_ok-playing-in_default.playing (c.in-Ok.ensures.leaves before) (c.in_ok-playing-in_default.ensures.leaves (scene_of basis declarations) (c.in-Ok.ensures.scene basis declarations is before) may boxes truth));
  counts = λ may. c.in_ok-playing-in_default.ensures.counts may ∙ c.in-Ok.ensures.counts;
  spares = λ may. tt;
  faults = λ basis declarations is. tt;
  halts = λ basis declarations is may boxes. tt;
  blames = λ may basis declarations is enough. tt;
}

pub returns-in-Ok-noted-clause-acts : goal.returns-in-Ok-noted-clause-acts
returns-in-Ok-noted-clause-acts g c = λ basis declarations is may boxes covers.
    let printed = string_bytes c.args.printed.now in
    elim c.match-instruction.branch [
      | in-Realm w ↦ subst (λ d. ActsSo g.S.RowLog.keeping basis printed printed (acts basis (Declaring declarations) (move_by c.args.instruction)) (Ok (stage.Declaring d))) (sym w.declared-is)
          (subst (λ i. ActsSo g.S.RowLog.keeping basis printed printed (acts basis (Declaring declarations) (move_by i)) (Ok (stage.Declaring w.add-noted.new.self))) (sym w.in-Realm.is)
          (declares_so g.S.RowLog.keeping basis c.args.declared w.add-noted.new.self declarations printed (declared w.in-Realm.name.now w.in-Realm.address.now w.in-Realm.branches w.in-Realm.limits) w.add-noted.result c.in-Ok-noted.field-0 (declared_covered basis w.in-Realm.name.now w.in-Realm.address.now w.in-Realm.branches w.in-Realm.limits (subst (λ i. is_covered basis (Some (move_by i)) ≡ true) w.in-Realm.is covers)) is w.add-noted.ensures.store w.add-noted.ensures.declares (sym w.noted-is ∙ c.in-Ok-noted.is)))
      | in-Labels w ↦ subst (λ d. ActsSo g.S.RowLog.keeping basis printed printed (acts basis (Declaring declarations) (move_by c.args.instruction)) (Ok (stage.Declaring d))) (sym w.declared-is)
          (subst (λ i. ActsSo g.S.RowLog.keeping basis printed printed (acts basis (Declaring declarations) (move_by i)) (Ok (stage.Declaring w.label-noted.new.self))) (sym w.in-Labels.is)
          (declares_so g.S.RowLog.keeping basis c.args.declared w.label-noted.new.self declarations printed (labelled w.in-Labels.realm.now (fields_of 32 w.in-Labels.labels.now)) w.label-noted.result c.in-Ok-noted.field-0 (labelled_covered basis w.in-Labels.realm.now (fields_of 32 w.in-Labels.labels.now)) is w.label-noted.ensures.store w.label-noted.ensures.declares (sym w.noted-is ∙ c.in-Ok-noted.is)))
    ]

pub returns-in-Err-noted-clause-acts : goal.returns-in-Err-noted-clause-acts
returns-in-Err-noted-clause-acts g c = λ basis declarations is may boxes covers.
    let printed = string_bytes c.args.printed.now in
    elim c.match-instruction.branch [
      | in-Realm w ↦ subst (λ i. ActsSo g.S.RowLog.keeping basis printed printed (acts basis (Declaring declarations) (move_by i)) (Err (c.in-Err-noted.fault, c.match-instruction.declared.store))) (sym w.in-Realm.is)
          (declares_not g.S.RowLog.keeping basis c.args.declared w.add-noted.new.self declarations printed (declared w.in-Realm.name.now w.in-Realm.address.now w.in-Realm.branches w.in-Realm.limits) w.add-noted.result c.in-Err-noted.fault c.match-instruction.declared.store is w.add-noted.ensures.declares (sym w.noted-is ∙ c.in-Err-noted.is))
      | in-Labels w ↦ subst (λ i. ActsSo g.S.RowLog.keeping basis printed printed (acts basis (Declaring declarations) (move_by i)) (Err (c.in-Err-noted.fault, c.match-instruction.declared.store))) (sym w.in-Labels.is)
          (declares_not g.S.RowLog.keeping basis c.args.declared w.label-noted.new.self declarations printed (labelled w.in-Labels.realm.now (fields_of 32 w.in-Labels.labels.now)) w.label-noted.result c.in-Err-noted.fault c.match-instruction.declared.store is w.label-noted.ensures.declares (sym w.noted-is ∙ c.in-Err-noted.is))
    ]

pub returns-in-Err-clause-blames : goal.returns-in-Err-clause-blames
returns-in-Err-clause-blames g c = λ may basis declarations is enough.
    let kept = g.S.RowLog.keeping in
    let boxes = length c.args.pool.now.items in
    let scene = scene_of basis declarations in
    let fits = enough_at_first basis declarations boxes c.args.instruction c.in_default.not-Realm c.in_default.not-Labels enough in
    told_on kept (IsAtFault kept c.args.declared.store (Declaring declarations)) (IsBlamed kept basis c.args.declared.store) c.in-Err.fault c.in-Err.store c.from.result (c.from.ensures ∙ ap of_act_fault c.in-Err.fault-is)
    (λ new. at_fault kept basis (stage.Declaring c.args.declared) (Declaring declarations) c.args.declared.store new is refl)
    (c.in-Err.ensures.blames basis declarations is (enough_first (box_count None scene) (wanted_again (move_by c.args.instruction) scene) boxes fits))

pub returns-in-Err-noted-clause-blames : goal.returns-in-Err-noted-clause-blames
returns-in-Err-noted-clause-blames g c = λ may basis declarations is enough bad truth.
    elim c.match-instruction.branch [
      | in-Realm w ↦ absurd (never_asked (declared w.in-Realm.name.now w.in-Realm.address.now w.in-Realm.branches w.in-Realm.limits c.args.declared.declarations.items) w.add-noted.new.self.declarations.items w.add-noted.result c.in-Err-noted.fault w.add-noted.ensures.declares (sym w.noted-is ∙ c.in-Err-noted.is) bad)
      | in-Labels w ↦ absurd (never_asked (labelled w.in-Labels.realm.now (fields_of 32 w.in-Labels.labels.now) c.args.declared.declarations.items) w.label-noted.new.self.declarations.items w.label-noted.result c.in-Err-noted.fault w.label-noted.ensures.declares (sym w.noted-is ∙ c.in-Err-noted.is) bad)
    ]

pub returns-in-Ok-noted-clause-leaves : goal.returns-in-Ok-noted-clause-leaves
returns-in-Ok-noted-clause-leaves g c = λ basis declarations is may boxes truth.
    elim c.match-instruction.branch [
      | in-Realm w ↦ subst (λ d. LeavesOthers g.S.RowLog.keeping (stage.Declaring c.args.declared) (stage.Declaring d)) (sym w.declared-is) (declared_stays g.S.RowLog.keeping c.args.declared w.add-noted.new.self w.add-noted.ensures.store)
      | in-Labels w ↦ subst (λ d. LeavesOthers g.S.RowLog.keeping (stage.Declaring c.args.declared) (stage.Declaring d)) (sym w.declared-is) (declared_stays g.S.RowLog.keeping c.args.declared w.label-noted.new.self w.label-noted.ensures.store)
    ]

-- No realm has started by a declaration

pub returns-in-Err-noted-clause-faults : goal.returns-in-Err-noted-clause-faults
returns-in-Err-noted-clause-faults g c = λ basis declarations is.
    let kept = g.S.RowLog.keeping in
    let store = c.match-instruction.declared.store in
    elim c.match-instruction.branch [
      | in-Realm w ↦ subst (λ i. LeavesAtFault kept (scene_at basis (Declaring declarations) (move_by i)) c.args.declared.store (Err (c.in-Err-noted.fault, store))) (sym w.in-Realm.is)
          (fault_stays kept basis (stage.Declaring c.args.declared) (Declaring declarations) c.in-Err-noted.fault store (ap (λ d. d.store) w.declared-is ∙ w.add-noted.ensures.store) is)
      | in-Labels w ↦ subst (λ i. LeavesAtFault kept (scene_at basis (Declaring declarations) (move_by i)) c.args.declared.store (Err (c.in-Err-noted.fault, store))) (sym w.in-Labels.is)
          (fault_stays kept basis (stage.Declaring c.args.declared) (Declaring declarations) c.in-Err-noted.fault store (ap (λ d. d.store) w.declared-is ∙ w.label-noted.ensures.store) is)
    ]

pub returns-in-Err-clause-halts : goal.returns-in-Err-clause-halts
returns-in-Err-clause-halts g c = λ basis declarations is may boxes truth. halts_starting g.S.RowLog.keeping basis declarations (move_by c.args.instruction) c.args.declared.store c.in-Err.store (starting_declared c.args.instruction c.in_default.not-Realm c.in_default.not-Labels) c.in-Err.ensures.halts

pub returns-in-Err-noted-clause-halts : goal.returns-in-Err-noted-clause-halts
returns-in-Err-noted-clause-halts g c = λ basis declarations is may boxes truth.
    let store = c.match-instruction.declared.store in
    let same : store ≡ c.args.declared.store = elim c.match-instruction.branch [
      | in-Realm w ↦ ap (λ d. d.store) w.declared-is ∙ w.add-noted.ensures.store
      | in-Labels w ↦ ap (λ d. d.store) w.declared-is ∙ w.label-noted.ensures.store
    ] in
    halts_unbegun g.S.RowLog.keeping basis (Declaring declarations) (move_by c.args.instruction) c.args.declared.store store same

-- Memory has ended, and nothing was refused

pub returns-in-Err-clause-spares : goal.returns-in-Err-clause-spares
returns-in-Err-clause-spares g c = λ may short. c.in-Err.ensures.spares (act_memory c.in-Err.fault (sym (c.from.ensures ∙ ap of_act_fault c.in-Err.fault-is) ∙ short))

pub returns-in-Err-noted-clause-spares : goal.returns-in-Err-noted-clause-spares
returns-in-Err-noted-clause-spares g c = λ may short. ap g.S.RowLog.keeping.faults (elim c.match-instruction.branch [
  | in-Realm w ↦ ap (λ d. d.store) w.declared-is ∙ w.add-noted.ensures.store
  | in-Labels w ↦ ap (λ d. d.store) w.declared-is ∙ w.label-noted.ensures.store
])
