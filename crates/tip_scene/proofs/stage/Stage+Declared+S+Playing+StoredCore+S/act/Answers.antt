-- A line that says something.
use Rattle.std.proofs.Common.{◌≡◌, ◌∙◌, sym, ap, subst, string_bytes, option_map, false, true, if◌then◌else◌}
use Rattle.tip_script.specs.Moves.{move_by}
use Rattle.tip_scene.specs.Acts.{is_covered, may_say}
use Rattle.tip_scene.specs.Blaming.{scene_in}
use Rattle.tip_scene.specs.Leaving.{IsLeft, LeavesAtFault, scene_at, scene_behind}
use Rattle.tip_scene.specs.Stages.{ActsSo, store_of}
use Rattle.tip_scene.proofs.Halting.{all_said, halts_unsaid}
use Rattle.tip_script.specs.Scripts.{move_of}
use Rattle.tip_scene.proofs.Leaving.{stage_stays, stays_left}
use Rattle.tip_scene.proofs.Staging.{acts_as_said}
use Rattle.tip_scene.proofs.stage.Stage+Declared+S+Playing+StoredCore+S.act.Goals.{in_default-via-in-Some+else-may_say, in_default-via-in_default}
use Rattle.tip_scene.proofs.stage.Stage+Declared+S+Playing+StoredCore+S.act.Goals as goal

pub returns-in-Some-clause-acts : goal.returns-in-Some-clause-acts
returns-in-Some-clause-acts g c = λ basis now asks is boxes covers.
    let move = sym c.parse.ensures ∙ ap (option_map move_by) c.in-Some.is in
    let may : may_say g.R.Refuser.may (move_by c.in-Some.instruction) ≡ true = ap (λ m. may_say m (move_by c.in-Some.instruction)) (sym c.may_refuse.ensures) ∙ sym c.may_say.ensures ∙ c.if-may_say.true in
    let said = acts_as_said basis now c.args.line.now (move_by c.in-Some.instruction) c.if-is_empty.ensures move (ap (λ m. may_say m (move_by c.in-Some.instruction)) asks ∙ may) in
    subst (λ acted. ActsSo g.S.RowLog.keeping basis (string_bytes c.args.printed.now) (string_bytes c.obey.new.printed) acted c.obey.result) (sym said) (c.obey.ensures.acts basis now is may (λ other is_other. boxes other (move ∙ is_other)) (ap (is_covered basis) (sym move) ∙ covers))

pub returns-then-is_empty-clause-leaves : goal.returns-then-is_empty-clause-leaves
returns-then-is_empty-clause-leaves g c = λ basis now asks is boxes truth. stage_stays g.S.RowLog.keeping c.args.self

pub returns-in-Some-clause-leaves : goal.returns-in-Some-clause-leaves
returns-in-Some-clause-leaves g c = λ basis now asks is boxes.
    let move = sym c.parse.ensures ∙ ap (option_map move_by) c.in-Some.is in
    let may : may_say g.R.Refuser.may (move_by c.in-Some.instruction) ≡ true = ap (λ m. may_say m (move_by c.in-Some.instruction)) (sym c.may_refuse.ensures) ∙ sym c.may_say.ensures ∙ c.if-may_say.true in
    c.obey.ensures.leaves basis now is may (λ other is_other. boxes other (move ∙ is_other))

-- A line that may not stand here

pub returns-in-Some-clause-faults : goal.returns-in-Some-clause-faults
returns-in-Some-clause-faults g c = λ basis now asks is.
    let said = move_by c.in-Some.instruction in
    let move = sym c.parse.ensures ∙ ap (option_map move_by) c.in-Some.is in
    let may : may_say g.R.Refuser.may said ≡ true = ap (λ m. may_say m said) (sym c.may_refuse.ensures) ∙ sym c.may_say.ensures ∙ c.if-may_say.true in
    subst (λ scene. LeavesAtFault g.S.RowLog.keeping scene (store_of c.args.self) c.obey.result) (sym (ap (scene_behind basis now) move ∙ ap (λ b. if b then scene_at basis now said else scene_in now) (ap (λ m. may_say m said) asks ∙ may))) (c.obey.ensures.faults basis now is)

-- one that says nothing, or what may not be said
pub returns-in_default-clause-faults : goal.returns-in_default-clause-faults
returns-in_default-clause-faults g c = λ basis now asks is truth.
    let kept = g.S.RowLog.keeping in
    let left = stays_left kept basis c.args.self now c.shut.result c.shut.ensures is in
    elim c.in_default.branch [
      | in_default-via-in-Some+else-may_say w ↦
          let said = move_by w.in-Some.instruction in
          let move = sym c.parse.ensures ∙ ap (option_map move_by) w.in-Some.is in
          let not : may_say g.R.Refuser.may said ≡ false = ap (λ m. may_say m said) (sym w.may_refuse.ensures) ∙ sym w.may_say.ensures ∙ w.if-may_say.false in
          subst (λ scene. IsLeft kept scene (store_of c.args.self) c.shut.result) (sym (ap (scene_behind basis now) move ∙ ap (λ b. if b then scene_at basis now said else scene_in now) (ap (λ m. may_say m said) asks ∙ not))) left
      | in_default-via-in_default w ↦ subst (λ scene. IsLeft kept scene (store_of c.args.self) c.shut.result) (sym (ap (scene_behind basis now) (sym c.parse.ensures ∙ ap (option_map move_by) w.in_default.is))) left
    ]

-- However far it has come

pub returns-in-Some-clause-halts : goal.returns-in-Some-clause-halts
returns-in-Some-clause-halts g c = λ basis now asks is boxes.
    let said = move_by c.in-Some.instruction in
    let move = sym c.parse.ensures ∙ ap (option_map move_by) c.in-Some.is in
    let may : may_say g.R.Refuser.may said ≡ true = ap (λ m. may_say m said) (sym c.may_refuse.ensures) ∙ sym c.may_say.ensures ∙ c.if-may_say.true in
    all_said g.S.RowLog.keeping basis now (move_of c.args.line.now) said (store_of c.args.self) c.obey.result move (ap (λ m. may_say m said) asks ∙ may) (c.obey.ensures.halts basis now is may (λ other is_other. boxes other (move ∙ is_other)))

pub returns-in_default-clause-halts : goal.returns-in_default-clause-halts
returns-in_default-clause-halts g c = λ basis now asks is boxes truth. halts_unsaid g.S.RowLog.keeping basis now (move_of c.args.line.now) (store_of c.args.self) c.shut.result c.shut.ensures
