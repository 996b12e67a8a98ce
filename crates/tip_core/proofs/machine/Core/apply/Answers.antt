use Rattle.std.proofs.Common.{◌∙◌, rules, subst, sym}
use Rattle.tip_core.proofs.Naming.{still_named}
use Rattle.tip_core.proofs.Stepping.{counted, hosted, needs, nowhere_steps, steps, there, turned_down}
use Rattle.tip_core.specs.Hosted.{IsRoomFor}
use Rattle.tip_rules.specs.Works.{state_in}
use Rattle.tip_core.proofs.machine.Core.apply.Goals as goal

pub returns-then-realm-len-clause-steps : goal.returns-then-realm-len-clause-steps
returns-then-realm-len-clause-steps g c = rw (← c.self.view_is) (nowhere_steps c.self.inside.realms c.self.inside.turns.capacity c.args.realm c.args.event c.args.outcome c.finish-answer.result (search rules) (turned_down c.self.inside.turns.turns c.args.event c.turn_down.new.self.answer c.finish-answer.result c.turn_down.ensures.answer c.finish-answer.ensures))

pub returns-then-realm-len-clause-named : goal.returns-then-realm-len-clause-named
returns-then-realm-len-clause-named g c = rw (← c.self.view_is) c.self.invariant.1

pub note_turns-requires-clause-room : goal.note_turns-requires-clause-room
note_turns-requires-clause-room g c =
    let room = subst (λ h. IsRoomFor h c.args.realm c.args.event c.args.room) (sym c.self.view_is) c.requires.room in
    room.turns (state_in c.args.realm c.self.inside.realms) (there c.self.inside.realms c.self.inside.turns.capacity c.args.realm (search rules))

pub step-made-requires-clause-needs : goal.step-made-requires-clause-needs
step-made-requires-clause-needs g c =
    let room = subst (λ h. IsRoomFor h c.args.realm c.args.event c.args.room) (sym c.self.view_is) c.requires.room in
    needs c.self.inside.realms c.args.realm c.args.outcome c.into_parts-making.result.1.endings c.into_parts-making.result.0 c.args.event c.args.room (room.suits (state_in c.args.realm c.self.inside.realms) (there c.self.inside.realms c.self.inside.turns.capacity c.args.realm (search rules))) c.into_parts-making.ensures.lines c.into_parts-making.ensures.transaction c.into_parts-making.ensures.peer c.into_parts-making.ensures.ours c.into_parts-making.ensures.word c.into_parts-making.ensures.endings

pub returns-clause-steps : goal.returns-clause-steps
returns-clause-steps g c = rw (← c.self.view_is) (steps c.self.inside.realms c.step-made.new.self c.args.realm c.args.event c.args.outcome c.into_parts-making.result.1.endings c.into_parts-making.result.0 c.step-made.result (search rules) c.step-made.ensures.does c.step-made.ensures.others c.self.invariant.0 c.self.inside.turns.capacity c.note_turns.new.turns.capacity c.note_turns.new.turns.turns c.finish-answer-2.result c.note_turns.ensures.turns c.finish-answer-2.ensures)

pub invariant_of-self : goal.invariant_of-self
invariant_of-self g c = (
  counted c.self.inside.realms c.step-made.new.self c.args.realm c.args.event c.args.outcome c.into_parts-making.result.1.endings c.into_parts-making.result.0 c.step-made.result (search rules) c.step-made.ensures.does c.step-made.ensures.others c.self.invariant.0,
  still_named (hosted c.self.inside.realms c.self.inside.turns.capacity) (hosted c.step-made.new.self c.note_turns.new.turns.capacity) c.args.realm c.args.event c.args.outcome c.finish-answer-2.result
      (steps c.self.inside.realms c.step-made.new.self c.args.realm c.args.event c.args.outcome c.into_parts-making.result.1.endings c.into_parts-making.result.0 c.step-made.result (search rules) c.step-made.ensures.does c.step-made.ensures.others c.self.invariant.0 c.self.inside.turns.capacity c.note_turns.new.turns.capacity c.note_turns.new.turns.turns c.finish-answer-2.result c.note_turns.ensures.turns c.finish-answer-2.ensures)
      c.self.invariant.1,
  c.step-made.ensures.count ∙ c.self.invariant.2 ∙ sym c.step-made.ensures.does.count,
)

pub returns-clause-named : goal.returns-clause-named
returns-clause-named g c = still_named (hosted c.self.inside.realms c.self.inside.turns.capacity) (hosted c.step-made.new.self c.note_turns.new.turns.capacity) c.args.realm c.args.event c.args.outcome c.finish-answer-2.result
    (steps c.self.inside.realms c.step-made.new.self c.args.realm c.args.event c.args.outcome c.into_parts-making.result.1.endings c.into_parts-making.result.0 c.step-made.result (search rules) c.step-made.ensures.does c.step-made.ensures.others c.self.invariant.0 c.self.inside.turns.capacity c.note_turns.new.turns.capacity c.note_turns.new.turns.turns c.finish-answer-2.result c.note_turns.ensures.turns c.finish-answer-2.ensures)
    c.self.invariant.1
