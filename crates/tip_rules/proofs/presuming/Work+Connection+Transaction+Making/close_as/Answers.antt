use Rattle.std.proofs.Common.{◌≤◌, ap, subst, sym}
use Rattle.tip_machine.specs.declared.answer.Item.TheVariants.{Close}
use Rattle.tip_rules.proofs.Asking.{told_room}
use Rattle.tip_rules.proofs.Losing.{idle_gone, idle_told, room_gone_as}
use Rattle.tip_rules.specs.Works.{lines_as, work_of}
use Rattle.tip_rules.proofs.presuming.Work+Connection+Transaction+Making.close_as.Goals as goal

pub miss-requires-clause-lines : goal.miss-requires-clause-lines
miss-requires-clause-lines g c =
    let enough = told_room c.args.self.now c.tell.new.self c.args.number (lines_as c.args.role (work_of c.args.self.now).state) c.tell.ensures.does c.requires.lines in
    room_gone_as c.tell.new.self c.remove-role.new.self c.args.number c.remove-role.result c.remove-role.ensures.role c.remove-role.ensures.gone c.args.role
    (subst (λ n. n ≤ c.tell.new.self.making.free) (sym (ap (λ w. lines_as c.args.role w.state) c.tell.ensures.does.own)) enough)

pub miss-requires-clause-none : goal.miss-requires-clause-none
miss-requires-clause-none g c = idle_gone c.tell.new.self c.remove-role.new.self c.args.number c.remove-role.result c.remove-role.ensures.role c.remove-role.ensures.gone (idle_told c.args.self.now c.tell.new.self c.args.number Close c.requires.none c.tell.ensures.does)
