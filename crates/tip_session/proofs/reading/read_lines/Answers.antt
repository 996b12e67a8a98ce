-- Lines are read and handed in until no more are taken.
use Rattle.std.proofs.Common.{◌≤◌, Ok, Some, None, arith, rules, subst}
use Rattle.tip_session.specs.Desks.{lines_in}
use Rattle.tip_session.specs.Ends.{Hands}
use Rattle.tip_session.proofs.Ending.{handed_on, hands_front, hands_whole, last_hands_in, paused_last, paused_there}
use Rattle.tip_session.proofs.Listening.{ends_at_end, ends_at_fault, ends_at_limit, ends_at_line, ends_counting, ends_without_memory, line_on}
use Rattle.tip_session.proofs.reading.read_lines.Goals as goal

pub returns-in-Some-clause-lines : goal.returns-in-Some-clause-lines
returns-in-Some-clause-lines g c =
    let hands : Hands c.in-Line-Ok.heard (g.D.Desk.seen c.loop.desk) (g.D.Desk.seen c.hand_in.new.desk) (Some c.in-Some.end) = c.in-Some.ensures in
    ends_at_line _ c.in-Some.end c.args.turns c.loop.counter _ (lines_in (g.D.Desk.seen c.loop.desk).steps) (lines_in (g.D.Desk.seen c.hand_in.new.desk).steps) c.loop.intake c.next.new.self _ _ _ (Ok c.in-Line-Ok.heard) c.in-Line-Ok.heard c.loop.invariant.lines (rw c.in-Line-Ok.field-0-is at c.in-Line-Ok.ensures) (λ text is. search rules) (hands_front c.in-Line-Ok.heard (g.D.Desk.seen c.loop.desk) (g.D.Desk.seen c.hand_in.new.desk) c.in-Some.end hands) hands.early

pub returns-in-Some-clause-paused : goal.returns-in-Some-clause-paused
returns-in-Some-clause-paused g c = paused_there c.in-Line-Ok.heard (g.D.Desk.seen c.args.desk.now) (g.D.Desk.seen c.loop.desk) (g.D.Desk.seen c.hand_in.new.desk) c.in-Some.end c.loop.invariant.handed c.in-Some.ensures

pub returns-in-Line-Err-clause-lines : goal.returns-in-Line-Err-clause-lines
returns-in-Line-Err-clause-lines g c = ends_without_memory _ c.args.turns c.loop.counter _ _ c.loop.intake c.next.new.self _ _ _ c.in-Line-Err.field-0 c.loop.invariant.lines c.in-Line-Err.ensures

pub returns-in-Fault-clause-lines : goal.returns-in-Fault-clause-lines
returns-in-Fault-clause-lines g c = last_hands_in _ c.hand_in_last.result c.args.turns c.loop.counter _ (g.D.Desk.seen c.loop.desk) (g.D.Desk.seen c.hand_in_last.new.desk) c.loop.intake c.next.new.self _ _ _ c.in-Fault.field-0 c.hand_in_last.ensures c.loop.invariant.lines c.in-Fault.ensures

pub returns-in-Fault-clause-paused : goal.returns-in-Fault-clause-paused
returns-in-Fault-clause-paused g c = paused_last (g.D.Desk.seen c.args.desk.now) (g.D.Desk.seen c.loop.desk) (g.D.Desk.seen c.hand_in_last.new.desk) c.hand_in_last.result c.loop.invariant.handed c.hand_in_last.ensures

pub returns-in-End-AtEnd-clause-lines : goal.returns-in-End-AtEnd-clause-lines
returns-in-End-AtEnd-clause-lines g c = ends_at_end _ c.args.turns c.loop.counter _ _ c.loop.intake c.next.new.self _ _ _ c.loop.invariant.lines (rw c.in-End-AtEnd.field-0-is at c.in-End-AtEnd.ensures)

pub returns-in-End-ReadFault-clause-lines : goal.returns-in-End-ReadFault-clause-lines
returns-in-End-ReadFault-clause-lines g c = ends_at_fault _ c.args.turns c.loop.counter _ _ c.loop.intake c.next.new.self _ _ _ c.loop.invariant.lines (rw c.in-End-ReadFault.field-0-is at c.in-End-ReadFault.ensures)

pub returns-in-End-NoReadsLeft-clause-lines : goal.returns-in-End-NoReadsLeft-clause-lines
returns-in-End-NoReadsLeft-clause-lines g c = ends_at_limit _ c.args.turns c.loop.counter _ _ c.loop.intake c.next.new.self _ _ _ c.loop.invariant.lines (rw c.in-End-NoReadsLeft.field-0-is at c.in-End-NoReadsLeft.ensures)

pub loop-preserved : goal.loop-preserved
loop-preserved g c =
    let hands : Hands c.in-Line-Ok.heard (g.D.Desk.seen c.loop.desk) (g.D.Desk.seen c.hand_in.new.desk) None = subst (Hands c.in-Line-Ok.heard (g.D.Desk.seen c.loop.desk) (g.D.Desk.seen c.hand_in.new.desk)) c.in_default-hand_in.is c.hand_in.ensures in
    record {
      lines = line_on _ c.args.turns c.loop.counter _ (lines_in (g.D.Desk.seen c.loop.desk).steps) (lines_in (g.D.Desk.seen c.hand_in.new.desk).steps) c.loop.intake c.next.new.self _ _ _ (Ok c.in-Line-Ok.heard) c.in-Line-Ok.heard c.loop.invariant.lines (rw c.in-Line-Ok.field-0-is at c.in-Line-Ok.ensures) (λ text is. search rules) (hands_whole c.in-Line-Ok.heard (g.D.Desk.seen c.loop.desk) (g.D.Desk.seen c.hand_in.new.desk) hands);
      handed = handed_on c.in-Line-Ok.heard (g.D.Desk.seen c.args.desk.now) (g.D.Desk.seen c.loop.desk) (g.D.Desk.seen c.hand_in.new.desk) c.loop.invariant.handed hands;
    }

pub returns-clause-lines : goal.returns-clause-lines
returns-clause-lines g c =
    let over = c.loop-test.false in
    let fits = c.ranges.turns.fits in
    let within : c.args.turns ≤ c.loop.counter = omega (arith, over, fits) in
    ends_counting c.args.turns c.loop.counter c.loop.intake.reads_left _ _ c.loop.intake.lines _ _ c.loop.invariant.lines within
