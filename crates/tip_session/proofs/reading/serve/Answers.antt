use Rattle.tip_session.proofs.Ending.{served_front, served_limit, served_whole}
use Rattle.tip_session.proofs.reading.serve.Goals as goal

pub returns-clause-front : goal.returns-clause-front
returns-clause-front g c = served_front c.read_lines-ended.result c.args.turns (g.D.Desk.seen c.args.desk.now) (g.D.Desk.seen c.read_lines-ended.new.desk) (g.D.Desk.seen c.finish.new.desk) (g.I.Read.remaining c.args.reader.now) (g.I.Read.remaining c.read_lines-ended.new.reader) c.finish.result c.read_lines-ended.ensures.lines c.finish.ensures

pub returns-clause-whole : goal.returns-clause-whole
returns-clause-whole g c = served_whole c.read_lines-ended.result c.args.turns (g.D.Desk.seen c.args.desk.now) (g.D.Desk.seen c.read_lines-ended.new.desk) (g.D.Desk.seen c.finish.new.desk) (g.I.Read.remaining c.args.reader.now) (g.I.Read.remaining c.read_lines-ended.new.reader) c.finish.result c.read_lines-ended.ensures.lines c.finish.ensures

pub returns-clause-limit : goal.returns-clause-limit
returns-clause-limit g c = served_limit c.read_lines-ended.result c.args.turns (g.D.Desk.seen c.args.desk.now) (g.D.Desk.seen c.read_lines-ended.new.desk) (g.D.Desk.seen c.finish.new.desk) (g.I.Read.remaining c.args.reader.now) (g.I.Read.remaining c.read_lines-ended.new.reader) c.finish.result c.read_lines-ended.ensures.lines c.finish.ensures

pub returns-clause-bound : goal.returns-clause-bound
returns-clause-bound g c = let hands = c.read_lines-ended.ensures.lines in (hands.read, hands.consumed, hands.bound)
