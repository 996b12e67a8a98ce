-- Pieces are read until something comes.
use Rattle.std.proofs.Common.{Some, ap, refl, ◌∙◌}
use Rattle.tip_line.proofs.GivenLines.{text_given}
use Rattle.tip_intake.proofs.Reading.{comes_end, comes_fault, comes_line, fault_begins, nothing_begins, nothing_read, read_on}
use Rattle.tip_intake.proofs.intake.Intake.next.Goals as goal

pub reading-init : goal.reading-init
reading-init g c = nothing_read c.args.self.now (g.R.Read.remaining c.args.reader.now)

pub returns-in-Some-Text : goal.returns-in-Some-Text
returns-in-Some-Text g c = comes_line _ c.args.self.now _ c.reading.self.lines c.in-Some-Text.text.now _ _ c.hear.result c.reading.invariant (c.in-Some-Text.text, c.hear.ensures, refl) (text_given _ c.next.follows.lender-at-none c.next.result c.in-Some-Text.text c.next.follows.holds-at-none (c.in-Some-Text.is ∙ ap Some c.in-Some-Text.field-0-is))

pub returns-in-Some-Bad : goal.returns-in-Some-Bad
returns-in-Some-Bad g c = comes_fault _ c.args.self.now _ c.reading.self.lines _ _ c.in-Some-Bad.cause c.reading.invariant (fault_begins _ c.next.follows.lender-at-none c.next.result c.in-Some-Bad.cause c.next.follows.holds-at-none (c.in-Some-Bad.is ∙ ap Some c.in-Some-Bad.field-0-is))

pub returns-in-Err : goal.returns-in-Err
returns-in-Err g c = comes_end _ c.args.self.now c.read_more.new.self c.reading.self.lines c.next.follows.lender-at-none c.reading.self.reads_left _ _ _ c.in-Err.end c.reading.invariant (nothing_begins _ c.next.follows.lender-at-none c.next.result c.next.follows.holds-at-none c.in-None.is).1 c.in-Err.ensures.adds c.in-Err.ensures.spends

pub reading-preserved : goal.reading-preserved
reading-preserved g c = read_on c.args.self.now c.reading.self.lines c.next.follows.lender-at-none c.read_more.new.self.lines c.reading.self.reads_left c.read_more.new.self.reads_left _ _ _ c.reading.invariant (nothing_begins _ c.next.follows.lender-at-none c.next.result c.next.follows.holds-at-none c.in-None.is).1.1 c.in_default.ensures.adds c.in_default.ensures.spends
